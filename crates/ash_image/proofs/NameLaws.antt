-- A module's name is ASCII, and so it is text.
use Rattle.std.proofs.Common.{◌≡◌, ℕ, zero, suc, ◌<◌, ◌≤◌, ◌&&◌, Bool, true, false, List, [], ◌∷◌, length, get_or, refl}
use Rattle.std.proofs.Common.{arith}
use Rattle.std.specs.List.{list_all}
use Rattle.std.specs.Str.{IsUtf8}
use Rattle.std.proofs.lemmas.Bool.{leb-true}
use Rattle.std.proofs.lemmas.Bool.Decides.{nat_tests}
use Rattle.std.proofs.lemmas.Str.{IsUtf8-from_ascii}
use Rattle.ash_image.specs.Image.{is_name_start, is_name_part, is_name, is_module_name}

pub both : (a b : Bool) → (a && b) ≡ true → (a ≡ true) × (b ≡ true)
both true b e = (refl, e)
both false b e = absurd cc

part_ascii : (code : ℕ) → is_name_part code ≡ true → code < 128
part_ascii code e = grind (arith, nat_tests)

start_ascii : (code : ℕ) → is_name_start code ≡ true → code < 128
start_ascii code e = grind (arith, nat_tests)

parts_ascii : (codes : List ℕ) → list_all is_name_part codes ≡ true → (i : ℕ) → get_or codes i 0 < 128
parts_ascii [] e i = omega arith
parts_ascii (code ∷ more) e zero = part_ascii code (both (is_name_part code) (list_all is_name_part more) e).0
parts_ascii (code ∷ more) e (suc i) = parts_ascii more (both (is_name_part code) (list_all is_name_part more) e).1 i

name_ascii : (name : List ℕ) → is_name name ≡ true → (i : ℕ) → get_or name i 0 < 128
name_ascii [] e i = omega arith
name_ascii (code ∷ more) e zero = start_ascii code (both (is_name_start code) (list_all is_name_part more) e).0
name_ascii (code ∷ more) e (suc i) = parts_ascii more (both (is_name_start code) (list_all is_name_part more) e).1 i

pub name_utf8 : (name : List ℕ) → is_module_name name ≡ true → IsUtf8 name
name_utf8 name e = IsUtf8-from_ascii name (name_ascii name (both (is_name name) _ e).0)

pub name_short : (name : List ℕ) → is_module_name name ≡ true → length name ≤ 64
name_short name e = leb-true _ _ (both (is_name name) _ e).1
