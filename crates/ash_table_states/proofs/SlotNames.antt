-- Names and indexes of modules by their slots.
use Rattle.std.proofs.Common.{◌≡◌, ◌+◌, ◌<◌, ℕ, zero, suc, Bool, true, false, not, cond, List, [], ◌∷◌, length, nat_eq, nat_lt, if◌then◌else◌, unwrap_or, Some, None, refl, sym, ap, ◌∙◌, arith}
use Rattle.std.specs.List.{AllByRecursion, IsDistinct, position_or_len}
use Rattle.std.specs.Ordering.{is_eq}
use Rattle.std.specs.Str.{bytes_eq}
use Rattle.std.proofs.lemmas.Bool.Decides.{nat_tests}
use Rattle.std.proofs.lemmas.Map.Text.{is_eq-slice_cmp}
use Rattle.ash_requests.specs.States.{LoadedModule, has_name}
use Rattle.ash_requests.specs.Tasks.{is_module_name}
use Rattle.ash_soundness.specs.WellFormedStates.{ComeAfter, Ascend, HasValidName}
use Rattle.ash_soundness.proofs.Named.{name_yes}
use Rattle.ash_states.specs.Images.{name_at}
use Rattle.ash_states.specs.Indexes.{index_in}
use Rattle.ash_table_states.specs.TableStates.{names_in, places_from}
use Rattle.ash_table_states.specs.WrittenObjects.{index_at}

-- no name is empty
not_empty : (name : List ℕ) → is_module_name name ≡ true → bytes_eq name [] ≡ false
not_empty [] valid = absurd (cc)
not_empty (code ∷ more) valid = refl

-- the name of no module that comes later is that of one before it
earlier_name : (name : List ℕ) (ms : List LoadedModule) (slots : List ℕ) (slot : ℕ) → is_module_name name ≡ true → ComeAfter name ms
    → bytes_eq name (names_in ms slots slot) ≡ false
earlier_name name [] slots slot valid later = not_empty name valid
earlier_name name (m ∷ ms) [] slot valid later = not_empty name valid
earlier_name name (m ∷ ms) (other ∷ slots) slot valid later = by (nat_eq slot other) (earlier_name name ms slots slot valid later.1)
  where
    by : (b : Bool) → bytes_eq name (names_in ms slots slot) ≡ false → bytes_eq name (if b then m.name else names_in ms slots slot) ≡ false
    by true others = sym (is_eq-slice_cmp name m.name) ∙ ap is_eq later.0
    by false others = others

-- the place of a slot is that of its module's name
place_same : (ms : List LoadedModule) (slots : List ℕ) (slot : ℕ) → Ascend ms → AllByRecursion HasValidName ms → length slots ≡ length ms
    → position_or_len (nat_eq slot) slots ≡ position_or_len (has_name (names_in ms slots slot)) ms
place_same [] [] slot order valid many = refl
place_same [] (other ∷ slots) slot order valid many = absurd (omega (arith, many))
place_same (m ∷ ms) [] slot order valid many = absurd (omega (arith, many))
place_same (m ∷ ms) (other ∷ slots) slot order valid many = by (nat_eq slot other) (place_same ms slots slot order.1 valid.1 (omega (arith, many)))
  where
    by : (b : Bool) → position_or_len (nat_eq slot) slots ≡ position_or_len (has_name (names_in ms slots slot)) ms
        → cond (not b) (1 + position_or_len (nat_eq slot) slots) 0
        ≡ position_or_len (has_name (if b then m.name else names_in ms slots slot)) (m ∷ ms)
    by true later = ap (λ (b : Bool). cond (not b) (1 + position_or_len (has_name m.name) ms) 0) (sym (name_yes m.name m refl))
    by false later =
        ap (λ (n : ℕ). 1 + n) later
        ∙ ap (λ (b : Bool). cond (not b) (1 + position_or_len (has_name (names_in ms slots slot)) ms) 0) (sym (earlier_name m.name ms slots slot valid.0 order.0))

-- the index of a slot is that of its module's name
pub index_same : (ms : List LoadedModule) (slots : List ℕ) (slot : ℕ) → Ascend ms → AllByRecursion HasValidName ms → length slots ≡ length ms
    → index_at slots slot ≡ index_in ms (names_in ms slots slot)
index_same ms slots slot order valid many =
    let p : ℕ = position_or_len (nat_eq slot) slots in
    ap (λ (n : ℕ). unwrap_or (cond (nat_lt p n) (Some p) None) 0) many
    ∙ ap (λ (n : ℕ). unwrap_or (cond (nat_lt n (length ms)) (Some n) None) 0) (place_same ms slots slot order valid many)

-- slots that are indexes

same_yes : (n : ℕ) → nat_eq n n ≡ true
same_yes n = grind (arith, nat_tests)

more_no : (first i : ℕ) → nat_eq (first + suc i) first ≡ false
more_no first i = grind (arith, nat_tests)

names_from : (first : ℕ) (ms : List LoadedModule) (i : ℕ) → names_in ms (places_from first ms) (first + i) ≡ name_at ms i
names_from first [] i = refl
names_from first (m ∷ ms) zero =
    let at : first + 0 ≡ first = omega arith in
    ap (λ (b : Bool). if b then m.name else names_in ms (places_from (first + 1) ms) (first + 0)) (ap (λ (n : ℕ). nat_eq n first) at ∙ same_yes first)
names_from first (m ∷ ms) (suc i) =
    let at : first + suc i ≡ first + 1 + i = omega arith in
    ap (λ (b : Bool). if b then m.name else names_in ms (places_from (first + 1) ms) (first + suc i)) (more_no first i)
    ∙ ap (names_in ms (places_from (first + 1) ms)) at
    ∙ names_from (first + 1) ms i

pub names_of_places : (ms : List LoadedModule) (i : ℕ) → names_in ms (places_from 0 ms) i ≡ name_at ms i
names_of_places ms i = let at : i ≡ 0 + i = omega arith in ap (names_in ms (places_from 0 ms)) at ∙ names_from 0 ms i

later_differ : (n first : ℕ) (ms : List LoadedModule) → n < first → AllByRecursion (λ (other : ℕ). nat_eq n other ≡ false) (places_from first ms)
later_differ n first [] less = tt
later_differ n first (m ∷ ms) less = (grind (arith, nat_tests), later_differ n (first + 1) ms (omega (arith, less)))

pub places_differ : (first : ℕ) (ms : List LoadedModule) → IsDistinct nat_eq (places_from first ms)
unfolding IsDistinct
places_differ first [] = tt
places_differ first (m ∷ ms) = (later_differ first (first + 1) ms (omega arith), places_differ (first + 1) ms)
