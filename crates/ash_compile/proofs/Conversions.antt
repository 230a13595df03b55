-- An integer of a type converts to itself.
use Rattle.std.proofs.Common.{◌≡◌, ◌<◌, ◌^◌, ℕ, pos, refl, sym, ap, ◌∙◌, subst}
use Rattle.std.specs.Int.{w32, w64}
use Rattle.std.proofs.lemmas.Int.{int_wrap_fits}
use Rattle.std.proofs.Math.Nat.{mod-eq_of_lt}
use Rattle.ash_host.specs.declared.word.Word.{Word}
use Rattle.ash_host.specs.declared.word.Word.TheVariants as words
use Rattle.ash_host.specs.Objects.{LiveObjects}
use Rattle.std.proofs.Common.{List}
use Rattle.ash_integers.specs.declared.int_type.IntType.{IntType}
use Rattle.ash_integers.specs.declared.int_type.IntType.TheVariants as ints
use Rattle.ash_typed.specs.declared.types.VarType.TheVariants as vars
use Rattle.ash_typed.specs.TypeOf.{value}
use Rattle.ash_meaning.specs.Classes.{Program}
use Rattle.ash_meaning.specs.Activity.{Activity}
use Rattle.ash_meaning.specs.Runs.{Progress, Done, Ended, NoStep, onward, give}
use Rattle.ash_meaning.specs.OperatorMeaning.{converted_to}
use Rattle.ash_soundness.specs.WellFormed.{IsInteger, int, uint, int64, uint64, IsValue, is_integer, IsGiven, gives}

pub converted_same : (t : IntType) (w : Word) → IsInteger t w → converted_to t w ≡ w
converted_same ints.Int _ (int {n} within) = ap words.Int (int_wrap_fits w32 n within)
converted_same ints.Uint _ (uint {n} within) = ap words.Uint (mod-eq_of_lt {n = n} {m = 2 ^ 32} within)
converted_same ints.Int64 _ (int64 {n} within) = ap words.Int64 (int_wrap_fits w64 n within)
converted_same ints.Uint64 _ (uint64 {n} within) = ap words.Uint64 (mod-eq_of_lt {n = n} {m = 2 ^ 64} within)

pub integer_in : {p : Program} {all : LiveObjects (List ℕ)} {t : IntType} (w : Word)
    → IsGiven p all (value (vars.Integer t)) w → IsInteger t w
integer_in w (gives (is_integer i)) = i

-- a run that gives an integer of the type, which is converted
pub unconverted : (from to : IntType) (p : Progress Word) → from ≡ to
    → ((v : Word) (b : Activity) → p ≡ Done v b → IsInteger from v)
    → p ≡ onward p (λ v. give (converted_to to v))
unconverted from to (Done v b) same is =
    ap (λ (x : Word). Done x b)
    (sym (ap (λ (t : IntType). converted_to t v) (sym same) ∙ converted_same from v (is v b refl)))
unconverted from to (Ended i b) same is = refl
unconverted from to NoStep same is = refl
