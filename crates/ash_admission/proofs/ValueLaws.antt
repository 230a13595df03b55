-- The tests of words decide what words are values of.
use Rattle.std.proofs.Common.{◌≡◌, ◌^◌, ℕ, ℤ, pos, negsuc, Bool, true, false, List, [], ◌∷◌, ◌++◌, refl, ap, ◌∙◌, if◌then◌else◌}
use Rattle.std.specs.Prelude.{Option, Some, None, FitsSigned}
use Rattle.std.specs.Int.{w32, w64}
use Rattle.std.specs.List.{list_all}
use Rattle.std.specs.Option.{option_map_or, option_and_then}
use Rattle.ash_host.specs.declared.word.Word.{Word}
use Rattle.ash_host.specs.declared.word.Word.TheVariants as words
use Rattle.ash_host.specs.Objects.{LiveObjects}
use Rattle.ash_host.proofs.Membership.{and_both, both_and}
use Rattle.ash_integers.specs.declared.int_type.IntType.{IntType}
use Rattle.ash_integers.specs.declared.int_type.IntType.TheVariants as ints
use Rattle.ash_typed.specs.declared.types.VarType.{VarType}
use Rattle.ash_typed.specs.declared.types.VarType.TheVariants as vars
use Rattle.ash_meaning.specs.Classes.{Program}
use Rattle.ash_soundness.specs.WellFormed as formed
use Rattle.ash_soundness.specs.WellFormed.{Shape, shape_at, IsOf, IsReference, IsInteger, IsValue, AreValues, AllAre}
use Rattle.ash_admission.specs.Places.{is_of}
use Rattle.ash_admission.specs.Values.{fits_bits, is_truth, is_integer, is_reference, is_value, after_value, after_values, is_end, are_values}
use Rattle.ash_admission.proofs.Tests.{lt_says, lt_yes}
use Rattle.ash_admission.proofs.ShapeLaws.{of_says, of_yes}

-- integers

int_says : (z : ℤ) → fits_bits 31 z ≡ true → FitsSigned w32 z
int_says (pos n) h = record { sfits = lt_says n (2 ^ 31) h }
int_says (negsuc n) h = record { sfits = lt_says n (2 ^ 31) h }

int_yes : (z : ℤ) → FitsSigned w32 z → fits_bits 31 z ≡ true
int_yes (pos n) f = lt_yes n (2 ^ 31) f.sfits
int_yes (negsuc n) f = lt_yes n (2 ^ 31) f.sfits

int64_says : (z : ℤ) → fits_bits 63 z ≡ true → FitsSigned w64 z
int64_says (pos n) h = record { sfits = lt_says n (2 ^ 63) h }
int64_says (negsuc n) h = record { sfits = lt_says n (2 ^ 63) h }

int64_yes : (z : ℤ) → FitsSigned w64 z → fits_bits 63 z ≡ true
int64_yes (pos n) f = lt_yes n (2 ^ 63) f.sfits
int64_yes (negsuc n) f = lt_yes n (2 ^ 63) f.sfits

pub integer_says : (of : IntType) (w : Word) → is_integer of w ≡ true → IsInteger of w
integer_says ints.Int (words.Int z) h = formed.int (int_says z h)
integer_says ints.Uint (words.Uint n) h = formed.uint (lt_says n (2 ^ 32) h)
integer_says ints.Int64 (words.Int64 z) h = formed.int64 (int64_says z h)
integer_says ints.Uint64 (words.Uint64 n) h = formed.uint64 (lt_says n (2 ^ 64) h)
integer_says _ _ h = absurd (cc)

pub integer_yes : {of : IntType} {w : Word} → IsInteger of w → is_integer of w ≡ true
integer_yes (formed.int {n} f) = int_yes n f
integer_yes (formed.uint {n} f) = lt_yes n (2 ^ 32) f
integer_yes (formed.int64 {n} f) = int64_yes n f
integer_yes (formed.uint64 {n} f) = lt_yes n (2 ^ 64) f

-- references

module _ (all : LiveObjects (List ℕ)) (fits : Shape → Bool) (Fits : Shape → Type 0) where
  object_from : ((s : Shape) → fits s ≡ true → Fits s) → (number : ℕ) (o : Option Shape) → shape_at number all ≡ o → option_map_or fits o false ≡ true → IsReference all Fits (words.Object number)
  object_from says number None e h = absurd (cc)
  object_from says number (Some s) e h = formed.to_object e (says s h)

  pub reference_says : ((s : Shape) → fits s ≡ true → Fits s) → (w : Word) → is_reference all fits w ≡ true → IsReference all Fits w
  reference_says says words.Null h = formed.to_nothing
  reference_says says (words.Object number) h = object_from says number (shape_at number all) refl h
  reference_says says _ h = absurd (cc)

  pub reference_yes : ((s : Shape) → Fits s → fits s ≡ true) → {w : Word} → IsReference all Fits w → is_reference all fits w ≡ true
  reference_yes passes formed.to_nothing = refl
  reference_yes passes (formed.to_object {number} {shape} at f) = ap (λ (o : Option Shape). option_map_or fits o false) at ∙ passes shape f

module _ (p : Program) (all : LiveObjects (List ℕ)) where
  -- a value

  pub truth_says : (w : Word) → is_truth w ≡ true → IsValue p all vars.Bool w
  truth_says (words.Bool b) h = formed.is_truth
  truth_says _ h = absurd (cc)

  pub value_says : (of : VarType) (w : Word) → is_value p all of w ≡ true → IsValue p all of w
  value_says vars.Bool w h = truth_says w h
  value_says (vars.Integer int_type) w h = formed.is_integer (integer_says int_type w h)
  value_says (vars.Object of) w h = formed.is_object (reference_says all (is_of p of) (IsOf p of) (of_says p of) w h)
  value_says (vars.Handle of) w h = formed.is_handle (reference_says all (is_of p of) (IsOf p of) (of_says p of) w h)

  pub value_yes : {of : VarType} {w : Word} → IsValue p all of w → is_value p all of w ≡ true
  value_yes formed.is_truth = refl
  value_yes (formed.is_integer i) = integer_yes i
  value_yes (formed.is_object {of} r) = reference_yes all (is_of p of) (IsOf p of) (of_yes p of) r
  value_yes (formed.is_handle {of} r) = reference_yes all (is_of p of) (IsOf p of) (of_yes p of) r

  -- values of types

  pub values_say : (types : List VarType) (ws : List Word) → are_values p all types ws ≡ true → AreValues p all types ws
  values_say [] [] h = formed.no_values
  values_say [] (w ∷ ws) h = absurd (cc)
  values_say (of ∷ types) [] h = absurd (cc)
  values_say (of ∷ types) (w ∷ ws) h = by (is_value p all of w) refl h (values_say types ws)
    where
      by : (b : Bool) → is_value p all of w ≡ b → is_end (option_and_then (after_values p all types) (if b then Some ws else None)) ≡ true → (are_values p all types ws ≡ true → AreValues p all types ws) → AreValues p all (of ∷ types) (w ∷ ws)
      by true v h later = formed.and_value (value_says of w v) (later h)
      by false v h later = absurd (cc)

  pub values_yes : {types : List VarType} {ws : List Word} → AreValues p all types ws → are_values p all types ws ≡ true
  values_yes formed.no_values = refl
  values_yes (formed.and_value {types = types} {ws = ws} v vs) = ap (λ (b : Bool). is_end (option_and_then (after_values p all types) (if b then Some ws else None))) (value_yes v) ∙ values_yes vs

  -- first these, then others
  pub after_both : (types more : List VarType) (ws : List Word) → after_values p all (types ++ more) ws ≡ option_and_then (after_values p all more) (after_values p all types ws)
  after_both [] more ws = refl
  after_both (of ∷ types) more ws = by (after_value p all of ws) (after_both types more)
    where
      by : (o : Option (List Word)) → ((rest : List Word) → after_values p all (types ++ more) rest ≡ option_and_then (after_values p all more) (after_values p all types rest)) → option_and_then (after_values p all (types ++ more)) o ≡ option_and_then (after_values p all more) (option_and_then (after_values p all types) o)
      by None later = refl
      by (Some rest) later = later rest

  -- values of one type

  module _ (of : VarType) (test : Word → Bool) where
    pub all_say : ((w : Word) → test w ≡ true → IsValue p all of w) → (ws : List Word) → list_all test ws ≡ true → AllAre p all of ws
    all_say says [] h = formed.none_are
    all_say says (w ∷ ws) h =
        let both = and_both (test w) (list_all test ws) h in
        formed.and_is (says w both.0) (all_say says ws both.1)

    pub all_yes : ((w : Word) → IsValue p all of w → test w ≡ true) → {ws : List Word} → AllAre p all of ws → list_all test ws ≡ true
    all_yes passes formed.none_are = refl
    all_yes passes (formed.and_is {word} {ws} v vs) = both_and (test word) (list_all test ws) (passes word v) (all_yes passes vs)
