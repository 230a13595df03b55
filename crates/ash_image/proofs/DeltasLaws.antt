-- The two laws of deltas one after the other, and how long they are at most.
use Rattle.std.proofs.Common.{◌≡◌, ℕ, zero, suc, ◌+◌, ◌*◌, ◌-◌, ◌^◌, ◌<◌, ◌≤◌, ◌%◌, Bool, true, not, leb, eqb, List, [], ◌∷◌, ◌++◌}
use Rattle.std.proofs.Common.{length, Option, Some, refl, sym, ap, subst, ◌∙◌, arith}
use Rattle.std.specs.Bool.{IsTrue}
use Rattle.std.specs.List.{flat_map, AllByRecursion}
use Rattle.std.proofs.lemmas.Bool.{leb-true, le-leb, ne_eqb}
use Rattle.std.proofs.lemmas.List.{length-append}
use Rattle.ash_host.specs.Limits.{max_objects}
use Rattle.ash_image.specs.declared.version.Version.TheVariants.{Two}
use Rattle.ash_image.specs.Fields.{number, items, whole, number_at, checked_at, items_at}
use Rattle.ash_image.specs.Delta.{Delta, delta, FitsDelta}
use Rattle.ash_image.specs.DeltaReading.{delta_at}
use Rattle.ash_image.specs.Deltas.{deltas_tag, max_deltas, deltas, FitDeltas, IsDeltas, HaveFewGone, is_count, deltas_at}
use Rattle.ash_image.proofs.Numbers.{IsBytes}
use Rattle.ash_image.proofs.NameLaws.{both}
use Rattle.ash_image.proofs.FieldLaws.{some_is, IsField, Takes, number_field, checked_field, items_field, refit_field}
use Rattle.ash_image.proofs.FieldLaws.{whole_takes, whole_again}
use Rattle.ash_image.proofs.DeltaLaws.{delta_field}
use Rattle.ash_image.proofs.DeltaLengths.{delta_short}

-- ---- the count

-- what is no 0 is 1 at least
at_least_one : (n : ℕ) → not (eqb n 0) ≡ true → 1 ≤ n
at_least_one zero h = absurd cc
at_least_one (suc n) h = omega arith

none_is_no_count : (n : ℕ) → 1 ≤ n → not (eqb n 0) ≡ true
none_is_no_count zero h = absurd (omega arith)
none_is_no_count (suc n) h = ap not (ne_eqb (suc n) 0 (λ e. omega (arith, e)))

count_is : (n : ℕ) → is_count n ≡ true → (1 ≤ n) × (n ≤ max_deltas)
count_is n h =
    let p = both (not (eqb n 0)) (leb n max_deltas) h in
    (at_least_one n p.0, leb-true _ _ p.1)

is_a_count : (n : ℕ) → 1 ≤ n → n ≤ max_deltas → is_count n ≡ true
is_a_count n some few = rw (none_is_no_count n some, le-leb n max_deltas few) refl

-- a small number in one byte is that byte
one_byte : (n : ℕ) → n < 256 → number 1 n ≡ n ∷ []
one_byte n small =
    let same : n % 256 ≡ n = omega arith in
    ap (λ (b : ℕ). b ∷ []) same

-- ---- the deltas

-- the same field with another spelling of what fits
respell_field : {A : Type 0} {spell : A → List ℕ} {fits : A → Type 0} {read : List ℕ → Option (A × List ℕ)}
    → IsField spell fits read → (spelling : A → List ℕ) → ((x : A) → fits x → spelling x ≡ spell x)
    → IsField spelling fits read
respell_field {A} {spell} {fits} {read} field spelling spelled = record {
  takes = λ bytes x ok e.
      let t = field.takes bytes x ok e in
      (subst (λ (s : List ℕ). Takes bytes s x.1) (sym (spelled x.0 t.1)) t.0, t.1);
  again = λ x rest h. ap (λ (s : List ℕ). read (s ++ rest)) (spelled x h) ∙ field.again x rest h;
}

abbrev Counted : List Delta → Type 0
Counted ds = ((length ds < 256 ^ 1) × IsTrue (is_count (length ds))) × AllByRecursion (FitsDelta Two) ds

counted_field : IsField (items 1 delta) Counted (items_at (checked_at is_count (number_at 1)) (delta_at Two))
counted_field = items_field 1 (checked_field is_count (number_field 1)) (delta_field Two)

pub deltas_field : IsField deltas FitDeltas deltas_at
unfolding deltas_at
deltas_field =
    refit_field
    (respell_field counted_field deltas
    (λ ds h. ap (λ (count : List ℕ). count ++ flat_map delta ds) (sym (one_byte (length ds) (omega (arith, h.0.0))))))
    deltas FitDeltas
    (λ ds. refl)
    (λ ds h. let p = count_is (length ds) h.0.1 in record { some = p.0; few = p.1; each = h.1 })
    (λ ds h. ((omega (arith, h.few), is_a_count (length ds) h.some h.few), h.each))

-- ---- what the reader promises

pub are_deltas : (bytes : List ℕ) (ds : List Delta) → IsBytes bytes → whole deltas_at bytes ≡ Some ds
    → IsDeltas bytes ds
are_deltas bytes ds ok e = whole_takes deltas_field bytes ds ok e

pub are_deltas_read : (bytes : List ℕ) (ds : List Delta) → IsDeltas bytes ds → whole deltas_at bytes ≡ Some ds
are_deltas_read bytes ds h = ap (whole deltas_at) h.1 ∙ whole_again deltas_field ds h.0

-- bytes are the spelling of these deltas and no others
pub one_spelling : (bytes : List ℕ) (c d : List Delta) → IsDeltas bytes c → IsDeltas bytes d → c ≡ d
one_spelling bytes c d h g =
    some_is c d (sym (are_deltas_read bytes c h) ∙ are_deltas_read bytes d g)

-- ---- lengths

each_short : (ds : List Delta) → AllByRecursion (FitsDelta Two) ds → HaveFewGone ds
    → length (flat_map delta ds) ≤ 268435454 * length ds
each_short [] fit few = omega arith
each_short (d ∷ ds) fit few =
    omega (
      arith,
      length-append (delta d) (flat_map delta ds),
      delta_short Two d fit.0 few.0,
      each_short ds fit.1 few.1,
    )

-- with their tag they fit into a record
pub deltas_short : (ds : List Delta) → FitDeltas ds → HaveFewGone ds → length (deltas_tag ∷ deltas ds) < 2 ^ 32
deltas_short ds fit few = omega (arith, each_short ds fit.each few, fit.few)
