-- The class at a place of the source.
use Rattle.std.proofs.Common.{◌≡◌, ◌+◌, ℕ, zero, suc, Bool, true, false, List, [], ◌∷◌, refl, sym, ap, ◌∙◌, nat_eq, if◌then◌else◌, arith}
use Rattle.std.specs.Prelude.{Some, slice_get}
use Rattle.std.proofs.lemmas.Bool.{eqb-true, eq-eqb}
use Rattle.ash_typed.specs.Modules.{Class, Module}
use Rattle.ash_meaning.specs.Classes.{place_of_class}
use Rattle.ash_soundness.proofs.Places.{one_class}
use Rattle.ash_admission.specs.Places.{class_from, class_at}

-- what is found is at the place
there_from : (m : Module) (i : ℕ) (cs : List Class) (place : ℕ) (c : Class) → class_from m place i cs ≡ Some c → (k : ℕ) × (slice_get cs k ≡ Some c) × (place ≡ place_of_class m (i + k))
there_from m i [] place c e = absurd (cc)
there_from m i (x ∷ cs) place c e = by (nat_eq place (place_of_class m i)) refl e (there_from m (i + 1) cs place c)
  where
    by : (b : Bool) → nat_eq place (place_of_class m i) ≡ b → (if b then Some x else class_from m place (i + 1) cs) ≡ Some c → (class_from m place (i + 1) cs ≡ Some c → (k : ℕ) × (slice_get cs k ≡ Some c) × (place ≡ place_of_class m (i + 1 + k))) → (k : ℕ) × (slice_get (x ∷ cs) k ≡ Some c) × (place ≡ place_of_class m (i + k))
    by true t e later =
        let level : i ≡ i + 0 = omega arith in
        (0, e, eqb-true place (place_of_class m i) t ∙ ap (λ (n : ℕ). place_of_class m n) level)
    by false t e later =
        let (k, at, is) = later e in
        let level : i + 1 + k ≡ i + suc k = omega arith in
        (suc k, at, is ∙ ap (λ (n : ℕ). place_of_class m n) level)

pub class_there : (m : Module) (place : ℕ) (c : Class) → class_at m place ≡ Some c → (class : ℕ) × (slice_get m.classes class ≡ Some c) × (place ≡ place_of_class m class)
class_there m place c e =
    let (k, at, is) = there_from m 0 m.classes place c e in
    let level : 0 + k ≡ k = omega arith in
    (k, at, is ∙ ap (λ (n : ℕ). place_of_class m n) level)

-- what is at the place is found, since classes at one place are one
found_from : (m : Module) (i k : ℕ) (cs : List Class) (c : Class) (place : ℕ) → slice_get cs k ≡ Some c → place ≡ place_of_class m (i + k) → class_from m place i cs ≡ Some c
found_from m i k [] c place at is = absurd (cc)
found_from m i zero (x ∷ cs) c place at is =
    let level : i + 0 ≡ i = omega arith in
    let here : nat_eq place (place_of_class m i) ≡ true = eq-eqb place (place_of_class m i) (is ∙ ap (λ (n : ℕ). place_of_class m n) level) in
    ap (λ (b : Bool). if b then Some x else class_from m place (i + 1) cs) here ∙ at
found_from m i (suc k) (x ∷ cs) c place at is =
    let level : i + suc k ≡ i + 1 + k = omega arith in
    by (nat_eq place (place_of_class m i)) refl (found_from m (i + 1) k cs c place at (is ∙ ap (λ (n : ℕ). place_of_class m n) level))
  where
    by : (b : Bool) → nat_eq place (place_of_class m i) ≡ b → class_from m place (i + 1) cs ≡ Some c → (if b then Some x else class_from m place (i + 1) cs) ≡ Some c
    by true t later = absurd (let same : i ≡ i + suc k = one_class m i (i + suc k) (sym (eqb-true place (place_of_class m i) t) ∙ is) in omega arith)
    by false t later = later

pub class_found : (m : Module) (class : ℕ) (c : Class) (place : ℕ) → slice_get m.classes class ≡ Some c → place ≡ place_of_class m class → class_at m place ≡ Some c
class_found m class c place at is =
    let level : class ≡ 0 + class = omega arith in
    found_from m 0 class m.classes c place at (is ∙ ap (λ (n : ℕ). place_of_class m n) level)
