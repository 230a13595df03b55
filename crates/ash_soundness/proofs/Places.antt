-- Each class and each interface of a module in source order has a place of its own.
use Rattle.std.proofs.Common.{◌≡◌, ◌≤◌, ◌<◌, ◌+◌, ℕ, zero, suc, Bool, true, false, cond, List, [], ◌∷◌, refl, sym, ap, subst, nat_le, ◌⊎◌, inl, inr, arith}
use Rattle.std.specs.Prelude.{Option, Some, slice_get, count_by}
use Rattle.std.specs.Option.{option_map_or}
use Rattle.std.proofs.lemmas.Bool.Decides.{nat_tests}
use Rattle.std.proofs.lemmas.Option.{same_Some}
use Rattle.std.proofs.lemmas.List.Sums.{sum_by-cons}
use Rattle.ash_typed.specs.Modules.{Interface, Module}
use Rattle.ash_meaning.specs.Classes.{place_of_class, place_of_interface}
use Rattle.ash_soundness.proofs.SourceOrder.{IsInSourceOrder}

-- how many interfaces are before the end of a class
abbrev before : ℕ → List Interface → ℕ
before class is = count_by (λ (i : Interface). nat_le i.classes_before class) is

abbrev is_before : ℕ → Interface → ℕ
is_before class i = cond (nat_le i.classes_before class) 1 0

before-cons : (class : ℕ) (i : Interface) (is : List Interface) → before class (i ∷ is) ≡ is_before class i + before class is
before-cons class i is = sum_by-cons (λ (x : Interface). is_before class x) i is

counts : (class : ℕ) (i : Interface) → i.classes_before ≤ class → is_before class i ≡ 1
counts class i le = let test : nat_le i.classes_before class ≡ true = grind (arith, nat_tests) in ap (λ (b : Bool). cond {A = ℕ} b 1 0) test

counts_not : (class : ℕ) (i : Interface) → class < i.classes_before → is_before class i ≡ 0
counts_not class i lt = let test : nat_le i.classes_before class ≡ false = grind (arith, nat_tests) in ap (λ (b : Bool). cond {A = ℕ} b 1 0) test

either : (m n : ℕ) → (m ≤ n) ⊎ (n < m)
either m n = go (nat_le m n) refl
  where
    go : (b : Bool) → nat_le m n ≡ b → (m ≤ n) ⊎ (n < m)
    go true e = inl (grind (arith, nat_tests))
    go false e = inr (grind (arith, nat_tests))

one_more : (class other : ℕ) (i : Interface) → class ≤ other → is_before class i ≤ is_before other i
one_more class other i le =
    elim (either i.classes_before class) [
      | inl in_both ↦ omega (arith, counts class i in_both, counts other i (omega arith))
      | inr not_first ↦ omega (arith, counts_not class i not_first)
    ]

before_more : (class other : ℕ) (is : List Interface) → class ≤ other → before class is ≤ before other is
before_more class other [] le = omega arith
before_more class other (i ∷ is) le = omega (arith, before-cons class i is, before-cons other i is, one_more class other i le, before_more class other is le)

-- classes

classes_rise : (m : Module) (class other : ℕ) → class < other → place_of_class m class < place_of_class m other
classes_rise m class other lt = omega (arith, before_more class other m.interfaces (omega arith))

three_ways : (m n : ℕ) → (m < n) ⊎ ((m ≡ n) ⊎ (n < m))
three_ways m n =
    elim (either n m) [
      | inr below ↦ inl below
      | inl le ↦ elim (either m n) [ inl same ↦ inr (inl (omega arith)) | inr above ↦ inr (inr above) ]
    ]

-- classes at one place are one
pub one_class : (m : Module) (class other : ℕ) → place_of_class m class ≡ place_of_class m other → class ≡ other
one_class m class other same =
    elim (three_ways class other) [
      | inl below ↦ absurd (let rise = classes_rise m class other below in omega arith)
      | inr rest ↦ elim rest [ inl level ↦ level | inr above ↦ absurd (let rise = classes_rise m other class above in omega arith) ]
    ]

-- interfaces

Orders : List Interface → Type 0
Orders is =
    (earlier later : ℕ) (i j : Interface) → earlier ≤ later → slice_get is earlier ≡ Some i → slice_get is later ≡ Some j → i.classes_before ≤ j.classes_before

orders_after : (x : Interface) (is : List Interface) → Orders (x ∷ is) → Orders is
unfolding Orders
orders_after x is o = λ earlier later i j le here there. o (suc earlier) (suc later) i j (omega arith) here there

-- where an interface is before the end of a class, so are those before it
all_before : (class k : ℕ) (i : Interface) (is : List Interface) → Orders is → slice_get is k ≡ Some i → i.classes_before ≤ class → k < before class is
unfolding Orders
all_before class k i [] o at le = absurd (cc)
all_before class zero i (x ∷ is) o at le =
    let same : x ≡ i = same_Some x i at in
    let counted = counts class x (subst (λ (y : Interface). y.classes_before ≤ class) (sym same) le) in
    omega (arith, before-cons class x is, counted)
all_before class (suc k) i (x ∷ is) o at le =
    let fits : x.classes_before ≤ i.classes_before = o 0 (suc k) x i (omega arith) refl at in
    omega (arith, before-cons class x is, counts class x (omega arith), all_before class k i is (orders_after x is o) at le)

none_after : (class : ℕ) (is : List Interface) → ((k : ℕ) (i : Interface) → slice_get is k ≡ Some i → class < i.classes_before) → before class is ≡ 0
none_after class [] h = refl
none_after class (x ∷ is) h = omega (arith, before-cons class x is, counts_not class x (h 0 x refl), none_after class is (λ k i at. h (suc k) i at))

-- where one is not, neither are those after it
few_before : (class k : ℕ) (i : Interface) (is : List Interface) → Orders is → slice_get is k ≡ Some i → class < i.classes_before → before class is ≤ k
unfolding Orders
few_before class k i [] o at lt = absurd (cc)
few_before class zero i (x ∷ is) o at lt =
    let same : x ≡ i = same_Some x i at in
    let first : class < x.classes_before = subst (λ (y : Interface). class < y.classes_before) (sym same) lt in
    let none = none_after class (x ∷ is) (λ j y there. let more : x.classes_before ≤ y.classes_before = o 0 j x y (omega arith) refl there in omega arith) in
    omega arith
few_before class (suc k) i (x ∷ is) o at lt =
    let rest = few_before class k i is (orders_after x is o) at lt in
    let one : is_before class x ≤ 1 = at_most_one class x in
    omega (arith, before-cons class x is)
  where
    at_most_one : (of : ℕ) (y : Interface) → is_before of y ≤ 1
    at_most_one of y = elim (nat_le y.classes_before of) as (λ b. cond {A = ℕ} b 1 0 ≤ 1) [ true ↦ omega arith | false ↦ omega arith ]

place_is : (m : Module) (k : ℕ) (i : Interface) → slice_get m.interfaces k ≡ Some i → place_of_interface m k ≡ k + i.classes_before
place_is m k i at = ap (λ (o : Option Interface). k + option_map_or (λ (x : Interface). x.classes_before) o 0) at

-- no class is at the place of an interface
pub class_or_interface : (m : Module) → IsInSourceOrder m → (class k : ℕ) (i : Interface) → slice_get m.interfaces k ≡ Some i → place_of_class m class ≡ place_of_interface m k → ⊥
unfolding Orders
class_or_interface m o class k i at same =
    elim (either i.classes_before class) [
      | inl is ↦ let more = all_before class k i m.interfaces o at is in let there = place_is m k i at in omega arith
      | inr not ↦ let few = few_before class k i m.interfaces o at not in let there = place_is m k i at in omega arith
    ]

-- interfaces at one place are one
pub one_interface : (m : Module) → IsInSourceOrder m → (k l : ℕ) (i j : Interface) → slice_get m.interfaces k ≡ Some i → slice_get m.interfaces l ≡ Some j → place_of_interface m k ≡ place_of_interface m l → k ≡ l
one_interface m o k l i j at there same =
    let here = place_is m k i at in
    let beyond = place_is m l j there in
    elim (three_ways k l) [
      | inl below ↦ absurd (let le : i.classes_before ≤ j.classes_before = o k l i j (omega arith) at there in omega arith)
      | inr rest ↦ elim rest [ inl level ↦ level | inr above ↦ absurd (let le : j.classes_before ≤ i.classes_before = o l k j i (omega arith) there at in omega arith) ]
    ]
