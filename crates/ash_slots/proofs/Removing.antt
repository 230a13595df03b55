-- What a map is without a number.
use Rattle.std.proofs.Common.{◌≡◌, ℕ, Bool, true, false, cond, List, [], ◌∷◌, refl, sym, subst, ap, ◌∙◌, nat_eq, arith, Option, Some, None}
use Rattle.std.specs.Prelude.{IsSome}
use Rattle.std.specs.Map.{remove_entry}
use Rattle.std.specs.BTreeMap.{is_at}
use Rattle.std.specs.Ordering.{nat_cmp}
use Rattle.std.proofs.Common.{Equal}
use Rattle.std.proofs.lemmas.Bool.{eqb-true, eq-eqb}
use Rattle.std.proofs.lemmas.Bool.Decides.{nat_tests}
use Rattle.ash_host.specs.Objects.{object_at, IsInOrder}
use Rattle.ash_host.proofs.Order.{none_after, in_order_after}

is_at_eq : (x y : ℕ) → is_at (nat_cmp x) y ≡ nat_eq x y
is_at_eq x y = grind (arith, nat_tests)

-- what a map is without a number
pub removed_by_number : {A : Type 0} (n : ℕ) (l : List (ℕ × A)) → remove_entry (is_at (nat_cmp n)) l
    ≡ remove_entry (nat_eq n) l
removed_by_number n [] = refl
removed_by_number n (e ∷ l) =
    ap (λ (b : Bool). cond b l (e ∷ remove_entry (is_at (nat_cmp n)) l)) (is_at_eq n e.0)
    ∙ ap (λ (t : List (ℕ × _)). cond (nat_eq n e.0) l (e ∷ t)) (removed_by_number n l)

pub level : (x y : ℕ) → nat_cmp x y ≡ Equal → nat_eq x y ≡ true
level x y h = grind (arith, nat_tests)

-- a number at which nothing is is not that of the first entry, nor of a later one
pub not_first : {A : Type 0} (n : ℕ) (e : ℕ × A) (l : List (ℕ × A)) → object_at n (e ∷ l) ≡ None → (nat_eq n e.0 ≡ false)
    × (object_at n l ≡ None)
not_first {A} n e l h = go (nat_eq n e.0) refl
  where
    go : (b : Bool) → nat_eq n e.0 ≡ b → (nat_eq n e.0 ≡ false) × (object_at n l ≡ None)
    go true is = let here = ap (λ (b : Bool). cond b (Some e.1) (object_at n l)) is in let both : Some e.1 ≡ None = sym here ∙ h in absurd (cc)
    go false is = (is, sym (ap (λ (b : Bool). cond b (Some e.1) (object_at n l)) is) ∙ h)

pub none_later : {A : Type 0} (n : ℕ) (e : ℕ × A) (l : List (ℕ × A)) → IsInOrder (e ∷ l) → nat_eq n e.0 ≡ true
    → object_at n l ≡ None
none_later {A} n e l o same = go (object_at n l) refl
  where
    go : (v : Option A) → object_at n l ≡ v → object_at n l ≡ None
    go None is = is
    go (Some x) is = let not_here = none_after e l n o (subst (λ (v : Option A). IsSome v) (sym is) refl) in absurd (cc)

-- what is at each number once one was taken out
pub object_at-removed : {A : Type 0} (n m : ℕ) (l : List (ℕ × A)) → IsInOrder l
    → object_at m (remove_entry (nat_eq n) l) ≡ cond (nat_eq n m) None (object_at m l)
object_at-removed {A} n m [] o = go (nat_eq n m)
  where
    go : (b : Bool) → None ≡ cond {A = Option A} b None None
    go true = refl
    go false = refl
object_at-removed {A} n m (e ∷ l) o =
    go (nat_eq n e.0) refl (object_at-removed n m l (in_order_after e l o))
  where
    split : (b : Bool) → nat_eq n m ≡ b → nat_eq n e.0 ≡ true
        → object_at m l ≡ cond b None (cond (nat_eq m e.0) (Some e.1) (object_at m l))
    split true p is =
        let same : n ≡ m = eqb-true n m p in
        ap (λ (k : ℕ). object_at k l) (sym same) ∙ none_later n e l o is
    split false p is =
        let apart : nat_eq m e.0 ≡ false = grind (arith, nat_tests) in
        sym (ap (λ (b : Bool). cond b (Some e.1) (object_at m l)) apart)

    other : (b c : Bool) → nat_eq n m ≡ b → nat_eq m e.0 ≡ c → nat_eq n e.0 ≡ false
        → cond c (Some e.1) (cond b None (object_at m l)) ≡ cond b None (cond c (Some e.1) (object_at m l))
    other false c p q is = refl
    other true false p q is = refl
    other true true p q is =
        let same : n ≡ e.0 = eqb-true n m p ∙ eqb-true m e.0 q in
        let yes = eq-eqb n e.0 same in
        absurd (cc)

    go : (b : Bool) → nat_eq n e.0 ≡ b → object_at m (remove_entry (nat_eq n) l)
        ≡ cond (nat_eq n m) None (object_at m l) → object_at m (cond b l (e ∷ remove_entry (nat_eq n) l))
        ≡ cond (nat_eq n m) None (cond (nat_eq m e.0) (Some e.1) (object_at m l))
    go true is later = split (nat_eq n m) refl is
    go false is later =
        ap (λ (v : Option A). cond (nat_eq m e.0) (Some e.1) v) later ∙ other (nat_eq n m) (nat_eq m e.0) refl refl is
