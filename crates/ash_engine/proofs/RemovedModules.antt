-- Modules of which one is taken away: their code, their slots, and the names of the others.
use Rattle.std.proofs.Common.{◌≡◌, ℕ, zero, suc, Bool, true, false, cond, not, List, [], ◌∷◌, set, refl, sym, ap, ◌∙◌, subst, slice_get, nat_eq}
use Rattle.std.specs.Prelude.{Some, None, IsSome, find}
use Rattle.std.specs.Option.{option_and_then}
use Rattle.std.specs.List.{AllByRecursion, AllZip, IsDistinct, remove}
use Rattle.ash_requests.specs.States.{LoadedModule, Embedding, has_name, without_module}
use Rattle.ash_requests.specs.Tasks.{tree_of}
use Rattle.ash_soundness.specs.WellFormedStates.{known_of}
use Rattle.ash_table_states.specs.TableStates.{names_in}
use Rattle.ash_engine.proofs.InsertedSlots.{removed_at}
use Rattle.ash_engine.proofs.NamedSlots.{named_at}

-- two lists, place by place
module _ {A C : Type 0} (R : A → C → Type 0) where
  pub zip_at : (xs : List A) (ys : List C) (place : ℕ) (x : A) → AllZip R xs ys → slice_get xs place ≡ Some x → (y : C) × (slice_get ys place ≡ Some y)
  zip_at [] ys place x each at = absurd (cc)
  zip_at (z ∷ xs) [] place x each at = absurd each
  zip_at (z ∷ xs) (y ∷ ys) zero x each at = (y, refl)
  zip_at (z ∷ xs) (y ∷ ys) (suc place) x each at = zip_at xs ys place x each.1 at

  pub zip_remove : (xs : List A) (ys : List C) (place : ℕ) → AllZip R xs ys → AllZip R (remove xs place) (remove ys place)
  zip_remove [] [] zero each = tt
  zip_remove [] [] (suc place) each = tt
  zip_remove [] (y ∷ ys) place each = absurd each
  zip_remove (x ∷ xs) [] place each = absurd each
  zip_remove (x ∷ xs) (y ∷ ys) zero each = each.1
  zip_remove (x ∷ xs) (y ∷ ys) (suc place) each = (each.0, zip_remove xs ys place each.1)

-- what holds of all holds of all but one
rest_holds : (P : ℕ → Type 0) (xs : List ℕ) (place : ℕ) → AllByRecursion P xs → AllByRecursion P (remove xs place)
rest_holds P [] zero all = tt
rest_holds P [] (suc place) all = tt
rest_holds P (x ∷ xs) zero all = all.1
rest_holds P (x ∷ xs) (suc place) all = (all.0, rest_holds P xs place all.1)

pub distinct_remove : (slots : List ℕ) (place : ℕ) → IsDistinct nat_eq slots → IsDistinct nat_eq (remove slots place)
unfolding IsDistinct
distinct_remove [] zero apart = tt
distinct_remove [] (suc place) apart = tt
distinct_remove (s ∷ slots) zero apart = apart.1
distinct_remove (s ∷ slots) (suc place) apart = (rest_holds (λ y. nat_eq s y ≡ false) slots place apart.0, distinct_remove slots place apart.1)

-- what is stored in its own place changes nothing
pub set_own : {A : Type 0} (xs : List A) (place : ℕ) (x : A) → slice_get xs place ≡ Some x → set xs place x ≡ xs
set_own [] place x at = absurd (cc)
set_own {A} (y ∷ xs) zero x at = let same : y ≡ x = cc in ap (λ (z : A). z ∷ xs) (sym same)
set_own {A} (y ∷ xs) (suc place) x at = ap (λ (l : List A). y ∷ l) (set_own xs place x at)

-- no module has the name of the one that is gone
pub none_without : (name : List ℕ) (ms : List LoadedModule) → find (has_name name) (without_module name ms) ≡ None
none_without name [] = refl
none_without name (m ∷ ms) = go (has_name name m) refl (none_without name ms)
  where
    go : (b : Bool) → has_name name m ≡ b → find (has_name name) (without_module name ms) ≡ None
        → find (has_name name) (cond (not b) (m ∷ without_module name ms) (without_module name ms)) ≡ None
    go true is rest = rest
    go false is rest = ap (λ (b : Bool). cond b (Some m) (find (has_name name) (without_module name ms))) is ∙ rest

module _ {Fault : Type 0} (embedding : Embedding Fault) (ms : List LoadedModule) (slots : List ℕ) (place slot : ℕ) (m : LoadedModule) (apart : IsDistinct nat_eq slots)
    (at : slice_get ms place ≡ Some m) (in_slot : slice_get slots place ≡ Some slot) where
  unknown : (other : ℕ) → IsSome (known_of embedding (without_module m.name ms) (names_in ms slots other)) → other ≡ slot → ⊥
  unknown other known same =
      let named : names_in ms slots other ≡ m.name = ap (names_in ms slots) same ∙ named_at ms slots place slot m apart at in_slot in
      let none = ap (option_and_then (tree_of embedding)) (none_without m.name ms) in
      let there : IsSome (known_of embedding (without_module m.name ms) m.name) = subst (λ (n : List ℕ). IsSome (known_of embedding (without_module m.name ms) n)) named known in
      cc

  -- a module that is known without the one that is gone has its name
  pub names_kept : (other : ℕ) → IsSome (known_of embedding (without_module m.name ms) (names_in ms slots other))
      → names_in (remove ms place) (remove slots place) other ≡ names_in ms slots other
  names_kept other known = removed_at ms slots place slot other in_slot (unknown other known)
