-- What is found at a place.
use Rattle.std.proofs.Common.{◌≡◌, ◌<◌, ℕ, zero, suc, refl, List, [], ◌∷◌, length, Some, None, ◌∙◌, ap, subst, arith}
use Rattle.std.specs.Prelude.{slice_get}
use Rattle.std.specs.List.{AllByRecursion, find, position}
use Rattle.std.proofs.lemmas.Option.{get_or_from_slice_get}
use Rattle.ash_typed.specs.Modules.{module_of}
use Rattle.ash_requests.specs.States.{Embedding, has_name}
use Rattle.ash_requests.specs.Tasks.{tree_of}
use Rattle.ash_plain_steps.specs.declared.state.LoadedModule.{LoadedModule}
use Rattle.ash_plain_steps.specs.StateViews.{loaded_seen, modules_seen}
use Rattle.ash_plain_steps.specs.Consistency.{IsReadFromSource, AreConsistent}
use Rattle.ash_plain_steps.proofs.Places.{found_at, found_within}

pub all_got : {A : Type 0} (P : A → Type 0) (xs : List A) (i : ℕ) (x : A) → slice_get xs i ≡ Some x → AllByRecursion P xs → P x
all_got P [] i x e h = absurd (cc)
all_got P (y ∷ ys) zero x e h = let same : y ≡ x = cc in subst P same h.0
all_got P (y ∷ ys) (suc i) x e h = all_got P ys i x e h.1

pub within_got : {A : Type 0} (xs : List A) (i : ℕ) → i < length xs → slice_get xs i ≡ None → ⊥
within_got [] i within e = omega arith
within_got (y ∷ ys) zero within e = cc
within_got (y ∷ ys) (suc i) within e = within_got ys i (omega arith) e

-- the module at the place of a name
pub found_got : (name : List ℕ) (ms : List LoadedModule) (place : ℕ) (m : LoadedModule) → position (λ (s : LoadedModule). has_name name (loaded_seen s)) ms ≡ Some place → slice_get ms place ≡ Some m → find (has_name name) (modules_seen ms) ≡ Some (loaded_seen m)
found_got name ms place m e g =
    found_at loaded_seen name ms place m e ∙ ap (λ (s : LoadedModule). Some (loaded_seen s)) (get_or_from_slice_get ms place m m g)

-- the place of a name has a module
pub found_some : (name : List ℕ) (ms : List LoadedModule) (place : ℕ) → position (λ (s : LoadedModule). has_name name (loaded_seen s)) ms ≡ Some place → slice_get ms place ≡ None → ⊥
found_some name ms place e g = within_got ms place (found_within (λ (s : LoadedModule). has_name name (loaded_seen s)) ms place e) g

-- the tree of a module is what its source is read as
pub tree_got : {Fault : Type 0} (embedding : Embedding Fault) (ms : List LoadedModule) (place : ℕ) (m : LoadedModule) → AreConsistent embedding ms → slice_get ms place ≡ Some m → tree_of embedding (loaded_seen m) ≡ Some (module_of m.tree)
tree_got embedding ms place m h g =
    let read : IsReadFromSource embedding m = all_got (IsReadFromSource embedding) ms place m g h.read in
    rw read refl
