-- The names of modules by their slots, where one is added or taken away.
use Rattle.std.proofs.Common.{◌≡◌, ℕ, zero, suc, Bool, true, false, cond, List, [], ◌∷◌, length, refl, sym, ap, ◌∙◌, subst, slice_get, nat_eq, if◌then◌else◌, arith}
use Rattle.std.specs.Prelude.{Some, Contains}
use Rattle.std.specs.List.{AllByRecursion, IsDistinct, insert, remove}
use Rattle.std.proofs.lemmas.Bool.{eqb-true}
use Rattle.std.proofs.lemmas.Bool.Decides.{nat_tests}
use Rattle.ash_requests.specs.States.{LoadedModule}
use Rattle.ash_soundness.proofs.Values.{first_in, later_in}
use Rattle.ash_table_states.specs.TableStates.{names_in}

module _ (new : LoadedModule) (slot : ℕ) where
  -- a module with a slot of its own is named by it wherever it is inserted
  pub inserted_at : (ms : List LoadedModule) (slots : List ℕ) (place at : ℕ) → length slots ≡ length ms → (Contains slots slot → ⊥)
      → names_in (insert ms place new) (insert slots place slot) at ≡ names_in (new ∷ ms) (slot ∷ slots) at
  inserted_at ms slots zero at many fresh = refl
  inserted_at [] [] (suc place) at many fresh = refl
  inserted_at [] (s ∷ slots) (suc place) at many fresh = absurd (cc)
  inserted_at (m ∷ ms) [] (suc place) at many fresh = absurd (cc)
  inserted_at (m ∷ ms) (s ∷ slots) (suc place) at many fresh =
      ap (λ (n : List ℕ). if nat_eq at s then m.name else n) (inserted_at ms slots place at (omega (arith, many)) (λ i. fresh (later_in s slot slots i)))
      ∙ go (nat_eq at s) (nat_eq at slot) refl refl
    where
      go : (b c : Bool) → nat_eq at s ≡ b → nat_eq at slot ≡ c
          → (if b then m.name else (if c then new.name else names_in ms slots at)) ≡ (if c then new.name else (if b then m.name else names_in ms slots at))
      go true true here there =
          let level : s ≡ slot = sym (eqb-true at s here) ∙ eqb-true at slot there in
          absurd (fresh (subst (λ (n : ℕ). Contains (s ∷ slots) n) level (first_in s slots)))
      go true false here there = refl
      go false true here there = refl
      go false false here there = refl

-- without a module, another slot has the name that it had
pub removed_at : (ms : List LoadedModule) (slots : List ℕ) (place slot at : ℕ) → slice_get slots place ≡ Some slot → (at ≡ slot → ⊥)
    → names_in (remove ms place) (remove slots place) at ≡ names_in ms slots at
removed_at [] [] place slot at there differs = absurd (cc)
removed_at [] (s ∷ slots) zero slot at there differs = refl
removed_at [] (s ∷ slots) (suc place) slot at there differs = refl
removed_at (m ∷ ms) [] place slot at there differs = absurd (cc)
removed_at (m ∷ ms) (s ∷ slots) zero slot at there differs = go (nat_eq at s) refl
  where
    go : (b : Bool) → nat_eq at s ≡ b → names_in ms slots at ≡ (if nat_eq at s then m.name else names_in ms slots at)
    go true here = let own : s ≡ slot = cc in absurd (differs (eqb-true at s here ∙ own))
    go false here = sym (ap (λ (b : Bool). if b then m.name else names_in ms slots at) here)
removed_at (m ∷ ms) (s ∷ slots) (suc place) slot at there differs =
    ap (λ (n : List ℕ). if nat_eq at s then m.name else n) (removed_at ms slots place slot at there differs)
