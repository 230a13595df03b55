-- Modules of which one is new: their code, their slots, and what they hold.
use Rattle.std.proofs.Common.{◌≡◌, ◌≤◌, ◌+◌, ℕ, zero, suc, Bool, true, false, List, [], ◌∷◌, ◌++◌, length, map, refl, sym}
use Rattle.std.proofs.Common.{ap, ◌∙◌, subst, nat_eq, if◌then◌else◌, arith}
use Rattle.std.specs.Prelude.{Contains, Some, slice_get}
use Rattle.std.specs.List.{AllByRecursion, AllZip, IsDistinct, insert}
use Rattle.std.specs.Ordering.{is_lt}
use Rattle.std.proofs.lemmas.Bool.{eqb-true}
use Rattle.std.proofs.lemmas.Bool.Decides.{nat_tests}
use Rattle.std.proofs.lemmas.List.{append-nil}
use Rattle.ash_host.specs.declared.word.Word.{Word}
use Rattle.ash_host.specs.Objects.{handles}
use Rattle.ash_requests.specs.States.{LoadedModule, compare_names, globals_of, with_module}
use Rattle.ash_run_steps.specs.RunStates.{times}
use Rattle.ash_run_steps.proofs.Roots.{times_append}
use Rattle.ash_soundness.proofs.Values.{first_in, later_in}
use Rattle.ash_engine.proofs.ChangedModules.{handles_append}

-- what was inserted is in its place
pub got_inserted : {A : Type 0} (xs : List A) (place : ℕ) (x : A) → place ≤ length xs
    → slice_get (insert xs place x) place ≡ Some x
got_inserted xs zero x within = refl
got_inserted [] (suc place) x within = absurd (omega (arith, within))
got_inserted (y ∷ ys) (suc place) x within = got_inserted ys place x (omega (arith, within))

pub map_insert : {A C : Type 0} (f : A → C) (xs : List A) (place : ℕ) (x : A)
    → map f (insert xs place x) ≡ insert (map f xs) place (f x)
map_insert f xs zero x = refl
map_insert f [] (suc place) x = refl
map_insert f (y ∷ ys) (suc place) x = ap (λ (l : List _). f y ∷ l) (map_insert f ys place x)

pub zip_insert : {A C : Type 0} (R : A → C → Type 0) (xs : List A) (ys : List C) (place : ℕ) (x : A) (y : C)
    → AllZip R xs ys → R x y → AllZip R (insert xs place x) (insert ys place y)
zip_insert R xs ys zero x y each one = (one, each)
zip_insert R [] [] (suc place) x y each one = (one, tt)
zip_insert R [] (w ∷ ys) (suc place) x y each one = absurd each
zip_insert R (v ∷ xs) [] (suc place) x y each one = absurd each
zip_insert R (v ∷ xs) (w ∷ ys) (suc place) x y each one = (each.0, zip_insert R xs ys place x y each.1 one)

-- a slot that is none of these differs from each

differs : (one other : ℕ) → (one ≡ other → ⊥) → nat_eq one other ≡ false
differs one other unlike = go (nat_eq one other) refl
  where
    go : (b : Bool) → nat_eq one other ≡ b → nat_eq one other ≡ false
    go true is = absurd (unlike (eqb-true one other is))
    go false is = is

new_differs : (slot : ℕ) (slots : List ℕ) → (Contains slots slot → ⊥)
    → AllByRecursion (λ other. nat_eq slot other ≡ false) slots
new_differs slot [] fresh = tt
new_differs slot (s ∷ slots) fresh = (
  differs slot s (λ same. fresh (subst (λ (n : ℕ). Contains (s ∷ slots) n) (sym same) (first_in s slots))),
  new_differs slot slots (λ i. fresh (later_in s slot slots i)),
)

differs_from : (s slot : ℕ) (slots : List ℕ) (place : ℕ) → nat_eq s slot ≡ false
    → AllByRecursion (λ other. nat_eq s other ≡ false) slots
    → AllByRecursion (λ other. nat_eq s other ≡ false) (insert slots place slot)
differs_from s slot slots zero one each = (one, each)
differs_from s slot [] (suc place) one each = (one, tt)
differs_from s slot (x ∷ slots) (suc place) one each = (each.0, differs_from s slot slots place one each.1)

pub distinct_insert : (slot : ℕ) (slots : List ℕ) (place : ℕ) → (Contains slots slot → ⊥) → IsDistinct nat_eq slots
    → IsDistinct nat_eq (insert slots place slot)
unfolding IsDistinct
distinct_insert slot slots zero fresh apart = (new_differs slot slots fresh, apart)
distinct_insert slot [] (suc place) fresh apart = (tt, tt)
distinct_insert slot (s ∷ slots) (suc place) fresh apart = (
  differs_from s slot slots place (differs s slot
      (λ same. fresh (subst (λ (n : ℕ). Contains (s ∷ slots) n) same (first_in s slots)))) apart.0,
  distinct_insert slot slots place (λ i. fresh (later_in s slot slots i)) apart.1,
)

-- what modules hold of which one is new is what the others hold, and what it holds
pub roots_with : (new : LoadedModule) (ms : List LoadedModule) (n : ℕ)
    → times n (handles (globals_of (with_module new ms))) ≡ times n (handles (globals_of ms) ++ handles new.globals)
roots_with new [] n = ap (λ (l : List Word). times n (handles l)) (append-nil new.globals)
roots_with new (m ∷ ms) n = go (is_lt (compare_names new.name m.name)) (roots_with new ms n)
  where
    go : (b : Bool) → times n (handles (globals_of (with_module new ms))) ≡ times n
        (handles (globals_of ms) ++ handles new.globals)
        → times n (handles (globals_of (if b then new ∷ m ∷ ms else m ∷ with_module new ms))) ≡ times n
        (handles (globals_of (m ∷ ms)) ++ handles new.globals)
    go true later =
        ap (times n) (handles_append new.globals (globals_of (m ∷ ms)))
        ∙ omega (
          arith,
          times_append n (handles new.globals) (handles (globals_of (m ∷ ms))),
          times_append n (handles (globals_of (m ∷ ms))) (handles new.globals),
        )
    go false later =
        ap (times n) (handles_append m.globals (globals_of (with_module new ms)))
        ∙ both
        ∙ ap (λ (l : List ℕ). times n (l ++ handles new.globals)) (sym (handles_append m.globals (globals_of ms)))
      where
        both : times n (handles m.globals ++ handles (globals_of (with_module new ms))) ≡ times n
            ((handles m.globals ++ handles (globals_of ms)) ++ handles new.globals)
        both = omega (
          arith,
          times_append n (handles m.globals) (handles (globals_of (with_module new ms))),
          times_append n (handles m.globals ++ handles (globals_of ms)) (handles new.globals),
          times_append n (handles m.globals) (handles (globals_of ms)),
          times_append n (handles (globals_of ms))
              (handles new.globals),
          later,
        )
