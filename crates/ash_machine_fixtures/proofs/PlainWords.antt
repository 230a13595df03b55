-- Words that are no handles, and tables without objects.
use Rattle.std.proofs.Common.{◌≡◌, ℕ, zero, suc, ◌<◌, ◌++◌, List, [], ◌∷◌, length, get_or, All, Option, Some, None}
use Rattle.std.proofs.Common.{IsTrue, refl, rules, arith}
use Rattle.std.specs.List.{cons_option}
use Rattle.ash_host.specs.declared.word.Word.{Word}
use Rattle.ash_host.specs.Objects.{handle, handles}
use Rattle.ash_objects.specs.Table.{Table}
use Rattle.ash_run_steps.specs.RunStates.{HoldsRoots, is_alive_in}

-- words that are no handles are alive
pub all_alive : {B : Type 0} (table : Table B) (words : List Word) → handles words ≡ []
    → All (λ word. IsTrue (is_alive_in word table)) words
all_alive table [] none = λ k d within. absurd (omega (arith, within))
all_alive {B} table (w ∷ words) none = go (handle w) refl none (λ rest. all_alive table words rest)
  where
    go : (o : Option ℕ) → handle w ≡ o → cons_option o (handles words) ≡ []
        → (handles words ≡ [] → All (λ word. IsTrue (is_alive_in word table)) words)
        → All (λ word. IsTrue (is_alive_in word table)) (w ∷ words)
    go None is no_handles later = at
      where
        at : (k : ℕ) (d : Word) → k < length (w ∷ words) → IsTrue (is_alive_in (get_or (w ∷ words) k d) table)
        at zero d within = rw is refl
        at (suc k) d within = later no_handles k d (omega (arith, within))
    go (Some m) is no_handles later = search (rules, no_handles)

-- a table without objects holds none
pub nothing_held : {B : Type 0} (table : Table B) (outside globals : List ℕ) → table.objects ≡ [] → outside ≡ []
    → globals ≡ [] → HoldsRoots table (outside ++ globals)
nothing_held table outside globals empty no_outside no_globals =
    λ n. rw (empty, no_outside, no_globals) refl
