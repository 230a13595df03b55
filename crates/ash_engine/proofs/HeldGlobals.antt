-- What the globals of modules hold, module by module.
use Rattle.std.proofs.Common.{◌≡◌, ◌+◌, ◌*◌, ◌<◌, ◌≤◌, ℕ, suc, List, [], ◌∷◌, ◌++◌, length, take, get_or, refl, sym, ap, ◌∙◌, subst, arith, nat_eq}
use Rattle.std.specs.Prelude.{All, IsTrue, flat_map}
use Rattle.std.proofs.lemmas.List.{take_more, length-append, flat_map_more}
use Rattle.std.proofs.lemmas.List.Concat.{get_or-flat_map}
use Rattle.std.proofs.lemmas.List.Elements.{filter_map-append}
use Rattle.std.proofs.lemmas.List.Folds.{length-flat_map-take}
use Rattle.std.proofs.lemmas.List.Sums.{count_by-le-length}
use Rattle.ash_host.specs.declared.word.Word.{Word}
use Rattle.ash_host.specs.Objects.{handle, handles}
use Rattle.ash_objects.specs.Table.{Table, holds_of}
use Rattle.ash_requests.specs.States.{globals_of}
use Rattle.ash_plain_steps.specs.declared.state.LoadedModule.{LoadedModule}
use Rattle.ash_plain_steps.specs.StateViews.{modules_seen}
use Rattle.ash_run_steps.specs.RunStates.{is_alive_in, HoldsMore}
use Rattle.ash_run_steps.proofs.Bare.{same_alive}
use Rattle.ash_run_steps.proofs.Stacking.{handles_few}

abbrev pub globals_in : List LoadedModule → List Word
globals_in ms = flat_map (λ (m : LoadedModule). m.globals.items) ms

pub globals_seen : (ms : List LoadedModule) → globals_of (modules_seen ms) ≡ globals_in ms
globals_seen [] = refl
globals_seen (m ∷ ms) = ap (λ (ws : List Word). m.globals.items ++ ws) (globals_seen ms)

module _ (ms : List LoadedModule) (i : ℕ) (d : LoadedModule) (within : i < length ms) where
  abbrev here : List Word
  here = (get_or ms i d).globals.items

  globals_step : globals_in (take (i + 1) ms) ≡ globals_in (take i ms) ++ here
  globals_step = ap globals_in (take_more ms i d within) ∙ sym (flat_map_more (λ (m : LoadedModule). m.globals.items) [] (take i ms) (get_or ms i d))

  -- one module more
  pub roots_step : handles (globals_of (modules_seen (take (i + 1) ms))) ≡ handles (globals_of (modules_seen (take i ms))) ++ handles here
  roots_step =
      ap handles (globals_seen (take (i + 1) ms) ∙ globals_step)
      ∙ filter_map-append handle (globals_in (take i ms)) here
      ∙ ap (λ (ws : List Word). handles ws ++ handles here) (sym (globals_seen (take i ms)))

  -- what holds of each word that globals hold holds of each that those of one module hold
  pub all_here : (P : Word → Type 0) → All P (globals_of (modules_seen ms)) → All P here
  all_here P all k w inside =
      let more = length-flat_map-take (λ (m : LoadedModule). m.globals.items) ms i d within in
      let at : ℕ = length (globals_in (take i ms)) + k in
      let listed : All P (globals_in ms) = subst (λ (ws : List Word). All P ws) (globals_seen ms) all in
      subst P (get_or-flat_map (λ (m : LoadedModule). m.globals.items) ms i k d w within inside) (listed at w (omega (arith, more, inside)))

  -- they live still, if holds alone have changed
  pub alive_here : {B : Type 0} (old now : Table B) → All (λ (word : Word). IsTrue (is_alive_in word old)) (globals_of (modules_seen ms))
      → HoldsMore (handles (globals_of (modules_seen (take i ms)))) old now → All (λ (word : Word). IsTrue (is_alive_in word now)) here
  alive_here old now all more k w inside =
      same_alive (get_or here k w) old now more.same ∙ all_here (λ (word : Word). IsTrue (is_alive_in word old)) all k w inside

pub all_few : (limit : ℕ) (ms : List LoadedModule) → All (λ (m : LoadedModule). length m.globals.items ≤ limit) ms → length (globals_in ms) ≤ limit * length ms
all_few limit [] short = omega arith
all_few limit (m ∷ ms) short =
    let first : length m.globals.items ≤ limit = short 0 m (omega arith) in
    let later = all_few limit ms (λ k d inside. short (suc k) d (omega (arith, inside))) in
    let both = length-append m.globals.items (globals_in ms) in
    let times : limit * suc (length ms) ≡ limit + limit * length ms = omega arith in
    omega (arith, first, later, both, times)

-- few modules hold few objects
pub few_here : {B : Type 0} (ms : List LoadedModule) (i : ℕ) (d : LoadedModule) → i < length ms → (old now : Table B) (n : ℕ) → holds_of n old ≡ 0
    → HoldsMore (handles (globals_of (modules_seen (take i ms)))) old now → All (λ (m : LoadedModule). length m.globals.items ≤ 256) ms → length ms ≤ 16
    → holds_of n now + length (get_or ms i d).globals.items ≤ 4096
few_here ms i d within old now n none more short few =
    let counts = more.counts n in
    let some = count_by-le-length (nat_eq n) (handles (globals_of (modules_seen (take i ms)))) in
    let fewer = handles_few (globals_of (modules_seen (take i ms))) in
    let seen = ap (λ (ws : List Word). length ws) (globals_seen (take i ms)) in
    let parts = length-flat_map-take (λ (m : LoadedModule). m.globals.items) ms i d within in
    let all = all_few 256 ms short in
    omega (arith, counts, some, fewer, seen, parts, all, none, few)
