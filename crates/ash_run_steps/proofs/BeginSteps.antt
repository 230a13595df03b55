-- The beginning of a run is the meaning's.
use Rattle.std.proofs.Common.{◌≡◌, ℕ, ◌+◌, ◌≤◌, List, [], ◌∷◌, ◌++◌, length, ap, ◌∙◌, arith, map, flat_map, nat_eq}
use Rattle.std.proofs.lemmas.List.{length-append, length-take}
use Rattle.std.proofs.lemmas.List.Sums.{count_by-le-length}
use Rattle.ash_host.specs.declared.host_object.HostObject.{Ghosts}
use Rattle.ash_host.specs.declared.word.Word.{Word}
use Rattle.ash_host.specs.declared.word.Word.TheVariants.{Null}
use Rattle.ash_host.specs.Objects.{handles}
use Rattle.ash_host.specs.Records.{HostRecord}
use Rattle.ash_meaning.specs.Ends.{begun}
use Rattle.ash_objects.specs.Table.{Table, holds_of}
use Rattle.ash_run_steps.specs.RunStates.{State, Names, HoldsRoots, HoldsMore, roots_in, times, shown, world_shown, frame_shown, bare}
use Rattle.ash_run_steps.specs.Stacks.{StackFrame, locals_of, roots_of}
use Rattle.ash_run_steps.proofs.HoldSteps.{at_table, same_activity}
use Rattle.ash_run_steps.proofs.Roots.{times_append, times_frame, times_roots}
use Rattle.ash_run_steps.proofs.Stacking.{handles_few}

module _ {B : Type 0} where
  -- one frame, which reaches its locals alone
  pub counts_begun : (s : State B) (table : Table B) → (s.frames).callers ≡ [] → ((s.frames).frame).this ≡ Null → ((s.frames).frame).held ≡ []
      → HoldsRoots s.table (s.outside ++ handles s.globals) → HoldsMore (handles (locals_of (s.frames).frame)) s.table table
      → HoldsRoots table (roots_in (at_table table s))
  counts_begun s table first null bare counts more = λ m.
      let f = (s.frames).frame in
      let alone = ap (λ (fs : List StackFrame). times m (flat_map roots_of fs)) first in
      let nothing = ap (λ (w : Word). times m (handles (w ∷ []))) null in
      let none = ap (times m) bare in
      let all = times_roots m (at_table table s) in
      let one = times_frame m f in
      let two = times_append m s.outside (handles s.globals) in
      omega (arith, counts m, more.counts m)

  pub few_begun : (m : ℕ) (s : State B) → HoldsRoots s.table (s.outside ++ handles s.globals)
      → holds_of m s.table + length (locals_of (s.frames).frame) ≤ length s.outside + length s.globals + length ((s.frames).frame).slots
  few_begun m s counts =
      let some = count_by-le-length (nat_eq m) (s.outside ++ handles s.globals) in
      let two = length-append s.outside (handles s.globals) in
      let three = length-take ((s.frames).frame).count ((s.frames).frame).slots in
      omega (arith, counts m, handles_few s.globals)

module _ {B : Type 0} (G : Ghosts B) (names : Names) where
  pub begun_shown : (rest : List HostRecord) (s : State B) (table : Table B) → (s.frames).callers ≡ [] → bare table ≡ bare s.table
      → shown G names rest (at_table table s) ≡ begun (world_shown G names rest s) s.ticks (frame_shown names (s.frames).frame)
  begun_shown rest s table first same =
      same_activity G names rest s table same
      ∙ ap (λ (fs : List StackFrame). record (begun (world_shown G names rest s) s.ticks (frame_shown names (s.frames).frame)) { callers = map (frame_shown names) fs }) first
