-- The end of a run is the meaning's.
use Rattle.std.proofs.Common.{◌≡◌, ℕ, ◌+◌, ◌<◌, ◌++◌, Bool, true, false, cond, List, [], ◌∷◌, map, length, refl, sym, ap, ◌∙◌, arith, append_assoc, subst}
use Rattle.std.specs.Prelude.{Option, Some, None, IfSome, OnOk, Result, Ok, Err}
use Rattle.std.proofs.lemmas.List.{append-nil}
use Rattle.std.proofs.lemmas.List.Folds.{flat_map-map}
use Rattle.ash_host.specs.declared.event.Event.TheVariants.{Dropped}
use Rattle.ash_host.specs.declared.host_object.HostObject.{Ghosts}
use Rattle.ash_host.specs.declared.word.Word.{Word}
use Rattle.ash_host.specs.Objects.{handles}
use Rattle.ash_host.specs.Reach.{after_sweep, drops_of_sweep}
use Rattle.ash_host.specs.Records.{HostRecord}
use Rattle.ash_meaning.specs.Activity.{World, Frame, Activity}
use Rattle.ash_meaning.specs.Ends.{End, Outcome, Finished, interrupted_in, outcome_with}
use Rattle.ash_meaning.specs.Releases as releases
use Rattle.ash_meaning.specs.Releases.{sweep, release as release_point}
use Rattle.ash_meaning.specs.Runs.{Progress, Done, Interrupt}
use Rattle.ash_run_steps.specs.declared.stop.Stop.{Stop}
use Rattle.ash_run_steps.specs.Becoming.{Gave, Becomes, Comes}
use Rattle.ash_run_steps.specs.FrameChanges.{leaving, leaving_to}
use Rattle.ash_run_steps.specs.FrameSteps.{return_value}
use Rattle.ash_run_steps.specs.Guarded.{Guarded, give, stop, onward}
use Rattle.ash_run_steps.specs.GuardedSteps.{RankTest, release}
use Rattle.ash_run_steps.specs.Outcomes.{outcome_if, ComesTo}
use Rattle.ash_run_steps.specs.RunStates.{State, Names, HoldsRoots, roots_in, times, shown, world_shown, frame_shown, bare}
use Rattle.ash_run_steps.specs.Stacks.{StackFrame, Frames, roots_of_frames}
use Rattle.ash_run_steps.proofs.Bare.{follows_bare}
use Rattle.ash_run_steps.proofs.Composed.{gave_nothing, gave_then}
use Rattle.ash_run_steps.proofs.HoldSteps.{same_activity}
use Rattle.ash_run_steps.proofs.JumpSteps.{each_left}
use Rattle.ash_run_steps.proofs.Roots.{times_append}

-- callers, one after another

left_fewer : (ns : List ℕ) (callers : List StackFrame) (frames : Frames) → 0 < length callers → length (leaving_to ns callers frames).callers + 1 ≡ length callers
left_fewer ns [] frames some = absurd (omega (arith, some))
left_fewer ns (caller ∷ callers) frames some = omega arith

pub fewer_callers : (ns : List ℕ) (frames : Frames) → 0 < length frames.callers → length (leaving ns frames).callers + 1 ≡ length frames.callers
fewer_callers ns frames some = left_fewer ns frames.callers frames some

pub none_left : (callers : List StackFrame) → length callers ≡ 0 → callers ≡ []
none_left [] none = refl
none_left (caller ∷ callers) none = absurd (omega (arith, none))

module _ {B : Type 0} where
  -- changes of tables and frames alone, one after another
  pub others_then : (first mid last : State B) → mid ≡ record first { table = mid.table; frames = mid.frames }
      → last ≡ record mid { table = last.table; frames = last.frames } → last ≡ record first { table = last.table; frames = last.frames }
  others_then first mid last one two = two ∙ ap (λ (s : State B). record s { table = last.table; frames = last.frames }) one

  pub bare_then : (first mid last : State B) → bare mid.table ≡ bare first.table → bare last.table ≡ bare mid.table → bare last.table ≡ bare first.table
  bare_then first mid last one two = two ∙ one

  -- where no frame reaches anything, globals alone hold
  pub parted : (s : State B) → roots_of_frames s.frames ≡ [] → HoldsRoots s.table (roots_in s) → HoldsRoots s.table (s.outside ++ handles s.globals)
  parted s none counts = λ m.
      let all = times_append m (s.outside ++ handles s.globals) (roots_of_frames s.frames) in
      let nothing = ap (times m) none in
      omega (arith, counts m)

module _ {B : Type 0} (G : Ghosts B) (names : Names) where
  -- what is left of a world of which so much is reached
  abbrev swept_by : List ℕ → World → World
  swept_by held w = record w {
    objects = after_sweep held w.objects;
    events = w.events ++ map Dropped (drops_of_sweep held w.objects);
  }

  abbrev frames_of : Activity → List Frame
  frames_of a = a.frame ∷ a.callers

  no_roots : (rest : List HostRecord) (s : State B) → roots_of_frames s.frames ≡ []
      → releases.roots (frames_of (shown G names rest s)) (world_shown G names rest s) ≡ releases.roots [] (world_shown G names rest s)
  no_roots rest s none =
      ap (λ (l : List ℕ). s.outside ++ handles s.globals ++ l) (flat_map-map releases.roots_of_frame (frame_shown names) ((s.frames).frame ∷ (s.frames).callers) ∙ none)

  sweep_alone : (rest : List HostRecord) (s : State B) → roots_of_frames s.frames ≡ []
      → sweep (frames_of (shown G names rest s)) (world_shown G names rest s) ≡ sweep [] (world_shown G names rest s)
  unfolding sweep
  sweep_alone rest s none = ap (λ (l : List ℕ). swept_by l (world_shown G names rest s)) (no_roots rest s none)

  abbrev world_in : Option (Progress (Unit {0})) → World → World
  world_in (Some (Done value a)) w = a.world
  world_in _ w = w

  -- a release point where no frame reaches anything
  swept_world : (test : RankTest) (all rest : List HostRecord) (s new : State B) → roots_of_frames s.frames ≡ [] → test.has_ranks (world_shown G names all s) ≡ true
      → IfSome (release test (shown G names all s)) (λ p. Some (Done tt (shown G names rest new)) ≡ Some p)
      → world_shown G names rest new ≡ sweep [] (world_shown G names all s)
  unfolding release_point
  swept_world test all rest s new none ranks says =
      let done = rw ranks at says in
      ap (λ (o : Option (Progress (Unit {0}))). world_in o (world_shown G names rest new)) done ∙ sweep_alone all s none

  -- frames that are given up show the same world
  world_same : (rest : List HostRecord) (now mid : State B) → bare mid.table ≡ bare now.table
      → mid ≡ record now { table = mid.table; frames = mid.frames }
      → world_shown G names rest mid ≡ world_shown G names rest now
  world_same rest now mid same others =
      ap (world_shown G names rest) others ∙ ap (λ (a : Activity). a.world) (same_activity G names rest now mid.table same)

  -- an end of a run, all frames of which were given up
  module _ (test : RankTest) (now mid new : State B) (same : bare mid.table ≡ bare now.table) (others : mid ≡ record now { table = mid.table; frames = mid.frames }) (none : roots_of_frames mid.frames ≡ []) (released : Becomes G names (release test) mid (give tt) new) where
    tested : (rest : List HostRecord) (end : End) (b : Bool) → test.has_ranks (world_shown G names (released.records ++ rest) now) ≡ b
        → IfSome (cond b (Some (Some (outcome_with end (world_shown G names (released.records ++ rest) now)))) None)
        (λ outcome. Some (record { end = end; world = world_shown G names rest new }) ≡ outcome)
    tested rest end false is = tt
    tested rest end true is =
        let all = released.records ++ rest in
        let world = world_same all now mid same others in
        ap (λ (w : World). Some (record { end = end; world = w })) (swept_world test all rest mid new none (ap test.has_ranks world ∙ is) (released.same rest) ∙ ap (sweep []) world)

    outcome_same : (rest : List HostRecord) (end : End) (left : Guarded (Option Word)) (o : Option (Progress (Option Word)))
        → outcome_if test (left (shown G names (released.records ++ rest) now)) ≡ cond (test.has_ranks (world_shown G names (released.records ++ rest) now)) (Some (Some (outcome_with end (world_shown G names (released.records ++ rest) now)))) None
        → IfSome o (λ p. left (shown G names (released.records ++ rest) now) ≡ Some p)
        → IfSome (outcome_if test o) (λ outcome. Some (record { end = end; world = world_shown G names rest new }) ≡ outcome)
    outcome_same rest end left None says is = tt
    outcome_same rest end left (Some p) says is =
        subst (λ (o : Option (Option Outcome)). IfSome o (λ outcome. Some (record { end = end; world = world_shown G names rest new }) ≡ outcome))
        (sym says ∙ ap (outcome_if test) is) (tested rest end (test.has_ranks (world_shown G names (released.records ++ rest) now)) refl)

    ended_by : (run : Guarded (Option Word)) (start : State B) (left : Guarded (Option Word)) (end : End)
        → ((all : List HostRecord) → outcome_if test (left (shown G names all now)) ≡ cond (test.has_ranks (world_shown G names all now)) (Some (Some (outcome_with end (world_shown G names all now)))) None)
        → Becomes G names run start left now → ComesTo G names test run start end new
    ended_by run start left end says first = record {
      records = first.records ++ released.records;
      gave = gave_then G first.records released.records start.table start.events mid.table mid.events new.table new.events first_gave released.gave;
      same = λ rest. subst (λ (all : List HostRecord). IfSome (outcome_if test (run (shown G names all start))) (λ outcome. Some (record { end = end; world = world_shown G names rest new }) ≡ outcome)) (sym (append_assoc first.records released.records rest))
          (outcome_same rest end left (run (shown G names (first.records ++ (released.records ++ rest)) start)) (says (released.records ++ rest)) (first.same (released.records ++ rest)));
    }
      where
        first_gave : Gave G first.records start.table start.events mid.table mid.events
        first_gave =
            subst (λ (rs : List HostRecord). Gave G rs start.table start.events mid.table mid.events) (append-nil first.records)
            (gave_then G first.records [] start.table start.events now.table now.events mid.table mid.events first.gave
            (gave_nothing G now.table now.events mid.table mid.events (follows_bare G now.table mid.table same) (ap (λ (s : State B). s.events) others)))

    pub finishes : (run : Guarded (Option Word)) (start : State B) (counts : List ℕ) (value : Option Word)
        → Becomes G names run start (return_value counts value) now → ComesTo G names test run start (Finished value) new
    finishes run start counts value first =
        ended_by run start (return_value counts value) (Finished value)
        (λ all. ap (λ (o : Option (Progress (Unit {0}))). outcome_if test (onward o (λ _. give value))) (each_left counts (shown G names all now))) first

    pub interrupts : (run : Guarded (Option Word)) (start : State B) (interrupt : Interrupt)
        → Becomes G names run start (stop interrupt) now
        → ComesTo G names test run start (interrupted_in interrupt (frame_shown names (now.frames).frame)) new
    interrupts run start interrupt first =
        ended_by run start (stop interrupt) (interrupted_in interrupt (frame_shown names (now.frames).frame)) (λ all. refl) first

  -- if memory was not refused
  pub on_ok : {P : Type 0} (test : RankTest) (mid new : State B) (r : Result (Unit {0}) Stop) → Comes G names (release test) mid r new
      → (Becomes G names (release test) mid (give tt) new → P) → OnOk r P
  on_ok test mid new (Ok value) comes then = then comes
  on_ok test mid new (Err end) comes then = tt
