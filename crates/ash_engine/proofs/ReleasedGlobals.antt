-- Where globals give up what they hold, no box answers.
use Rattle.std.proofs.Common.{◌≡◌, ℕ, List, [], ◌∷◌, ◌++◌, map, refl, sym, ap, ◌∙◌, subst, inl, inr}
use Rattle.std.specs.Prelude.{filter}
use Rattle.std.specs.Map.{keys_of}
use Rattle.std.proofs.lemmas.List.{append-nil, append_cancel_left}
use Rattle.ash_host.specs.declared.event.Event.{Event}
use Rattle.ash_host.specs.declared.event.Event.TheVariants.{Dropped}
use Rattle.ash_host.specs.declared.host_object.HostObject.{Ghosts}
use Rattle.ash_host.specs.declared.word.Word.{Word}
use Rattle.ash_host.specs.declared.word.Word.TheVariants as words
use Rattle.ash_host.specs.Objects.{handles, numbers, AreNumbered, IsInOrder}
use Rattle.ash_host.specs.Records.{HostRecord}
use Rattle.ash_slots.specs.Bodies.{is_boxed}
use Rattle.ash_objects.specs.Table.{Living, Table}
use Rattle.ash_objects.specs.Sweeping.{gone_from, drops}
use Rattle.ash_run_steps.specs.Answered.{drawn_in}
use Rattle.ash_run_steps.specs.Becoming.{Gave}
use Rattle.ash_run_steps.specs.Following.{KeepsBoxes, MarksNoMore}
use Rattle.ash_run_steps.specs.GuardedSteps.{RankTest}
use Rattle.ash_run_steps.specs.RunStates.{State, Names, HoldsRoots}
use Rattle.ash_run_steps.specs.Stacks.{Frames}
use Rattle.ash_run_steps.proofs.AnsweredRuns.{numbered_bare}
use Rattle.ash_run_steps.proofs.Bare.{follows_bare}
use Rattle.ash_run_steps.proofs.Composed.{gave_nothing, gave_then}
use Rattle.ash_run_steps.proofs.Swept.{release_gives, marked_swept}
use Rattle.ash_engine.specs.TableRuns.{Released}
use Rattle.ash_engine.proofs.TableReleases.{held_less}

-- host objects that went were not drawn
none_drawn : (ns : List ℕ) → drawn_in (map (λ n. Dropped n) ns) ≡ []
none_drawn [] = refl
none_drawn (n ∷ ns) = none_drawn ns

nothing_numbered : {B : Type 0} (drawn : List (ℕ × B)) → numbers drawn ≡ [] → drawn ≡ []
nothing_numbered [] none = refl
nothing_numbered (e ∷ drawn) none = absurd (cc)

-- a frame that reaches nothing
no_frames : Frames
no_frames = record {
  frame = record {
    function = 0;
    line = 0;
    this = words.Null;
    back = 0;
    slots = [];
    count = 0;
    held = [];
  };
  callers = [];
}

module _ {B : Type 0} (G : Ghosts B) (names : Names) (test : RankTest) where
  state_of : List ℕ → Table B → List Event → State B
  state_of outside table events = record {
    table = table;
    frames = no_frames;
    globals = [];
    outside = outside;
    events = events;
    ticks = 0;
  }

  -- where drops alone happened, no box answered
  drops_gave : (records : List HostRecord) (old new : Table B) (before : List Event) (gone : List (ℕ × Living B))
      → MarksNoMore [] old new → Gave G records old before new (before ++ drops gone)
      → Gave G [] old before new (before ++ drops gone)
  drops_gave records old new before gone no_more gave =
      let happened : drops gone ≡ gave.happened = append_cancel_left before (drops gone) gave.happened gave.told in
      let undrawn : drawn_in (drops gone) ≡ [] = none_drawn (keys_of (filter (λ e. is_boxed (e.1).body) gone)) in
      let none : gave.drawn ≡ [] = nothing_numbered gave.drawn (gave.in_turn ∙ ap drawn_in (sym happened) ∙ undrawn) in
      record {
        drawn = [];
        happened = drops gone;
        told = refl;
        in_turn = sym undrawn;
        valid = tt;
        follows = record {
          boxes = subst (λ (l : List (ℕ × B)). KeepsBoxes G l old new) none (gave.follows).boxes;
          marks = (gave.follows).marks;
          no_more = no_more;
        };
      }

  pub released_gave : (outside : List ℕ) (given : List Word) (old new : Table B) (before after : List Event)
      → AreNumbered old.last old.objects → IsInOrder new.objects
      → HoldsRoots old (outside ++ handles given) → Released given old new before after → Gave G [] old before new after
  unfolding state_of no_frames
  released_gave outside given old new before after numbered order held r =
      let counted : HoldsRoots r.unheld outside = held_less (handles given) outside old r.unheld held r.less in
      let roots : HoldsRoots r.unheld (outside ++ [] ++ []) = subst (HoldsRoots r.unheld)
      (sym (append-nil (outside ++ []) ∙ append-nil outside)) counted in
      let was = numbered_bare old r.unheld (r.less).same numbered in
      let swept = release_gives G names (state_of outside r.unheld before) new roots was.in_order order r.swept test in
      let gave = drops_gave swept.records r.unheld new before (gone_from r.unheld.objects new.objects)
      (λ n is has. inr (inl (marked_swept r.unheld new (r.swept).collected n is))) swept.gave in
      let went : Gave G [] r.unheld before new after = subst (λ (es : List Event). Gave G [] r.unheld before new es)
      (sym r.dropped) gave in
      gave_then G [] [] old before r.unheld before new after
      (gave_nothing G old before r.unheld before (follows_bare G old r.unheld (r.less).same) refl) went

  -- after a run, the boxes gave the answers of the run
  pub run_released : (records : List HostRecord) (start : Table B) (first : List Event) (outside : List ℕ)
      (given : List Word) (old new : Table B) (before after : List Event)
      → Gave G records start first old before → AreNumbered old.last old.objects → IsInOrder new.objects
      → HoldsRoots old (outside ++ handles given) → Released given old new before after
      → Gave G records start first new after
  run_released records start first outside given old new before after gave numbered order held r =
      subst (λ (rs : List HostRecord). Gave G rs start first new after) (append-nil records)
      (gave_then G records [] start first old before new after gave
      (released_gave outside given old new before after numbered order held r))
