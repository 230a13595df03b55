-- A release point at which everything can be reached changes nothing.
use Rattle.std.proofs.Common.{◌≡◌, ◌∙◌, ℕ, List, [], ◌∷◌, ◌++◌, map, refl, ap}
use Rattle.std.specs.Prelude.{Option, Some, None, Contains, IsSome}
use Rattle.std.proofs.lemmas.List.{append-nil}
use Rattle.ash_host.specs.declared.event.Event.{Event}
use Rattle.ash_host.specs.declared.event.Event.TheVariants.{Dropped}
use Rattle.ash_host.specs.Objects.{LiveObjects, object_at, AreNumbered}
use Rattle.ash_host.specs.Reach.{Swept, hosts_gone, after_sweep, drops_of_sweep}
use Rattle.ash_host.proofs.ReachLaws.{sweep_is_exact}
use Rattle.ash_host.proofs.SweepLaws.{swept_again, sweep_is_one, drops_are_one}
use Rattle.ash_meaning.specs.Activity.{World, Frame, Activity}
use Rattle.ash_meaning.specs.Releases.{roots, sweep, release}
use Rattle.ash_meaning.specs.Runs.{Done}
use Rattle.ash_release_laws.specs.Settling.{IsSettledFrom, IsNumbered, IsSettled}

pub none_there : {A : Type 0} (o : Option A) → ¬ IsSome o → o ≡ None
none_there None h = refl
none_there (Some x) h = absurd (h refl)

module _ (frames : List Frame) (w : World) (numbered : AreNumbered w.last w.objects) (s : IsSettledFrom frames w) where
  abbrev held : List ℕ
  held = roots frames w

  kept : Swept (Contains held) w.objects w.objects (hosts_gone w.objects w.objects)
  kept = record {
    stays = λ n r. refl;
    goes = λ n unreached. none_there (object_at n w.objects) (λ l. unreached (s.reached n l));
    in_order = numbered.in_order;
    reported = refl;
  }

  exact : Swept (Contains held) w.objects (after_sweep held w.objects) (drops_of_sweep held w.objects)
  exact = sweep_is_exact held w.objects numbered.in_order

  objects_same : after_sweep held w.objects ≡ w.objects
  objects_same = sweep_is_one held exact (swept_again kept)

  none_dropped : drops_of_sweep held w.objects ≡ []
  none_dropped = drops_are_one held exact (swept_again kept)

  events_same : w.events ++ map Dropped (drops_of_sweep held w.objects) ≡ w.events
  events_same = ap (λ (ns : List ℕ). w.events ++ map Dropped ns) none_dropped ∙ append-nil w.events

  pub sweep_same : sweep frames w ≡ w
  unfolding sweep
  sweep_same =
      ap (λ (objects : LiveObjects (List ℕ)). record w { objects = objects; events = w.events ++ map Dropped (drops_of_sweep held w.objects) }) objects_same
      ∙ ap (λ (events : List Event). record w { events = events }) events_same

pub release_same : (a : Activity) → IsNumbered a → IsSettled a → release a ≡ Done tt a
unfolding release
release_same a numbered s = ap (λ (w : World). Done tt (record a { world = w })) (sweep_same (a.frame ∷ a.callers) a.world numbered s)
