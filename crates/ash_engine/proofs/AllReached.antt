-- A release point without frames, at which every object can be reached: nothing goes.
use Rattle.std.proofs.Common.{◌≡◌, ◌∙◌, ℕ, List, [], ◌++◌, map, refl, ap}
use Rattle.std.specs.Prelude.{Option, Some, None, Contains, IsSome}
use Rattle.std.proofs.lemmas.List.{append-nil}
use Rattle.ash_host.specs.declared.event.Event.{Event}
use Rattle.ash_host.specs.declared.event.Event.TheVariants.{Dropped}
use Rattle.ash_host.specs.Objects.{object_at, IsInOrder, Lives}
use Rattle.ash_host.specs.Reach.{ReachableIn, Swept, hosts_gone, after_sweep, drops_of_sweep}
use Rattle.ash_host.proofs.ReachLaws.{sweep_is_exact}
use Rattle.ash_host.proofs.SweepLaws.{swept_again, sweep_is_one, drops_are_one}
use Rattle.ash_meaning.specs.Activity.{World}
use Rattle.ash_meaning.specs.Releases.{roots, sweep}

unless_some : {A : Type 0} (o : Option A) → (IsSome o → ⊥) → o ≡ None
unless_some None none = refl
unless_some (Some x) none = absurd (none refl)

module _ (w : World) (order : IsInOrder w.objects)
    (reached : (n : ℕ) → Lives w.objects n → ReachableIn (Contains (roots [] w)) w.objects n) where
  as_it_is : Swept (Contains (roots [] w)) w.objects w.objects (hosts_gone w.objects w.objects)
  as_it_is = record {
    stays = λ n reach. refl;
    goes = λ n unreached. unless_some (object_at n w.objects) (λ lives. unreached (reached n lives));
    in_order = order;
    reported = refl;
  }

  by_sweep : Swept (Contains (roots [] w)) w.objects (after_sweep (roots [] w) w.objects)
      (drops_of_sweep (roots [] w) w.objects)
  by_sweep = sweep_is_exact (roots [] w) w.objects order

  pub nothing_goes : sweep [] w ≡ w
  unfolding sweep
  nothing_goes =
      let objects = sweep_is_one (roots [] w) by_sweep (swept_again as_it_is) in
      let none = drops_are_one (roots [] w) by_sweep (swept_again as_it_is) in
      (λ i. record w { objects = objects i; events = w.events ++ map Dropped (none i) })
      ∙ ap (λ (events : List Event). record w { events = events }) (append-nil w.events)
