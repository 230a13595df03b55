-- What a release point does.
use Rattle.std.proofs.Common.{List, ◌∷◌, refl}
use Rattle.ash_host.specs.Objects.{IsInOrder}
use Rattle.ash_host.proofs.ReachLaws.{sweep_is_exact}
use Rattle.ash_meaning.specs.Activity.{World, Frame, Activity}
use Rattle.ash_meaning.specs.Releases.{roots, sweep, release}
use Rattle.ash_meaning.specs.MeaningLaws.{IsReleased, ReleasesTheUnreachable}

pub swept_by : (frames : List Frame) (world : World) → IsInOrder world.objects → IsReleased frames world (sweep frames world)
unfolding sweep
swept_by frames world in_order = record {
  swept = sweep_is_exact (roots frames world) world.objects in_order;
  events = refl;
  others = refl;
}

pub released : (activity : Activity) → IsInOrder (activity.world).objects → ReleasesTheUnreachable activity
unfolding release
released activity in_order = record {
  runs = refl;
  world = swept_by (activity.frame ∷ activity.callers) activity.world in_order;
}
