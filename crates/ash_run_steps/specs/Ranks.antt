-- The test of the ranks that classes give to their objects, and that it says yes of what is well-formed.
use Rattle.std.specs.Prelude.{◌≡◌, Bool, true, List}
use Rattle.ash_typed.specs.Signatures.{HostSignatures}
use Rattle.ash_typed.specs.SoundExpressions.{TypedEnvironment}
use Rattle.ash_meaning.specs.Activity.{World, Activity}
use Rattle.ash_soundness.specs.WellFormed.{Known, Context, AreObjects, IsWorld, IsWellFormed}
use Rattle.ash_object_ranks.specs.ObjectRanks.{ClassRanks, AreSound, HaveRanks, rank_at, rank_limit}
use Rattle.ash_run_steps.specs.GuardedSteps.{RankTest}
use Rattle.ash_run_steps.specs.RankedObjects.{are_ranked, ranked_says}

-- each reference of the objects of a world falls in the ranks that the classes of these modules give
abbrev pub has_ranks : Known → ClassRanks → World → Bool
has_ranks modules ranks world = are_ranked (rank_at modules ranks world.objects) rank_limit world.objects

-- the test of that
abbrev pub rank_test : Known → ClassRanks → RankTest
rank_test modules ranks = record {
  has_ranks = has_ranks modules ranks;
  says = λ world is. (
    rank_at modules ranks world.objects,
    rank_limit,
    ranked_says (rank_at modules ranks world.objects) rank_limit world.objects is,
  );
}

-- Among objects that are well-formed the test says yes.
abbrev pub ObjectsPass : Type 0
ObjectsPass = (host : HostSignatures) (modules : Known) (ranks : ClassRanks) (world : World) → AreSound host modules
    → HaveRanks host modules ranks → AreObjects modules world.objects
    → (rank_test modules ranks).has_ranks world ≡ true

-- in a world that is well-formed
abbrev pub WorldsPass : Type 0
WorldsPass = (c : Context) (ranks : ClassRanks) (world : World) → AreSound c.host c.modules
    → HaveRanks c.host c.modules ranks → IsWorld c world
    → (rank_test c.modules ranks).has_ranks world ≡ true

-- in an activity that is well-formed
abbrev pub ActivitiesPass : Type 0
ActivitiesPass = (c : Context) (ranks : ClassRanks) (env : TypedEnvironment) (envs : List TypedEnvironment)
    (activity : Activity) → AreSound c.host c.modules → HaveRanks c.host c.modules ranks
    → IsWellFormed c env envs activity
    → (rank_test c.modules ranks).has_ranks activity.world ≡ true
