-- That the objects of modules whose classes have ranks have ranks.
use Rattle.std.specs.Prelude.{ℕ, List}
use Rattle.ash_host.specs.Objects.{LiveObjects}
use Rattle.ash_host.specs.Reach.{AreObjectRanks}
use Rattle.ash_typed.specs.Signatures.{HostSignatures}
use Rattle.ash_typed.specs.SoundExpressions.{TypedEnvironment}
use Rattle.ash_meaning.specs.Activity.{World, Activity}
use Rattle.ash_requests.specs.Premises.{ReadsSound}
use Rattle.ash_requests.specs.States.{State, Embedding}
use Rattle.ash_soundness.specs.WellFormed.{Known, Context, AreObjects, IsWorld, IsWellFormed}
use Rattle.ash_soundness.specs.WellFormedStates.{known_of, IsWellFormedState}
use Rattle.ash_object_ranks.specs.ObjectRanks.{ClassRanks, AreSound, HaveRanks, rank_at, rank_limit}

-- the objects' ranks fall along every reference, and stay below the limit
abbrev pub FallAmong : Known → ClassRanks → LiveObjects (List ℕ) → Type 0
FallAmong modules ranks all = AreObjectRanks (rank_at modules ranks all) rank_limit all

-- among objects that are well-formed
abbrev pub ObjectsHaveRanks : Type 0
ObjectsHaveRanks =
    (host : HostSignatures) (modules : Known) (ranks : ClassRanks) (all : LiveObjects (List ℕ))
    → AreSound host modules
    → HaveRanks host modules ranks
    → AreObjects modules all
    → FallAmong modules ranks all

-- in a world that is well-formed
abbrev pub WorldsHaveRanks : Type 0
WorldsHaveRanks =
    (c : Context) (ranks : ClassRanks) (w : World)
    → AreSound c.host c.modules
    → HaveRanks c.host c.modules ranks
    → IsWorld c w
    → FallAmong c.modules ranks w.objects

-- in an activity that is well-formed
abbrev pub ActivitiesHaveRanks : Type 0
ActivitiesHaveRanks =
    (c : Context) (ranks : ClassRanks) (env : TypedEnvironment) (envs : List TypedEnvironment) (a : Activity)
    → AreSound c.host c.modules
    → HaveRanks c.host c.modules ranks
    → IsWellFormed c env envs a
    → FallAmong c.modules ranks (a.world).objects

-- between two requests, where sources are read as sound modules
abbrev pub StatesHaveRanks : {Fault : Type 0} → Embedding Fault → HostSignatures → Type 0
StatesHaveRanks embedding host =
    (ranks : ClassRanks) (s : State)
    → ReadsSound host embedding
    → HaveRanks host (known_of embedding s.modules) ranks
    → IsWellFormedState embedding host s
    → FallAmong (known_of embedding s.modules) ranks s.objects
