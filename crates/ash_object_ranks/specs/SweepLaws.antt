-- That a sweep of a table by counts takes exactly what can't be reached.
use Rattle.std.specs.Prelude.{◌≡◌, ◌<◌, ℕ, List, ◌++◌, map, Contains}
use Rattle.ash_host.specs.declared.event.Event.TheVariants.{Dropped}
use Rattle.ash_host.specs.declared.host_object.HostObject.{Ghosts}
use Rattle.ash_host.specs.Objects.{LiveObjects, object_at, IsInOrder}
use Rattle.ash_host.specs.Reach.{Reachable, AreObjectRanks, after_sweep, drops_of_sweep}
use Rattle.ash_typed.specs.Signatures.{HostSignatures}
use Rattle.ash_meaning.specs.Activity.{World, Frame}
use Rattle.ash_meaning.specs.Releases.{roots, sweep}
use Rattle.ash_soundness.specs.WellFormed.{Known, AreObjects}
use Rattle.ash_objects.specs.Table.{Table, holds_of}
use Rattle.ash_objects.specs.Sweeping.{RefersTo, IsReachable, Collects, RanksFall, LeavesReachable}
use Rattle.ash_objects.specs.Sweeping.{gone_from, drops}
use Rattle.ash_object_ranks.specs.ObjectRanks.{ClassRanks, AreSound, HaveRanks}
use Rattle.ash_object_ranks.specs.ShownTables.{SlotNames, objects_shown}

module _ {B : Type 0} where
  -- The same can be reached from the holds of a table and from these numbers: each object that is held from these
  -- numbers, and each of these from what is held. So a table needs no hold of a number to which another one leads.
  pub record ReachTheSame (held : List ℕ) (table : Table B) : Type 0 where
    pub holds : (number : ℕ) → 0 < holds_of number table
        → Reachable (Contains held) (RefersTo table.objects) number
    pub numbers : (number : ℕ) → Contains held number → IsReachable table number

  -- What `Objects::sweep` promises of the table if memory is not refused. It promises too that its events are those
  -- before it and then the `drops` of what has gone, which the laws below compare with what a release point drops.
  pub record SweptByCounts (old new : Table B) : Type 0 where
    pub collected : Collects old new
    pub reachable : (rank : ℕ → ℕ) (top : ℕ) → RanksFall rank top old → LeavesReachable old new

  module _ (G : Ghosts B) (names : SlotNames) where
    -- A sweep of a table leaves, of its objects as plain data, those that are left by this sweep, and drops the same.
    pub record SweepsAs (left : LiveObjects (List ℕ)) (gone : List ℕ) (old new : Table B) : Type 0 where
      pub each : (number : ℕ) → object_at number (objects_shown G names new.objects) ≡ object_at number left
      pub all : IsInOrder old.objects → IsInOrder new.objects → objects_shown G names new.objects ≡ left
      pub dropped : drops (gone_from old.objects new.objects) ≡ map Dropped gone

    -- ranks of the objects as plain data are ranks of the table
    abbrev pub TablesHaveRanks : Type 0
    TablesHaveRanks =
        (table : Table B) (rank : ℕ → ℕ) (top : ℕ)
        → AreObjectRanks rank top (objects_shown G names table.objects)
        → RanksFall rank top table

    -- where the objects are those of modules whose classes have ranks
    abbrev pub SweepsTakeTheUnreachable : Type 0
    SweepsTakeTheUnreachable =
        (host : HostSignatures) (modules : Known) (ranks : ClassRanks) (held : List ℕ) (old new : Table B)
        → AreSound host modules
        → HaveRanks host modules ranks
        → AreObjects modules (objects_shown G names old.objects)
        → ReachTheSame held old
        → SweptByCounts old new
        → SweepsAs (after_sweep held (objects_shown G names old.objects))
        (drops_of_sweep held (objects_shown G names old.objects)) old new

    -- The sweep of a table that has the objects of a world is what a release point does to the world.
    pub record Releases (frames : List Frame) (w : World) (old new : Table B) : Type 0 where
      pub each : (number : ℕ) → object_at number (objects_shown G names new.objects)
          ≡ object_at number (sweep frames w).objects
      pub all : IsInOrder new.objects → objects_shown G names new.objects ≡ (sweep frames w).objects
      pub events : w.events ++ drops (gone_from old.objects new.objects) ≡ (sweep frames w).events

    abbrev pub SweepsAreReleases : Type 0
    SweepsAreReleases =
        (host : HostSignatures) (modules : Known) (ranks : ClassRanks) (frames : List Frame) (w : World)
        (old new : Table B)
        → AreSound host modules
        → HaveRanks host modules ranks
        → AreObjects modules w.objects
        → IsInOrder w.objects
        → objects_shown G names old.objects ≡ w.objects
        → ReachTheSame (roots frames w) old
        → SweptByCounts old new
        → Releases frames w old new
