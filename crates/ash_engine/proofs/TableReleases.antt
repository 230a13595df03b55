-- What goes with the globals of a module, at a release point.
use Rattle.std.proofs.Common.{◌≡◌, ◌+◌, ℕ, List, [], ◌++◌, map, refl, sym, ap, ◌∙◌, subst, arith}
use Rattle.ash_host.specs.declared.event.Event.{Event}
use Rattle.ash_host.specs.declared.host_object.HostObject.{Ghosts}
use Rattle.ash_host.specs.declared.word.Word.{Word}
use Rattle.ash_host.specs.Objects.{handles, IsInOrder}
use Rattle.ash_typed.specs.Signatures.{HostSignatures}
use Rattle.ash_meaning.specs.Activity.{World}
use Rattle.ash_meaning.specs.Releases.{roots, sweep}
use Rattle.ash_objects.specs.Table.{Table}
use Rattle.ash_objects.specs.Sweeping.{gone_from, drops}
use Rattle.ash_object_ranks.specs.ObjectRanks.{ClassRanks, AreSound, HaveRanks}
use Rattle.ash_object_ranks.specs.ShownTables.{SlotNames, objects_shown}
use Rattle.ash_object_ranks.specs.SweepLaws.{SweptByCounts}
use Rattle.ash_object_ranks.proofs.Sweeps.{sweeps_are_releases}
use Rattle.ash_run_steps.specs.RunStates.{HoldsRoots, HoldsLess, times}
use Rattle.ash_run_steps.proofs.Bare.{same_shown}
use Rattle.ash_run_steps.proofs.Roots.{times_append}
use Rattle.ash_run_steps.proofs.Swept.{held_by_roots, holds_swept}
use Rattle.ash_soundness.specs.WellFormed.{Known, AreObjects}
use Rattle.ash_engine.specs.TableRuns.{Released}

module _ {B : Type 0} where
  -- Once some of the roots are given up, each object is held as often as it is among the others.
  pub held_less : (given others : List ℕ) (old new : Table B) → HoldsRoots old (others ++ given) → HoldsLess given old new → HoldsRoots new others
  held_less given others old new held less n = let counts = less.counts n in omega (arith, counts, held n, times_append n others given)

module _ {B : Type 0} (G : Ghosts B) (names : SlotNames) where
  -- What is released is what a release point does to the world whose roots are the others.
  pub record ReleasesAs (w : World) (old new : Table B) (after : List Event) : Type 0 where
    pub shown : objects_shown G names new.objects ≡ (sweep [] w).objects
    pub events : after ≡ (sweep [] w).events
    pub held : HoldsRoots new (roots [] w)
    pub pool : new.pool ≡ old.pool
    pub services : new.services ≡ old.services
    pub last : new.last ≡ old.last

  pub releases_as : (host : HostSignatures) (known : Known) (ranks : ClassRanks) (w : World) (words : List Word) (old new : Table B) (after : List Event)
      → AreSound host known → HaveRanks host known ranks → AreObjects known w.objects → IsInOrder w.objects → IsInOrder new.objects
      → objects_shown G names old.objects ≡ w.objects → HoldsRoots old (roots [] w ++ handles words)
      → Released words old new w.events after → ReleasesAs w old new after
  releases_as host known ranks w words old new after sound ranked living before order same held r =
      let counted = held_less (handles words) (roots [] w) old r.unheld held r.less in
      let shown = same_shown G names old r.unheld r.less.same ∙ same in
      let does = sweeps_are_releases G names host known ranks [] w r.unheld new sound ranked living before shown (held_by_roots r.unheld (roots [] w) counted) r.swept in
      let others = r.swept.collected.others in
      record {
        shown = does.all order;
        events = r.dropped ∙ does.events;
        held = λ n. holds_swept r.unheld new r.swept.collected n ∙ counted n;
        pool = ap (λ (t : Table B). t.pool) others ∙ ap (λ (t : Table B). t.pool) r.less.same;
        services = ap (λ (t : Table B). t.services) others ∙ ap (λ (t : Table B). t.services) r.less.same;
        last = ap (λ (t : Table B). t.last) others ∙ ap (λ (t : Table B). t.last) r.less.same;
      }
