use Rattle.std.proofs.Common.{subst}
use Rattle.ash_disk.specs.DiskImage.{TornFrom}
use Rattle.ash_disk.proofs.MomentLaws.{weaker}
use Rattle.ash_journal.specs.Reading.{ShutIs}
use Rattle.ash_journal.specs.Writes.{IsUnused}
use Rattle.ash_journal.proofs.GateLaws.{torn_idle}
use Rattle.ash_journal.proofs.creation.clear.Goals as goal

pub returns-clause-moments : goal.returns-clause-moments
returns-clause-moments g c honest shut idle =
    let d = g.D.Disk in
    let disk = c.args.disk.now in
    let not_shut = subst (λ s. ShutIs s (d.seen disk)) c.if-gate.false shut in
    weaker _ _ _ _ (TornFrom 0 1 (d.leaves disk (d.clock disk))) IsUnused
    (torn_idle (d.leaves disk (d.clock disk)) (d.seen disk) (g.met.D.Disk.seen_may_stay disk honest) not_shut idle)
    (c.write_durably.ensures.moments honest)
