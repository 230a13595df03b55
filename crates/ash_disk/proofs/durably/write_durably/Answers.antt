use Rattle.std.proofs.Common.{IsTrue, length, sym, subst}
use Rattle.std.proofs.lemmas.Result.{on_ok_weaker}
use Rattle.ash_disk.specs.DiskImage.{TornFrom}
use Rattle.ash_disk.proofs.MomentLaws.{at_end, goes_on, weaker}
use Rattle.ash_disk.proofs.durably.write_durably.Goals as goal

pub returns-clause-durable : goal.returns-clause-durable
returns-clause-durable g c =
    on_ok_weaker c.sync.result
    (λ durable honest. durable (subst IsTrue (sym c.write_at.ensures.honesty) honest)) c.sync.ensures.durable

-- a sync leaves no image that the write did not
pub returns-clause-moments : goal.returns-clause-moments
returns-clause-moments g c honest =
    let torn = TornFrom c.args.at (length c.args.bytes.now)
    (g.D.Disk.leaves c.args.disk.now (g.D.Disk.clock c.args.disk.now)) in
    let writing = c.write_at.ensures.moments honest in
    let syncing = c.sync.ensures.moments (subst IsTrue (sym c.write_at.ensures.honesty) honest) in
    goes_on _ _ _ _ _ _ torn writing (weaker _ _ _ _ _ torn (at_end _ _ _ _ torn writing) syncing)
