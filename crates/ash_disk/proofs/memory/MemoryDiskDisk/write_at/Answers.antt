use Rattle.ash_disk.proofs.CallLaws.{during_write}
use Rattle.ash_disk.proofs.memory.MemoryDiskDisk.write_at.Goals as goal

pub returns-clause-moments : goal.returns-clause-moments
returns-clause-moments c =
    during_write c.args.self.now.first.items c.args.self.now.calls.items c.record_write-outcome.new.calls.items c.args.at
    c.args.bytes.now c.record_write-outcome.result c.record_write-outcome.ensures.recorded
    c.record_write-outcome.ensures.none_recorded
