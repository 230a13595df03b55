use Rattle.ash_disk.proofs.CallLaws.{during_sync}
use Rattle.ash_disk.proofs.memory.MemoryDiskDisk.sync.Goals as goal

pub returns-clause-moments : goal.returns-clause-moments
returns-clause-moments c =
    during_sync c.args.self.now.first.items c.args.self.now.calls.items c.push.new.self.items _ c.push.ensures.items
