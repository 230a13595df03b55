use Rattle.ash_disk.proofs.CallLaws.{synced_left, read_left}
use Rattle.ash_disk.proofs.memory.MemoryDisk.crash_image.Goals as goal

pub returns-in-Nothing-clause-allowed : goal.returns-in-Nothing-clause-allowed
returns-in-Nothing-clause-allowed c =
    synced_left c.image_of_synced.result c.args.self.now.first.items c.deref-in-Nothing.result.now
    c.args.self.now.calls.items c.deref.result.now c.args.calls c.deref-in-Nothing.ensures.value c.deref.ensures.value
    c.image_of_synced.ensures.value

pub returns-in-Everything-clause-allowed : goal.returns-in-Everything-clause-allowed
returns-in-Everything-clause-allowed c =
    read_left c.image_of_all.result c.args.self.now.first.items c.deref-in-Everything.result.now
    c.args.self.now.calls.items c.deref.result.now c.args.calls c.deref-in-Everything.ensures.value
    c.deref.ensures.value c.image_of_all.ensures.value
