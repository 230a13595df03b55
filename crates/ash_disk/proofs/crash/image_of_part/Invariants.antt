use Rattle.std.proofs.Common.{◌≡◌, take, reverse}
use Rattle.ash_disk.specs.DiskCalls.{file_after, MayLeave}
use Rattle.ash_disk.proofs.crash.image_of_part.Given as goal

abbrev pub invariant-loop-call : goal.invariant-loop-call
invariant-loop-call l =
    record {
      read : l.file.items ≡ file_after l.first (reverse (take l.call-index l.calls));
      left : MayLeave l.first (reverse (take l.call-index l.calls)) l.image.items;
    }
