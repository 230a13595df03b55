use Rattle.std.proofs.Common.{◌≡◌, take, reverse}
use Rattle.ash_disk.specs.DiskCalls.{file_after}
use Rattle.ash_disk.proofs.crash.image_of_all.Given as goal

abbrev pub invariant-loop-call : goal.invariant-loop-call
invariant-loop-call l = l.file.items ≡ file_after l.first (reverse (take l.call-index l.calls))
