use Rattle.std.proofs.Common.{length}
use Rattle.ash_plain_scripts.proofs.switches.+from_default.Given as goal

abbrev pub decreases-from_default : goal.decreases-from_default
decreases-from_default l = length l.all.now
