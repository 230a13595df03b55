use Rattle.std.proofs.Common.{length}
use Rattle.ash_plain_scripts.proofs.switches.+from_constant.Given as goal

abbrev pub decreases-from_constant : goal.decreases-from_constant
decreases-from_constant l = length l.all.now
