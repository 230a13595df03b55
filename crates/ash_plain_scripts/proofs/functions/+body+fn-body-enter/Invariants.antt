use Rattle.std.proofs.Common.{◌+◌, ◌*◌}
use Rattle.ash_plain_scripts.proofs.functions.+body+fn-body-enter.Given as goal

-- a call inside goes less deep
abbrev pub decreases-body : goal.decreases-body
decreases-body l = 2 * l.depth

abbrev pub decreases-enter : goal.decreases-enter
decreases-enter l = 2 * l.below + 1
