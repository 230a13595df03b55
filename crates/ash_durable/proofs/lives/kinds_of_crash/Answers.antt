use Rattle.ash_durable.proofs.CrashedDisks.{power_failure, process_end}
use Rattle.ash_durable.proofs.lives.kinds_of_crash.Goals as goal

pub returns-clause-power : goal.returns-clause-power
returns-clause-power g c a b first second new_first new_second x y left begins =
    power_failure g.D.Disk a b first second new_first new_second x y left begins

pub returns-clause-process : goal.returns-clause-process
returns-clause-process g c first second honest = process_end g.D.Disk first second honest
