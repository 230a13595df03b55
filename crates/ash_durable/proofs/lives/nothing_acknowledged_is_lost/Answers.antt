use Rattle.ash_durable.proofs.LifeLaws.{outlives, settles_by, opens}
use Rattle.ash_durable.proofs.Prefixes.{prefix}
use Rattle.ash_durable.proofs.lives.nothing_acknowledged_is_lost.Goals as goal

pub returns-clause-whole : goal.returns-clause-whole
returns-clause-whole g c start events place life =
    outlives g.D.Disk g.B.HostObject g.met.D.Disk.seen_may_stay start events place life

pub returns-clause-each : goal.returns-clause-each
returns-clause-each g c start later event earlier place life =
    settles_by g.D.Disk g.B.HostObject g.met.D.Disk.seen_may_stay start later event earlier place life

pub returns-clause-opens : goal.returns-clause-opens
returns-clause-opens g c start events pool services a b refused life can was =
    opens g.D.Disk g.B.HostObject g.met.D.Disk.seen_may_stay start events pool services a b refused life can was

pub returns-clause-prefix : goal.returns-clause-prefix
returns-clause-prefix g c start events place life = prefix g.D.Disk g.B.HostObject start events place life
