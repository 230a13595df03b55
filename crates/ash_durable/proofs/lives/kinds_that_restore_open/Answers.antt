use Rattle.ash_durable.proofs.HandedOver.{kinds_open}
use Rattle.ash_durable.proofs.lives.kinds_that_restore_open.Goals as goal

pub returns : goal.returns
returns g c = record {
  opens = λ pool services state saved restore. kinds_open g.B.HostObject pool services state saved restore;
}
