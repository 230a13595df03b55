use Rattle.std.proofs.Common.{refl}
use Rattle.ash_replay.proofs.Replaying.{reads_nothing}
use Rattle.ash_replay.proofs.replay.stored_image.Goals as goal

pub returns-in-None : goal.returns-in-None
returns-in-None c = record {
  reads_image = (
    reads_nothing c.args.image.now c.in_ok-stored.field-0 c.in-None.is c.in_ok-stored.ensures.only,
    refl,
  );
}
