use Rattle.std.proofs.Common.{refl}
use Rattle.ash_image.specs.NamedViews.{state_seen}
use Rattle.ash_replay.proofs.Replaying.{nowhere}
use Rattle.ash_replay.proofs.records.next_state.Goals as goal

pub returns-in-None : goal.returns-in-None
returns-in-None c = record {
  leads_on = (
    nowhere c.args.version c.deref.result.now c.args.next.now.body.items (state_seen c.args.before)
        c.in_ok-state.field-0 c.deref.ensures.value c.in-None.is c.in_ok-state.ensures.only,
    refl,
  );
}
