use Rattle.std.proofs.Common.{refl}
use Rattle.ash_image.specs.Leading.{indexed}
use Rattle.ash_image.specs.NamedViews.{state_seen}
use Rattle.ash_image.proofs.OneState.{one_snapshot}
use Rattle.ash_image.proofs.naming.indexed_state.Goals as goal

pub returns : goal.returns
returns c = record {
  indexed = one_snapshot _ (indexed (state_seen c.args.state)) refl refl refl refl c.in_ok-modules.ensures.listed
      c.in_ok-objects.ensures.indexed;
}
