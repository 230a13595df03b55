use Rattle.std.proofs.Common.{refl}
use Rattle.ash_image.proofs.LeadingLaws.{kinds_stay, states_set}
use Rattle.ash_image.proofs.leading.set_service.Goals as goal

pub returns-clause-kinds : goal.returns-clause-kinds
returns-clause-kinds c =
    kinds_stay c.args.services.now.items c.args.service.index c.index_mut.result.now _ c.index_mut.ensures.value refl

pub returns-clause-states : goal.returns-clause-states
returns-clause-states c = states_set c.args.services.now.items c.args.service.index _
