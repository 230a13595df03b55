use Rattle.std.proofs.Common.{[]}
use Rattle.ash_slots.proofs.Filling.{refilled_at}
use Rattle.ash_slots.proofs.elements.take_elements.Goals as goal

pub returns-clause-taken : goal.returns-clause-taken
returns-clause-taken g c = λ number is_in.
    refilled_at c.args.slot number c.args.store.now.objects c.item_mut-item.result.now c.item_mut-item.ensures.stored is_in (c.item_mut-item.ensures.value number is_in) c.in-Array.array [] c.take.new.self c.in-Array.is c.take.ensures.none
