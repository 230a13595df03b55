use Rattle.ash_slots.proofs.Steps.{more_at}
use Rattle.ash_slots.proofs.counting.increment_count.Goals as goal

pub returns-clause-counted : goal.returns-clause-counted
returns-clause-counted g c = λ number is_in.
    more_at c.args.slot number c.args.store.now.objects c.item_mut-item.result.now c.item_mut-item.ensures.stored is_in (c.item_mut-item.ensures.value number is_in)
