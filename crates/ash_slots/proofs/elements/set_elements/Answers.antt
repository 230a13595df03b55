use Rattle.std.proofs.Common.{refl}
use Rattle.ash_slots.proofs.Filling.{refilled_at}
use Rattle.ash_slots.proofs.elements.set_elements.Goals as goal

pub returns : goal.returns
returns g c = record {
  refilled = λ number is_in.
      refilled_at c.args.slot number c.args.store.now.objects c.item_mut-item.result.now c.item_mut-item.ensures.stored is_in (c.item_mut-item.ensures.value number is_in) c.in-Array.array c.args.elements c.args.elements c.in-Array.is refl;
}
