use Rattle.std.proofs.Common.{◌∙◌, refl, arith, ◌<◌}
use Rattle.ash_slots.specs.Store.{with_item}
use Rattle.ash_slots.proofs.Steps.{none_at, some_at, counted_item, occupied-change}
use Rattle.ash_slots.proofs.counting.decrement_count.Goals as goal

pub queue_for_sweep-requires : goal.queue_for_sweep-requires
queue_for_sweep-requires g c = record { occupied = occupied-change c.args.slot c.args.slot (with_item _) c.args.store.now.objects (λ p. refl) (c.requires.counted.0, c.requires.counted.1) }

pub returns-then-item-eq0-clause-counted : goal.returns-then-item-eq0-clause-counted
returns-then-item-eq0-clause-counted g c = λ number is_in.
    let mine = counted_item c.requires.counted.0 c.args.store.now.objects c.item_mut-item.result.now (c.item_mut-item.ensures.value c.requires.counted.0 c.requires.counted.1) in
    let some : 0 < c.item_mut-item.result.now.count = omega (arith, mine, c.requires.counted.2) in
    c.queue_for_sweep.ensures.objects ∙ none_at c.args.slot number c.args.store.now.objects c.item_mut-item.result.now c.item_mut-item.ensures.stored is_in (c.item_mut-item.ensures.value number is_in) some c.if-item-eq0.true

pub returns-else-item-eq0-clause-counted : goal.returns-else-item-eq0-clause-counted
returns-else-item-eq0-clause-counted g c = λ number is_in.
    some_at c.args.slot number c.args.store.now.objects c.item_mut-item.result.now c.item_mut-item.ensures.stored is_in (c.item_mut-item.ensures.value number is_in) c.if-item-eq0.false
