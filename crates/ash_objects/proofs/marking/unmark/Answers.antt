use Rattle.std.proofs.Common.{refl}
use Rattle.ash_objects.proofs.Touching.{unmarked_at, clear_after, clear_empty}
use Rattle.ash_objects.proofs.marking.unmark.Goals as goal

pub returns-in_default-clause-clear : goal.returns-in_default-clause-clear
returns-in_default-clause-clear g c =
    clear_empty c.args.slot c.args.store.now.objects (λ n here. c.in_default.ensures.none (n, here))

pub returns-clause-unmarked : goal.returns-clause-unmarked
returns-clause-unmarked g c =
    let n = c.in-Some.number in
    let here = c.in-Some.ensures.some in
    unmarked_at c.args.slot n c.args.store.now.objects c.item_mut-item.result.now c.item_mut-item.ensures.stored here (c.item_mut-item.ensures.value n here)

pub returns-clause-clear : goal.returns-clause-clear
returns-clause-clear g c = clear_after c.args.slot _ c.args.store.now.objects refl
