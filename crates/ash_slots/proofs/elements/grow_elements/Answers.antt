use Rattle.std.proofs.Common.{ap, ◌∙◌, ◌++◌, ◌-◌, replicate, length}
use Rattle.ash_host.specs.declared.word.Word.{Word}
use Rattle.ash_slots.specs.SlotArrays.{lengthened}
use Rattle.ash_slots.proofs.Filling.{refilled_at, item_same, array_mine}
use Rattle.ash_slots.proofs.Options.{if_some, on_err}
use Rattle.ash_slots.proofs.elements.grow_elements.Goals as goal

pub returns-clause-grown : goal.returns-clause-grown
returns-clause-grown g c = λ number is_in.
    let l = c.args.store.now.objects in
    let it = c.item_mut-item.result.now in
    let mine = c.item_mut-item.ensures.value number is_in in
    let s = c.item_mut-item.ensures.stored in
    let array = c.in-Array.array in
    let now = c.in_ok-grow-in-Array.ensures.grown ∙ ap (λ (w : Word). array.elements ++ replicate (c.args.len - length array.elements) w) c.initial-initial.ensures.initial in
    if_some _ _ array (array_mine c.args.slot number l it s is_in mine array c.in-Array.is)
    (refilled_at c.args.slot number l it s is_in mine array (lengthened c.args.len array) c.grow.new.self c.in-Array.is now)

pub returns-in_err-grow-in-Array-clause-unchanged : goal.returns-in_err-grow-in-Array-clause-unchanged
returns-in_err-grow-in-Array-clause-unchanged g c =
    let n = c.requires.array.0 in
    let is_in = c.requires.array.1 in
    on_err _ c.from_residual.result
    (item_same c.args.slot n c.args.store.now.objects c.item_mut-item.result.now c.item_mut-item.ensures.stored is_in (c.item_mut-item.ensures.value n is_in) c.in-Array.array c.grow.new.self c.in-Array.is c.in_err-grow-in-Array.ensures.unchanged)
