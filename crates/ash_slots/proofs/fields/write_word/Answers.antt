use Rattle.ash_slots.proofs.Steps.{written_at, element_written}
use Rattle.ash_slots.proofs.fields.write_word.Goals as goal

pub returns-in-Script-clause-written : goal.returns-in-Script-clause-written
returns-in-Script-clause-written g c = λ number is_in.
    written_at c.args.slot number c.args.store.now.objects c.item_mut-item.result.now c.item_mut-item.ensures.stored is_in (c.item_mut-item.ensures.value number is_in) c.args.place c.args.word c.in-Script.script c.set.new.self c.in-Script.is c.set.ensures.written

pub returns-in-Array-clause-written : goal.returns-in-Array-clause-written
returns-in-Array-clause-written g c = λ number is_in.
    element_written c.args.slot number c.args.store.now.objects c.item_mut-item.result.now c.item_mut-item.ensures.stored is_in (c.item_mut-item.ensures.value number is_in) c.args.place c.args.word c.in-Array.array c.set-in-Array.new.self c.in-Array.is c.set-in-Array.ensures.written
