use Rattle.std.proofs.Common.{sym, ◌∙◌}
use Rattle.ash_slots.proofs.Steps.{is_in_from}
use Rattle.ash_slots.proofs.counting.remove_ref.Goals as goal

pub decrement_count-requires : goal.decrement_count-requires
decrement_count-requires g c = record {
  counted = rw c.find.ensures.same (c.in-Object.number, is_in_from c.in-Object.number c.in-Some.slot c.args.store.now.objects (sym c.find.ensures.slot ∙ c.in-Some.is), rw c.in-Object.is at c.requires.counted);
}
