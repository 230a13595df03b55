use Rattle.std.proofs.Common.{sym, ◌∙◌}
use Rattle.ash_objects_tests.proofs.Holds.{some_hold, held_slot, lives_in}
use Rattle.ash_objects_tests.proofs.by_slot.hold_and_unhold_at.Goals as goal

pub unhold_at-requires : goal.unhold_at-requires
unhold_at-requires c =
    let there = sym c.slot.ensures.slot ∙ c.in-Some.is in
    let lives = lives_in c.args.number c.in-Some.slot c.args.objects.now there in
    let holds = c.hold_at.ensures.held c.args.number there in
    record {
      held = (
        c.args.number,
        rw holds (held_slot c.args.number c.in-Some.slot c.args.objects.now there),
        rw holds (some_hold c.args.number c.args.objects.now lives),
      );
    }
