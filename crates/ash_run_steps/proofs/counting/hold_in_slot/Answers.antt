use Rattle.std.proofs.Common.{sym, ◌∙◌}
use Rattle.ash_run_steps.proofs.Roots.{more_of_word}
use Rattle.ash_run_steps.proofs.counting.hold_in_slot.Goals as goal

pub returns-in-Some : goal.returns-in-Some
returns-in-Some g c =
    let n = c.in-Some.field-0 in
    let is = sym c.handle.ensures.handle ∙ c.in-Some.is in
    record {
      held = rw (c.hold_at.ensures.held n (c.requires.slot n is)) (more_of_word c.args.word n c.args.table.now is c.requires.alive);
    }
