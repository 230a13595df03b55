use Rattle.std.proofs.Common.{sym, ◌∙◌}
use Rattle.ash_run_steps.proofs.Roots.{more_of_word}
use Rattle.ash_run_steps.proofs.counting.hold_word.Goals as goal

pub returns-in-Some : goal.returns-in-Some
returns-in-Some g c =
    let is = sym c.handle.ensures.handle ∙ c.in-Some.is in
    record { held = rw c.hold.ensures.held (more_of_word c.args.word c.in-Some.number c.args.table.now is c.requires.alive) }
