use Rattle.std.proofs.Common.{sym, ◌∙◌}
use Rattle.ash_run_steps.proofs.Roots.{holds_word, less_of_word}
use Rattle.ash_run_steps.proofs.counting.unhold_word.Goals as goal

pub unhold-requires : goal.unhold-requires
unhold-requires g c =
    let is = sym c.handle.ensures.handle ∙ c.in-Some.is in
    record { held = holds_word c.args.word c.in-Some.number c.args.table.now is (c.requires.held c.in-Some.number) }

pub returns-in-Some : goal.returns-in-Some
returns-in-Some g c =
    let is = sym c.handle.ensures.handle ∙ c.in-Some.is in
    record { unheld = rw c.unhold.ensures.unheld (less_of_word c.args.word c.in-Some.number c.args.table.now is (holds_word c.args.word c.in-Some.number c.args.table.now is (c.requires.held c.in-Some.number))) }
