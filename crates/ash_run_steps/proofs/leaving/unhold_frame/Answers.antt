use Rattle.std.proofs.Common.{arith}
use Rattle.ash_run_steps.proofs.LeaveSteps.{frame_unheld}
use Rattle.ash_run_steps.proofs.Roots.{times_frame, times_reverse}
use Rattle.ash_run_steps.proofs.leaving.unhold_frame.Goals as goal

pub unhold_word-requires : goal.unhold_word-requires
unhold_word-requires g c =
    let f = c.args.stack.now.frame in
    record { held = λ m. rw c.this.ensures.this (omega (arith, times_frame m f, c.requires.held m)) }

pub unhold_words-requires : goal.unhold_words-requires
unhold_words-requires g c =
    let f = c.args.stack.now.frame in
    let this = rw c.this.ensures.this at c.unhold_word.ensures.unheld in
    record { held = λ m. rw c.locals.ensures.locals (omega (arith, times_frame m f, c.requires.held m, this.counts m)) }

pub unhold_numbers-requires : goal.unhold_numbers-requires
unhold_numbers-requires g c =
    let f = c.args.stack.now.frame in
    let this = rw c.this.ensures.this at c.unhold_word.ensures.unheld in
    let locals = rw c.locals.ensures.locals at c.unhold_words.ensures.unheld in
    record { held = λ m. rw c.held.ensures.held (omega (arith, times_frame m f, times_reverse m f.held, c.requires.held m, this.counts m, locals.counts m)) }

pub returns : goal.returns
returns g c =
    let f = c.args.stack.now.frame in
    let this = rw c.this.ensures.this at c.unhold_word.ensures.unheld in
    let locals = rw c.locals.ensures.locals at c.unhold_words.ensures.unheld in
    let held = rw c.held.ensures.held at c.unhold_numbers.ensures.unheld in
    record { unheld = frame_unheld f c.args.table.now c.unhold_word.new.table c.unhold_words.new.table c.unhold_numbers.new.table this locals held }
