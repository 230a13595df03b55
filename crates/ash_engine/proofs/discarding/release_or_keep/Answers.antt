use Rattle.std.proofs.Common.{◌∙◌, get_or}
use Rattle.ash_host.specs.Objects.{handles}
use Rattle.ash_run_steps.proofs.Bare.{same_alive}
use Rattle.ash_engine.proofs.AtRest.{alive_by_holds, held_again}
use Rattle.ash_engine.proofs.discarding.release_or_keep.Goals as goal

pub hold_words-requires-clause-alive : goal.hold_words-requires-clause-alive
hold_words-requires-clause-alive g c = λ k d within.
    let words = c.args.globals.now in
    same_alive (get_or words k d) c.args.table.now c.release.new.table c.in-Err.ensures.let_go.same
    ∙ alive_by_holds c.args.table.now words c.requires.held k d within

pub returns-in-Err-clause-unchanged : goal.returns-in-Err-clause-unchanged
returns-in-Err-clause-unchanged g c =
    held_again (handles c.args.globals.now) c.args.table.now c.release.new.table c.hold_words.new.table
    c.facts.ensures.sound.numbered c.in-Err.ensures.let_go c.hold_words.ensures.held
