use Rattle.std.proofs.Common.{◌∷◌, [], ◌∙◌, get_or, take, false, arith}
use Rattle.std.proofs.lemmas.List.{take_all}
use Rattle.ash_host.specs.declared.word.Word.TheVariants.{Bool}
use Rattle.ash_host.specs.Objects.{handles}
use Rattle.ash_run_steps.proofs.Bare.{same_alive}
use Rattle.ash_run_steps.proofs.Roots.{more_none, more_then, handles_step, few_of_words}
use Rattle.ash_run_steps.proofs.counting.hold_words.Goals as goal

pub loop-word-init : goal.loop-word-init
loop-word-init g c = more_none c.args.table.now

pub hold_word-requires-clause-alive : goal.hold_word-requires-clause-alive
hold_word-requires-clause-alive g c =
    let k = c.loop-word.word-index in
    let word = get_or c.args.words.now k (Bool false) in
    same_alive word c.args.table.now c.loop-word.table c.loop-word.invariant.same ∙ c.requires.alive k (Bool false) c.loop-word-test.true

pub hold_word-requires-clause-few : goal.hold_word-requires-clause-few
hold_word-requires-clause-few g c = λ m.
    omega (arith, c.loop-word.invariant.counts m, few_of_words m c.args.words.now c.loop-word.word-index, c.requires.few m)

pub loop-word-preserved : goal.loop-word-preserved
loop-word-preserved g c =
    let k = c.loop-word.word-index in
    let ws = c.args.words.now in
    rw (handles_step ws k (Bool false) c.loop-word-test.true)
    (more_then (handles (take k ws)) (handles (get_or ws k (Bool false) ∷ [])) c.args.table.now c.loop-word.table c.hold_word.new.table c.loop-word.invariant c.hold_word.ensures.held)

pub returns : goal.returns
returns g c = record { held = rw (take_all c.loop-word.word-index c.args.words.now c.loop-word-test.false) at c.loop-word.invariant }
