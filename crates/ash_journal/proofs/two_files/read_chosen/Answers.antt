use Rattle.ash_journal.proofs.OpenLaws.{chosen_first, chosen_second}
use Rattle.ash_journal.proofs.two_files.read_chosen.Goals as goal

pub returns-then-choice-clause-answer : goal.returns-then-choice-clause-answer
returns-then-choice-clause-answer g c honest_first honest_second headers is =
    chosen_second c.args.choice c.read_current.result _ _ c.if-choice.true is (λ marked.
    c.read_current.ensures.answer c.args.choice.generation honest_second marked)

pub returns-else-choice-clause-answer : goal.returns-else-choice-clause-answer
returns-else-choice-clause-answer g c honest_first honest_second headers is =
    chosen_first c.args.choice c.read_current-else-choice.result _ _ c.if-choice.false is (λ marked.
    c.read_current-else-choice.ensures.answer c.args.choice.generation honest_first marked)
