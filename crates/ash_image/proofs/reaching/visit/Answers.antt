use Rattle.std.proofs.Common.{◌∙◌}
use Rattle.ash_image.proofs.Searching.{visit_more, visited_start}
use Rattle.ash_image.proofs.reaching.visit.Goals as goal

pub visit_word-requires-clause-size : goal.visit_word-requires-clause-size
visit_word-requires-clause-size c = c.loop-word.invariant.same ∙ c.requires.size

pub loop-word-init : goal.loop-word-init
loop-word-init c = visited_start c.args.alive.now _

pub loop-word-preserved : goal.loop-word-preserved
loop-word-preserved c =
    visit_more c.args.alive.now c.args.words.now c.loop-word.word-index _ _ _ _ c.loop-word-test.true c.loop-word.invariant
    c.in_ok-visit_word.ensures.visited
