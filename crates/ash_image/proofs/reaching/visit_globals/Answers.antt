use Rattle.std.proofs.Common.{◌∙◌}
use Rattle.ash_image.proofs.Searching.{visit_globals_more, visited_start}
use Rattle.ash_image.proofs.reaching.visit_globals.Goals as goal

pub visit-requires-clause-size : goal.visit-requires-clause-size
visit-requires-clause-size c = c.loop-module.invariant.same ∙ c.requires.size

pub loop-module-init : goal.loop-module-init
loop-module-init c = visited_start c.args.alive.now _

pub loop-module-preserved : goal.loop-module-preserved
loop-module-preserved c =
    visit_globals_more c.args.alive.now c.args.modules.now c.loop-module.module-index _ _ _ _ _ c.loop-module-test.true
    c.module-item.is c.deref.ensures.value c.loop-module.invariant c.in_ok-visit.ensures.visited
