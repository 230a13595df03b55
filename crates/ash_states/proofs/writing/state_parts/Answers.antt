use Rattle.ash_registry.specs.RegistryViews.{registered}
use Rattle.ash_states.specs.Holding.{held_with}
use Rattle.ash_states.proofs.Depicted.{parts_fit}
use Rattle.ash_states.proofs.writing.state_parts.Goals as goal

pub returns-clause-fits : goal.returns-clause-fits
returns-clause-fits c =
    parts_fit (held_with (registered c.args.registry.now) c.args.state.now) c.requires.held.admitted c.args.services.now c.args.modules.now c.args.objects.now
    c.requires.listed c.text.result.now c.text.ensures.lines c.text.utf8 c.text.ensures.short
