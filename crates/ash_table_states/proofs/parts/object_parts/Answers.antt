use Rattle.std.proofs.Common.{rules, ◌∙◌}
use Rattle.ash_table_states.specs.WrittenObjects.{state_in}
use Rattle.ash_table_states.proofs.Paired.{same_at}
use Rattle.ash_table_states.proofs.parts.object_parts.Goals as goal

pub body_parts-requires-clause-state : goal.body_parts-requires-clause-state
body_parts-requires-clause-state g c =
    c.as_slice.ensures.value
    ∙ same_at (λ state. state.items) (λ o. state_in g.B.HostObject o.body.now) c.args.states.now c.args.objects.now c.loop-place.place _ _ c.requires.states (search rules) c.index-states-place.is c.index-objects-place.is
