use Rattle.std.proofs.Common.{◌≡◌, map, take}
use Rattle.ash_table_states.specs.WrittenObjects.{state_in}
use Rattle.ash_table_states.proofs.parts.object_states.Given as goal

abbrev pub invariant-loop-object : goal.invariant-loop-object
invariant-loop-object g l =
    map (λ state. state.items) l.states.items ≡ map (λ o. state_in g.B.HostObject o.body.now) (take l.object-index l.objects)
