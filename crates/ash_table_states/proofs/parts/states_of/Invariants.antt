use Rattle.std.proofs.Common.{◌≡◌, map, take}
use Rattle.ash_table_states.proofs.parts.states_of.Given as goal

abbrev pub invariant-loop-object : goal.invariant-loop-object
invariant-loop-object g l = map (λ state. state.items) l.states.items ≡ map g.B.HostObject.state (take l.object-index l.boxes)
