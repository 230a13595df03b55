use Rattle.std.proofs.Common.{◌≡◌, nat_eq, map, drop}
use Rattle.std.specs.List.{position_from}
use Rattle.ash_meaning.specs.Activity.{FreeBox}
use Rattle.ash_plain_world.specs.ActivityViews.{box_seen}
use Rattle.ash_plain_world.proofs.host_steps.place_in.Given as goal

abbrev pub invariant-loop-place : goal.invariant-loop-place
invariant-loop-place l =
    position_from (λ (b : FreeBox). nat_eq b.kind l.kind) l.place (map box_seen (drop l.place l.pool)) ≡ position_from (λ (b : FreeBox). nat_eq b.kind l.kind) 0 (map box_seen l.pool)
