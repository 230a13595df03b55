use Rattle.std.proofs.Common.{◌≡◌, ◌++◌, map, take, drop}
use Rattle.std.specs.List.{zip}
use Rattle.ash_image.specs.SnapshotViews.{services_in}
use Rattle.ash_states.specs.Indexes.{HaveServiceKinds}
use Rattle.ash_states.proofs.services.service_parts.Given as goal

-- what is listed so far, with what is left
abbrev pub invariant-loop-place : goal.invariant-loop-place
invariant-loop-place l = record {
  same : services_in l.parts.items ++ zip (drop l.place l.kinds) (map (λ state. state.items) (drop l.place l.states)) ≡ zip l.kinds (map (λ state. state.items) l.states);
  kinds : HaveServiceKinds (take l.place l.kinds);
}
