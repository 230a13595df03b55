use Rattle.std.proofs.Common.{◌≡◌, drop}
use Rattle.std.specs.List.{list_all}
use Rattle.ash_requests.specs.Tasks.{is_primitive}
use Rattle.ash_plain_steps.proofs.arguments.are_primitive.Given as goal

abbrev pub invariant-loop-of : goal.invariant-loop-of
invariant-loop-of l = list_all is_primitive (drop l.of-index l.types) ≡ list_all is_primitive l.types
