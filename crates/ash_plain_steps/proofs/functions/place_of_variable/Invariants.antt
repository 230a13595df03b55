use Rattle.std.proofs.Common.{◌≡◌, drop, map}
use Rattle.std.specs.List.{position_from}
use Rattle.std.specs.Str.{bytes_eq}
use Rattle.ash_typed.specs.BodyViews.{value_of}
use Rattle.ash_typed.specs.SoundModules.{name_of_variable}
use Rattle.ash_plain_steps.proofs.functions.place_of_variable.Given as goal

abbrev pub invariant-loop-place : goal.invariant-loop-place
invariant-loop-place l =
    position_from (λ other. bytes_eq other l.name) l.place (map name_of_variable (map value_of (drop l.place l.variables))) ≡ position_from (λ other. bytes_eq other l.name) 0 (map name_of_variable (map value_of l.variables))
