use Rattle.std.proofs.Common.{◌≡◌, drop, map}
use Rattle.std.specs.List.{position_from}
use Rattle.std.specs.Str.{bytes_eq}
use Rattle.ash_typed.specs.Modules.{Function, function_of}
use Rattle.ash_plain_steps.proofs.functions.place_of_function.Given as goal

abbrev pub invariant-loop-place : goal.invariant-loop-place
invariant-loop-place l =
    position_from (λ (f : Function). bytes_eq f.name l.name) l.place (map function_of (drop l.place l.functions)) ≡ position_from (λ (f : Function). bytes_eq f.name l.name) 0 (map function_of l.functions)
