use Rattle.std.proofs.Common.{◌≡◌, ◌++◌, drop, string_bytes}
use Rattle.ash_registrations.specs.Text.{more_parameters}
use Rattle.ash_registrations.proofs.text.push_more.Given as goal

abbrev pub invariant-loop-primitive : goal.invariant-loop-primitive
invariant-loop-primitive l =
    string_bytes l.text ++ more_parameters (drop l.primitive-index l.rest)
    ≡ string_bytes l.initial.text ++ more_parameters l.rest
