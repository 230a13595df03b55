use Rattle.std.proofs.Common.{◌≡◌, ◌+◌}
use Rattle.ash_compile.specs.Emission.{Keeps, end_of}
use Rattle.ash_compile.proofs.builder.CodeBuilder.test_places.Given as goal

abbrev pub invariant-loop-case : goal.invariant-loop-case
invariant-loop-case l = (Keeps l.fn.self l.self) × (end_of l.self ≡ end_of l.fn.self + l._case-index)
