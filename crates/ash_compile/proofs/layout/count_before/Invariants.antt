use Rattle.std.proofs.Common.{◌≡◌, ◌≤◌}
use Rattle.ash_compile.proofs.Layouts.{counted}
use Rattle.ash_compile.proofs.layout.count_before.Given as goal

abbrev pub invariant-loop-interface : goal.invariant-loop-interface
invariant-loop-interface l = (l.count ≤ l.interface-index) × (l.count ≡ counted l.class l.interface-index l.interfaces)
