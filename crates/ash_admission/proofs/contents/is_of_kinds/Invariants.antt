use Rattle.std.proofs.Common.{◌≡◌, drop}
use Rattle.ash_host.specs.Reach.{is_among}
use Rattle.ash_admission.proofs.contents.is_of_kinds.Given as goal

abbrev pub invariant-loop-other : goal.invariant-loop-other
invariant-loop-other l = is_among (drop l.other-index l.kinds) l.kind ≡ is_among l.kinds l.kind
