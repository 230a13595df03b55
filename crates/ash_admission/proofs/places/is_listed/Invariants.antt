use Rattle.std.proofs.Common.{◌≡◌, drop, map}
use Rattle.ash_host.specs.Reach.{is_among}
use Rattle.ash_typed.specs.Modules.{implementation_of}
use Rattle.ash_typed.specs.Signatures.{place_of_interface}
use Rattle.ash_admission.proofs.places.is_listed.Given as goal

abbrev pub invariant-loop-one : goal.invariant-loop-one
invariant-loop-one l =
    is_among (map place_of_interface (map implementation_of (drop l.one-index l.all))) l.interface ≡ is_among (map place_of_interface (map implementation_of l.all)) l.interface
