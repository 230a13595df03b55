use Rattle.std.proofs.Common.{◌≡◌, drop, map}
use Rattle.ash_admission.specs.Contents.{program_of_name}
use Rattle.ash_admission.specs.Admission.{program_of}
use Rattle.ash_admission.proofs.contents.module_of_name.Given as goal

abbrev pub invariant-loop-loaded : goal.invariant-loop-loaded
invariant-loop-loaded l = program_of_name l.name (map program_of (drop l.loaded-index l.modules)) ≡ program_of_name l.name (map program_of l.modules)
