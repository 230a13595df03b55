use Rattle.std.proofs.Common.{◌≡◌, drop}
use Rattle.std.specs.List.{list_all}
use Rattle.ash_admission.specs.Places.{is_of}
use Rattle.ash_admission.specs.Values.{is_reference}
use Rattle.ash_admission.specs.Admission.{program_of}
use Rattle.ash_admission.proofs.elements.are_references.Given as goal

abbrev pub invariant-loop-word : goal.invariant-loop-word
invariant-loop-word l = list_all (is_reference l.objects (is_of (program_of l.loaded) l.of)) (drop l.word-index l.words) ≡ list_all (is_reference l.objects (is_of (program_of l.loaded) l.of)) l.words
