use Rattle.std.proofs.Common.{◌≡◌, drop}
use Rattle.std.specs.List.{list_all}
use Rattle.ash_admission.specs.Places.{is_of_place}
use Rattle.ash_admission.specs.Values.{is_reference}
use Rattle.ash_admission.proofs.elements.are_of_place.Given as goal

abbrev pub invariant-loop-word : goal.invariant-loop-word
invariant-loop-word l = list_all (is_reference l.objects (is_of_place l.name l.place)) (drop l.word-index l.words) ≡ list_all (is_reference l.objects (is_of_place l.name l.place)) l.words
