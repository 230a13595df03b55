use Rattle.std.proofs.Common.{◌≡◌, drop}
use Rattle.std.specs.List.{list_all}
use Rattle.ash_admission.specs.Values.{is_integer}
use Rattle.ash_admission.proofs.elements.are_integers.Given as goal

abbrev pub invariant-loop-word : goal.invariant-loop-word
invariant-loop-word l = list_all (is_integer l.of) (drop l.word-index l.words) ≡ list_all (is_integer l.of) l.words
