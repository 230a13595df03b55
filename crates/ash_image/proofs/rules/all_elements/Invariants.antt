use Rattle.std.proofs.Common.{◌≡◌, drop}
use Rattle.std.specs.List.{list_all}
use Rattle.ash_host.specs.ElementTags.{element_of}
use Rattle.ash_image.specs.Rules.{is_element}
use Rattle.ash_image.proofs.rules.all_elements.Given as goal

abbrev pub invariant-loop-word : goal.invariant-loop-word
invariant-loop-word l =
    list_all (is_element (element_of l.of)) (drop l.word-index l.words) ≡ list_all (is_element (element_of l.of)) l.words
