use Rattle.std.proofs.Common.{◌≡◌, drop}
use Rattle.ash_image.specs.Rules.{all_live}
use Rattle.ash_image.proofs.rules.all_live.Given as goal

abbrev pub invariant-loop-word : goal.invariant-loop-word
invariant-loop-word l = all_live l.alive (drop l.word-index l.words) ≡ all_live l.alive l.words
