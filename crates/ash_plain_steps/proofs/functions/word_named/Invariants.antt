use Rattle.std.proofs.Common.{◌≡◌, drop, map}
use Rattle.ash_typed.specs.Modules.{variables_of}
use Rattle.ash_plain_steps.specs.TaskViews.{word_among}
use Rattle.ash_plain_steps.proofs.functions.word_named.Given as goal

abbrev pub invariant-loop-declaration : goal.invariant-loop-declaration
invariant-loop-declaration l =
    word_among l.name (map variables_of (drop l.declaration-index l.declarations)) l.words ≡ word_among l.name (map variables_of l.declarations) l.globals
