use Rattle.std.proofs.Common.{◌≡◌, map, take}
use Rattle.ash_typed.specs.BodyViews.{value_of}
use Rattle.ash_typed.specs.StatementTree.{Initialization}
use Rattle.ash_meaning.specs.OperatorMeaning.{zero_of}
use Rattle.ash_compile.proofs.classes.zero_words.Given as goal

abbrev pub invariant-loop-field : goal.invariant-loop-field
invariant-loop-field l = l.words.items ≡ map (λ (v : Initialization). zero_of v.of)
    (map value_of (take l.field-index l.fields))
