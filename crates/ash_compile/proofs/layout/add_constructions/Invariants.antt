use Rattle.std.proofs.Common.{◌≡◌, ◌++◌, drop, map}
use Rattle.ash_typed.specs.Modules.{class_of}
use Rattle.ash_compile.specs.Layout.{count_of_constructor}
use Rattle.ash_compile.proofs.layout.add_constructions.Given as goal

-- The numbers that are there and those that are left are all of them.
abbrev pub invariant-loop-class : goal.invariant-loop-class
invariant-loop-class l =
    l.counts.items ++ map count_of_constructor (map class_of (drop l.class-index l.classes))
    ≡ l.fn.counts.items ++ map count_of_constructor (map class_of l.classes)
