use Rattle.std.proofs.Common.{◌≡◌, ◌++◌, List, drop, map, flat_map}
use Rattle.std.specs.List.{AllZip}
use Rattle.ash_typed.specs.Modules.{class_of}
use Rattle.ash_compile.specs.EmittedFrames.{FrameSource, methods_of, IsFrameCode}
use Rattle.ash_compile.proofs.builder.CodeBuilder.add_all_methods.Given as goal

-- The code that is there is that of some frames, which are all of them with those that are left.
abbrev pub invariant-loop-class : goal.invariant-loop-class
invariant-loop-class l =
    (l.self.layout ≡ l.fn.self.layout)
    × ((xs : List FrameSource) → AllZip (IsFrameCode l.fn.self.layout) xs l.fn.codes.items
    → (zs : List FrameSource) × AllZip (IsFrameCode l.fn.self.layout) zs l.codes.items
    × (zs ++ flat_map methods_of (map class_of (drop l.class-index l.classes))
    ≡ xs ++ flat_map methods_of (map class_of l.classes)))
