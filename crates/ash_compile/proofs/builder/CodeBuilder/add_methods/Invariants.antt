use Rattle.std.proofs.Common.{◌≡◌, ◌++◌, List, drop, map}
use Rattle.std.specs.List.{AllZip}
use Rattle.ash_typed.specs.Modules.{Class, function_of}
use Rattle.ash_compile.specs.EmittedFrames.{FrameSource, frame_of_method, IsFrameCode}
use Rattle.ash_compile.proofs.builder.CodeBuilder.add_methods.Given as goal

-- The code that is there is that of some frames, which are all of them with those that are left.
abbrev pub invariant-loop-method : goal.invariant-loop-method
invariant-loop-method l =
    (l.self.layout ≡ l.fn.self.layout)
    × ((class : Class) (xs : List FrameSource) → AllZip (IsFrameCode l.fn.self.layout) xs l.fn.codes.items
    → (zs : List FrameSource) × AllZip (IsFrameCode l.fn.self.layout) zs l.codes.items
    × (zs ++ map (frame_of_method class) (map function_of (drop l.method-index l.methods))
    ≡ xs ++ map (frame_of_method class) (map function_of l.methods)))
