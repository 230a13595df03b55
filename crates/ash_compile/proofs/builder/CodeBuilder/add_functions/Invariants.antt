use Rattle.std.proofs.Common.{◌≡◌, ◌++◌, List, drop, map}
use Rattle.std.specs.List.{AllZip}
use Rattle.ash_typed.specs.Modules.{function_of}
use Rattle.ash_compile.specs.EmittedFrames.{FrameSource, frame_of_function, IsFrameCode}
use Rattle.ash_compile.proofs.builder.CodeBuilder.add_functions.Given as goal

-- The code that is there is that of some frames, which are all of them with those that are left.
abbrev pub invariant-loop-function : goal.invariant-loop-function
invariant-loop-function l =
    (l.self.layout ≡ l.fn.self.layout)
    × ((xs : List FrameSource) → AllZip (IsFrameCode l.fn.self.layout) xs l.fn.codes.items
    → (zs : List FrameSource) × AllZip (IsFrameCode l.fn.self.layout) zs l.codes.items
    × (zs ++ map frame_of_function (map function_of (drop l.function-index l.functions)) ≡ xs ++ map frame_of_function
    (map function_of l.functions)))
