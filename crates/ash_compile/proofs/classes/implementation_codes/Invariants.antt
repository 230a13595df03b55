use Rattle.std.proofs.Common.{◌≡◌, ◌<◌, ℕ, length, map, take, true}
use Rattle.std.specs.List.{list_all}
use Rattle.std.specs.Prelude.{Some, slice_get}
use Rattle.ash_typed.specs.Modules.{Implementation, Class, Module, implementation_of as implementation_seen}
use Rattle.ash_code.specs.Validity.{has_functions}
use Rattle.ash_compile.specs.Layout.{IsLayout}
use Rattle.ash_compile.specs.ValidCode.{counts_of}
use Rattle.ash_compile.specs.Callees.{implementation_of, implementation_at, has_own}
use Rattle.ash_compile.proofs.classes.implementation_codes.Given as goal

abbrev pub invariant-loop-implementation : goal.invariant-loop-implementation
invariant-loop-implementation l =
    ((slot : ℕ) (m : Module) (k : Class) → IsLayout slot m l.layout → slice_get m.classes l.class ≡ Some k
    → list_all (λ (i : Implementation). has_own k i.methods) (map implementation_seen l.interfaces) ≡ true
    → map implementation_of l.codes.items
    ≡ map (implementation_at m l.class) (map implementation_seen (take l.implementation-index l.interfaces)))
    × ((slot : ℕ) (m : Module) → IsLayout slot m l.layout → l.class < length m.classes
    → list_all (has_functions (length (counts_of l.layout))) l.codes.items ≡ true)
