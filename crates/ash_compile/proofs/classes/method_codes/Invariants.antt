use Rattle.std.proofs.Common.{◌≡◌, ◌<◌, ℕ, nat_lt, length, map, take, true}
use Rattle.std.specs.List.{list_all}
use Rattle.std.specs.Prelude.{Some, slice_get}
use Rattle.ash_typed.specs.Modules.{Class, Module}
use Rattle.ash_meaning.specs.Classes.{Method}
use Rattle.ash_compile.specs.Layout.{IsLayout, index_of}
use Rattle.ash_compile.specs.Callees.{has_own}
use Rattle.ash_compile.specs.ValidCode.{counts_of}
use Rattle.ash_compile.proofs.classes.method_codes.Given as goal

abbrev pub invariant-loop-method : goal.invariant-loop-method
invariant-loop-method l =
    ((slot : ℕ) (m : Module) (k : Class) → IsLayout slot m l.layout → slice_get m.classes l.class ≡ Some k
    → has_own k l.methods ≡ true
    → l.codes.items ≡ map (λ (own : ℕ). index_of m (Method l.class own)) (take l.method-index l.methods))
    × ((slot : ℕ) (m : Module) → IsLayout slot m l.layout → l.class < length m.classes
    → list_all (λ (code : ℕ). nat_lt code (length (counts_of l.layout))) l.codes.items ≡ true)
