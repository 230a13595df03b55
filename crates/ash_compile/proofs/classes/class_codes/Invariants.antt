use Rattle.std.proofs.Common.{◌≡◌, ◌<◌, ℕ, length, map, slice_get, true}
use Rattle.std.specs.Prelude.{Some}
use Rattle.std.specs.List.{list_all}
use Rattle.ash_typed.specs.Modules.{Class, Module, class_of}
use Rattle.ash_code.specs.declared.code.ClassCode.{ClassCode}
use Rattle.ash_code.specs.Validity.{is_valid_class}
use Rattle.ash_compile.specs.Layout.{IsLayout}
use Rattle.ash_compile.specs.ValidCode.{counts_of}
use Rattle.ash_compile.specs.Callees.{IsClassCode}
use Rattle.ash_compile.proofs.classes.class_codes.Given as goal

-- What code knows of the classes so far is there.
abbrev pub invariant-loop-class : goal.invariant-loop-class
invariant-loop-class l =
    (l.place ≡ l.class-index)
    × (length l.codes.items ≡ l.class-index)
    × ((slot : ℕ) (m : Module) → IsLayout slot m l.layout → m.classes ≡ map class_of l.classes
    → (k : ℕ) → k < l.class-index → (x : Class) → slice_get m.classes k ≡ Some x
    → (code : ClassCode) × (slice_get l.codes.items k ≡ Some code) × IsClassCode m k x code)
    × ((slot : ℕ) (m : Module) → IsLayout slot m l.layout → m.classes ≡ map class_of l.classes
    → list_all (is_valid_class (length (counts_of l.layout))) l.codes.items ≡ true)
