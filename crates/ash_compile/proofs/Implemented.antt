-- The classes of a sound module have the methods that they name for interfaces.
use Rattle.std.proofs.Common.{◌≡◌, true, nat_lt, ℕ, List, [], ◌∷◌, length, refl}
use Rattle.std.specs.List.{AllByRecursion, AllZip, list_all}
use Rattle.std.proofs.lemmas.Option.{slice_get_within}
use Rattle.ash_typed.specs.Modules.{Signature, Implementation, Class}
use Rattle.ash_typed.specs.Signatures.{ModuleSignatures}
use Rattle.ash_typed.specs.SoundModules.{ImplementsDeclared, IsImplementation}
use Rattle.ash_soundness.specs.WellFormed.{Context, IsContext, declared}
use Rattle.ash_soundness.proofs.Entries.{class_is}
use Rattle.ash_compile.specs.Callees.{has_own, AreImplemented}
use Rattle.ash_compile.proofs.ValidSteps.{and_is, lower}

has_each : (k : Class) (all : List Signature) (methods : List ℕ) → AllZip (ImplementsDeclared k.methods) all methods
    → has_own k methods ≡ true
has_each k [] [] are = refl
has_each k [] (own ∷ methods) are = absurd are
has_each k (s ∷ all) [] are = absurd are
has_each k (s ∷ all) (own ∷ methods) are =
    let (f, there, same) = are.0 in
    and_is (nat_lt own (length k.methods)) (has_own k methods)
    (lower own (length k.methods) (slice_get_within k.methods own f there)) (has_each k all methods are.1)

has_all : (s : ModuleSignatures) (k : Class) (interfaces : List Implementation)
    → AllByRecursion (IsImplementation s k.methods) interfaces
    → list_all (λ (i : Implementation). has_own k i.methods) interfaces ≡ true
has_all s k [] are = refl
has_all s k (i ∷ interfaces) are =
    let (all, there, zipped) = are.0 in
    and_is (has_own k i.methods) (list_all (λ (j : Implementation). has_own k j.methods) interfaces)
    (has_each k all i.methods zipped) (has_all s k interfaces are.1)

pub are_implemented : {c : Context} → IsContext c → AreImplemented (c.program).tree
are_implemented {c} context class k at = has_all (declared c) k k.interfaces (class_is context class k at).interfaces
