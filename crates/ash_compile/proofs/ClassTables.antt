-- What code knows of the classes of a module says what an object may be cast to.
use Rattle.std.proofs.Common.{◌≡◌, ◌≤◌, ◌<◌, ℕ, suc, zero, List, [], ◌∷◌, length, refl, sym, ap, ◌∙◌, arith, true}
use Rattle.std.proofs.Common.{false, Bool, nat_lt}
use Rattle.std.specs.Prelude.{Option, Some, None, slice_get, is_some, option_map, nat_eq, find}
use Rattle.std.specs.Option.{option_map_or, option_and_then}
use Rattle.std.proofs.lemmas.Bool.Decides.{nat_tests}
use Rattle.ash_host.specs.Objects.{Plain}
use Rattle.ash_typed.specs.declared.types.ObjectType.{ObjectType}
use Rattle.ash_typed.specs.declared.types.ObjectType.TheVariants as objects
use Rattle.ash_typed.specs.Modules.{Implementation, Class}
use Rattle.ash_meaning.specs.Classes as classes
use Rattle.ash_meaning.specs.Classes.{Program}
use Rattle.ash_soundness.proofs.Parts.{there_from}
use Rattle.ash_code.specs.declared.code.ClassCode.{ClassCode}
use Rattle.ash_code.specs.declared.code.ImplementationCode.{ImplementationCode}
use Rattle.ash_code.specs.Performing.{Setting, classes_of, own_name}
use Rattle.ash_code.specs.Steps as steps
use Rattle.ash_compile.specs.Callees.{implementation_of, implementation_at, AreImplemented, HasClasses}
use Rattle.ash_compile.proofs.Tables.{class_same, listed}

get_past : {A : Type 0} (xs : List A) (k : ℕ) → length xs ≤ k → slice_get xs k ≡ None
get_past [] k high = refl
get_past (x ∷ xs) zero high = absurd (omega (arith, high))
get_past (x ∷ xs) (suc k) high = get_past xs k (omega (arith, high))

some_mapped : {A B : Type 0} (f : A → B) (o : Option A) → is_some o ≡ is_some (option_map f o)
some_mapped f None = refl
some_mapped f (Some x) = refl

module _ (s : Setting) (p : Program) (owner : own_name s ≡ p.name) (has : HasClasses s p.tree)
    (named : AreImplemented p.tree) where
  -- whether a class lists an interface
  lists_by : (interface class : ℕ) (there : Bool) → nat_lt class (length (p.tree).classes) ≡ there
      → is_some (steps.implementation_in (classes_of s) interface class)
      ≡ is_some (classes.implementation_in p.tree class interface)
  lists_by interface class true is =
      let low : class < length (p.tree).classes = grind (arith, nat_tests) in
      let k = there_from (p.tree).classes class low in
      some_mapped implementation_of (steps.implementation_in (classes_of s) interface class)
      ∙ ap is_some (listed s p.tree has interface class k.0 k.1 (named class k.0 k.1))
      ∙ sym (some_mapped (implementation_at p.tree class) (classes.implementation_in p.tree class interface))
  lists_by interface class false is =
      let high : length (p.tree).classes ≤ class = grind (arith, nat_tests) in
      ap (λ (o : Option ClassCode). is_some (option_and_then
      (λ (c : ClassCode). find (λ (i : ImplementationCode). nat_eq i.interface interface) (c.interfaces).items) o))
      (get_past (classes_of s) class (omega (arith, high, has.count)))
      ∙ sym (ap (λ (o : Option Class). is_some (option_and_then
      (λ (c : Class). find (λ (i : Implementation). nat_eq i.interface interface) c.interfaces) o))
      (get_past (p.tree).classes class high))

  class_fits : (to : ObjectType) (class : ℕ)
      → steps.is_class_of (classes_of s) to class ≡ classes.is_class_of p.tree to class
  class_fits (objects.Class other) class = refl
  class_fits (objects.Interface interface) class =
      lists_by interface class (nat_lt class (length (p.tree).classes)) refl
  class_fits (objects.Host kind) class = refl
  class_fits (objects.Array of) class = refl

  class_of_fits : (to : ObjectType) (o : Option ℕ)
      → option_map_or (steps.is_class_of (classes_of s) to) o false
      ≡ option_map_or (classes.is_class_of p.tree to) o false
  class_of_fits to None = refl
  class_of_fits to (Some class) = class_fits to class

  -- whether an object is of a type
  pub object_fits : (to : ObjectType) (o : Option (Plain (List ℕ)))
      → option_map_or (steps.is_class_of (classes_of s) to)
      (option_and_then (steps.class_in (own_name s) (classes_of s)) o) false
      ≡ option_map_or (classes.is_object_of p to) o false
  object_fits to None = refl
  object_fits to (Some x) =
      ap (λ (name : List ℕ). option_map_or (steps.is_class_of (classes_of s) to)
      (steps.class_in name (classes_of s) x) false) owner
      ∙ ap (λ (o : Option ℕ). option_map_or (steps.is_class_of (classes_of s) to) o false)
      (class_same s p.tree has p.name x)
      ∙ class_of_fits to (classes.class_of p x)
