-- What fits where a value of another type is awaited.
use Rattle.std.proofs.Common.{◌≡◌, ℕ, List, sym, ap, ◌∙◌, subst}
use Rattle.std.specs.Prelude.{Some, Contains, slice_get, option_map}
use Rattle.std.proofs.lemmas.Option.{same_Some, slice_get-map}
use Rattle.ash_host.specs.declared.word.Word.{Word}
use Rattle.ash_host.specs.Objects.{LiveObjects}
use Rattle.ash_typed.specs.declared.types.VarType.{VarType}
use Rattle.ash_typed.specs.declared.types.VarType.TheVariants as vars
use Rattle.ash_typed.specs.TypeOf.{ValueType, value, as_value}
use Rattle.ash_typed.specs.Signatures.{ClassTypes, IsSubtype, same, null, listed, signature_of_class}
use Rattle.ash_meaning.specs.Classes.{Program}
use Rattle.ash_soundness.specs.WellFormed.{Context, declared, Shape, IsOfClass, ListsInterface, IsReference, to_nothing, to_object, IsValue, is_truth, is_integer, is_object, is_handle, IsGiven, gives_null, gives}

module _ {p : Program} {all : LiveObjects (List ℕ)} where
  -- an object is given by its handle, and a handle of it may be stored for it

  pub kept_value : {of : VarType} {w : Word} → IsValue p all of w → IsValue p all (as_value of) w
  kept_value is_truth = is_truth
  kept_value (is_integer i) = is_integer i
  kept_value (is_object r) = is_handle r
  kept_value (is_handle r) = is_handle r

  pub unkept : (of : VarType) {w : Word} → IsValue p all (as_value of) w → IsValue p all of w
  unkept vars.Bool v = v
  unkept (vars.Integer int_type) v = v
  unkept (vars.Object o) (is_handle r) = is_object r
  unkept (vars.Handle o) v = v

  pub given_value : {of : VarType} {w : Word} → IsGiven p all (value of) w → IsValue p all of w
  given_value (gives v) = v

module _ (c : Context) where
  -- the class that a signature is of lists what the signature does
  class_lists : (class interface : ℕ) (s : ClassTypes) → slice_get (declared c).classes class ≡ Some s → Contains s.interfaces interface → (shape : Shape) → IsOfClass c.program class shape → ListsInterface c.program interface shape
  class_lists class interface s at lists shape i = record {
    class = class;
    of = i;
    lists = subst (λ (x : ClassTypes). Contains x.interfaces interface) of_source lists;
  }
    where
      of_source : s ≡ signature_of_class i.source
      of_source = same_Some s (signature_of_class i.source) (sym at ∙ slice_get-map signature_of_class ((c.program).tree).classes class ∙ ap (option_map signature_of_class) i.at)

  refers_to : {all : LiveObjects (List ℕ)} {Fits More : Shape → Type 0} {w : Word} → ((shape : Shape) → Fits shape → More shape) → IsReference all Fits w → IsReference all More w
  refers_to more to_nothing = to_nothing
  refers_to more (to_object {shape = shape} at fits) = to_object at (more shape fits)

  pub subtype_given : {all : LiveObjects (List ℕ)} {from to : ValueType} {w : Word} → IsSubtype (declared c) from to → IsGiven c.program all from w → IsGiven c.program all to w
  subtype_given same g = g
  subtype_given null gives_null = gives (is_handle to_nothing)
  subtype_given (listed {class} {interface} {c = s} at lists) (gives (is_handle r)) = gives (is_handle (refers_to (class_lists class interface s at lists) r))

  -- what may be stored in a variable of a type is a value of it
  pub fitting_value : {all : LiveObjects (List ℕ)} {from : ValueType} (of : VarType) {w : Word} → IsSubtype (declared c) from (value (as_value of)) → IsGiven c.program all from w → IsValue c.program all of w
  fitting_value of s g = unkept of (given_value (subtype_given s g))
