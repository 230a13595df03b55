-- Types that the test of equality takes for one are equal.
use Rattle.std.proofs.lemmas.Bool.{eqb-true}
use Rattle.std.proofs.Common.{◌≡◌, true, refl, ap}
use Rattle.ash_typed.specs.declared.types.Element.{Element}
use Rattle.ash_typed.specs.declared.types.Element.TheVariants as elements
use Rattle.ash_typed.specs.declared.types.ObjectType.{ObjectType}
use Rattle.ash_typed.specs.declared.types.ObjectType.TheVariants as objects
use Rattle.ash_type_rules.specs.TypeRules.{is_same_element, is_same_object}
use Rattle.ash_type_rules.proofs.TypingTypes.{equal_integer_types}

equal_elements : (e f : Element) → is_same_element e f ≡ true → e ≡ f
equal_elements elements.Bool elements.Bool h = refl
equal_elements (elements.Integer j) (elements.Integer k) h =
    ap (λ int_type. elements.Integer int_type) (equal_integer_types j k h)
equal_elements (elements.Class a) (elements.Class b) h = ap (λ place. elements.Class place) (eqb-true a b h)
equal_elements (elements.Interface a) (elements.Interface b) h = ap (λ place. elements.Interface place) (eqb-true a b h)
equal_elements (elements.Host a) (elements.Host b) h = ap (λ kind. elements.Host kind) (eqb-true a b h)
equal_elements e f h = absurd (cc)

pub equal_objects : (o p : ObjectType) → is_same_object o p ≡ true → o ≡ p
equal_objects (objects.Class a) (objects.Class b) h = ap (λ place. objects.Class place) (eqb-true a b h)
equal_objects (objects.Interface a) (objects.Interface b) h = ap (λ place. objects.Interface place) (eqb-true a b h)
equal_objects (objects.Host a) (objects.Host b) h = ap (λ kind. objects.Host kind) (eqb-true a b h)
equal_objects (objects.Array e) (objects.Array f) h = ap (λ of. objects.Array of) (equal_elements e f h)
equal_objects o p h = absurd (cc)
