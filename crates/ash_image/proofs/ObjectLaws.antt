-- The two laws of an object in an image.
use Rattle.std.proofs.Common.{◌≡◌, ℕ, zero, suc, ◌≤◌, leb, List, [], ◌++◌, length, Some, refl, arith}
use Rattle.std.specs.List.{AllByRecursion}
use Rattle.std.proofs.lemmas.Bool.{leb-true, le-leb}
use Rattle.ash_host.specs.declared.word.Word.{Word}
use Rattle.ash_host.specs.Limits.{max_elements, max_state_bytes}
use Rattle.ash_host.specs.Objects.{Elements, Bools, Ints, Uints, Int64s, Uint64s, Handles, Hosts, Plain, Script, Array, Host}
use Rattle.ash_image.specs.Fields.{number, text, items}
use Rattle.ash_image.specs.ImageWords.{word, FitsWord}
use Rattle.ash_image.specs.ObjectBytes.{max_class_members, element, plain, FitsElement, FitsHost}
use Rattle.ash_image.specs.ObjectBytes.{FitsPlain, element_case, element_at, fields_at, elements_at, state_at}
use Rattle.ash_image.specs.ObjectBytes.{kind_and_state_at, script_at, array_at, plain_case, plain_at, host}
use Rattle.ash_image.proofs.Numbers.{IsBytes}
use Rattle.ash_image.proofs.FieldLaws.{IsField, number_field, text_field, checked_field, pair_field, items_field}
use Rattle.ash_image.proofs.FieldLaws.{refit_field, tagged_field, HasCase, IsCase, case_takes, bare_takes, as_again}
use Rattle.ash_image.proofs.WordLaws.{word_field}

-- ---- what the elements of an array are

element_takes : (tag : ℕ) (bytes : List ℕ) (x : Elements ℕ × List ℕ) → IsBytes bytes → element_case tag bytes ≡ Some x
    → HasCase element FitsElement tag bytes x
unfolding element_case
element_takes zero bytes x ok e = bare_takes element FitsElement 0 Bools refl tt bytes x ok e
element_takes (suc zero) bytes x ok e = bare_takes element FitsElement 1 Ints refl tt bytes x ok e
element_takes (suc (suc zero)) bytes x ok e = bare_takes element FitsElement 2 Uints refl tt bytes x ok e
element_takes (suc (suc (suc zero))) bytes x ok e = bare_takes element FitsElement 3 Int64s refl tt bytes x ok e
element_takes (suc (suc (suc (suc zero)))) bytes x ok e = bare_takes element FitsElement 4 Uint64s refl tt bytes x ok e
element_takes (suc (suc (suc (suc (suc zero))))) bytes x ok e =
    case_takes element FitsElement 5 (λ (y : ℕ × ℕ). Handles y.0 y.1) (pair_field (number_field 1) (number_field 2))
    (λ y h. (refl, h)) bytes x ok e
element_takes (suc (suc (suc (suc (suc (suc zero)))))) bytes x ok e =
    case_takes element FitsElement 6 (λ n. Hosts n) (number_field 2) (λ n lt. (refl, lt)) bytes x ok e
element_takes (suc (suc (suc (suc (suc (suc (suc n))))))) bytes x ok e = absurd cc

element_again : (of : Elements ℕ) → FitsElement of → IsCase element element_case of
unfolding element_case
element_again Bools h = record { tag = 0; small = omega arith; body = []; spelled = refl; read = λ rest. refl }
element_again Ints h = record { tag = 1; small = omega arith; body = []; spelled = refl; read = λ rest. refl }
element_again Uints h = record { tag = 2; small = omega arith; body = []; spelled = refl; read = λ rest. refl }
element_again Int64s h = record { tag = 3; small = omega arith; body = []; spelled = refl; read = λ rest. refl }
element_again Uint64s h = record { tag = 4; small = omega arith; body = []; spelled = refl; read = λ rest. refl }
element_again (Handles owner class) h = record {
  tag = 5;
  small = omega arith;
  body = number 1 owner ++ number 2 class;
  spelled = refl;
  read = λ rest.
      as_again (λ (y : ℕ × ℕ). Handles y.0 y.1) (pair_field (number_field 1) (number_field 2)) (owner, class) rest h;
}
element_again (Hosts kind) h = record {
  tag = 6;
  small = omega arith;
  body = number 2 kind;
  spelled = refl;
  read = λ rest.
      as_again (λ n. Hosts n) (number_field 2) kind rest h;
}

pub element_field : IsField element FitsElement element_at
unfolding element_at
element_field = tagged_field element_takes element_again

-- ---- words of an object

pub fields_field : IsField (items 1 word) (λ fields. (length fields ≤ max_class_members) × AllByRecursion FitsWord fields)
    fields_at
unfolding fields_at
fields_field =
    refit_field (items_field 1 (checked_field (λ n. leb n max_class_members) (number_field 1)) word_field) (items 1 word) _
    (λ fields. refl)
    (λ fields h. (leb-true _ _ h.0.1, h.1))
    (λ fields h. ((omega (arith, h.0), le-leb _ _ h.0), h.1))

pub elements_field : IsField (items 2 word)
    (λ elements. (length elements ≤ max_elements) × AllByRecursion FitsWord elements) elements_at
unfolding elements_at
elements_field =
    refit_field (items_field 2 (checked_field (λ n. leb n max_elements) (number_field 2)) word_field) (items 2 word) _
    (λ elements. refl)
    (λ elements h. (leb-true _ _ h.0.1, h.1))
    (λ elements h. ((omega (arith, h.0), le-leb _ _ h.0), h.1))

-- ---- a kind and a state

state_field : IsField (text 2) (λ state. length state ≤ max_state_bytes) state_at
unfolding state_at
state_field =
    refit_field (checked_field (λ state. leb (length state) max_state_bytes) (text_field 2)) (text 2) _
    (λ state. refl)
    (λ state h. leb-true _ _ h.1)
    (λ state h. (omega (arith, h), le-leb _ _ h))

pub kind_and_state_field : IsField (λ (x : ℕ × List ℕ). host x.0 x.1) (λ (x : ℕ × List ℕ). FitsHost x.0 x.1)
    kind_and_state_at
unfolding kind_and_state_at
kind_and_state_field =
    refit_field (pair_field (number_field 2) state_field) (λ (x : ℕ × List ℕ). host x.0 x.1) _
    (λ x. refl)
    (λ x h. record { kind_fits = h.0; short = h.1 })
    (λ x h. (h.kind_fits, h.short))

-- ---- objects

plain_takes : (tag : ℕ) (bytes : List ℕ) (x : Plain ℕ × List ℕ) → IsBytes bytes → plain_case tag bytes ≡ Some x
    → HasCase plain FitsPlain tag bytes x
unfolding plain_case script_at array_at
plain_takes zero bytes x ok e = absurd cc
plain_takes (suc zero) bytes x ok e =
    case_takes plain FitsPlain 1 (λ (y : ℕ × (ℕ × List Word)). Script y.0 y.1.0 y.1.1)
    (pair_field (number_field 1) (pair_field (number_field 2) fields_field))
    (λ y h. (refl, record { owner_fits = h.0; class_fits = h.1.0; few = h.1.1.0; words = h.1.1.1 })) bytes x ok e
plain_takes (suc (suc zero)) bytes x ok e =
    case_takes plain FitsPlain 2 (λ (y : ℕ × List ℕ). Host y.0 y.1) kind_and_state_field (λ y h. (refl, h)) bytes x ok e
plain_takes (suc (suc (suc zero))) bytes x ok e =
    case_takes plain FitsPlain 3 (λ (y : Elements ℕ × List Word). Array y.0 y.1) (pair_field element_field elements_field)
    (λ y h. (refl, record { element_fits = h.0; few = h.1.0; words = h.1.1 })) bytes x ok e
plain_takes (suc (suc (suc (suc n)))) bytes x ok e = absurd cc

plain_again : (object : Plain ℕ) → FitsPlain object → IsCase plain plain_case object
unfolding plain_case script_at array_at
plain_again (Script owner class fields) h = record {
  tag = 1;
  small = omega arith;
  body = _;
  spelled = refl;
  read = λ rest.
      as_again (λ (y : ℕ × (ℕ × List Word)). Script y.0 y.1.0 y.1.1)
      (pair_field (number_field 1) (pair_field (number_field 2) fields_field)) (owner, (class, fields)) rest
      (h.owner_fits, (h.class_fits, (h.few, h.words)));
}
plain_again (Host kind state) h = record {
  tag = 2;
  small = omega arith;
  body = _;
  spelled = refl;
  read = λ rest.
      as_again (λ (y : ℕ × List ℕ). Host y.0 y.1) kind_and_state_field (kind, state) rest h;
}
plain_again (Array of elements) h = record {
  tag = 3;
  small = omega arith;
  body = _;
  spelled = refl;
  read = λ rest.
      as_again (λ (y : Elements ℕ × List Word). Array y.0 y.1) (pair_field element_field elements_field) (of, elements) rest
      (h.element_fits, (h.few, h.words));
}

pub plain_field : IsField plain FitsPlain plain_at
unfolding plain_at
plain_field = tagged_field plain_takes plain_again
