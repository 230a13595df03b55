use Rattle.std.proofs.Common.{◌≡◌, ◌<◌, ℕ, zero, suc, Bool, true, false, cond, List, [], ◌∷◌, refl, sym, subst, nat_eq, arith}
use Rattle.std.specs.Prelude.{Some, Contains, codes, slice_index}
use Rattle.std.specs.List.{AllByRecursion, IsDistinct}
use Rattle.std.proofs.lemmas.List.Elements.{All-from_recursion}
use Rattle.std.proofs.lemmas.Option.{same_Some}
use Rattle.ash_host.specs.declared.word.Word.TheVariants.{Object, Null}
use Rattle.ash_host.specs.Objects.{Plain, Script, Array, Host, Handles, Hosts, object_at}
use Rattle.ash_typed.specs.declared.types.Element.{Element}
use Rattle.ash_typed.specs.declared.types.Element.TheVariants as elements
use Rattle.ash_typed.specs.declared.types.ObjectType.TheVariants as objects
use Rattle.ash_typed.specs.declared.types.VarType.{VarType}
use Rattle.ash_typed.specs.declared.types.VarType.TheVariants as vars
use Rattle.ash_typed.specs.Modules.{Module}
use Rattle.ash_typed.specs.References.{Lists, ElementHolds, of_class, of_interface, is_class, is_interface, in_array, VariableHolds, handle, ClassRefers, AreRanks}
use Rattle.ash_typed.specs.Signatures as signatures
use Rattle.ash_typed.specs.Signatures.{ClassTypes, ModuleSignatures, signatures_of}
use Rattle.ash_typed.specs.SoundStatements as statements
use Rattle.ash_typed.specs.SoundModules.{IsSoundClass, IsSound}
use Rattle.ash_meaning.specs.Classes.{Program}
use Rattle.ash_soundness.specs.WellFormed as well
use Rattle.ash_soundness.specs.WellFormed.{OfClass, IsOfClass, ListsInterface, IsObject}
use Rattle.ash_soundness.proofs.Values.{none_in}
use Rattle.ash_object_ranks.specs.RankExample.{counting, fields_of_a, array_of, plain_class, lists_i, tree, known, owner, living}
use Rattle.ash_object_ranks.proofs.examples.worked_ranks.Goals as goal

-- the module is sound

abbrev s : ModuleSignatures
s = signatures_of counting tree

a_is_sound : IsSoundClass s 0 (plain_class (codes "A") [] fields_of_a)
a_is_sound = record {
  few = omega arith;
  interfaces = tt;
  fields = (
    record { type = signatures.handle (signatures.interface (omega arith)); value = statements.default tt },
    (
      record { type = signatures.handle (signatures.array (signatures.of_interface (omega arith))); value = statements.default tt },
      (
        record { type = signatures.handle (signatures.array (signatures.of_class (omega arith))); value = statements.default tt },
        (record { type = signatures.handle (signatures.array (signatures.of_host (0, omega arith, refl))); value = statements.default tt }, tt),
      ),
    ),
  );
  constructor = tt;
  methods = tt;
}

b_is_sound : IsSoundClass s 1 (plain_class (codes "B") lists_i [])
b_is_sound = record { few = omega arith; interfaces = (([], refl, tt), tt); fields = tt; constructor = tt; methods = tt }

c_is_sound : IsSoundClass s 2 (plain_class (codes "C") lists_i (vars.Handle (objects.Class 1) ∷ []))
c_is_sound = record {
  few = omega arith;
  interfaces = (([], refl, tt), tt);
  fields = (record { type = signatures.handle (signatures.class (omega arith)); value = statements.default tt }, tt);
  constructor = tt;
  methods = tt;
}

tree_is_sound : IsSound counting tree
unfolding IsDistinct
tree_is_sound = record {
  few_types = omega arith;
  few_globals = omega arith;
  functions_differ = tt;
  globals_differ = tt;
  interfaces = (record { before = omega arith; few = omega arith; methods = tt }, tt);
  interfaces_in_order = (omega arith, tt);
  classes = (a_is_sound, (b_is_sound, (c_is_sound, tt)));
  functions = tt;
  globals = tt;
}

-- its classes have ranks

a_lists_none : Lists s 0 0 → ⊥
a_lists_none (c, at, within) = none_in 0 (subst (λ (x : ClassTypes). Contains x.interfaces 0) (sym (same_Some _ c at)) within)

no_host_holds : {class : ℕ} {e : Element} → ElementHolds s class e → e ≡ elements.Host 1 → ⊥
no_host_holds of_class e = cc
no_host_holds (of_interface lists) e = cc

holds_no_a : VarType → Type 0
holds_no_a of = (to : ℕ) → VariableHolds s to of → to ≡ 0 → ⊥

i_holds_no_a : holds_no_a (vars.Handle (objects.Interface 0))
unfolding holds_no_a
i_holds_no_a to (handle (is_interface lists)) is = a_lists_none (subst (λ (n : ℕ). Lists s n 0) is lists)

is_holds_no_a : holds_no_a (array_of (elements.Interface 0))
unfolding holds_no_a
is_holds_no_a to (handle (in_array (of_interface lists))) is = a_lists_none (subst (λ (n : ℕ). Lists s n 0) is lists)

bs_hold_no_a : holds_no_a (array_of (elements.Class 1))
unfolding holds_no_a
bs_hold_no_a to (handle (in_array of_class)) is = cc

cs_hold_no_a : holds_no_a (array_of (elements.Host 1))
unfolding holds_no_a
cs_hold_no_a to (handle (in_array holds)) is = no_host_holds holds refl

fields_hold_no_a : (of : VarType) → Contains fields_of_a of → holds_no_a of
fields_hold_no_a of (zero, l, e) = subst holds_no_a e i_holds_no_a
fields_hold_no_a of (suc zero, l, e) = subst holds_no_a e is_holds_no_a
fields_hold_no_a of (suc (suc zero), l, e) = subst holds_no_a e bs_hold_no_a
fields_hold_no_a of (suc (suc (suc zero)), l, e) = subst holds_no_a e cs_hold_no_a
fields_hold_no_a of (suc (suc (suc (suc k))), l, e) = absurd (omega (arith, l))

low : (to : ℕ) → (to ≡ 0 → ⊥) → slice_index (2 ∷ 0 ∷ 1 ∷ []) to < 2
low zero not = absurd (not refl)
low (suc zero) not = omega arith
low (suc (suc zero)) not = omega arith
low (suc (suc (suc to))) not = omega arith

class_b : (to : ℕ) → VariableHolds s to (vars.Handle (objects.Class 1)) → to ≡ 1
class_b to (handle is_class) = refl

fall : (from to : ℕ) → ClassRefers s from to → slice_index (2 ∷ 0 ∷ 1 ∷ []) to < slice_index (2 ∷ 0 ∷ 1 ∷ []) from
unfolding holds_no_a
fall zero to (c, of, at, within, holds) =
    low to (fields_hold_no_a of (subst (λ (x : ClassTypes). Contains x.fields of) (sym (same_Some _ c at)) within) to holds)
fall (suc zero) to (c, of, at, within, holds) = absurd (none_in of (subst (λ (x : ClassTypes). Contains x.fields of) (sym (same_Some _ c at)) within))
fall (suc (suc zero)) to (c, of, at, within, holds) =
    only_b (subst (λ (x : ClassTypes). Contains x.fields of) (sym (same_Some _ c at)) within)
  where
    only_b : Contains (vars.Handle (objects.Class 1) ∷ []) of → slice_index (2 ∷ 0 ∷ 1 ∷ []) to < 1
    only_b (zero, l, e) = subst (λ (n : ℕ). slice_index (2 ∷ 0 ∷ 1 ∷ []) n < 1) (sym (class_b to (subst (VariableHolds s to) (sym e) holds))) (omega arith)
    only_b (suc k, l, e) = absurd (omega (arith, l))
fall (suc (suc (suc from))) to (c, of, at, within, holds) = absurd (cc)

classes_have_ranks : AreRanks s (2 ∷ 0 ∷ 1 ∷ [])
classes_have_ranks = record {
  count = refl;
  within = All-from_recursion (λ (rank : ℕ). rank < 3) (2 ∷ 0 ∷ 1 ∷ []) (omega arith, (omega arith, (omega arith, tt)));
  fall = fall;
}

-- its objects are well-formed

each_lives : (all : List (ℕ × Plain (List ℕ))) → AllByRecursion (λ (e : ℕ × Plain (List ℕ)). IsObject known living e.1) all → (number : ℕ) (o : Plain (List ℕ)) → object_at number all ≡ Some o → IsObject known living o
each_lives [] h number o at = absurd (cc)
each_lives (e ∷ all) h number o at = by (nat_eq number e.0) at (λ later. each_lives all h.1 number o later)
  where
    by : (b : Bool) → cond b (Some e.1) (object_at number all) ≡ Some o → (object_at number all ≡ Some o → IsObject known living o) → IsObject known living o
    by true at later = subst (IsObject known living) (same_Some e.1 o at) h.0
    by false at later = later at

abbrev p : Program
p = record { name = owner; tree = tree }

abbrev is_b : IsOfClass p 1 (OfClass owner 2)
is_b = record { source = _; at = refl; is = refl }

abbrev is_c : IsOfClass p 2 (OfClass owner 3)
is_c = record { source = _; at = refl; is = refl }

b_lists : ListsInterface p 0 (OfClass owner 2)
b_lists = record { class = 1; of = is_b; lists = (0, omega arith, refl) }

c_lists : ListsInterface p 0 (OfClass owner 3)
c_lists = record { class = 2; of = is_c; lists = (0, omega arith, refl) }

an_a : IsObject known living (Script owner 0 (Object 3 ∷ Object 4 ∷ Object 5 ∷ Object 6 ∷ []))
an_a = well.is_script (record {
  tree = tree;
  known = refl;
  class = 0;
  source = _;
  at = refl;
  is = refl;
  values =
      well.and_value (well.is_handle (well.to_object refl c_lists))
      (well.and_value (well.is_handle (well.to_object refl (record { named = omega arith; is = refl })))
      (well.and_value (well.is_handle (well.to_object refl (record { named = omega arith; is = refl })))
      (well.and_value (well.is_handle (well.to_object refl (record { named = tt; is = refl }))) well.no_values)));
})

a_b : IsObject known living (Script owner 2 [])
a_b = well.is_script (record { tree = tree; known = refl; class = 1; source = _; at = refl; is = refl; values = well.no_values })

a_c : IsObject known living (Script owner 3 (Object 2 ∷ []))
a_c = well.is_script (record {
  tree = tree;
  known = refl;
  class = 2;
  source = _;
  at = refl;
  is = refl;
  values = well.and_value (well.is_handle (well.to_object refl is_b)) well.no_values;
})

array_of_both : IsObject known living (Array (Handles owner 1) (Object 2 ∷ Object 3 ∷ []))
array_of_both = well.is_array (record {
  few = omega arith;
  program = p;
  element = elements.Interface 0;
  known = refl;
  named = omega arith;
  is = refl;
  values =
      well.and_is (well.is_handle (well.to_object refl b_lists))
      (well.and_is (well.is_handle (well.to_object refl c_lists)) well.none_are);
})

array_of_b : IsObject known living (Array (Handles owner 2) (Object 2 ∷ Null ∷ []))
array_of_b = well.is_array (record {
  few = omega arith;
  program = p;
  element = elements.Class 1;
  known = refl;
  named = omega arith;
  is = refl;
  values = well.and_is (well.is_handle (well.to_object refl is_b)) (well.and_is (well.is_handle well.to_nothing) well.none_are);
})

array_of_host : IsObject known living (Array (Hosts 1) (Object 7 ∷ []))
array_of_host = well.is_array (record {
  few = omega arith;
  program = p;
  element = elements.Host 1;
  known = tt;
  named = tt;
  is = refl;
  values = well.and_is (well.is_handle (well.to_object refl refl)) well.none_are;
})

a_host : IsObject known living (Host 1 [])
a_host = well.is_host (omega arith)

all_live : AllByRecursion (λ (e : ℕ × Plain (List ℕ)). IsObject known living e.1) living
all_live = (an_a, (a_b, (a_c, (array_of_both, (array_of_b, (array_of_host, (a_host, tt)))))))

pub returns-clause-sound : goal.returns-clause-sound
returns-clause-sound g = λ name one e. subst (IsSound counting) (same_Some tree one e) tree_is_sound

pub returns-clause-ranked : goal.returns-clause-ranked
returns-clause-ranked g = λ name one e. subst (λ (m : Module). AreRanks (signatures_of counting m) (2 ∷ 0 ∷ 1 ∷ [])) (same_Some tree one e) classes_have_ranks

pub returns-clause-living : goal.returns-clause-living
returns-clause-living g = record { each = λ number o at. each_lives living all_live number o at }
