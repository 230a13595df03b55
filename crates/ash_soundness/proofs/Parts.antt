-- What objects of a shape have: fields of the types that the class says, and elements of the type of an array.
use Rattle.std.proofs.Common.{◌≡◌, ◌<◌, ◌≤◌, ℕ, zero, suc, List, [], ◌∷◌, length, refl, sym, ap, ◌∙◌, subst, map, arith}
use Rattle.std.specs.Prelude.{Some, slice_get}
use Rattle.std.proofs.lemmas.Option.{same_Some}
use Rattle.ash_host.specs.declared.word.Word.{Word}
use Rattle.ash_host.specs.Objects.{Elements, Handles, Hosts, Plain, Script, Array, Host, LiveObjects, fields_of}
use Rattle.ash_host.specs.Limits.{max_elements}
use Rattle.ash_integers.specs.declared.int_type.IntType.TheVariants as ints
use Rattle.ash_typed.specs.declared.types.Element as typed_element
use Rattle.ash_typed.specs.declared.types.Element.TheVariants as elements
use Rattle.ash_typed.specs.declared.types.VarType.{VarType}
use Rattle.ash_typed.specs.TypeOf.{type_of_element}
use Rattle.ash_typed.specs.Modules.{Interface, Class, Module}
use Rattle.ash_typed.specs.Signatures.{type_declared}
use Rattle.ash_meaning.specs.ObjectSteps.{with_words}
use Rattle.ash_meaning.specs.Classes.{Program, place_of_class, place_of_interface, element_of}
use Rattle.ash_soundness.specs.WellFormed.{Context, IsContext, Shape, OfClass, OfElements, OfKind, shape_of, IsOfClass, ListsInterface, IsNamed, IsKnownFor, IsArrayOf, IsReference, to_nothing, to_object, IsValue, is_truth, is_integer, is_handle, AreValues, AllAre, none_are, and_is, IsObject, is_script, is_array}
use Rattle.ash_soundness.proofs.Places.{one_class, class_or_interface, one_interface}
use Rattle.ash_soundness.proofs.SourceOrder.{in_source_order}

same_owner : {owner other : List ℕ} {place at : ℕ} → OfClass owner place ≡ OfClass other at → owner ≡ other
same_owner e = cc

same_place : {owner other : List ℕ} {place at : ℕ} → OfClass owner place ≡ OfClass other at → place ≡ at
same_place e = cc

pub same_elements : {of other : Elements (List ℕ)} → OfElements of ≡ OfElements other → of ≡ other
same_elements e = cc

same_owners : {owner other : List ℕ} {place at : ℕ} → Handles owner place ≡ Handles other at → owner ≡ other
same_owners e = cc

same_places : {owner other : List ℕ} {place at : ℕ} → Handles owner place ≡ Handles other at → place ≡ at
same_places e = cc

same_kinds : {kind other : ℕ} → ◌≡◌ {A = Elements (List ℕ)} (Hosts kind) (Hosts other) → kind ≡ other
same_kinds e = cc

-- what has a place in a list is there
pub there_from : {A : Type 0} (xs : List A) (k : ℕ) → k < length xs → (x : A) × (slice_get xs k ≡ Some x)
there_from [] k lt = absurd (omega arith)
there_from (x ∷ xs) zero lt = (x, refl)
there_from (x ∷ xs) (suc k) lt = there_from xs k (omega arith)

module _ {c : Context} (context : IsContext c) where
  abbrev p : Program
  p = c.program

  -- a module that is known by the name of the one that runs is that one
  same_tree : (owner : List ℕ) (tree : Module) → c.modules owner ≡ Some tree → owner ≡ p.name → tree ≡ p.tree
  same_tree owner tree known same = same_Some tree p.tree (sym known ∙ ap c.modules same ∙ context.known)

  -- fields of the types of a class of the module that runs

  abbrev types_in : Class → List VarType
  types_in k = map type_declared k.fields

  module _ {all : LiveObjects (List ℕ)} {class : ℕ} {shape : Shape} (i : IsOfClass p class shape) where
    values_as : (owner : List ℕ) (tree : Module) (k : Class) (other : ℕ) (ws : List Word) → owner ≡ p.name → tree ≡ p.tree → slice_get tree.classes other ≡ Some k → place_of_class tree other ≡ place_of_class p.tree class → AreValues (record { name = owner; tree = tree }) all (types_in k) ws → AreValues p all (types_in i.source) ws
    values_as owner tree k other ws name same at place values =
        let at_other : slice_get (p.tree).classes other ≡ Some k = subst (λ (m : Module). slice_get m.classes other ≡ Some k) same at in
        let level : other ≡ class = one_class p.tree other class (subst (λ (m : Module). place_of_class m other ≡ place_of_class p.tree class) same place) in
        let at_class : slice_get (p.tree).classes class ≡ Some k = subst (λ (n : ℕ). slice_get (p.tree).classes n ≡ Some k) level at_other in
        let one : k ≡ i.source = same_Some k i.source (sym at_class ∙ i.at) in
        let named : AreValues (record { name = p.name; tree = tree }) all (types_in k) ws = subst (λ (n : List ℕ). AreValues (record { name = n; tree = tree }) all (types_in k) ws) name values in
        let of_tree : AreValues p all (types_in k) ws = subst (λ (m : Module). AreValues (record { name = p.name; tree = m }) all (types_in k) ws) same named in
        subst (λ (x : Class). AreValues p all (types_in x) ws) one of_tree

    -- an object of the class has values of the types of its fields
    pub fields_fit : (o : Plain (List ℕ)) → shape_of o ≡ shape → IsObject c.modules all o → AreValues p all (types_in i.source) (fields_of o)
    fields_fit (Script owner place ws) e (is_script s) =
        let whole = e ∙ i.is in
        let name : owner ≡ p.name = same_owner whole in
        let at : place ≡ place_of_class p.tree class = same_place whole in
        values_as owner s.tree s.source s.class ws name (same_tree owner s.tree s.known name) s.at (sym s.is ∙ at) s.values
    fields_fit (Array of ws) e o = absurd (let whole = e ∙ i.is in cc)
    fields_fit (Host kind state) e o = absurd (let whole = e ∙ i.is in cc)

    -- and stays well-formed with other values of these types
    pub fields_put : (o : Plain (List ℕ)) (ws : List Word) → shape_of o ≡ shape → AreValues p all (types_in i.source) ws → IsObject c.modules all (with_words ws o)
    fields_put (Script owner place old) ws e values =
        let whole = e ∙ i.is in
        let name : owner ≡ p.name = same_owner whole in
        is_script (record {
          tree = p.tree;
          known = ap c.modules name ∙ context.known;
          class = class;
          source = i.source;
          at = i.at;
          is = same_place whole;
          values = subst (λ (n : List ℕ). AreValues (record { name = n; tree = p.tree }) all (types_in i.source) ws) (sym name) values;
        })
    fields_put (Array of old) ws e values = absurd (let whole = e ∙ i.is in cc)
    fields_put (Host kind state) ws e values = absurd (let whole = e ∙ i.is in cc)

  -- elements

  refers_as : {all : LiveObjects (List ℕ)} {Fits More : Shape → Type 0} {w : Word} → ((shape : Shape) → Fits shape → More shape) → IsReference all Fits w → IsReference all More w
  refers_as more to_nothing = to_nothing
  refers_as more (to_object {shape = shape} at fits) = to_object at (more shape fits)

  same_program : (q : Program) → q.name ≡ p.name → q.tree ≡ p.tree → q ≡ p
  same_program q name tree = ap (λ (n : List ℕ). record { name = n; tree = q.tree }) name ∙ ap (λ (m : Module). record { name = p.name; tree = m }) tree

  class_as : (q : Program) (class other : ℕ) → q ≡ p → other ≡ class → (shape : Shape) → IsOfClass q other shape → IsOfClass p class shape
  class_as q class other same level shape i = subst (λ (n : ℕ). IsOfClass p n shape) level (subst (λ (r : Program). IsOfClass r other shape) same i)

  interface_as : (q : Program) (interface other : ℕ) → q ≡ p → other ≡ interface → (shape : Shape) → ListsInterface q other shape → ListsInterface p interface shape
  interface_as q interface other same level shape i = subst (λ (n : ℕ). ListsInterface p n shape) level (subst (λ (r : Program). ListsInterface r other shape) same i)

  module _ (q : Program) (known : c.modules q.name ≡ Some q.tree) where
    one_program : (place at : ℕ) → Handles q.name place ≡ Handles p.name at → q ≡ p
    one_program place at e = same_program q (same_owners e) (same_tree q.name q.tree known (same_owners e))

    level_class : (class other : ℕ) → Handles q.name (place_of_class q.tree other) ≡ Handles p.name (place_of_class p.tree class) → other ≡ class
    level_class class other e =
        let same = one_program _ _ e in
        one_class p.tree other class (subst (λ (r : Program). place_of_class r.tree other ≡ place_of_class p.tree class) same (same_places e))

    level_interface : (interface other : ℕ) → interface < length (p.tree).interfaces → other < length (q.tree).interfaces → Handles q.name (place_of_interface q.tree other) ≡ Handles p.name (place_of_interface p.tree interface) → other ≡ interface
    level_interface interface other named known_there e =
        let same = one_program _ _ e in
        let (j, there) = there_from (p.tree).interfaces interface named in
        let (i, at) = there_from (p.tree).interfaces other (subst (λ (r : Program). other < length (r.tree).interfaces) same known_there) in
        one_interface p.tree (in_source_order context.sound) other interface i j at there (subst (λ (r : Program). place_of_interface r.tree other ≡ place_of_interface p.tree interface) same (same_places e))

    no_class_there : (interface other : ℕ) → interface < length (p.tree).interfaces → Handles q.name (place_of_class q.tree other) ≡ Handles p.name (place_of_interface p.tree interface) → ⊥
    no_class_there interface other named e =
        let same = one_program _ _ e in
        let (i, at) = there_from (p.tree).interfaces interface named in
        class_or_interface p.tree (in_source_order context.sound) other interface i at (subst (λ (r : Program). place_of_class r.tree other ≡ place_of_interface p.tree interface) same (same_places e))

    no_interface_there : (class other : ℕ) → other < length (q.tree).interfaces → Handles q.name (place_of_interface q.tree other) ≡ Handles p.name (place_of_class p.tree class) → ⊥
    no_interface_there class other named e =
        let same = one_program _ _ e in
        let (i, at) = there_from (p.tree).interfaces other (subst (λ (r : Program). other < length (r.tree).interfaces) same named) in
        class_or_interface p.tree (in_source_order context.sound) class other i at (sym (subst (λ (r : Program). place_of_interface r.tree other ≡ place_of_class p.tree class) same (same_places e)))

  -- a module that has the same elements by its types has values of the same type
  element_as : {all : LiveObjects (List ℕ)} (q : Program) (e d : typed_element.Element) {w : Word} → IsKnownFor c.modules q d → IsNamed p.tree e → IsNamed q.tree d → element_of q d ≡ element_of p e → IsValue q all (type_of_element d) w → IsValue p all (type_of_element e) w
  element_as q elements.Bool elements.Bool k ne nd same is_truth = is_truth
  element_as q (elements.Integer ints.Int) (elements.Integer ints.Int) k ne nd same (is_integer i) = is_integer i
  element_as q (elements.Integer ints.Uint) (elements.Integer ints.Uint) k ne nd same (is_integer i) = is_integer i
  element_as q (elements.Integer ints.Int64) (elements.Integer ints.Int64) k ne nd same (is_integer i) = is_integer i
  element_as q (elements.Integer ints.Uint64) (elements.Integer ints.Uint64) k ne nd same (is_integer i) = is_integer i
  element_as q (elements.Class class) (elements.Class other) k ne nd same (is_handle r) = is_handle (refers_as (class_as q class other (one_program q k _ _ same) (level_class q k class other same)) r)
  element_as q (elements.Interface interface) (elements.Interface other) k ne nd same (is_handle r) = is_handle (refers_as (interface_as q interface other (one_program q k _ _ same) (level_interface q k interface other ne nd same)) r)
  element_as q (elements.Class class) (elements.Interface other) k ne nd same v = absurd (no_interface_there q k class other nd same)
  element_as q (elements.Interface interface) (elements.Class other) k ne nd same v = absurd (no_class_there q k interface other ne same)
  element_as q (elements.Host kind) (elements.Host other) k ne nd same (is_handle r) = is_handle (refers_as (λ shape e. e ∙ ap OfKind (same_kinds same)) r)
  element_as q elements.Bool (elements.Integer ints.Int) k ne nd same v = absurd (cc)
  element_as q elements.Bool (elements.Integer ints.Uint) k ne nd same v = absurd (cc)
  element_as q elements.Bool (elements.Integer ints.Int64) k ne nd same v = absurd (cc)
  element_as q elements.Bool (elements.Integer ints.Uint64) k ne nd same v = absurd (cc)
  element_as q (elements.Class class) (elements.Integer ints.Int) k ne nd same v = absurd (cc)
  element_as q (elements.Class class) (elements.Integer ints.Uint) k ne nd same v = absurd (cc)
  element_as q (elements.Class class) (elements.Integer ints.Int64) k ne nd same v = absurd (cc)
  element_as q (elements.Class class) (elements.Integer ints.Uint64) k ne nd same v = absurd (cc)
  element_as q (elements.Interface interface) (elements.Integer ints.Int) k ne nd same v = absurd (cc)
  element_as q (elements.Interface interface) (elements.Integer ints.Uint) k ne nd same v = absurd (cc)
  element_as q (elements.Interface interface) (elements.Integer ints.Int64) k ne nd same v = absurd (cc)
  element_as q (elements.Interface interface) (elements.Integer ints.Uint64) k ne nd same v = absurd (cc)
  element_as q (elements.Host kind) (elements.Integer ints.Int) k ne nd same v = absurd (cc)
  element_as q (elements.Host kind) (elements.Integer ints.Uint) k ne nd same v = absurd (cc)
  element_as q (elements.Host kind) (elements.Integer ints.Int64) k ne nd same v = absurd (cc)
  element_as q (elements.Host kind) (elements.Integer ints.Uint64) k ne nd same v = absurd (cc)
  element_as q _ _ k ne nd same v = absurd (cc)

  elements_as : {all : LiveObjects (List ℕ)} (q : Program) (e d : typed_element.Element) {ws : List Word} → IsKnownFor c.modules q d → IsNamed p.tree e → IsNamed q.tree d → element_of q d ≡ element_of p e → AllAre q all (type_of_element d) ws → AllAre p all (type_of_element e) ws
  elements_as q e d k ne nd same none_are = none_are
  elements_as q e d k ne nd same (and_is v vs) = and_is (element_as q e d k ne nd same v) (elements_as q e d k ne nd same vs)

  -- the module that runs is known
  pub known_here : (e : typed_element.Element) → IsKnownFor c.modules p e
  known_here (elements.Class class) = context.known
  known_here (elements.Interface interface) = context.known
  known_here _ = tt

  module _ {all : LiveObjects (List ℕ)} {e : typed_element.Element} {shape : Shape} (i : IsArrayOf p e shape) where
    -- an array of the elements has values of their type
    pub elements_fit : (o : Plain (List ℕ)) → shape_of o ≡ shape → IsObject c.modules all o → AllAre p all (type_of_element e) (fields_of o)
    elements_fit (Script owner place ws) s o = absurd (let whole = s ∙ i.is in cc)
    elements_fit (Array of ws) s (is_array a) = elements_as a.program e a.element a.known i.named a.named (sym a.is ∙ same_elements (s ∙ i.is)) a.values
    elements_fit (Host kind state) s o = absurd (let whole = s ∙ i.is in cc)

    pub elements_few : (o : Plain (List ℕ)) → shape_of o ≡ shape → IsObject c.modules all o → length (fields_of o) ≤ max_elements
    elements_few (Script owner place ws) s o = absurd (let whole = s ∙ i.is in cc)
    elements_few (Array of ws) s (is_array a) = a.few
    elements_few (Host kind state) s o = absurd (let whole = s ∙ i.is in cc)

    -- and stays well-formed with others
    pub elements_put : (o : Plain (List ℕ)) (ws : List Word) → shape_of o ≡ shape → length ws ≤ max_elements → AllAre p all (type_of_element e) ws → IsObject c.modules all (with_words ws o)
    elements_put (Script owner place old) ws s few values = absurd (let whole = s ∙ i.is in cc)
    elements_put (Array of old) ws s few values = is_array (record { few = few; program = p; element = e; known = known_here e; named = i.named; is = same_elements (s ∙ i.is); values = values })
    elements_put (Host kind state) ws s few values = absurd (let whole = s ∙ i.is in cc)
