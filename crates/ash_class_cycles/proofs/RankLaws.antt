-- What a field of a typed class can hold, the field names as it is written.
use Rattle.std.specs.Option.{option_and_then, option_map, option_or}
use Rattle.std.proofs.lemmas.Option.{same_Some}
use Rattle.std.proofs.lemmas.List.Elements.{Contains-append_right, Contains-append_cases, Contains-push_cases}
use Rattle.std.proofs.lemmas.Slice.Eq.{bytes_eq-Decides}
use Rattle.std.proofs.Common.{◌≡◌, ◌<◌, ◌⊎◌, inl, inr, ⊎_elim, ℕ, length, List, [], ◌∷◌, ◌++◌, map, true, Option, Some}
use Rattle.std.proofs.Common.{None, IfSome, find, All, Any, Contains, slice_get, suc, refl, sym, ap, subst, ◌∙◌, arith}
use Rattle.ash_class_cycles.specs.ClassReferences as written_references
use Rattle.ash_class_cycles.specs.Paths as paths
use Rattle.ash_registrations.specs.Registrations as host
use Rattle.ash_tree.specs.declared.tree.types.Primitive.{Primitive}
use Rattle.ash_tree.specs.declared.tree.types.Primitive.TheVariants as primitives
use Rattle.ash_tree.specs.Tree as written
use Rattle.ash_typed.specs.declared.types.ObjectType.{ObjectType}
use Rattle.ash_typed.specs.declared.types.ObjectType.TheVariants as objects
use Rattle.ash_typed.specs.declared.types.Element.{Element}
use Rattle.ash_typed.specs.declared.types.VarType.{VarType}
use Rattle.ash_typed.specs.Modules.{Module}
use Rattle.ash_typed.specs.References as references
use Rattle.ash_typed.specs.Signatures as signatures
use Rattle.ash_type_rules.specs.TypeRules.{var_type, ty_of}
use Rattle.ash_type_rules.specs.Environment.{InterfaceSignature, ClassSignature, ModuleDeclarations, first_from, is_class, is_interface_named}
use Rattle.ash_type_rules.specs.Environment.{type_declared}
use Rattle.ash_type_rules.specs.ModuleDeclarations.{class_type, interface_type, host_object, object_named, element_of}
use Rattle.ash_type_rules.specs.ModuleDeclarations.{element_by}
use Rattle.ash_type_rules.specs.ModuleDeclarations.{element_named, array_named, object_ty, handle_ty, ty_named, declared}
use Rattle.ash_type_rules.specs.ModuleDeclarations.{variables}
use Rattle.ash_type_rules.specs.ModuleDeclarations.{interface_place, with_place, listed_in, named_class, class_declaration}
use Rattle.ash_type_rules.specs.ModuleDeclarations.{names_in, declarations}
use Rattle.ash_type_rules.specs.ModuleDeclarations.{all_variables}
use Rattle.ash_type_rules.specs.TypedModules.{environment, IsTyped}
use Rattle.ash_type_rules.specs.Offered.{offered}
use Rattle.ash_type_rules.specs.Soundness.{signature_of_class, signatures_in}
use Rattle.ash_type_rules.proofs.TypingKnown.{if_or}
use Rattle.ash_type_rules.proofs.SoundnessLookUps.{first_place}
use Rattle.ash_type_rules.proofs.SoundnessClasses.{first_passes, unmapped, classes_length}
use Rattle.ash_type_rules.proofs.SoundnessSignatures.{same_signatures}
use Rattle.ash_tree.specs.Items.{classes_of, fields_of}

-- lists

none_contained : {A : Type 0} (y : A) → Contains [] y → ⊥
none_contained y h = let few = h.1 in omega arith

one_contained : {A : Type 0} (x y : A) → Contains (x ∷ []) y → x ≡ y
one_contained x y h = ⊎_elim (λ none. absurd (none_contained y none)) (λ e. e) (Contains-push_cases [] x y h)

contained_cases : {A : Type 0} (x : A) (xs : List A) (y : A) → Contains (x ∷ xs) y → (x ≡ y) ⊎ Contains xs y
contained_cases x xs y h =
    ⊎_elim (λ one. inl (one_contained x y one)) (λ rest. inr rest) (Contains-append_cases (x ∷ []) xs y h)

-- one of the elements passes
Among : {A : Type 0} → (A → Type 0) → List A → Type 0
Among P [] = ⊥
Among P (x ∷ xs) = P x ⊎ Among P xs

among_from : {A : Type 0} (P : A → Type 0) (xs : List A) (y : A) → Contains xs y → P y → Among P xs
unfolding Among
among_from P [] y h p = none_contained y h
among_from P (x ∷ xs) y h p =
    ⊎_elim (λ e. inl (subst P (sym e) p)) (λ rest. inr (among_from P xs y rest p)) (contained_cases x xs y h)

any_later : {A : Type 0} (P : A → Type 0) (x : A) (xs : List A) → Any P xs → Any P (x ∷ xs)
any_later P x xs h = let k : Contains (x ∷ xs) h.1 = Contains-append_right (x ∷ []) xs h.1 (h.0, h.2, h.3) in
    (k.0, h.1, k.1, k.2, h.4)

any_among : {A : Type 0} (P : A → Type 0) (xs : List A) → Among P xs → Any P xs
unfolding Among
any_among P [] h = absurd h
any_among P (x ∷ xs) (inl p) = (0, x, omega arith, refl, p)
any_among P (x ∷ xs) (inr rest) = any_later P x xs (any_among P xs rest)

among_weaker : {A : Type 0} (P Q : A → Type 0) (xs : List A) → ((x : A) → P x → Q x) → Among P xs → Among Q xs
unfolding Among
among_weaker P Q [] one h = h
among_weaker P Q (x ∷ xs) one (inl p) = inl (one x p)
among_weaker P Q (x ∷ xs) one (inr rest) = inr (among_weaker P Q xs one rest)

among_map : {A B : Type 0} (P : B → Type 0) (f : A → B) (xs : List A) → Among P (map f xs) → Among (λ x. P (f x)) xs
unfolding Among
among_map P f [] h = h
among_map P f (x ∷ xs) (inl p) = inl p
among_map P f (x ∷ xs) (inr rest) = inr (among_map P f xs rest)

among_append : {A : Type 0} (P : A → Type 0) (xs ys : List A) → Among P (xs ++ ys) → Among P xs ⊎ Among P ys
unfolding Among
among_append P [] ys h = inr h
among_append P (x ∷ xs) ys (inl p) = inl (inl p)
among_append P (x ∷ xs) ys (inr rest) = ⊎_elim (λ p. inl (inr p)) (λ q. inr q) (among_append P xs ys rest)

-- what does not look at the element
among_all : {A : Type 0} (Q : Type 0) (xs : List A) → Among (λ x. Q) xs → Q
unfolding Among
among_all Q [] h = absurd h
among_all Q (x ∷ xs) (inl q) = q
among_all Q (x ∷ xs) (inr rest) = among_all Q xs rest

-- classes and interfaces by their names

-- the name is that of the class, or of the interface, at the place
abbrev IsNameOfClass : ModuleDeclarations → List ℕ → ℕ → Type 0
IsNameOfClass named name place = (c : ClassSignature) × (slice_get named.classes place ≡ Some c) × (name ≡ c.name)

abbrev IsNameOfInterface : ModuleDeclarations → List ℕ → ℕ → Type 0
IsNameOfInterface named name place = (i : InterfaceSignature) × (slice_get named.interfaces place ≡ Some i) × (name ≡ i.name)

-- what the name of an object type says
abbrev IsNamed : ModuleDeclarations → List ℕ → ObjectType → Type 0
IsNamed named name (objects.Class class) = IsNameOfClass named name class
IsNamed named name (objects.Interface interface) = IsNameOfInterface named name interface
IsNamed named name (objects.Host kind) = Unit {0}
IsNamed named name (objects.Array of) = ⊥

class_is_named : (named : ModuleDeclarations) (name : List ℕ) → IfSome (class_type named.classes name) (IsNamed named name)
class_is_named named name =
    go (first_from (is_class name) 0 named.classes) (first_place (is_class name) named.classes)
    (first_passes (is_class name) 0 named.classes)
  where
    go : (found : Option (ℕ × ClassSignature)) → IfSome found (λ f. slice_get named.classes f.0 ≡ Some f.1)
        → IfSome found (λ f. is_class name f.1 ≡ true)
        → IfSome (option_map (λ (f : ℕ × ClassSignature). objects.Class f.0) found) (IsNamed named name)
    go None at called = tt
    go (Some f) at called = (f.1, at, (bytes_eq-Decides name f.1.name).0 called)

interface_is_named : (named : ModuleDeclarations) (name : List ℕ)
    → IfSome (interface_type named.interfaces name) (IsNamed named name)
interface_is_named named name =
    go (first_from (is_interface_named name) 0 named.interfaces)
    (first_place (is_interface_named name) named.interfaces) (first_passes (is_interface_named name) 0 named.interfaces)
  where
    go : (found : Option (ℕ × InterfaceSignature)) → IfSome found (λ f. slice_get named.interfaces f.0 ≡ Some f.1)
        → IfSome found (λ f. is_interface_named name f.1 ≡ true)
        → IfSome (option_map (λ (f : ℕ × InterfaceSignature). objects.Interface f.0) found) (IsNamed named name)
    go None at called = tt
    go (Some f) at called = (f.1, at, (bytes_eq-Decides name f.1.name).0 called)

host_is_named : (named : ModuleDeclarations) (name : List ℕ) (registration : Option host.Registration)
    → IfSome (option_and_then host_object registration) (IsNamed named name)
host_is_named named name None = tt
host_is_named named name (Some (host.TypeRegistration other kind)) = tt
host_is_named named name (Some _) = tt

object_is_named : (registrations : List host.Registration) (named : ModuleDeclarations) (name : List ℕ)
    → IfSome (object_named registrations named name) (IsNamed named name)
unfolding object_named
object_is_named registrations named name =
    if_or (IsNamed named name) (class_type named.classes name)
    (option_or (interface_type named.interfaces name) (option_and_then host_object (find (host.takes_name name) registrations)))
    (class_is_named named name)
    (if_or (IsNamed named name) (interface_type named.interfaces name)
    (option_and_then host_object (find (host.takes_name name) registrations)) (interface_is_named named name)
    (host_is_named named name (find (host.takes_name name) registrations)))

named_by : (registrations : List host.Registration) (named : ModuleDeclarations) (name : List ℕ) (o : ObjectType)
    → object_named registrations named name ≡ Some o → IsNamed named name o
named_by registrations named name o e = let h = object_is_named registrations named name in
    subst (λ (found : Option ObjectType). IfSome found (IsNamed named name)) e h

-- two names of one interface are the same
same_names : (named : ModuleDeclarations) (one other : List ℕ) (place : ℕ) → IsNameOfInterface named one place
    → IsNameOfInterface named other place → one ≡ other
same_names named one other place h k = let same = same_Some h.0 k.0 (sym h.1 ∙ k.1) in
    h.2 ∙ ap (λ (i : InterfaceSignature). i.name) same ∙ sym k.2

-- classes as they are written

-- the class that is written at the place, of which a field names a type
abbrev HasClass : List written.Item → ℕ → (written.Class → Type 0) → Type 0
HasClass is place P = (c : written.Class) × (slice_get (classes_of is) place ≡ Some c) × P c

-- the interfaces that are listed
among_listed : (registrations : List host.Registration) (named : ModuleDeclarations) (ns : List written.TypeName) (interface : ℕ)
    → Among (λ i. i ≡ interface) (listed_in registrations named ns)
    → Among (λ n. object_named registrations named n.name ≡ Some (objects.Interface interface)) ns
unfolding Among
among_listed registrations named [] interface h = h
among_listed registrations named (n ∷ ns) interface h =
    go (object_named registrations named n.name) refl h (among_listed registrations named ns interface)
  where
    go : (found : Option ObjectType) → object_named registrations named n.name ≡ found
        → Among (λ i. i ≡ interface) (with_place (interface_place found) (listed_in registrations named ns))
        → (Among (λ i. i ≡ interface) (listed_in registrations named ns)
        → Among (λ n. object_named registrations named n.name ≡ Some (objects.Interface interface)) ns)
        → (object_named registrations named n.name ≡ Some (objects.Interface interface)) ⊎ Among
        (λ n. object_named registrations named n.name ≡ Some (objects.Interface interface)) ns
    go (Some (objects.Interface i)) e (inl same) more = inl (e ∙ ap (λ place. Some (objects.Interface place)) same)
    go (Some (objects.Interface i)) e (inr rest) more = inr (more rest)
    go (Some (objects.Class i)) e h more = inr (more h)
    go (Some (objects.Host i)) e h more = inr (more h)
    go (Some (objects.Array of)) e h more = inr (more h)
    go None e h more = inr (more h)

module _ (registrations : List host.Registration) (is : List written.Item) where
  abbrev seen : signatures.ModuleSignatures
  seen = signatures_in registrations (declarations registrations is)

  written_class : (place : ℕ) (c : signatures.ClassTypes) → slice_get seen.classes place ≡ Some c
      → HasClass is place (λ w. signature_of_class (class_declaration registrations (names_in is) w) ≡ c)
  unfolding declarations
  written_class place c h =
      let signed = unmapped signature_of_class (declarations registrations is).classes place c h in
      let head = unmapped (class_declaration registrations (names_in is)) (classes_of is) place signed.0 signed.1 in
      (head.0, head.1, ap signature_of_class head.2 ∙ signed.2)

  -- a class of the name at the place
  class_written : (name : List ℕ) (place : ℕ) → IsNameOfClass (names_in is) name place
      → HasClass is place (λ w. written_references.IsOf w name)
  class_written name place h =
      let at = unmapped named_class (classes_of is) place h.0 h.1 in
      (at.0, at.1, inl (ap (λ (c : ClassSignature). c.name) at.2 ∙ sym h.2))

  -- a class that lists the interface of the name
  lister_written : (name : List ℕ) (interface place : ℕ) → IsNameOfInterface (names_in is) name interface
      → references.Lists seen place interface → HasClass is place (λ w. written_references.IsOf w name)
  lister_written name interface place h lists =
      let at = written_class place lists.0 lists.1 in
      let listed = subst (λ (c : signatures.ClassTypes). Contains c.interfaces interface) (sym at.2) lists.2 in
      let among = among_listed registrations (names_in is) at.0.interfaces interface
      (among_from (λ i. i ≡ interface) (listed_in registrations (names_in is) at.0.interfaces) interface listed refl) in (
        at.0,
        at.1,
        inr (any_among
            (λ n. n.name ≡ name) at.0.interfaces
            (among_weaker (λ n. object_named registrations (names_in is) n.name ≡ Some (objects.Interface interface))
            (λ n. n.name ≡ name) at.0.interfaces
            (λ n e. same_names (names_in is) n.name name interface
            (named_by registrations (names_in is) n.name (objects.Interface interface) e) h) among)),
      )

  object_written : (name : List ℕ) (o : ObjectType) (to : ℕ) → object_named registrations (names_in is) name ≡ Some o
      → references.ObjectHolds seen to o → HasClass is to (λ w. written_references.IsOf w name)
  object_written name o to e references.is_class =
      class_written name to (named_by registrations (names_in is) name (objects.Class to) e)
  object_written name o to e (references.is_interface {interface = interface} lists) =
      lister_written name interface to (named_by registrations (names_in is) name (objects.Interface interface) e) lists
  object_written name o to e (references.in_array {of = of} h) =
      absurd (named_by registrations (names_in is) name (objects.Array of) e)

  -- what may be named holds objects of the class
  abbrev ObjectMay : ℕ → Option ObjectType → Type 0
  ObjectMay to None = ⊥
  ObjectMay to (Some o) = references.ObjectHolds seen to o

  abbrev ElementMay : ℕ → Option Element → Type 0
  ElementMay to None = ⊥
  ElementMay to (Some of) = references.ElementHolds seen to of

  object_found : (name : List ℕ) (found : Option ObjectType) (to : ℕ) → object_named registrations (names_in is) name ≡ found
      → ObjectMay to found → HasClass is to (λ w. written_references.IsOf w name)
  object_found name None to e h = absurd h
  object_found name (Some o) to e h = object_written name o to e h

  element_found : (name : List ℕ) (found : Option ObjectType) (to : ℕ) → object_named registrations (names_in is) name ≡ found
      → ElementMay to (option_and_then element_by found) → HasClass is to (λ w. written_references.IsOf w name)
  element_found name None to e h = absurd h
  element_found name (Some (objects.Class class)) to e references.of_class =
      object_written name (objects.Class to) to e references.is_class
  element_found name (Some (objects.Interface interface)) to e (references.of_interface lists) =
      object_written name (objects.Interface interface) to e (references.is_interface lists)
  element_found name (Some (objects.Host kind)) to e h = elim h [ ]
  element_found name (Some (objects.Array of)) to e h = absurd h

  object_holds : (to : ℕ) (o : Option ObjectType) → references.VariableHolds seen to (var_type (object_ty o)) → ObjectMay to o
  object_holds to None h = elim h [ ]
  object_holds to (Some o) (references.object h) = h

  handle_holds : (to : ℕ) (o : Option ObjectType) → references.VariableHolds seen to (var_type (handle_ty o)) → ObjectMay to o
  handle_holds to None h = elim h [ ]
  handle_holds to (Some o) (references.handle h) = h

  array_holds : (to : ℕ) (of : Option Element) → ObjectMay to (option_map objects.Array of) → ElementMay to of
  array_holds to None h = absurd h
  array_holds to (Some of) (references.in_array h) = h

  no_primitive : (to : ℕ) (primitive : Primitive) → references.VariableHolds seen to (var_type (ty_of primitive)) → ⊥
  no_primitive to primitives.Bool h = elim h [ ]
  no_primitive to primitives.Int h = elim h [ ]
  no_primitive to primitives.Int64 h = elim h [ ]
  no_primitive to primitives.Uint h = elim h [ ]
  no_primitive to primitives.Uint64 h = elim h [ ]

  no_primitives : (to : ℕ) (primitive : Primitive) → references.ElementHolds seen to (element_of primitive) → ⊥
  no_primitives to primitives.Bool h = elim h [ ]
  no_primitives to primitives.Int h = elim h [ ]
  no_primitives to primitives.Int64 h = elim h [ ]
  no_primitives to primitives.Uint h = elim h [ ]
  no_primitives to primitives.Uint64 h = elim h [ ]

  element_written : (of : written.Element) (to : ℕ) → ElementMay to (element_named registrations (names_in is) of)
      → HasClass is to (λ w. written_references.ElementNames of w)
  unfolding element_named
  element_written (written.PrimElement p primitive) to h = absurd (no_primitives to primitive h)
  element_written (written.HandleElement p name) to h =
      element_found name (object_named registrations (names_in is) name) to refl h

  -- a type that is written, of variables that can hold objects of the class
  type_written : (of : written.Named) (to : ℕ) → references.VariableHolds seen to (var_type (ty_named registrations (names_in is) of))
      → HasClass is to (λ w. written_references.NamesClass of w)
  unfolding ty_named
  type_written (written.Prim p primitive) to h = absurd (no_primitive to primitive h)
  type_written (written.Object p name) to h =
      object_found name (object_named registrations (names_in is) name) to refl
      (object_holds to (object_named registrations (names_in is) name) h)
  type_written (written.Handle p name) to h =
      object_found name (object_named registrations (names_in is) name) to refl
      (handle_holds to (object_named registrations (names_in is) name) h)
  type_written (written.Array p of) to h =
      element_written of to
      (array_holds to (element_named registrations (names_in is) of) (object_holds to (array_named registrations (names_in is) of) h))
  type_written (written.ArrayHandle p of) to h =
      element_written of to
      (array_holds to (element_named registrations (names_in is) of) (handle_holds to (array_named registrations (names_in is) of) h))

  -- a field of the type
  abbrev IsFieldOf : VarType → written.Member → Type 0
  IsFieldOf of (written.AField v) = var_type (ty_named registrations (names_in is) v.of) ≡ of
  IsFieldOf of _ = ⊥

  field_written : (of : VarType) (ms : List written.Member)
      → Among (λ d. type_declared d ≡ of) (all_variables registrations (names_in is) (fields_of ms)) → Among (IsFieldOf of) ms
  unfolding Among
  field_written of [] h = h
  field_written of (written.AField v ∷ ms) h =
      let named = ty_named registrations (names_in is) v.of in
      ⊎_elim (λ here.
      inl (among_all (var_type named ≡ of) v.decls
      (among_map (λ d. type_declared d ≡ of) (declared named) v.decls here)))
      (λ rest. inr (field_written of ms rest))
      (among_append
      (λ d. type_declared d ≡ of) (variables registrations (names_in is) v) (all_variables registrations (names_in is) (fields_of ms))
      h)
  field_written of (written.AMethod f ∷ ms) h = inr (field_written of ms h)
  field_written of (written.AConstructor c ∷ ms) h = inr (field_written of ms h)

  member_written : (of : VarType) (to : ℕ) (m : written.Member) → references.VariableHolds seen to of → IsFieldOf of m
      → HasClass is to (λ w. written_references.MemberHolds m w)
  member_written of to (written.AField v) h e = type_written v.of to (subst (references.VariableHolds seen to) (sym e) h)
  member_written of to (written.AMethod f) h e = absurd e
  member_written of to (written.AConstructor c) h e = absurd e

  members_written : (of : VarType) (to : ℕ) (ms : List written.Member) → references.VariableHolds seen to of
      → Among (IsFieldOf of) ms → HasClass is to (λ w. Among (λ m. written_references.MemberHolds m w) ms)
  unfolding Among
  members_written of to [] h e = absurd e
  members_written of to (m ∷ ms) h (inl e) = let at = member_written of to m h e in (at.0, at.1, inl at.2)
  members_written of to (m ∷ ms) h (inr e) = let at = members_written of to ms h e in (at.0, at.1, inr at.2)

  refers_written : (from to : ℕ) → references.ClassRefers seen from to → written_references.DeclaredClassRefers (classes_of is) from to
  refers_written from to h =
      let one = written_class from h.0 h.2 in
      let fields = subst (λ (c : signatures.ClassTypes). Contains c.fields h.1) (sym one.2) h.3 in
      let typed = among_map
      (λ of. of ≡ h.1) type_declared (all_variables registrations (names_in is) (fields_of one.0.members))
      (among_from (λ of. of ≡ h.1) (map type_declared (all_variables registrations (names_in is) (fields_of one.0.members)))
      h.1 fields refl) in
      let other = members_written h.1 to one.0.members h.4 (field_written h.1 one.0.members typed) in
      (other.0, other.1, (one.0, one.1, any_among (λ m. written_references.MemberHolds m other.0) one.0.members other.2))

pub typed_refers : (registrations : List host.Registration) (is : List written.Item) (m : Module) → IsTyped registrations is m → (from to : ℕ)
    → references.ClassRefers (signatures.signatures_of (offered registrations) m) from to
    → written_references.DeclaredClassRefers (classes_of is) from to
typed_refers registrations is m typed from to h =
    refers_written registrations is from to (subst (λ s. references.ClassRefers s from to) (same_signatures registrations is m typed) h)

length-mapped : {A B : Type 0} (f : A → B) (xs : List A) → length (map f xs) ≡ length xs
length-mapped f [] = refl
length-mapped f (x ∷ xs) = ap suc (length-mapped f xs)

pub typed_ranks : (registrations : List host.Registration) (is : List written.Item) (m : Module) → IsTyped registrations is m → (ranks : List ℕ)
    → paths.AreRanksAlong (written_references.DeclaredClassRefers (classes_of is)) (length (classes_of is)) ranks
    → references.AreRanks (signatures.signatures_of (offered registrations) m) ranks
typed_ranks registrations is m typed ranks are =
    let long : length (classes_of is) ≡ length (map signatures.signature_of_class m.classes) =
    sym (classes_length (environment registrations is) 0 (classes_of is) m.classes typed.classes)
    ∙ sym (length-mapped signatures.signature_of_class m.classes) in
    record {
      count = are.count ∙ long;
      within = subst (λ n. All (λ rank. rank < n) ranks) long are.within;
      fall = λ from to h. are.greater from to (typed_refers registrations is m typed from to h);
    }
