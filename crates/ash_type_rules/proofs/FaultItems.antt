-- The walk over the items of a module answers a fault at a token, where the rule is broken.
use Rattle.std.proofs.Common.{◌≡◌, ℕ, arith, sym, ◌∙◌, ◌+◌, true, false, List, [], ◌∷◌, ◌++◌, Option, Some, None}
use Rattle.std.proofs.Common.{length, refl, ap, subst}
use Rattle.std.specs.Prelude.{is_some, nat_le}
use Rattle.std.specs.List.{AllByRecursion}
use Rattle.std.specs.Str.{bytes_eq}
use Rattle.ash_lex.specs.Tokens.{name}
use Rattle.ash_tree.specs.Tree as written
use Rattle.ash_typed.specs.declared.types.ObjectType.{ObjectType}
use Rattle.ash_typed.specs.declared.types.ObjectType.TheVariants as objects
use Rattle.ash_type_rules.specs.declared.fault.Rule.TheVariants as rules
use Rattle.ash_type_rules.specs.declared.types.Ty.TheVariants as ty
use Rattle.ash_typed.specs.ModuleLimits.{max_module_types}
use Rattle.ash_typed.specs.Modules.{Module}
use Rattle.ash_type_rules.specs.Environment.{Environment, inside, module_environment}
use Rattle.ash_type_rules.specs.ModuleDeclarations.{declarations}
use Rattle.ash_tree.specs.Items.{constructing, Routine, routine_of, classes_of, interfaces_of}
use Rattle.ash_type_rules.specs.Declarations.{at_type}
use Rattle.ash_type_rules.specs.ItemRules.{listed_at, implemented_at, Listed, check_listed, all_listed, none_listed, Members}
use Rattle.ash_type_rules.specs.ItemRules.{constructor_named, check_member, check_members, no_members, check_class, Walked}
use Rattle.ash_type_rules.specs.ItemRules.{room_for_type, check_item, check_items, nothing, module_by, check_module}
use Rattle.ash_type_rules.specs.Implementations.{implemented}
use Rattle.ash_type_rules.proofs.FaultTokens.{HasToken, TypeNameIn, RoutineIn, MemberIn, ClassIn, ItemIn}
use Rattle.ash_type_rules.specs.Phrases as phrases
use Rattle.ash_type_rules.specs.Phrases.{Phrase, names_before, names_of_members, names_listed}
use Rattle.ash_type_rules.specs.Mismatches as mismatches
use Rattle.ash_type_rules.specs.FaultMeaning as meaning
use Rattle.ash_type_rules.specs.FaultMeaning.{has_constructor, counted_by, is_declared, stored_use}
use Rattle.std.proofs.lemmas.List.{length-append}
use Rattle.ash_registrations.specs.Registrations.{Registration}
use Rattle.ash_type_rules.proofs.FaultNames.{with_name, with_one, with_decls, names_after_item, names_after_globals}
use Rattle.ash_type_rules.proofs.FaultNames.{classes_counted, interfaces_counted, names_after_method, names_after_fields}
use Rattle.ash_type_rules.proofs.FaultNames.{names_after_constructor, names_after_listed}
use Rattle.ash_type_rules.proofs.FaultAnswers.{Script, OccursIn, Wrong, Mismatch, Answers, fine, faulty, Fine, name_taken}
use Rattle.ash_type_rules.proofs.FaultAnswers.{bind, bind_by, bind_to, either, type_named, same_named, miswritten}
use Rattle.ash_type_rules.proofs.FaultPhrases.{sees}
use Rattle.ash_type_rules.proofs.FaultRoutines.{interface_in, placed_in, result_in, routine_in, the_name, untaken_in}
use Rattle.ash_type_rules.proofs.FaultRoutines.{vars_in}

-- the interfaces that a class lists

abbrev pub AtListed : Script → Environment → ℕ → List written.TypeName → written.TypeName → List written.TypeName
    → Type 0
AtListed script env place before n ns = OccursIn script (phrases.Interfaces env place before (n ∷ ns))

-- what is named there is neither a class nor an interface
not_listed : (script : Script) (env : Environment) (place : ℕ) (before : List written.TypeName) (n : written.TypeName)
    (ns : List written.TypeName) → AtListed script env place before n ns → is_declared (type_named env n.name) ≡ false
    → Wrong script rules.UnknownType n.place.at (name n.name)
not_listed script env place before n ns r b =
    meaning.no_interface r (subst (λ found. is_declared found ≡ false) (same_named script env n.name (sees r)) b)

listed_at_in : (script : Script) (env : Environment) (place : ℕ) (before : List written.TypeName) (n : written.TypeName)
    (ns : List written.TypeName) (found : Option ObjectType) → HasToken script.tokens (name n.name) n.place.at
    → AtListed script env place before n ns → type_named env n.name ≡ found
    → Answers script
    (λ (interface : ℕ). type_named env n.name ≡ Some (objects.Interface interface)) (listed_at n.place.at found)
listed_at_in script env place before n ns (Some (objects.Interface interface)) h r e = fine e
listed_at_in script env place before n ns (Some (objects.Class class)) h r e =
    faulty (
      name n.name,
      h,
      refl,
      meaning.listed_class r
          (subst (λ found. found ≡ Some (objects.Class class)) (same_named script env n.name (sees r)) e),
    )
listed_at_in script env place before n ns (Some (objects.Host kind)) h r e =
    faulty (name n.name, h, refl, not_listed script env place before n ns r (ap is_declared e))
listed_at_in script env place before n ns (Some (objects.Array of)) h r e =
    faulty (name n.name, h, refl, not_listed script env place before n ns r (ap is_declared e))
listed_at_in script env place before n ns None h r e =
    faulty (name n.name, h, refl, not_listed script env place before n ns r (ap is_declared e))

implemented_in : (script : Script) (at : ℕ) (text : List ℕ) (interface : ℕ) (methods : Option (List ℕ))
    → HasToken script.tokens (name text) at → (methods ≡ None → Mismatch script at)
    → Fine script (implemented_at at interface methods)
implemented_in script at text interface None h z = faulty (name text, h, refl, meaning.mismatch (z refl))
implemented_in script at text interface (Some methods) h z = fine tt

listed_in : (script : Script) (env : Environment) (place : ℕ) (before : List written.TypeName) (listed : Listed)
    (n : written.TypeName) (ns : List written.TypeName) → TypeNameIn script.tokens n
    → listed.names ≡ names_listed before → AtListed script env place before n ns
    → Answers script (λ (next : Listed). next.names ≡ names_listed (before ++ n ∷ [])) (check_listed env place listed n)
unfolding check_listed
listed_in script env place before listed n ns h k r =
    bind (listed_at_in script env place before n ns (type_named env n.name) h r refl) (λ interface u.
    bind_to _ (untaken_in script listed.names n.place.at n.name (phrases.Interfaces env place before (n ∷ ns)) h r
    (rw k refl))
    (bind (implemented_in script n.place.at n.name interface (implemented env place interface) h
    (λ b. mismatches.lacks_method r
    (subst (λ found. found ≡ Some (objects.Interface interface)) (same_named script env n.name (sees r)) u) b))
    (λ implementation w. fine (ap (λ names. with_name names n.name) k ∙ names_after_listed before n))))

all_listed_in : (script : Script) (env : Environment) (place : ℕ) (before : List written.TypeName) (listed : Listed)
    (ns : List written.TypeName) → AllByRecursion (TypeNameIn script.tokens) ns → listed.names ≡ names_listed before
    → OccursIn script (phrases.Interfaces env place before ns) → Fine script (all_listed env place listed ns)
all_listed_in script env place before listed [] h k r = fine tt
all_listed_in script env place before listed (n ∷ ns) h k r =
    bind (listed_in script env place before listed n ns h.0 k r) (λ next l.
    all_listed_in script env place (before ++ n ∷ []) next ns h.1 l (phrases.other_interfaces r))

-- classes

abbrev pub AtMember : Script → Environment → List ℕ → List written.Member → written.Member → List written.Member
    → Type 0
AtMember script env class before m ms = OccursIn script (phrases.ClassMembers env class before (m ∷ ms))

-- a class so far, after these members
pub record HasMembers (class : List ℕ) (before : List written.Member) (ms : Members) : Type 0 where
  pub names : ms.names ≡ names_of_members before
  pub name : ms.class.name ≡ class
  pub constructor : is_some ms.class.constructor ≡ has_constructor before

-- whether there is a constructor, with a member more

one_constructor : (before : List written.Member) (c : written.Constructor)
    → true ≡ has_constructor (before ++ written.AConstructor c ∷ [])
one_constructor [] c = refl
one_constructor (written.AConstructor d ∷ ms) c = refl
one_constructor (written.AMethod f ∷ ms) c = one_constructor ms c
one_constructor (written.AField v ∷ ms) c = one_constructor ms c

same_constructor : (before : List written.Member) (m : written.Member) → has_constructor (m ∷ []) ≡ false
    → has_constructor before ≡ has_constructor (before ++ m ∷ [])
same_constructor [] m h = sym h
same_constructor (written.AConstructor d ∷ ms) m h = refl
same_constructor (written.AMethod f ∷ ms) m h = same_constructor ms m h
same_constructor (written.AField v ∷ ms) m h = same_constructor ms m h

named_in : (script : Script) (env : Environment) (class : List ℕ) (before : List written.Member) (ms : Members)
    (c : written.Constructor) (rest : List written.Member) → RoutineIn script.tokens c.place c.name c.parameters c.body
    → HasMembers class before ms → AtMember script env class before (written.AConstructor c) rest
    → Answers script (λ (r : Routine). r ≡ constructing c) (constructor_named ms.class c)
unfolding constructor_named
named_in script env class before ms c rest h k r = either (is_some ms.class.constructor)
    (λ b. name_taken (the_name c.place.at c.name (is_some ms.class.constructor)) r (rw k.constructor refl) h.0 b)
    (λ b. either (bytes_eq c.name ms.class.name) (λ d. fine refl)
    (λ d. faulty (
      name c.name,
      h.0,
      refl,
      meaning.other_constructor r (subst (λ class. bytes_eq c.name class ≡ false) k.name d),
    )))

member_in : (script : Script) (env : Environment) (class : List ℕ) (before : List written.Member) (ms : Members)
    (m : written.Member) (rest : List written.Member) → MemberIn script.tokens m → HasMembers class before ms
    → AtMember script env class before m rest
    → Answers script (HasMembers class (before ++ m ∷ [])) (check_member env ms m)
unfolding check_member
member_in script env class before ms (written.AField v) rest h k r =
    let x = phrases.ClassMembers env class before (written.AField v ∷ rest) in
    bind (vars_in script env ms.names v h (miswritten script env x (stored_use v.of) (sees r) r refl)
    (λ of e. subst
    (λ names. OccursIn script (phrases.Variables env (at_type v.of) of names v.decls)) (sym k.names)
    (phrases.fields r e)))
    (λ row n. fine (record {
      names = n ∙ ap (λ names. with_decls names v.decls) k.names ∙ names_after_fields before v;
      name = k.name;
      constructor = k.constructor ∙ same_constructor before (written.AField v) refl;
    }))
member_in script env class before ms (written.AMethod f) rest h k r =
    let x = phrases.ClassMembers env class before (written.AMethod f ∷ rest) in
    bind_by (result_in script env x f.result h.0 (sees r) r refl)
    (λ of e u. bind_to _
    (placed_in script ms.names f.place.at f.name x (h.1).0 r (rw k.names refl) (rw k.names refl))
    (bind (routine_in script env of (routine_of f) h.1 (phrases.method r e)) (λ t w. fine (record {
      names = ap (λ names. with_one names f.name) k.names ∙ names_after_method before f;
      name = k.name;
      constructor = k.constructor ∙ same_constructor before (written.AMethod f) refl;
    }))))
member_in script env class before ms (written.AConstructor c) rest h k r =
    bind_to _ (named_in script env class before ms c rest h k r)
    (bind (routine_in script env ty.Void (constructing c) h (phrases.constructor r)) (λ t u. fine (record {
      names = k.names ∙ names_after_constructor before c;
      name = k.name;
      constructor = one_constructor before c;
    })))

members_in : (script : Script) (env : Environment) (class : List ℕ) (before : List written.Member) (ms : Members)
    (rest : List written.Member) → AllByRecursion (MemberIn script.tokens) rest → HasMembers class before ms
    → OccursIn script (phrases.ClassMembers env class before rest) → Fine script (check_members env ms rest)
members_in script env class before ms [] h k r = fine tt
members_in script env class before ms (m ∷ rest) h k r =
    bind (member_in script env class before ms m rest h.0 k r) (λ next l.
    members_in script env class (before ++ m ∷ []) next rest h.1 l (phrases.other_members r))

class_in : (script : Script) (env : Environment) (before : List written.Item) (c : written.Class)
    (is : List written.Item) → ClassIn script.tokens c
    → OccursIn script (phrases.Items env before (written.AClass c ∷ is))
    → Fine script (check_class env (length (classes_of before)) c)
unfolding check_class
class_in script env before c is h r =
    let place = length (classes_of before) in
    bind (all_listed_in script env place [] none_listed c.interfaces h.1 refl (phrases.interfaces r)) (λ listed u.
    bind (members_in script (inside env place) c.name [] (no_members c listed.interfaces) c.members h.2
    (record { names = refl; name = refl; constructor = refl }) (phrases.members r))
    (λ ms v. fine tt))

-- modules

-- a module so far, after these items
pub record HasItems (registrations : List Registration) (before : List written.Item) (w : Walked) : Type 0 where
  pub names : w.names ≡ names_before registrations before
  pub classes : length w.typed.classes ≡ length (classes_of before)
  pub interfaces : length w.typed.interfaces ≡ length (interfaces_of before)

room_in : (script : Script) (at : ℕ) (text : List ℕ) (x : Phrase) (m : Module) → HasToken script.tokens (name text) at
    → OccursIn script x → counted_by x ≡ Some (the_name at text (nat_le max_module_types (length m.classes + length m.interfaces)))
    → Answers script (λ (place : ℕ). place ≡ length m.classes) (room_for_type at m)
unfolding room_for_type
room_in script at text x m h r e =
    either (nat_le max_module_types (length m.classes + length m.interfaces))
    (λ b. faulty (name text, h, refl, meaning.too_many r e b)) (λ b. fine refl)

-- as many as before

same_classes : (before : List written.Item) (i : written.Item) (k : ℕ) → length (classes_of (i ∷ [])) ≡ 0
    → k ≡ length (classes_of before) → k ≡ length (classes_of (before ++ i ∷ []))
same_classes before i k none e = let counted = classes_counted before i in omega arith

same_interfaces : (before : List written.Item) (i : written.Item) (k : ℕ) → length (interfaces_of (i ∷ [])) ≡ 0
    → k ≡ length (interfaces_of before) → k ≡ length (interfaces_of (before ++ i ∷ []))
same_interfaces before i k none e = let counted = interfaces_counted before i in omega arith

-- and one more

more_classes : {A : Type 0} (before : List written.Item) (i : written.Item) (xs : List A) (x : A)
    → length (classes_of (i ∷ [])) ≡ 1 → length xs ≡ length (classes_of before)
    → length (xs ++ x ∷ []) ≡ length (classes_of (before ++ i ∷ []))
more_classes before i xs x one e =
    let counted = classes_counted before i in
    let longer = length-append xs (x ∷ []) in
    omega arith

more_interfaces : {A : Type 0} (before : List written.Item) (i : written.Item) (xs : List A) (x : A)
    → length (interfaces_of (i ∷ [])) ≡ 1 → length xs ≡ length (interfaces_of before)
    → length (xs ++ x ∷ []) ≡ length (interfaces_of (before ++ i ∷ []))
more_interfaces before i xs x one e =
    let counted = interfaces_counted before i in
    let longer = length-append xs (x ∷ []) in
    omega arith

item_in : (script : Script) (env : Environment) (before : List written.Item) (w : Walked) (i : written.Item)
    (is : List written.Item) → ItemIn script.tokens i → HasItems env.registered before w
    → OccursIn script (phrases.Items env before (i ∷ is))
    → Answers script (HasItems env.registered (before ++ i ∷ [])) (check_item env w i)
unfolding check_item
item_in script env before w (written.AClass c) is h k r =
    let x = phrases.Items env before (written.AClass c ∷ is) in
    bind_to _ (untaken_in script w.names c.place.at c.name x h.0 r (rw k.names refl))
    (bind_to _ (room_in script c.place.at c.name x w.typed h.0 r (rw (k.classes, k.interfaces) refl))
    (bind (subst
    (λ place. Fine script (check_class env place c)) (sym k.classes) (class_in script env before c is h r))
    (λ t y. fine (record {
      names = ap (λ names. with_name names c.name) k.names
          ∙ names_after_item env.registered before (written.AClass c) c.name refl refl;
      classes = more_classes before (written.AClass c) w.typed.classes t refl k.classes;
      interfaces = same_interfaces before (written.AClass c) (length w.typed.interfaces) refl k.interfaces;
    }))))
item_in script env before w (written.AnInterface i) is h k r =
    let x = phrases.Items env before (written.AnInterface i ∷ is) in
    bind_to _ (untaken_in script w.names i.place.at i.name x h.0 r (rw k.names refl))
    (bind (room_in script i.place.at i.name x w.typed h.0 r (rw (k.classes, k.interfaces) refl))
    (λ classes v. bind (interface_in script env classes i h (phrases.methods r)) (λ t y. fine (record {
      names = ap (λ names. with_name names i.name) k.names
          ∙ names_after_item env.registered before (written.AnInterface i) i.name refl refl;
      classes = same_classes before (written.AnInterface i) (length w.typed.classes) refl k.classes;
      interfaces = more_interfaces before (written.AnInterface i) w.typed.interfaces t refl k.interfaces;
    }))))
item_in script env before w (written.AFunction f) is h k r =
    let x = phrases.Items env before (written.AFunction f ∷ is) in
    bind_by (result_in script env x f.result h.0 (sees r) r refl)
    (λ of e u. bind_to _ (untaken_in script w.names f.place.at f.name x (h.1).0 r (rw k.names refl))
    (bind (routine_in script env of (routine_of f) h.1 (phrases.function r e)) (λ t y. fine (record {
      names = ap (λ names. with_name names f.name) k.names
          ∙ names_after_item env.registered before (written.AFunction f) f.name refl refl;
      classes = same_classes before (written.AFunction f) (length w.typed.classes) refl k.classes;
      interfaces = same_interfaces before (written.AFunction f) (length w.typed.interfaces) refl k.interfaces;
    }))))
item_in script env before w (written.AGlobal v) is h k r =
    let x = phrases.Items env before (written.AGlobal v ∷ is) in
    let registered = (sees r).1 in
    let here : w.names ≡ names_before script.registrations before =
    k.names ∙ ap (λ registrations. names_before registrations before) registered in
    bind (vars_in script env w.names v h (miswritten script env x (stored_use v.of) (sees r) r refl)
    (λ of e. subst
    (λ names. OccursIn script (phrases.Variables env (at_type v.of) of names v.decls)) (sym here)
    (phrases.globals r e)))
    (λ row n. fine (record {
      names = n ∙ ap (λ names. with_decls names v.decls) k.names ∙ names_after_globals env.registered before v;
      classes = same_classes before (written.AGlobal v) (length w.typed.classes) refl k.classes;
      interfaces = same_interfaces before (written.AGlobal v) (length w.typed.interfaces) refl k.interfaces;
    }))

items_in : (script : Script) (env : Environment) (before : List written.Item) (w : Walked) (is : List written.Item)
    → AllByRecursion (ItemIn script.tokens) is → HasItems env.registered before w
    → OccursIn script (phrases.Items env before is) → Fine script (check_items env w is)
items_in script env before w [] h k r = fine tt
items_in script env before w (i ∷ is) h k r =
    bind (item_in script env before w i is h.0 k r) (λ next l.
    items_in script env (before ++ i ∷ []) next is h.1 l (phrases.other_items r))

module_by_in : (script : Script) → AllByRecursion (ItemIn script.tokens) script.items
    → Fine script (module_by script.registrations (declarations script.registrations script.items) script.items)
module_by_in script h =
    bind (items_in script (module_environment script.registrations (declarations script.registrations script.items)) [] (nothing script.registrations) script.items h
    (record { names = refl; classes = refl; interfaces = refl }) phrases.items)
    (λ w u. fine tt)

pub module_in : (script : Script) → AllByRecursion (ItemIn script.tokens) script.items
    → Fine script (check_module script.registrations script.items)
unfolding check_module
module_in script h = module_by_in script h
