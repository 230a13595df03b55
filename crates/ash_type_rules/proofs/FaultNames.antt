-- The names that are taken where a phrase is, and those after it.
use Rattle.std.proofs.Common.{◌≡◌, ℕ, suc, ◌+◌, ◌-◌, List, [], ◌∷◌, ◌++◌, map, length, refl, sym, ◌∙◌, ap, arith}
use Rattle.std.proofs.lemmas.List.{append_assoc, append-nil, length-append, length-map}
use Rattle.ash_registrations.specs.Registrations.{Registration}
use Rattle.ash_tree.specs.Tree as written
use Rattle.ash_typed.specs.ModuleLimits.{max_globals, max_class_members}
use Rattle.ash_type_rules.specs.ItemRules.{Names}
use Rattle.ash_tree.specs.Items.{classes_of, interfaces_of, globals_of, decl_name, names_of, variable_names}
use Rattle.ash_tree.specs.Items.{member_names, item_names}
use Rattle.ash_type_rules.specs.TypedModules.{signature_name, listed_name}
use Rattle.ash_type_rules.proofs.TakenNames.{names_with, same_names}
use Rattle.ash_type_rules.specs.Phrases.{names_before, names_of_members, names_of_methods, names_listed, with_decl}

-- a name more, that takes no room, and one that does

abbrev pub with_name : Names → List ℕ → Names
with_name n text = names_with n (n.taken ++ text ∷ []) n.room

abbrev pub with_one : Names → List ℕ → Names
with_one n text = names_with n (n.taken ++ text ∷ []) (n.room - 1)

-- those of variables more

abbrev pub with_decls : Names → List written.Decl → Names
with_decls n [] = n
with_decls n (d ∷ ds) = with_decls (with_decl n d) ds

decls_are : (n : Names) (ds : List written.Decl)
    → with_decls n ds ≡ names_with n (n.taken ++ map decl_name ds) (n.room - length ds)
decls_are n [] = same_names n n.taken (n.taken ++ []) n.room (n.room - 0) (sym (append-nil n.taken)) (omega arith)
decls_are n (d ∷ ds) =
    decls_are (with_decl n d) ds
    ∙ same_names n ((n.taken ++ d.name ∷ []) ++ map decl_name ds) (n.taken ++ (d.name ∷ map decl_name ds))
    (n.room - 1 - length ds) (n.room - suc (length ds)) (append_assoc n.taken (d.name ∷ []) (map decl_name ds))
    (omega arith)

-- items

items_named : (before : List written.Item) (i : written.Item)
    → item_names (before ++ i ∷ []) ≡ item_names before ++ item_names (i ∷ [])
items_named [] i = refl
items_named (written.AClass c ∷ is) i = ap (λ ns. c.name ∷ ns) (items_named is i)
items_named (written.AnInterface x ∷ is) i = ap (λ ns. x.name ∷ ns) (items_named is i)
items_named (written.AFunction f ∷ is) i = ap (λ ns. f.name ∷ ns) (items_named is i)
items_named (written.AGlobal v ∷ is) i =
    ap (λ ns. names_of v ++ ns) (items_named is i)
    ∙ sym (append_assoc (names_of v) (item_names is) (item_names (i ∷ [])))

abbrev pub globals_in : List written.Item → ℕ
globals_in is = length (variable_names (globals_of is))

globals_counted : (before : List written.Item) (i : written.Item)
    → globals_in (before ++ i ∷ []) ≡ globals_in before + globals_in (i ∷ [])
globals_counted [] i = omega arith
globals_counted (written.AClass c ∷ is) i = globals_counted is i
globals_counted (written.AnInterface x ∷ is) i = globals_counted is i
globals_counted (written.AFunction f ∷ is) i = globals_counted is i
globals_counted (written.AGlobal v ∷ is) i =
    let more = length-append (names_of v) (variable_names (globals_of (is ++ i ∷ []))) in
    let here = length-append (names_of v) (variable_names (globals_of is)) in
    let rest = globals_counted is i in
    omega arith

-- what is taken after an item of these names, of which so many are variables
after_item : (registrations : List Registration) (before : List written.Item) (i : written.Item) (names : List (List ℕ)) (count : ℕ)
    → item_names (i ∷ []) ≡ names → globals_in (i ∷ []) ≡ count
    → names_with (names_before registrations before) (item_names before ++ names) (max_globals - globals_in before - count)
    ≡ names_before registrations (before ++ i ∷ [])
after_item registrations before i names count e k =
    let counted = globals_counted before i in
    same_names (names_before registrations before) (item_names before ++ names) (item_names (before ++ i ∷ []))
    (max_globals - globals_in before - count) (max_globals - globals_in (before ++ i ∷ []))
    (ap (λ ns. item_names before ++ ns) (sym e) ∙ sym (items_named before i)) (omega arith)

-- after an item that declares one name, and no variable
pub names_after_item : (registrations : List Registration) (before : List written.Item) (i : written.Item) (text : List ℕ)
    → item_names (i ∷ []) ≡ text ∷ [] → globals_in (i ∷ []) ≡ 0
    → with_name (names_before registrations before) text ≡ names_before registrations (before ++ i ∷ [])
names_after_item registrations before i text e k =
    same_names (names_before registrations before) (item_names before ++ text ∷ []) (item_names before ++ text ∷ [])
    (max_globals - globals_in before) (max_globals - globals_in before - 0) refl (omega arith)
    ∙ after_item registrations before i (text ∷ []) 0 e k

pub names_after_globals : (registrations : List Registration) (before : List written.Item) (v : written.Vars)
    → with_decls (names_before registrations before) v.decls ≡ names_before registrations (before ++ written.AGlobal v ∷ [])
names_after_globals registrations before v =
    decls_are (names_before registrations before) v.decls
    ∙ after_item registrations before (written.AGlobal v) (names_of v) (length v.decls) (append-nil (names_of v))
    (ap length (append-nil (names_of v)) ∙ length-map v.decls decl_name)

-- classes and interfaces

pub classes_counted : (before : List written.Item) (i : written.Item)
    → length (classes_of (before ++ i ∷ [])) ≡ length (classes_of before) + length (classes_of (i ∷ []))
classes_counted [] i = omega arith
classes_counted (written.AClass c ∷ is) i = let rest = classes_counted is i in omega arith
classes_counted (written.AnInterface x ∷ is) i = classes_counted is i
classes_counted (written.AFunction f ∷ is) i = classes_counted is i
classes_counted (written.AGlobal v ∷ is) i = classes_counted is i

pub interfaces_counted : (before : List written.Item) (i : written.Item)
    → length (interfaces_of (before ++ i ∷ [])) ≡ length (interfaces_of before) + length (interfaces_of (i ∷ []))
interfaces_counted [] i = omega arith
interfaces_counted (written.AnInterface x ∷ is) i = let rest = interfaces_counted is i in omega arith
interfaces_counted (written.AClass c ∷ is) i = interfaces_counted is i
interfaces_counted (written.AFunction f ∷ is) i = interfaces_counted is i
interfaces_counted (written.AGlobal v ∷ is) i = interfaces_counted is i

-- members

members_named : (before : List written.Member) (m : written.Member)
    → member_names (before ++ m ∷ []) ≡ member_names before ++ member_names (m ∷ [])
members_named [] m = refl
members_named (written.AMethod f ∷ ms) m = ap (λ ns. f.name ∷ ns) (members_named ms m)
members_named (written.AConstructor c ∷ ms) m = members_named ms m
members_named (written.AField v ∷ ms) m =
    ap (λ ns. names_of v ++ ns) (members_named ms m)
    ∙ sym (append_assoc (names_of v) (member_names ms) (member_names (m ∷ [])))

names_after_member : (before : List written.Member) (m : written.Member) (names : List (List ℕ))
    → member_names (m ∷ []) ≡ names
    → names_with (names_of_members before) (member_names before ++ names)
    (max_class_members - length (member_names before) - length names) ≡ names_of_members (before ++ m ∷ [])
names_after_member before m names e =
    let same : member_names before ++ names ≡ member_names (before ++ m ∷ []) =
    ap (λ ns. member_names before ++ ns) (sym e) ∙ sym (members_named before m) in
    let counted = length-append (member_names before) names in
    let count : length (member_names before ++ names) ≡ length (member_names (before ++ m ∷ [])) = ap length same in
    same_names (names_of_members before) (member_names before ++ names) (member_names (before ++ m ∷ []))
    (max_class_members - length (member_names before) - length names) (max_class_members - length (member_names (before ++ m ∷ []))) same
    (omega arith)

pub names_after_method : (before : List written.Member) (f : written.Function)
    → with_one (names_of_members before) f.name ≡ names_of_members (before ++ written.AMethod f ∷ [])
names_after_method before f = names_after_member before (written.AMethod f) (f.name ∷ []) refl

pub names_after_fields : (before : List written.Member) (v : written.Vars)
    → with_decls (names_of_members before) v.decls ≡ names_of_members (before ++ written.AField v ∷ [])
names_after_fields before v =
    let count = length-map v.decls decl_name in
    decls_are (names_of_members before) v.decls
    ∙ same_names (names_of_members before) (member_names before ++ names_of v) (member_names before ++ names_of v)
    (max_class_members - length (member_names before) - length v.decls) (max_class_members - length (member_names before) - length (names_of v))
    refl (omega arith) ∙ names_after_member before (written.AField v) (names_of v) (append-nil (names_of v))

pub names_after_constructor : (before : List written.Member) (c : written.Constructor)
    → names_of_members before ≡ names_of_members (before ++ written.AConstructor c ∷ [])
names_after_constructor before c =
    let same : member_names before ≡ member_names (before ++ written.AConstructor c ∷ []) =
    sym (members_named before (written.AConstructor c) ∙ append-nil (member_names before)) in
    same_names (names_of_members before) (member_names before) (member_names (before ++ written.AConstructor c ∷ []))
    (max_class_members - length (member_names before)) (max_class_members - length (member_names (before ++ written.AConstructor c ∷ []))) same
    (ap (λ ns. max_class_members - length ns) same)

-- methods of an interface, and interfaces that a class lists

mapped : {A : Type 0} (f : A → List ℕ) (xs : List A) (x : A) → map f xs ++ f x ∷ [] ≡ map f (xs ++ x ∷ [])
mapped f [] x = refl
mapped f (y ∷ ys) x = ap (λ ns. f y ∷ ns) (mapped f ys x)

pub names_after_signature : (before : List written.InterfaceMethod) (m : written.InterfaceMethod)
    → with_one (names_of_methods before) m.name ≡ names_of_methods (before ++ m ∷ [])
names_after_signature before m =
    let counted = length-append before (m ∷ []) in
    same_names (names_of_methods before) (map signature_name before ++ m.name ∷ [])
    (map signature_name (before ++ m ∷ [])) (max_class_members - length before - 1) (max_class_members - length (before ++ m ∷ []))
    (mapped signature_name before m) (omega arith)

pub names_after_listed : (before : List written.TypeName) (n : written.TypeName)
    → with_name (names_listed before) n.name ≡ names_listed (before ++ n ∷ [])
names_after_listed before n =
    same_names (names_listed before) (map listed_name before ++ n.name ∷ []) (map listed_name (before ++ n ∷ [])) 0 0
    (mapped listed_name before n) refl
