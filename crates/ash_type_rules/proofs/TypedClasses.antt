-- Classes are typed exactly as the rules say.
use Rattle.std.proofs.Common.{◌≡◌, ◌+◌, ℕ, suc, true, false, List, [], ◌∷◌, ◌++◌, map, length, Option, Some, None}
use Rattle.std.proofs.Common.{is_some, Ok, refl, sym, ◌∙◌, ap, subst, arith}
use Rattle.std.specs.Str.{bytes_eq}
use Rattle.std.specs.List.{AllZip, IsDistinct}
use Rattle.std.proofs.lemmas.List.{append_assoc, append-nil, length-append, length-map}
use Rattle.std.proofs.lemmas.Slice.Eq.{bytes_eq-Decides}
use Rattle.ash_tree.specs.Tree as written
use Rattle.ash_type_rules.specs.declared.types.Ty.TheVariants as ty
use Rattle.ash_type_rules.specs.Environment.{Environment, inside}
use Rattle.ash_type_rules.specs.Typing.{IsKnown}
use Rattle.ash_typed.specs.StatementTree.{Initialization}
use Rattle.ash_typed.specs.Modules.{Variables, Function, Implementation, Class}
use Rattle.ash_type_rules.specs.ItemRules.{Names, placed, check_vars, check_result, check_routine, Members, constructor_named}
use Rattle.ash_type_rules.specs.ItemRules.{check_member, check_members, no_members, class_of_members, Listed, all_listed}
use Rattle.ash_type_rules.specs.ItemRules.{none_listed, check_class}
use Rattle.ash_type_rules.specs.TypedModules.{listed_name, AreTypedVariables, AreFields, IsTypedFunction, IsTypedConstructor}
use Rattle.ash_type_rules.specs.TypedModules.{HasConstructor, IsListed, IsTypedClass}
use Rattle.ash_type_rules.proofs.Bindings.{no_err, ok_is, bind_ok, bind_is, if_ok}
use Rattle.ash_type_rules.proofs.TakenNames.{all_free, Distinct, grown, grown-none, grown-then, CanTake, takes_none}
use Rattle.ash_type_rules.proofs.TakenNames.{takes_then, takes_first, takes_rest, placed_sound, placed_complete}
use Rattle.ash_type_rules.proofs.TypedVariables.{vars_sound, vars_complete}
use Rattle.ash_type_rules.proofs.TypedInterfaces.{listed_with, listed_sound, listed_complete}
use Rattle.ash_type_rules.proofs.TypedRoutines.{routine_sound, routine_complete, result_complete, function_sound}
use Rattle.ash_tree.specs.Items.{Routine, routine_of, constructing, decl_name, names_of, fields_of, methods_of}
use Rattle.ash_tree.specs.Items.{constructors_of, member_names}
use Rattle.ash_type_rules.specs.ModuleDeclarations.{result_in}

-- a class so far

abbrev members_of : List ℕ → ℕ → List Implementation → Names → List Initialization → Option Function → List Function
    → Members
members_of name line listed names fields constructor methods = record {
  names = names;
  class = record {
    name = name;
    line = line;
    interfaces = listed;
    fields = fields;
    constructor = constructor;
    methods = methods;
  };
}

abbrev members_with : Members → List (List ℕ) → ℕ → List Initialization → List Function → Option Function → Members
members_with ms names k fields methods constructor =
    members_of ms.class.name ms.class.line ms.class.interfaces (grown ms.names names k) (ms.class.fields ++ fields)
    constructor (ms.class.methods ++ methods)

same_members : (name : List ℕ) (line : ℕ) (listed : List Implementation) (n m : Names) (fs gs : List Initialization)
    (c : Option Function) (ts us : List Function) → n ≡ m → fs ≡ gs → ts ≡ us
    → members_of name line listed n fs c ts ≡ members_of name line listed m gs c us
same_members name line listed n m fs gs c ts us h i j = rw (h, i, j) refl

members_with-none : (ms : Members) → members_with ms [] 0 [] [] ms.class.constructor ≡ ms
members_with-none ms =
    same_members ms.class.name ms.class.line ms.class.interfaces (grown ms.names [] 0) ms.names _ _ ms.class.constructor
    _ _ (grown-none ms.names) (append-nil ms.class.fields) (append-nil ms.class.methods)

members_with-then : (ms : Members) (xs ys : List (List ℕ)) (j k l : ℕ) (fs gs : List Initialization)
    (ts us : List Function) (b c : Option Function) → l ≡ j + k
    → members_with (members_with ms xs j fs ts b) ys k gs us c ≡ members_with ms (xs ++ ys) l (fs ++ gs) (ts ++ us) c
members_with-then ms xs ys j k l fs gs ts us b c e =
    same_members ms.class.name ms.class.line ms.class.interfaces (grown (grown ms.names xs j) ys k)
    (grown ms.names (xs ++ ys) l) _ _ c _ _ (grown-then ms.names xs ys j k l e) (append_assoc ms.class.fields fs gs)
    (append_assoc ms.class.methods ts us)

pub count_names : (v : written.Vars) (rest : List (List ℕ)) → length (names_of v ++ rest) ≡ length v.decls + length rest
count_names v rest = length-append (names_of v) rest ∙ ap (λ (n : ℕ). n + length rest) (length-map v.decls decl_name)

-- constructors

-- those that come after the one so far
abbrev Constructs : Environment → List ℕ → Option Function → List written.Constructor → Option Function → Type 0
Constructs env class None cs after = HasConstructor env class cs after
Constructs env class (Some f) [] after = after ≡ Some f
Constructs env class (Some f) (c ∷ cs) after = ⊥

constructs_none : (env : Environment) (class : List ℕ) (before : Option Function)
    → Constructs env class before [] before
constructs_none env class None = tt
constructs_none env class (Some f) = refl

constructs_nothing : (env : Environment) (class : List ℕ) (before after : Option Function)
    → Constructs env class before [] after → after ≡ before
constructs_nothing env class None None h = refl
constructs_nothing env class None (Some f) h = absurd h
constructs_nothing env class (Some f) after h = h

constructs_first : (env : Environment) (class : List ℕ) (before : Option Function) (c : written.Constructor)
    (cs : List written.Constructor) (t : Function) (after : Option Function) → before ≡ None
    → IsTypedConstructor env class c t → Constructs env class (Some t) cs after → Constructs env class before (c ∷ cs) after
constructs_first env class None c [] t after e is h = subst (λ o. HasConstructor env class (c ∷ []) o) (sym h) is
constructs_first env class None c (d ∷ cs) t after e is h = absurd h
constructs_first env class (Some f) c cs t after e is h = absurd (cc)

constructs_only : {P : Type 0} (env : Environment) (class : List ℕ) (before : Option Function) (c : written.Constructor)
    (cs : List written.Constructor) (after : Option Function) → Constructs env class before (c ∷ cs) after
    → (before ≡ None → (t : Function) → IsTypedConstructor env class c t → cs ≡ [] → after ≡ Some t → P) → P
constructs_only env class None c [] (Some t) h k = k refl t h refl refl
constructs_only env class None c [] None h k = absurd h
constructs_only env class None c (d ∷ cs) after h k = absurd h
constructs_only env class (Some f) c cs after h k = absurd h

is_none : (o : Option Function) → is_some o ≡ false → o ≡ None
is_none None h = refl
is_none (Some x) h = absurd (cc)

pub named_sound : (class : Class) (c : written.Constructor) (r : Routine) → constructor_named class c ≡ Ok r
    → (class.constructor ≡ None) × (c.name ≡ class.name) × (r ≡ constructing c)
unfolding constructor_named
named_sound class c r h = if_ok (is_some class.constructor) _ _ (Ok r) h
    (λ b e. absurd (no_err _ r e))
    (λ b e. if_ok (bytes_eq c.name class.name) _ _ (Ok r) e
    (λ d k. (is_none class.constructor b, (bytes_eq-Decides c.name class.name).0 d, sym (ok_is _ r k)))
    (λ d k. absurd (no_err _ r k)))

named_complete : (class : Class) (c : written.Constructor) → class.constructor ≡ None → c.name ≡ class.name
    → constructor_named class c ≡ Ok (constructing c)
unfolding constructor_named
named_complete class c h e =
    let same : bytes_eq c.name class.name ≡ true = (bytes_eq-Decides c.name class.name).1 e in
    rw (h, same) refl

-- members

record MembersWalked (env : Environment) (ms : Members) (written_members : List written.Member)
    (after : Members) : Type 0 where
  can : CanTake ms.names (member_names written_members) (length (member_names written_members))
  fields : List Initialization
  are_fields : AreFields env (fields_of written_members) fields
  methods : List Function
  are_methods : AllZip (IsTypedFunction env) (methods_of written_members) methods
  constructor : Option Function
  constructs : Constructs env ms.class.name ms.class.constructor (constructors_of written_members) constructor
  is : after ≡ members_with ms (member_names written_members) (length (member_names written_members)) fields methods
      constructor

members_sound : (env : Environment) → IsKnown env → (xs : List written.Member) (ms after : Members)
    → Distinct ms.names.taken → check_members env ms xs ≡ Ok after → MembersWalked env ms xs after
unfolding check_member
members_sound env known [] ms after d h = record {
  can = takes_none ms.names d;
  fields = [];
  are_fields = refl;
  methods = [];
  are_methods = tt;
  constructor = ms.class.constructor;
  constructs = constructs_none env ms.class.name ms.class.constructor;
  is = sym (ok_is ms after h) ∙ sym (members_with-none ms);
}
members_sound env known (written.AField v ∷ xs) ms after d h =
    let m = bind_ok (check_member env ms (written.AField v)) _ after h in
    let r = bind_ok (check_vars env ms.names v) _ m.0 m.1 in
    let g = vars_sound env known ms.names v r.0 d r.1 in
    let next : Members = members_with ms (names_of v) (length v.decls) r.0.variables.values [] ms.class.constructor in
    let step : m.0 ≡ next =
    sym (ok_is _ m.0 r.2)
    ∙ same_members ms.class.name ms.class.line ms.class.interfaces r.0.names next.names _ _ ms.class.constructor _ _
    g.taken refl (sym (append-nil ms.class.methods)) in
    let go = members_sound env known xs next after g.can.distinct
    (subst (λ (x : Members). check_members env x xs ≡ Ok after) step m.2) in
    let count = count_names v (member_names xs) in
    record {
      can = takes_then ms.names (names_of v) (member_names xs) (length v.decls) (length (member_names xs)) _ count g.can
          go.can;
      fields = r.0.variables.values ++ go.fields;
      are_fields = (r.0.variables.values, go.fields, g.typed.variable, g.typed.values, go.are_fields, refl);
      methods = go.methods;
      are_methods = go.are_methods;
      constructor = go.constructor;
      constructs = go.constructs;
      is = go.is ∙ members_with-then ms (names_of v) (member_names xs) (length v.decls) (length (member_names xs)) _
          r.0.variables.values go.fields [] go.methods ms.class.constructor go.constructor count;
    }
members_sound env known (written.AMethod f ∷ xs) ms after d h =
    let m = bind_ok (check_member env ms (written.AMethod f)) _ after h in
    let o = bind_ok (check_result env f.result) _ m.0 m.1 in
    let p = bind_ok (placed ms.names f.place.at f.name) _ m.0 o.2 in
    let t = bind_ok (check_routine env o.0 (routine_of f)) _ m.0 p.2 in
    let g = placed_sound ms.names f.place.at f.name p.0 d p.1 in
    let next : Members = members_with ms (f.name ∷ []) 1 [] (t.0 ∷ []) ms.class.constructor in
    let step : m.0 ≡ next =
    sym (ok_is _ m.0 t.2)
    ∙ same_members ms.class.name ms.class.line ms.class.interfaces p.0 next.names _ _ ms.class.constructor _ _ g.1
    (sym (append-nil ms.class.fields)) refl in
    let go = members_sound env known xs next after g.0.distinct
    (subst (λ (x : Members). check_members env x xs ≡ Ok after) step m.2) in
    let k = length (member_names xs) in
    record {
      can = takes_then ms.names (f.name ∷ []) (member_names xs) 1 k (suc k) (omega arith) g.0 go.can;
      fields = go.fields;
      are_fields = go.are_fields;
      methods = t.0 ∷ go.methods;
      are_methods = (function_sound env known f o.0 t.0 o.1 t.1, go.are_methods);
      constructor = go.constructor;
      constructs = go.constructs;
      is = go.is ∙ members_with-then ms (f.name ∷ []) (member_names xs) 1 k (suc k) [] go.fields (t.0 ∷ []) go.methods
          ms.class.constructor go.constructor (omega arith);
    }
members_sound env known (written.AConstructor c ∷ xs) ms after d h =
    let m = bind_ok (check_member env ms (written.AConstructor c)) _ after h in
    let n = bind_ok (constructor_named ms.class c) _ m.0 m.1 in
    let t = bind_ok (check_routine env ty.Void n.0) _ m.0 n.2 in
    let g = named_sound ms.class c n.0 n.1 in
    let next : Members = members_with ms [] 0 [] [] (Some t.0) in
    let step : m.0 ≡ next =
    sym (ok_is _ m.0 t.2)
    ∙ same_members ms.class.name ms.class.line ms.class.interfaces ms.names next.names _ _ (Some t.0) _ _
    (sym (grown-none ms.names)) (sym (append-nil ms.class.fields)) (sym (append-nil ms.class.methods)) in
    let none = takes_none ms.names d in
    let go = members_sound env known xs next after none.distinct
    (subst (λ (x : Members). check_members env x xs ≡ Ok after) step m.2) in
    let k = length (member_names xs) in
    let is : IsTypedConstructor env ms.class.name c t.0 = record {
      named = g.1;
      routine = routine_sound env known ty.Void refl (constructing c) t.0
          (subst (λ (r : Routine). check_routine env ty.Void r ≡ Ok t.0) g.2 t.1);
    } in
    record {
      can = takes_then ms.names [] (member_names xs) 0 k k (omega arith) none go.can;
      fields = go.fields;
      are_fields = go.are_fields;
      methods = go.methods;
      are_methods = go.are_methods;
      constructor = go.constructor;
      constructs =
          constructs_first env ms.class.name ms.class.constructor c (constructors_of xs) t.0 go.constructor g.0 is
          go.constructs;
      is = go.is ∙ members_with-then ms [] (member_names xs) 0 k k [] go.fields [] go.methods (Some t.0) go.constructor
          (omega arith);
    }

members_complete : (env : Environment) → IsKnown env
    → (xs : List written.Member) (ms : Members) (fs : List Initialization) (ts : List Function) (o : Option Function)
    → CanTake ms.names (member_names xs) (length (member_names xs)) → AreFields env (fields_of xs) fs
    → AllZip (IsTypedFunction env) (methods_of xs) ts
    → Constructs env ms.class.name ms.class.constructor (constructors_of xs) o
    → check_members env ms xs ≡ Ok (members_with ms (member_names xs) (length (member_names xs)) fs ts o)
unfolding check_member
members_complete env known [] ms fs [] o can are_fs are_ts constructs =
    ap (λ (x : Members). Ok x)
    (sym (members_with-none ms)
    ∙ ap (members_with ms [] 0 [] []) (sym (constructs_nothing env ms.class.name ms.class.constructor o constructs))
    ∙ ap (λ (xs : List Initialization). members_with ms [] 0 xs [] o) (sym are_fs))
members_complete env known [] ms fs (t ∷ ts) o can are_fs are_ts constructs = absurd are_ts
members_complete env known (written.AField v ∷ xs) ms fs ts o can are_fs are_ts constructs =
    let values = are_fs.0 in
    let more = are_fs.1 in
    let f : Variables = record { line = (written.place_of_type v.of).line; values = values } in
    let are : AreTypedVariables env v f = record { variable = are_fs.2; line = refl; values = are_fs.3 } in
    let j = length v.decls in
    let k = length (member_names xs) in
    let count = count_names v (member_names xs) in
    let first = takes_first ms.names (names_of v) (member_names xs) j k _ count can in
    let rest = takes_rest ms.names (names_of v) (member_names xs) j k _ count can in
    let next : Members = members_with ms (names_of v) j values [] ms.class.constructor in
    bind_is (check_member env ms (written.AField v)) _ next _
    (bind_is (check_vars env ms.names v) _ _ next (vars_complete env known ms.names v f first are)
    (ap (λ (x : Members). Ok x)
    (same_members ms.class.name ms.class.line ms.class.interfaces next.names next.names _ _ ms.class.constructor _ _
    refl refl (sym (append-nil ms.class.methods)))))
    (members_complete env known xs next more ts o rest are_fs.4 are_ts constructs
    ∙ ap (λ (x : Members). Ok x)
    (members_with-then ms (names_of v) (member_names xs) j k _ values more [] ts ms.class.constructor o count
    ∙ ap (λ (fields : List Initialization).
    members_with ms (member_names (written.AField v ∷ xs)) (length (member_names (written.AField v ∷ xs))) fields ts o)
    (sym are_fs.5)))
members_complete env known (written.AMethod f ∷ xs) ms fs [] o can are_fs are_ts constructs = absurd are_ts
members_complete env known (written.AMethod f ∷ xs) ms fs (t ∷ ts) o can are_fs are_ts constructs =
    let k = length (member_names xs) in
    let first = takes_first ms.names (f.name ∷ []) (member_names xs) 1 k (suc k) (omega arith) can in
    let rest = takes_rest ms.names (f.name ∷ []) (member_names xs) 1 k (suc k) (omega arith) can in
    let next : Members = members_with ms (f.name ∷ []) 1 [] (t ∷ []) ms.class.constructor in
    let is = are_ts.0 in
    bind_is (check_member env ms (written.AMethod f)) _ next _
    (bind_is (check_result env f.result) _ (result_in env f.result) next (result_complete env f.result is.passed)
    (bind_is (placed ms.names f.place.at f.name) _ next.names next (placed_complete ms.names f.place.at f.name first)
    (bind_is (check_routine env (result_in env f.result) (routine_of f)) _ t next
    (routine_complete env (result_in env f.result) (routine_of f) t is.routine)
    (ap (λ (x : Members). Ok x)
    (same_members ms.class.name ms.class.line ms.class.interfaces next.names next.names _ _ ms.class.constructor _ _
    refl (sym (append-nil ms.class.fields)) refl)))))
    (members_complete env known xs next fs ts o rest are_fs are_ts.1 constructs
    ∙ ap (λ (x : Members). Ok x)
    (members_with-then ms (f.name ∷ []) (member_names xs) 1 k (suc k) [] fs (t ∷ []) ts ms.class.constructor o
    (omega arith)))
members_complete env known (written.AConstructor c ∷ xs) ms fs ts o can are_fs are_ts constructs =
    let k = length (member_names xs) in
    let rest = takes_rest ms.names [] (member_names xs) 0 k k (omega arith) can in
    constructs_only env ms.class.name ms.class.constructor c (constructors_of xs) o constructs (λ none t is no_more built.
    let next : Members = members_with ms [] 0 [] [] (Some t) in
    bind_is (check_member env ms (written.AConstructor c)) _ next _
    (bind_is (constructor_named ms.class c) _ (constructing c) next (named_complete ms.class c none is.named)
    (bind_is (check_routine env ty.Void (constructing c)) _ t next
    (routine_complete env ty.Void (constructing c) t is.routine)
    (ap (λ (x : Members). Ok x)
    (same_members ms.class.name ms.class.line ms.class.interfaces ms.names next.names _ _ (Some t) _ _
    (sym (grown-none ms.names)) (sym (append-nil ms.class.fields)) (sym (append-nil ms.class.methods))))))
    (members_complete env known xs next fs ts o rest are_fs are_ts
    (subst (λ cs. Constructs env ms.class.name (Some t) cs o) (sym no_more) built)
    ∙ ap (λ (x : Members). Ok x)
    (members_with-then ms [] (member_names xs) 0 k k [] fs [] ts (Some t) o (omega arith))))

-- classes

within_known : (env : Environment) (place : ℕ) → IsKnown env → IsKnown (inside env place)
within_known env place k =
    record { interfaces = k.interfaces; classes = k.classes; functions = k.functions; globals = k.globals; locals = tt }

pub class_sound : (env : Environment) → IsKnown env → (place : ℕ) (c : written.Class) (typed : Class)
    → check_class env place c ≡ Ok typed → IsTypedClass env place c typed
unfolding check_class IsDistinct
class_sound env known place c typed h =
    let l = bind_ok (all_listed env place none_listed c.interfaces) _ typed h in
    let m = bind_ok (check_members (inside env place) (no_members c l.0.interfaces) c.members) _ typed l.2 in
    let list = listed_sound env place c.interfaces none_listed l.0 tt l.1 in
    let go = members_sound (inside env place) (within_known env place known) c.members (no_members c l.0.interfaces) m.0
    tt m.1 in
    let is : typed
    ≡ (members_with (no_members c l.0.interfaces) (member_names c.members) (length (member_names c.members))
    go.fields go.methods go.constructor).class = sym (ok_is _ typed m.2) ∙ ap class_of_members go.is in
    subst (λ (t : Class). IsTypedClass env place c t) (sym is) (record {
      name = refl;
      line = refl;
      listed_once = list.can.distinct;
      interfaces = subst (λ (x : Listed). AllZip (IsListed env place) c.interfaces x.interfaces) (sym list.is) list.are;
      differ = go.can.distinct;
      few = go.can.room;
      fields = go.are_fields;
      methods = go.are_methods;
      constructor = go.constructs;
    })

pub class_complete : (env : Environment) → IsKnown env → (place : ℕ) (c : written.Class) (typed : Class)
    → IsTypedClass env place c typed → check_class env place c ≡ Ok typed
unfolding check_class IsDistinct
class_complete env known place c typed is =
    let n = is.name in
    let l = is.line in
    let once : CanTake none_listed.names (map listed_name c.interfaces) 0 =
    record { free = all_free (map listed_name c.interfaces); distinct = is.listed_once; room = omega arith } in
    let can : CanTake (no_members c typed.interfaces).names (member_names c.members) (length (member_names c.members)) =
    record { free = all_free (member_names c.members); distinct = is.differ; room = is.few } in
    bind_is (all_listed env place none_listed c.interfaces) _
    (listed_with none_listed (map listed_name c.interfaces) typed.interfaces) typed
    (listed_complete env place c.interfaces none_listed typed.interfaces once is.interfaces)
    (bind_is (check_members (inside env place) (no_members c typed.interfaces) c.members) _ _ typed
    (members_complete (inside env place) (within_known env place known) c.members (no_members c typed.interfaces)
    typed.fields typed.methods typed.constructor can is.fields is.methods is.constructor)
    (ap (λ (t : Class). Ok t) (rw (sym n, sym l) refl)))
