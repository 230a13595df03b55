-- Interfaces, and those that a class lists, are typed exactly as the rules say.
use Rattle.std.proofs.Common.{◌≡◌, ℕ, suc, List, [], ◌∷◌, ◌++◌, map, length, Option, Some, None, Ok, refl, sym, ◌∙◌, ap}
use Rattle.std.proofs.Common.{subst, arith}
use Rattle.std.specs.List.{AllZip, IsDistinct}
use Rattle.std.proofs.lemmas.List.{append_assoc, append-nil}
use Rattle.ash_tree.specs.Tree as written
use Rattle.ash_typed.specs.declared.types.ObjectType.{ObjectType}
use Rattle.ash_typed.specs.declared.types.ObjectType.TheVariants.{Class as OfClass, Interface as OfInterface}
use Rattle.ash_typed.specs.declared.types.ObjectType.TheVariants.{Host as OfHost, Array as OfArray}
use Rattle.ash_typed.specs.Modules.{Signature, Interface, Implementation}
use Rattle.ash_type_rules.specs.declared.types.Ty.{Ty}
use Rattle.ash_type_rules.specs.TypeRules.{result_type}
use Rattle.ash_type_rules.specs.Environment.{Environment, Declared, type_declared}
use Rattle.ash_type_rules.specs.ModuleDeclarations.{object_named, result_in}
use Rattle.ash_type_rules.specs.ItemRules.{Names, untaken, placed, check_result, check_parameters, InterfaceMembers, signature_of}
use Rattle.ash_type_rules.specs.ItemRules.{check_signature, check_signatures, no_signatures, interface_of, check_interface}
use Rattle.ash_type_rules.specs.ItemRules.{listed_at, implemented_at, Listed, check_listed, all_listed}
use Rattle.ash_type_rules.specs.TypedModules.{signature_name, listed_name, parameter_of, IsTypedSignature, IsTypedInterface, IsListed}
use Rattle.ash_type_rules.proofs.Bindings.{no_err, ok_is, bind_ok, bind_is}
use Rattle.ash_type_rules.proofs.TakenNames.{all_free, Distinct, grown, grown-none, grown-then, CanTake, takes_none}
use Rattle.ash_type_rules.proofs.TakenNames.{takes_then, takes_first, takes_rest, untaken_sound, untaken_complete}
use Rattle.ash_type_rules.proofs.TakenNames.{placed_sound, placed_complete}
use Rattle.ash_type_rules.proofs.TypedRoutines.{parameters_sound, parameters_complete, types_of, result_sound}
use Rattle.ash_type_rules.proofs.TypedRoutines.{result_complete}
use Rattle.ash_type_rules.specs.Implementations.{implemented}

-- an interface so far

abbrev signatures_of : Names → List Signature → InterfaceMembers
signatures_of names methods = record { names = names; methods = methods }

abbrev signatures_with : InterfaceMembers → List (List ℕ) → ℕ → List Signature → InterfaceMembers
signatures_with ss names k methods = signatures_of (grown ss.names names k) (ss.methods ++ methods)

same_signatures : (n m : Names) (ts us : List Signature) → n ≡ m → ts ≡ us → signatures_of n ts ≡ signatures_of m us
same_signatures n m ts us h i = rw (h, i) refl

signatures_with-none : (ss : InterfaceMembers) → signatures_with ss [] 0 [] ≡ ss
signatures_with-none ss =
    same_signatures (grown ss.names [] 0) ss.names _ _ (grown-none ss.names) (append-nil ss.methods)

signatures_with-then : (ss : InterfaceMembers) (x : List ℕ) (xs : List (List ℕ)) (k : ℕ) (t : Signature) (ts : List Signature)
    → signatures_with (signatures_with ss (x ∷ []) 1 (t ∷ [])) xs k ts ≡ signatures_with ss (x ∷ xs) (suc k) (t ∷ ts)
signatures_with-then ss x xs k t ts =
    same_signatures _ (grown ss.names (x ∷ xs) (suc k)) _ _ (grown-then ss.names (x ∷ []) xs 1 k (suc k) (omega arith))
    (append_assoc ss.methods (t ∷ []) ts)

-- methods that an interface declares

-- what the rules make of one
abbrev signature_in : Environment → written.InterfaceMethod → Signature
signature_in env m = signature_of m.name (result_in env m.result) (map (parameter_of env) m.parameters)

signature_sound : (env : Environment) (m : written.InterfaceMethod) (of : Ty) (parameters : List Declared)
    → check_result env m.result ≡ Ok of → check_parameters env [] m.parameters ≡ Ok parameters
    → IsTypedSignature env m (signature_of m.name of parameters)
unfolding IsDistinct
signature_sound env m of parameters h k =
    let r = result_sound env m.result of h in
    let s = parameters_sound env m.parameters [] parameters tt k in
    record {
      name = refl;
      passed_result = r.0;
      result = ap result_type r.1;
      passed = s.passed;
      differ = s.differ;
      parameters = ap (map type_declared) s.is ∙ types_of env m.parameters;
    }

signature_exact : (env : Environment) (m : written.InterfaceMethod) (t : Signature) → IsTypedSignature env m t
    → t ≡ signature_in env m
signature_exact env m t is =
    let n = is.name in
    let r = is.result in
    let p = is.parameters in
    rw (sym n, sym r, types_of env m.parameters, sym p) refl

record SignaturesWalked (env : Environment) (ss : InterfaceMembers) (ms : List written.InterfaceMethod)
    (after : InterfaceMembers) : Type 0 where
  can : CanTake ss.names (map signature_name ms) (length ms)
  methods : List Signature
  are : AllZip (IsTypedSignature env) ms methods
  is : after ≡ signatures_with ss (map signature_name ms) (length ms) methods

signatures_sound : (env : Environment) (ms : List written.InterfaceMethod) (ss after : InterfaceMembers)
    → Distinct ss.names.taken → check_signatures env ss ms ≡ Ok after → SignaturesWalked env ss ms after
unfolding check_signature
signatures_sound env [] ss after d h = record {
  can = takes_none ss.names d;
  methods = [];
  are = tt;
  is = sym (ok_is ss after h) ∙ sym (signatures_with-none ss);
}
signatures_sound env (m ∷ ms) ss after d h =
    let o = bind_ok (check_signature env ss m) _ after h in
    let r = bind_ok (check_result env m.result) _ o.0 o.1 in
    let p = bind_ok (placed ss.names m.place.at m.name) _ o.0 r.2 in
    let q = bind_ok (check_parameters env [] m.parameters) _ o.0 p.2 in
    let g = placed_sound ss.names m.place.at m.name p.0 d p.1 in
    let t : Signature = signature_of m.name r.0 q.0 in
    let next : InterfaceMembers = signatures_with ss (m.name ∷ []) 1 (t ∷ []) in
    let step : o.0 ≡ next = sym (ok_is _ o.0 q.2) ∙ same_signatures p.0 next.names _ _ g.1 refl in
    let go = signatures_sound env ms next after g.0.distinct
    (subst (λ (x : InterfaceMembers). check_signatures env x ms ≡ Ok after) step o.2) in
    record {
      can = takes_then ss.names (m.name ∷ []) (map signature_name ms) 1 (length ms) (suc (length ms)) (omega arith) g.0
          go.can;
      methods = t ∷ go.methods;
      are = (signature_sound env m r.0 q.0 r.1 q.1, go.are);
      is = go.is ∙ signatures_with-then ss m.name (map signature_name ms) (length ms) t go.methods;
    }

signatures_complete : (env : Environment) (ms : List written.InterfaceMethod) (ss : InterfaceMembers) (ts : List Signature)
    → CanTake ss.names (map signature_name ms) (length ms) → AllZip (IsTypedSignature env) ms ts
    → check_signatures env ss ms ≡ Ok (signatures_with ss (map signature_name ms) (length ms) ts)
unfolding check_signature IsDistinct
signatures_complete env [] ss [] can are = ap (λ (x : InterfaceMembers). Ok x) (sym (signatures_with-none ss))
signatures_complete env [] ss (t ∷ ts) can are = absurd are
signatures_complete env (m ∷ ms) ss [] can are = absurd are
signatures_complete env (m ∷ ms) ss (t ∷ ts) can are =
    let is = are.0 in
    let names = map signature_name ms in
    let k = length ms in
    let first = takes_first ss.names (m.name ∷ []) names 1 k (suc k) (omega arith) can in
    let rest = takes_rest ss.names (m.name ∷ []) names 1 k (suc k) (omega arith) can in
    let next : InterfaceMembers = signatures_with ss (m.name ∷ []) 1 (t ∷ []) in
    bind_is (check_signature env ss m) _ next _
    (bind_is (check_result env m.result) _ (result_in env m.result) next (result_complete env m.result is.passed_result)
    (bind_is (placed ss.names m.place.at m.name) _ next.names next (placed_complete ss.names m.place.at m.name first)
    (bind_is (check_parameters env [] m.parameters) _ (map (parameter_of env) m.parameters) next
    (parameters_complete env m.parameters [] is.passed is.differ)
    (ap (λ (s : Signature). Ok (signatures_of next.names (ss.methods ++ s ∷ []))) (sym (signature_exact env m t is))))))
    (signatures_complete env ms next ts rest are.1
    ∙ ap (λ (x : InterfaceMembers). Ok x) (signatures_with-then ss m.name names k t ts))

-- interfaces

pub interface_sound : (env : Environment) (classes : ℕ) (i : written.Interface) (typed : Interface)
    → check_interface env classes i ≡ Ok typed → IsTypedInterface env i classes typed
unfolding check_interface IsDistinct
interface_sound env classes i typed h =
    let m = bind_ok (check_signatures env no_signatures i.methods) _ typed h in
    let go = signatures_sound env i.methods no_signatures m.0 tt m.1 in
    let is : typed
    ≡ interface_of i classes
    (signatures_with no_signatures (map signature_name i.methods) (length i.methods) go.methods) =
    sym (ok_is _ typed m.2) ∙ ap (interface_of i classes) go.is in
    subst (IsTypedInterface env i classes) (sym is) (record {
      name = refl;
      line = refl;
      before = refl;
      differ = go.can.distinct;
      few = go.can.room;
      methods = go.are;
    })

pub interface_complete : (env : Environment) (classes : ℕ) (i : written.Interface) (typed : Interface)
    → IsTypedInterface env i classes typed → check_interface env classes i ≡ Ok typed
unfolding check_interface IsDistinct
interface_complete env classes i typed is =
    let n = is.name in
    let l = is.line in
    let b = is.before in
    let can : CanTake no_signatures.names (map signature_name i.methods) (length i.methods) =
    record { free = all_free (map signature_name i.methods); distinct = is.differ; room = is.few } in
    bind_is (check_signatures env no_signatures i.methods) _ _ typed
    (signatures_complete env i.methods no_signatures typed.methods can is.methods)
    (ap (λ (t : Interface). Ok t) (rw (sym n, sym l, sym b) refl))

-- an interface that a class lists

listed_at_sound : (at : ℕ) (o : Option ObjectType) (place : ℕ) → listed_at at o ≡ Ok place
    → o ≡ Some (OfInterface place)
listed_at_sound at None place h = absurd (no_err _ place h)
listed_at_sound at (Some (OfInterface i)) place h = ap (λ p. Some (OfInterface p)) (ok_is i place h)
listed_at_sound at (Some (OfClass c)) place h = absurd (no_err _ place h)
listed_at_sound at (Some (OfHost kind)) place h = absurd (no_err _ place h)
listed_at_sound at (Some (OfArray of)) place h = absurd (no_err _ place h)

listed_at_complete : (at : ℕ) (o : Option ObjectType) (place : ℕ) → o ≡ Some (OfInterface place)
    → listed_at at o ≡ Ok place
listed_at_complete at o place h = rw h refl

implemented_sound : (at interface : ℕ) (o : Option (List ℕ)) (t : Implementation) → implemented_at at interface o ≡ Ok t
    → (t.interface ≡ interface) × (o ≡ Some t.methods)
implemented_sound at interface None t h = absurd (no_err _ t h)
implemented_sound at interface (Some methods) t h = let is = ok_is _ t h in
    (ap (λ (x : Implementation). x.interface) (sym is), ap (λ (x : Implementation). Some x.methods) is)

implemented_complete : (at : ℕ) (o : Option (List ℕ)) (t : Implementation) → o ≡ Some t.methods
    → implemented_at at t.interface o ≡ Ok t
implemented_complete at o t h = rw h refl

-- those so far

abbrev listed_of : Names → List Implementation → Listed
listed_of names interfaces = record { names = names; interfaces = interfaces }

abbrev pub listed_with : Listed → List (List ℕ) → List Implementation → Listed
listed_with listed names interfaces = listed_of (grown listed.names names 0) (listed.interfaces ++ interfaces)

same_listed : (n m : Names) (ts us : List Implementation) → n ≡ m → ts ≡ us → listed_of n ts ≡ listed_of m us
same_listed n m ts us h i = rw (h, i) refl

listed_with-none : (listed : Listed) → listed_with listed [] [] ≡ listed
listed_with-none listed =
    same_listed (grown listed.names [] 0) listed.names _ _ (grown-none listed.names) (append-nil listed.interfaces)

listed_with-then : (listed : Listed) (x : List ℕ) (xs : List (List ℕ)) (t : Implementation) (ts : List Implementation)
    → listed_with (listed_with listed (x ∷ []) (t ∷ [])) xs ts ≡ listed_with listed (x ∷ xs) (t ∷ ts)
listed_with-then listed x xs t ts =
    same_listed _ (grown listed.names (x ∷ xs) 0) _ _ (grown-then listed.names (x ∷ []) xs 0 0 0 refl)
    (append_assoc listed.interfaces (t ∷ []) ts)

pub record ListedWalked (env : Environment) (class : ℕ) (listed : Listed) (ns : List written.TypeName)
    (after : Listed) : Type 0 where
  pub can : CanTake listed.names (map listed_name ns) 0
  pub interfaces : List Implementation
  pub are : AllZip (IsListed env class) ns interfaces
  pub is : after ≡ listed_with listed (map listed_name ns) interfaces

pub listed_sound : (env : Environment) (class : ℕ) (ns : List written.TypeName) (listed after : Listed)
    → Distinct listed.names.taken → all_listed env class listed ns ≡ Ok after → ListedWalked env class listed ns after
unfolding check_listed
listed_sound env class [] listed after d h = record {
  can = takes_none listed.names d;
  interfaces = [];
  are = tt;
  is = sym (ok_is listed after h) ∙ sym (listed_with-none listed);
}
listed_sound env class (n ∷ ns) listed after d h =
    let m = bind_ok (check_listed env class listed n) _ after h in
    let p = bind_ok (listed_at n.place.at (object_named env.registered env.declarations n.name)) _ m.0 m.1 in
    let u = bind_ok (untaken listed.names n.place.at n.name) _ m.0 p.2 in
    let i = bind_ok (implemented_at n.place.at p.0 (implemented env class p.0)) _ m.0 u.2 in
    let s = untaken_sound listed.names n.place.at n.name u.0 d u.1 in
    let t = implemented_sound n.place.at p.0 (implemented env class p.0) i.0 i.1 in
    let next : Listed = listed_with listed (n.name ∷ []) (i.0 ∷ []) in
    let step : m.0 ≡ next = sym (ok_is _ m.0 i.2) ∙ same_listed u.0 next.names _ _ s.1 refl in
    let go = listed_sound env class ns next after s.0.distinct
    (subst (λ (x : Listed). all_listed env class x ns ≡ Ok after) step m.2) in
    let is : IsListed env class n i.0 = record {
      interface = listed_at_sound n.place.at (object_named env.registered env.declarations n.name) p.0 p.1
          ∙ ap (λ place. Some (OfInterface place)) (sym t.0);
      methods = ap (implemented env class) t.0 ∙ t.1;
    } in
    record {
      can = takes_then listed.names (n.name ∷ []) (map listed_name ns) 0 0 0 refl s.0 go.can;
      interfaces = i.0 ∷ go.interfaces;
      are = (is, go.are);
      is = go.is ∙ listed_with-then listed n.name (map listed_name ns) i.0 go.interfaces;
    }

pub listed_complete : (env : Environment) (class : ℕ) (ns : List written.TypeName) (listed : Listed)
    (ts : List Implementation) → CanTake listed.names (map listed_name ns) 0 → AllZip (IsListed env class) ns ts
    → all_listed env class listed ns ≡ Ok (listed_with listed (map listed_name ns) ts)
unfolding check_listed
listed_complete env class [] listed [] can are = ap (λ (x : Listed). Ok x) (sym (listed_with-none listed))
listed_complete env class [] listed (t ∷ ts) can are = absurd are
listed_complete env class (n ∷ ns) listed [] can are = absurd are
listed_complete env class (n ∷ ns) listed (t ∷ ts) can are =
    let is = are.0 in
    let names = map listed_name ns in
    let first = takes_first listed.names (n.name ∷ []) names 0 0 0 refl can in
    let rest = takes_rest listed.names (n.name ∷ []) names 0 0 0 refl can in
    let next : Listed = listed_with listed (n.name ∷ []) (t ∷ []) in
    bind_is (check_listed env class listed n) _ next _
    (bind_is (listed_at n.place.at (object_named env.registered env.declarations n.name)) _ t.interface next
    (listed_at_complete n.place.at (object_named env.registered env.declarations n.name) t.interface is.interface)
    (bind_is (untaken listed.names n.place.at n.name) _ next.names next
    (untaken_complete listed.names n.place.at n.name first)
    (bind_is (implemented_at n.place.at t.interface (implemented env class t.interface)) _ t next
    (implemented_complete n.place.at (implemented env class t.interface) t is.methods) refl)))
    (listed_complete env class ns next ts rest are.1
    ∙ ap (λ (x : Listed). Ok x) (listed_with-then listed n.name names t ts))
