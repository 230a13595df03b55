-- What a call of a sound module enters.
use Rattle.std.proofs.Common.{◌≡◌, ◌<◌, ◌+◌, ◌⊎◌, ℕ, zero, suc, Bool, true, false, cond, List, [], ◌∷◌, length, map, refl, sym, ap, ◌∙◌, subst, inl, inr, slice_get, get_or, nat_eq, option_map, arith, find, position, if◌then◌else◌}
use Rattle.std.specs.Prelude.{Option, Some, None, Contains, IfSome}
use Rattle.std.specs.List.{AllByRecursion, AllZip}
use Rattle.std.specs.Option.{option_map_or, option_and_then}
use Rattle.std.specs.Str.{bytes_eq}
use Rattle.std.proofs.lemmas.Bool.{eqb-true}
use Rattle.std.proofs.lemmas.Option.{same_Some, slice_get-map}
use Rattle.std.proofs.lemmas.List.Quantifiers.{position-Some}
use Rattle.std.proofs.lemmas.List.FromFn.{get_or-map-range_with_len, length-map-range_with_len}
use Rattle.ash_host.specs.declared.word.Word.{Word}
use Rattle.ash_host.specs.Objects.{Plain, Script, Array, Host}
use Rattle.ash_host.proofs.RecordLaws.{bytes_decide}
use Rattle.ash_typed.specs.declared.types.VarType.{VarType}
use Rattle.ash_typed.specs.StatementTree.{Initialization, no_stmt}
use Rattle.ash_typed.specs.Modules.{Function, Signature, Implementation, Class, Module}
use Rattle.ash_typed.specs.Signatures.{ClassTypes, ModuleSignatures, signature_of, signature_of_class, type_declared, parameters_of}
use Rattle.ash_typed.specs.SoundExpressions.{TypedEnvironment}
use Rattle.ash_typed.specs.SoundStatements.{IsSoundBeginning, IsInitialized, AreSoundStmts, no_stmts}
use Rattle.ash_typed.specs.SoundModules as sound
use Rattle.ash_typed.specs.SoundModules.{inside, outside, IsSoundFunction, IsSoundConstructor, IsImplementation, IsSoundClass, AreSoundClasses}
use Rattle.ash_typed.specs.TypedReturning.{AnyReturns}
use Rattle.ash_meaning.specs.Classes.{place_of_class, places_of_classes, class_of, implementation_in, implemented, FreeFunction, Method, Construction, Entry, entry_of_function, entry_of_method, entry_of_construction, entry_of}
use Rattle.ash_soundness.specs.WellFormed.{Context, IsContext, declared, OfClass, shape_of, IsOfClass}
use Rattle.ash_soundness.proofs.Values.{first_in, later_in}
use Rattle.ash_soundness.proofs.Parts.{there_from}
use Rattle.ash_soundness.proofs.Hosts.{rec_at}

-- what was found

pub mapped : {A B : Type 0} (f : A → B) (o : Option A) (y : B) → option_map f o ≡ Some y → (x : A) × (o ≡ Some x) × (f x ≡ y)
mapped f None y e = absurd (cc)
mapped f (Some x) y e = (x, refl, same_Some (f x) y e)

pub chained : {A B : Type 0} (f : A → Option B) (o : Option A) (y : B) → option_and_then f o ≡ Some y → (x : A) × (o ≡ Some x) × (f x ≡ Some y)
chained f None y e = absurd (cc)
chained f (Some x) y e = (x, refl, e)

find_from : {A : Type 0} (x : A) (b : Bool) (rest : Option A) (y : A) → cond b (Some x) rest ≡ Some y → ((b ≡ true) × (x ≡ y)) ⊎ (rest ≡ Some y)
find_from x true rest y e = inl (refl, same_Some x y e)
find_from x false rest y e = inr e

pub found_passes : {A : Type 0} (P : A → Type 0) (test : A → Bool) (xs : List A) (y : A) → find test xs ≡ Some y → AllByRecursion P xs → (test y ≡ true) × P y
found_passes P test [] y e h = absurd (cc)
found_passes P test (x ∷ xs) y e h =
    elim (find_from x (test x) (find test xs) y e) [
      | inl here ↦ (subst (λ z. test z ≡ true) here.1 here.0, subst P here.1 h.0)
      | inr later ↦ found_passes P test xs y later h.1
    ]

pub found_in : {A : Type 0} (test : A → Bool) (xs : List A) (y : A) → find test xs ≡ Some y → Contains xs y
found_in test [] y e = absurd (cc)
found_in test (x ∷ xs) y e =
    elim (find_from x (test x) (find test xs) y e) [
      | inl here ↦ subst (λ z. Contains (x ∷ xs) z) here.1 (first_in x xs)
      | inr later ↦ later_in x y xs (found_in test xs y later)
    ]

pub zip_at : {A B : Type 0} (R : A → B → Type 0) (xs : List A) (ys : List B) (k : ℕ) (y : B) → AllZip R xs ys → slice_get ys k ≡ Some y → (x : A) × (slice_get xs k ≡ Some x) × R x y
zip_at R [] [] k y h at = absurd (cc)
zip_at R [] (z ∷ ys) k y h at = absurd h
zip_at R (x ∷ xs) [] k y h at = absurd h
zip_at R (x ∷ xs) (z ∷ ys) zero y h at = (x, refl, subst (R x) (same_Some z y at) h.0)
zip_at R (x ∷ xs) (z ∷ ys) (suc k) y h at = zip_at R xs ys k y h.1 at

-- fields that are initialized, from a place on: each is of a type of the class at its place
pub data AreFields (c : Context) (class : ℕ) (source : Class) : ℕ → List Initialization → Type 0 where
  no_fields : {place : ℕ} → AreFields c class source place []
  and_field : {place : ℕ} {v : Initialization} {vs : List Initialization}
      → slice_get (map type_declared source.fields) place ≡ Some v.of
      → IsSoundBeginning (inside (declared c) class) v.of v.value
      → AreFields c class source (place + 1) vs
      → AreFields c class source place (v ∷ vs)

-- none, or those of the class of the object that is constructed
pub data HasFields (c : Context) (env : TypedEnvironment) : List Initialization → Type 0 where
  none_initialized : HasFields c env []
  all_initialized : {class : ℕ} {source : Class} {vs : List Initialization}
      → env.this ≡ Some class
      → slice_get ((c.program).tree).classes class ≡ Some source
      → AreFields c class source 0 vs
      → HasFields c env vs

-- What is entered is sound in this environment, and gives this.
pub record IsEntry (c : Context) (env : TypedEnvironment) (result : Option VarType) (e : Entry) : Type 0 where
  pub signatures : env.signatures ≡ declared c
  pub fields : HasFields c env e.fields
  pub body : AreSoundStmts (record { env = env; result = result; may_break = false; may_continue = false }) e.body
  pub returns : (result ≡ None) ⊎ AnyReturns e.body

abbrev pub in_class : Context → ℕ → List VarType → TypedEnvironment
in_class c class locals = record { signatures = declared c; this = Some class; locals = locals }

abbrev pub in_none : Context → List VarType → TypedEnvironment
in_none c locals = record { signatures = declared c; this = None; locals = locals }

-- classes by place
classes_at : (s : ModuleSignatures) (start k place : ℕ) (cs : List Class) (source : Class) → place ≡ start + k → AreSoundClasses s start cs → slice_get cs k ≡ Some source → IsSoundClass s place source
classes_at s start k place [] source same h at = absurd (cc)
classes_at s start zero place (x ∷ cs) source same h at =
    let here : start ≡ place = omega arith in
    subst (λ (n : ℕ). IsSoundClass s n source) here (subst (IsSoundClass s start) (same_Some x source at) h.0)
classes_at s start (suc k) place (x ∷ cs) source same h at = classes_at s (start + 1) k place cs source (omega arith) h.1 at

fields_from : {c : Context} {class : ℕ} {source : Class} (place : ℕ) (vs : List Initialization) → AllByRecursion (IsInitialized (inside (declared c) class)) vs → ((i : ℕ) (v : Initialization) → slice_get vs i ≡ Some v → slice_get (map type_declared source.fields) (place + i) ≡ Some v.of) → AreFields c class source place vs
fields_from place [] h types = no_fields
fields_from {source = source} place (v ∷ vs) h types =
    let here : place + 0 ≡ place = omega arith in
    and_field (subst (λ (n : ℕ). slice_get (map type_declared source.fields) n ≡ Some v.of) here (types 0 v refl)) (h.0).value
    (fields_from (place + 1) vs h.1 (λ i x at.
    let level : place + suc i ≡ place + 1 + i = omega arith in
    subst (λ (n : ℕ). slice_get (map type_declared source.fields) n ≡ Some x.of) level (types (suc i) x at)))

module _ {c : Context} (context : IsContext c) where
  pub class_is : (class : ℕ) (source : Class) → slice_get ((c.program).tree).classes class ≡ Some source → IsSoundClass (declared c) class source
  class_is class source at = classes_at (declared c) 0 class class ((c.program).tree).classes source (omega arith) (context.sound).classes at

  -- functions

  function_from : (f : Function) → IsSoundFunction (outside (declared c)) f → IsEntry c (in_none c f.parameters) f.result (entry_of_function f)
  function_from f h = record { signatures = refl; fields = none_initialized; body = h.body; returns = h.returns }

  pub function_entry : (place : ℕ) (s : Signature) → slice_get (declared c).functions place ≡ Some s → (e : Entry) → entry_of (c.program).tree (FreeFunction place) ≡ Some e → IsEntry c (in_none c s.parameters) s.result e
  function_entry place s at e there =
      let (f, here, same) = mapped entry_of_function (slice_get ((c.program).tree).functions place) e there in
      let signature : signature_of f ≡ s = same_Some (signature_of f) s (sym (slice_get-map signature_of ((c.program).tree).functions place ∙ ap (option_map signature_of) here) ∙ at) in
      let one : IsEntry c (in_none c f.parameters) f.result (entry_of_function f) = function_from f (rec_at (IsSoundFunction (outside (declared c))) ((c.program).tree).functions place f (context.sound).functions here) in
      subst (λ (x : Signature). IsEntry c (in_none c x.parameters) x.result e) signature (subst (IsEntry c (in_none c f.parameters) f.result) same one)

  -- methods

  method_from : (class own : ℕ) (k : Class) (f : Function) → slice_get ((c.program).tree).classes class ≡ Some k → slice_get k.methods own ≡ Some f → IsEntry c (in_class c class f.parameters) f.result (entry_of_method k f)
  method_from class own k f at here =
      let h : IsSoundFunction (inside (declared c) class) f = rec_at (IsSoundFunction (inside (declared c) class)) k.methods own f (class_is class k at).methods here in
      record { signatures = refl; fields = none_initialized; body = h.body; returns = h.returns }

  -- what a method is that a class has
  pub own_method : (class own : ℕ) (k : Class) (f : Function) (s : Signature) → slice_get ((c.program).tree).classes class ≡ Some k → slice_get k.methods own ≡ Some f → signature_of f ≡ s → (e : Entry) → entry_of (c.program).tree (Method class own) ≡ Some e → IsEntry c (in_class c class s.parameters) s.result e
  own_method class own k f s at here signature e there =
      let (other, at_other, rest) = chained (λ (x : Class). option_map (entry_of_method x) (slice_get x.methods own)) (slice_get ((c.program).tree).classes class) e there in
      let (g, at_g, same) = mapped (entry_of_method other) (slice_get other.methods own) e rest in
      let class_same : other ≡ k = same_Some other k (sym at_other ∙ at) in
      let found_g : slice_get k.methods own ≡ Some g = subst (λ (x : Class). slice_get x.methods own ≡ Some g) class_same at_g in
      let method_same : g ≡ f = same_Some g f (sym found_g ∙ here) in
      let entry_same : entry_of_method k f ≡ e = sym (ap (λ (x : Class). entry_of_method x g) class_same ∙ ap (entry_of_method k) method_same) ∙ same in
      subst (λ (x : Signature). IsEntry c (in_class c class x.parameters) x.result e) signature (subst (IsEntry c (in_class c class f.parameters) f.result) entry_same (method_from class own k f at here))

  pub method_entry : (class method : ℕ) (cs : ClassTypes) (s : Signature) → slice_get (declared c).classes class ≡ Some cs → slice_get cs.methods method ≡ Some s → (e : Entry) → entry_of (c.program).tree (Method class method) ≡ Some e → IsEntry c (in_class c class s.parameters) s.result e
  method_entry class method cs s at here e there =
      let (k, at_k, rest) = chained (λ (x : Class). option_map (entry_of_method x) (slice_get x.methods method)) (slice_get ((c.program).tree).classes class) e there in
      let (f, at_f, same) = mapped (entry_of_method k) (slice_get k.methods method) e rest in
      let of_k : signature_of_class k ≡ cs = same_Some (signature_of_class k) cs (sym (slice_get-map signature_of_class ((c.program).tree).classes class ∙ ap (option_map signature_of_class) at_k) ∙ at) in
      let listed : slice_get (map signature_of k.methods) method ≡ Some s = subst (λ (x : ClassTypes). slice_get x.methods method ≡ Some s) (sym of_k) here in
      let signature : signature_of f ≡ s = same_Some (signature_of f) s (sym (slice_get-map signature_of k.methods method ∙ ap (option_map signature_of) at_f) ∙ listed) in
      own_method class method k f s at_k at_f signature e there

  -- constructions

  body_from : (class : ℕ) (k : Class) (o : Option Function) → IfSome o (IsSoundConstructor (inside (declared c) class) k.name) → AreSoundStmts (record { env = in_class c class (parameters_of o); result = None; may_break = false; may_continue = false }) (option_map_or (λ (f : Function). f.body) o no_stmt)
  body_from class k None h = no_stmts
  body_from class k (Some f) h = subst (λ (r : Option VarType). AreSoundStmts (record { env = in_class c class f.parameters; result = r; may_break = false; may_continue = false }) f.body) h.gives_nothing (h.function).body

  pub construction_entry : (class : ℕ) (k : Class) → slice_get ((c.program).tree).classes class ≡ Some k → (e : Entry) → entry_of (c.program).tree (Construction class) ≡ Some e → IsEntry c (in_class c class (parameters_of k.constructor)) None e
  construction_entry class k at e there =
      let (other, at_other, same) = mapped entry_of_construction (slice_get ((c.program).tree).classes class) e there in
      let class_same : other ≡ k = same_Some other k (sym at_other ∙ at) in
      let entry_same : entry_of_construction k ≡ e = sym (ap entry_of_construction class_same) ∙ same in
      let h = class_is class k at in
      let one : IsEntry c (in_class c class (parameters_of k.constructor)) None (entry_of_construction k) = record {
        signatures = refl;
        fields = all_initialized refl at (fields_from 0 k.fields h.fields (λ i v there. typed i v there));
        body = body_from class k k.constructor h.constructor;
        returns = inl refl;
      } in
      subst (IsEntry c (in_class c class (parameters_of k.constructor)) None) entry_same one
    where
      typed : (i : ℕ) (v : Initialization) → slice_get k.fields i ≡ Some v → slice_get (map type_declared k.fields) (0 + i) ≡ Some v.of
      typed i v here =
          let level : i ≡ 0 + i = omega arith in
          subst (λ (n : ℕ). slice_get (map type_declared k.fields) n ≡ Some v.of) level (slice_get-map type_declared k.fields i ∙ ap (option_map type_declared) here)

  -- what an object is of

  class_there : (o : Plain (List ℕ)) (class owner_place : ℕ) (owner : List ℕ) → shape_of o ≡ OfClass owner owner_place → owner ≡ (c.program).name → position (nat_eq owner_place) (places_of_classes (c.program).tree) ≡ Some class → IsOfClass c.program class (shape_of o)
  class_there o class place owner shape name e =
      let m : Module = (c.program).tree in
      let there = position-Some (nat_eq place) (places_of_classes m) class 0 e in
      let within : class < length m.classes = omega (arith, there.0, length-map-range_with_len (place_of_class m) 0 (length m.classes)) in
      let zero_more : 0 + class ≡ class = omega arith in
      let here : get_or (places_of_classes m) class 0 ≡ place_of_class m class = get_or-map-range_with_len (place_of_class m) 0 (length m.classes) class class 0 within zero_more in
      let at : place ≡ place_of_class m class = eqb-true place (get_or (places_of_classes m) class 0) there.1 ∙ here in
      let (k, at_k) = there_from m.classes class within in
      record {
        source = k;
        at = at_k;
        is = shape ∙ ap (λ (n : List ℕ). OfClass n place) name ∙ ap (λ (n : ℕ). OfClass (c.program).name n) at;
      }

  class_from : (owner : List ℕ) (place : ℕ) (fields : List Word) (class : ℕ) (b : Bool) → bytes_eq owner (c.program).name ≡ b → (if b then position (nat_eq place) (places_of_classes (c.program).tree) else None) ≡ Some class → IsOfClass c.program class (OfClass owner place)
  class_from owner place fields class true is e = class_there (Script owner place fields) class place owner refl ((bytes_decide owner (c.program).name).0 is) e
  class_from owner place fields class false is e = absurd (cc)

  -- the class of an object is found by its module and its place
  pub class_found : (o : Plain (List ℕ)) (class : ℕ) → class_of c.program o ≡ Some class → IsOfClass c.program class (shape_of o)
  class_found (Script owner place fields) class e = class_from owner place fields class (bytes_eq owner (c.program).name) refl e
  class_found (Array of elements) class e = absurd (cc)
  class_found (Host kind state) class e = absurd (cc)

  -- how a class implements an interface, where it is found
  pub implementation_found : (class interface : ℕ) (i : Implementation) → implementation_in (c.program).tree class interface ≡ Some i → (k : Class) × (slice_get ((c.program).tree).classes class ≡ Some k) × (i.interface ≡ interface) × Contains k.interfaces i × IsImplementation (declared c) k.methods i
  implementation_found class interface i e =
      let (k, at, found) = chained (λ (x : Class). find (λ (j : Implementation). nat_eq j.interface interface) x.interfaces) (slice_get ((c.program).tree).classes class) i e in
      let passes = found_passes (IsImplementation (declared c) k.methods) (λ (j : Implementation). nat_eq j.interface interface) k.interfaces i found (class_is class k at).interfaces in
      (k, at, eqb-true i.interface interface passes.0, found_in (λ (j : Implementation). nat_eq j.interface interface) k.interfaces i found, passes.1)

  -- the method of a class for one of an interface is as the interface declares it
  pub through_entry : (interface method class own : ℕ) (all : List Signature) (s : Signature) → slice_get (declared c).interfaces interface ≡ Some all → slice_get all method ≡ Some s → implemented (c.program).tree interface method class ≡ Some own → (e : Entry) → entry_of (c.program).tree (Method class own) ≡ Some e → IsEntry c (in_class c class s.parameters) s.result e
  through_entry interface method class own all s at_all at_s found e there =
      let (i, found_i, at_own) = chained (λ (x : Implementation). slice_get x.methods method) (implementation_in (c.program).tree class interface) own found in
      let (k, at_k, same, within, (others, at_others, zipped)) = implementation_found class interface i found_i in
      let one : others ≡ all = same_Some others all (sym at_others ∙ ap (slice_get (declared c).interfaces) same ∙ at_all) in
      let (x, at_x, (f, at_f, signature)) = zip_at (sound.ImplementsDeclared k.methods) others i.methods method own zipped at_own in
      let declared_x : slice_get all method ≡ Some x = subst (λ (l : List Signature). slice_get l method ≡ Some x) one at_x in
      let level : x ≡ s = same_Some x s (sym declared_x ∙ at_s) in
      own_method class own k f s at_k at_f (signature ∙ level) e there
