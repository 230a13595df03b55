-- Functions, methods and constructors are typed exactly as the rules say.
use Rattle.std.proofs.Common.{◌≡◌, ◌⊎◌, inl, inr, ℕ, Bool, true, false, ◌||◌, List, [], ◌∷◌, ◌++◌, map, Option, Some}
use Rattle.std.proofs.Common.{None, Ok, refl, sym, ◌∙◌, ap, subst}
use Rattle.std.specs.Bool.{IsTrue}
use Rattle.std.specs.Str.{bytes_eq}
use Rattle.std.specs.List.{AllByRecursion, IsDistinct, list_any}
use Rattle.std.proofs.lemmas.List.{append_assoc, append-nil}
use Rattle.ash_tree.specs.declared.tree.types.Primitive.{Primitive}
use Rattle.ash_tree.specs.declared.tree.types.Primitive.TheVariants as primitives
use Rattle.ash_tree.specs.Tree as written
use Rattle.ash_typed.specs.declared.types.ObjectType.{ObjectType}
use Rattle.ash_type_rules.specs.declared.types.Ty.{Ty}
use Rattle.ash_type_rules.specs.declared.types.Ty.TheVariants as ty
use Rattle.ash_type_rules.specs.TypeRules.{ty_of, var_type}
use Rattle.ash_type_rules.specs.Environment.{Environment, Declared, with_locals, declares, type_declared}
use Rattle.ash_type_rules.specs.ExpressionRules.{is_void}
use Rattle.ash_type_rules.specs.ModuleDeclarations.{object_named, array_named, object_ty, handle_ty, ty_named, ty_in}
use Rattle.ash_type_rules.specs.ModuleDeclarations.{result_in}
use Rattle.ash_type_rules.specs.Typing.{IsKnown, IsKnownType, IsVariableType, IsKnownVariable}
use Rattle.ash_typed.specs.StatementTree.{Body}
use Rattle.ash_type_rules.specs.StatementRules.{check_body}
use Rattle.ash_type_rules.specs.Scopes.{body_scope}
use Rattle.ash_typed.specs.Modules.{Function}
use Rattle.ash_type_rules.specs.ItemRules.{passed_ty, check_result, check_parameters, returning, check_routine}
use Rattle.ash_type_rules.specs.TypedModules.{IsPassed, type_of_parameter, parameter_of, IsPassedParameter, IsTypedBody}
use Rattle.ash_type_rules.specs.TypedModules.{IsRoutine, IsTypedResult, IsTypedFunction}
use Rattle.ash_type_rules.proofs.Bindings.{no_err, ok_is, bind_ok, bind_is, if_ok}
use Rattle.ash_type_rules.proofs.StatementsSound.{stmts_sound}
use Rattle.ash_type_rules.proofs.StatementsComplete.{stmts_complete}
use Rattle.ash_type_rules.proofs.TakenNames.{Distinct, distinct_push, distinct_new}
use Rattle.ash_type_rules.specs.Returning.{returns_in}
use Rattle.ash_tree.specs.Items.{Routine, routine_of, parameter_name}

-- what may be passed

pub passed_known : (of : Ty) → IsPassed of → IsKnownType of
passed_known ty.Unknown h = h
passed_known ty.Void h = refl
passed_known ty.Bool h = refl
passed_known (ty.Integer k) h = refl
passed_known (ty.Object o) h = refl
passed_known (ty.Handle o) h = refl
passed_known ty.Null h = refl

pub passed_variable : (of : Ty) → IsPassed of → IsVariableType of
passed_variable ty.Unknown h = h
passed_variable ty.Void h = h
passed_variable ty.Bool h = refl
passed_variable (ty.Integer k) h = refl
passed_variable (ty.Object o) h = absurd (cc)
passed_variable (ty.Handle o) h = refl
passed_variable ty.Null h = h

pub passed_complete : (at : written.Named) (of : Ty) → IsPassed of → passed_ty at of ≡ Ok of
unfolding passed_ty
passed_complete at ty.Bool h = refl
passed_complete at (ty.Integer k) h = refl
passed_complete at (ty.Handle o) h = refl
passed_complete at _ h = absurd (cc)

primitive_passed : (at : written.Named) (p : Primitive) (t : Ty) → passed_ty at (ty_of p) ≡ Ok t
    → IsPassed (ty_of p) × (t ≡ ty_of p)
unfolding passed_ty
primitive_passed at primitives.Bool t h = (refl, sym (ok_is _ t h))
primitive_passed at primitives.Int t h = (refl, sym (ok_is _ t h))
primitive_passed at primitives.Int64 t h = (refl, sym (ok_is _ t h))
primitive_passed at primitives.Uint t h = (refl, sym (ok_is _ t h))
primitive_passed at primitives.Uint64 t h = (refl, sym (ok_is _ t h))

object_passed : {P : Type 0} (at : written.Named) (o : Option ObjectType) (t : Ty) → passed_ty at (object_ty o) ≡ Ok t
    → P
unfolding passed_ty
object_passed at None t h = absurd (no_err _ t h)
object_passed at (Some o) t h = absurd (no_err _ t h)

handle_passed : (at : written.Named) (o : Option ObjectType) (t : Ty) → passed_ty at (handle_ty o) ≡ Ok t
    → IsPassed (handle_ty o) × (t ≡ handle_ty o)
unfolding passed_ty
handle_passed at None t h = absurd (no_err _ t h)
handle_passed at (Some o) t h = (refl, sym (ok_is _ t h))

pub passed_sound : (env : Environment) (at of : written.Named) (t : Ty) → passed_ty at (ty_in env of) ≡ Ok t
    → IsPassed (ty_in env of) × (t ≡ ty_in env of)
unfolding ty_named
passed_sound env at (written.Prim p k) t h = primitive_passed at k t h
passed_sound env at (written.Object p name) t h =
    object_passed at (object_named env.registered env.declarations name) t h
passed_sound env at (written.Handle p name) t h =
    handle_passed at (object_named env.registered env.declarations name) t h
passed_sound env at (written.Array p of) t h = object_passed at (array_named env.registered env.declarations of) t h
passed_sound env at (written.ArrayHandle p of) t h =
    handle_passed at (array_named env.registered env.declarations of) t h

-- parameters

abbrev pub declared_name : Declared → List ℕ
declared_name v = v.name

any_named : (name : List ℕ) (before : List Declared)
    → list_any (declares name) before ≡ list_any (bytes_eq name) (map declared_name before)
any_named name [] = refl
any_named name (v ∷ vs) = ap (λ b. bytes_eq name v.name || b) (any_named name vs)

one_more_name : (before : List Declared) (v : Declared)
    → map declared_name (before ++ v ∷ []) ≡ map declared_name before ++ v.name ∷ []
one_more_name [] v = refl
one_more_name (x ∷ xs) v = ap (λ ns. x.name ∷ ns) (one_more_name xs v)

pub record Passed (env : Environment) (before : List Declared) (ps : List written.Parameter)
    (after : List Declared) : Type 0 where
  pub passed : AllByRecursion (IsPassedParameter env) ps
  pub differ : Distinct (map declared_name before ++ map parameter_name ps)
  pub is : after ≡ before ++ map (parameter_of env) ps

pub parameters_sound : (env : Environment) (ps : List written.Parameter) (before after : List Declared)
    → Distinct (map declared_name before) → check_parameters env before ps ≡ Ok after → Passed env before ps after
parameters_sound env [] before after d h = record {
  passed = tt;
  differ = subst Distinct (sym (append-nil (map declared_name before))) d;
  is = sym (ok_is before after h) ∙ sym (append-nil before);
}
parameters_sound env (p ∷ ps) before after d h =
    let t = bind_ok (passed_ty p.of (ty_in env p.of)) _ after h in
    let s = passed_sound env p.of p.of t.0 t.1 in
    let v : Declared = parameter_of env p in
    if_ok (list_any (declares p.name) before) _ _ (Ok after) t.2
    (λ b e. absurd (no_err _ after e))
    (λ b e.
    let new : Distinct (map declared_name (before ++ v ∷ [])) =
    subst Distinct (sym (one_more_name before v))
    (distinct_push (map declared_name before) p.name d (sym (any_named p.name before) ∙ b)) in
    let go = parameters_sound env ps (before ++ v ∷ []) after new
    (subst (λ (of : Ty). check_parameters env (before ++ record { name = p.name; of = of } ∷ []) ps ≡ Ok after) s.1
    e) in
    let there : Distinct ((map declared_name before ++ p.name ∷ []) ++ map parameter_name ps) =
    subst (λ ns. Distinct (ns ++ map parameter_name ps)) (one_more_name before v) go.differ in
    record {
      passed = (s.0, go.passed);
      differ = subst Distinct (append_assoc (map declared_name before) (p.name ∷ []) (map parameter_name ps)) there;
      is = go.is ∙ append_assoc before (v ∷ []) (map (parameter_of env) ps);
    })

pub parameters_complete : (env : Environment) (ps : List written.Parameter) (before : List Declared)
    → AllByRecursion (IsPassedParameter env) ps → Distinct (map declared_name before ++ map parameter_name ps)
    → check_parameters env before ps ≡ Ok (before ++ map (parameter_of env) ps)
parameters_complete env [] before h d = ap (λ (vs : List Declared). Ok vs) (sym (append-nil before))
parameters_complete env (p ∷ ps) before h d =
    let v : Declared = parameter_of env p in
    let new : list_any (declares p.name) before ≡ false =
    any_named p.name before ∙ distinct_new (map declared_name before) (map parameter_name ps) p.name d in
    let there : Distinct (map declared_name (before ++ v ∷ []) ++ map parameter_name ps) =
    subst (λ ns. Distinct (ns ++ map parameter_name ps)) (sym (one_more_name before v))
    (subst Distinct (sym (append_assoc (map declared_name before) (p.name ∷ []) (map parameter_name ps))) d) in
    bind_is (passed_ty p.of (ty_in env p.of)) _ (ty_in env p.of) _ (passed_complete p.of (ty_in env p.of) h.0)
    (rw new (parameters_complete env ps (before ++ v ∷ []) h.1 there
    ∙ ap (λ (vs : List Declared). Ok vs) (append_assoc before (v ∷ []) (map (parameter_of env) ps))))

pub types_of : (env : Environment) (ps : List written.Parameter)
    → map type_declared (map (parameter_of env) ps) ≡ map (type_of_parameter env) ps
types_of env [] = refl
types_of env (p ∷ ps) = ap (λ ts. var_type (ty_in env p.of) ∷ ts) (types_of env ps)

locals_known : (env : Environment) (ps : List written.Parameter) → AllByRecursion (IsPassedParameter env) ps
    → AllByRecursion IsKnownVariable (map (parameter_of env) ps)
locals_known env [] h = tt
locals_known env (p ∷ ps) h = (passed_variable (ty_in env p.of) h.0, locals_known env ps h.1)

inside_known : (env : Environment) (ps : List written.Parameter) → IsKnown env
    → AllByRecursion (IsPassedParameter env) ps → IsKnown (with_locals env (map (parameter_of env) ps))
inside_known env ps k h = record {
  interfaces = k.interfaces;
  classes = k.classes;
  functions = k.functions;
  globals = k.globals;
  locals = locals_known env ps h;
}

-- bodies

body_sound : (env : Environment) (of : Ty) (body : List written.Stmt) (typed : Body) → IsKnown env → IsKnownType of
    → check_body env of body ≡ Ok typed → IsTypedBody env of body typed
unfolding check_body
body_sound env of body typed k known_of h =
    stmts_sound (body_scope env of) (record { env = k; result = known_of }) (written.stmts body) typed h

body_complete : (env : Environment) (of : Ty) (body : List written.Stmt) (typed : Body) → IsTypedBody env of body typed
    → check_body env of body ≡ Ok typed
unfolding check_body
body_complete env of body typed h = stmts_complete h

void_is : (of : Ty) → is_void of ≡ true → of ≡ ty.Void
void_is ty.Void h = refl
void_is _ h = absurd (cc)

either : (of : Ty) (a b : Bool) → is_void of ≡ a → (a || b) ≡ true → (of ≡ ty.Void) ⊎ IsTrue b
either of true b h e = inl (void_is of h)
either of false b h e = inr e

returning_sound : (at : ℕ) (of : Ty) (statements : List written.Stmt) (body done : Body)
    → returning at of statements body ≡ Ok done → (done ≡ body) × ((of ≡ ty.Void) ⊎ IsTrue (returns_in statements))
unfolding returning
returning_sound at of statements body done h = if_ok (is_void of || returns_in statements) _ _ (Ok done) h
    (λ b e. (sym (ok_is body done e), either of (is_void of) (returns_in statements) refl b))
    (λ b e. absurd (no_err _ done e))

always : (a : Bool) → (a || true) ≡ true
always true = refl
always false = refl

returning_complete : (at : ℕ) (of : Ty) (statements : List written.Stmt) (body : Body)
    → (of ≡ ty.Void) ⊎ IsTrue (returns_in statements) → returning at of statements body ≡ Ok body
unfolding returning
returning_complete at of statements body (inl h) = rw h refl
returning_complete at of statements body (inr h) = rw (h, always (is_void of)) refl

-- functions

pub routine_sound : (env : Environment) → IsKnown env → (of : Ty) → IsKnownType of → (r : Routine) (typed : Function)
    → check_routine env of r ≡ Ok typed → IsRoutine env of r typed
unfolding check_routine IsDistinct
routine_sound env known of known_of r typed h =
    let p = bind_ok (check_parameters env [] r.parameters) _ typed h in
    let s = parameters_sound env r.parameters [] p.0 tt p.1 in
    let b = bind_ok (check_body (with_locals env p.0) of r.body) _ typed p.2 in
    let d = bind_ok (returning r.place.at of r.body b.0) _ typed b.2 in
    let e = returning_sound r.place.at of r.body b.0 d.0 d.1 in
    let is = ok_is _ typed d.2 in
    let body : IsTypedBody (with_locals env (map (parameter_of env) r.parameters)) of r.body b.0 =
    body_sound _ of r.body b.0 (inside_known env r.parameters known s.passed) known_of
    (subst (λ locals. check_body (with_locals env locals) of r.body ≡ Ok b.0) s.is b.1) in
    record {
      name = ap (λ (f : Function). f.name) (sym is);
      line = ap (λ (f : Function). f.line) (sym is);
      result = ap (λ (f : Function). f.result) (sym is);
      passed = s.passed;
      differ = s.differ;
      parameters =
          ap (λ (f : Function). f.parameters) (sym is) ∙ ap (map type_declared) s.is ∙ types_of env r.parameters;
      body = subst
          (λ (t : Body). IsTypedBody (with_locals env (map (parameter_of env) r.parameters)) of r.body t)
          (sym e.0 ∙ ap (λ (f : Function). f.body) is) body;
      returns = e.1;
    }

pub routine_complete : (env : Environment) (of : Ty) (r : Routine) (typed : Function) → IsRoutine env of r typed
    → check_routine env of r ≡ Ok typed
unfolding check_routine IsDistinct
routine_complete env of r typed is =
    let n = is.name in
    let l = is.line in
    let t = is.result in
    let q = is.parameters in
    let locals = map (parameter_of env) r.parameters in
    bind_is (check_parameters env [] r.parameters) _ locals _
    (parameters_complete env r.parameters [] is.passed is.differ)
    (bind_is (check_body (with_locals env locals) of r.body) _ typed.body _
    (body_complete (with_locals env locals) of r.body typed.body is.body)
    (bind_is (returning r.place.at of r.body typed.body) _ typed.body _
    (returning_complete r.place.at of r.body typed.body is.returns)
    (ap (λ (f : Function). Ok f) (rw (sym n, sym l, sym t, types_of env r.parameters, sym q) refl))))

pub result_sound : (env : Environment) (of : Option written.Named) (t : Ty) → check_result env of ≡ Ok t
    → IsTypedResult env of × (t ≡ result_in env of)
result_sound env None t h = (tt, sym (ok_is _ t h))
result_sound env (Some of) t h = passed_sound env of of t h

pub result_complete : (env : Environment) (of : Option written.Named) → IsTypedResult env of
    → check_result env of ≡ Ok (result_in env of)
result_complete env None h = refl
result_complete env (Some of) h = passed_complete of (ty_in env of) h

result_is_known : (env : Environment) (of : Option written.Named) → IsTypedResult env of → IsKnownType (result_in env of)
result_is_known env None h = refl
result_is_known env (Some of) h = passed_known (ty_in env of) h

pub function_sound : (env : Environment) → IsKnown env → (f : written.Function) (of : Ty) (typed : Function)
    → check_result env f.result ≡ Ok of → check_routine env of (routine_of f) ≡ Ok typed → IsTypedFunction env f typed
function_sound env known f of typed h k =
    let r = result_sound env f.result of h in
    record {
      passed = r.0;
      routine = routine_sound env known (result_in env f.result) (result_is_known env f.result r.0) (routine_of f) typed
          (subst (λ (t : Ty). check_routine env t (routine_of f) ≡ Ok typed) r.1 k);
    }
