-- What the walk types of the parts of statements has that typed tree by the rules: variables, heads of loops and
-- conditions; and scopes whose types are known stay so.
use Rattle.std.proofs.Common.{◌≡◌, ℕ, List, [], ◌∷◌, map, Bool, false, Option, Some, None, option_map}
use Rattle.std.proofs.Common.{Ok, refl, sym, ap, subst}
use Rattle.std.specs.List.{AllByRecursion}
use Rattle.ash_tree.specs.declared.tree.places.Position.{Position}
use Rattle.ash_tree.specs.Tree as written
use Rattle.ash_integers.specs.declared.int_type.IntType.{IntType}
use Rattle.ash_type_rules.specs.declared.types.Ty.{Ty}
use Rattle.ash_type_rules.specs.declared.types.Ty.TheVariants as ty
use Rattle.ash_typed.specs.StatementTree.{Initialization, Stmt, Declare, Head}
use Rattle.ash_type_rules.specs.Environment.{Environment, Declared}
use Rattle.ash_type_rules.specs.ExpressionRules.{TypedExpr, check_expr, check_exprs, integer_of, bool_of}
use Rattle.ash_type_rules.specs.ModuleDeclarations.{declared, ty_in}
use Rattle.ash_type_rules.specs.Declarations.{at_type, known_ty, check_decl}
use Rattle.ash_type_rules.specs.Typing.{AllHaveType, IsKnown, IsKnownType, IsVariableType, IsKnownVariable}
use Rattle.ash_type_rules.specs.StatementRules.{fresh, check_decls, check_vars, condition_is}
use Rattle.ash_type_rules.specs.StatementRules.{check_optional, maybe_condition_is, tree_of, check_head, check_stmt}
use Rattle.ash_type_rules.specs.TypedStatements.{IsKnownScope, AreTypedDeclarations, none_declared, and_declared, IsTypedCondition}
use Rattle.ash_type_rules.specs.TypedStatements.{condition, MayBeTypedCondition, endless, until, IsTypedHead, head_is_empty}
use Rattle.ash_type_rules.specs.TypedStatements.{head_declares, head_evaluates, IsTypedStmt, declare}
use Rattle.ash_type_rules.proofs.Bindings.{no_err, ok_is, bind_ok, if_ok}
use Rattle.ash_type_rules.proofs.TakenNames.{all_append}
use Rattle.ash_type_rules.proofs.TypedVariables.{known_sound}
use Rattle.ash_type_rules.proofs.TypingKnown.{known_type}
use Rattle.ash_type_rules.proofs.TypingComplete.{terms}
use Rattle.ash_type_rules.proofs.TypingSound.{sound, all_sound}
use Rattle.ash_type_rules.proofs.TypingVariables.{declared_sound}
use Rattle.ash_type_rules.specs.Scopes.{Scope, after, block_of, loop_of, switch_of, with_variables, is_taken}

-- scopes whose types are known

pub decls_known : (of : Ty) (ds : List written.Decl) → IsVariableType of
    → AllByRecursion IsKnownVariable (map (declared of) ds)
decls_known of [] h = tt
decls_known of (d ∷ ds) h = (h, decls_known of ds h)

pub more_known : (scope : Scope) (vs : List Declared) → IsKnownScope scope → AllByRecursion IsKnownVariable vs
    → IsKnownScope (with_variables scope vs)
more_known scope vs k h = record {
  env = record {
    interfaces = k.env.interfaces;
    classes = k.env.classes;
    functions = k.env.functions;
    globals = k.env.globals;
    locals = all_append IsKnownVariable scope.env.locals vs k.env.locals h;
  };
  result = k.result;
}

pub block_known : (scope : Scope) → IsKnownScope scope → IsKnownScope (block_of scope)
block_known scope k = record { env = k.env; result = k.result }

pub loop_known : (scope : Scope) → IsKnownScope scope → IsKnownScope (loop_of scope)
loop_known scope k = record { env = k.env; result = k.result }

pub switch_known : (scope : Scope) → IsKnownScope scope → IsKnownScope (switch_of scope)
switch_known scope k = record { env = k.env; result = k.result }

pub known_after : (scope : Scope) (s : written.Stmt) (t : Stmt) → IsKnownScope scope → check_stmt scope s ≡ Ok t
    → IsKnownScope (after scope s)
unfolding check_vars
known_after scope (written.Declare p v) t k h =
    let v_is = bind_ok (check_vars scope v) _ t h in
    let known = bind_ok (known_ty v.of (ty_in scope.env v.of)) _ v_is.0 v_is.1 in
    more_known scope (map (declared (ty_in scope.env v.of)) v.decls) k
    (decls_known (ty_in scope.env v.of) v.decls (known_sound scope.env v.of v.of known.0 known.1).0)
known_after scope _ t k h = k

pub head_known : (scope : Scope) (f : written.Stmt) (g : Head) → IsKnownScope scope → check_head scope f ≡ Ok g
    → IsKnownScope (after scope f)
unfolding check_head check_vars
head_known scope (written.Declare p v) g k h =
    let v_is = bind_ok (check_vars scope v) _ g h in
    let known = bind_ok (known_ty v.of (ty_in scope.env v.of)) _ v_is.0 v_is.1 in
    more_known scope (map (declared (ty_in scope.env v.of)) v.decls) k
    (decls_known (ty_in scope.env v.of) v.decls (known_sound scope.env v.of v.of known.0 known.1).0)
head_known scope _ g k h = k

-- variables

fresh_sound : (scope : Scope) (of : Ty) (d : written.Decl) (v : Declared) → fresh scope of d ≡ Ok v
    → (is_taken scope d.name ≡ false) × (v ≡ declared of d)
unfolding fresh
fresh_sound scope of d v h =
    if_ok (is_taken scope d.name) _ _ (Ok v) h (λ b e. absurd (no_err _ v e)) (λ b e. (b, sym (ok_is _ v e)))

decls_sound : (scope : Scope) → IsKnownScope scope → (at : ℕ) (of : Ty) → IsVariableType of
    → (ds : List written.Decl) (values : List Initialization) → check_decls scope at of ds ≡ Ok values
    → AreTypedDeclarations scope of ds values
decls_sound scope k at of known [] values h = subst (AreTypedDeclarations scope of []) (ok_is [] values h) none_declared
decls_sound scope k at of known (d ∷ ds) values h =
    let f = bind_ok (fresh scope of d) _ values h in
    let v = bind_ok (check_decl scope.env at of d) _ values f.2 in
    let r = bind_ok (check_decls (with_variables scope (f.0 ∷ [])) at of ds) _ values v.2 in
    let s = fresh_sound scope of d f.0 f.1 in
    let rest : check_decls (with_variables scope (declared of d ∷ [])) at of ds ≡ Ok r.0 =
    subst (λ (x : Declared). check_decls (with_variables scope (x ∷ [])) at of ds ≡ Ok r.0) s.1 r.1 in
    subst (AreTypedDeclarations scope of (d ∷ ds)) (ok_is (v.0 ∷ r.0) values r.2)
    (and_declared s.0 (declared_sound scope.env k.env at of d v.0 v.1)
    (decls_sound (with_variables scope (declared of d ∷ [])) (more_known scope (declared of d ∷ []) k (known, tt))
    at of known ds r.0 rest))

vars_declared : (scope : Scope) → IsKnownScope scope → (v : written.Vars) (values : List Initialization)
    → check_vars scope v ≡ Ok values
    → IsVariableType (ty_in scope.env v.of) × AreTypedDeclarations scope (ty_in scope.env v.of) v.decls values
unfolding check_vars
vars_declared scope k v values h =
    let o = bind_ok (known_ty v.of (ty_in scope.env v.of)) _ values h in
    let s = known_sound scope.env v.of v.of o.0 o.1 in (
      s.0,
      decls_sound scope k (at_type v.of) (ty_in scope.env v.of) s.0 v.decls values
          (subst (λ (of : Ty). check_decls scope (at_type v.of) of v.decls ≡ Ok values) s.1 o.2),
    )

pub vars_sound : (scope : Scope) → IsKnownScope scope → (p : Position) (v : written.Vars) (values : List Initialization)
    → check_vars scope v ≡ Ok values → IsTypedStmt scope (written.Declare p v) (Declare p.line values)
vars_sound scope k p v values h =
    let are = vars_declared scope k v values h in
    declare are.0 are.1

-- the head of a `for`
pub head_sound : (scope : Scope) → IsKnownScope scope → (f : written.Stmt) (g : Head) → check_head scope f ≡ Ok g
    → IsTypedHead scope f g
unfolding check_head
head_sound scope k (written.Empty p) g h = subst (IsTypedHead scope (written.Empty p)) (ok_is _ g h) head_is_empty
head_sound scope k (written.Declare p v) g h =
    let values = bind_ok (check_vars scope v) _ g h in
    let are = vars_declared scope k v values.0 values.1 in
    subst (IsTypedHead scope (written.Declare p v)) (ok_is _ g values.2) (head_declares are.0 are.1)
head_sound scope k (written.Evaluate p e) g h =
    let v = bind_ok (check_expr scope.env false e) _ g h in
    subst (IsTypedHead scope (written.Evaluate p e)) (ok_is _ g v.2)
    (head_evaluates (sound scope.env k.env false e v.0 v.1))
head_sound scope k (written.Block p ss) g h = absurd (no_err _ g h)
head_sound scope k (written.If p c s) g h = absurd (no_err _ g h)
head_sound scope k (written.IfElse p c s t) g h = absurd (no_err _ g h)
head_sound scope k (written.While p c s) g h = absurd (no_err _ g h)
head_sound scope k (written.DoWhile p s c) g h = absurd (no_err _ g h)
head_sound scope k (written.For p f c es s) g h = absurd (no_err _ g h)
head_sound scope k (written.Switch p e cs) g h = absurd (no_err _ g h)
head_sound scope k (written.Break p) g h = absurd (no_err _ g h)
head_sound scope k (written.Continue p) g h = absurd (no_err _ g h)
head_sound scope k (written.Return p e) g h = absurd (no_err _ g h)

-- conditions

bool_sound : (at : ℕ) (of : Ty) (fit : Bool) → IsKnownType of → bool_of at of ≡ Ok fit → of ≡ ty.Bool
bool_sound at ty.Bool fit k h = refl
bool_sound at ty.Unknown fit k h = absurd (cc)
bool_sound at ty.Void fit k h = absurd (no_err _ fit h)
bool_sound at (ty.Integer j) fit k h = absurd (no_err _ fit h)
bool_sound at (ty.Object o) fit k h = absurd (no_err _ fit h)
bool_sound at (ty.Handle o) fit k h = absurd (no_err _ fit h)
bool_sound at ty.Null fit k h = absurd (no_err _ fit h)

pub integer_sound : (at : ℕ) (of : Ty) (j : IntType) → IsKnownType of → integer_of at of ≡ Ok j → of ≡ ty.Integer j
integer_sound at (ty.Integer i) j k h = ap ty.Integer (ok_is i j h)
integer_sound at ty.Unknown j k h = absurd (cc)
integer_sound at ty.Void j k h = absurd (no_err _ j h)
integer_sound at ty.Bool j k h = absurd (no_err _ j h)
integer_sound at (ty.Object o) j k h = absurd (no_err _ j h)
integer_sound at (ty.Handle o) j k h = absurd (no_err _ j h)
integer_sound at ty.Null j k h = absurd (no_err _ j h)

pub condition_sound : (env : Environment) → IsKnown env → (e : written.Expr) (t : TypedExpr) (fit : Bool)
    → check_expr env false e ≡ Ok t → condition_is t ≡ Ok fit → IsTypedCondition env e t.tree
condition_sound env k e t fit h i =
    let has = sound env k false e t h in
    condition has (bool_sound t.at t.ty fit (known_type has k) i)

pub maybe_sound : (env : Environment) → IsKnown env → (e : Option written.Expr) (t : Option TypedExpr) (fit : Bool)
    → check_optional env e ≡ Ok t → maybe_condition_is t ≡ Ok fit → MayBeTypedCondition env e (option_map tree_of t)
maybe_sound env k None t fit h i =
    subst (λ (x : Option TypedExpr). MayBeTypedCondition env None (option_map tree_of x)) (ok_is None t h) endless
maybe_sound env k (Some e) t fit h i =
    let c = bind_ok (check_expr env false e) _ t h in
    let is = ok_is (Some c.0) t c.2 in
    subst (λ (x : Option TypedExpr). MayBeTypedCondition env (Some e) (option_map tree_of x)) is
    (until (condition_sound env k e c.0 fit c.1
    (subst (λ (x : Option TypedExpr). maybe_condition_is x ≡ Ok fit) (sym is) i)))

pub steps_sound : (env : Environment) → IsKnown env → (es : List written.Expr) (ts : List TypedExpr)
    → check_exprs env (written.exprs es) ≡ Ok ts → AllHaveType env (written.exprs es) (terms ts)
steps_sound env k es ts h = all_sound env k (written.exprs es) ts h
