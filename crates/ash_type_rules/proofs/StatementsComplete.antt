-- What has a typed tree by the rules of statements is typed by the walk.
use Rattle.std.proofs.Common.{◌≡◌, ℕ, List, [], ◌∷◌, ◌++◌, map, Bool, true, false, ◌||◌, Option, Some, None, option_map}
use Rattle.std.proofs.Common.{Ok, refl, sym, ◌∙◌, ap}
use Rattle.std.specs.List.{list_any}
use Rattle.ash_tree.specs.declared.tree.statements.Label.{Label}
use Rattle.ash_tree.specs.declared.tree.statements.Label.TheVariants as labels
use Rattle.ash_tree.specs.declared.tree.places.Position.{Position}
use Rattle.ash_tree.specs.Tree as written
use Rattle.ash_integers.specs.declared.int_type.IntType.{IntType}
use Rattle.ash_type_rules.specs.declared.types.Ty.{Ty}
use Rattle.ash_type_rules.specs.declared.types.Ty.TheVariants as ty
use Rattle.ash_type_rules.specs.Coercions.{fits}
use Rattle.ash_type_rules.specs.TypingResult.{TypingResult}
use Rattle.ash_typed.specs.declared.tree.statements.Test.TheVariants.{First, Last}
use Rattle.ash_typed.specs.TypedTree.{Expr}
use Rattle.ash_typed.specs.StatementTree.{Initialization, Stmt, If, no_branch, branch, Head, Repeat, For, repeated}
use Rattle.ash_typed.specs.StatementTree.{Switch, Break, Continue, Return, Stmts, Cases}
use Rattle.ash_type_rules.specs.Environment.{Environment, ClassSignature}
use Rattle.ash_type_rules.specs.ExpressionRules.{TypedExpr, check_expr, check_exprs, integer_of, bool_of, is_void, first_at, placed}
use Rattle.ash_type_rules.specs.ExpressionRules.{all_placed}
use Rattle.ash_type_rules.specs.ModuleDeclarations.{declared, ty_in}
use Rattle.ash_type_rules.specs.Declarations.{at_type, known_ty, check_decl}
use Rattle.ash_type_rules.specs.Returning.{is_default}
use Rattle.ash_type_rules.specs.Switches.{integer_type_in, is_within, check_constant, check_label}
use Rattle.ash_type_rules.specs.StatementRules.{fresh, check_decls, check_vars, condition_is, check_if, check_if_else}
use Rattle.ash_type_rules.specs.StatementRules.{check_while, check_do_while, check_optional, maybe_condition_is, tree_of}
use Rattle.ash_type_rules.specs.StatementRules.{check_head, check_for, check_break, check_continue, returned, check_return}
use Rattle.ash_type_rules.specs.StatementRules.{check_stmt, check_stmts, check_cases}
use Rattle.ash_type_rules.specs.TypedStatements.{AreTypedDeclarations, none_declared, and_declared, IsTypedCondition, condition}
use Rattle.ash_type_rules.specs.TypedStatements.{MayBeTypedCondition, endless, until, IsTypedHead, head_is_empty, head_declares}
use Rattle.ash_type_rules.specs.TypedStatements.{head_evaluates, IsTypedLabel, constant, otherwise, tree_of_term, IsTypedStmt, empty}
use Rattle.ash_type_rules.specs.TypedStatements.{declare, evaluate, block, if_only, if_else, while_loop, do_loop, for_loop}
use Rattle.ash_type_rules.specs.TypedStatements.{switch, break_out, continue_on, return_nothing, return_value, AreTypedStmts}
use Rattle.ash_type_rules.specs.TypedStatements.{no_more_stmts, more_stmts, AreTypedCases, no_more_cases, more_cases}
use Rattle.ash_type_rules.proofs.Bindings.{bind_is}
use Rattle.ash_type_rules.proofs.TypedVariables.{known_complete}
use Rattle.ash_type_rules.proofs.TypingComplete.{complete, all_complete, all_terms, terms, coerced_for_assignment_is}
use Rattle.ash_type_rules.proofs.TypingVariables.{declared_complete}
use Rattle.ash_type_rules.specs.Terms.{Term, converted_to}
use Rattle.ash_type_rules.specs.Labels.{holds_label, is_same_constant, is_last}
use Rattle.ash_type_rules.specs.Scopes.{Scope, after, block_of, loop_of, switch_of, with_variables, is_taken}

-- variables

fresh_is : (scope : Scope) (of : Ty) (d : written.Decl) → is_taken scope d.name ≡ false
    → fresh scope of d ≡ Ok (declared of d)
unfolding fresh
fresh_is scope of d h = rw h refl

decls_complete : {scope : Scope} {of : Ty} {ds : List written.Decl} {values : List Initialization}
    → AreTypedDeclarations scope of ds values → (at : ℕ) → check_decls scope at of ds ≡ Ok values
decls_complete none_declared at = refl
decls_complete (and_declared {scope = scope} {of = of} {d = d} {ds = ds} {value = value} {values = values} free is rest)
    at =
    bind_is (fresh scope of d) _ (declared of d) _ (fresh_is scope of d free)
    (bind_is (check_decl scope.env at of d) _ value _ (declared_complete is at)
    (bind_is (check_decls (with_variables scope (declared of d ∷ [])) at of ds) _ values _ (decls_complete rest at)
    refl))

vars_complete : (scope : Scope) (v : written.Vars) (values : List Initialization)
    → known_ty v.of (ty_in scope.env v.of) ≡ Ok (ty_in scope.env v.of)
    → AreTypedDeclarations scope (ty_in scope.env v.of) v.decls values → check_vars scope v ≡ Ok values
unfolding check_vars
vars_complete scope v values known h =
    bind_is (known_ty v.of (ty_in scope.env v.of)) _ (ty_in scope.env v.of) _ known (decls_complete h (at_type v.of))

-- conditions

record Tested (env : Environment) (e : written.Expr) (tree : Expr) : Type 0 where
  of : TypedExpr
  typed : check_expr env false e ≡ Ok of
  test : condition_is of ≡ Ok true
  is : of.tree ≡ tree

bool_is : (at : ℕ) (of : Ty) → of ≡ ty.Bool → bool_of at of ≡ Ok true
bool_is at of h = rw h refl

tested : {env : Environment} {e : written.Expr} {tree : Expr} → IsTypedCondition env e tree → Tested env e tree
tested (condition {e = e} {t = t} h is) = record {
  of = placed (first_at e) t;
  typed = complete h;
  test = bool_is (first_at e) t.ty is;
  is = refl;
}

record MaybeTested (env : Environment) (e : Option written.Expr) (tree : Option Expr) : Type 0 where
  of : Option TypedExpr
  typed : check_optional env e ≡ Ok of
  test : maybe_condition_is of ≡ Ok true
  is : option_map tree_of of ≡ tree

maybe_tested : {env : Environment} {e : Option written.Expr} {tree : Option Expr} → MayBeTypedCondition env e tree
    → MaybeTested env e tree
maybe_tested endless = record { of = None; typed = refl; test = refl; is = refl }
maybe_tested (until {env = env} {e = e} c) =
    let k = tested c in
    record {
      of = Some k.of;
      typed = bind_is (check_expr env false e) _ k.of _ k.typed refl;
      test = k.test;
      is = ap (λ (x : Expr). Some x) k.is;
    }

pub trees_of : (ts : List TypedExpr) → map tree_of ts ≡ map tree_of_term (terms ts)
trees_of [] = refl
trees_of (t ∷ ts) = ap (λ (es : List Expr). t.tree ∷ es) (trees_of ts)

-- declarations

head_complete : {scope : Scope} {f : written.Stmt} {g : Head} → IsTypedHead scope f g → check_head scope f ≡ Ok g
unfolding check_head
head_complete head_is_empty = refl
head_complete (head_declares {scope = scope} {v = v} {values = values} known h) =
    bind_is (check_vars scope v) _ values _
    (vars_complete scope v values (known_complete v.of (ty_in scope.env v.of) known) h) refl
head_complete (head_evaluates {scope = scope} {e = e} {t = t} h) =
    bind_is (check_expr scope.env false e) _ (placed (first_at e) t) _ (complete h) refl

-- statements of which the parts are typed

if_is : (line : ℕ) (o : TypingResult TypedExpr) (b : TypingResult Stmt) (c : TypedExpr) (s : Stmt) (tree : Expr) → o ≡ Ok c
    → condition_is c ≡ Ok true → c.tree ≡ tree → b ≡ Ok s → check_if line o b ≡ Ok (If line tree s no_branch)
unfolding check_if
if_is line o b c s tree h i j k = rw (h, k, i, sym j) refl

if_else_is : (line : ℕ) (o : TypingResult TypedExpr) (b r : TypingResult Stmt) (c : TypedExpr) (s t : Stmt) (tree : Expr)
    → o ≡ Ok c
    → condition_is c ≡ Ok true → c.tree ≡ tree → b ≡ Ok s → r ≡ Ok t
    → check_if_else line o b r ≡ Ok (If line tree s (branch t))
unfolding check_if_else
if_else_is line o b r c s t tree h i j k l = rw (h, k, l, i, sym j) refl

while_is : (line : ℕ) (o : TypingResult TypedExpr) (b : TypingResult Stmt) (c : TypedExpr) (s : Stmt) (tree : Expr) → o ≡ Ok c
    → condition_is c ≡ Ok true → c.tree ≡ tree → b ≡ Ok s
    → check_while line o b ≡ Ok (Repeat line (repeated First (Some tree) [] s))
unfolding check_while
while_is line o b c s tree h i j k = rw (h, k, i, sym j) refl

do_while_is : (line : ℕ) (o : TypingResult TypedExpr) (b : TypingResult Stmt) (c : TypedExpr) (s : Stmt) (tree : Expr)
    → o ≡ Ok c
    → condition_is c ≡ Ok true → c.tree ≡ tree → b ≡ Ok s
    → check_do_while line b o ≡ Ok (Repeat line (repeated Last (Some tree) [] s))
unfolding check_do_while
do_while_is line o b c s tree h i j k = rw (h, k, i, sym j) refl

for_is : (line : ℕ) (f : TypingResult Head) (b : TypingResult Stmt) (o : TypingResult (Option TypedExpr)) (es : TypingResult (List TypedExpr))
    (g : Head) (s : Stmt) (c : Option TypedExpr) (ts : List TypedExpr) (tree : Option Expr) (trees : List Expr) → f ≡ Ok g
    → o ≡ Ok c → maybe_condition_is c ≡ Ok true → option_map tree_of c ≡ tree → es ≡ Ok ts → map tree_of ts ≡ trees
    → b ≡ Ok s → check_for line f o es b ≡ Ok (For line g (repeated First tree trees s))
unfolding check_for
for_is line f b o es g s c ts tree trees h i j k l m n = rw (h, i, l, n, j, sym k, sym m) refl

break_is : (leaves : Bool) (p : Position) → leaves ≡ true → check_break leaves p ≡ Ok (Break p.line)
unfolding check_break
break_is leaves p h = rw h refl

continue_is : (leaves : Bool) (p : Position) → leaves ≡ true → check_continue leaves p ≡ Ok (Continue p.line)
unfolding check_continue
continue_is leaves p h = rw h refl

nothing_is : (scope : Scope) (p : Position) → scope.result ≡ ty.Void → check_return scope p None ≡ Ok (Return p.line None)
unfolding check_return
nothing_is scope p h = rw h refl

no_void : (classes : List ClassSignature) (of t : Ty) → fits classes of t ≡ true → is_void of ≡ false
no_void classes ty.Void t h = absurd (cc)
no_void classes ty.Unknown t h = refl
no_void classes ty.Bool t h = refl
no_void classes (ty.Integer k) t h = refl
no_void classes (ty.Object o) t h = refl
no_void classes (ty.Handle o) t h = refl
no_void classes ty.Null t h = refl

returned_is : (classes : List ClassSignature) (of : Ty) (at a : ℕ) (t : Term) → fits classes of t.ty ≡ true
    → returned classes of at (placed a t) ≡ Ok (converted_to of t)
unfolding returned
returned_is classes of at a t h = rw (no_void classes of t.ty h) (coerced_for_assignment_is classes of a t h)

value_is : (scope : Scope) (p : Position) (e : written.Expr) (t : Term)
    → check_expr scope.env false e ≡ Ok (placed (first_at e) t)
    → fits scope.env.declarations.classes scope.result t.ty ≡ true
    → check_return scope p (Some e) ≡ Ok (Return p.line (Some (converted_to scope.result t)))
unfolding check_return
value_is scope p e t h fit =
    rw (h, returned_is scope.env.declarations.classes scope.result p.at (first_at e) t fit) refl

-- labels

constant_is : (k : IntType) (before : List Label) (at : ℕ) (l : Label) → holds_label k l ≡ true
    → list_any (is_same_constant l) before ≡ false → check_constant (Some k) before at l ≡ Ok l
unfolding check_constant is_within
constant_is k before at l h i = rw (h, i) refl

label_is : (k : IntType) (before : List Label) (last : Bool) (at : ℕ) (l : Label) → is_default l ≡ false
    → holds_label k l ≡ true → list_any (is_same_constant l) before ≡ false
    → check_label (Some k) before last at l ≡ Ok l
unfolding check_label
label_is k before last at labels.Default d h i = absurd (cc)
label_is k before last at (labels.Case n) d h i = constant_is k before at (labels.Case n) h i
label_is k before last at (labels.CaseMinus n) d h i = constant_is k before at (labels.CaseMinus n) h i

default_is : (k : IntType) (before : List Label) (at : ℕ)
    → check_label (Some k) before true at labels.Default ≡ Ok labels.Default
unfolding check_label
default_is k before at = refl

label_complete : {k : IntType} {before : List Label} {last : Bool} {l : Label} → IsTypedLabel k before last l → (at : ℕ)
    → check_label (Some k) before last at l ≡ Ok l
label_complete (constant {k = k} {before = before} {last = last} {l = l} d h i) at = label_is k before last at l d h i
label_complete (otherwise {k = k} {before = before}) at = default_is k before at

integer_is : (at : ℕ) (of : Ty) (k : IntType) → of ≡ ty.Integer k → integer_of at of ≡ Ok k
integer_is at of k h = rw h refl

integer_type_is : (of : Ty) (k : IntType) → of ≡ ty.Integer k → integer_type_in of ≡ Some k
integer_type_is of k h = rw h refl

-- `switch`, of which the labels are typed
switch_is : (scope : Scope) (p : Position) (e : written.Expr) (cs : written.Cases) (t : Term) (k : IntType) (rows : Cases)
    → check_expr scope.env false e ≡ Ok (placed (first_at e) t) → t.ty ≡ ty.Integer k
    → check_cases (switch_of scope) (Some k) [] cs ≡ Ok rows
    → check_stmt scope (written.Switch p e cs) ≡ Ok (Switch p.line k t.tree rows)
switch_is scope p e cs t k rows h is i =
    bind_is (check_expr scope.env false e) _ (placed (first_at e) t) _ h
    (bind_is (check_cases (switch_of scope) (integer_type_in t.ty) [] cs) _ rows _
    (ap (λ int_type. check_cases (switch_of scope) int_type [] cs) (integer_type_is t.ty k is) ∙ i)
    (bind_is (integer_of (first_at e) t.ty) _ k _ (integer_is (first_at e) t.ty k is) refl))

-- statements

mutual
  pub stmt_complete : {scope : Scope} {s : written.Stmt} {t : Stmt} → IsTypedStmt scope s t → check_stmt scope s ≡ Ok t
  stmt_complete empty = refl
  stmt_complete (declare {scope = scope} {v = v} {values = values} known h) =
      bind_is (check_vars scope v) _ values _
      (vars_complete scope v values (known_complete v.of (ty_in scope.env v.of) known) h) refl
  stmt_complete (evaluate {scope = scope} {e = e} {t = t} h) =
      bind_is (check_expr scope.env false e) _ (placed (first_at e) t) _ (complete h) refl
  stmt_complete (block {scope = scope} {ss = ss} {ts = ts} h) =
      bind_is (check_stmts (block_of scope) ss) _ ts _ (stmts_complete h) refl
  stmt_complete (if_only {scope = scope} {p = p} {c = c} {s = s} {tree = tree} {t = t} h i) =
      let k = tested h in
      if_is p.line (check_expr scope.env false c) (check_stmt scope s) k.of t tree k.typed k.test k.is (stmt_complete i)
  stmt_complete (if_else {scope = scope} {p = p} {c = c} {s = s} {r = r} {tree = tree} {t = t} {u = u} h i j) =
      let k = tested h in
      if_else_is p.line (check_expr scope.env false c) (check_stmt scope s) (check_stmt scope r) k.of t u tree k.typed k.test
      k.is (stmt_complete i) (stmt_complete j)
  stmt_complete (while_loop {scope = scope} {p = p} {c = c} {s = s} {tree = tree} {t = t} h i) =
      let k = tested h in
      while_is p.line (check_expr scope.env false c) (check_stmt (loop_of scope) s) k.of t tree k.typed k.test k.is
      (stmt_complete i)
  stmt_complete (do_loop {scope = scope} {p = p} {c = c} {s = s} {tree = tree} {t = t} i h) =
      let k = tested h in
      do_while_is p.line (check_expr scope.env false c) (check_stmt (loop_of scope) s) k.of t tree k.typed k.test k.is
      (stmt_complete i)
  stmt_complete
      (for_loop {scope = scope} {p = p} {f = f} {s = s} {c = c} {es = es} {h = g} {t = t} {tree = tree} {ts = ts} h i j
      k) =
      let within = after (block_of scope) f in
      let m = maybe_tested i in
      let us = all_placed (written.exprs es) ts in
      for_is p.line (check_head (block_of scope) f) (check_stmt (loop_of within) s) (check_optional within.env c)
      (check_exprs within.env (written.exprs es)) g t m.of us tree (map tree_of_term ts) (head_complete h) m.typed
      m.test m.is (all_complete j) (trees_of us ∙ ap (map tree_of_term) (all_terms j)) (stmt_complete k)
  stmt_complete (switch {scope = scope} {p = p} {e = e} {cs = cs} {t = t} {k = k} {rows = rows} h is i) =
      switch_is scope p e cs t k rows (complete h) is (cases_complete i)
  stmt_complete (break_out {scope = scope} {p = p} h) = break_is (scope.in_loop || scope.in_switch) p h
  stmt_complete (continue_on {scope = scope} {p = p} h) = continue_is scope.in_loop p h
  stmt_complete (return_nothing {scope = scope} {p = p} h) = nothing_is scope p h
  stmt_complete (return_value {scope = scope} {p = p} {e = e} {t = t} h fit) = value_is scope p e t (complete h) fit

  pub stmts_complete : {scope : Scope} {ss : written.Stmts} {ts : Stmts} → AreTypedStmts scope ss ts
      → check_stmts scope ss ≡ Ok ts
  stmts_complete no_more_stmts = refl
  stmts_complete (more_stmts {scope = scope} {s = s} {ss = ss} {t = t} {ts = ts} h i) =
      bind_is (check_stmt scope s) _ t _ (stmt_complete h)
      (bind_is (check_stmts (after scope s) ss) _ ts _ (stmts_complete i) refl)

  pub cases_complete : {scope : Scope} {k : IntType} {before : List Label} {cs : written.Cases} {rows : Cases}
      → AreTypedCases scope k before cs rows → check_cases scope (Some k) before cs ≡ Ok rows
  cases_complete no_more_cases = refl
  cases_complete
      (more_cases {scope = scope} {k = k} {before = before} {p = p} {l = l} {ss = ss} {cs = cs} {ts = ts} {rows = rows}
      h i j) =
      bind_is (check_label (Some k) before (is_last cs) p.at l) _ l _ (label_complete h p.at)
      (bind_is (check_stmts scope ss) _ ts _ (stmts_complete i)
      (bind_is (check_cases scope (Some k) (before ++ l ∷ []) cs) _ rows _ (cases_complete j) refl))
