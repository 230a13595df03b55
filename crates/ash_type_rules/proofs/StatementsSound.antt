-- What the walk of statements types has that typed tree by the rules.
use Rattle.std.proofs.Common.{◌≡◌, ℕ, List, [], ◌∷◌, ◌++◌, map, Bool, true, false, ◌||◌, Option, Some, None, option_map}
use Rattle.std.proofs.Common.{Ok, refl, sym, ◌∙◌, ap, subst}
use Rattle.std.specs.List.{list_any}
use Rattle.ash_tree.specs.declared.tree.statements.Label.{Label}
use Rattle.ash_tree.specs.declared.tree.statements.Label.TheVariants as labels
use Rattle.ash_tree.specs.declared.tree.places.Position.{Position}
use Rattle.ash_tree.specs.Tree as written
use Rattle.ash_integers.specs.declared.int_type.IntType.{IntType}
use Rattle.ash_type_rules.specs.declared.types.Ty.{Ty}
use Rattle.ash_type_rules.specs.declared.types.Ty.TheVariants as ty
use Rattle.ash_type_rules.specs.Coercions.{fits}
use Rattle.ash_type_rules.specs.TypingResult.{TypingResult}
use Rattle.ash_typed.specs.declared.tree.statements.Test.TheVariants.{First, Last}
use Rattle.ash_typed.specs.TypedTree.{Expr}
use Rattle.ash_typed.specs.StatementTree.{Stmt, If, no_branch, branch, Head, Repeat, For}
use Rattle.ash_typed.specs.StatementTree.{repeated, Return, Stmts, labelled, Cases, next_case}
use Rattle.ash_type_rules.specs.Environment.{ClassSignature}
use Rattle.ash_type_rules.specs.ExpressionRules.{TypedExpr, check_expr, check_exprs, integer_of, is_void, term_of}
use Rattle.ash_type_rules.specs.Typing.{IsKnownType}
use Rattle.ash_type_rules.specs.Returning.{is_default}
use Rattle.ash_type_rules.specs.Switches.{integer_type_in, is_within, check_constant, check_label}
use Rattle.ash_type_rules.specs.StatementRules.{check_vars, condition_is, check_if, check_if_else}
use Rattle.ash_type_rules.specs.StatementRules.{check_while, check_do_while, check_optional, maybe_condition_is, tree_of}
use Rattle.ash_type_rules.specs.StatementRules.{check_head, check_for, check_break, check_continue, gives_nothing, returned}
use Rattle.ash_type_rules.specs.StatementRules.{check_return, check_stmt, check_stmts, check_cases}
use Rattle.ash_type_rules.specs.TypedStatements.{IsKnownScope, IsTypedLabel, constant, otherwise, IsTypedStmt, empty}
use Rattle.ash_type_rules.specs.TypedStatements.{evaluate, block, if_only, if_else, while_loop, do_loop, for_loop}
use Rattle.ash_type_rules.specs.TypedStatements.{switch, break_out, continue_on, return_nothing, return_value, AreTypedStmts}
use Rattle.ash_type_rules.specs.TypedStatements.{no_more_stmts, more_stmts, AreTypedCases, no_more_cases, more_cases}
use Rattle.ash_type_rules.proofs.Bindings.{no_err, ok_is, bind_ok, if_ok}
use Rattle.ash_type_rules.proofs.TypingKnown.{known_type}
use Rattle.ash_type_rules.proofs.TypingSound.{sound}
use Rattle.ash_type_rules.proofs.TypingSoundCalls.{coerced_for_assignment_ok}
use Rattle.ash_type_rules.proofs.StatementsComplete.{trees_of}
use Rattle.ash_type_rules.specs.Terms.{converted_to}
use Rattle.ash_type_rules.specs.Labels.{holds_label, is_same_constant, is_last}
use Rattle.ash_type_rules.specs.Scopes.{Scope, after, block_of, loop_of, switch_of}
use Rattle.ash_type_rules.proofs.StatementPartsSound.{block_known, loop_known, switch_known, known_after, head_known}
use Rattle.ash_type_rules.proofs.StatementPartsSound.{vars_sound, head_sound, integer_sound, condition_sound, maybe_sound}
use Rattle.ash_type_rules.proofs.StatementPartsSound.{steps_sound}

-- statements, taken apart

if_parts : {P : Type 0} (line : ℕ) (o : TypingResult TypedExpr) (b : TypingResult Stmt) (r : Stmt)
    → check_if line o b ≡ Ok r
    → ((c : TypedExpr) (s : Stmt) (fit : Bool) → o ≡ Ok c → b ≡ Ok s → condition_is c ≡ Ok fit
    → If line c.tree s no_branch ≡ r → P) → P
unfolding check_if
if_parts line o b r h k =
    let c = bind_ok o _ r h in
    let s = bind_ok b _ r c.2 in
    let y = bind_ok (condition_is c.0) _ r s.2 in
    k c.0 s.0 y.0 c.1 s.1 y.1 (ok_is _ r y.2)

if_else_parts : {P : Type 0} (line : ℕ) (o : TypingResult TypedExpr) (b e : TypingResult Stmt) (r : Stmt)
    → check_if_else line o b e ≡ Ok r
    → ((c : TypedExpr) (s t : Stmt) (fit : Bool) → o ≡ Ok c → b ≡ Ok s → e ≡ Ok t → condition_is c ≡ Ok fit
    → If line c.tree s (branch t) ≡ r → P) → P
unfolding check_if_else
if_else_parts line o b e r h k =
    let c = bind_ok o _ r h in
    let s = bind_ok b _ r c.2 in
    let t = bind_ok e _ r s.2 in
    let y = bind_ok (condition_is c.0) _ r t.2 in
    k c.0 s.0 t.0 y.0 c.1 s.1 t.1 y.1 (ok_is _ r y.2)

while_parts : {P : Type 0} (line : ℕ) (o : TypingResult TypedExpr) (b : TypingResult Stmt) (r : Stmt)
    → check_while line o b ≡ Ok r
    → ((c : TypedExpr) (s : Stmt) (fit : Bool) → o ≡ Ok c → b ≡ Ok s → condition_is c ≡ Ok fit
    → Repeat line (repeated First (Some c.tree) [] s) ≡ r → P) → P
unfolding check_while
while_parts line o b r h k =
    let c = bind_ok o _ r h in
    let s = bind_ok b _ r c.2 in
    let y = bind_ok (condition_is c.0) _ r s.2 in
    k c.0 s.0 y.0 c.1 s.1 y.1 (ok_is _ r y.2)

do_parts : {P : Type 0} (line : ℕ) (b : TypingResult Stmt) (o : TypingResult TypedExpr) (r : Stmt)
    → check_do_while line b o ≡ Ok r
    → ((s : Stmt) (c : TypedExpr) (fit : Bool) → b ≡ Ok s → o ≡ Ok c → condition_is c ≡ Ok fit
    → Repeat line (repeated Last (Some c.tree) [] s) ≡ r → P) → P
unfolding check_do_while
do_parts line b o r h k =
    let s = bind_ok b _ r h in
    let c = bind_ok o _ r s.2 in
    let y = bind_ok (condition_is c.0) _ r c.2 in
    k s.0 c.0 y.0 s.1 c.1 y.1 (ok_is _ r y.2)

for_parts : {P : Type 0} (line : ℕ) (f : TypingResult Head) (o : TypingResult (Option TypedExpr)) (es : TypingResult (List TypedExpr))
    (b : TypingResult Stmt) (r : Stmt) → check_for line f o es b ≡ Ok r
    → ((g : Head) (c : Option TypedExpr) (ts : List TypedExpr) (s : Stmt) (fit : Bool) → f ≡ Ok g → o ≡ Ok c → es ≡ Ok ts
    → b ≡ Ok s → maybe_condition_is c ≡ Ok fit
    → For line g (repeated First (option_map tree_of c) (map tree_of ts) s) ≡ r → P) → P
unfolding check_for
for_parts line f o es b r h k =
    let g = bind_ok f _ r h in
    let c = bind_ok o _ r g.2 in
    let ts = bind_ok es _ r c.2 in
    let s = bind_ok b _ r ts.2 in
    let y = bind_ok (maybe_condition_is c.0) _ r s.2 in
    k g.0 c.0 ts.0 s.0 y.0 g.1 c.1 ts.1 s.1 y.1 (ok_is _ r y.2)

break_sound : (scope : Scope) (p : Position) (t : Stmt) → check_break (scope.in_loop || scope.in_switch) p ≡ Ok t
    → IsTypedStmt scope (written.Break p) t
unfolding check_break
break_sound scope p t h =
    if_ok (scope.in_loop || scope.in_switch) _ _ (Ok t) h
    (λ b e. subst (IsTypedStmt scope (written.Break p)) (ok_is _ t e) (break_out b)) (λ b e. absurd (no_err _ t e))

continue_sound : (scope : Scope) (p : Position) (t : Stmt) → check_continue scope.in_loop p ≡ Ok t
    → IsTypedStmt scope (written.Continue p) t
unfolding check_continue
continue_sound scope p t h =
    if_ok scope.in_loop _ _ (Ok t) h (λ b e. subst (IsTypedStmt scope (written.Continue p)) (ok_is _ t e) (continue_on b))
    (λ b e. absurd (no_err _ t e))

nothing_returned : (of : Ty) → IsKnownType of → gives_nothing of ≡ true → of ≡ ty.Void
nothing_returned ty.Void k h = refl
nothing_returned ty.Unknown k h = absurd (cc)
nothing_returned _ k h = absurd (cc)

returned_sound : (classes : List ClassSignature) (of : Ty) (at : ℕ) (t : TypedExpr) (e : Expr) → returned classes of at t ≡ Ok e
    → (fits classes of t.ty ≡ true) × (converted_to of (term_of t) ≡ e)
unfolding returned
returned_sound classes of at t e h =
    if_ok (is_void of) _ _ (Ok e) h (λ b k. absurd (no_err _ e k)) (λ b k. coerced_for_assignment_ok classes of t e k)

return_sound : (scope : Scope) → IsKnownScope scope → (p : Position) (e : Option written.Expr) (t : Stmt)
    → check_return scope p e ≡ Ok t → IsTypedStmt scope (written.Return p e) t
unfolding check_return
return_sound scope k p None t h =
    if_ok (gives_nothing scope.result) _ _ (Ok t) h
    (λ b e. subst (IsTypedStmt scope (written.Return p None)) (ok_is _ t e)
    (return_nothing (nothing_returned scope.result k.result b)))
    (λ b e. absurd (no_err _ t e))
return_sound scope k p (Some e) t h =
    let v = bind_ok (check_expr scope.env false e) _ t h in
    let r = bind_ok (returned scope.env.declarations.classes scope.result p.at v.0) _ t v.2 in
    let s = returned_sound scope.env.declarations.classes scope.result p.at v.0 r.0 r.1 in
    subst (IsTypedStmt scope (written.Return p (Some e))) (ap (λ (x : Expr). Return p.line (Some x)) s.1 ∙ ok_is _ t r.2)
    (return_value (sound scope.env k.env false e v.0 v.1) s.0)

-- labels

constant_sound : (k : IntType) (before : List Label) (last : Bool) (at : ℕ) (l r : Label) → is_default l ≡ false
    → check_constant (Some k) before at l ≡ Ok r → IsTypedLabel k before last l × (r ≡ l)
unfolding check_constant is_within
constant_sound k before last at l r d h = if_ok (holds_label k l) _ _ (Ok r) h
    (λ b e. if_ok (list_any (is_same_constant l) before) _ _ (Ok r) e
    (λ c f. absurd (no_err _ r f))
    (λ c f. (constant d b c, sym (ok_is l r f))))
    (λ b e. absurd (no_err _ r e))

label_sound : (k : IntType) (before : List Label) (last : Bool) (at : ℕ) (l r : Label)
    → check_label (Some k) before last at l ≡ Ok r → IsTypedLabel k before last l × (r ≡ l)
unfolding check_label
label_sound k before true at labels.Default r h = (otherwise, sym (ok_is _ r h))
label_sound k before false at labels.Default r h = absurd (no_err _ r h)
label_sound k before last at (labels.Case n) r h = constant_sound k before last at (labels.Case n) r refl h
label_sound k before last at (labels.CaseMinus n) r h = constant_sound k before last at (labels.CaseMinus n) r refl h

integer_type_found : (of : Ty) (k : IntType) → of ≡ ty.Integer k → integer_type_in of ≡ Some k
integer_type_found of k h = rw h refl

-- statements

mutual
  pub stmt_sound : (scope : Scope) → IsKnownScope scope → (s : written.Stmt) (t : Stmt) → check_stmt scope s ≡ Ok t
      → IsTypedStmt scope s t
  stmt_sound scope k (written.Empty p) t h = subst (IsTypedStmt scope (written.Empty p)) (ok_is _ t h) empty
  stmt_sound scope k (written.Declare p v) t h =
      let values = bind_ok (check_vars scope v) _ t h in
      subst (IsTypedStmt scope (written.Declare p v)) (ok_is _ t values.2) (vars_sound scope k p v values.0 values.1)
  stmt_sound scope k (written.Evaluate p e) t h =
      let v = bind_ok (check_expr scope.env false e) _ t h in
      subst (IsTypedStmt scope (written.Evaluate p e)) (ok_is _ t v.2) (evaluate (sound scope.env k.env false e v.0 v.1))
  stmt_sound scope k (written.Block p ss) t h =
      let ts = bind_ok (check_stmts (block_of scope) ss) _ t h in
      subst (IsTypedStmt scope (written.Block p ss)) (ok_is _ t ts.2)
      (block (stmts_sound (block_of scope) (block_known scope k) ss ts.0 ts.1))
  stmt_sound scope k (written.If p c s) t h =
      if_parts p.line (check_expr scope.env false c) (check_stmt scope s) t h (λ v u fit e f g is.
      subst (IsTypedStmt scope (written.If p c s)) is
      (if_only (condition_sound scope.env k.env c v fit e g) (stmt_sound scope k s u f)))
  stmt_sound scope k (written.IfElse p c s r) t h =
      if_else_parts p.line (check_expr scope.env false c) (check_stmt scope s) (check_stmt scope r) t h
      (λ v u w fit e f i g is.
      subst (IsTypedStmt scope (written.IfElse p c s r)) is
      (if_else (condition_sound scope.env k.env c v fit e g) (stmt_sound scope k s u f) (stmt_sound scope k r w i)))
  stmt_sound scope k (written.While p c s) t h =
      while_parts p.line (check_expr scope.env false c) (check_stmt (loop_of scope) s) t h (λ v u fit e f g is.
      subst (IsTypedStmt scope (written.While p c s)) is
      (while_loop (condition_sound scope.env k.env c v fit e g)
      (stmt_sound (loop_of scope) (loop_known scope k) s u f)))
  stmt_sound scope k (written.DoWhile p s c) t h =
      do_parts p.line (check_stmt (loop_of scope) s) (check_expr scope.env false c) t h (λ u v fit f e g is.
      subst (IsTypedStmt scope (written.DoWhile p s c)) is
      (do_loop (stmt_sound (loop_of scope) (loop_known scope k) s u f)
      (condition_sound scope.env k.env c v fit e g)))
  stmt_sound scope k (written.For p f c es s) t h =
      let within = after (block_of scope) f in
      for_parts p.line (check_head (block_of scope) f) (check_optional within.env c)
      (check_exprs within.env (written.exprs es)) (check_stmt (loop_of within) s) t h (λ g v us u fit i e j l m is.
      let inner = head_known (block_of scope) f g (block_known scope k) i in
      subst (IsTypedStmt scope (written.For p f c es s))
      (ap (λ (trees : List Expr). For p.line g (repeated First (option_map tree_of v) trees u)) (sym (trees_of us))
      ∙ is)
      (for_loop (head_sound (block_of scope) (block_known scope k) f g i) (maybe_sound within.env inner.env c v fit e m)
      (steps_sound within.env inner.env es us j) (stmt_sound (loop_of within) (loop_known within inner) s u l)))
  stmt_sound scope k (written.Switch p e cs) t h =
      let v = bind_ok (check_expr scope.env false e) _ t h in
      let rows = bind_ok (check_cases (switch_of scope) (integer_type_in (v.0).ty) [] cs) _ t v.2 in
      let j = bind_ok (integer_of (v.0).at (v.0).ty) _ t rows.2 in
      let has = sound scope.env k.env false e v.0 v.1 in
      let is = integer_sound (v.0).at (v.0).ty j.0 (known_type has k.env) j.1 in
      subst (IsTypedStmt scope (written.Switch p e cs)) (ok_is _ t j.2)
      (switch has is
      (cases_sound (switch_of scope) (switch_known scope k) j.0 [] cs rows.0
      (subst (λ int_type. check_cases (switch_of scope) int_type [] cs ≡ Ok rows.0)
      (integer_type_found (v.0).ty j.0 is) rows.1)))
  stmt_sound scope k (written.Break p) t h = break_sound scope p t h
  stmt_sound scope k (written.Continue p) t h = continue_sound scope p t h
  stmt_sound scope k (written.Return p e) t h = return_sound scope k p e t h

  pub stmts_sound : (scope : Scope) → IsKnownScope scope → (ss : written.Stmts) (ts : Stmts)
      → check_stmts scope ss ≡ Ok ts → AreTypedStmts scope ss ts
  stmts_sound scope k written.no_stmt ts h = subst (AreTypedStmts scope written.no_stmt) (ok_is _ ts h) no_more_stmts
  stmts_sound scope k (written.stmt s ss) ts h =
      let t = bind_ok (check_stmt scope s) _ ts h in
      let r = bind_ok (check_stmts (after scope s) ss) _ ts t.2 in
      subst (AreTypedStmts scope (written.stmt s ss)) (ok_is _ ts r.2)
      (more_stmts (stmt_sound scope k s t.0 t.1)
      (stmts_sound (after scope s) (known_after scope s t.0 k t.1) ss r.0 r.1))

  pub cases_sound : (scope : Scope) → IsKnownScope scope
      → (k : IntType) (before : List Label) (cs : written.Cases) (rows : Cases)
      → check_cases scope (Some k) before cs ≡ Ok rows → AreTypedCases scope k before cs rows
  cases_sound scope known k before written.no_case rows h =
      subst (AreTypedCases scope k before written.no_case) (ok_is _ rows h) no_more_cases
  cases_sound scope known k before (written.next_case (written.labelled p l ss) cs) rows h =
      let label = bind_ok (check_label (Some k) before (is_last cs) p.at l) _ rows h in
      let body = bind_ok (check_stmts scope ss) _ rows label.2 in
      let rest = bind_ok (check_cases scope (Some k) (before ++ l ∷ []) cs) _ rows body.2 in
      let is = label_sound k before (is_last cs) p.at l label.0 label.1 in
      subst (AreTypedCases scope k before (written.next_case (written.labelled p l ss) cs))
      (ap (λ (x : Label). next_case (labelled x body.0) rest.0) (sym is.1) ∙ ok_is _ rows rest.2)
      (more_cases is.0 (stmts_sound scope known ss body.0 body.1)
      (cases_sound scope known k (before ++ l ∷ []) cs rest.0 rest.1))
