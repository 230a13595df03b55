-- The walk over variables and statements answers a fault at a token, where the rule is broken.
use Rattle.std.proofs.Common.{◌≡◌, ℕ, List, [], ◌∷◌, ◌++◌, true, false, Option, Some, None, Ok, ◌∙◌, refl, ap, subst}
use Rattle.std.specs.Prelude.{◌||◌}
use Rattle.std.specs.List.{list_any}
use Rattle.ash_lex.specs.Tokens.{Meaning, number, sign, reserved}
use Rattle.ash_lex.specs.declared.signs.Sign.TheVariants as signs
use Rattle.ash_lex.specs.declared.words.ReservedWord.TheVariants as words
use Rattle.ash_tree.specs.Tree as written
use Rattle.ash_tree.specs.GrammarTokens.{Tokens}
use Rattle.ash_tree.specs.declared.tree.places.Position as place
use Rattle.ash_tree.specs.declared.tree.statements.Label.{Label}
use Rattle.ash_tree.specs.declared.tree.statements.Label.TheVariants as labels
use Rattle.ash_integers.specs.declared.int_type.IntType.{IntType}
use Rattle.ash_type_rules.specs.declared.types.Ty.{Ty}
use Rattle.ash_typed.specs.StatementTree.{Stmt, Head}
use Rattle.ash_type_rules.specs.TypingResult.{TypingResult}
use Rattle.ash_type_rules.specs.Environment.{Environment, ClassSignature}
use Rattle.ash_type_rules.specs.ExpressionRules.{TypedExpr, check_expr, check_exprs, is_void}
use Rattle.ash_type_rules.specs.Switches.{integer_type_in, is_within, check_constant, check_label}
use Rattle.ash_type_rules.specs.Labels.{is_same_constant, is_last}
use Rattle.ash_type_rules.specs.Scopes.{Scope, block_of, loop_of, switch_of, after}
use Rattle.ash_type_rules.specs.StatementRules.{check_head, condition_is, check_if, check_if_else, check_while, check_do_while}
use Rattle.ash_type_rules.specs.StatementRules.{check_optional, maybe_condition_is, check_for, check_break, check_continue}
use Rattle.ash_type_rules.specs.StatementRules.{gives_nothing, returned, check_return, check_stmt, check_stmts, check_cases}
use Rattle.ash_type_rules.specs.FaultPlaces.{begins_constant}
use Rattle.ash_type_rules.specs.Coercions.{fits}
use Rattle.ash_type_rules.proofs.Bindings.{bind_ok}
use Rattle.ash_type_rules.proofs.FaultTokens.{HasToken, HasStart, MaybeIn, IsHeadForm, LabelIn, StmtIn, StmtsIn, CasesIn}
use Rattle.ash_type_rules.specs.Phrases as phrases
use Rattle.ash_type_rules.specs.Mismatches as mismatches
use Rattle.ash_type_rules.specs.Mismatches.{may_be_bool}
use Rattle.ash_type_rules.specs.FaultMeaning as meaning
use Rattle.ash_type_rules.specs.FaultMeaning.{argument_count}
use Rattle.ash_type_rules.proofs.FaultAnswers.{Script, OccursIn, Mismatch, Answers, fine, faulty, Fine, At, bind, bind_by}
use Rattle.ash_type_rules.proofs.FaultAnswers.{either}
use Rattle.ash_type_rules.proofs.FaultOperations.{ListAt, coerced_for_assignment_in, integer_in, bool_in}
use Rattle.ash_type_rules.proofs.FaultExpressions.{typed_in, all_in}
use Rattle.ash_type_rules.proofs.FaultVariables.{vars_in}

-- statements, once their parts are walked

head_in : (script : Script) (scope : Scope) (s : written.Stmt) → IsHeadForm s → StmtIn script.tokens s
    → OccursIn script (phrases.Statement scope s) → Fine script (check_head scope s)
unfolding check_head
head_in script scope (written.Empty p) f h r = fine tt
head_in script scope (written.Declare p v) f h r = bind (vars_in script scope p v h.1 r) (λ values u. fine tt)
head_in script scope (written.Evaluate p e) f h r =
    bind (typed_in script scope.env false e h.1 (phrases.evaluated r)) (λ t u. fine tt)
head_in script scope _ f h r = absurd f

condition_in : (script : Script) (t : TypedExpr) → HasStart script.tokens t.at
    → (may_be_bool t.ty ≡ false → Mismatch script t.at) → Fine script (condition_is t)
condition_in script t h z = bool_in script t.at t.ty h z

-- a condition that is typed is no `bool`
abbrev pub Unconditional : Script → TypingResult TypedExpr → Type 0
Unconditional script condition = (t : TypedExpr) → condition ≡ Ok t → may_be_bool t.ty ≡ false → Mismatch script t.at

if_in : (script : Script) (line : ℕ) (condition : TypingResult TypedExpr) (inner : TypingResult Stmt) → At script condition
    → Fine script inner → Unconditional script condition → Fine script (check_if line condition inner)
unfolding check_if
if_in script line condition inner h k z =
    bind_by h (λ c a at. bind k (λ s u. bind (condition_in script c at (z c a)) (λ yes v. fine tt)))

if_else_in : (script : Script) (line : ℕ) (condition : TypingResult TypedExpr) (inner other : TypingResult Stmt)
    → At script condition → Fine script inner → Fine script other → Unconditional script condition
    → Fine script (check_if_else line condition inner other)
unfolding check_if_else
if_else_in script line condition inner other h k l z =
    bind_by h (λ c a at. bind k (λ s u. bind l (λ t w. bind (condition_in script c at (z c a)) (λ yes v. fine tt))))

while_in : (script : Script) (line : ℕ) (condition : TypingResult TypedExpr) (body : TypingResult Stmt)
    → At script condition
    → Fine script body → Unconditional script condition → Fine script (check_while line condition body)
unfolding check_while
while_in script line condition body h k z =
    bind_by h (λ c a at. bind k (λ s u. bind (condition_in script c at (z c a)) (λ yes v. fine tt)))

do_while_in : (script : Script) (line : ℕ) (body : TypingResult Stmt) (condition : TypingResult TypedExpr)
    → Fine script body
    → At script condition → Unconditional script condition → Fine script (check_do_while line body condition)
unfolding check_do_while
do_while_in script line body condition k h z =
    bind k (λ s u. bind_by h (λ c a at. bind (condition_in script c at (z c a)) (λ yes v. fine tt)))

-- the condition of a `for`, if it has one
abbrev pub MaybeAt : Tokens → Option TypedExpr → Type 0
MaybeAt script None = Unit {0}
MaybeAt script (Some t) = HasStart script t.at

maybe_in : (script : Script) (env : Environment) (e : Option written.Expr) → MaybeIn script.tokens e
    → ((c : written.Expr) → e ≡ Some c → OccursIn script (phrases.Expression env c))
    → Answers script (MaybeAt script.tokens) (check_optional env e)
maybe_in script env None h r = fine tt
maybe_in script env (Some e) h r = bind (typed_in script env false e h (r e refl)) (λ t k. fine k)

maybe_condition_in : (script : Script) (t : Option TypedExpr) → MaybeAt script.tokens t
    → ((c : TypedExpr) → t ≡ Some c → may_be_bool c.ty ≡ false → Mismatch script c.at) → Fine script (maybe_condition_is t)
maybe_condition_in script None h z = fine tt
maybe_condition_in script (Some t) h z = condition_in script t h (z t refl)

for_in : (script : Script) (line count : ℕ) (head : TypingResult Head) (condition : TypingResult (Option TypedExpr))
    (steps : TypingResult (List TypedExpr)) (body : TypingResult Stmt) → Fine script head
    → Answers script (MaybeAt script.tokens) condition → ListAt script count steps → Fine script body
    → ((c : TypedExpr) → condition ≡ Ok (Some c) → may_be_bool c.ty ≡ false → Mismatch script c.at)
    → Fine script (check_for line head condition steps body)
unfolding check_for
for_in script line count head condition steps body f h k l z =
    bind f (λ x u. bind_by h (λ c a at. bind k (λ ts all. bind l (λ s v.
    bind (maybe_condition_in script c at (λ t e b. z t (a ∙ ap (λ (m : Option TypedExpr). Ok m) e) b)) (λ yes w.
    fine tt)))))

break_in : (script : Script) (scope : Scope) (p : place.Position) → HasToken script.tokens (reserved words.Break) p.at
    → OccursIn script (phrases.Statement scope (written.Break p))
    → Fine script (check_break (scope.in_loop || scope.in_switch) p)
unfolding check_break
break_in script scope p h r =
    either (scope.in_loop || scope.in_switch) (λ b. fine tt)
    (λ b. faulty (reserved words.Break, h, refl, meaning.no_loop_to_leave r b))

continue_in : (script : Script) (scope : Scope) (p : place.Position)
    → HasToken script.tokens (reserved words.Continue) p.at
    → OccursIn script (phrases.Statement scope (written.Continue p)) → Fine script (check_continue scope.in_loop p)
unfolding check_continue
continue_in script scope p h r =
    either scope.in_loop (λ b. fine tt) (λ b. faulty (reserved words.Continue, h, refl, meaning.no_loop r b))

returned_in : (script : Script) (classes : List ClassSignature) (of : Ty) (at : ℕ) (t : TypedExpr)
    → HasToken script.tokens (reserved words.Return) at → HasStart script.tokens t.at
    → (is_void of ≡ true → Mismatch script at) → (fits classes of t.ty ≡ false → Mismatch script t.at)
    → Fine script (returned classes of at t)
unfolding returned
returned_in script classes of at t h k y z =
    either (is_void of) (λ b. faulty (reserved words.Return, h, refl, meaning.mismatch (y b)))
    (λ b. coerced_for_assignment_in script classes of t k z)

return_in : (script : Script) (scope : Scope) (p : place.Position) (e : Option written.Expr)
    → HasToken script.tokens (reserved words.Return) p.at → MaybeIn script.tokens e
    → OccursIn script (phrases.Statement scope (written.Return p e)) → Fine script (check_return scope p e)
unfolding check_return
return_in script scope p None h k r =
    either (gives_nothing scope.result) (λ b. fine tt)
    (λ b. faulty (reserved words.Return, h, refl, meaning.mismatch (mismatches.returned_nothing r b)))
return_in script scope p (Some e) h k r =
    bind_by (typed_in script scope.env false e k (phrases.returned r)) (λ t a l.
    bind (returned_in script scope.env.declarations.classes scope.result p.at t h l (λ b. mismatches.returned_value r b)
    (λ b. mismatches.returned r a b))
    (λ value u. fine tt))

-- labels, each with the statements after it and the other labels
abbrev pub AtLabel : Script → Scope → Option IntType → List Label → place.Position → Label → written.Stmts → written.Cases
    → Type 0
AtLabel script scope int_type before p l ss cs =
    OccursIn script (phrases.Cases scope int_type before (written.next_case (written.labelled p l ss) cs))

constant_in : (script : Script) (scope : Scope) (int_type : Option IntType) (before : List Label) (p : place.Position)
    (l : Label) (ss : written.Stmts) (cs : written.Cases) (m : Meaning) → HasToken script.tokens m p.at
    → begins_constant m ≡ true → AtLabel script scope int_type before p l ss cs
    → Fine script (check_constant int_type before p.at l)
unfolding check_constant
constant_in script scope int_type before p l ss cs m h k r =
    either (is_within int_type l)
    (λ a. either (list_any (is_same_constant l) before) (λ b. faulty (m, h, k, meaning.duplicate r b)) (λ b. fine tt))
    (λ a. faulty (m, h, k, meaning.out_of_range r a))

label_in : (script : Script) (scope : Scope) (int_type : Option IntType) (before : List Label) (p : place.Position)
    (l : Label) (ss : written.Stmts) (cs : written.Cases) → LabelIn script.tokens p l
    → AtLabel script scope int_type before p l ss cs
    → Fine script (check_label int_type before (is_last cs) p.at l)
unfolding check_label
label_in script scope int_type before p (labels.Case n) ss cs h r =
    constant_in script scope int_type before p (labels.Case n) ss cs (number n) h refl r
label_in script scope int_type before p (labels.CaseMinus n) ss cs h r =
    constant_in script scope int_type before p (labels.CaseMinus n) ss cs (sign signs.Minus) h refl r
label_in script scope int_type before p labels.Default ss cs h r =
    either (is_last cs) (λ b. fine tt) (λ b. faulty (reserved words.Default, h, refl, meaning.early_default r b))

-- the condition of a `for`, where it has one
for_condition : (script : Script) (scope : Scope) (p : place.Position) (f s : written.Stmt) (c : Option written.Expr)
    (es : List written.Expr) → OccursIn script (phrases.Statement scope (written.For p f c es s)) → (e : written.Expr)
    → c ≡ Some e → OccursIn script (phrases.Expression (after (block_of scope) f).env e)
for_condition script scope p f s c es r e q =
    phrases.for_condition (subst (λ x. OccursIn script (phrases.Statement scope (written.For p f x es s))) q r)

-- what is typed, where the condition of a `for` is
abbrev pub TypedBy : Environment → Option written.Expr → TypedExpr → Type 0
TypedBy env c t = (e : written.Expr) × (c ≡ Some e) × (check_expr env false e ≡ Ok t)

none_is_not_some : (t : TypedExpr) → ◌≡◌ {A = TypingResult (Option TypedExpr)} (Ok None) (Ok (Some t)) → ⊥
none_is_not_some t h = cc

same_tree : (t u : TypedExpr) → ◌≡◌ {A = TypingResult (Option TypedExpr)} (Ok (Some t)) (Ok (Some u)) → t ≡ u
same_tree t u h = cc

typed_by : (env : Environment) (c : Option written.Expr) (t : TypedExpr) → check_optional env c ≡ Ok (Some t) → TypedBy env c t
typed_by env None t h = absurd (none_is_not_some t h)
typed_by env (Some e) t h =
    let u = bind_ok (check_expr env false e) (λ (x : TypedExpr). Ok (Some x)) (Some t) h in
    (e, refl, u.1 ∙ ap (λ (x : TypedExpr). Ok x) (same_tree u.0 t u.2))

for_unconditional : (script : Script) (scope : Scope) (p : place.Position) (f s : written.Stmt) (c : Option written.Expr)
    (es : List written.Expr) (t : TypedExpr) → OccursIn script (phrases.Statement scope (written.For p f c es s))
    → TypedBy (after (block_of scope) f).env c t → may_be_bool t.ty ≡ false → Mismatch script t.at
for_unconditional script scope p f s c es t r h b =
    mismatches.for_condition (subst (λ x. OccursIn script (phrases.Statement scope (written.For p f x es s))) h.1 r) h.2
    b

-- the walk

mutual
  stmt_in : (script : Script) (scope : Scope) (s : written.Stmt) → StmtIn script.tokens s
      → OccursIn script (phrases.Statement scope s) → Fine script (check_stmt scope s)
  stmt_in script scope (written.Empty p) h r = fine tt
  stmt_in script scope (written.Declare p v) h r = bind (vars_in script scope p v h.1 r) (λ values u. fine tt)
  stmt_in script scope (written.Evaluate p e) h r =
      bind (typed_in script scope.env false e h.1 (phrases.evaluated r)) (λ t u. fine tt)
  stmt_in script scope (written.Block p ss) h r =
      bind (stmts_in script (block_of scope) ss h.1 (phrases.block r)) (λ body u. fine tt)
  stmt_in script scope (written.If p c s) h r =
      if_in script p.line (check_expr scope.env false c) (check_stmt scope s)
      (typed_in script scope.env false c h.1 (phrases.if_condition r))
      (stmt_in script scope s h.2 (phrases.if_body r)) (λ t a b. mismatches.condition r refl a b)
  stmt_in script scope (written.IfElse p c s t) h r =
      if_else_in script p.line (check_expr scope.env false c) (check_stmt scope s) (check_stmt scope t)
      (typed_in script scope.env false c h.1 (phrases.else_condition r))
      (stmt_in script scope s h.2 (phrases.then_body r)) (stmt_in script scope t h.3 (phrases.else_body r)) (λ t a b.
      mismatches.condition r refl a b)
  stmt_in script scope (written.While p c s) h r =
      while_in script p.line (check_expr scope.env false c) (check_stmt (loop_of scope) s)
      (typed_in script scope.env false c h.1 (phrases.while_condition r))
      (stmt_in script (loop_of scope) s h.2 (phrases.while_body r)) (λ t a b. mismatches.condition r refl a b)
  stmt_in script scope (written.DoWhile p s c) h r =
      do_while_in script p.line (check_stmt (loop_of scope) s) (check_expr scope.env false c)
      (stmt_in script (loop_of scope) s h.1 (phrases.do_body r))
      (typed_in script scope.env false c h.2 (phrases.do_condition r)) (λ t a b. mismatches.condition r refl a b)
  stmt_in script scope (written.For p f c es s) h r =
      let inside = after (block_of scope) f in
      for_in script p.line (argument_count (written.exprs es)) (check_head (block_of scope) f)
      (check_optional inside.env c) (check_exprs inside.env (written.exprs es)) (check_stmt (loop_of inside) s)
      (head_in script (block_of scope) f h.1 h.2 (phrases.for_head r))
      (maybe_in script inside.env c h.3 (for_condition script scope p f s c es r))
      (all_in script inside.env (written.exprs es) h.4 (phrases.for_steps r))
      (stmt_in script (loop_of inside) s h.5 (phrases.for_body r)) (λ t a b.
      for_unconditional script scope p f s c es t r (typed_by inside.env c t a) b)
  stmt_in script scope (written.Switch p e cs) h r =
      bind_by (typed_in script scope.env false e h.1 (phrases.switch_value r)) (λ v q k.
      bind (cases_in script (switch_of scope) (integer_type_in v.ty) [] cs h.2 (phrases.cases r q)) (λ rows u.
      bind (integer_in script v.at v.ty k (λ b. mismatches.switch_value r q b)) (λ int_type w. fine tt)))
  stmt_in script scope (written.Break p) h r = break_in script scope p h r
  stmt_in script scope (written.Continue p) h r = continue_in script scope p h r
  stmt_in script scope (written.Return p e) h r = return_in script scope p e h.0 h.1 r

  pub stmts_in : (script : Script) (scope : Scope) (ss : written.Stmts) → StmtsIn script.tokens ss
      → OccursIn script (phrases.Statements scope ss) → Fine script (check_stmts scope ss)
  stmts_in script scope written.no_stmt h r = fine tt
  stmts_in script scope (written.stmt s ss) h r =
      bind (stmt_in script scope s h.0 (phrases.statement r)) (λ t u.
      bind (stmts_in script (after scope s) ss h.1 (phrases.other_statements r)) (λ ts v. fine tt))

  cases_in : (script : Script) (scope : Scope) (int_type : Option IntType) (before : List Label) (cs : written.Cases)
      → CasesIn script.tokens cs → OccursIn script (phrases.Cases scope int_type before cs)
      → Fine script (check_cases scope int_type before cs)
  cases_in script scope int_type before written.no_case h r = fine tt
  cases_in script scope int_type before (written.next_case (written.labelled p l ss) cs) h r =
      bind (label_in script scope int_type before p l ss cs (h.0).0 r) (λ label u.
      bind (stmts_in script scope ss (h.0).1 (phrases.labelled r)) (λ body v.
      bind (cases_in script scope int_type (before ++ l ∷ []) cs h.1 (phrases.other_cases r)) (λ rest w. fine tt)))
