-- What is read of types, declarations of variables and statements is in the grammar.
use Rattle.std.proofs.Common.{◌≡◌, ℕ, zero, suc, ◌+◌, List, [], ◌∷◌, true, false, cond, Some, None, Ok, Err, refl, sym, subst, ◌∙◌, length, arith}
use Rattle.ash_lex.specs.Tokens.{Meaning, name, number, sign, reserved, unsupported}
use Rattle.ash_lex.specs.declared.signs.Sign.TheVariants as signs
use Rattle.ash_lex.specs.declared.words.ReservedWord.TheVariants as words
use Rattle.ash_tree.specs.declared.tree.places.Position.{Position}
use Rattle.ash_tree.specs.declared.tree.statements.Label.{Label}
use Rattle.ash_tree.specs.declared.tree.statements.Label.TheVariants as labels
use Rattle.ash_tree.specs.Tree.{Prim, Expr, Initializer, Default, Value, Arguments, Decl, Vars, Stmt, Empty, Declare, Evaluate, Block, If, IfElse, While, DoWhile, For, Switch, Break, Continue, Return, Case, labelled, place_of, place_of_type, stmts, cases}
use Rattle.ash_tree.specs.GrammarTokens.{Tokens}
use Rattle.ash_tree.specs.Expressions.{IsInner, AreExprs, IsAssign}
use Rattle.ash_tree.specs.Statements.{IsDecl, bare, valued, made, AreMoreDecls, no_more_decls, more_decls, IsVars, vars, IsFirst, no_first, first_vars, first_expr, IsTest, no_test, test, IsResult, no_result, value, IsLabel, case, case_minus, default, is_open, IsNested, nested, AreLocals, no_locals, local_vars, local_stmt, IsBlock, block, IsStmt, inner_block, empty, evaluate, if_only, if_else, while, do_while, for, switch, break, continue, return, AreCases, no_cases, more_cases, AreStmts, no_stmts, more_stmts}
use Rattle.ash_parse.specs.declared.stmt_tokens.StmtToken.{StmtToken}
use Rattle.ash_parse.specs.declared.stmt_tokens.StmtToken.TheVariants as stmt_tokens
use Rattle.ash_parse.specs.Readers.{Unexpected, TooDeep, ◌>>=◌, put, next_is, next_is_sign, expect_at, name_at}
use Rattle.ash_parse.specs.ExpressionReader.{Below, arguments_with, bracketed_with, exprs_with, assign_with, below_at}
use Rattle.ash_parse.specs.StatementReader.{Nested, type_at, is_vars, initializer_with, decl_with, next_decl_with, more_decls_with, decls_with, vars_with, vars_statement_with, first_with, test_with, return_value_with, stmt_token, begins_stmt, stmt_limit_at, goes_on, case_goes_on, evaluate_with, is_else, else_with, if_with, while_with, is_while, while_at, do_with, for_with, number_at, case_value_at, label_by, label_at, stmts_with, case_with, cases_with, switch_with, local_with, locals_with, block_with, stmt_by, stmt_with, nested_at}
use Rattle.ash_parse.proofs.Readings.{no_err, bind_ok, at_pair, if_elim, put_ok, Finds, repeat_sound, expect_sound, name_sound}
use Rattle.ash_parse.proofs.Types.{ends_in, type_sound}
use Rattle.ash_parse.proofs.ExpressionSound.{IsPart, args_sound, bracketed_sound, exprs_sound, assign_sound, whole_sound, part_sound}

-- a statement before an `else` is not one that the `else` could belong to
abbrev pub Closes : Stmt → Tokens → Type 0
Closes s left = next_is (λ m. is_else (stmt_token m)) left ≡ true → is_open s ≡ false

module _ (free depth : ℕ) (below : Below) (whole : Finds (below true) (IsInner free depth)) (part : Finds (below false) (IsPart free depth)) where
  -- a decl after its name
  Rest : Position → List ℕ → Tokens → Initializer → Tokens → Type 0
  Rest p t ts i left = IsDecl free depth ((name t, p) ∷ ts) (record { place = p; name = t; initializer = i }) left

  initializer_sound : (p : Position) (t : List ℕ) → Finds (initializer_with below) (Rest p t)
  unfolding initializer_with Rest
  initializer_sound p t ts x rest h =
      if_elim (next_is_sign signs.Assign ts) (expect_at signs.Assign ts >>= λ a. assign_with below a.1 >>= λ e. Ok (Value e.0, e.1)) (cond (next_is_sign signs.OpenParenthesis ts) (arguments_with below ts >>= λ es. Ok (Arguments es.0, es.1)) (Ok (Default, ts))) (Ok (x, rest)) (Rest p t ts x rest) h
      (λ b k. let a = bind_ok (expect_at signs.Assign ts) (λ a. assign_with below a.1 >>= λ e. Ok (Value e.0, e.1)) (x, rest) k in
      let e = bind_ok (assign_with below (a.0).1) (λ e. Ok (Value e.0, e.1)) (x, rest) a.2 in
      at_pair (λ y r. Rest p t ts y r) (Value (e.0).0) (e.0).1 x rest e.2
      (expect_sound signs.Assign ts (a.0).0 (a.0).1 (λ r. Rest p t r (Value (e.0).0) (e.0).1) a.1 (valued (assign_sound free depth below whole part (a.0).1 (e.0).0 (e.0).1 e.1))))
      (λ b k. if_elim (next_is_sign signs.OpenParenthesis ts) (arguments_with below ts >>= λ es. Ok (Arguments es.0, es.1)) (Ok (Default, ts)) (Ok (x, rest)) (Rest p t ts x rest) k
      (λ c l. let a = bind_ok (arguments_with below ts) (λ es. Ok (Arguments es.0, es.1)) (x, rest) l in
      at_pair (λ y r. Rest p t ts y r) (Arguments (a.0).0) (a.0).1 x rest a.2 (made (args_sound free depth below whole part ts (a.0).0 (a.0).1 a.1)))
      (λ c l. at_pair (λ y r. Rest p t ts y r) Default ts x rest l bare))

  pub decl_sound : Finds (decl_with below) (IsDecl free depth)
  unfolding decl_with Rest
  decl_sound ts x rest h =
      let n = bind_ok (name_at ts) (λ n. initializer_with below n.1 >>= λ i. Ok (record { place = (n.0).1; name = (n.0).0; initializer = i.0 }, i.1)) (x, rest) h in
      let i = bind_ok (initializer_with below (n.0).1) (λ i. Ok (record { place = ((n.0).0).1; name = ((n.0).0).0; initializer = i.0 }, i.1)) (x, rest) n.2 in
      at_pair (λ y r. IsDecl free depth ts y r) (record { place = ((n.0).0).1; name = ((n.0).0).0; initializer = (i.0).0 }) (i.0).1 x rest i.2
      (name_sound ts (n.0).0 (n.0).1 (λ r. IsDecl free depth r (record { place = ((n.0).0).1; name = ((n.0).0).0; initializer = (i.0).0 }) (i.0).1) n.1 (initializer_sound ((n.0).0).1 ((n.0).0).0 (n.0).1 (i.0).0 (i.0).1 i.1))

  pub grow_decls : (from after left : Tokens) (x : Decl) (xs : List Decl) → next_decl_with below from ≡ Ok (x, after) → AreMoreDecls free depth after xs left → AreMoreDecls free depth from (x ∷ xs) left
  unfolding next_decl_with
  grow_decls from after left x xs h more =
      let c = bind_ok (expect_at signs.Comma from) (λ comma. decl_with below comma.1) (x, after) h in
      expect_sound signs.Comma from (c.0).0 (c.0).1 (λ r. AreMoreDecls free depth r (x ∷ xs) left) c.1 (more_decls (decl_sound (c.0).1 x after c.2) more)

  more_decls_sound : Finds (more_decls_with below) (AreMoreDecls free depth)
  unfolding more_decls_with
  more_decls_sound ts xs rest h = repeat_sound (next_is_sign signs.Comma) (next_decl_with below) (AreMoreDecls free depth) (λ s. no_more_decls) grow_decls (length ts) ts xs rest h

  pub vars_sound : Finds (vars_with below) (IsVars free depth)
  unfolding vars_with decls_with
  vars_sound ts x rest h =
      let t = bind_ok (type_at ts) (λ t. (decl_with below t.1 >>= λ d. put d.0 (more_decls_with below d.1)) >>= λ ds. Ok (record { of = t.0; decls = ds.0 }, ds.1)) (x, rest) h in
      let ds = bind_ok (decl_with below (t.0).1 >>= λ d. put d.0 (more_decls_with below d.1)) (λ ds. Ok (record { of = (t.0).0; decls = ds.0 }, ds.1)) (x, rest) t.2 in
      let d = bind_ok (decl_with below (t.0).1) (λ d. put d.0 (more_decls_with below d.1)) ((ds.0).0, (ds.0).1) ds.1 in
      at_pair (λ y r. IsVars free depth ts y r) (record { of = (t.0).0; decls = (ds.0).0 }) (ds.0).1 x rest ds.2
      (put_ok (d.0).0 (more_decls_with below (d.0).1) (ds.0).0 (ds.0).1 (λ ys r. IsVars free depth ts (record { of = (t.0).0; decls = ys }) r) d.2
      (λ ys left m. vars (type_sound ts (t.0).0 (t.0).1 t.1) (decl_sound (t.0).1 (d.0).0 (d.0).1 d.1) (more_decls_sound (d.0).1 ys left m)))

  pub declared_sound : (ts : Tokens) (x : Vars) (rest : Tokens) → vars_statement_with below ts ≡ Ok (x, rest) → (p : Position) × IsVars free depth ts x ((sign signs.Semicolon, p) ∷ rest)
  unfolding vars_statement_with
  declared_sound ts x rest h =
      let v = bind_ok (vars_with below ts) (λ v. expect_at signs.Semicolon v.1 >>= λ s. Ok (v.0, s.1)) (x, rest) h in
      let s = bind_ok (expect_at signs.Semicolon (v.0).1) (λ s. Ok ((v.0).0, s.1)) (x, rest) v.2 in
      at_pair (λ y r. (p : Position) × IsVars free depth ts y ((sign signs.Semicolon, p) ∷ r)) (v.0).0 (s.0).1 x rest s.2
      ((s.0).0, ends_in signs.Semicolon (v.0).1 (s.0).0 (s.0).1 (λ r. IsVars free depth ts (v.0).0 r) s.1 (vars_sound ts (v.0).0 (v.0).1 v.1))

  pub first_sound : Finds (first_with below) (IsFirst free depth)
  unfolding first_with
  first_sound ts x rest h =
      if_elim (next_is_sign signs.Semicolon ts) (expect_at signs.Semicolon ts >>= λ s. Ok (Empty s.0, s.1)) (cond (is_vars ts) (vars_statement_with below ts >>= λ v. Ok (Declare (place_of_type (v.0).of) v.0, v.1)) (below true ts >>= λ e. expect_at signs.Semicolon e.1 >>= λ s. Ok (Evaluate (place_of e.0) e.0, s.1))) (Ok (x, rest)) (IsFirst free depth ts x rest) h
      (λ b k. let s = bind_ok (expect_at signs.Semicolon ts) (λ s. Ok (Empty s.0, s.1)) (x, rest) k in
      at_pair (λ y r. IsFirst free depth ts y r) (Empty (s.0).0) (s.0).1 x rest s.2 (expect_sound signs.Semicolon ts (s.0).0 (s.0).1 (λ r. IsFirst free depth r (Empty (s.0).0) (s.0).1) s.1 no_first))
      (λ b k. if_elim (is_vars ts) (vars_statement_with below ts >>= λ v. Ok (Declare (place_of_type (v.0).of) v.0, v.1)) (below true ts >>= λ e. expect_at signs.Semicolon e.1 >>= λ s. Ok (Evaluate (place_of e.0) e.0, s.1)) (Ok (x, rest)) (IsFirst free depth ts x rest) k
      (λ c l. let v = bind_ok (vars_statement_with below ts) (λ v. Ok (Declare (place_of_type (v.0).of) v.0, v.1)) (x, rest) l in
      at_pair (λ y r. IsFirst free depth ts y r) (Declare (place_of_type ((v.0).0).of) (v.0).0) (v.0).1 x rest v.2 (first_vars (declared_sound ts (v.0).0 (v.0).1 v.1).1))
      (λ c l. let e = bind_ok (below true ts) (λ e. expect_at signs.Semicolon e.1 >>= λ s. Ok (Evaluate (place_of e.0) e.0, s.1)) (x, rest) l in
      let s = bind_ok (expect_at signs.Semicolon (e.0).1) (λ s. Ok (Evaluate (place_of (e.0).0) (e.0).0, s.1)) (x, rest) e.2 in
      at_pair (λ y r. IsFirst free depth ts y r) (Evaluate (place_of (e.0).0) (e.0).0) (s.0).1 x rest s.2 (first_expr (ends_in signs.Semicolon (e.0).1 (s.0).0 (s.0).1 (λ r. IsInner free depth ts (e.0).0 r) s.1 (whole ts (e.0).0 (e.0).1 e.1)))))

  pub test_sound : Finds (test_with below) (IsTest free depth)
  unfolding test_with
  test_sound ts x rest h =
      if_elim (next_is_sign signs.Semicolon ts) (expect_at signs.Semicolon ts >>= λ s. Ok (None, s.1)) (below true ts >>= λ e. expect_at signs.Semicolon e.1 >>= λ s. Ok (Some e.0, s.1)) (Ok (x, rest)) (IsTest free depth ts x rest) h
      (λ b k. let s = bind_ok (expect_at signs.Semicolon ts) (λ s. Ok (None, s.1)) (x, rest) k in
      at_pair (λ y r. IsTest free depth ts y r) None (s.0).1 x rest s.2 (expect_sound signs.Semicolon ts (s.0).0 (s.0).1 (λ r. IsTest free depth r None (s.0).1) s.1 no_test))
      (λ b l. let e = bind_ok (below true ts) (λ e. expect_at signs.Semicolon e.1 >>= λ s. Ok (Some e.0, s.1)) (x, rest) l in
      let s = bind_ok (expect_at signs.Semicolon (e.0).1) (λ s. Ok (Some (e.0).0, s.1)) (x, rest) e.2 in
      at_pair (λ y r. IsTest free depth ts y r) (Some (e.0).0) (s.0).1 x rest s.2 (test (ends_in signs.Semicolon (e.0).1 (s.0).0 (s.0).1 (λ r. IsInner free depth ts (e.0).0 r) s.1 (whole ts (e.0).0 (e.0).1 e.1))))

  pub result_sound : Finds (return_value_with below) (IsResult free depth)
  unfolding return_value_with
  result_sound ts x rest h =
      if_elim (next_is_sign signs.Semicolon ts) (expect_at signs.Semicolon ts >>= λ s. Ok (None, s.1)) (assign_with below ts >>= λ e. expect_at signs.Semicolon e.1 >>= λ s. Ok (Some e.0, s.1)) (Ok (x, rest)) (IsResult free depth ts x rest) h
      (λ b k. let s = bind_ok (expect_at signs.Semicolon ts) (λ s. Ok (None, s.1)) (x, rest) k in
      at_pair (λ y r. IsResult free depth ts y r) None (s.0).1 x rest s.2 (expect_sound signs.Semicolon ts (s.0).0 (s.0).1 (λ r. IsResult free depth r None (s.0).1) s.1 no_result))
      (λ b l. let e = bind_ok (assign_with below ts) (λ e. expect_at signs.Semicolon e.1 >>= λ s. Ok (Some e.0, s.1)) (x, rest) l in
      let s = bind_ok (expect_at signs.Semicolon (e.0).1) (λ s. Ok (Some (e.0).0, s.1)) (x, rest) e.2 in
      at_pair (λ y r. IsResult free depth ts y r) (Some (e.0).0) (s.0).1 x rest s.2 (value (ends_in signs.Semicolon (e.0).1 (s.0).0 (s.0).1 (λ r. IsAssign free depth ts (e.0).0 r) s.1 (assign_sound free depth below whole part ts (e.0).0 (e.0).1 e.1))))

  pub evaluate_sound : (ts : Tokens) (x : Stmt) (rest : Tokens) → evaluate_with below ts ≡ Ok (x, rest) → IsStmt free depth ts x rest × Closes x rest
  unfolding evaluate_with
  evaluate_sound ts x rest l =
      let e = bind_ok (assign_with below ts) (λ e. expect_at signs.Semicolon e.1 >>= λ s. Ok (Evaluate (place_of e.0) e.0, s.1)) (x, rest) l in
      let s = bind_ok (expect_at signs.Semicolon (e.0).1) (λ s. Ok (Evaluate (place_of (e.0).0) (e.0).0, s.1)) (x, rest) e.2 in
      at_pair (λ y r. IsStmt free depth ts y r × Closes y r) (Evaluate (place_of (e.0).0) (e.0).0) (s.0).1 x rest s.2 (evaluate (ends_in signs.Semicolon (e.0).1 (s.0).0 (s.0).1 (λ r. IsAssign free depth ts (e.0).0 r) s.1 (assign_sound free depth below whole part ts (e.0).0 (e.0).1 e.1)), λ w. refl)

-- the words and signs that lead a statement
abbrev pub Leads : StmtToken → Meaning → Type 0
Leads stmt_tokens.Block m = m ≡ sign signs.OpenBrace
Leads stmt_tokens.End m = m ≡ sign signs.CloseBrace
Leads stmt_tokens.Empty m = m ≡ sign signs.Semicolon
Leads stmt_tokens.If m = m ≡ reserved words.If
Leads stmt_tokens.Else m = m ≡ reserved words.Else
Leads stmt_tokens.While m = m ≡ reserved words.While
Leads stmt_tokens.Do m = m ≡ reserved words.Do
Leads stmt_tokens.For m = m ≡ reserved words.For
Leads stmt_tokens.Switch m = m ≡ reserved words.Switch
Leads stmt_tokens.Case m = m ≡ reserved words.Case
Leads stmt_tokens.Default m = m ≡ reserved words.Default
Leads stmt_tokens.Break m = m ≡ reserved words.Break
Leads stmt_tokens.Continue m = m ≡ reserved words.Continue
Leads stmt_tokens.Return m = m ≡ reserved words.Return
Leads stmt_tokens.Other m = Unit {0}

pub leads_to : (m : Meaning) → Leads (stmt_token m) m
unfolding stmt_token
leads_to (sign signs.OpenBrace) = refl
leads_to (sign signs.CloseBrace) = refl
leads_to (sign signs.Semicolon) = refl
leads_to (reserved words.If) = refl
leads_to (reserved words.Else) = refl
leads_to (reserved words.While) = refl
leads_to (reserved words.Do) = refl
leads_to (reserved words.For) = refl
leads_to (reserved words.Switch) = refl
leads_to (reserved words.Case) = refl
leads_to (reserved words.Default) = refl
leads_to (reserved words.Break) = refl
leads_to (reserved words.Continue) = refl
leads_to (reserved words.Return) = refl
leads_to _ = tt

pub while_leads : (l : StmtToken) (m : Meaning) → Leads l m → is_while l ≡ true → m ≡ reserved words.While
while_leads stmt_tokens.While m d h = d
while_leads stmt_tokens.Block m d h = cc
while_leads stmt_tokens.End m d h = cc
while_leads stmt_tokens.Empty m d h = cc
while_leads stmt_tokens.If m d h = cc
while_leads stmt_tokens.Else m d h = cc
while_leads stmt_tokens.Do m d h = cc
while_leads stmt_tokens.For m d h = cc
while_leads stmt_tokens.Switch m d h = cc
while_leads stmt_tokens.Case m d h = cc
while_leads stmt_tokens.Default m d h = cc
while_leads stmt_tokens.Break m d h = cc
while_leads stmt_tokens.Continue m d h = cc
while_leads stmt_tokens.Return m d h = cc
while_leads stmt_tokens.Other m d h = cc

pub else_leads : (l : StmtToken) (m : Meaning) → Leads l m → is_else l ≡ true → m ≡ reserved words.Else
else_leads stmt_tokens.Else m d h = d
else_leads stmt_tokens.Block m d h = cc
else_leads stmt_tokens.End m d h = cc
else_leads stmt_tokens.Empty m d h = cc
else_leads stmt_tokens.If m d h = cc
else_leads stmt_tokens.While m d h = cc
else_leads stmt_tokens.Do m d h = cc
else_leads stmt_tokens.For m d h = cc
else_leads stmt_tokens.Switch m d h = cc
else_leads stmt_tokens.Case m d h = cc
else_leads stmt_tokens.Default m d h = cc
else_leads stmt_tokens.Break m d h = cc
else_leads stmt_tokens.Continue m d h = cc
else_leads stmt_tokens.Return m d h = cc
else_leads stmt_tokens.Other m d h = cc

while_sound : (ts : Tokens) (p : Position) (rest : Tokens) (Q : Tokens → Type 0) → while_at ts ≡ Ok (p, rest) → Q ts → Q ((reserved words.While, p) ∷ rest)
unfolding while_at
while_sound [] p rest Q h q = absurd (no_err (Unexpected []) (p, rest) h)
while_sound ((m, o) ∷ ts) p rest Q h q =
    if_elim (is_while (stmt_token m)) (Ok (o, ts)) (Err (Unexpected ((m, o) ∷ ts))) (Ok (p, rest)) (Q ((reserved words.While, p) ∷ rest)) h
    (λ b e. at_pair (λ x r. Q ((reserved words.While, x) ∷ r)) o ts p rest e (subst (λ w. Q ((w, o) ∷ ts)) (while_leads (stmt_token m) m (leads_to m) b) q))
    (λ b e. absurd (no_err (Unexpected ((m, o) ∷ ts)) (p, rest) e))

number_sound : (ts : Tokens) (x : ℕ × Position) (rest : Tokens) (Q : Tokens → Type 0) → number_at ts ≡ Ok (x, rest) → Q ((number x.0, x.1) ∷ rest) → Q ts
unfolding number_at
number_sound [] x rest Q h go = absurd (no_err (Unexpected []) (x, rest) h)
number_sound ((number k, p) ∷ ts) x rest Q h go = at_pair (λ (y : ℕ × Position) r. Q ((number y.0, y.1) ∷ r)) x rest (k, p) ts (sym h) go
number_sound ((name k, p) ∷ ts) x rest Q h go = absurd (no_err (Unexpected ((name k, p) ∷ ts)) (x, rest) h)
number_sound ((sign k, p) ∷ ts) x rest Q h go = absurd (no_err (Unexpected ((sign k, p) ∷ ts)) (x, rest) h)
number_sound ((reserved k, p) ∷ ts) x rest Q h go = absurd (no_err (Unexpected ((reserved k, p) ∷ ts)) (x, rest) h)
number_sound ((unsupported k, p) ∷ ts) x rest Q h go = absurd (no_err (Unexpected ((unsupported k, p) ∷ ts)) (x, rest) h)

case_value_sound : (p : Position) (ts : Tokens) (l : Label × Position) (rest : Tokens) → case_value_at ts ≡ Ok (l, rest) → IsLabel ((reserved words.Case, p) ∷ ts) l.1 l.0 rest
unfolding case_value_at
case_value_sound p ts l rest h =
    if_elim (next_is_sign signs.Minus ts) (expect_at signs.Minus ts >>= λ o. number_at o.1 >>= λ n. expect_at signs.Colon n.1 >>= λ c. Ok ((labels.CaseMinus (n.0).0, o.0), c.1)) (number_at ts >>= λ n. expect_at signs.Colon n.1 >>= λ c. Ok ((labels.Case (n.0).0, (n.0).1), c.1)) (Ok (l, rest)) (IsLabel ((reserved words.Case, p) ∷ ts) l.1 l.0 rest) h
    (λ b k. let o = bind_ok (expect_at signs.Minus ts) (λ o. number_at o.1 >>= λ n. expect_at signs.Colon n.1 >>= λ c. Ok ((labels.CaseMinus (n.0).0, o.0), c.1)) (l, rest) k in
    let n = bind_ok (number_at (o.0).1) (λ n. expect_at signs.Colon n.1 >>= λ c. Ok ((labels.CaseMinus (n.0).0, (o.0).0), c.1)) (l, rest) o.2 in
    let c = bind_ok (expect_at signs.Colon (n.0).1) (λ c. Ok ((labels.CaseMinus ((n.0).0).0, (o.0).0), c.1)) (l, rest) n.2 in
    at_pair (λ (x : Label × Position) r. IsLabel ((reserved words.Case, p) ∷ ts) x.1 x.0 r) (labels.CaseMinus ((n.0).0).0, (o.0).0) (c.0).1 l rest c.2
    (expect_sound signs.Minus ts (o.0).0 (o.0).1 (λ r. IsLabel ((reserved words.Case, p) ∷ r) (o.0).0 (labels.CaseMinus ((n.0).0).0) (c.0).1) o.1
    (number_sound (o.0).1 (n.0).0 (n.0).1 (λ r. IsLabel ((reserved words.Case, p) ∷ (sign signs.Minus, (o.0).0) ∷ r) (o.0).0 (labels.CaseMinus ((n.0).0).0) (c.0).1) n.1
    (expect_sound signs.Colon (n.0).1 (c.0).0 (c.0).1 (λ r. IsLabel ((reserved words.Case, p) ∷ (sign signs.Minus, (o.0).0) ∷ (number ((n.0).0).0, ((n.0).0).1) ∷ r) (o.0).0 (labels.CaseMinus ((n.0).0).0) (c.0).1) c.1 case_minus))))
    (λ b k. let n = bind_ok (number_at ts) (λ n. expect_at signs.Colon n.1 >>= λ c. Ok ((labels.Case (n.0).0, (n.0).1), c.1)) (l, rest) k in
    let c = bind_ok (expect_at signs.Colon (n.0).1) (λ c. Ok ((labels.Case ((n.0).0).0, ((n.0).0).1), c.1)) (l, rest) n.2 in
    at_pair (λ (x : Label × Position) r. IsLabel ((reserved words.Case, p) ∷ ts) x.1 x.0 r) (labels.Case ((n.0).0).0, ((n.0).0).1) (c.0).1 l rest c.2
    (number_sound ts (n.0).0 (n.0).1 (λ r. IsLabel ((reserved words.Case, p) ∷ r) ((n.0).0).1 (labels.Case ((n.0).0).0) (c.0).1) n.1
    (expect_sound signs.Colon (n.0).1 (c.0).0 (c.0).1 (λ r. IsLabel ((reserved words.Case, p) ∷ (number ((n.0).0).0, ((n.0).0).1) ∷ r) ((n.0).0).1 (labels.Case ((n.0).0).0) (c.0).1) c.1 case)))

-- a label with its place
abbrev Labelled : Tokens → Label × Position → Tokens → Type 0
Labelled ts x rest = IsLabel ts x.1 x.0 rest

label_by_sound : (k : StmtToken) (m : Meaning) (p : Position) (ts : Tokens) (x : Label × Position) (rest : Tokens) → Leads k m → label_by k m p ts ≡ Ok (x, rest) → Labelled ((m, p) ∷ ts) x rest
label_by_sound stmt_tokens.Case m p ts x rest d h = subst (λ w. IsLabel ((w, p) ∷ ts) x.1 x.0 rest) (sym d) (case_value_sound p ts x rest h)
label_by_sound stmt_tokens.Default m p ts x rest d h =
    let c = bind_ok (expect_at signs.Colon ts) (λ c. Ok ((labels.Default, p), c.1)) (x, rest) h in
    at_pair (λ y r. Labelled ((m, p) ∷ ts) y r) (labels.Default, p) (c.0).1 x rest c.2 (subst (λ w. IsLabel ((w, p) ∷ ts) p labels.Default (c.0).1) (sym d) (expect_sound signs.Colon ts (c.0).0 (c.0).1 (λ r. IsLabel ((reserved words.Default, p) ∷ r) p labels.Default (c.0).1) c.1 default))
label_by_sound _ m p ts x rest d h = absurd (no_err (Unexpected ((m, p) ∷ ts)) (x, rest) h)

label_sound : Finds label_at Labelled
unfolding label_at
label_sound [] x rest h = absurd (no_err (Unexpected []) (x, rest) h)
label_sound ((m, p) ∷ ts) x rest h = label_by_sound (stmt_token m) m p ts x rest (leads_to m) h

abbrev pub IsClosed : (ℕ → ℕ → Tokens → Stmt → Tokens → Type 0) → ℕ → ℕ → Tokens → Stmt → Tokens → Type 0
IsClosed P free depth from s left = P free depth from s left × Closes s left

module _ (free depth : ℕ) (below : Below) (deeper : Nested) (whole : Finds (below true) (IsInner free depth)) (part : Finds (below false) (IsPart free depth)) (one : Finds deeper (IsClosed IsNested free depth)) where
  pub local_sound : (from after left : Tokens) (x : Stmt) (xs : List Stmt) → local_with below deeper from ≡ Ok (x, after) → AreLocals free depth after xs left → AreLocals free depth from (x ∷ xs) left
  unfolding local_with
  local_sound from after left x xs h more =
      if_elim (is_vars from) (vars_statement_with below from >>= λ v. Ok (Declare (place_of_type (v.0).of) v.0, v.1)) (deeper from) (Ok (x, after)) (AreLocals free depth from (x ∷ xs) left) h
      (λ b k. let v = bind_ok (vars_statement_with below from) (λ v. Ok (Declare (place_of_type (v.0).of) v.0, v.1)) (x, after) k in
      at_pair (λ y r. AreLocals free depth r xs left → AreLocals free depth from (y ∷ xs) left) (Declare (place_of_type ((v.0).0).of) (v.0).0) (v.0).1 x after v.2 (λ m. local_vars (declared_sound free depth below whole part from (v.0).0 (v.0).1 v.1).1 m) more)
      (λ b k. local_stmt (one from x after k).0 more)

  pub locals_sound : Finds (locals_with below deeper) (AreLocals free depth)
  unfolding locals_with
  locals_sound ts xs rest h = repeat_sound goes_on (local_with below deeper) (AreLocals free depth) (λ s. no_locals) local_sound (length ts) ts xs rest h

  pub block_sound : Finds (block_with below deeper) (IsBlock free depth)
  unfolding block_with
  block_sound ts x rest h =
      let o = bind_ok (expect_at signs.OpenBrace ts) (λ o. locals_with below deeper o.1 >>= λ ss. expect_at signs.CloseBrace ss.1 >>= λ z. Ok (ss.0, z.1)) (x, rest) h in
      let ss = bind_ok (locals_with below deeper (o.0).1) (λ ss. expect_at signs.CloseBrace ss.1 >>= λ z. Ok (ss.0, z.1)) (x, rest) o.2 in
      let z = bind_ok (expect_at signs.CloseBrace (ss.0).1) (λ z. Ok ((ss.0).0, z.1)) (x, rest) ss.2 in
      at_pair (λ y r. IsBlock free depth ts y r) (ss.0).0 (z.0).1 x rest z.2
      (expect_sound signs.OpenBrace ts (o.0).0 (o.0).1 (λ r. IsBlock free depth r (ss.0).0 (z.0).1) o.1
      (block (ends_in signs.CloseBrace (ss.0).1 (z.0).0 (z.0).1 (λ r. AreLocals free depth (o.0).1 (ss.0).0 r) z.1 (locals_sound (o.0).1 (ss.0).0 (ss.0).1 ss.1))))

  stmts_sound : Finds (stmts_with deeper) (AreStmts free depth)
  unfolding stmts_with
  stmts_sound ts xs rest h = repeat_sound case_goes_on deeper (AreStmts free depth) (λ s. no_stmts) (λ from after left x xs e m. more_stmts (one from x after e).0 m) (length ts) ts xs rest h

  pub case_sound : (from after left : Tokens) (x : Case) (xs : List Case) → case_with deeper from ≡ Ok (x, after) → AreCases free depth after xs left → AreCases free depth from (x ∷ xs) left
  unfolding case_with
  case_sound from after left x xs h more =
      let l = bind_ok (label_at from) (λ l. stmts_with deeper l.1 >>= λ ss. Ok (labelled (l.0).1 (l.0).0 (stmts ss.0), ss.1)) (x, after) h in
      let ss = bind_ok (stmts_with deeper (l.0).1) (λ ss. Ok (labelled ((l.0).0).1 ((l.0).0).0 (stmts ss.0), ss.1)) (x, after) l.2 in
      let d = label_sound from (l.0).0 (l.0).1 l.1 in
      let body = stmts_sound (l.0).1 (ss.0).0 (ss.0).1 ss.1 in
      at_pair (λ y r. AreCases free depth r xs left → AreCases free depth from (y ∷ xs) left) (labelled ((l.0).0).1 ((l.0).0).0 (stmts (ss.0).0)) (ss.0).1 x after ss.2
      (λ m. more_cases d body m) more

  cases_sound : Finds (cases_with deeper) (AreCases free depth)
  unfolding cases_with
  cases_sound ts xs rest h = repeat_sound goes_on (case_with deeper) (AreCases free depth) (λ s. no_cases) case_sound (length ts) ts xs rest h

  S : Tokens → Stmt → Tokens → Type 0
  S ts x left = IsStmt free depth ts x left × Closes x left

  else_sound : (p o q : Position) (r after : Tokens) (c : Expr) (s : Stmt) (ts : Tokens) (x : Stmt) (rest : Tokens) → IsInner free depth r c ((sign signs.CloseParenthesis, q) ∷ after) → IsNested free depth after s ts → Closes s ts → else_with deeper p c s ts ≡ Ok (x, rest) → S ((reserved words.If, p) ∷ (sign signs.OpenParenthesis, o) ∷ r) x rest
  unfolding else_with S
  else_sound p o q r after c s [] x rest i n d h = at_pair (λ y l. IsStmt free depth ((reserved words.If, p) ∷ (sign signs.OpenParenthesis, o) ∷ r) y l × Closes y l) (If p c s) [] x rest h (if_only i n, λ e. sym e)
  else_sound p o q r after c s ((m, a) ∷ ts) x rest i n d h =
      if_elim (is_else (stmt_token m)) (deeper ts >>= λ t. Ok (IfElse p c s t.0, t.1)) (Ok (If p c s, (m, a) ∷ ts)) (Ok (x, rest)) (IsStmt free depth ((reserved words.If, p) ∷ (sign signs.OpenParenthesis, o) ∷ r) x rest × Closes x rest) h
      (λ b k. let t = bind_ok (deeper ts) (λ t. Ok (IfElse p c s t.0, t.1)) (x, rest) k in
      let u = one ts (t.0).0 (t.0).1 t.1 in
      at_pair (λ y l. IsStmt free depth ((reserved words.If, p) ∷ (sign signs.OpenParenthesis, o) ∷ r) y l × Closes y l) (IfElse p c s (t.0).0) (t.0).1 x rest t.2
      (if_else i (subst (λ w. IsNested free depth after s ((w, a) ∷ ts)) (else_leads (stmt_token m) m (leads_to m) b) n) (d b) u.0, u.1))
      (λ b k. at_pair (λ y l. IsStmt free depth ((reserved words.If, p) ∷ (sign signs.OpenParenthesis, o) ∷ r) y l × Closes y l) (If p c s) ((m, a) ∷ ts) x rest k (if_only i n, λ e. sym e ∙ b))

  if_sound : (p : Position) (ts : Tokens) (x : Stmt) (rest : Tokens) → if_with below deeper p ts ≡ Ok (x, rest) → S ((reserved words.If, p) ∷ ts) x rest
  unfolding if_with
  if_sound p ts x rest h =
      let c = bind_ok (bracketed_with below ts) (λ c. deeper c.1 >>= λ s. else_with deeper p c.0 s.0 s.1) (x, rest) h in
      let s = bind_ok (deeper (c.0).1) (λ s. else_with deeper p (c.0).0 s.0 s.1) (x, rest) c.2 in
      let u = one (c.0).1 (s.0).0 (s.0).1 s.1 in
      bracketed_sound free depth below whole part ts (c.0).0 (c.0).1 (λ t. S ((reserved words.If, p) ∷ t) x rest) c.1
      (λ o q r i. else_sound p o q r (c.0).1 (c.0).0 (s.0).0 (s.0).1 x rest i u.0 u.1 s.2)

  while_loop_sound : (p : Position) (ts : Tokens) (x : Stmt) (rest : Tokens) → while_with below deeper p ts ≡ Ok (x, rest) → S ((reserved words.While, p) ∷ ts) x rest
  unfolding while_with S
  while_loop_sound p ts x rest h =
      let c = bind_ok (bracketed_with below ts) (λ c. deeper c.1 >>= λ s. Ok (While p c.0 s.0, s.1)) (x, rest) h in
      let s = bind_ok (deeper (c.0).1) (λ s. Ok (While p (c.0).0 s.0, s.1)) (x, rest) c.2 in
      let u = one (c.0).1 (s.0).0 (s.0).1 s.1 in
      at_pair (λ y l. IsStmt free depth ((reserved words.While, p) ∷ ts) y l × Closes y l) (While p (c.0).0 (s.0).0) (s.0).1 x rest s.2
      (bracketed_sound free depth below whole part ts (c.0).0 (c.0).1 (λ t. IsStmt free depth ((reserved words.While, p) ∷ t) (While p (c.0).0 (s.0).0) (s.0).1) c.1 (λ o q r i. while i u.0), u.1)

  do_sound : (p : Position) (ts : Tokens) (x : Stmt) (rest : Tokens) → do_with below deeper p ts ≡ Ok (x, rest) → S ((reserved words.Do, p) ∷ ts) x rest
  unfolding do_with S
  do_sound p ts x rest h =
      let s = bind_ok (deeper ts) (λ s. while_at s.1 >>= λ w. bracketed_with below w.1 >>= λ c. expect_at signs.Semicolon c.1 >>= λ o. Ok (DoWhile p s.0 c.0, o.1)) (x, rest) h in
      let w = bind_ok (while_at (s.0).1) (λ w. bracketed_with below w.1 >>= λ c. expect_at signs.Semicolon c.1 >>= λ o. Ok (DoWhile p (s.0).0 c.0, o.1)) (x, rest) s.2 in
      let c = bind_ok (bracketed_with below (w.0).1) (λ c. expect_at signs.Semicolon c.1 >>= λ o. Ok (DoWhile p (s.0).0 c.0, o.1)) (x, rest) w.2 in
      let o = bind_ok (expect_at signs.Semicolon (c.0).1) (λ o. Ok (DoWhile p (s.0).0 (c.0).0, o.1)) (x, rest) c.2 in
      let u = one ts (s.0).0 (s.0).1 s.1 in
      let n : IsNested free depth ts (s.0).0 ((reserved words.While, (w.0).0) ∷ (w.0).1) = while_sound (s.0).1 (w.0).0 (w.0).1 (λ r. IsNested free depth ts (s.0).0 r) w.1 u.0 in
      at_pair (λ y l. IsStmt free depth ((reserved words.Do, p) ∷ ts) y l × Closes y l) (DoWhile p (s.0).0 (c.0).0) (o.0).1 x rest o.2 (
        bracketed_sound free depth below whole part (w.0).1 (c.0).0 (c.0).1 (λ t. IsNested free depth ts (s.0).0 ((reserved words.While, (w.0).0) ∷ t) → IsStmt free depth ((reserved words.Do, p) ∷ ts) (DoWhile p (s.0).0 (c.0).0) (o.0).1) c.1
            (λ a q r i k. do_while k (ends_in signs.Semicolon (c.0).1 (o.0).0 (o.0).1 (λ l. IsInner free depth r (c.0).0 ((sign signs.CloseParenthesis, q) ∷ l)) o.1 i)) n,
        λ e. refl,
      )

  for_sound : (p : Position) (ts : Tokens) (x : Stmt) (rest : Tokens) → for_with below deeper p ts ≡ Ok (x, rest) → S ((reserved words.For, p) ∷ ts) x rest
  unfolding for_with S
  for_sound p ts x rest h =
      let o = bind_ok (expect_at signs.OpenParenthesis ts) (λ o. first_with below o.1 >>= λ f. test_with below f.1 >>= λ c. exprs_with below c.1 >>= λ es. expect_at signs.CloseParenthesis es.1 >>= λ z. deeper z.1 >>= λ s. Ok (For p f.0 c.0 es.0 s.0, s.1)) (x, rest) h in
      let f = bind_ok (first_with below (o.0).1) (λ f. test_with below f.1 >>= λ c. exprs_with below c.1 >>= λ es. expect_at signs.CloseParenthesis es.1 >>= λ z. deeper z.1 >>= λ s. Ok (For p f.0 c.0 es.0 s.0, s.1)) (x, rest) o.2 in
      let c = bind_ok (test_with below (f.0).1) (λ c. exprs_with below c.1 >>= λ es. expect_at signs.CloseParenthesis es.1 >>= λ z. deeper z.1 >>= λ s. Ok (For p (f.0).0 c.0 es.0 s.0, s.1)) (x, rest) f.2 in
      let es = bind_ok (exprs_with below (c.0).1) (λ es. expect_at signs.CloseParenthesis es.1 >>= λ z. deeper z.1 >>= λ s. Ok (For p (f.0).0 (c.0).0 es.0 s.0, s.1)) (x, rest) c.2 in
      let z = bind_ok (expect_at signs.CloseParenthesis (es.0).1) (λ z. deeper z.1 >>= λ s. Ok (For p (f.0).0 (c.0).0 (es.0).0 s.0, s.1)) (x, rest) es.2 in
      let s = bind_ok (deeper (z.0).1) (λ s. Ok (For p (f.0).0 (c.0).0 (es.0).0 s.0, s.1)) (x, rest) z.2 in
      let u = one (z.0).1 (s.0).0 (s.0).1 s.1 in
      at_pair (λ y l. IsStmt free depth ((reserved words.For, p) ∷ ts) y l × Closes y l) (For p (f.0).0 (c.0).0 (es.0).0 (s.0).0) (s.0).1 x rest s.2 (
        expect_sound signs.OpenParenthesis ts (o.0).0 (o.0).1 (λ r. IsStmt free depth ((reserved words.For, p) ∷ r) (For p (f.0).0 (c.0).0 (es.0).0 (s.0).0) (s.0).1) o.1
            (for (first_sound free depth below whole part (o.0).1 (f.0).0 (f.0).1 f.1) (test_sound free depth below whole part (f.0).1 (c.0).0 (c.0).1 c.1)
            (ends_in signs.CloseParenthesis (es.0).1 (z.0).0 (z.0).1 (λ l. AreExprs free depth (c.0).1 (es.0).0 l) z.1 (exprs_sound free depth below whole part (c.0).1 (es.0).0 (es.0).1 es.1)) u.0),
        u.1,
      )

  switch_sound : (p : Position) (ts : Tokens) (x : Stmt) (rest : Tokens) → switch_with below deeper p ts ≡ Ok (x, rest) → S ((reserved words.Switch, p) ∷ ts) x rest
  unfolding switch_with S
  switch_sound p ts x rest h =
      let e = bind_ok (bracketed_with below ts) (λ e. expect_at signs.OpenBrace e.1 >>= λ o. cases_with deeper o.1 >>= λ cs. expect_at signs.CloseBrace cs.1 >>= λ z. Ok (Switch p e.0 (cases cs.0), z.1)) (x, rest) h in
      let o = bind_ok (expect_at signs.OpenBrace (e.0).1) (λ o. cases_with deeper o.1 >>= λ cs. expect_at signs.CloseBrace cs.1 >>= λ z. Ok (Switch p (e.0).0 (cases cs.0), z.1)) (x, rest) e.2 in
      let cs = bind_ok (cases_with deeper (o.0).1) (λ cs. expect_at signs.CloseBrace cs.1 >>= λ z. Ok (Switch p (e.0).0 (cases cs.0), z.1)) (x, rest) o.2 in
      let z = bind_ok (expect_at signs.CloseBrace (cs.0).1) (λ z. Ok (Switch p (e.0).0 (cases (cs.0).0), z.1)) (x, rest) cs.2 in
      let k : AreCases free depth (o.0).1 (cs.0).0 ((sign signs.CloseBrace, (z.0).0) ∷ (z.0).1) = ends_in signs.CloseBrace (cs.0).1 (z.0).0 (z.0).1 (λ l. AreCases free depth (o.0).1 (cs.0).0 l) z.1 (cases_sound (o.0).1 (cs.0).0 (cs.0).1 cs.1) in
      at_pair (λ y l. IsStmt free depth ((reserved words.Switch, p) ∷ ts) y l × Closes y l) (Switch p (e.0).0 (cases (cs.0).0)) (z.0).1 x rest z.2 (
        bracketed_sound free depth below whole part ts (e.0).0 (e.0).1 (λ t. IsStmt free depth ((reserved words.Switch, p) ∷ t) (Switch p (e.0).0 (cases (cs.0).0)) (z.0).1) e.1
            (λ a q r i. switch (ends_in signs.OpenBrace (e.0).1 (o.0).0 (o.0).1 (λ l. IsInner free depth r (e.0).0 ((sign signs.CloseParenthesis, q) ∷ l)) o.1 i) k),
        λ w. refl,
      )

  stmt_by_sound : (k : StmtToken) (m : Meaning) (p : Position) (ts : Tokens) (x : Stmt) (rest : Tokens) → Leads k m → stmt_by k below deeper m p ts ≡ Ok (x, rest) → S ((m, p) ∷ ts) x rest
  unfolding S
  stmt_by_sound stmt_tokens.Block m p ts x rest d h =
      let b = bind_ok (block_with below deeper ((m, p) ∷ ts)) (λ b. Ok (Block p (stmts b.0), b.1)) (x, rest) h in
      let k : IsBlock free depth ((sign signs.OpenBrace, p) ∷ ts) (b.0).0 (b.0).1 = subst (λ w. IsBlock free depth ((w, p) ∷ ts) (b.0).0 (b.0).1) d (block_sound ((m, p) ∷ ts) (b.0).0 (b.0).1 b.1) in
      at_pair (λ y l. IsStmt free depth ((m, p) ∷ ts) y l × Closes y l) (Block p (stmts (b.0).0)) (b.0).1 x rest b.2 (subst (λ w. IsStmt free depth ((w, p) ∷ ts) (Block p (stmts (b.0).0)) (b.0).1) (sym d) (inner_block k), λ e. refl)
  stmt_by_sound stmt_tokens.Empty m p ts x rest d h = at_pair (λ y l. IsStmt free depth ((m, p) ∷ ts) y l × Closes y l) (Empty p) ts x rest h (subst (λ w. IsStmt free depth ((w, p) ∷ ts) (Empty p) ts) (sym d) empty, λ e. refl)
  stmt_by_sound stmt_tokens.If m p ts x rest d h = subst (λ w. S ((w, p) ∷ ts) x rest) (sym d) (if_sound p ts x rest h)
  stmt_by_sound stmt_tokens.While m p ts x rest d h = subst (λ w. S ((w, p) ∷ ts) x rest) (sym d) (while_loop_sound p ts x rest h)
  stmt_by_sound stmt_tokens.Do m p ts x rest d h = subst (λ w. S ((w, p) ∷ ts) x rest) (sym d) (do_sound p ts x rest h)
  stmt_by_sound stmt_tokens.For m p ts x rest d h = subst (λ w. S ((w, p) ∷ ts) x rest) (sym d) (for_sound p ts x rest h)
  stmt_by_sound stmt_tokens.Switch m p ts x rest d h = subst (λ w. S ((w, p) ∷ ts) x rest) (sym d) (switch_sound p ts x rest h)
  stmt_by_sound stmt_tokens.Break m p ts x rest d h =
      let s = bind_ok (expect_at signs.Semicolon ts) (λ s. Ok (Break p, s.1)) (x, rest) h in
      at_pair (λ y l. IsStmt free depth ((m, p) ∷ ts) y l × Closes y l) (Break p) (s.0).1 x rest s.2 (subst (λ w. IsStmt free depth ((w, p) ∷ ts) (Break p) (s.0).1) (sym d) (expect_sound signs.Semicolon ts (s.0).0 (s.0).1 (λ r. IsStmt free depth ((reserved words.Break, p) ∷ r) (Break p) (s.0).1) s.1 break), λ e. refl)
  stmt_by_sound stmt_tokens.Continue m p ts x rest d h =
      let s = bind_ok (expect_at signs.Semicolon ts) (λ s. Ok (Continue p, s.1)) (x, rest) h in
      at_pair (λ y l. IsStmt free depth ((m, p) ∷ ts) y l × Closes y l) (Continue p) (s.0).1 x rest s.2 (subst (λ w. IsStmt free depth ((w, p) ∷ ts) (Continue p) (s.0).1) (sym d) (expect_sound signs.Semicolon ts (s.0).0 (s.0).1 (λ r. IsStmt free depth ((reserved words.Continue, p) ∷ r) (Continue p) (s.0).1) s.1 continue), λ e. refl)
  stmt_by_sound stmt_tokens.Return m p ts x rest d h =
      let e = bind_ok (return_value_with below ts) (λ e. Ok (Return p e.0, e.1)) (x, rest) h in
      at_pair (λ y l. IsStmt free depth ((m, p) ∷ ts) y l × Closes y l) (Return p (e.0).0) (e.0).1 x rest e.2 (subst (λ w. IsStmt free depth ((w, p) ∷ ts) (Return p (e.0).0) (e.0).1) (sym d) (return (result_sound free depth below whole part ts (e.0).0 (e.0).1 e.1)), λ w. refl)
  stmt_by_sound stmt_tokens.Other m p ts x rest d h = evaluate_sound free depth below whole part ((m, p) ∷ ts) x rest h
  stmt_by_sound _ m p ts x rest d h = absurd (no_err (Unexpected ((m, p) ∷ ts)) (x, rest) h)

  pub stmt_sound : Finds (stmt_with below deeper) (IsClosed IsStmt free depth)
  unfolding stmt_with S
  stmt_sound [] x rest h = absurd (no_err (Unexpected []) (x, rest) h)
  stmt_sound ((m, p) ∷ ts) x rest h = stmt_by_sound (stmt_token m) m p ts x rest (leads_to m) h

limit_is_no_ok : (ts : Tokens) (x : Stmt × Tokens) → stmt_limit_at ts ≡ Ok x → ⊥
unfolding stmt_limit_at
limit_is_no_ok ts x h = if_elim (next_is begins_stmt ts) (Err (TooDeep ts)) (Err (Unexpected ts)) (Ok x) ⊥ h (λ b e. no_err (TooDeep ts) x e) (λ b e. no_err (Unexpected ts) x e)

pub nested_sound : (room depth : ℕ) → depth + room ≡ 64 → Finds (nested_at room) (IsClosed IsNested 0 depth)
unfolding nested_at
nested_sound zero depth d ts x rest h = absurd (limit_is_no_ok ts (x, rest) h)
nested_sound (suc room) depth d ts x rest h =
    let s = stmt_sound 0 (suc depth) (below_at room) (nested_at room) (whole_sound room (suc depth) (omega arith)) (part_sound room (suc depth) (omega arith)) (nested_sound room (suc depth) (omega arith)) ts x rest h in
    (nested (λ some. omega arith) s.0, s.1)
