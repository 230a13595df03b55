-- What is in the grammar of statements is read, or reading is cut where a token is too deep.
use Rattle.std.proofs.Common.{◌≡◌, ℕ, zero, suc, ◌+◌, ◌<◌, ◌≤◌, List, [], ◌∷◌, length, Bool, true, false, not, Option, Some, None, Ok, refl, ap, arith}
use Rattle.ash_lex.specs.Tokens.{Meaning, number, sign, reserved}
use Rattle.ash_lex.specs.declared.signs.Sign.TheVariants as signs
use Rattle.ash_lex.specs.declared.words.ReservedWord.TheVariants as words
use Rattle.ash_tree.specs.declared.tree.places.Position.{Position}
use Rattle.ash_tree.specs.declared.tree.statements.Label.{Label}
use Rattle.ash_tree.specs.Tree.{Expr, Vars, Stmt, Empty, Declare, Evaluate, Block, If, IfElse, While, DoWhile, For, Switch, Break, Continue, Return, Case, labelled, place_of, place_of_type, stmts, cases}
use Rattle.ash_tree.specs.GrammarTokens.{Tokens}
use Rattle.ash_tree.specs.Operators.{primitive, unary_operator}
use Rattle.ash_tree.specs.Expressions.{max_depth}
use Rattle.ash_tree.specs.Statements.{IsFirst, no_first, first_vars, first_expr, IsTest, no_test, test, IsResult, no_result, value, IsLabel, case, case_minus, default, IsNested, nested, AreLocals, no_locals, local_vars, local_stmt, IsBlock, block, IsStmt, inner_block, empty, evaluate, if_only, if_else, while, do_while, for, switch, break, continue, return, AreCases, no_cases, more_cases, AreStmts, no_stmts, more_stmts}
use Rattle.ash_parse.specs.declared.stmt_tokens.StmtToken.{StmtToken}
use Rattle.ash_parse.specs.declared.stmt_tokens.StmtToken.TheVariants as stmt_tokens
use Rattle.ash_parse.specs.SignTokens.{is_sign, same_sign}
use Rattle.ash_parse.specs.Readers.{next_is, next_is_sign}
use Rattle.ash_parse.specs.ExpressionReader.{Below, begins, exprs_with, assign_with, below_at}
use Rattle.ash_parse.specs.TypeReader.{is_array}
use Rattle.ash_parse.specs.StatementReader.{Nested, is_name, is_vars, vars_statement_with, first_with, test_with, return_value_with, stmt_token, begins_by, begins_stmt, stmt_limit_at, is_end, ends_case, goes_on, case_goes_on, evaluate_with, is_else, else_with, if_with, while_with, while_at, do_with, for_with, number_at, case_value_at, label_at, stmts_with, case_with, cases_with, switch_with, local_with, locals_with, block_with, stmt_with, nested_at}
use Rattle.ash_parse.proofs.Readings.{expect_again, next_is_sign-again}
use Rattle.ash_parse.proofs.StatementSound.{Closes}
use Rattle.ash_parse.proofs.StatementShorter.{vars_shorter, nested_shorter, stmts_shorter}
use Rattle.ash_parse.proofs.Rereading.{no_true, Reads, whole, cut, as_read, then_reads, ReadsAll, none_again, one_again}
use Rattle.ash_parse.proofs.ExpressionComplete.{past, bracketed_again, inner_read, exprs_read, assign_read}
use Rattle.ash_parse.proofs.ExpressionBounds.{ends_expr, Ends, assign_begins, inner_begins}
use Rattle.ash_parse.proofs.VarsComplete.{ends_follow, assign_no_vars, inner_no_vars, vars_vars, vars_begin, declared_read}

begins_leads : (m : Meaning) → begins m ≡ true → (stmt_token m ≡ stmt_tokens.Other) × (is_sign signs.Semicolon m ≡ false)
unfolding begins stmt_token is_sign same_sign primitive unary_operator
begins_leads (sign signs.OpenBrace) h = absurd (no_true h)
begins_leads (sign signs.CloseBrace) h = absurd (no_true h)
begins_leads (sign signs.Semicolon) h = absurd (no_true h)
begins_leads (reserved words.If) h = absurd (no_true h)
begins_leads (reserved words.Else) h = absurd (no_true h)
begins_leads (reserved words.While) h = absurd (no_true h)
begins_leads (reserved words.Do) h = absurd (no_true h)
begins_leads (reserved words.For) h = absurd (no_true h)
begins_leads (reserved words.Switch) h = absurd (no_true h)
begins_leads (reserved words.Case) h = absurd (no_true h)
begins_leads (reserved words.Default) h = absurd (no_true h)
begins_leads (reserved words.Break) h = absurd (no_true h)
begins_leads (reserved words.Continue) h = absurd (no_true h)
begins_leads (reserved words.Return) h = absurd (no_true h)
begins_leads m h = (refl, refl)

pub begins_no_semicolon : (ts : Tokens) → next_is begins ts ≡ true → next_is_sign signs.Semicolon ts ≡ false
unfolding next_is_sign
begins_no_semicolon [] h = refl
begins_no_semicolon ((m, p) ∷ ts) h = (begins_leads m h).1

-- what begins an expression begins a statement
pub begins_both : (ts : Tokens) → next_is begins ts ≡ true → next_is begins_stmt ts ≡ true
unfolding begins_stmt
begins_both [] h = h
begins_both ((m, p) ∷ ts) h = rw ((begins_leads m h).0, h) refl

leads_on : (l : StmtToken) (b : Bool) → begins_by l b ≡ true → (is_end l ≡ false) × (ends_case l ≡ false) × (is_else l ≡ false)
leads_on stmt_tokens.Block b h = (refl, refl, refl)
leads_on stmt_tokens.End b h = absurd (no_true h)
leads_on stmt_tokens.Empty b h = (refl, refl, refl)
leads_on stmt_tokens.If b h = (refl, refl, refl)
leads_on stmt_tokens.Else b h = absurd (no_true h)
leads_on stmt_tokens.While b h = (refl, refl, refl)
leads_on stmt_tokens.Do b h = (refl, refl, refl)
leads_on stmt_tokens.For b h = (refl, refl, refl)
leads_on stmt_tokens.Switch b h = (refl, refl, refl)
leads_on stmt_tokens.Case b h = absurd (no_true h)
leads_on stmt_tokens.Default b h = absurd (no_true h)
leads_on stmt_tokens.Break b h = (refl, refl, refl)
leads_on stmt_tokens.Continue b h = (refl, refl, refl)
leads_on stmt_tokens.Return b h = (refl, refl, refl)
leads_on stmt_tokens.Other b h = (refl, refl, refl)

-- no `else` is next
abbrev pub NoElse : Tokens → Type 0
NoElse ts = next_is (λ m. is_else (stmt_token m)) ts ≡ false

pub goes_further : (ts : Tokens) → next_is begins_stmt ts ≡ true → (goes_on ts ≡ true) × (case_goes_on ts ≡ true) × NoElse ts
unfolding goes_on case_goes_on begins_stmt
goes_further [] h = absurd (no_true h)
goes_further ((m, p) ∷ ts) h = let q = leads_on (stmt_token m) (begins m) h in (ap not q.0, ap not q.1, q.2)

starts_leads : (m : Meaning) → begins m ≡ true → (stmt_token m ≡ stmt_tokens.Other) × (is_sign signs.Semicolon m ≡ false)
unfolding begins stmt_token is_sign same_sign primitive unary_operator
starts_leads (sign signs.OpenBrace) h = absurd (no_true h)
starts_leads (sign signs.CloseBrace) h = absurd (no_true h)
starts_leads (sign signs.Semicolon) h = absurd (no_true h)
starts_leads (reserved words.If) h = absurd (no_true h)
starts_leads (reserved words.Else) h = absurd (no_true h)
starts_leads (reserved words.While) h = absurd (no_true h)
starts_leads (reserved words.Do) h = absurd (no_true h)
starts_leads (reserved words.For) h = absurd (no_true h)
starts_leads (reserved words.Switch) h = absurd (no_true h)
starts_leads (reserved words.Case) h = absurd (no_true h)
starts_leads (reserved words.Default) h = absurd (no_true h)
starts_leads (reserved words.Break) h = absurd (no_true h)
starts_leads (reserved words.Continue) h = absurd (no_true h)
starts_leads (reserved words.Return) h = absurd (no_true h)
starts_leads m h = (refl, refl)

pub starts_no_semicolon : (ts : Tokens) → next_is begins ts ≡ true → next_is_sign signs.Semicolon ts ≡ false
unfolding next_is_sign
starts_no_semicolon [] h = refl
starts_no_semicolon ((m, p) ∷ ts) h = (starts_leads m h).1

-- where a type or an expression begins, a block goes on
pub starts_further : (ts : Tokens) → next_is begins ts ≡ true → (goes_on ts ≡ true) × (case_goes_on ts ≡ true) × NoElse ts
unfolding goes_on case_goes_on
starts_further [] h = absurd (no_true h)
starts_further ((m, p) ∷ ts) h = rw (starts_leads m h).0 (refl, refl, refl)

stmt_begins : {free depth : ℕ} {from left : Tokens} {s : Stmt} → IsStmt free depth from s left → next_is begins_stmt from ≡ true
unfolding begins_stmt stmt_token
stmt_begins (inner_block b) = refl
stmt_begins empty = refl
stmt_begins (evaluate {from = from} a) = begins_both from (assign_begins a)
stmt_begins (if_only a b) = refl
stmt_begins (if_else a b o c) = refl
stmt_begins (while a b) = refl
stmt_begins (do_while a b) = refl
stmt_begins (for f t u s) = refl
stmt_begins (switch a b) = refl
stmt_begins break = refl
stmt_begins continue = refl
stmt_begins (return a) = refl

pub nested_begins : {free depth : ℕ} {from left : Tokens} {s : Stmt} → IsNested free depth from s left → next_is begins_stmt from ≡ true
nested_begins (nested w a) = stmt_begins a

stmt_no_vars : {free depth : ℕ} {from left : Tokens} {s : Stmt} → IsStmt free depth from s left → is_vars from ≡ false
unfolding is_vars is_name is_array primitive ends_expr
stmt_no_vars (inner_block b) = refl
stmt_no_vars empty = refl
stmt_no_vars (evaluate {p = p} {left = left} a) = assign_no_vars a (ends_follow ((sign signs.Semicolon, p) ∷ left) refl)
stmt_no_vars (if_only a b) = refl
stmt_no_vars (if_else a b o c) = refl
stmt_no_vars (while a b) = refl
stmt_no_vars (do_while a b) = refl
stmt_no_vars (for f t u s) = refl
stmt_no_vars (switch a b) = refl
stmt_no_vars break = refl
stmt_no_vars continue = refl
stmt_no_vars (return a) = refl

nested_no_vars : {free depth : ℕ} {from left : Tokens} {s : Stmt} → IsNested free depth from s left → is_vars from ≡ false
nested_no_vars (nested w a) = stmt_no_vars a

never : (b : Bool) → b ≡ false → b ≡ true → ⊥
never b h e = cc

pub closes_where : (s : Stmt) (ts : Tokens) → NoElse ts → Closes s ts
closes_where s ts h e = absurd (never (next_is (λ m. is_else (stmt_token m)) ts) h e)

locals_no_else : {free depth : ℕ} {from left : Tokens} {ss : List Stmt} → AreLocals free depth from ss left → NoElse left → NoElse from
locals_no_else no_locals s = s
locals_no_else (local_vars {from = from} a b) s = (starts_further from (vars_begin a)).2
locals_no_else (local_stmt {from = from} a b) s = (goes_further from (nested_begins a)).2

stmts_no_else : {free depth : ℕ} {from left : Tokens} {ss : List Stmt} → AreStmts free depth from ss left → NoElse left → NoElse from
stmts_no_else no_stmts s = s
stmts_no_else (more_stmts {from = from} a b) s = (goes_further from (nested_begins a)).2

label_begins : {from left : Tokens} {p : Position} {l : Label} → IsLabel from p l left → (goes_on from ≡ true) × (case_goes_on from ≡ false) × NoElse from
unfolding goes_on case_goes_on stmt_token
label_begins case = (refl, refl, refl)
label_begins case_minus = (refl, refl, refl)
label_begins default = (refl, refl, refl)

-- the statements of a label end here
abbrev Rests : Tokens → Type 0
Rests left = (case_goes_on left ≡ false) × NoElse left

cases_rest : {free depth : ℕ} {from left : Tokens} {cs : List Case} → AreCases free depth from cs left → Rests left → Rests from
cases_rest no_cases s = s
cases_rest (more_cases l a b) s = let q = label_begins l in (q.1, q.2)

label_read : {from left : Tokens} {p : Position} {l : Label} → IsLabel from p l left → label_at from ≡ Ok ((l, p), left)
unfolding label_at stmt_token case_value_at number_at next_is_sign is_sign same_sign
label_read (case {r = r} {left = left}) = rw (expect_again signs.Colon r left) refl
label_read (case_minus {o = o} {q = q} {r = r} {n = n} {left = left}) = rw (expect_again signs.Minus o ((number n, q) ∷ (sign signs.Colon, r) ∷ left), expect_again signs.Colon r left) refl
label_read (default {r = r} {left = left}) = rw (expect_again signs.Colon r left) refl

label_shorter : {from left : Tokens} {p : Position} {l : Label} → IsLabel from p l left → length left < length from
label_shorter case = omega arith
label_shorter case_minus = omega arith
label_shorter default = omega arith

semicolon_ends : (p : Position) (left : Tokens) → Ends ((sign signs.Semicolon, p) ∷ left)
unfolding ends_expr
semicolon_ends p left = refl

close_ends : (p : Position) (left : Tokens) → Ends ((sign signs.CloseParenthesis, p) ∷ left)
unfolding ends_expr
close_ends p left = refl

module _ (below : Below) where
  no_first_again : (p : Position) (left : Tokens) → first_with below ((sign signs.Semicolon, p) ∷ left) ≡ Ok (Empty p, left)
  unfolding first_with
  no_first_again p left = rw (next_is_sign-again signs.Semicolon p left, expect_again signs.Semicolon p left) refl

  first_vars_again : {free : ℕ} (from left : Tokens) (v : Vars) → next_is begins from ≡ true → is_vars from ≡ true → Reads Vars free (vars_statement_with below from) (v, left) → Reads Stmt free (first_with below from) (Declare (place_of_type v.of) v, left)
  unfolding first_with
  first_vars_again from left v b i h = rw (starts_no_semicolon from b, i) (then_reads _ h whole)

  first_expr_again : {free : ℕ} (p : Position) (from left : Tokens) (e : Expr) → next_is begins from ≡ true → is_vars from ≡ false → Reads Expr free (below true from) (e, (sign signs.Semicolon, p) ∷ left) → Reads Stmt free (first_with below from) (Evaluate (place_of e) e, left)
  unfolding first_with
  first_expr_again p from left e b i h = rw (begins_no_semicolon from b, i) (then_reads _ h (rw (expect_again signs.Semicolon p left) whole))

  no_test_again : (p : Position) (left : Tokens) → test_with below ((sign signs.Semicolon, p) ∷ left) ≡ Ok (None, left)
  unfolding test_with
  no_test_again p left = rw (next_is_sign-again signs.Semicolon p left, expect_again signs.Semicolon p left) refl

  test_again : {free : ℕ} (p : Position) (from left : Tokens) (e : Expr) → next_is begins from ≡ true → Reads Expr free (below true from) (e, (sign signs.Semicolon, p) ∷ left) → Reads (Option Expr) free (test_with below from) (Some e, left)
  unfolding test_with
  test_again p from left e b h = rw (begins_no_semicolon from b) (then_reads _ h (rw (expect_again signs.Semicolon p left) whole))

  no_result_again : (p : Position) (left : Tokens) → return_value_with below ((sign signs.Semicolon, p) ∷ left) ≡ Ok (None, left)
  unfolding return_value_with
  no_result_again p left = rw (next_is_sign-again signs.Semicolon p left, expect_again signs.Semicolon p left) refl

  result_again : {free : ℕ} (p : Position) (from left : Tokens) (e : Expr) → next_is begins from ≡ true → Reads Expr free (assign_with below from) (e, (sign signs.Semicolon, p) ∷ left) → Reads (Option Expr) free (return_value_with below from) (Some e, left)
  unfolding return_value_with
  result_again p from left e b h = rw (begins_no_semicolon from b) (then_reads _ h (rw (expect_again signs.Semicolon p left) whole))

  evaluate_again : {free : ℕ} (p : Position) (from left : Tokens) (e : Expr) → Reads Expr free (assign_with below from) (e, (sign signs.Semicolon, p) ∷ left) → Reads Stmt free (evaluate_with below from) (Evaluate (place_of e) e, left)
  unfolding evaluate_with
  evaluate_again p from left e h = then_reads _ h (rw (expect_again signs.Semicolon p left) whole)

first_read : {free depth : ℕ} {from left : Tokens} {s : Stmt} → IsFirst free depth from s left → (room : ℕ) → depth + room ≡ max_depth → Reads Stmt free (first_with (below_at room) from) (s, left)
first_read (no_first {p = p} {left = left}) room d = as_read (no_first_again (below_at room) p left)
first_read (first_vars {p = p} {from = from} {left = left} {v = v} a) room d = first_vars_again (below_at room) from left v (vars_begin a) (vars_vars a) (declared_read p left a room d)
first_read (first_expr {p = p} {from = from} {left = left} {e = e} a) room d =
    let s = semicolon_ends p left in
    first_expr_again (below_at room) p from left e (inner_begins a) (inner_no_vars a (ends_follow ((sign signs.Semicolon, p) ∷ left) s)) (inner_read a room d s)

test_read : {free depth : ℕ} {from left : Tokens} {c : Option Expr} → IsTest free depth from c left → (room : ℕ) → depth + room ≡ max_depth → Reads (Option Expr) free (test_with (below_at room) from) (c, left)
test_read (no_test {p = p} {left = left}) room d = as_read (no_test_again (below_at room) p left)
test_read (test {p = p} {from = from} {left = left} {e = e} a) room d = test_again (below_at room) p from left e (inner_begins a) (inner_read a room d (semicolon_ends p left))

result_read : {free depth : ℕ} {from left : Tokens} {c : Option Expr} → IsResult free depth from c left → (room : ℕ) → depth + room ≡ max_depth → Reads (Option Expr) free (return_value_with (below_at room) from) (c, left)
result_read (no_result {p = p} {left = left}) room d = as_read (no_result_again (below_at room) p left)
result_read (value {p = p} {from = from} {left = left} {e = e} a) room d = result_again (below_at room) p from left e (assign_begins a) (assign_read a room d (semicolon_ends p left))

only_true : (b : Bool) → (b ≡ true → true ≡ false) → b ≡ false
only_true true h = h refl
only_true false h = refl

module _ (below : Below) (deeper : Nested) where
  local_vars_again : {free : ℕ} (from left : Tokens) (v : Vars) → is_vars from ≡ true → Reads Vars free (vars_statement_with below from) (v, left) → Reads Stmt free (local_with below deeper from) (Declare (place_of_type v.of) v, left)
  unfolding local_with
  local_vars_again from left v i h = rw i (then_reads _ h whole)

  local_stmt_again : {free : ℕ} (from left : Tokens) (s : Stmt) → is_vars from ≡ false → Reads Stmt free (deeper from) (s, left) → Reads Stmt free (local_with below deeper from) (s, left)
  unfolding local_with
  local_stmt_again from left s i h = rw i h

  block_again : {free : ℕ} (p q : Position) (from left : Tokens) (ss : List Stmt) → ReadsAll free goes_on (local_with below deeper) from ss ((sign signs.CloseBrace, q) ∷ left) → Reads (List Stmt) free (block_with below deeper ((sign signs.OpenBrace, p) ∷ from)) (ss, left)
  unfolding block_with locals_with
  block_again p q from left ss r = rw (expect_again signs.OpenBrace p from) (then_reads _ (r (length from) (omega arith)) (rw (expect_again signs.CloseBrace q left) whole))

  inner_block_again : {free : ℕ} (p : Position) (from left : Tokens) (ss : List Stmt) → Reads (List Stmt) free (block_with below deeper ((sign signs.OpenBrace, p) ∷ from)) (ss, left) → Reads Stmt free (stmt_with below deeper ((sign signs.OpenBrace, p) ∷ from)) (Block p (stmts ss), left)
  unfolding stmt_with stmt_token
  inner_block_again p from left ss h = then_reads _ h whole

  alone_again : (from : Tokens) → next_is begins from ≡ true → stmt_with below deeper from ≡ evaluate_with below from
  unfolding stmt_with
  alone_again [] h = absurd (no_true h)
  alone_again ((m, p) ∷ ts) h = rw ((begins_leads m h).0) refl

  no_else_again : (p : Position) (c : Expr) (s : Stmt) (left : Tokens) → NoElse left → else_with deeper p c s left ≡ Ok (If p c s, left)
  unfolding else_with
  no_else_again p c s [] h = refl
  no_else_again p c s ((m, o) ∷ ts) h = rw h refl

  if_again : {free : ℕ} (p q r : Position) (from after left : Tokens) (c : Expr) (s : Stmt) → Reads Expr free (below true from) (c, (sign signs.CloseParenthesis, r) ∷ after) → Reads Stmt free (deeper after) (s, left) → NoElse left → Reads Stmt free (stmt_with below deeper ((reserved words.If, p) ∷ (sign signs.OpenParenthesis, q) ∷ from)) (If p c s, left)
  unfolding stmt_with stmt_token if_with
  if_again p q r from after left c s h i n = then_reads _ (bracketed_again below q r from after c h) (then_reads _ i (as_read (no_else_again p c s left n)))

  if_else_again : {free : ℕ} (p q r o : Position) (from after other left : Tokens) (c : Expr) (s t : Stmt) → Reads Expr free (below true from) (c, (sign signs.CloseParenthesis, r) ∷ after) → Reads Stmt free (deeper after) (s, (reserved words.Else, o) ∷ other) → Reads Stmt free (deeper other) (t, left) → Reads Stmt free (stmt_with below deeper ((reserved words.If, p) ∷ (sign signs.OpenParenthesis, q) ∷ from)) (IfElse p c s t, left)
  unfolding stmt_with stmt_token if_with else_with
  if_else_again p q r o from after other left c s t h i j = then_reads _ (bracketed_again below q r from after c h) (then_reads _ i (then_reads _ j whole))

  while_again : {free : ℕ} (p q r : Position) (from after left : Tokens) (c : Expr) (s : Stmt) → Reads Expr free (below true from) (c, (sign signs.CloseParenthesis, r) ∷ after) → Reads Stmt free (deeper after) (s, left) → Reads Stmt free (stmt_with below deeper ((reserved words.While, p) ∷ (sign signs.OpenParenthesis, q) ∷ from)) (While p c s, left)
  unfolding stmt_with stmt_token while_with
  while_again p q r from after left c s h i = then_reads _ (bracketed_again below q r from after c h) (then_reads _ i whole)

  do_again : {free : ℕ} (p q r o w : Position) (from after left : Tokens) (c : Expr) (s : Stmt) → Reads Stmt free (deeper from) (s, (reserved words.While, w) ∷ (sign signs.OpenParenthesis, q) ∷ after) → Reads Expr free (below true after) (c, (sign signs.CloseParenthesis, r) ∷ (sign signs.Semicolon, o) ∷ left) → Reads Stmt free (stmt_with below deeper ((reserved words.Do, p) ∷ from)) (DoWhile p s c, left)
  unfolding stmt_with stmt_token do_with while_at
  do_again p q r o w from after left c s i h = then_reads _ i (then_reads _ (bracketed_again below q r after ((sign signs.Semicolon, o) ∷ left) c h) (rw (expect_again signs.Semicolon o left) whole))

  for_again : {free : ℕ} (p q r : Position) (from second third after left : Tokens) (f s : Stmt) (c : Option Expr) (es : List Expr) → Reads Stmt free (first_with below from) (f, second) → Reads (Option Expr) free (test_with below second) (c, third) → Reads (List Expr) free (exprs_with below third) (es, (sign signs.CloseParenthesis, r) ∷ after) → Reads Stmt free (deeper after) (s, left) → Reads Stmt free (stmt_with below deeper ((reserved words.For, p) ∷ (sign signs.OpenParenthesis, q) ∷ from)) (For p f c es s, left)
  unfolding stmt_with stmt_token for_with
  for_again p q r from second third after left f s c es h i j k = rw (expect_again signs.OpenParenthesis q from) (then_reads _ h (then_reads _ i (then_reads _ j (rw (expect_again signs.CloseParenthesis r after) (then_reads _ k whole)))))

  case_again : {free : ℕ} (from first after : Tokens) (p : Position) (l : Label) (ss : List Stmt) → label_at from ≡ Ok ((l, p), first) → ReadsAll free case_goes_on deeper first ss after → Reads Case free (case_with deeper from) (labelled p l (stmts ss), after)
  unfolding case_with stmts_with
  case_again from first after p l ss h r = rw h (then_reads _ (r (length first) (omega arith)) whole)

  switch_again : {free : ℕ} (p q r o w : Position) (from after left : Tokens) (e : Expr) (cs : List Case) → Reads Expr free (below true from) (e, (sign signs.CloseParenthesis, r) ∷ (sign signs.OpenBrace, o) ∷ after) → ReadsAll free goes_on (case_with deeper) after cs ((sign signs.CloseBrace, w) ∷ left) → Reads Stmt free (stmt_with below deeper ((reserved words.Switch, p) ∷ (sign signs.OpenParenthesis, q) ∷ from)) (Switch p e (cases cs), left)
  unfolding stmt_with stmt_token switch_with cases_with
  switch_again p q r o w from after left e cs h c = then_reads _ (bracketed_again below q r from ((sign signs.OpenBrace, o) ∷ after) e h) (rw (expect_again signs.OpenBrace o after) (then_reads _ (c (length after) (omega arith)) (rw (expect_again signs.CloseBrace w left) whole)))

  break_again : (p q : Position) (left : Tokens) → stmt_with below deeper ((reserved words.Break, p) ∷ (sign signs.Semicolon, q) ∷ left) ≡ Ok (Break p, left)
  unfolding stmt_with stmt_token
  break_again p q left = rw (expect_again signs.Semicolon q left) refl

  continue_again : (p q : Position) (left : Tokens) → stmt_with below deeper ((reserved words.Continue, p) ∷ (sign signs.Semicolon, q) ∷ left) ≡ Ok (Continue p, left)
  unfolding stmt_with stmt_token
  continue_again p q left = rw (expect_again signs.Semicolon q left) refl

  return_again : {free : ℕ} (p : Position) (from left : Tokens) (c : Option Expr) → Reads (Option Expr) free (return_value_with below from) (c, left) → Reads Stmt free (stmt_with below deeper ((reserved words.Return, p) ∷ from)) (Return p c, left)
  unfolding stmt_with stmt_token
  return_again p from left c h = then_reads _ h whole

pub brace_rests : (p : Position) (left : Tokens) → (goes_on ((sign signs.CloseBrace, p) ∷ left) ≡ false) × (case_goes_on ((sign signs.CloseBrace, p) ∷ left) ≡ false) × NoElse ((sign signs.CloseBrace, p) ∷ left)
unfolding goes_on case_goes_on stmt_token
brace_rests p left = (refl, refl, refl)

while_no_else : (p : Position) (left : Tokens) → NoElse ((reserved words.While, p) ∷ left)
unfolding stmt_token
while_no_else p left = refl

-- where no deeper statement may begin
stmt_limit_cuts : (free : ℕ) (from left : Tokens) (s : Stmt) → next_is begins_stmt from ≡ true → length from ≤ free → Reads Stmt free (stmt_limit_at from) (s, left)
unfolding stmt_limit_at
stmt_limit_cuts free [] left s b l = absurd (no_true b)
stmt_limit_cuts free ((m, p) ∷ ts) left s b l = rw b (cut {free = free} {more = ts} (omega arith))

mutual
  unfolding nested_at stmt_with stmt_token

  pub nested_read : {free depth : ℕ} {from left : Tokens} {s : Stmt} → IsNested free depth from s left → (room : ℕ) → depth + room ≡ max_depth → Closes s left → Reads Stmt free (nested_at room from) (s, left)
  nested_read (nested {free = free} {depth = depth} {from = from} {left = left} {s = s} w a) zero d c = stmt_limit_cuts free from left s (stmt_begins a) (past free (length from) depth w d)
  nested_read (nested w a) (suc room) d c = stmt_read a room (omega arith) c

  locals_read : {free depth : ℕ} {from left : Tokens} {ss : List Stmt} → AreLocals free depth from ss left → (room : ℕ) → depth + room ≡ max_depth → goes_on left ≡ false → NoElse left → ReadsAll free goes_on (local_with (below_at room) (nested_at room)) from ss left
  locals_read (no_locals {left = left}) room d g n = none_again _ goes_on (local_with (below_at room) (nested_at room)) left g
  locals_read (local_vars {p = p} {from = from} {after = after} {left = left} {v = v} {ss = ss} a b) room d g n =
      let l = vars_shorter a in
      one_again _ goes_on (local_with (below_at room) (nested_at room)) from after left (Declare (place_of_type v.of) v) ss (starts_further from (vars_begin a)).0 (local_vars_again (below_at room) (nested_at room) from after v (vars_vars a) (declared_read p after a room d)) (omega arith) (locals_read b room d g n)
  locals_read (local_stmt {from = from} {after = after} {left = left} {s = s} {ss = ss} a b) room d g n =
      one_again _ goes_on (local_with (below_at room) (nested_at room)) from after left s ss (goes_further from (nested_begins a)).0 (local_stmt_again (below_at room) (nested_at room) from after s (nested_no_vars a) (nested_read a room d (closes_where s after (locals_no_else b n)))) (nested_shorter a) (locals_read b room d g n)

  pub block_read : {free depth : ℕ} {from left : Tokens} {ss : List Stmt} → IsBlock free depth from ss left → (room : ℕ) → depth + room ≡ max_depth → Reads (List Stmt) free (block_with (below_at room) (nested_at room) from) (ss, left)
  block_read (block {p = p} {q = q} {from = from} {left = left} {ss = ss} a) room d =
      let e = brace_rests q left in
      block_again (below_at room) (nested_at room) p q from left ss (locals_read a room d e.0 e.2)

  stmt_read : {free depth : ℕ} {from left : Tokens} {s : Stmt} → IsStmt free depth from s left → (room : ℕ) → depth + room ≡ max_depth → Closes s left → Reads Stmt free (stmt_with (below_at room) (nested_at room) from) (s, left)
  stmt_read (inner_block {p = p} {from = from} {left = left} {ss = ss} b) room d k = inner_block_again (below_at room) (nested_at room) p from left ss (block_read b room d)
  stmt_read empty room d k = whole
  stmt_read (evaluate {p = p} {from = from} {left = left} {e = e} a) room d k = rw (alone_again (below_at room) (nested_at room) from (assign_begins a)) (evaluate_again (below_at room) p from left e (assign_read a room d (semicolon_ends p left)))
  stmt_read (if_only {p = p} {q = q} {r = r} {from = from} {after = after} {left = left} {c = c} {s = s} a b) room d k =
      let n = only_true (next_is (λ m. is_else (stmt_token m)) left) k in
      if_again (below_at room) (nested_at room) p q r from after left c s (inner_read a room d (close_ends r after)) (nested_read b room d (closes_where s left n)) n
  stmt_read (if_else {p = p} {q = q} {r = r} {o = o} {from = from} {after = after} {other = other} {left = left} {c = c} {s = s} {t = t} a b n f) room d k =
      if_else_again (below_at room) (nested_at room) p q r o from after other left c s t (inner_read a room d (close_ends r after)) (nested_read b room d (λ e. n)) (nested_read f room d k)
  stmt_read (while {p = p} {q = q} {r = r} {from = from} {after = after} {left = left} {c = c} {s = s} a b) room d k =
      while_again (below_at room) (nested_at room) p q r from after left c s (inner_read a room d (close_ends r after)) (nested_read b room d k)
  stmt_read (do_while {p = p} {q = q} {r = r} {o = o} {w = w} {from = from} {after = after} {left = left} {c = c} {s = s} a b) room d k =
      do_again (below_at room) (nested_at room) p q r o w from after left c s (nested_read a room d (closes_where s ((reserved words.While, w) ∷ (sign signs.OpenParenthesis, q) ∷ after) (while_no_else w ((sign signs.OpenParenthesis, q) ∷ after)))) (inner_read b room d (close_ends r ((sign signs.Semicolon, o) ∷ left)))
  stmt_read (for {p = p} {q = q} {r = r} {from = from} {second = second} {third = third} {after = after} {left = left} {f = f} {s = s} {c = c} {es = es} i j l b) room d k =
      for_again (below_at room) (nested_at room) p q r from second third after left f s c es (first_read i room d) (test_read j room d) (exprs_read l room d (next_is_sign-again signs.CloseParenthesis r after)) (nested_read b room d k)
  stmt_read (switch {p = p} {q = q} {r = r} {o = o} {z = w} {from = from} {after = after} {left = left} {e = e} {cs = cs} a b) room d k =
      let v = brace_rests w left in
      switch_again (below_at room) (nested_at room) p q r o w from after left e cs (inner_read a room d (close_ends r ((sign signs.OpenBrace, o) ∷ after))) (cases_read b room d v.0 (v.1, v.2))
  stmt_read (break {p = p} {q = q} {left = left}) room d k = as_read (break_again (below_at room) (nested_at room) p q left)
  stmt_read (continue {p = p} {q = q} {left = left}) room d k = as_read (continue_again (below_at room) (nested_at room) p q left)
  stmt_read (return {p = p} {from = from} {left = left} {c = c} a) room d k = return_again (below_at room) (nested_at room) p from left c (result_read a room d)

  cases_read : {free depth : ℕ} {from left : Tokens} {cs : List Case} → AreCases free depth from cs left → (room : ℕ) → depth + room ≡ max_depth → goes_on left ≡ false → Rests left → ReadsAll free goes_on (case_with (nested_at room)) from cs left
  cases_read (no_cases {left = left}) room d g n = none_again _ goes_on (case_with (nested_at room)) left g
  cases_read (more_cases {p = p} {from = from} {first = first} {after = after} {left = left} {l = l} {ss = ss} {cs = cs} i a b) room d g n =
      let x = label_shorter i in let y = stmts_shorter a in
      one_again _ goes_on (case_with (nested_at room)) from after left (labelled p l (stmts ss)) cs (label_begins i).0 (case_again (below_at room) (nested_at room) from first after p l ss (label_read i) (stmts_read a room d (cases_rest b n))) (omega arith) (cases_read b room d g n)

  stmts_read : {free depth : ℕ} {from left : Tokens} {ss : List Stmt} → AreStmts free depth from ss left → (room : ℕ) → depth + room ≡ max_depth → Rests left → ReadsAll free case_goes_on (nested_at room) from ss left
  stmts_read (no_stmts {left = left}) room d n = none_again _ case_goes_on (nested_at room) left n.0
  stmts_read (more_stmts {from = from} {after = after} {left = left} {s = s} {ss = ss} a b) room d n =
      one_again _ case_goes_on (nested_at room) from after left s ss (goes_further from (nested_begins a)).1 (nested_read a room d (closes_where s after (stmts_no_else b n.1))) (nested_shorter a) (stmts_read b room d n)
