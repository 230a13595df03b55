-- What is before the place where the reading of a type, of variables or of a statement stops begins one.
use Rattle.std.proofs.Common.{◌≡◌, ℕ, ◌+◌, ◌≤◌, List, [], ◌∷◌, ◌++◌, Bool, true, false, cond, Some, None, Ok, Err, refl, sym, ap, subst, length}
use Rattle.ash_lex.specs.Tokens.{Meaning, name, number, sign, reserved, unsupported}
use Rattle.ash_lex.specs.declared.signs.Sign.TheVariants as signs
use Rattle.ash_lex.specs.declared.words.ReservedWord.TheVariants as words
use Rattle.ash_tree.specs.declared.tree.places.Position.{Position}
use Rattle.ash_tree.specs.declared.tree.statements.Label.{Label}
use Rattle.ash_tree.specs.declared.tree.statements.Label.TheVariants as labels
use Rattle.ash_tree.specs.Tree.{Named, Expr, Initializer, Default, Value, Arguments, Decl, Stmt, Empty, Declare, Evaluate, Block, If, IfElse, While, DoWhile, For, Switch, Break, Continue, Return, Case, labelled, place_of, place_of_type, stmts, cases}
use Rattle.ash_tree.specs.GrammarTokens.{Tokens}
use Rattle.ash_tree.specs.Expressions.{IsInner, AreExprs, IsArgs, IsAssign}
use Rattle.ash_tree.specs.Types.{IsType}
use Rattle.ash_tree.specs.Statements.{IsDecl, bare, valued, made, AreMoreDecls, no_more_decls, more_decls, IsVars, vars, IsFirst, no_first, first_vars, first_expr, IsTest, no_test, test, IsResult, no_result, value, IsLabel, case, case_minus, default, is_open, IsNested, AreLocals, no_locals, local_vars, local_stmt, IsBlock, block, IsStmt, inner_block, empty, evaluate, if_only, if_else, while, do_while, for, switch, break, continue, return, AreCases, no_cases, more_cases, AreStmts, no_stmts, more_stmts}
use Rattle.ash_parse.specs.declared.stmt_tokens.StmtToken.{StmtToken}
use Rattle.ash_parse.specs.declared.stmt_tokens.StmtToken.TheVariants as stmt_tokens
use Rattle.ash_parse.specs.Readers.{ParseResult, Unexpected, ◌>>=◌, next_is_sign, expect_at}
use Rattle.ash_parse.specs.ExpressionReader.{Below, arguments_with, bracketed_with, exprs_with, assign_with}
use Rattle.ash_parse.specs.StatementReader.{Nested, type_at, is_vars, initializer_with, decl_with, next_decl_with, more_decls_with, decls_with, vars_with, vars_statement_with, first_with, test_with, return_value_with, stmt_token, goes_on, case_goes_on, evaluate_with, is_else, else_with, if_with, while_with, is_while, while_at, do_with, for_with, number_at, case_value_at, label_by, label_at, stmts_with, case_with, cases_with, switch_with, local_with, locals_with, block_with, stmt_by, stmt_with}
use Rattle.ash_parse.proofs.Readings.{expect_again}
use Rattle.ash_parse.proofs.ExpressionSound.{IsPart}
use Rattle.ash_parse.proofs.StatementSound.{Closes, Leads, leads_to, while_leads, else_leads}
use Rattle.ash_parse.proofs.BeginLaws.{Law, Filled, Explained, Then, After, Grows, Ending, then, explain_then, fill_then, law_as, done, done_at, fill_here, stopped_at, stops_here, after, fill_after, explain_after, either, explain_either, sign_then, name_then, ending, put_law, all_of, nowhere}
use Rattle.ash_parse.proofs.BeginTypes.{begin_type}
use Rattle.ash_parse.proofs.BeginExpressions.{IsBracketed, bracketed, begin_exprs, begin_args, begin_bracketed, begin_assign}

-- decl { "," decl }
data AreDecls : ℕ → ℕ → Tokens → List Decl → Tokens → Type 0 where
  decls : {free depth : ℕ} {from after left : Tokens} {d : Decl} {ds : List Decl} → IsDecl free depth from d after → AreMoreDecls free depth after ds left → AreDecls free depth from (d ∷ ds) left

vars_by : {free depth : ℕ} {from first left : Tokens} {t : Named} {ds : List Decl} → IsType from t first → AreDecls free depth first ds left → IsVars free depth from (record { of = t; decls = ds }) left
vars_by t (decls d more) = vars t d more

-- the word `while`, and what is read after it
explain_while : {A : Type 0} (Q : ℕ → Tokens → A → Tokens → Type 0) (f : Position × Tokens → ParseResult A) (ts : Tokens) → Filled Q → ((p : Position) (rest : Tokens) → Explained (f (p, rest)) rest (After (reserved words.While, p) Q)) → Explained (while_at ts >>= f) ts Q
unfolding while_at
explain_while Q f [] fill go = stopped_at Q [] fill
explain_while {A} Q f ((m, p) ∷ ts) fill go =
    let M : Bool → Type 0 = λ b. is_while (stmt_token m) ≡ b → Explained (◌>>=◌ {A = Position} {B = A} (cond b (Ok (p, ts)) (Err (Unexpected ((m, p) ∷ ts)))) f) ((m, p) ∷ ts) Q in
    (elim (is_while (stmt_token m)) as M [ true ↦ λ e. subst (λ w. Explained (f (p, ts)) ((w, p) ∷ ts) Q) (sym (while_leads (stmt_token m) m (leads_to m) e)) (explain_after Q (reserved words.While, p) (f (p, ts)) ts (go p ts)) | false ↦ λ e. stopped_at Q ((m, p) ∷ ts) fill ]) refl

while_then : {A : Type 0} (Q : ℕ → Tokens → A → Tokens → Type 0) (f : Position × Tokens → ParseResult A) (ts : Tokens) → ((p : Position) (rest : Tokens) → Law (f (p, rest)) rest (After (reserved words.While, p) Q)) → Law (while_at ts >>= f) ts Q
while_then Q f ts go =
    let fill : Filled Q = fill_after Q (reserved words.While, nowhere) (go nowhere []).filled in
    record { explained = explain_while Q f ts fill (λ p rest. (go p rest).explained); filled = fill }

-- a number, and what is read after it
explain_number : {A : Type 0} (Q : ℕ → Tokens → A → Tokens → Type 0) (f : (ℕ × Position) × Tokens → ParseResult A) (ts : Tokens) → Filled Q → ((n : ℕ × Position) (rest : Tokens) → Explained (f (n, rest)) rest (After (number n.0, n.1) Q)) → Explained (number_at ts >>= f) ts Q
unfolding number_at
explain_number Q f [] fill go = stopped_at Q [] fill
explain_number Q f ((number n, p) ∷ ts) fill go = explain_after Q (number n, p) (f ((n, p), ts)) ts (go (n, p) ts)
explain_number Q f ((name n, p) ∷ ts) fill go = stopped_at Q ((name n, p) ∷ ts) fill
explain_number Q f ((sign n, p) ∷ ts) fill go = stopped_at Q ((sign n, p) ∷ ts) fill
explain_number Q f ((reserved n, p) ∷ ts) fill go = stopped_at Q ((reserved n, p) ∷ ts) fill
explain_number Q f ((unsupported n, p) ∷ ts) fill go = stopped_at Q ((unsupported n, p) ∷ ts) fill

number_then : {A : Type 0} (Q : ℕ → Tokens → A → Tokens → Type 0) (f : (ℕ × Position) × Tokens → ParseResult A) (ts : Tokens) → ((n : ℕ × Position) (rest : Tokens) → Law (f (n, rest)) rest (After (number n.0, n.1) Q)) → Law (number_at ts >>= f) ts Q
number_then Q f ts go =
    let fill : Filled Q = fill_after Q (number 0, nowhere) (go (0, nowhere) []).filled in
    record { explained = explain_number Q f ts fill (λ p rest. (go p rest).explained); filled = fill }

-- a label with its place
abbrev Labels : ℕ → Tokens → Label × Position → Tokens → Type 0
Labels free from x left = IsLabel from x.1 x.0 left

begin_case_value : (p : Position) (ts : Tokens) → Law (case_value_at ts) ts (After (reserved words.Case, p) Labels)
unfolding case_value_at
begin_case_value p ts =
    either (next_is_sign signs.Minus ts) _ _ ts _
    (sign_then _ signs.Minus _ ts (λ o r. number_then _ _ r (λ n s. sign_then _ signs.Colon _ s (λ c t. done _ (labels.CaseMinus n.0, o) t (λ free left. case_minus)))))
    (number_then _ _ ts (λ n s. sign_then _ signs.Colon _ s (λ c t. done _ (labels.Case n.0, n.1) t (λ free left. case))))

fill_label : Filled Labels
fill_label = fill_after _ (reserved words.Default, nowhere) (fill_after _ (sign signs.Colon, nowhere) (fill_here _ (labels.Default, nowhere) (λ free left. default)))

begin_label_by : (k : StmtToken) (m : Meaning) (p : Position) (ts : Tokens) → Leads k m → Law (label_by k m p ts) ((m, p) ∷ ts) Labels
begin_label_by stmt_tokens.Case m p ts d = subst (λ w. Law (case_value_at ts) ((w, p) ∷ ts) Labels) (sym d) (after _ (reserved words.Case, p) _ ts (begin_case_value p ts))
begin_label_by stmt_tokens.Default m p ts d =
    subst (λ w. Law (expect_at signs.Colon ts >>= λ c. Ok ((labels.Default, p), c.1)) ((w, p) ∷ ts) Labels) (sym d)
    (after _ (reserved words.Default, p) _ ts (sign_then _ signs.Colon _ ts (λ c r. done _ (labels.Default, p) r (λ free left. default))))
begin_label_by _ m p ts d = stops_here Labels ((m, p) ∷ ts) fill_label

begin_label : (ts : Tokens) → Law (label_at ts) ts Labels
unfolding label_at
begin_label [] = stops_here Labels [] fill_label
begin_label ((m, p) ∷ ts) = begin_label_by (stmt_token m) m p ts (leads_to m)

module _ (depth : ℕ) (below : Below) (whole : (ts : Tokens) → Law (below true ts) ts (λ free. IsInner free depth)) (part : (ts : Tokens) → Law (below false ts) ts (λ free. IsPart free depth)) where
  -- a decl after its name
  Rest : Position → List ℕ → ℕ → Tokens → Initializer → Tokens → Type 0
  Rest p t free from i left = IsDecl free depth ((name t, p) ∷ from) (record { place = p; name = t; initializer = i }) left

  begin_initializer : (p : Position) (t : List ℕ) (ts : Tokens) → Law (initializer_with below ts) ts (Rest p t)
  unfolding initializer_with Rest
  begin_initializer p t ts =
      either (next_is_sign signs.Assign ts) _ _ ts _
      (sign_then _ signs.Assign _ ts
      (λ q r. then (λ free. IsAssign free depth) _ (assign_with below r) _ r (begin_assign depth below whole part r)
      (λ e s. done _ (Value e) s (λ free left before d. valued d))))
      (either (next_is_sign signs.OpenParenthesis ts) _ _ ts _
      (then (λ free. IsArgs free depth) _ (arguments_with below ts) _ ts (begin_args depth below whole part ts)
      (λ es r. done _ (Arguments es) r (λ free left before d. made d)))
      (done _ Default ts (λ free left. bare)))

  begin_decl : (ts : Tokens) → Law (decl_with below ts) ts (λ free. IsDecl free depth)
  unfolding decl_with Rest
  begin_decl ts =
      name_then _ _ ts
      (λ n r. then (Rest n.1 n.0) _ (initializer_with below r) _ r (begin_initializer n.1 n.0 r)
      (λ i s. done _ (record { place = n.1; name = n.0; initializer = i }) s (λ free left before d. d)))

  begin_next_decl : (ts : Tokens) → Law (next_decl_with below ts) ts (Grows (λ free. AreMoreDecls free depth))
  unfolding next_decl_with
  begin_next_decl ts =
      sign_then _ signs.Comma _ ts
      (λ p r. law_as (λ free. IsDecl free depth) _ (λ free from x left d xs end more. more_decls d more) (decl_with below r) r (begin_decl r))

  begin_more_decls : (ts : Tokens) → Law (more_decls_with below ts) ts (λ free. AreMoreDecls free depth)
  unfolding more_decls_with
  begin_more_decls ts = all_of (next_is_sign signs.Comma) (next_decl_with below) (λ free. AreMoreDecls free depth) (λ free left. no_more_decls) (λ s b. (begin_next_decl s).explained) (length ts) ts

  begin_decls : (ts : Tokens) → Law (decls_with below ts) ts (λ free. AreDecls free depth)
  unfolding decls_with
  begin_decls ts =
      then (λ free. IsDecl free depth) _ (decl_with below ts) _ ts (begin_decl ts)
      (λ x r. put_law (λ free. AreMoreDecls free depth) _ x (λ free from xs left more before d. decls d more) (more_decls_with below r) r (begin_more_decls r))

  begin_vars : (ts : Tokens) → Law (vars_with below ts) ts (λ free. IsVars free depth)
  unfolding vars_with
  begin_vars ts =
      then (λ free. IsType) _ (type_at ts) _ ts (begin_type ts)
      (λ t r. then (λ free. AreDecls free depth) _ (decls_with below r) _ r (begin_decls r)
      (λ ds s. done _ (record { of = t; decls = ds }) s (λ free left middle ds before d. vars_by d ds)))

  pub begin_declared : (ts : Tokens) → Law (vars_statement_with below ts) ts (Ending signs.Semicolon (λ free. IsVars free depth))
  unfolding vars_statement_with
  begin_declared ts = ending (λ free. IsVars free depth) signs.Semicolon (vars_with below ts) ts (begin_vars ts)

  begin_first : (ts : Tokens) → Law (first_with below ts) ts (λ free. IsFirst free depth)
  unfolding first_with
  begin_first ts =
      either (next_is_sign signs.Semicolon ts) _ _ ts _
      (sign_then _ signs.Semicolon _ ts (λ p r. done _ (Empty p) r (λ free left. no_first)))
      (either (is_vars ts) _ _ ts _
      (then (Ending signs.Semicolon (λ free. IsVars free depth)) _ (vars_statement_with below ts) _ ts (begin_declared ts)
      (λ v r. done _ (Declare (place_of_type v.of) v) r (λ free left before d. first_vars d.1)))
      (then (λ free. IsInner free depth) _ (below true ts) _ ts (whole ts)
      (λ e r. sign_then _ signs.Semicolon _ r
      (λ p s. done _ (Evaluate (place_of e) e) s (λ free left before d. first_expr d)))))

  begin_test : (ts : Tokens) → Law (test_with below ts) ts (λ free. IsTest free depth)
  unfolding test_with
  begin_test ts =
      either (next_is_sign signs.Semicolon ts) _ _ ts _
      (sign_then _ signs.Semicolon _ ts (λ p r. done _ None r (λ free left. no_test)))
      (then (λ free. IsInner free depth) _ (below true ts) _ ts (whole ts)
      (λ e r. sign_then _ signs.Semicolon _ r
      (λ p s. done _ (Some e) s (λ free left before d. test d))))

  begin_result : (ts : Tokens) → Law (return_value_with below ts) ts (λ free. IsResult free depth)
  unfolding return_value_with
  begin_result ts =
      either (next_is_sign signs.Semicolon ts) _ _ ts _
      (sign_then _ signs.Semicolon _ ts (λ p r. done _ None r (λ free left. no_result)))
      (then (λ free. IsAssign free depth) _ (assign_with below ts) _ ts (begin_assign depth below whole part ts)
      (λ e r. sign_then _ signs.Semicolon _ r
      (λ p s. done _ (Some e) s (λ free left before d. value d))))

  begin_evaluate : (ts : Tokens) → Law (evaluate_with below ts) ts (λ free. IsStmt free depth)
  unfolding evaluate_with
  begin_evaluate ts =
      then (λ free. IsAssign free depth) _ (assign_with below ts) _ ts (begin_assign depth below whole part ts)
      (λ e r. sign_then _ signs.Semicolon _ r
      (λ p s. done _ (Evaluate (place_of e) e) s (λ free left before d. evaluate d)))

-- each of these statements, whose brackets were read with their expression
if_by : {free depth : ℕ} {p : Position} {from after left : Tokens} {c : Expr} {s : Stmt} → IsBracketed free depth from c after → IsNested free depth after s left → IsStmt free depth ((reserved words.If, p) ∷ from) (If p c s) left
if_by (bracketed i) n = if_only i n

if_else_by : {free depth : ℕ} {p o : Position} {from after other left : Tokens} {c : Expr} {s t : Stmt} → IsBracketed free depth from c after → IsNested free depth after s ((reserved words.Else, o) ∷ other) → is_open s ≡ false → IsNested free depth other t left → IsStmt free depth ((reserved words.If, p) ∷ from) (IfElse p c s t) left
if_else_by (bracketed i) n closes m = if_else i n closes m

while_by : {free depth : ℕ} {p : Position} {from after left : Tokens} {c : Expr} {s : Stmt} → IsBracketed free depth from c after → IsNested free depth after s left → IsStmt free depth ((reserved words.While, p) ∷ from) (While p c s) left
while_by (bracketed i) n = while i n

do_by : {free depth : ℕ} {p w o : Position} {from after left : Tokens} {c : Expr} {s : Stmt} → IsBracketed free depth after c ((sign signs.Semicolon, o) ∷ left) → IsNested free depth from s ((reserved words.While, w) ∷ after) → IsStmt free depth ((reserved words.Do, p) ∷ from) (DoWhile p s c) left
do_by (bracketed i) n = do_while n i

switch_by : {free depth : ℕ} {p o z : Position} {from after left : Tokens} {e : Expr} {cs : List Case} → IsBracketed free depth from e ((sign signs.OpenBrace, o) ∷ after) → AreCases free depth after cs ((sign signs.CloseBrace, z) ∷ left) → IsStmt free depth ((reserved words.Switch, p) ∷ from) (Switch p e (cases cs)) left
switch_by (bracketed i) cs = switch i cs

fill_stmt : (depth : ℕ) → Filled (λ free. IsStmt free depth)
fill_stmt depth = fill_after _ (sign signs.Semicolon, nowhere) (fill_here _ (Empty nowhere) (λ free left. empty))

module _ (depth : ℕ) (below : Below) (deeper : Nested) (whole : (ts : Tokens) → Law (below true ts) ts (λ free. IsInner free depth)) (part : (ts : Tokens) → Law (below false ts) ts (λ free. IsPart free depth)) (one : (ts : Tokens) → Law (deeper ts) ts (λ free. IsNested free depth)) (closes : (ts : Tokens) (x : Stmt) (rest : Tokens) → deeper ts ≡ Ok (x, rest) → Closes x rest) where
  begin_local : (ts : Tokens) → Law (local_with below deeper ts) ts (Grows (λ free. AreLocals free depth))
  unfolding local_with
  begin_local ts =
      either (is_vars ts) _ _ ts _
      (then (Ending signs.Semicolon (λ free. IsVars free depth)) _ (vars_statement_with below ts) _ ts (begin_declared depth below whole part ts)
      (λ v r. done _ (Declare (place_of_type v.of) v) r (λ free left before d xs end more. local_vars d.1 more)))
      (law_as (λ free. IsNested free depth) _ (λ free from x left d xs end more. local_stmt d more) (deeper ts) ts (one ts))

  begin_locals : (ts : Tokens) → Law (locals_with below deeper ts) ts (λ free. AreLocals free depth)
  unfolding locals_with
  begin_locals ts = all_of goes_on (local_with below deeper) (λ free. AreLocals free depth) (λ free left. no_locals) (λ s b. (begin_local s).explained) (length ts) ts

  -- a block after its "{"
  begin_inside : (ts : Tokens) → Law (locals_with below deeper ts >>= λ ss. expect_at signs.CloseBrace ss.1 >>= λ z. Ok (ss.0, z.1)) ts (Ending signs.CloseBrace (λ free. AreLocals free depth))
  begin_inside ts = ending (λ free. AreLocals free depth) signs.CloseBrace (locals_with below deeper ts) ts (begin_locals ts)

  pub begin_block : (ts : Tokens) → Law (block_with below deeper ts) ts (λ free. IsBlock free depth)
  unfolding block_with
  begin_block ts =
      sign_then _ signs.OpenBrace _ ts
      (λ p r. law_as (Ending signs.CloseBrace (λ free. AreLocals free depth)) _ (λ free from ss left d. block d.1) (locals_with below deeper r >>= λ ss. expect_at signs.CloseBrace ss.1 >>= λ z. Ok (ss.0, z.1)) r (begin_inside r))

  opened : (p : Position) (ts : Tokens) → (locals_with below deeper ts >>= λ ss. expect_at signs.CloseBrace ss.1 >>= λ z. Ok (ss.0, z.1)) ≡ block_with below deeper ((sign signs.OpenBrace, p) ∷ ts)
  unfolding block_with
  opened p ts = ap (λ (o : ParseResult Position). ◌>>=◌ {B = List Stmt} o (λ o. locals_with below deeper o.1 >>= λ ss. expect_at signs.CloseBrace ss.1 >>= λ z. Ok (ss.0, z.1))) (sym (expect_again signs.OpenBrace p ts))

  begin_block_stmt : (p : Position) (ts : Tokens) → Law (block_with below deeper ((sign signs.OpenBrace, p) ∷ ts) >>= λ b. Ok (Block p (stmts b.0), b.1)) ((sign signs.OpenBrace, p) ∷ ts) (λ free. IsStmt free depth)
  begin_block_stmt p ts =
      subst (λ (o : ParseResult (List Stmt)). Law (o >>= λ b. Ok (Block p (stmts b.0), b.1)) ((sign signs.OpenBrace, p) ∷ ts) (λ free. IsStmt free depth)) (opened p ts)
      (after _ (sign signs.OpenBrace, p) _ ts (then (Ending signs.CloseBrace (λ free. AreLocals free depth)) _ (locals_with below deeper ts >>= λ ss. expect_at signs.CloseBrace ss.1 >>= λ z. Ok (ss.0, z.1)) _ ts (begin_inside ts)
      (λ ss r. done _ (Block p (stmts ss)) r (λ free left before d. inner_block (block d.1)))))

  begin_stmts : (ts : Tokens) → Law (stmts_with deeper ts) ts (λ free. AreStmts free depth)
  unfolding stmts_with
  begin_stmts ts =
      all_of case_goes_on deeper (λ free. AreStmts free depth) (λ free left. no_stmts)
      (λ s b. (law_as (λ free. IsNested free depth) (Grows (λ free. AreStmts free depth)) (λ free from x left d xs end more. more_stmts d more) (deeper s) s (one s)).explained) (length ts) ts

  begin_case : (ts : Tokens) → Law (case_with deeper ts) ts (Grows (λ free. AreCases free depth))
  unfolding case_with
  begin_case ts =
      then Labels _ (label_at ts) _ ts (begin_label ts)
      (λ l r. then (λ free. AreStmts free depth) _ (stmts_with deeper r) _ r (begin_stmts r)
      (λ ss s. done _ (labelled l.1 l.0 (stmts ss)) s (λ free left middle ss before l xs end more. more_cases l ss more)))

  begin_cases : (ts : Tokens) → Law (cases_with deeper ts) ts (λ free. AreCases free depth)
  unfolding cases_with
  begin_cases ts = all_of goes_on (case_with deeper) (λ free. AreCases free depth) (λ free left. no_cases) (λ s b. (begin_case s).explained) (length ts) ts

  -- what is after the condition of an `if`
  Branch : Position → Expr → ℕ → Tokens → Stmt → Tokens → Type 0
  Branch p c free from y left = (before : Tokens) → IsBracketed free depth before c from → IsStmt free depth ((reserved words.If, p) ∷ before) y left

  begin_else : (p : Position) (c : Expr) (s : Stmt) (ts : Tokens) → Closes s ts → Explained (else_with deeper p c s ts) ts (Then (λ free. IsNested free depth) (Branch p c) s)
  unfolding else_with Branch
  begin_else p c s [] h = done_at _ (If p c s) [] (λ free left middle n before b. if_by b n)
  begin_else p c s ((m, o) ∷ ts) h =
      explain_either (is_else (stmt_token m)) (deeper ts >>= λ t. Ok (IfElse p c s t.0, t.1)) (Ok (If p c s, (m, o) ∷ ts)) ((m, o) ∷ ts) (Then (λ free. IsNested free depth) (Branch p c) s)
      (λ e. subst (λ w. Explained (deeper ts >>= λ t. Ok (IfElse p c s t.0, t.1)) ((w, o) ∷ ts) (Then (λ free. IsNested free depth) (Branch p c) s)) (sym (else_leads (stmt_token m) m (leads_to m) e))
      (after (Then (λ free. IsNested free depth) (Branch p c) s) (reserved words.Else, o) (deeper ts >>= λ t. Ok (IfElse p c s t.0, t.1)) ts (then (λ free. IsNested free depth) _ (deeper ts) _ ts (one ts)
      (λ t r. done _ (IfElse p c s t) r (λ free left third n middle k before b. if_else_by b k (h e) n)))).explained)
      (λ e. done_at _ (If p c s) ((m, o) ∷ ts) (λ free left middle n before b. if_by b n))

  begin_branch : (p : Position) (c : Expr) (ts : Tokens) → Law (deeper ts >>= λ s. else_with deeper p c s.0 s.1) ts (Branch p c)
  unfolding Branch
  begin_branch p c ts = record {
    explained = explain_then (λ free. IsNested free depth) (Branch p c) (deeper ts) (λ s. else_with deeper p c s.0 s.1) ts (one ts).explained (λ s. fill_here _ (If p c s) (λ free left middle n before b. if_by b n)) (λ s rest e. begin_else p c s rest (closes ts s rest e));
    filled = fill_then (λ free. IsNested free depth) (Branch p c) (one ts).filled (fill_here _ (If p c (one ts).filled.tree) (λ free left middle n before b. if_by b n));
  }

  begin_if : (p : Position) (ts : Tokens) → Law (if_with below deeper p ts) ts (After (reserved words.If, p) (λ free. IsStmt free depth))
  unfolding if_with Branch
  begin_if p ts = then (λ free. IsBracketed free depth) _ (bracketed_with below ts) _ ts (begin_bracketed depth below whole part ts) (λ c r. begin_branch p c r)

  begin_while : (p : Position) (ts : Tokens) → Law (while_with below deeper p ts) ts (After (reserved words.While, p) (λ free. IsStmt free depth))
  unfolding while_with
  begin_while p ts =
      then (λ free. IsBracketed free depth) _ (bracketed_with below ts) _ ts (begin_bracketed depth below whole part ts)
      (λ c r. then (λ free. IsNested free depth) _ (deeper r) _ r (one r)
      (λ s t. done _ (While p c s) t (λ free left middle n before b. while_by b n)))

  begin_do : (p : Position) (ts : Tokens) → Law (do_with below deeper p ts) ts (After (reserved words.Do, p) (λ free. IsStmt free depth))
  unfolding do_with
  begin_do p ts =
      then (λ free. IsNested free depth) _ (deeper ts) _ ts (one ts)
      (λ s r. while_then _ _ r
      (λ w t. then (λ free. IsBracketed free depth) _ (bracketed_with below t) _ t (begin_bracketed depth below whole part t)
      (λ c u. sign_then _ signs.Semicolon _ u
      (λ o v. done _ (DoWhile p s c) v (λ free left middle b before n. do_by b n)))))

  begin_for : (p : Position) (ts : Tokens) → Law (for_with below deeper p ts) ts (After (reserved words.For, p) (λ free. IsStmt free depth))
  unfolding for_with
  begin_for p ts =
      sign_then _ signs.OpenParenthesis _ ts
      (λ o a. then (λ free. IsFirst free depth) _ (first_with below a) _ a (begin_first depth below whole part a)
      (λ f b. then (λ free. IsTest free depth) _ (test_with below b) _ b (begin_test depth below whole part b)
      (λ c d. then (λ free. AreExprs free depth) _ (exprs_with below d) _ d (begin_exprs depth below whole part d)
      (λ es e. sign_then _ signs.CloseParenthesis _ e
      (λ z g. then (λ free. IsNested free depth) _ (deeper g) _ g (one g)
      (λ s t. done _ (For p f c es s) t (λ free left fourth n third xs second k first i. for i k xs n)))))))

  begin_switch : (p : Position) (ts : Tokens) → Law (switch_with below deeper p ts) ts (After (reserved words.Switch, p) (λ free. IsStmt free depth))
  unfolding switch_with
  begin_switch p ts =
      then (λ free. IsBracketed free depth) _ (bracketed_with below ts) _ ts (begin_bracketed depth below whole part ts)
      (λ e r. sign_then _ signs.OpenBrace _ r
      (λ o t. then (λ free. AreCases free depth) _ (cases_with deeper t) _ t (begin_cases t)
      (λ cs u. sign_then _ signs.CloseBrace _ u
      (λ z v. done _ (Switch p e (cases cs)) v (λ free left middle k before b. switch_by b k)))))

  -- a statement by what leads it
  Led : StmtToken → Meaning → Position → Tokens → Type 0
  Led k m p ts = Law (stmt_by k below deeper m p ts) ((m, p) ∷ ts) (λ free. IsStmt free depth)

  begin_stmt_by : (k : StmtToken) (m : Meaning) (p : Position) (ts : Tokens) → Leads k m → Led k m p ts
  unfolding Led
  begin_stmt_by stmt_tokens.Block m p ts d = subst (λ w. Law (block_with below deeper ((w, p) ∷ ts) >>= λ b. Ok (Block p (stmts b.0), b.1)) ((w, p) ∷ ts) (λ free. IsStmt free depth)) (sym d) (begin_block_stmt p ts)
  begin_stmt_by stmt_tokens.Empty m p ts d = subst (λ w. Law (Ok (Empty p, ts)) ((w, p) ∷ ts) (λ free. IsStmt free depth)) (sym d) (after _ (sign signs.Semicolon, p) _ ts (done _ (Empty p) ts (λ free left. empty)))
  begin_stmt_by stmt_tokens.If m p ts d = subst (λ w. Law (if_with below deeper p ts) ((w, p) ∷ ts) (λ free. IsStmt free depth)) (sym d) (after _ (reserved words.If, p) _ ts (begin_if p ts))
  begin_stmt_by stmt_tokens.While m p ts d = subst (λ w. Law (while_with below deeper p ts) ((w, p) ∷ ts) (λ free. IsStmt free depth)) (sym d) (after _ (reserved words.While, p) _ ts (begin_while p ts))
  begin_stmt_by stmt_tokens.Do m p ts d = subst (λ w. Law (do_with below deeper p ts) ((w, p) ∷ ts) (λ free. IsStmt free depth)) (sym d) (after _ (reserved words.Do, p) _ ts (begin_do p ts))
  begin_stmt_by stmt_tokens.For m p ts d = subst (λ w. Law (for_with below deeper p ts) ((w, p) ∷ ts) (λ free. IsStmt free depth)) (sym d) (after _ (reserved words.For, p) _ ts (begin_for p ts))
  begin_stmt_by stmt_tokens.Switch m p ts d = subst (λ w. Law (switch_with below deeper p ts) ((w, p) ∷ ts) (λ free. IsStmt free depth)) (sym d) (after _ (reserved words.Switch, p) _ ts (begin_switch p ts))
  begin_stmt_by stmt_tokens.Break m p ts d =
      subst (λ w. Law (expect_at signs.Semicolon ts >>= λ s. Ok (Break p, s.1)) ((w, p) ∷ ts) (λ free. IsStmt free depth)) (sym d)
      (after _ (reserved words.Break, p) _ ts (sign_then _ signs.Semicolon _ ts (λ q r. done _ (Break p) r (λ free left. break))))
  begin_stmt_by stmt_tokens.Continue m p ts d =
      subst (λ w. Law (expect_at signs.Semicolon ts >>= λ s. Ok (Continue p, s.1)) ((w, p) ∷ ts) (λ free. IsStmt free depth)) (sym d)
      (after _ (reserved words.Continue, p) _ ts (sign_then _ signs.Semicolon _ ts (λ q r. done _ (Continue p) r (λ free left. continue))))
  begin_stmt_by stmt_tokens.Return m p ts d =
      subst (λ w. Law (return_value_with below ts >>= λ e. Ok (Return p e.0, e.1)) ((w, p) ∷ ts) (λ free. IsStmt free depth)) (sym d)
      (after _ (reserved words.Return, p) _ ts (then (λ free. IsResult free depth) _ (return_value_with below ts) _ ts (begin_result depth below whole part ts)
      (λ e r. done _ (Return p e) r (λ free left before x. return x))))
  begin_stmt_by stmt_tokens.Other m p ts d = begin_evaluate depth below whole part ((m, p) ∷ ts)
  begin_stmt_by _ m p ts d = stops_here (λ free. IsStmt free depth) ((m, p) ∷ ts) (fill_stmt depth)

  pub begin_stmt : (ts : Tokens) → Law (stmt_with below deeper ts) ts (λ free. IsStmt free depth)
  unfolding stmt_with Led
  begin_stmt [] = stops_here (λ free. IsStmt free depth) [] (fill_stmt depth)
  begin_stmt ((m, p) ∷ ts) = begin_stmt_by (stmt_token m) m p ts (leads_to m)
