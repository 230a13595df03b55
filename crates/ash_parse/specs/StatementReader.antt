-- Reading types, declarations of variables and statements, one function for each phrase. `below` reads an expression
-- one deeper, and `nested` a statement one deeper.
use Rattle.std.specs.Prelude.{ℕ, zero, suc, List, [], ◌∷◌, Bool, true, false, not, Option, Some, None, is_some, Ok}
use Rattle.std.specs.Prelude.{Err, if◌then◌else◌}
use Rattle.ash_lex.specs.Tokens.{Meaning, name, number, sign, reserved}
use Rattle.ash_lex.specs.declared.signs.Sign.TheVariants as signs
use Rattle.ash_lex.specs.declared.words.ReservedWord.TheVariants as words
use Rattle.ash_tree.specs.declared.tree.places.Position.{Position}
use Rattle.ash_tree.specs.declared.tree.types.Primitive.{Primitive}
use Rattle.ash_tree.specs.declared.tree.statements.Label.{Label}
use Rattle.ash_tree.specs.declared.tree.statements.Label.TheVariants as labels
use Rattle.ash_tree.specs.Tree.{Named, Prim, Object, Handle, Array, ArrayHandle, Expr, Initializer, Default, Value}
use Rattle.ash_tree.specs.Tree.{Arguments, Decl, Vars, Stmt, Empty, Declare, Evaluate, Block, If, IfElse, While}
use Rattle.ash_tree.specs.Tree.{DoWhile, For, Switch, Break, Continue, Return, Case, labelled, place_of}
use Rattle.ash_tree.specs.Tree.{place_of_type, stmts, cases}
use Rattle.ash_tree.specs.GrammarTokens.{Tokens}
use Rattle.ash_tree.specs.Operators.{primitive}
use Rattle.ash_parse.specs.declared.stmt_tokens.StmtToken.{StmtToken}
use Rattle.ash_parse.specs.declared.stmt_tokens.StmtToken.TheVariants as stmt_tokens
use Rattle.ash_parse.specs.Readers.{ParseResult, Unexpected, TooDeep, ◌>>=◌, put, loop, next_is, next_is_sign}
use Rattle.ash_parse.specs.Readers.{expect_at, name_at}
use Rattle.ash_parse.specs.TypeReader.{is_array, element_at, after_element}
use Rattle.ash_parse.specs.ExpressionReader.{Below, begins, exprs_with, arguments_with, bracketed_with, assign_with}
use Rattle.ash_parse.specs.ExpressionReader.{below_at}

unfoldable pub is_name : Meaning → Bool
is_name (name text) = true
is_name _ = false

unfoldable pub next_is_name : Tokens → Bool
next_is_name ts = next_is is_name ts

-- ["@"] after what is then a handle
abbrev pub handle_by : Named → Named → Tokens → ParseResult Named
handle_by plain handle ts =
    if next_is_sign signs.Handle ts then (expect_at signs.Handle ts >>= λ h. Ok (handle, h.1)) else Ok (plain, ts)

abbrev pub type_by : Option Primitive → Meaning → Position → Tokens → ParseResult Named
type_by (Some k) m p ts = Ok (Prim p k, ts)
type_by None (name t) p ts = handle_by (Object p t) (Handle p t) ts
type_by None (reserved words.Array) p ts = element_at ts >>= λ e. handle_by (Array p e.0) (ArrayHandle p e.0) e.1
type_by None m p ts = Err (Unexpected ((m, p) ∷ ts))

unfoldable pub type_at : Tokens → ParseResult Named
type_at [] = Err (Unexpected [])
type_at ((m, p) ∷ ts) = type_by (primitive m) m p ts

-- after the name of an object type: what a declaration goes on with, and no expression
abbrev pub names_vars : Tokens → Bool
names_vars ts = if next_is_name ts then true else next_is_sign signs.Handle ts

abbrev pub array_names_vars : Option Tokens → Bool
array_names_vars None = false
array_names_vars (Some ts) = names_vars ts

-- the tokens begin a declaration of variables or a parameter, by the first two of them, or by what is after the word
-- `array` with its `"<" elem ">"`
unfoldable pub is_vars : Tokens → Bool
is_vars [] = false
is_vars ((m, p) ∷ ts) =
    if is_some (primitive m) then next_is_name ts
    else (if is_name m then names_vars ts
    else (if is_array m then array_names_vars (after_element ts) else false))

unfoldable pub initializer_with : Below → Tokens → ParseResult Initializer
initializer_with below ts =
    if next_is_sign signs.Assign ts
    then (expect_at signs.Assign ts >>= λ a. assign_with below a.1 >>= λ e. Ok (Value e.0, e.1))
    else (if next_is_sign signs.OpenParenthesis ts
    then (arguments_with below ts >>= λ es. Ok (Arguments es.0, es.1)) else Ok (Default, ts))

unfoldable pub decl_with : Below → Tokens → ParseResult Decl
decl_with below ts = do
  n ← name_at ts
  i ← initializer_with below n.1
  Ok (record { place = (n.0).1; name = (n.0).0; initializer = i.0 }, i.1)

unfoldable pub next_decl_with : Below → Tokens → ParseResult Decl
next_decl_with below ts = do
  comma ← expect_at signs.Comma ts
  decl_with below comma.1

unfoldable pub more_decls_with : Below → Tokens → ParseResult (List Decl)
more_decls_with below ts = loop (next_is_sign signs.Comma) (next_decl_with below) ts

unfoldable pub decls_with : Below → Tokens → ParseResult (List Decl)
decls_with below ts = decl_with below ts >>= λ d. put d.0 (more_decls_with below d.1)

unfoldable pub vars_with : Below → Tokens → ParseResult Vars
vars_with below ts = do
  t ← type_at ts
  ds ← decls_with below t.1
  Ok (record { of = t.0; decls = ds.0 }, ds.1)

-- vars ";"
unfoldable pub vars_statement_with : Below → Tokens → ParseResult Vars
vars_statement_with below ts = do
  v ← vars_with below ts
  s ← expect_at signs.Semicolon v.1
  Ok (v.0, s.1)

-- the first part of the head of a `for`, with its ";"
unfoldable pub first_with : Below → Tokens → ParseResult Stmt
first_with below ts =
    if next_is_sign signs.Semicolon ts then (expect_at signs.Semicolon ts >>= λ s. Ok (Empty s.0, s.1))
    else (if is_vars ts then (vars_statement_with below ts >>= λ v. Ok (Declare (place_of_type (v.0).of) v.0, v.1))
    else (below true ts >>= λ e. expect_at signs.Semicolon e.1 >>= λ s. Ok (Evaluate (place_of e.0) e.0, s.1)))

-- the second part of the head of a `for`, with its ";"
unfoldable pub test_with : Below → Tokens → ParseResult (Option Expr)
test_with below ts =
    if next_is_sign signs.Semicolon ts then (expect_at signs.Semicolon ts >>= λ s. Ok (None, s.1))
    else (below true ts >>= λ e. expect_at signs.Semicolon e.1 >>= λ s. Ok (Some e.0, s.1))

-- what is after `return`, with its ";"
unfoldable pub return_value_with : Below → Tokens → ParseResult (Option Expr)
return_value_with below ts =
    if next_is_sign signs.Semicolon ts then (expect_at signs.Semicolon ts >>= λ s. Ok (None, s.1))
    else (assign_with below ts >>= λ e. expect_at signs.Semicolon e.1 >>= λ s. Ok (Some e.0, s.1))

-- what a statement that begins with a token is
unfoldable pub stmt_token : Meaning → StmtToken
stmt_token (sign signs.OpenBrace) = stmt_tokens.Block
stmt_token (sign signs.CloseBrace) = stmt_tokens.End
stmt_token (sign signs.Semicolon) = stmt_tokens.Empty
stmt_token (reserved words.If) = stmt_tokens.If
stmt_token (reserved words.Else) = stmt_tokens.Else
stmt_token (reserved words.While) = stmt_tokens.While
stmt_token (reserved words.Do) = stmt_tokens.Do
stmt_token (reserved words.For) = stmt_tokens.For
stmt_token (reserved words.Switch) = stmt_tokens.Switch
stmt_token (reserved words.Case) = stmt_tokens.Case
stmt_token (reserved words.Default) = stmt_tokens.Default
stmt_token (reserved words.Break) = stmt_tokens.Break
stmt_token (reserved words.Continue) = stmt_tokens.Continue
stmt_token (reserved words.Return) = stmt_tokens.Return
stmt_token _ = stmt_tokens.Other

abbrev pub begins_by : StmtToken → Bool → Bool
begins_by stmt_tokens.Other b = b
begins_by stmt_tokens.Else b = false
begins_by stmt_tokens.End b = false
begins_by stmt_tokens.Case b = false
begins_by stmt_tokens.Default b = false
begins_by _ b = true

-- the token begins a statement
unfoldable pub begins_stmt : Meaning → Bool
begins_stmt m = begins_by (stmt_token m) (begins m)

unfoldable pub stmt_limit_at : Tokens → ParseResult Stmt
stmt_limit_at ts = if next_is begins_stmt ts then Err (TooDeep ts) else Err (Unexpected ts)

abbrev pub is_end : StmtToken → Bool
is_end stmt_tokens.End = true
is_end _ = false

abbrev pub ends_case : StmtToken → Bool
ends_case stmt_tokens.End = true
ends_case stmt_tokens.Case = true
ends_case stmt_tokens.Default = true
ends_case _ = false

-- a block goes on: it doesn't end here
unfoldable pub goes_on : Tokens → Bool
goes_on ts = next_is (λ m. not (is_end (stmt_token m))) ts

-- the statements after a label go on
unfoldable pub case_goes_on : Tokens → Bool
case_goes_on ts = next_is (λ m. not (ends_case (stmt_token m))) ts

abbrev pub Nested : Type 0
Nested = Tokens → ParseResult Stmt

-- assign ";"
unfoldable pub evaluate_with : Below → Tokens → ParseResult Stmt
evaluate_with below ts = do
  e ← assign_with below ts
  s ← expect_at signs.Semicolon e.1
  Ok (Evaluate (place_of e.0) e.0, s.1)

abbrev pub is_else : StmtToken → Bool
is_else stmt_tokens.Else = true
is_else _ = false

-- after the first branch of an `if`
unfoldable pub else_with : Nested → Position → Expr → Stmt → Tokens → ParseResult Stmt
else_with nested p c s [] = Ok (If p c s, [])
else_with nested p c s ((m, o) ∷ ts) =
    if is_else (stmt_token m) then (nested ts >>= λ t. Ok (IfElse p c s t.0, t.1)) else Ok (If p c s, (m, o) ∷ ts)

unfoldable pub if_with : Below → Nested → Position → Tokens → ParseResult Stmt
if_with below nested p ts = do
  c ← bracketed_with below ts
  s ← nested c.1
  else_with nested p c.0 s.0 s.1

unfoldable pub while_with : Below → Nested → Position → Tokens → ParseResult Stmt
while_with below nested p ts = do
  c ← bracketed_with below ts
  s ← nested c.1
  Ok (While p c.0 s.0, s.1)

abbrev pub is_while : StmtToken → Bool
is_while stmt_tokens.While = true
is_while _ = false

-- the word `while`
unfoldable pub while_at : Tokens → ParseResult Position
while_at [] = Err (Unexpected [])
while_at ((m, p) ∷ ts) = if is_while (stmt_token m) then Ok (p, ts) else Err (Unexpected ((m, p) ∷ ts))

-- "while" "(" assign ")" ";" after the body of a `do`
unfoldable pub do_end_with : Below → Position → Stmt → Tokens → ParseResult Stmt
do_end_with below p s ts = do
  w ← while_at ts
  c ← bracketed_with below w.1
  o ← expect_at signs.Semicolon c.1
  Ok (DoWhile p s c.0, o.1)

unfoldable pub do_with : Below → Nested → Position → Tokens → ParseResult Stmt
do_with below nested p ts = do
  s ← nested ts
  w ← while_at s.1
  c ← bracketed_with below w.1
  o ← expect_at signs.Semicolon c.1
  Ok (DoWhile p s.0 c.0, o.1)

unfoldable pub for_with : Below → Nested → Position → Tokens → ParseResult Stmt
for_with below nested p ts = do
  o ← expect_at signs.OpenParenthesis ts
  f ← first_with below o.1
  c ← test_with below f.1
  es ← exprs_with below c.1
  z ← expect_at signs.CloseParenthesis es.1
  s ← nested z.1
  Ok (For p f.0 c.0 es.0 s.0, s.1)

unfoldable pub number_at : Tokens → ParseResult (ℕ × Position)
number_at [] = Err (Unexpected [])
number_at ((number n, p) ∷ ts) = Ok ((n, p), ts)
number_at ((m, p) ∷ ts) = Err (Unexpected ((m, p) ∷ ts))

-- ["-"] NUMBER ":"
unfoldable pub case_value_at : Tokens → ParseResult (Label × Position)
case_value_at ts =
    if next_is_sign signs.Minus ts then (expect_at signs.Minus ts >>= λ o. number_at o.1
    >>= λ n. expect_at signs.Colon n.1 >>= λ c. Ok ((labels.CaseMinus (n.0).0, o.0), c.1))
    else (number_at ts >>= λ n. expect_at signs.Colon n.1 >>= λ c. Ok ((labels.Case (n.0).0, (n.0).1), c.1))

abbrev pub label_by : StmtToken → Meaning → Position → Tokens → ParseResult (Label × Position)
label_by stmt_tokens.Case m p ts = case_value_at ts
label_by stmt_tokens.Default m p ts = expect_at signs.Colon ts >>= λ c. Ok ((labels.Default, p), c.1)
label_by _ m p ts = Err (Unexpected ((m, p) ∷ ts))

unfoldable pub label_at : Tokens → ParseResult (Label × Position)
label_at [] = Err (Unexpected [])
label_at ((m, p) ∷ ts) = label_by (stmt_token m) m p ts

unfoldable pub stmts_with : Nested → Tokens → ParseResult (List Stmt)
stmts_with nested ts = loop case_goes_on nested ts

unfoldable pub case_with : Nested → Tokens → ParseResult Case
case_with nested ts = do
  l ← label_at ts
  ss ← stmts_with nested l.1
  Ok (labelled (l.0).1 (l.0).0 (stmts ss.0), ss.1)

unfoldable pub cases_with : Nested → Tokens → ParseResult (List Case)
cases_with nested ts = loop goes_on (case_with nested) ts

-- after the cases of a `switch`
unfoldable pub switch_end_with : Position → Expr → List Case → Tokens → ParseResult Stmt
switch_end_with p e cs ts = expect_at signs.CloseBrace ts >>= λ z. Ok (Switch p e (cases cs), z.1)

unfoldable pub switch_with : Below → Nested → Position → Tokens → ParseResult Stmt
switch_with below nested p ts = do
  e ← bracketed_with below ts
  o ← expect_at signs.OpenBrace e.1
  cs ← cases_with nested o.1
  z ← expect_at signs.CloseBrace cs.1
  Ok (Switch p e.0 (cases cs.0), z.1)

-- vars ";" | stmt
unfoldable pub local_with : Below → Nested → Tokens → ParseResult Stmt
local_with below nested ts =
    if is_vars ts then (vars_statement_with below ts >>= λ v. Ok (Declare (place_of_type (v.0).of) v.0, v.1))
    else nested ts

unfoldable pub locals_with : Below → Nested → Tokens → ParseResult (List Stmt)
locals_with below nested ts = loop goes_on (local_with below nested) ts

unfoldable pub block_with : Below → Nested → Tokens → ParseResult (List Stmt)
block_with below nested ts = do
  o ← expect_at signs.OpenBrace ts
  ss ← locals_with below nested o.1
  z ← expect_at signs.CloseBrace ss.1
  Ok (ss.0, z.1)

abbrev pub stmt_by : StmtToken → Below → Nested → Meaning → Position → Tokens → ParseResult Stmt
stmt_by stmt_tokens.Block below nested m p ts =
    block_with below nested ((m, p) ∷ ts) >>= λ b. Ok (Block p (stmts b.0), b.1)
stmt_by stmt_tokens.Empty below nested m p ts = Ok (Empty p, ts)
stmt_by stmt_tokens.If below nested m p ts = if_with below nested p ts
stmt_by stmt_tokens.While below nested m p ts = while_with below nested p ts
stmt_by stmt_tokens.Do below nested m p ts = do_with below nested p ts
stmt_by stmt_tokens.For below nested m p ts = for_with below nested p ts
stmt_by stmt_tokens.Switch below nested m p ts = switch_with below nested p ts
stmt_by stmt_tokens.Break below nested m p ts = expect_at signs.Semicolon ts >>= λ s. Ok (Break p, s.1)
stmt_by stmt_tokens.Continue below nested m p ts = expect_at signs.Semicolon ts >>= λ s. Ok (Continue p, s.1)
stmt_by stmt_tokens.Return below nested m p ts = return_value_with below ts >>= λ e. Ok (Return p e.0, e.1)
stmt_by stmt_tokens.Other below nested m p ts = evaluate_with below ((m, p) ∷ ts)
stmt_by _ below nested m p ts = Err (Unexpected ((m, p) ∷ ts))

unfoldable pub stmt_with : Below → Nested → Tokens → ParseResult Stmt
stmt_with below nested [] = Err (Unexpected [])
stmt_with below nested ((m, p) ∷ ts) = stmt_by (stmt_token m) below nested m p ts

-- with room for so many deeper phrases, one in the other
unfoldable pub nested_at : ℕ → Nested
nested_at zero ts = stmt_limit_at ts
nested_at (suc room) ts = stmt_with (below_at room) (nested_at room) ts
