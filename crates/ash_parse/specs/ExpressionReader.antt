-- Reading an expression, one function for each phrase. `below` reads what is one deeper: a whole expression where it is
-- given `true`, and the operand of a unary operator where it is given `false`.
use Rattle.std.specs.Prelude.{ℕ, zero, suc, List, [], ◌∷◌, ◌==◌, Bool, true, false, Option, Some, None, is_some, Ok}
use Rattle.std.specs.Prelude.{Err, if◌then◌else◌}
use Rattle.ash_lex.specs.Tokens.{Meaning, name, number, sign, reserved}
use Rattle.ash_lex.specs.declared.signs.Sign.TheVariants as signs
use Rattle.ash_lex.specs.declared.words.ReservedWord.TheVariants as words
use Rattle.ash_tree.specs.declared.tree.places.Position.{Position}
use Rattle.ash_tree.specs.declared.tree.types.Primitive.{Primitive}
use Rattle.ash_tree.specs.declared.tree.operators.UnaryOp.{UnaryOp}
use Rattle.ash_tree.specs.declared.tree.operators.BinaryOp.{BinaryOp}
use Rattle.ash_tree.specs.declared.tree.operators.AssignOp.{AssignOp}
use Rattle.ash_tree.specs.Tree.{Expr, Number, Truth, Null, This, Name, Call, Brackets, Convert, NewArray, Cast, Unary}
use Rattle.ash_tree.specs.Tree.{Conditional, Assign, Suffix, Field, Method, Index, Increment, Decrement, OperatorLink}
use Rattle.ash_tree.specs.Tree.{place_of, exprs, chained, suffixed}
use Rattle.ash_tree.specs.GrammarTokens.{Tokens}
use Rattle.ash_tree.specs.Operators.{primitive, unary_operator, binary_operator, level, max_level, assign_operator}
use Rattle.ash_parse.specs.SignTokens.{is_sign}
use Rattle.ash_parse.specs.Readers.{ParseResult, Unexpected, TooDeep, ◌>>=◌, put, loop, next_is, next_is_sign}
use Rattle.ash_parse.specs.Readers.{expect_at, name_at}
use Rattle.ash_parse.specs.TypeReader.{element_at, target_at}

abbrev pub Below : Type 0
Below = Bool → Tokens → ParseResult Expr

-- the token begins an expression
unfoldable pub begins : Meaning → Bool
begins (name text) = true
begins (number n) = true
begins (sign signs.OpenParenthesis) = true
begins (reserved words.True) = true
begins (reserved words.False) = true
begins (reserved words.Null) = true
begins (reserved words.This) = true
begins (reserved words.Array) = true
begins (reserved words.Cast) = true
begins m = if is_some (primitive m) then true else is_some (unary_operator m)

-- where no deeper phrase may begin
unfoldable pub limit_at : Tokens → ParseResult Expr
limit_at ts = if next_is begins ts then Err (TooDeep ts) else Err (Unexpected ts)

-- "," assign
unfoldable pub next_expr_with : Below → Tokens → ParseResult Expr
next_expr_with below ts = do
  comma ← expect_at signs.Comma ts
  below true comma.1

unfoldable pub more_exprs_with : Below → Tokens → ParseResult (List Expr)
more_exprs_with below ts = loop (next_is_sign signs.Comma) (next_expr_with below) ts

-- [ assign { "," assign } ] before a ")"
unfoldable pub exprs_with : Below → Tokens → ParseResult (List Expr)
exprs_with below ts =
    if next_is_sign signs.CloseParenthesis ts then Ok ([], ts)
    else (below true ts >>= λ first. put first.0 (more_exprs_with below first.1))

unfoldable pub arguments_with : Below → Tokens → ParseResult (List Expr)
arguments_with below ts = do
  opened ← expect_at signs.OpenParenthesis ts
  es ← exprs_with below opened.1
  closed ← expect_at signs.CloseParenthesis es.1
  Ok (es.0, closed.1)

-- "(" assign ")"
unfoldable pub bracketed_with : Below → Tokens → ParseResult Expr
bracketed_with below ts = do
  opened ← expect_at signs.OpenParenthesis ts
  e ← below true opened.1
  closed ← expect_at signs.CloseParenthesis e.1
  Ok (e.0, closed.1)

-- NAME [args], after the name
unfoldable pub name_or_call_with : Below → Position → List ℕ → Tokens → ParseResult Expr
name_or_call_with below p text ts =
    if next_is_sign signs.OpenParenthesis ts
    then (arguments_with below ts >>= λ es. Ok (Call p text (exprs es.0), es.1))
    else Ok (Name p text, ts)

-- "<" elem ">" args, after the word `array`
unfoldable pub new_array_with : Below → Position → Tokens → ParseResult Expr
new_array_with below p ts = do
  of ← element_at ts
  es ← arguments_with below of.1
  Ok (NewArray p of.0 (exprs es.0), es.1)

-- "<" NAME ">" "(" assign ")", after the word `cast`
unfoldable pub cast_with : Below → Position → Tokens → ParseResult Expr
cast_with below p ts = do
  t ← target_at ts
  e ← bracketed_with below t.1
  Ok (Cast p t.0 e.0, e.1)

abbrev pub primary_by : Below → Option Primitive → Meaning → Position → Tokens → ParseResult Expr
primary_by below (Some k) m p ts = bracketed_with below ts >>= λ e. Ok (Convert p k e.0, e.1)
primary_by below None (name text) p ts = name_or_call_with below p text ts
primary_by below None (number n) p ts = Ok (Number p n, ts)
primary_by below None (sign signs.OpenParenthesis) p ts =
    bracketed_with below ((sign signs.OpenParenthesis, p) ∷ ts) >>= λ e. Ok (Brackets p e.0, e.1)
primary_by below None (reserved words.True) p ts = Ok (Truth p true, ts)
primary_by below None (reserved words.False) p ts = Ok (Truth p false, ts)
primary_by below None (reserved words.Null) p ts = Ok (Null p, ts)
primary_by below None (reserved words.This) p ts = Ok (This p, ts)
primary_by below None (reserved words.Array) p ts = new_array_with below p ts
primary_by below None (reserved words.Cast) p ts = cast_with below p ts
primary_by below None m p ts = Err (Unexpected ((m, p) ∷ ts))

unfoldable pub primary_with : Below → Tokens → ParseResult Expr
primary_with below [] = Err (Unexpected [])
primary_with below ((m, p) ∷ ts) = primary_by below (primitive m) m p ts

unfoldable pub begins_suffix : Meaning → Bool
begins_suffix (sign signs.Dot) = true
begins_suffix (sign signs.OpenBracket) = true
begins_suffix (sign signs.Increment) = true
begins_suffix (sign signs.Decrement) = true
begins_suffix _ = false

unfoldable pub is_suffix : Tokens → Bool
is_suffix ts = next_is begins_suffix ts

-- NAME [args], after the "."
unfoldable pub member_with : Below → Tokens → ParseResult Suffix
member_with below ts =
    name_at ts >>= λ n. if next_is_sign signs.OpenParenthesis n.1
    then (arguments_with below n.1 >>= λ es. Ok (Method (n.0).1 (n.0).0 (exprs es.0), es.1))
    else Ok (Field (n.0).1 (n.0).0, n.1)

-- assign "]", after the "["
unfoldable pub index_with : Below → Tokens → ParseResult Suffix
index_with below ts = do
  e ← below true ts
  closed ← expect_at signs.CloseBracket e.1
  Ok (Index e.0, closed.1)

unfoldable pub suffix_with : Below → Tokens → ParseResult Suffix
suffix_with below [] = Err (Unexpected [])
suffix_with below ((sign signs.Dot, p) ∷ ts) = member_with below ts
suffix_with below ((sign signs.OpenBracket, p) ∷ ts) = index_with below ts
suffix_with below ((sign signs.Increment, p) ∷ ts) = Ok (Increment, ts)
suffix_with below ((sign signs.Decrement, p) ∷ ts) = Ok (Decrement, ts)
suffix_with below ((m, p) ∷ ts) = Err (Unexpected ((m, p) ∷ ts))

unfoldable pub suffixes_with : Below → Tokens → ParseResult (List Suffix)
suffixes_with below ts = loop is_suffix (suffix_with below) ts

unfoldable pub postfix_with : Below → Tokens → ParseResult Expr
postfix_with below ts = do
  e ← primary_with below ts
  more ← suffixes_with below e.1
  Ok (suffixed e.0 more.0, more.1)

abbrev pub unary_by : Below → Option UnaryOp → Meaning → Position → Tokens → ParseResult Expr
unary_by below None m p ts = postfix_with below ((m, p) ∷ ts)
unary_by below (Some operator) m p ts = below false ts >>= λ e. Ok (Unary p operator e.0, e.1)

unfoldable pub unary_with : Below → Tokens → ParseResult Expr
unary_with below [] = Err (Unexpected [])
unary_with below ((m, p) ∷ ts) = unary_by below (unary_operator m) m p ts

abbrev pub operator_by : ℕ → Option BinaryOp → Tokens → Option (BinaryOp × Tokens)
operator_by n None ts = None
operator_by n (Some operator) ts = if level operator == suc n then Some (operator, ts) else None

-- an operator that joins operands of this level
unfoldable pub operator_at : ℕ → Tokens → Option (BinaryOp × Tokens)
operator_at n [] = None
operator_at n ((m, p) ∷ ts) = operator_by n (binary_operator m) ts

abbrev pub level_by : Option BinaryOp → ℕ
level_by None = 0
level_by (Some operator) = level operator

-- the level of the operator that is next; 0 where none is
unfoldable pub next_level : Tokens → ℕ
next_level [] = 0
next_level ((m, p) ∷ ts) = level_by (binary_operator m)

unfoldable pub is_link : ℕ → Tokens → Bool
is_link n ts = is_some (operator_at n ts)

abbrev pub link_from : (Tokens → ParseResult Expr) → Option (BinaryOp × Tokens) → Tokens → ParseResult OperatorLink
link_from operand None ts = Err (Unexpected ts)
link_from operand (Some o) ts = operand o.1 >>= λ e. Ok (record { operator = o.0; operand = e.0 }, e.1)

-- an operator of this level with its right operand
unfoldable pub link_by : ℕ → (Tokens → ParseResult Expr) → Tokens → ParseResult OperatorLink
link_by n operand ts = link_from operand (operator_at n ts) ts

unfoldable pub links_by : ℕ → (Tokens → ParseResult Expr) → Tokens → ParseResult (List OperatorLink)
links_by n operand ts = loop (is_link n) (link_by n operand) ts

unfoldable pub chain_by : ℕ → (Tokens → ParseResult Expr) → Tokens → ParseResult Expr
chain_by n operand ts = do
  first ← operand ts
  more ← links_by n operand first.1
  Ok (chained first.0 more.0, more.1)

-- what operators up to this level join
unfoldable pub binary_with : Below → ℕ → Tokens → ParseResult Expr
binary_with below zero ts = unary_with below ts
binary_with below (suc n) ts = chain_by n (binary_with below n) ts

-- ":" assign, after the first branch
unfoldable pub other_branch_with : Below → Position → Expr → Expr → Tokens → ParseResult Expr
other_branch_with below p c a ts = do
  colon ← expect_at signs.Colon ts
  b ← below true colon.1
  Ok (Conditional p c a b.0, b.1)

-- "?" assign ":" assign, after the "?"
unfoldable pub branches_with : Below → Expr → Tokens → ParseResult Expr
branches_with below c ts = do
  a ← below true ts
  colon ← expect_at signs.Colon a.1
  b ← below true colon.1
  Ok (Conditional (place_of c) c a.0 b.0, b.1)

abbrev pub assign_by : Below → Expr → Option AssignOp → Meaning → Position → Tokens → ParseResult Expr
assign_by below e None m p ts = Ok (e, (m, p) ∷ ts)
assign_by below e (Some operator) m p ts = below true ts >>= λ v. Ok (Assign (place_of e) e operator v.0, v.1)

-- what is after the first operand of an `assign`
unfoldable pub assign_from : Below → Expr → Tokens → ParseResult Expr
assign_from below e [] = Ok (e, [])
assign_from below e ((m, p) ∷ ts) =
    if is_sign signs.Question m then branches_with below e ts else assign_by below e (assign_operator m) m p ts

unfoldable pub assign_with : Below → Tokens → ParseResult Expr
assign_with below ts = binary_with below max_level ts >>= λ e. assign_from below e.0 e.1

-- with room for so many deeper phrases, one in the other
unfoldable pub below_at : ℕ → Below
below_at zero whole ts = limit_at ts
below_at (suc room) true ts = assign_with (below_at room) ts
below_at (suc room) false ts = unary_with (below_at room) ts
