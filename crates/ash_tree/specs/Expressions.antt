-- The grammar of expressions (AngelScript manual, "Expressions"), one case for each production:
--
--   args    = "(" [ assign { "," assign } ] ")"
--   assign  = cond [ aop assign ]
--   cond    = binary [ "?" assign ":" assign ]
--   unary   = ( + - ! ~ ++ -- @ ) unary | postfix
--   postfix = primary { "." NAME [args] | "[" assign "]" | "++" | "--" }
--   primary = NUMBER | "true" | "false" | "null" | "this" | NAME [args] | "(" assign ")" | prim "(" assign ")"
--           | "array" "<" elem ">" args | "cast" "<" NAME ">" "(" assign ")"
--
-- `binary` joins `unary` by operators of ten levels, from the tightest to the loosest, each grouping to the left.
-- The last `assign` of `? :` reaches as far as it can, so that what `aop` writes to is no `cond` with a `?`.
--
-- `IsAssign free depth from tree left`: the tokens `from` begin with an `assign` that has this tree, and `left` is left
-- after it. `depth` is how many phrases its tokens are in of those that count: statements, bracketed expressions (the
-- expression between the brackets of a condition, of arguments or of an index among them), operands of unary operators,
-- right sides of assignments, and branches of `? :`. No token is deeper than 64, but for the last `free` of all tokens.
use Rattle.std.specs.Prelude.{◌≡◌, ℕ, zero, suc, ◌<◌, ◌≤◌, true, false, length, List, [], ◌∷◌, Some}
use Rattle.ash_lex.specs.Tokens.{Meaning, name, number, sign, reserved}
use Rattle.ash_lex.specs.declared.signs.Sign.TheVariants as signs
use Rattle.ash_lex.specs.declared.words.ReservedWord.TheVariants as words
use Rattle.ash_tree.specs.declared.tree.places.Position.{Position}
use Rattle.ash_tree.specs.declared.tree.types.Primitive.{Primitive}
use Rattle.ash_tree.specs.declared.tree.operators.UnaryOp.{UnaryOp}
use Rattle.ash_tree.specs.declared.tree.operators.BinaryOp.{BinaryOp}
use Rattle.ash_tree.specs.declared.tree.operators.AssignOp.{AssignOp}
use Rattle.ash_tree.specs.Tree.{Element, Expr, Number, Truth, Null, This, Name, Call, Brackets, Convert, NewArray, Cast}
use Rattle.ash_tree.specs.Tree.{Unary, Conditional, Assign, Suffix, Field, Method, Index, Increment, Decrement}
use Rattle.ash_tree.specs.Tree.{OperatorLink, place_of, exprs, chained, suffixed}
use Rattle.ash_tree.specs.GrammarTokens.{Tokens}
use Rattle.ash_tree.specs.Types.{IsElement}
use Rattle.ash_tree.specs.Operators.{primitive, unary_operator, binary_operator, level, max_level, assign_operator}

-- No token is deeper than this.
abbrev pub max_depth : ℕ
max_depth = 64

-- A phrase of this depth may begin here: the limit does not hold for the last `free` tokens.
abbrev pub Within : ℕ → ℕ → Tokens → Type 0
Within free depth from = free < length from → depth ≤ max_depth

mutual
  -- The `assign` is one deeper than what it is in.
  pub data IsInner : ℕ → ℕ → Tokens → Expr → Tokens → Type 0 where
    inner : {free depth : ℕ} {from left : Tokens} {e : Expr} → Within free (suc depth) from
        → IsAssign free (suc depth) from e left → IsInner free depth from e left

  -- [ assign { "," assign } ], each one deeper
  pub data AreExprs : ℕ → ℕ → Tokens → List Expr → Tokens → Type 0 where
    no_exprs : {free depth : ℕ} {left : Tokens} → AreExprs free depth left [] left
    some_exprs : {free depth : ℕ} {from after left : Tokens} {e : Expr} {es : List Expr}
        → IsInner free depth from e after → AreMoreExprs free depth after es left
        → AreExprs free depth from (e ∷ es) left

  -- { "," assign }
  pub data AreMoreExprs : ℕ → ℕ → Tokens → List Expr → Tokens → Type 0 where
    no_more_exprs : {free depth : ℕ} {left : Tokens} → AreMoreExprs free depth left [] left
    more_exprs : {free depth : ℕ} {p : Position} {from after left : Tokens} {e : Expr} {es : List Expr}
        → IsInner free depth from e after → AreMoreExprs free depth after es left
        → AreMoreExprs free depth ((sign signs.Comma, p) ∷ from) (e ∷ es) left

  -- args = "(" [ assign { "," assign } ] ")"
  pub data IsArgs : ℕ → ℕ → Tokens → List Expr → Tokens → Type 0 where
    args : {free depth : ℕ} {p q : Position} {from left : Tokens} {es : List Expr}
        → AreExprs free depth from es ((sign signs.CloseParenthesis, q) ∷ left)
        → IsArgs free depth ((sign signs.OpenParenthesis, p) ∷ from) es left

  -- assign = cond [ aop assign ]
  pub data IsAssign : ℕ → ℕ → Tokens → Expr → Tokens → Type 0 where
    no_assign : {free depth : ℕ} {from left : Tokens} {e : Expr} → IsCond free depth from e left
        → IsAssign free depth from e left
    assign : {free depth : ℕ} {m : Meaning} {p : Position} {from after left : Tokens} {target value : Expr}
        {operator : AssignOp} → IsBinary free depth max_level from target ((m, p) ∷ after)
        → assign_operator m ≡ Some operator → IsInner free depth after value left
        → IsAssign free depth from (Assign (place_of target) target operator value) left

  -- cond = binary [ "?" assign ":" assign ]
  pub data IsCond : ℕ → ℕ → Tokens → Expr → Tokens → Type 0 where
    no_branch : {free depth : ℕ} {from left : Tokens} {e : Expr} → IsBinary free depth max_level from e left
        → IsCond free depth from e left
    branches : {free depth : ℕ} {p q : Position} {from first second left : Tokens} {c a b : Expr}
        → IsBinary free depth max_level from c ((sign signs.Question, p) ∷ first)
        → IsInner free depth first a ((sign signs.Colon, q) ∷ second) → IsInner free depth second b left
        → IsCond free depth from (Conditional (place_of c) c a b) left

  -- binary: operands of level 0 are unary, those of a higher level are joined by operators of that level
  pub data IsBinary : ℕ → ℕ → ℕ → Tokens → Expr → Tokens → Type 0 where
    operand : {free depth : ℕ} {from left : Tokens} {e : Expr} → IsUnary free depth from e left
        → IsBinary free depth zero from e left
    joined : {free depth n : ℕ} {from after left : Tokens} {first : Expr} {more : List OperatorLink}
        → IsBinary free depth n from first after → AreLinks free depth n after more left
        → IsBinary free depth (suc n) from (chained first more) left

  -- the operators of a level, each with its right operand
  pub data AreLinks : ℕ → ℕ → ℕ → Tokens → List OperatorLink → Tokens → Type 0 where
    no_links : {free depth n : ℕ} {left : Tokens} → AreLinks free depth n left [] left
    more_links : {free depth n : ℕ} {m : Meaning} {p : Position} {from after left : Tokens} {operator : BinaryOp}
        {operand : Expr} {more : List OperatorLink} → binary_operator m ≡ Some operator → level operator ≡ suc n
        → IsBinary free depth n from operand after → AreLinks free depth n after more left
        → AreLinks free depth n ((m, p) ∷ from) (record { operator = operator; operand = operand } ∷ more) left

  -- unary = ( + - ! ~ ++ -- @ ) unary | postfix
  pub data IsUnary : ℕ → ℕ → Tokens → Expr → Tokens → Type 0 where
    applied : {free depth : ℕ} {m : Meaning} {p : Position} {from left : Tokens} {operator : UnaryOp} {e : Expr}
        → unary_operator m ≡ Some operator → Within free (suc depth) from → IsUnary free (suc depth) from e left
        → IsUnary free depth ((m, p) ∷ from) (Unary p operator e) left
    postfix : {free depth : ℕ} {from after left : Tokens} {e : Expr} {more : List Suffix}
        → IsPrimary free depth from e after → AreSuffixes free depth after more left
        → IsUnary free depth from (suffixed e more) left

  -- { "." NAME [args] | "[" assign "]" | "++" | "--" }
  pub data AreSuffixes : ℕ → ℕ → Tokens → List Suffix → Tokens → Type 0 where
    no_suffixes : {free depth : ℕ} {left : Tokens} → AreSuffixes free depth left [] left
    more_suffixes : {free depth : ℕ} {from after left : Tokens} {s : Suffix} {more : List Suffix}
        → IsSuffix free depth from s after → AreSuffixes free depth after more left
        → AreSuffixes free depth from (s ∷ more) left

  pub data IsSuffix : ℕ → ℕ → Tokens → Suffix → Tokens → Type 0 where
    field : {free depth : ℕ} {p q : Position} {text : List ℕ} {left : Tokens}
        → IsSuffix free depth ((sign signs.Dot, p) ∷ (name text, q) ∷ left) (Field q text) left
    method : {free depth : ℕ} {p q : Position} {text : List ℕ} {from left : Tokens} {es : List Expr}
        → IsArgs free depth from es left → IsSuffix free depth ((sign signs.Dot, p) ∷ (name text, q) ∷ from)
        (Method q text (exprs es)) left
    index : {free depth : ℕ} {p q : Position} {from left : Tokens} {e : Expr}
        → IsInner free depth from e ((sign signs.CloseBracket, q) ∷ left)
        → IsSuffix free depth ((sign signs.OpenBracket, p) ∷ from) (Index e) left
    increment : {free depth : ℕ} {p : Position} {left : Tokens}
        → IsSuffix free depth ((sign signs.Increment, p) ∷ left) Increment left
    decrement : {free depth : ℕ} {p : Position} {left : Tokens}
        → IsSuffix free depth ((sign signs.Decrement, p) ∷ left) Decrement left

  -- primary = NUMBER | "true" | "false" | "null" | "this" | NAME [args] | "(" assign ")" | prim "(" assign ")"
  --         | "array" "<" elem ">" args | "cast" "<" NAME ">" "(" assign ")"
  pub data IsPrimary : ℕ → ℕ → Tokens → Expr → Tokens → Type 0 where
    numeral : {free depth n : ℕ} {p : Position} {left : Tokens}
        → IsPrimary free depth ((number n, p) ∷ left) (Number p n) left
    yes : {free depth : ℕ} {p : Position} {left : Tokens}
        → IsPrimary free depth ((reserved words.True, p) ∷ left) (Truth p true) left
    no : {free depth : ℕ} {p : Position} {left : Tokens}
        → IsPrimary free depth ((reserved words.False, p) ∷ left) (Truth p false) left
    null : {free depth : ℕ} {p : Position} {left : Tokens}
        → IsPrimary free depth ((reserved words.Null, p) ∷ left) (Null p) left
    this : {free depth : ℕ} {p : Position} {left : Tokens}
        → IsPrimary free depth ((reserved words.This, p) ∷ left) (This p) left
    named : {free depth : ℕ} {p : Position} {text : List ℕ} {left : Tokens}
        → IsPrimary free depth ((name text, p) ∷ left) (Name p text) left
    call : {free depth : ℕ} {p : Position} {text : List ℕ} {from left : Tokens} {es : List Expr}
        → IsArgs free depth from es left → IsPrimary free depth ((name text, p) ∷ from) (Call p text (exprs es)) left
    brackets : {free depth : ℕ} {p q : Position} {from left : Tokens} {e : Expr}
        → IsInner free depth from e ((sign signs.CloseParenthesis, q) ∷ left)
        → IsPrimary free depth ((sign signs.OpenParenthesis, p) ∷ from) (Brackets p e) left
    convert : {free depth : ℕ} {m : Meaning} {p q r : Position} {to : Primitive} {from left : Tokens} {e : Expr}
        → primitive m ≡ Some to → IsInner free depth from e ((sign signs.CloseParenthesis, r) ∷ left)
        → IsPrimary free depth ((m, p) ∷ (sign signs.OpenParenthesis, q) ∷ from) (Convert p to e) left
    new_array : {free depth : ℕ} {p : Position} {of : Element} {from after left : Tokens} {es : List Expr}
        → IsElement from of after → IsArgs free depth after es left
        → IsPrimary free depth ((reserved words.Array, p) ∷ from) (NewArray p of (exprs es)) left
    cast : {free depth : ℕ} {p o q r s z : Position} {text : List ℕ} {from left : Tokens} {e : Expr}
        → IsInner free depth from e ((sign signs.CloseParenthesis, z) ∷ left)
        → IsPrimary free depth ((reserved words.Cast, p) ∷ (sign signs.Less, o) ∷ (name text, q)
        ∷ (sign signs.Greater, r) ∷ (sign signs.OpenParenthesis, s) ∷ from)
        (Cast p (record { place = q; name = text }) e) left
