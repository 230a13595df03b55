-- Where an expression ends, and which tokens begin one.
use Rattle.std.proofs.Common.{◌≡◌, ℕ, suc, ◌+◌, ◌<◌, ◌≤◌, ◌==◌, List, [], ◌∷◌, Bool, true, false, Some, None, Ok, refl, arith}
use Rattle.std.proofs.lemmas.Bool.Decides.{nat_tests}
use Rattle.ash_lex.specs.Tokens.{Meaning, sign, reserved}
use Rattle.ash_lex.specs.declared.signs.Sign.TheVariants as signs
use Rattle.ash_lex.specs.declared.words.ReservedWord.TheVariants as words
use Rattle.ash_tree.specs.declared.tree.places.Position.{Position}
use Rattle.ash_tree.specs.declared.tree.types.Primitive.{Primitive}
use Rattle.ash_tree.specs.declared.tree.operators.UnaryOp.{UnaryOp}
use Rattle.ash_tree.specs.declared.tree.operators.BinaryOp.{BinaryOp}
use Rattle.ash_tree.specs.declared.tree.operators.AssignOp.{AssignOp}
use Rattle.ash_tree.specs.Tree.{Expr, Assign, Suffix, OperatorLink}
use Rattle.ash_tree.specs.GrammarTokens.{Tokens}
use Rattle.ash_tree.specs.Operators.{primitive, unary_operator, binary_operator, level, assign_operator}
use Rattle.ash_tree.specs.Expressions.{IsInner, inner, AreMoreExprs, no_more_exprs, more_exprs, IsAssign, no_assign, assign, IsCond, no_branch, branches, IsBinary, operand, joined, AreLinks, no_links, more_links, IsUnary, applied, postfix, AreSuffixes, no_suffixes, more_suffixes, IsSuffix, field, method, index, increment, decrement, IsPrimary, numeral, yes, no, null, this, named, call, brackets, convert, new_array, cast}
use Rattle.ash_parse.specs.SignTokens.{is_sign, same_sign}
use Rattle.ash_parse.specs.Readers.{next_is, next_is_sign}
use Rattle.ash_parse.specs.ExpressionReader.{Below, begins, begins_suffix, is_suffix, operator_at, is_link, assign_from}
use Rattle.ash_parse.proofs.Rereading.{no_some, no_true}

-- an operand that operators up to a level join ends here: no arguments, no suffix and none of these operators follow
abbrev pub Stops : ℕ → Tokens → Type 0
Stops n left = (next_is_sign signs.OpenParenthesis left ≡ false) × (is_suffix left ≡ false) × ((k : ℕ) → k < n → is_link k left ≡ false)

-- what is after a whole expression
unfoldable pub ends_expr : Meaning → Bool
ends_expr (sign signs.CloseParenthesis) = true
ends_expr (sign signs.CloseBracket) = true
ends_expr (sign signs.Comma) = true
ends_expr (sign signs.Colon) = true
ends_expr (sign signs.Semicolon) = true
ends_expr _ = false

abbrev pub Ends : Tokens → Type 0
Ends left = next_is ends_expr left ≡ true

abbrev pub Closes : Tokens → Type 0
Closes left = next_is_sign signs.CloseParenthesis left ≡ true

pub fewer_stop : (n : ℕ) (left : Tokens) → Stops (suc n) left → Stops n left
fewer_stop n left s = (s.0, s.1, λ k l. s.2 k (omega arith))

operator_plain : (m : Meaning) (o : BinaryOp) → binary_operator m ≡ Some o → (is_sign signs.OpenParenthesis m ≡ false) × (begins_suffix m ≡ false)
unfolding is_sign same_sign begins_suffix binary_operator
operator_plain (sign signs.OpenParenthesis) o h = absurd (no_some o h)
operator_plain (sign signs.OpenBracket) o h = absurd (no_some o h)
operator_plain (sign signs.Dot) o h = absurd (no_some o h)
operator_plain (sign signs.Increment) o h = absurd (no_some o h)
operator_plain (sign signs.Decrement) o h = absurd (no_some o h)
operator_plain m o h = (refl, refl)

-- an operator of the next level stops an operand
link_stops : (n : ℕ) (m : Meaning) (p : Position) (ts : Tokens) (o : BinaryOp) → binary_operator m ≡ Some o → level o ≡ suc n → Stops n ((m, p) ∷ ts)
unfolding next_is_sign is_suffix is_link operator_at
link_stops n m p ts o h l =
    let q = operator_plain m o h in
    (q.0, q.1, λ k lt. let e : (level o == suc k) ≡ false = grind (arith, nat_tests) in rw (h, e) refl)

ends_plain : (m : Meaning) → ends_expr m ≡ true → (is_sign signs.OpenParenthesis m ≡ false) × (begins_suffix m ≡ false) × (binary_operator m ≡ None) × (is_sign signs.Question m ≡ false) × (assign_operator m ≡ None)
unfolding is_sign same_sign begins_suffix binary_operator assign_operator ends_expr
ends_plain (sign signs.CloseParenthesis) h = (refl, refl, refl, refl, refl)
ends_plain (sign signs.CloseBracket) h = (refl, refl, refl, refl, refl)
ends_plain (sign signs.Comma) h = (refl, refl, refl, refl, refl)
ends_plain (sign signs.Colon) h = (refl, refl, refl, refl, refl)
ends_plain (sign signs.Semicolon) h = (refl, refl, refl, refl, refl)
ends_plain m h = absurd (no_true h)

pub assign_plain : (m : Meaning) (o : AssignOp) → assign_operator m ≡ Some o → (is_sign signs.OpenParenthesis m ≡ false) × (begins_suffix m ≡ false) × (binary_operator m ≡ None) × (is_sign signs.Question m ≡ false)
unfolding is_sign same_sign begins_suffix binary_operator assign_operator
assign_plain (sign signs.Assign) o h = (refl, refl, refl, refl)
assign_plain (sign signs.PlusAssign) o h = (refl, refl, refl, refl)
assign_plain (sign signs.MinusAssign) o h = (refl, refl, refl, refl)
assign_plain (sign signs.StarAssign) o h = (refl, refl, refl, refl)
assign_plain (sign signs.SlashAssign) o h = (refl, refl, refl, refl)
assign_plain (sign signs.PercentAssign) o h = (refl, refl, refl, refl)
assign_plain (sign signs.BitAndAssign) o h = (refl, refl, refl, refl)
assign_plain (sign signs.BitOrAssign) o h = (refl, refl, refl, refl)
assign_plain (sign signs.BitXorAssign) o h = (refl, refl, refl, refl)
assign_plain (sign signs.ShiftLeftAssign) o h = (refl, refl, refl, refl)
assign_plain (sign signs.ShiftRightAssign) o h = (refl, refl, refl, refl)
assign_plain (sign signs.ShiftRightArithmeticAssign) o h = (refl, refl, refl, refl)
assign_plain m o h = absurd (no_some o h)

-- a token that is no operator, and begins no suffix or arguments, stops each operand
pub plain_stops : (n : ℕ) (m : Meaning) (p : Position) (ts : Tokens) → is_sign signs.OpenParenthesis m ≡ false → begins_suffix m ≡ false → binary_operator m ≡ None → Stops n ((m, p) ∷ ts)
unfolding next_is_sign is_suffix is_link operator_at
plain_stops n m p ts a b h = (a, b, λ k l. rw h refl)

pub ends_stop : (n : ℕ) (left : Tokens) → Ends left → Stops n left
ends_stop n [] h = absurd (no_true h)
ends_stop n ((m, p) ∷ ts) h = let q = ends_plain m h in plain_stops n m p ts q.0 q.1 q.2

pub ends_assign : (below : Below) (e : Expr) (left : Tokens) → Ends left → assign_from below e left ≡ Ok (e, left)
unfolding assign_from
ends_assign below e [] h = absurd (no_true h)
ends_assign below e ((m, p) ∷ ts) h = let q = ends_plain m h in rw (q.3, q.4) refl

close_ends_at : (m : Meaning) → is_sign signs.CloseParenthesis m ≡ true → (ends_expr m ≡ true) × (is_sign signs.Comma m ≡ false)
unfolding is_sign same_sign ends_expr
close_ends_at (sign signs.CloseParenthesis) h = (refl, refl)
close_ends_at m h = absurd (no_true h)

pub close_ends : (left : Tokens) → Closes left → Ends left × (next_is_sign signs.Comma left ≡ false)
unfolding next_is_sign
close_ends [] h = absurd (no_true h)
close_ends ((m, p) ∷ ts) h = close_ends_at m h

-- what is after one of several arguments
pub more_end : {free depth : ℕ} {from left : Tokens} {es : List Expr} → AreMoreExprs free depth from es left → Closes left → Ends from
unfolding ends_expr
more_end (no_more_exprs {left = left}) s = (close_ends left s).0
more_end (more_exprs a b) s = refl

-- what is after an operand, before suffixes or operators
pub suffixes_open : {free depth : ℕ} {from left : Tokens} {more : List Suffix} → AreSuffixes free depth from more left → next_is_sign signs.OpenParenthesis left ≡ false → next_is_sign signs.OpenParenthesis from ≡ false
unfolding next_is_sign is_sign same_sign
suffixes_open no_suffixes s = s
suffixes_open (more_suffixes field b) s = refl
suffixes_open (more_suffixes (method a) b) s = refl
suffixes_open (more_suffixes (index a) b) s = refl
suffixes_open (more_suffixes increment b) s = refl
suffixes_open (more_suffixes decrement b) s = refl

pub links_stop : {free depth n : ℕ} {from left : Tokens} {more : List OperatorLink} → AreLinks free depth n from more left → Stops (suc n) left → Stops n from
links_stop (no_links {n = n} {left = left}) s = fewer_stop n left s
links_stop (more_links {n = n} {m = m} {p = p} {from = from} {operator = operator} o l a b) s = link_stops n m p from operator o l

pub suffix_begins : {free depth : ℕ} {from left : Tokens} {s : Suffix} → IsSuffix free depth from s left → is_suffix from ≡ true
unfolding is_suffix begins_suffix
suffix_begins field = refl
suffix_begins (method a) = refl
suffix_begins (index a) = refl
suffix_begins increment = refl
suffix_begins decrement = refl

unary_begins : (m : Meaning) (o : UnaryOp) → unary_operator m ≡ Some o → begins m ≡ true
unfolding begins unary_operator primitive
unary_begins (sign signs.Plus) o h = refl
unary_begins (sign signs.Minus) o h = refl
unary_begins (sign signs.LogicalNot) o h = refl
unary_begins (reserved words.Not) o h = refl
unary_begins (sign signs.BitNot) o h = refl
unary_begins (sign signs.Increment) o h = refl
unary_begins (sign signs.Decrement) o h = refl
unary_begins (sign signs.Handle) o h = refl
unary_begins m o h = absurd (no_some o h)

pub primitive_begins : (m : Meaning) (k : Primitive) → primitive m ≡ Some k → (begins m ≡ true) × (unary_operator m ≡ None)
unfolding begins unary_operator primitive
primitive_begins (reserved words.Bool) k h = (refl, refl)
primitive_begins (reserved words.Int) k h = (refl, refl)
primitive_begins (reserved words.Int32) k h = (refl, refl)
primitive_begins (reserved words.Int64) k h = (refl, refl)
primitive_begins (reserved words.Uint) k h = (refl, refl)
primitive_begins (reserved words.Uint32) k h = (refl, refl)
primitive_begins (reserved words.Uint64) k h = (refl, refl)
primitive_begins m k h = absurd (no_some k h)

primary_begins : {free depth : ℕ} {from left : Tokens} {e : Expr} → IsPrimary free depth from e left → next_is begins from ≡ true
unfolding begins
primary_begins numeral = refl
primary_begins yes = refl
primary_begins no = refl
primary_begins null = refl
primary_begins this = refl
primary_begins named = refl
primary_begins (call a) = refl
primary_begins (brackets a) = refl
primary_begins (convert {m = m} {to = to} k a) = (primitive_begins m to k).0
primary_begins (new_array a b) = refl
primary_begins (cast a) = refl

pub unary_phrase_begins : {free depth : ℕ} {from left : Tokens} {e : Expr} → IsUnary free depth from e left → next_is begins from ≡ true
unary_phrase_begins (applied {m = m} {operator = operator} o w a) = unary_begins m operator o
unary_phrase_begins (postfix a b) = primary_begins a

binary_begins : {free depth n : ℕ} {from left : Tokens} {e : Expr} → IsBinary free depth n from e left → next_is begins from ≡ true
binary_begins (operand a) = unary_phrase_begins a
binary_begins (joined a b) = binary_begins a

cond_begins : {free depth : ℕ} {from left : Tokens} {e : Expr} → IsCond free depth from e left → next_is begins from ≡ true
cond_begins (no_branch a) = binary_begins a
cond_begins (branches a b c) = binary_begins a

-- each expression begins with a token that begins expressions
pub assign_begins : {free depth : ℕ} {from left : Tokens} {e : Expr} → IsAssign free depth from e left → next_is begins from ≡ true
assign_begins (no_assign a) = cond_begins a
assign_begins (assign a o b) = binary_begins a

pub inner_begins : {free depth : ℕ} {from left : Tokens} {e : Expr} → IsInner free depth from e left → next_is begins from ≡ true
inner_begins (inner w a) = assign_begins a

begins_no_close_at : (m : Meaning) → begins m ≡ true → is_sign signs.CloseParenthesis m ≡ false
unfolding begins is_sign same_sign unary_operator primitive
begins_no_close_at (sign signs.CloseParenthesis) h = absurd (no_true h)
begins_no_close_at m h = refl

pub begins_no_close : (ts : Tokens) → next_is begins ts ≡ true → next_is_sign signs.CloseParenthesis ts ≡ false
unfolding next_is_sign
begins_no_close [] h = refl
begins_no_close ((m, p) ∷ ts) h = begins_no_close_at m h
