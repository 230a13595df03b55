-- What is answered of an expression hangs only on the tokens that are taken and the next one.
use Rattle.std.proofs.Common.{◌≡◌, ℕ, zero, suc, ◌≤◌, ◌==◌, ◌⊎◌, inl, inr, List, [], ◌∷◌, ◌++◌, Bool, true, false, cond, is_some, Option, Some, None, Ok, Err, refl, ap, arith}
use Rattle.ash_lex.specs.Tokens.{Meaning, name, number, sign, reserved}
use Rattle.ash_lex.specs.declared.signs.Sign.TheVariants as signs
use Rattle.ash_lex.specs.declared.words.ReservedWord.TheVariants as words
use Rattle.ash_tree.specs.declared.tree.places.Position.{Position}
use Rattle.ash_tree.specs.declared.tree.types.Primitive.{Primitive}
use Rattle.ash_tree.specs.declared.tree.operators.UnaryOp.{UnaryOp}
use Rattle.ash_tree.specs.declared.tree.operators.BinaryOp.{BinaryOp}
use Rattle.ash_tree.specs.declared.tree.operators.AssignOp.{AssignOp}
use Rattle.ash_tree.specs.Tree.{Element, Expr, Number, Truth, Null, This, Name, Call, Brackets, Convert, NewArray, Cast, Unary, Conditional, Assign, Field, Method, Index, Increment, Decrement, place_of, exprs, chained, suffixed}
use Rattle.ash_tree.specs.GrammarTokens.{Tokens}
use Rattle.ash_tree.specs.Operators.{primitive, unary_operator, binary_operator, level, max_level, assign_operator}
use Rattle.ash_parse.specs.SignTokens.{is_sign}
use Rattle.ash_parse.specs.Readers.{TooDeep, ParseResult, ◌>>=◌, next_is, next_is_sign}
use Rattle.ash_parse.specs.ExpressionReader.{begins, limit_at, next_expr_with, more_exprs_with, exprs_with, arguments_with, bracketed_with, name_or_call_with, new_array_with, cast_with, primary_by, primary_with, begins_suffix, is_suffix, member_with, index_with, suffix_with, suffixes_with, postfix_with, unary_by, unary_with, operator_by, operator_at, is_link, link_from, link_by, links_by, chain_by, binary_with, branches_with, assign_by, assign_from, assign_with, below_at}
use Rattle.ash_parse.specs.TypeReader.{element_at, target_at}
use Rattle.ash_parse.proofs.ExpressionLoops.{next_expr_shrinks, suffix_shrinks, link_shrinks}
use Rattle.ash_parse.proofs.Rereading.{no_some}
use Rattle.ash_parse.proofs.Keeps.{Past, Lawful, ok_lawful, bind_past, bind_lawful, put_lawful, Steady, next_steady, sign_steady, if_lawful, IsNoArray, sign_no_array, Led, led_after, led_array, led_from, led_stop, led_deep, led_if, led_lawful, expect_lawful, name_lawful, Takes, bind_takes, loop_lawful}
use Rattle.ash_parse.proofs.Choices.{element_lawful, Passed, name_passed, word_passed, array_passed}

suffix_steady : Steady is_suffix
unfolding is_suffix
suffix_steady = next_steady begins_suffix

same_operator : (n : ℕ) (o : Option BinaryOp) (s r : Tokens) → is_some (operator_by n o s) ≡ is_some (operator_by n o r)
same_operator n None s r = refl
same_operator n (Some o) s r = same (level o == suc n)
  where
    same : (b : Bool) → is_some {T = BinaryOp × Tokens} (cond b (Some (o, s)) None) ≡ is_some {T = BinaryOp × Tokens} (cond b (Some (o, r)) None)
    same true = refl
    same false = refl

link_steady : (n : ℕ) → Steady (is_link n)
unfolding is_link operator_at
link_steady n (m, p) more other [] = same_operator n (binary_operator m) more other
link_steady n t more other ((m, p) ∷ prefix) = same_operator n (binary_operator m) (prefix ++ t ∷ more) (prefix ++ t ∷ other)

limit_lawful : Lawful limit_at
unfolding limit_at
limit_lawful = led_lawful (λ n. omega arith) (λ m p. led_if (begins m) (λ b. led_deep) led_stop)

target_lawful : Lawful target_at
unfolding target_at
target_lawful = bind_lawful _ (expect_lawful signs.Less) λ o. bind_lawful _ name_lawful λ n. bind_lawful _ (expect_lawful signs.Greater) λ z. ok_lawful (record { place = n.1; name = n.0 })

word_unary : (m : Meaning) (k : Primitive) → primitive m ≡ Some k → unary_operator m ≡ None
unfolding primitive unary_operator
word_unary (reserved words.Not) k h = absurd (no_some k h)
word_unary (reserved w) k h = refl
word_unary (sign s) k h = absurd (no_some k h)
word_unary m k h = refl

-- operators are no arrays
pub word_is_no_array : (m : Meaning) (k : Primitive) → primitive m ≡ Some k → IsNoArray m
unfolding primitive
word_is_no_array (reserved words.Array) k h = no_some k h
word_is_no_array m k h = tt

unary_no_array : (m : Meaning) (o : UnaryOp) → unary_operator m ≡ Some o → IsNoArray m
unfolding unary_operator
unary_no_array (reserved words.Array) o h = no_some o h
unary_no_array m o h = tt

binary_no_array : (m : Meaning) (o : BinaryOp) → binary_operator m ≡ Some o → IsNoArray m
unfolding binary_operator
binary_no_array (reserved words.Array) o h = no_some o h
binary_no_array m o h = tt

assign_no_array : (m : Meaning) (o : AssignOp) → assign_operator m ≡ Some o → IsNoArray m
unfolding assign_operator
assign_no_array (reserved words.Array) o h = no_some o h
assign_no_array m o h = tt

module _ (room : ℕ) (h : room ≤ 64) (deeper : (whole : Bool) → Lawful (below_at room whole)) where
  next_expr_lawful : Lawful (next_expr_with (below_at room))
  unfolding next_expr_with
  next_expr_lawful = bind_lawful _ (expect_lawful signs.Comma) λ c. deeper true

  pub more_exprs_lawful : Lawful (more_exprs_with (below_at room))
  unfolding more_exprs_with
  more_exprs_lawful = loop_lawful (next_is_sign signs.Comma) (next_expr_with (below_at room)) (next_expr_shrinks room h) (sign_steady signs.Comma) next_expr_lawful

  pub exprs_lawful : Lawful (exprs_with (below_at room))
  unfolding exprs_with
  exprs_lawful = if_lawful _ (sign_steady signs.CloseParenthesis) (ok_lawful []) (bind_lawful _ (deeper true) λ e. put_lawful e more_exprs_lawful)

  pub arguments_lawful : Lawful (arguments_with (below_at room))
  unfolding arguments_with
  arguments_lawful = bind_lawful _ (expect_lawful signs.OpenParenthesis) λ o. bind_lawful _ exprs_lawful λ es. bind_lawful _ (expect_lawful signs.CloseParenthesis) λ z. ok_lawful es

  pub bracketed_lawful : Lawful (bracketed_with (below_at room))
  unfolding bracketed_with
  bracketed_lawful = bind_lawful _ (expect_lawful signs.OpenParenthesis) λ o. bind_lawful _ (deeper true) λ e. bind_lawful _ (expect_lawful signs.CloseParenthesis) λ z. ok_lawful e

  named_lawful : (p : Position) (text : List ℕ) → Lawful (name_or_call_with (below_at room) p text)
  unfolding name_or_call_with
  named_lawful p text = if_lawful _ (sign_steady signs.OpenParenthesis) (bind_lawful _ arguments_lawful λ es. ok_lawful (Call p text (exprs es))) (ok_lawful (Name p text))

  convert_lawful : (p : Position) (k : Primitive) → Lawful (λ s. bracketed_with (below_at room) s >>= λ e. Ok (Convert p k e.0, e.1))
  convert_lawful p k = bind_lawful _ bracketed_lawful λ e. ok_lawful (Convert p k e)

  cast_lawful : (p : Position) → Lawful (cast_with (below_at room) p)
  unfolding cast_with
  cast_lawful p = bind_lawful _ target_lawful λ t. bind_lawful _ bracketed_lawful λ e. ok_lawful (Cast p t e)

  -- what is after an array's elements' type
  after_element_lawful : (p : Position) (of : Element) → Lawful (λ s. arguments_with (below_at room) s >>= λ es. Ok (NewArray p of (exprs es.0), es.1))
  after_element_lawful p of = bind_lawful _ arguments_lawful λ es. ok_lawful (NewArray p of (exprs es))

  new_array_led : (p : Position) → Led (reserved words.Array, p) (λ s. new_array_with (below_at room) p s)
  unfolding new_array_with
  new_array_led p = led_array (λ of. arguments_with (below_at room) of.1 >>= λ es. Ok (NewArray p of.0 (exprs es.0), es.1)) element_lawful (after_element_lawful p) p

  primary_led : (k : Option Primitive) (m : Meaning) (p : Position) → primitive m ≡ k → Led (m, p) (λ s. primary_by (below_at room) k m p s)
  primary_led (Some k) m p g = led_after (word_is_no_array m k g) (convert_lawful p k)
  primary_led None (name text) p g = led_after tt (named_lawful p text)
  primary_led None (number n) p g = led_after tt (ok_lawful (Number p n))
  primary_led None (sign signs.OpenParenthesis) p g = led_from {read = λ s. bracketed_with (below_at room) s >>= λ e. Ok (Brackets p e.0, e.1)} (bind_lawful _ bracketed_lawful λ e. ok_lawful (Brackets p e))
  primary_led None (reserved words.True) p g = led_after tt (ok_lawful (Truth p true))
  primary_led None (reserved words.False) p g = led_after tt (ok_lawful (Truth p false))
  primary_led None (reserved words.Null) p g = led_after tt (ok_lawful (Null p))
  primary_led None (reserved words.This) p g = led_after tt (ok_lawful (This p))
  primary_led None (reserved words.Array) p g = new_array_led p
  primary_led None (reserved words.Cast) p g = led_after tt (cast_lawful p)
  primary_led None m p g = led_stop

  primary_lawful : Lawful (primary_with (below_at room))
  unfolding primary_with
  primary_lawful = led_lawful (λ n. omega arith) (λ m p. primary_led (primitive m) m p refl)

  member_lawful : Lawful (member_with (below_at room))
  unfolding member_with
  member_lawful = bind_lawful _ name_lawful λ n. if_lawful _ (sign_steady signs.OpenParenthesis) (bind_lawful _ arguments_lawful λ es. ok_lawful (Method n.1 n.0 (exprs es))) (ok_lawful (Field n.1 n.0))

  index_lawful : Lawful (index_with (below_at room))
  unfolding index_with
  index_lawful = bind_lawful _ (deeper true) λ e. bind_lawful _ (expect_lawful signs.CloseBracket) λ z. ok_lawful (Index e)

  suffix_led : (m : Meaning) (p : Position) → Led (m, p) (λ s. suffix_with (below_at room) ((m, p) ∷ s))
  unfolding suffix_with
  suffix_led (sign signs.Dot) p = led_after tt member_lawful
  suffix_led (sign signs.OpenBracket) p = led_after tt index_lawful
  suffix_led (sign signs.Increment) p = led_after tt (ok_lawful Increment)
  suffix_led (sign signs.Decrement) p = led_after tt (ok_lawful Decrement)
  suffix_led m p = led_stop

  suffix_lawful : Lawful (suffix_with (below_at room))
  unfolding suffix_with
  suffix_lawful = led_lawful (λ n. omega arith) suffix_led

  suffixes_lawful : Lawful (suffixes_with (below_at room))
  unfolding suffixes_with
  suffixes_lawful = loop_lawful is_suffix (suffix_with (below_at room)) (suffix_shrinks room h) suffix_steady suffix_lawful

  after_primary : (e : Expr) → Lawful (λ s. suffixes_with (below_at room) s >>= λ more. Ok (suffixed e more.0, more.1))
  after_primary e = bind_lawful _ suffixes_lawful λ more. ok_lawful (suffixed e more)

  postfix_lawful : Lawful (postfix_with (below_at room))
  unfolding postfix_with
  postfix_lawful = bind_lawful _ primary_lawful after_primary

  unary_led : (o : Option UnaryOp) (m : Meaning) (p : Position) → unary_operator m ≡ o → Led (m, p) (λ s. unary_by (below_at room) o m p s)
  unary_led None m p g = led_from postfix_lawful
  unary_led (Some o) m p g = led_after (unary_no_array m o g) (bind_lawful _ (deeper false) λ e. ok_lawful (Unary p o e))

  pub unary_lawful : Lawful (unary_with (below_at room))
  unfolding unary_with
  unary_lawful = led_lawful (λ n. omega arith) (λ m p. unary_led (unary_operator m) m p refl)

  link_led : (read : Tokens → ParseResult Expr) → Lawful read → (n : ℕ) (o : Option BinaryOp) (m : Meaning) (p : Position) → binary_operator m ≡ o → Led (m, p) (λ s. link_from read (operator_by n o s) ((m, p) ∷ s))
  link_led read law n None m p g = led_stop
  link_led read law n (Some o) m p g = on_level (level o == suc n)
    where
      on_level : (b : Bool) → Led (m, p) (λ s. link_from read (cond b (Some (o, s)) None) ((m, p) ∷ s))
      on_level true = led_after (binary_no_array m o g) (bind_lawful _ law λ e. ok_lawful (record { operator = o; operand = e }))
      on_level false = led_stop

  link_lawful : (n : ℕ) → Lawful (binary_with (below_at room) n) → Lawful (link_by n (binary_with (below_at room) n))
  unfolding link_by operator_at
  link_lawful n law = led_lawful (λ n. omega arith) (λ m p. link_led (binary_with (below_at room) n) law n (binary_operator m) m p refl)

  links_lawful : (n : ℕ) → Lawful (binary_with (below_at room) n) → Lawful (links_by n (binary_with (below_at room) n))
  unfolding links_by
  links_lawful n law = loop_lawful (is_link n) (link_by n (binary_with (below_at room) n)) (link_shrinks room h n) (link_steady n) (link_lawful n law)

  after_operand : (n : ℕ) → Lawful (binary_with (below_at room) n) → (e : Expr) → Lawful (λ s. links_by n (binary_with (below_at room) n) s >>= λ more. Ok (chained e more.0, more.1))
  after_operand n law e = bind_lawful _ (links_lawful n law) λ more. ok_lawful (chained e more)

  chain_lawful : (n : ℕ) → Lawful (binary_with (below_at room) n) → Lawful (chain_by n (binary_with (below_at room) n))
  unfolding chain_by
  chain_lawful n law = bind_lawful _ law (after_operand n law)

  binary_lawful : (n : ℕ) → Lawful (binary_with (below_at room) n)
  unfolding binary_with
  binary_lawful zero = unary_lawful
  binary_lawful (suc n) = chain_lawful n (binary_lawful n)

  branches_lawful : (c : Expr) → Lawful (branches_with (below_at room) c)
  unfolding branches_with
  branches_lawful c = bind_lawful _ (deeper true) λ a. bind_lawful _ (expect_lawful signs.Colon) λ o. bind_lawful _ (deeper true) λ b. ok_lawful (Conditional (place_of c) c a b)

  assign_led : (e : Expr) (o : Option AssignOp) (m : Meaning) (p : Position) → assign_operator m ≡ o → Led (m, p) (λ s. assign_by (below_at room) e o m p s)
  assign_led e None m p g = led_from (ok_lawful e)
  assign_led e (Some o) m p g = led_after (assign_no_array m o g) (bind_lawful _ (deeper true) λ v. ok_lawful (Assign (place_of e) e o v))

  assign_from_lawful : (e : Expr) → Lawful (assign_from (below_at room) e)
  unfolding assign_from
  assign_from_lawful e = led_lawful (λ n. omega arith) (λ m p. led_if (is_sign signs.Question m) (λ q. led_after (sign_no_array signs.Question m q) (branches_lawful e)) (assign_led e (assign_operator m) m p refl))

  pub assign_lawful : Lawful (assign_with (below_at room))
  unfolding assign_with
  assign_lawful = bind_lawful _ (binary_lawful max_level) assign_from_lawful

  -- what leaves open whether a declaration begins is taken
  primary_takes : Takes Passed (primary_with (below_at room))
  unfolding primary_with new_array_with primitive
  primary_takes = record { taken = by_passed }
    where
      by_passed : (n : ℕ) (s : Tokens) → Passed n s → Past n (primary_with (below_at room) s)
      by_passed n _ (name_passed text p s l) = (named_lawful p text).stays n s l
      by_passed n _ (word_passed m p k s e l) = rw e ((convert_lawful p k).stays n s l)
      by_passed n _ (array_passed p s l) = bind_past (λ of. arguments_with (below_at room) of.1 >>= λ es. Ok (NewArray p of.0 (exprs es.0), es.1)) n (element_at s) l (λ of r k. (after_element_lawful p of).stays n r k)

  postfix_takes : Takes Passed (postfix_with (below_at room))
  unfolding postfix_with
  postfix_takes = bind_takes _ primary_takes after_primary

  unary_takes : Takes Passed (unary_with (below_at room))
  unfolding unary_with unary_operator
  unary_takes = record { taken = by_passed }
    where
      by_passed : (n : ℕ) (s : Tokens) → Passed n s → Past n (unary_with (below_at room) s)
      by_passed n _ (name_passed text p s l) = postfix_takes.taken n ((name text, p) ∷ s) (name_passed text p s l)
      by_passed n _ (word_passed m p k s e l) = rw (word_unary m k e) (postfix_takes.taken n ((m, p) ∷ s) (word_passed m p k s e l))
      by_passed n _ (array_passed p s l) = postfix_takes.taken n ((reserved words.Array, p) ∷ s) (array_passed p s l)

  binary_takes : (level : ℕ) → Takes Passed (binary_with (below_at room) level)
  unfolding binary_with chain_by
  binary_takes zero = unary_takes
  binary_takes (suc level) = bind_takes _ (binary_takes level) (after_operand level (binary_lawful level))

  pub assign_takes : Takes Passed (assign_with (below_at room))
  unfolding assign_with
  assign_takes = bind_takes _ (binary_takes max_level) assign_from_lawful

pub below_lawful : (room : ℕ) → room ≤ 64 → (whole : Bool) → Lawful (below_at room whole)
unfolding below_at
below_lawful zero h whole = limit_lawful
below_lawful (suc room) h true = assign_lawful room (omega arith) (below_lawful room (omega arith))
below_lawful (suc room) h false = unary_lawful room (omega arith) (below_lawful room (omega arith))

word_begins : (m : Meaning) (k : Primitive) → primitive m ≡ Some k → begins m ≡ true
unfolding primitive begins
word_begins (reserved words.Bool) k e = refl
word_begins (reserved words.Int) k e = refl
word_begins (reserved words.Int32) k e = refl
word_begins (reserved words.Int64) k e = refl
word_begins (reserved words.Uint) k e = refl
word_begins (reserved words.Uint32) k e = refl
word_begins (reserved words.Uint64) k e = refl
word_begins m k e = absurd (no_some k e)

-- what leaves it open begins an expression
pub passed_begins : (n : ℕ) (s : Tokens) → Passed n s → next_is begins s ≡ true
unfolding begins
passed_begins n _ (name_passed text p s l) = refl
passed_begins n _ (word_passed m p k s e l) = word_begins m k e
passed_begins n _ (array_passed p s l) = refl

-- the reader takes what leaves it open, or is cut there
pub record TakesOrCut {A : Type 0} (read : Tokens → ParseResult A) : Type 0 where
  pub taken : (n : ℕ) (s : Tokens) → Passed n s → Past n (read s) ⊎ (read s ≡ Err (TooDeep s))

pub then_takes_or_cut : {A B : Type 0} {read : Tokens → ParseResult A} (f : A × Tokens → ParseResult B) → TakesOrCut read → ((x : A) → Lawful (λ s. f (x, s))) → TakesOrCut (λ s. read s >>= f)
then_takes_or_cut {A} {B} {read} f takes next = record { taken = λ n s p. either n s (takes.taken n s p) }
  where
    either : (n : ℕ) (s : Tokens) → Past n (read s) ⊎ (read s ≡ Err (TooDeep s)) → Past n (read s >>= f) ⊎ ((read s >>= f) ≡ Err (TooDeep s))
    either n s (inl h) = inl (bind_past f n (read s) h (λ x r l. (next x).stays n r l))
    either n s (inr e) = inr (ap (λ (o : ParseResult A). ◌>>=◌ {B = B} o f) e)

limit_takes : TakesOrCut limit_at
unfolding limit_at
limit_takes = record { taken = λ n s p. inr (rw (passed_begins n s p) refl) }

-- where a phrase may still begin, it is taken
pub room_takes : (room : ℕ) → suc room ≤ 64 → Takes Passed (below_at (suc room) true)
unfolding below_at
room_takes room h = assign_takes room (omega arith) (below_lawful room (omega arith))

pub below_takes : (room : ℕ) → room ≤ 64 → TakesOrCut (below_at room true)
unfolding below_at
below_takes zero h = limit_takes
below_takes (suc room) h = record { taken = λ n s p. inl ((assign_takes room (omega arith) (below_lawful room (omega arith))).taken n s p) }
