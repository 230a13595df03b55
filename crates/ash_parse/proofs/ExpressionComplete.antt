-- What is in the grammar of expressions is read, or reading is cut where a token is too deep.
use Rattle.std.proofs.Common.{◌≡◌, ℕ, zero, suc, ◌+◌, ◌<◌, ◌≤◌, ◌==◌, List, [], ◌∷◌, length, true, false, Some, Ok, refl, arith}
use Rattle.std.proofs.lemmas.Bool.Decides.{nat_tests}
use Rattle.ash_lex.specs.Tokens.{Meaning, name, sign, reserved}
use Rattle.ash_lex.specs.declared.signs.Sign.TheVariants as signs
use Rattle.ash_lex.specs.declared.words.ReservedWord.TheVariants as words
use Rattle.ash_tree.specs.declared.tree.places.Position.{Position}
use Rattle.ash_tree.specs.declared.tree.types.Primitive.{Primitive}
use Rattle.ash_tree.specs.declared.tree.operators.UnaryOp.{UnaryOp}
use Rattle.ash_tree.specs.declared.tree.operators.BinaryOp.{BinaryOp}
use Rattle.ash_tree.specs.declared.tree.operators.AssignOp.{AssignOp}
use Rattle.ash_tree.specs.Tree.{Element, Expr, Name, Call, Brackets, Convert, NewArray, Cast, Unary, Conditional, Assign, Suffix, Field, Method, Index, OperatorLink, place_of, exprs, chained, suffixed}
use Rattle.ash_tree.specs.GrammarTokens.{Tokens}
use Rattle.ash_tree.specs.Operators.{primitive, unary_operator, binary_operator, level, max_level, assign_operator}
use Rattle.ash_tree.specs.Types.{IsElement}
use Rattle.ash_tree.specs.Expressions.{max_depth, IsInner, inner, AreExprs, no_exprs, some_exprs, AreMoreExprs, no_more_exprs, more_exprs, IsArgs, args, IsAssign, no_assign, assign, IsCond, no_branch, branches, IsBinary, operand, joined, AreLinks, no_links, more_links, IsUnary, applied, postfix, AreSuffixes, no_suffixes, more_suffixes, IsSuffix, field, method, index, increment, decrement, IsPrimary, numeral, yes, no, null, this, named, call, brackets, convert, new_array, cast}
use Rattle.ash_parse.specs.SignTokens.{is_sign, same_sign}
use Rattle.ash_parse.specs.Readers.{next_is, next_is_sign}
use Rattle.ash_parse.specs.ExpressionReader.{Below, begins, next_expr_with, more_exprs_with, exprs_with, arguments_with, bracketed_with, name_or_call_with, new_array_with, cast_with, primary_with, begins_suffix, is_suffix, member_with, index_with, suffix_with, suffixes_with, postfix_with, unary_with, operator_at, is_link, link_by, links_by, chain_by, binary_with, branches_with, assign_from, assign_with, limit_at, below_at}
use Rattle.ash_parse.specs.TypeReader.{target_at}
use Rattle.ash_parse.proofs.Readings.{expect_again, next_is_sign-again, name_again}
use Rattle.ash_parse.proofs.Elements.{element_read}
use Rattle.ash_parse.proofs.ExpressionShorter.{inner_shorter, binary_shorter, suffix_shorter}
use Rattle.ash_parse.proofs.Rereading.{no_true, Reads, whole, cut, as_read, then_reads, put_reads, ReadsAll, none_again, one_again}
use Rattle.ash_parse.proofs.ExpressionBounds.{Stops, ends_expr, Ends, Closes, assign_plain, plain_stops, ends_stop, ends_assign, close_ends, more_end, suffixes_open, links_stop, suffix_begins, primitive_begins, unary_phrase_begins, assign_begins, inner_begins, begins_no_close}

-- a primary is an operand by itself, with no operator before it
primary_alone : {free depth : ℕ} {from left : Tokens} {e : Expr} (below : Below) → IsPrimary free depth from e left → unary_with below from ≡ postfix_with below from
unfolding unary_with unary_operator
primary_alone below numeral = refl
primary_alone below yes = refl
primary_alone below no = refl
primary_alone below null = refl
primary_alone below this = refl
primary_alone below named = refl
primary_alone below (call a) = refl
primary_alone below (brackets a) = refl
primary_alone below (convert {m = m} {to = to} k a) = rw ((primitive_begins m to k).1) refl
primary_alone below (new_array a b) = refl
primary_alone below (cast a) = refl

target_again : (o q z : Position) (text : List ℕ) (left : Tokens) → target_at ((sign signs.Less, o) ∷ (name text, q) ∷ (sign signs.Greater, z) ∷ left) ≡ Ok (record { place = q; name = text }, left)
unfolding target_at
target_again o q z text left = rw (expect_again signs.Less o ((name text, q) ∷ (sign signs.Greater, z) ∷ left), name_again text q ((sign signs.Greater, z) ∷ left), expect_again signs.Greater z left) refl

module _ (below : Below) where
  exprs_none : (left : Tokens) → Closes left → exprs_with below left ≡ Ok ([], left)
  unfolding exprs_with
  exprs_none left s = rw s refl

  exprs_some : {free : ℕ} (from after left : Tokens) (e : Expr) (es : List Expr) → next_is begins from ≡ true → Reads Expr free (below true from) (e, after) → ReadsAll free (next_is_sign signs.Comma) (next_expr_with below) after es left → Reads (List Expr) free (exprs_with below from) (e ∷ es, left)
  unfolding exprs_with more_exprs_with
  exprs_some from after left e es b h r = rw (begins_no_close from b) (then_reads _ h (put_reads e (r (length after) (omega arith))))

  next_expr_again : {free : ℕ} (p : Position) (from after : Tokens) (e : Expr) → Reads Expr free (below true from) (e, after) → Reads Expr free (next_expr_with below ((sign signs.Comma, p) ∷ from)) (e, after)
  unfolding next_expr_with
  next_expr_again p from after e h = rw (expect_again signs.Comma p from) h

  args_again : {free : ℕ} (p q : Position) (from left : Tokens) (es : List Expr) → Reads (List Expr) free (exprs_with below from) (es, (sign signs.CloseParenthesis, q) ∷ left) → Reads (List Expr) free (arguments_with below ((sign signs.OpenParenthesis, p) ∷ from)) (es, left)
  unfolding arguments_with
  args_again p q from left es h = rw (expect_again signs.OpenParenthesis p from) (then_reads _ h (rw (expect_again signs.CloseParenthesis q left) whole))

  pub bracketed_again : {free : ℕ} (p q : Position) (from left : Tokens) (e : Expr) → Reads Expr free (below true from) (e, (sign signs.CloseParenthesis, q) ∷ left) → Reads Expr free (bracketed_with below ((sign signs.OpenParenthesis, p) ∷ from)) (e, left)
  unfolding bracketed_with
  bracketed_again p q from left e h = rw (expect_again signs.OpenParenthesis p from) (then_reads _ h (rw (expect_again signs.CloseParenthesis q left) whole))

  assign_again : {free : ℕ} (m : Meaning) (p : Position) (from after left : Tokens) (target value : Expr) (operator : AssignOp) → assign_operator m ≡ Some operator → Reads Expr free (binary_with below max_level from) (target, (m, p) ∷ after) → Reads Expr free (below true after) (value, left) → Reads Expr free (assign_with below from) (Assign (place_of target) target operator value, left)
  unfolding assign_with assign_from
  assign_again m p from after left target value operator o h v = then_reads _ h (rw ((assign_plain m operator o).3, o) (then_reads _ v whole))

  alone_again : {free : ℕ} (from left : Tokens) (e : Expr) → Ends left → Reads Expr free (binary_with below max_level from) (e, left) → Reads Expr free (assign_with below from) (e, left)
  unfolding assign_with
  alone_again from left e s h = then_reads _ h (as_read (ends_assign below e left s))

  branches_again : {free : ℕ} (p q : Position) (from first second left : Tokens) (c a b : Expr) → Reads Expr free (binary_with below max_level from) (c, (sign signs.Question, p) ∷ first) → Reads Expr free (below true first) (a, (sign signs.Colon, q) ∷ second) → Reads Expr free (below true second) (b, left) → Reads Expr free (assign_with below from) (Conditional (place_of c) c a b, left)
  unfolding assign_with assign_from branches_with is_sign same_sign
  branches_again p q from first second left c a b h f g = then_reads _ h (then_reads _ f (rw (expect_again signs.Colon q second) (then_reads _ g whole)))

  joined_again : {free : ℕ} (n : ℕ) (from after left : Tokens) (first : Expr) (more : List OperatorLink) → Reads Expr free (binary_with below n from) (first, after) → ReadsAll free (is_link n) (link_by n (binary_with below n)) after more left → Reads Expr free (binary_with below (suc n) from) (chained first more, left)
  unfolding binary_with chain_by links_by
  joined_again n from after left first more h r = then_reads _ h (then_reads _ (r (length after) (omega arith)) whole)

  operator_again : (n : ℕ) (m : Meaning) (p : Position) (ts : Tokens) (o : BinaryOp) → binary_operator m ≡ Some o → level o ≡ suc n → operator_at n ((m, p) ∷ ts) ≡ Some (o, ts)
  unfolding operator_at
  operator_again n m p ts o h l = let e : (level o == suc n) ≡ true = grind (arith, nat_tests) in rw (h, e) refl

  link_begins : (n : ℕ) (m : Meaning) (p : Position) (ts : Tokens) (o : BinaryOp) → binary_operator m ≡ Some o → level o ≡ suc n → is_link n ((m, p) ∷ ts) ≡ true
  unfolding is_link
  link_begins n m p ts o h l = rw (operator_again n m p ts o h l) refl

  link_again : {free : ℕ} (n : ℕ) (m : Meaning) (p : Position) (from after : Tokens) (o : BinaryOp) (e : Expr) → binary_operator m ≡ Some o → level o ≡ suc n → Reads Expr free (binary_with below n from) (e, after) → Reads OperatorLink free (link_by n (binary_with below n) ((m, p) ∷ from)) (record { operator = o; operand = e }, after)
  unfolding link_by
  link_again n m p from after o e h l r = rw (operator_again n m p from o h l) (then_reads _ r whole)

  applied_again : {free : ℕ} (m : Meaning) (p : Position) (from left : Tokens) (o : UnaryOp) (e : Expr) → unary_operator m ≡ Some o → Reads Expr free (below false from) (e, left) → Reads Expr free (unary_with below ((m, p) ∷ from)) (Unary p o e, left)
  unfolding unary_with
  applied_again m p from left o e h r = rw h (then_reads _ r whole)

  postfix_again : {free : ℕ} (from after left : Tokens) (e : Expr) (more : List Suffix) → Reads Expr free (primary_with below from) (e, after) → ReadsAll free is_suffix (suffix_with below) after more left → Reads Expr free (postfix_with below from) (suffixed e more, left)
  unfolding postfix_with suffixes_with
  postfix_again from after left e more h r = then_reads _ h (then_reads _ (r (length after) (omega arith)) whole)

  field_again : (p q : Position) (text : List ℕ) (left : Tokens) → next_is_sign signs.OpenParenthesis left ≡ false → suffix_with below ((sign signs.Dot, p) ∷ (name text, q) ∷ left) ≡ Ok (Field q text, left)
  unfolding suffix_with member_with
  field_again p q text left s = rw (name_again text q left, s) refl

  method_again : {free : ℕ} (p q o : Position) (text : List ℕ) (from left : Tokens) (es : List Expr) → Reads (List Expr) free (arguments_with below ((sign signs.OpenParenthesis, o) ∷ from)) (es, left) → Reads Suffix free (suffix_with below ((sign signs.Dot, p) ∷ (name text, q) ∷ (sign signs.OpenParenthesis, o) ∷ from)) (Method q text (exprs es), left)
  unfolding suffix_with member_with
  method_again p q o text from left es h = rw (name_again text q ((sign signs.OpenParenthesis, o) ∷ from), next_is_sign-again signs.OpenParenthesis o from) (then_reads _ h whole)

  index_again : {free : ℕ} (p q : Position) (from left : Tokens) (e : Expr) → Reads Expr free (below true from) (e, (sign signs.CloseBracket, q) ∷ left) → Reads Suffix free (suffix_with below ((sign signs.OpenBracket, p) ∷ from)) (Index e, left)
  unfolding suffix_with index_with
  index_again p q from left e h = then_reads _ h (rw (expect_again signs.CloseBracket q left) whole)

  named_again : (p : Position) (text : List ℕ) (left : Tokens) → next_is_sign signs.OpenParenthesis left ≡ false → primary_with below ((name text, p) ∷ left) ≡ Ok (Name p text, left)
  unfolding primary_with name_or_call_with primitive
  named_again p text left s = rw s refl

  call_again : {free : ℕ} (p o : Position) (text : List ℕ) (from left : Tokens) (es : List Expr) → Reads (List Expr) free (arguments_with below ((sign signs.OpenParenthesis, o) ∷ from)) (es, left) → Reads Expr free (primary_with below ((name text, p) ∷ (sign signs.OpenParenthesis, o) ∷ from)) (Call p text (exprs es), left)
  unfolding primary_with name_or_call_with primitive
  call_again p o text from left es h = rw (next_is_sign-again signs.OpenParenthesis o from) (then_reads _ h whole)

  brackets_again : {free : ℕ} (p q : Position) (from left : Tokens) (e : Expr) → Reads Expr free (below true from) (e, (sign signs.CloseParenthesis, q) ∷ left) → Reads Expr free (primary_with below ((sign signs.OpenParenthesis, p) ∷ from)) (Brackets p e, left)
  unfolding primary_with primitive
  brackets_again p q from left e h = then_reads _ (bracketed_again p q from left e h) whole

  convert_again : {free : ℕ} (m : Meaning) (k : Primitive) (p q r : Position) (from left : Tokens) (e : Expr) → primitive m ≡ Some k → Reads Expr free (below true from) (e, (sign signs.CloseParenthesis, r) ∷ left) → Reads Expr free (primary_with below ((m, p) ∷ (sign signs.OpenParenthesis, q) ∷ from)) (Convert p k e, left)
  unfolding primary_with
  convert_again m k p q r from left e o h = rw o (then_reads _ (bracketed_again q r from left e h) whole)

  new_array_again : {free : ℕ} (p : Position) (of : Element) (from after left : Tokens) (es : List Expr) → IsElement from of after → Reads (List Expr) free (arguments_with below after) (es, left) → Reads Expr free (primary_with below ((reserved words.Array, p) ∷ from)) (NewArray p of (exprs es), left)
  unfolding primary_with new_array_with primitive
  new_array_again p of from after left es a h = rw (element_read a) (then_reads _ h whole)

  cast_again : {free : ℕ} (p o q r s z : Position) (text : List ℕ) (from left : Tokens) (e : Expr) → Reads Expr free (below true from) (e, (sign signs.CloseParenthesis, z) ∷ left) → Reads Expr free (primary_with below ((reserved words.Cast, p) ∷ (sign signs.Less, o) ∷ (name text, q) ∷ (sign signs.Greater, r) ∷ (sign signs.OpenParenthesis, s) ∷ from)) (Cast p (record { place = q; name = text }) e, left)
  unfolding primary_with cast_with primitive
  cast_again p o q r s z text from left e h = rw (target_again o q r text ((sign signs.OpenParenthesis, s) ∷ from)) (then_reads _ (bracketed_again s z from left e h) whole)

question_stops : (p : Position) (ts : Tokens) → Stops max_level ((sign signs.Question, p) ∷ ts)
unfolding is_sign same_sign begins_suffix binary_operator
question_stops p ts = plain_stops max_level (sign signs.Question) p ts refl refl refl

-- what begins here is too deep, so that the limit is not asked of it
pub past : (free n depth : ℕ) → (free < n → suc depth ≤ max_depth) → depth + 0 ≡ max_depth → n ≤ free
past free n depth w d = grind arith

-- where no deeper phrase may begin
limit_cuts : (free : ℕ) (from left : Tokens) (e : Expr) → next_is begins from ≡ true → length from ≤ free → Reads Expr free (limit_at from) (e, left)
unfolding limit_at
limit_cuts free [] left e b l = absurd (no_true b)
limit_cuts free ((m, p) ∷ ts) left e b l = rw b (cut {free = free} {more = ts} (omega arith))

mutual
  unfolding below_at binary_with primary_with suffix_with primitive ends_expr

  pub inner_read : {free depth : ℕ} {from left : Tokens} {e : Expr} → IsInner free depth from e left → (room : ℕ) → depth + room ≡ max_depth → Ends left → Reads Expr free (below_at room true from) (e, left)
  inner_read (inner {free = free} {depth = depth} {from = from} {left = left} {e = e} w a) zero d s = limit_cuts free from left e (assign_begins a) (past free (length from) depth w d)
  inner_read (inner w a) (suc room) d s = assign_read a room (omega arith) s

  pub exprs_read : {free depth : ℕ} {from left : Tokens} {es : List Expr} → AreExprs free depth from es left → (room : ℕ) → depth + room ≡ max_depth → Closes left → Reads (List Expr) free (exprs_with (below_at room) from) (es, left)
  exprs_read (no_exprs {left = left}) room d s = as_read (exprs_none (below_at room) left s)
  exprs_read (some_exprs {from = from} {after = after} {left = left} {e = e} {es = es} a b) room d s =
      exprs_some (below_at room) from after left e es (inner_begins a) (inner_read a room d (more_end b s)) (more_exprs_read b room d s)

  more_exprs_read : {free depth : ℕ} {from left : Tokens} {es : List Expr} → AreMoreExprs free depth from es left → (room : ℕ) → depth + room ≡ max_depth → Closes left → ReadsAll free (next_is_sign signs.Comma) (next_expr_with (below_at room)) from es left
  more_exprs_read (no_more_exprs {left = left}) room d s = none_again _ (next_is_sign signs.Comma) (next_expr_with (below_at room)) left (close_ends left s).1
  more_exprs_read (more_exprs {p = p} {from = from} {after = after} {left = left} {e = e} {es = es} a b) room d s =
      let l = inner_shorter a in
      one_again _ (next_is_sign signs.Comma) (next_expr_with (below_at room)) ((sign signs.Comma, p) ∷ from) after left e es (next_is_sign-again signs.Comma p from) (next_expr_again (below_at room) p from after e (inner_read a room d (more_end b s))) (omega arith) (more_exprs_read b room d s)

  pub args_read : {free depth : ℕ} {from left : Tokens} {es : List Expr} → IsArgs free depth from es left → (room : ℕ) → depth + room ≡ max_depth → Reads (List Expr) free (arguments_with (below_at room) from) (es, left)
  args_read (args {p = p} {q = q} {from = from} {left = left} {es = es} a) room d = args_again (below_at room) p q from left es (exprs_read a room d (next_is_sign-again signs.CloseParenthesis q left))

  pub assign_read : {free depth : ℕ} {from left : Tokens} {e : Expr} → IsAssign free depth from e left → (room : ℕ) → depth + room ≡ max_depth → Ends left → Reads Expr free (assign_with (below_at room) from) (e, left)
  assign_read (no_assign a) room d s = cond_read a room d s
  assign_read (assign {m = m} {p = p} {from = from} {after = after} {left = left} {target = target} {value = value} {operator = operator} a o b) room d s =
      let q = assign_plain m operator o in
      assign_again (below_at room) m p from after left target value operator o (binary_read a room d (plain_stops max_level m p after q.0 q.1 q.2)) (inner_read b room d s)

  cond_read : {free depth : ℕ} {from left : Tokens} {e : Expr} → IsCond free depth from e left → (room : ℕ) → depth + room ≡ max_depth → Ends left → Reads Expr free (assign_with (below_at room) from) (e, left)
  cond_read (no_branch {from = from} {left = left} {e = e} a) room d s = alone_again (below_at room) from left e s (binary_read a room d (ends_stop max_level left s))
  cond_read (branches {p = p} {q = q} {from = from} {first = first} {second = second} {left = left} {c = c} {a = a} {b = b} i j k) room d s =
      branches_again (below_at room) p q from first second left c a b (binary_read i room d (question_stops p first)) (inner_read j room d refl) (inner_read k room d s)

  binary_read : {free depth n : ℕ} {from left : Tokens} {e : Expr} → IsBinary free depth n from e left → (room : ℕ) → depth + room ≡ max_depth → Stops n left → Reads Expr free (binary_with (below_at room) n from) (e, left)
  binary_read (operand a) room d s = unary_read a room d s
  binary_read (joined {n = n} {from = from} {after = after} {left = left} {first = first} {more = more} a b) room d s =
      joined_again (below_at room) n from after left first more (binary_read a room d (links_stop b s)) (links_read b room d s)

  links_read : {free depth n : ℕ} {from left : Tokens} {more : List OperatorLink} → AreLinks free depth n from more left → (room : ℕ) → depth + room ≡ max_depth → Stops (suc n) left → ReadsAll free (is_link n) (link_by n (binary_with (below_at room) n)) from more left
  links_read (no_links {n = n} {left = left}) room d s = none_again _ (is_link n) (link_by n (binary_with (below_at room) n)) left (s.2 n (omega arith))
  links_read (more_links {n = n} {m = m} {p = p} {from = from} {after = after} {left = left} {operator = operator} {operand = right} {more = more} o l a b) room d s =
      let k = binary_shorter a in
      one_again _ (is_link n) (link_by n (binary_with (below_at room) n)) ((m, p) ∷ from) after left (record { operator = operator; operand = right }) more (link_begins (below_at room) n m p from operator o l) (link_again (below_at room) n m p from after operator right o l (binary_read a room d (links_stop b s))) (omega arith) (links_read b room d s)

  unary_read : {free depth : ℕ} {from left : Tokens} {e : Expr} → IsUnary free depth from e left → (room : ℕ) → depth + room ≡ max_depth → Stops 0 left → Reads Expr free (unary_with (below_at room) from) (e, left)
  unary_read (applied {free = free} {depth = depth} {m = m} {p = p} {from = from} {left = left} {operator = operator} {e = e} o w a) zero d s =
      applied_again (below_at zero) m p from left operator e o (limit_cuts free from left e (unary_phrase_begins a) (past free (length from) depth w d))
  unary_read (applied {m = m} {p = p} {from = from} {left = left} {operator = operator} {e = e} o w a) (suc room) d s =
      applied_again (below_at (suc room)) m p from left operator e o (unary_read a room (omega arith) s)
  unary_read (postfix {from = from} {after = after} {left = left} {e = e} {more = more} a b) room d s =
      rw (primary_alone (below_at room) a) (postfix_again (below_at room) from after left e more (primary_read a room d (suffixes_open b s.0)) (suffixes_read b room d s))

  suffixes_read : {free depth : ℕ} {from left : Tokens} {more : List Suffix} → AreSuffixes free depth from more left → (room : ℕ) → depth + room ≡ max_depth → Stops 0 left → ReadsAll free is_suffix (suffix_with (below_at room)) from more left
  suffixes_read (no_suffixes {left = left}) room d s = none_again _ is_suffix (suffix_with (below_at room)) left s.1
  suffixes_read (more_suffixes {from = from} {after = after} {left = left} {s = x} {more = more} a b) room d s =
      one_again _ is_suffix (suffix_with (below_at room)) from after left x more (suffix_begins a) (suffix_read a room d (suffixes_open b s.0)) (suffix_shorter a) (suffixes_read b room d s)

  suffix_read : {free depth : ℕ} {from left : Tokens} {x : Suffix} → IsSuffix free depth from x left → (room : ℕ) → depth + room ≡ max_depth → next_is_sign signs.OpenParenthesis left ≡ false → Reads Suffix free (suffix_with (below_at room) from) (x, left)
  suffix_read (field {p = p} {q = q} {text = text} {left = left}) room d s = as_read (field_again (below_at room) p q text left s)
  suffix_read (method {p = p} {q = q} {text = text} {left = left} {es = es} (args {p = o} {q = c} {from = from} a)) room d s =
      method_again (below_at room) p q o text from left es (args_again (below_at room) o c from left es (exprs_read a room d (next_is_sign-again signs.CloseParenthesis c left)))
  suffix_read (index {p = p} {q = q} {from = from} {left = left} {e = e} a) room d s = index_again (below_at room) p q from left e (inner_read a room d refl)
  suffix_read increment room d s = whole
  suffix_read decrement room d s = whole

  primary_read : {free depth : ℕ} {from left : Tokens} {e : Expr} → IsPrimary free depth from e left → (room : ℕ) → depth + room ≡ max_depth → next_is_sign signs.OpenParenthesis left ≡ false → Reads Expr free (primary_with (below_at room) from) (e, left)
  primary_read numeral room d s = whole
  primary_read yes room d s = whole
  primary_read no room d s = whole
  primary_read null room d s = whole
  primary_read this room d s = whole
  primary_read (named {p = p} {text = text} {left = left}) room d s = as_read (named_again (below_at room) p text left s)
  primary_read (call {p = p} {text = text} {left = left} {es = es} (args {p = o} {q = c} {from = from} a)) room d s =
      call_again (below_at room) p o text from left es (args_again (below_at room) o c from left es (exprs_read a room d (next_is_sign-again signs.CloseParenthesis c left)))
  primary_read (brackets {p = p} {q = q} {from = from} {left = left} {e = e} a) room d s = brackets_again (below_at room) p q from left e (inner_read a room d refl)
  primary_read (convert {m = m} {p = p} {q = q} {r = r} {to = to} {from = from} {left = left} {e = e} k a) room d s = convert_again (below_at room) m to p q r from left e k (inner_read a room d refl)
  primary_read (new_array {p = p} {of = of} {from = from} {left = left} {es = es} a (args {p = o} {q = c} {from = inside} b)) room d s =
      new_array_again (below_at room) p of from ((sign signs.OpenParenthesis, o) ∷ inside) left es a (args_again (below_at room) o c inside left es (exprs_read b room d (next_is_sign-again signs.CloseParenthesis c left)))
  primary_read (cast {p = p} {o = o} {q = q} {r = r} {s = b} {z = z} {text = text} {from = from} {left = left} {e = e} a) room d s = cast_again (below_at room) p o q r b z text from left e (inner_read a room d refl)
