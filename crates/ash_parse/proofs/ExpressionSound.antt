-- What is read of an expression is in the grammar.
use Rattle.std.proofs.Common.{◌≡◌, ℕ, zero, suc, ◌+◌, ◌==◌, List, [], ◌∷◌, true, false, cond, Option, Some, None, Ok, Err, refl, sym, subst, length, arith}
use Rattle.std.proofs.lemmas.Bool.Decides.{nat_tests}
use Rattle.ash_lex.specs.Tokens.{Meaning, name, number, sign, reserved}
use Rattle.ash_lex.specs.declared.signs.Sign.TheVariants as signs
use Rattle.ash_lex.specs.declared.words.ReservedWord.TheVariants as words
use Rattle.ash_tree.specs.declared.tree.places.Position.{Position}
use Rattle.ash_tree.specs.declared.tree.types.Primitive.{Primitive}
use Rattle.ash_tree.specs.declared.tree.operators.UnaryOp.{UnaryOp}
use Rattle.ash_tree.specs.declared.tree.operators.BinaryOp.{BinaryOp}
use Rattle.ash_tree.specs.declared.tree.operators.AssignOp.{AssignOp}
use Rattle.ash_tree.specs.Tree.{Expr, Number, Truth, Null, This, Name, Call, Brackets, Convert, NewArray, Cast, Unary, Conditional, Assign, Suffix, Field, Method, Index, Increment, Decrement, OperatorLink, place_of, exprs, chained, suffixed}
use Rattle.ash_tree.specs.GrammarTokens.{Tokens}
use Rattle.ash_tree.specs.Operators.{primitive, unary_operator, binary_operator, level, max_level, assign_operator}
use Rattle.ash_tree.specs.Expressions.{Within, IsInner, inner, AreExprs, no_exprs, some_exprs, AreMoreExprs, no_more_exprs, more_exprs, IsArgs, args, IsAssign, no_assign, assign, IsCond, no_branch, branches, IsBinary, operand, joined, AreLinks, no_links, more_links, IsUnary, applied, postfix, AreSuffixes, no_suffixes, more_suffixes, IsSuffix, field, method, index, increment, decrement, IsPrimary, numeral, yes, no, null, this, named, call, brackets, convert, new_array, cast}
use Rattle.ash_parse.specs.SignTokens.{is_sign}
use Rattle.ash_parse.specs.Readers.{ParseResult, Unexpected, TooDeep, ◌>>=◌, put, next_is, next_is_sign, expect_at, name_at}
use Rattle.ash_parse.specs.ExpressionReader.{Below, limit_at, next_expr_with, more_exprs_with, exprs_with, arguments_with, bracketed_with, name_or_call_with, new_array_with, cast_with, primary_by, primary_with, is_suffix, member_with, index_with, suffix_with, suffixes_with, postfix_with, unary_by, unary_with, operator_by, operator_at, is_link, link_from, link_by, links_by, chain_by, binary_with, branches_with, assign_by, assign_from, assign_with, below_at}
use Rattle.ash_parse.specs.TypeReader.{element_at, target_at}
use Rattle.ash_parse.proofs.Readings.{no_err, bind_ok, at_pair, if_elim, put_ok, Finds, repeat_sound, sign_is, expect_sound, name_sound}
use Rattle.ash_parse.proofs.Types.{ends_in, element_sound, target_sound}

-- the operand of a unary operator
abbrev pub IsPart : ℕ → ℕ → Tokens → Expr → Tokens → Type 0
IsPart free depth from e left = Within free (suc depth) from × IsUnary free (suc depth) from e left

no_operator : (x y : BinaryOp × Tokens) → ◌≡◌ {A = Option (BinaryOp × Tokens)} None (Some x) → ⊥
no_operator x y h = cc

abbrev Found : ℕ → BinaryOp → Tokens → BinaryOp × Tokens → Type 0
Found n o ts x = (o ≡ x.0) × (level x.0 ≡ suc n) × (ts ≡ x.1)

same_operator : (o : BinaryOp) (ts : Tokens) (x : BinaryOp × Tokens) → ◌≡◌ {A = Option (BinaryOp × Tokens)} (Some (o, ts)) (Some x) → (o, ts) ≡ x
same_operator o ts x h = cc

pub operator_found : (n : ℕ) (o : Option BinaryOp) (ts : Tokens) (x : BinaryOp × Tokens) (Q : BinaryOp → Tokens → Type 0) → operator_by n o ts ≡ Some x → ((p : BinaryOp) → o ≡ Some p → level p ≡ suc n → Q p ts) → Q x.0 x.1
operator_found n None ts x Q h go = absurd (no_operator x x h)
operator_found n (Some o) ts x Q h go =
    if_elim (level o == suc n) (Some (o, ts)) None (Some x) (Q x.0 x.1) h
    (λ b e. subst (λ (y : BinaryOp × Tokens). Q y.0 y.1) (same_operator o ts x e) (go o refl (grind (arith, nat_tests))))
    (λ b e. absurd (no_operator x x e))

tails : (x y : Meaning × Position) (xs ys : Tokens) → (x ∷ xs) ≡ (y ∷ ys) → xs ≡ ys
tails x y xs ys h = cc

module _ (free depth : ℕ) (below : Below) (whole : Finds (below true) (IsInner free depth)) (part : Finds (below false) (IsPart free depth)) where
  pub grow_exprs : (from after left : Tokens) (x : Expr) (xs : List Expr) → next_expr_with below from ≡ Ok (x, after) → AreMoreExprs free depth after xs left → AreMoreExprs free depth from (x ∷ xs) left
  unfolding next_expr_with
  grow_exprs from after left x xs h more =
      let c = bind_ok (expect_at signs.Comma from) (λ comma. below true comma.1) (x, after) h in
      expect_sound signs.Comma from (c.0).0 (c.0).1 (λ r. AreMoreExprs free depth r (x ∷ xs) left) c.1 (more_exprs (whole (c.0).1 x after c.2) more)

  pub more_exprs_sound : Finds (more_exprs_with below) (AreMoreExprs free depth)
  unfolding more_exprs_with
  more_exprs_sound ts xs rest h = repeat_sound (next_is_sign signs.Comma) (next_expr_with below) (AreMoreExprs free depth) (λ s. no_more_exprs) grow_exprs (length ts) ts xs rest h

  pub exprs_sound : Finds (exprs_with below) (AreExprs free depth)
  unfolding exprs_with
  exprs_sound ts xs rest h =
      if_elim (next_is_sign signs.CloseParenthesis ts) (Ok ([], ts)) (below true ts >>= λ first. put first.0 (more_exprs_with below first.1)) (Ok (xs, rest)) (AreExprs free depth ts xs rest) h
      (λ b e. at_pair (AreExprs free depth ts) [] ts xs rest e no_exprs)
      (λ b e. let f = bind_ok (below true ts) (λ first. put first.0 (more_exprs_with below first.1)) (xs, rest) e in
      put_ok (f.0).0 (more_exprs_with below (f.0).1) xs rest (AreExprs free depth ts) f.2 (λ ys left r. some_exprs (whole ts (f.0).0 (f.0).1 f.1) (more_exprs_sound (f.0).1 ys left r)))

  pub args_sound : Finds (arguments_with below) (IsArgs free depth)
  unfolding arguments_with
  args_sound ts xs rest h =
      let o = bind_ok (expect_at signs.OpenParenthesis ts) (λ opened. exprs_with below opened.1 >>= λ es. expect_at signs.CloseParenthesis es.1 >>= λ closed. Ok (es.0, closed.1)) (xs, rest) h in
      let e = bind_ok (exprs_with below (o.0).1) (λ es. expect_at signs.CloseParenthesis es.1 >>= λ closed. Ok (es.0, closed.1)) (xs, rest) o.2 in
      let c = bind_ok (expect_at signs.CloseParenthesis (e.0).1) (λ closed. Ok ((e.0).0, closed.1)) (xs, rest) e.2 in
      let q : AreExprs free depth (o.0).1 (e.0).0 ((sign signs.CloseParenthesis, (c.0).0) ∷ (c.0).1) =
      expect_sound signs.CloseParenthesis (e.0).1 (c.0).0 (c.0).1 (λ r. AreExprs free depth (o.0).1 (e.0).0 r → AreExprs free depth (o.0).1 (e.0).0 ((sign signs.CloseParenthesis, (c.0).0) ∷ (c.0).1)) c.1 (λ d. d) (exprs_sound (o.0).1 (e.0).0 (e.0).1 e.1) in
      at_pair (IsArgs free depth ts) (e.0).0 (c.0).1 xs rest c.2
      (expect_sound signs.OpenParenthesis ts (o.0).0 (o.0).1 (λ r. IsArgs free depth r (e.0).0 (c.0).1) o.1 (args q))

  pub bracketed_sound : (ts : Tokens) (x : Expr) (rest : Tokens) (Q : Tokens → Type 0) → bracketed_with below ts ≡ Ok (x, rest) → ((p q : Position) (r : Tokens) → IsInner free depth r x ((sign signs.CloseParenthesis, q) ∷ rest) → Q ((sign signs.OpenParenthesis, p) ∷ r)) → Q ts
  unfolding bracketed_with
  bracketed_sound ts x rest Q h go =
      let o = bind_ok (expect_at signs.OpenParenthesis ts) (λ opened. below true opened.1 >>= λ e. expect_at signs.CloseParenthesis e.1 >>= λ closed. Ok (e.0, closed.1)) (x, rest) h in
      let e = bind_ok (below true (o.0).1) (λ e. expect_at signs.CloseParenthesis e.1 >>= λ closed. Ok (e.0, closed.1)) (x, rest) o.2 in
      let c = bind_ok (expect_at signs.CloseParenthesis (e.0).1) (λ closed. Ok ((e.0).0, closed.1)) (x, rest) e.2 in
      let q : IsInner free depth (o.0).1 (e.0).0 ((sign signs.CloseParenthesis, (c.0).0) ∷ (c.0).1) =
      expect_sound signs.CloseParenthesis (e.0).1 (c.0).0 (c.0).1 (λ r. IsInner free depth (o.0).1 (e.0).0 r → IsInner free depth (o.0).1 (e.0).0 ((sign signs.CloseParenthesis, (c.0).0) ∷ (c.0).1)) c.1 (λ d. d) (whole (o.0).1 (e.0).0 (e.0).1 e.1) in
      expect_sound signs.OpenParenthesis ts (o.0).0 (o.0).1 Q o.1
      (go (o.0).0 (c.0).0 (o.0).1 (at_pair (λ y r. IsInner free depth (o.0).1 y ((sign signs.CloseParenthesis, (c.0).0) ∷ r)) (e.0).0 (c.0).1 x rest c.2 q))

  named_sound : (p : Position) (text : List ℕ) (ts : Tokens) (x : Expr) (rest : Tokens) → name_or_call_with below p text ts ≡ Ok (x, rest) → IsPrimary free depth ((name text, p) ∷ ts) x rest
  unfolding name_or_call_with
  named_sound p text ts x rest h =
      if_elim (next_is_sign signs.OpenParenthesis ts) (arguments_with below ts >>= λ es. Ok (Call p text (exprs es.0), es.1)) (Ok (Name p text, ts)) (Ok (x, rest)) (IsPrimary free depth ((name text, p) ∷ ts) x rest) h
      (λ b e. let a = bind_ok (arguments_with below ts) (λ es. Ok (Call p text (exprs es.0), es.1)) (x, rest) e in
      at_pair (IsPrimary free depth ((name text, p) ∷ ts)) (Call p text (exprs (a.0).0)) (a.0).1 x rest a.2 (call (args_sound ts (a.0).0 (a.0).1 a.1)))
      (λ b e. at_pair (IsPrimary free depth ((name text, p) ∷ ts)) (Name p text) ts x rest e named)

  inside : (p : Position) (ts : Tokens) (x : Expr) (rest : Tokens) → bracketed_with below ((sign signs.OpenParenthesis, p) ∷ ts) ≡ Ok (x, rest) → IsPrimary free depth ((sign signs.OpenParenthesis, p) ∷ ts) (Brackets p x) rest
  inside p ts x rest h =
      bracketed_sound ((sign signs.OpenParenthesis, p) ∷ ts) x rest (λ r. ((sign signs.OpenParenthesis, p) ∷ ts ≡ r) → IsPrimary free depth ((sign signs.OpenParenthesis, p) ∷ ts) (Brackets p x) rest) h
      (λ o c r i e. brackets (subst (λ t. IsInner free depth t x ((sign signs.CloseParenthesis, c) ∷ rest)) (sym (tails (sign signs.OpenParenthesis, p) (sign signs.OpenParenthesis, o) ts r e)) i)) refl

  new_array_sound : (p : Position) (ts : Tokens) (x : Expr) (rest : Tokens) → new_array_with below p ts ≡ Ok (x, rest) → IsPrimary free depth ((reserved words.Array, p) ∷ ts) x rest
  unfolding new_array_with
  new_array_sound p ts x rest h =
      let e = bind_ok (element_at ts) (λ e. arguments_with below e.1 >>= λ es. Ok (NewArray p e.0 (exprs es.0), es.1)) (x, rest) h in
      let es = bind_ok (arguments_with below (e.0).1) (λ es. Ok (NewArray p (e.0).0 (exprs es.0), es.1)) (x, rest) e.2 in
      at_pair (IsPrimary free depth ((reserved words.Array, p) ∷ ts)) (NewArray p (e.0).0 (exprs (es.0).0)) (es.0).1 x rest es.2
      (new_array (element_sound ts (e.0).0 (e.0).1 e.1) (args_sound (e.0).1 (es.0).0 (es.0).1 es.1))

  cast_sound : (p : Position) (ts : Tokens) (x : Expr) (rest : Tokens) → cast_with below p ts ≡ Ok (x, rest) → IsPrimary free depth ((reserved words.Cast, p) ∷ ts) x rest
  unfolding cast_with
  cast_sound p ts x rest h =
      let t = bind_ok (target_at ts) (λ t. bracketed_with below t.1 >>= λ e. Ok (Cast p t.0 e.0, e.1)) (x, rest) h in
      let e = bind_ok (bracketed_with below (t.0).1) (λ e. Ok (Cast p (t.0).0 e.0, e.1)) (x, rest) t.2 in
      at_pair (IsPrimary free depth ((reserved words.Cast, p) ∷ ts)) (Cast p (t.0).0 (e.0).0) (e.0).1 x rest e.2
      (target_sound ts (t.0).0 (t.0).1 (λ n l. bracketed_with below l ≡ Ok ((e.0).0, (e.0).1) → IsPrimary free depth ((reserved words.Cast, p) ∷ ts) (Cast p n (e.0).0) (e.0).1) t.1
      (λ o q z text left g k. bracketed_sound left (e.0).0 (e.0).1 (λ r. ts ≡ (sign signs.Less, o) ∷ (name text, q) ∷ (sign signs.Greater, z) ∷ r → IsPrimary free depth ((reserved words.Cast, p) ∷ ts) (Cast p (record { place = q; name = text }) (e.0).0) (e.0).1) k
      (λ b c r i f. subst (λ l. IsPrimary free depth ((reserved words.Cast, p) ∷ l) (Cast p (record { place = q; name = text }) (e.0).0) (e.0).1) (sym f) (cast i)) g) e.1)

  primary_by_sound : (k : Option Primitive) (m : Meaning) (p : Position) (ts : Tokens) (x : Expr) (rest : Tokens) → primitive m ≡ k → primary_by below k m p ts ≡ Ok (x, rest) → IsPrimary free depth ((m, p) ∷ ts) x rest
  primary_by_sound (Some k) m p ts x rest g h =
      let b = bind_ok (bracketed_with below ts) (λ e. Ok (Convert p k e.0, e.1)) (x, rest) h in
      at_pair (IsPrimary free depth ((m, p) ∷ ts)) (Convert p k (b.0).0) (b.0).1 x rest b.2
      (bracketed_sound ts (b.0).0 (b.0).1 (λ r. IsPrimary free depth ((m, p) ∷ r) (Convert p k (b.0).0) (b.0).1) b.1 (λ o c r i. convert g i))
  primary_by_sound None (name text) p ts x rest g h = named_sound p text ts x rest h
  primary_by_sound None (number n) p ts x rest g h = at_pair (IsPrimary free depth ((number n, p) ∷ ts)) (Number p n) ts x rest h numeral
  primary_by_sound None (sign signs.OpenParenthesis) p ts x rest g h =
      let b = bind_ok (bracketed_with below ((sign signs.OpenParenthesis, p) ∷ ts)) (λ e. Ok (Brackets p e.0, e.1)) (x, rest) h in
      at_pair (IsPrimary free depth ((sign signs.OpenParenthesis, p) ∷ ts)) (Brackets p (b.0).0) (b.0).1 x rest b.2
      (inside p ts (b.0).0 (b.0).1 b.1)
  primary_by_sound None (reserved words.True) p ts x rest g h = at_pair (IsPrimary free depth ((reserved words.True, p) ∷ ts)) (Truth p true) ts x rest h yes
  primary_by_sound None (reserved words.False) p ts x rest g h = at_pair (IsPrimary free depth ((reserved words.False, p) ∷ ts)) (Truth p false) ts x rest h no
  primary_by_sound None (reserved words.Null) p ts x rest g h = at_pair (IsPrimary free depth ((reserved words.Null, p) ∷ ts)) (Null p) ts x rest h null
  primary_by_sound None (reserved words.This) p ts x rest g h = at_pair (IsPrimary free depth ((reserved words.This, p) ∷ ts)) (This p) ts x rest h this
  primary_by_sound None (reserved words.Array) p ts x rest g h = new_array_sound p ts x rest h
  primary_by_sound None (reserved words.Cast) p ts x rest g h = cast_sound p ts x rest h
  primary_by_sound None m p ts x rest g h = absurd (no_err (Unexpected ((m, p) ∷ ts)) (x, rest) h)

  pub primary_sound : Finds (primary_with below) (IsPrimary free depth)
  unfolding primary_with
  primary_sound [] x rest h = absurd (no_err (Unexpected []) (x, rest) h)
  primary_sound ((m, p) ∷ ts) x rest h = primary_by_sound (primitive m) m p ts x rest refl h

  member_sound : (p : Position) (ts : Tokens) (x : Suffix) (rest : Tokens) → member_with below ts ≡ Ok (x, rest) → IsSuffix free depth ((sign signs.Dot, p) ∷ ts) x rest
  unfolding member_with
  member_sound p ts x rest h =
      let n = bind_ok (name_at ts) (λ n. cond (next_is_sign signs.OpenParenthesis n.1) (arguments_with below n.1 >>= λ es. Ok (Method (n.0).1 (n.0).0 (exprs es.0), es.1)) (Ok (Field (n.0).1 (n.0).0, n.1))) (x, rest) h in
      let t = ((n.0).0).0 in
      let q = ((n.0).0).1 in
      let r = (n.0).1 in
      name_sound ts (n.0).0 r (λ l. IsSuffix free depth ((sign signs.Dot, p) ∷ l) x rest) n.1
      (if_elim (next_is_sign signs.OpenParenthesis r) (arguments_with below r >>= λ es. Ok (Method q t (exprs es.0), es.1)) (Ok (Field q t, r)) (Ok (x, rest)) (IsSuffix free depth ((sign signs.Dot, p) ∷ (name t, q) ∷ r) x rest) n.2
      (λ b e. let a = bind_ok (arguments_with below r) (λ es. Ok (Method q t (exprs es.0), es.1)) (x, rest) e in
      at_pair (IsSuffix free depth ((sign signs.Dot, p) ∷ (name t, q) ∷ r)) (Method q t (exprs (a.0).0)) (a.0).1 x rest a.2 (method (args_sound r (a.0).0 (a.0).1 a.1)))
      (λ b e. at_pair (IsSuffix free depth ((sign signs.Dot, p) ∷ (name t, q) ∷ r)) (Field q t) r x rest e field))

  index_sound : (p : Position) (ts : Tokens) (x : Suffix) (rest : Tokens) → index_with below ts ≡ Ok (x, rest) → IsSuffix free depth ((sign signs.OpenBracket, p) ∷ ts) x rest
  unfolding index_with
  index_sound p ts x rest h =
      let e = bind_ok (below true ts) (λ e. expect_at signs.CloseBracket e.1 >>= λ closed. Ok (Index e.0, closed.1)) (x, rest) h in
      let c = bind_ok (expect_at signs.CloseBracket (e.0).1) (λ closed. Ok (Index (e.0).0, closed.1)) (x, rest) e.2 in
      at_pair (IsSuffix free depth ((sign signs.OpenBracket, p) ∷ ts)) (Index (e.0).0) (c.0).1 x rest c.2
      (index (ends_in signs.CloseBracket (e.0).1 (c.0).0 (c.0).1 (λ r. IsInner free depth ts (e.0).0 r) c.1 (whole ts (e.0).0 (e.0).1 e.1)))

  pub suffix_sound : Finds (suffix_with below) (IsSuffix free depth)
  unfolding suffix_with
  suffix_sound [] x rest h = absurd (no_err (Unexpected []) (x, rest) h)
  suffix_sound ((sign signs.Dot, p) ∷ ts) x rest h = member_sound p ts x rest h
  suffix_sound ((sign signs.OpenBracket, p) ∷ ts) x rest h = index_sound p ts x rest h
  suffix_sound ((sign signs.Increment, p) ∷ ts) x rest h = at_pair (IsSuffix free depth ((sign signs.Increment, p) ∷ ts)) Increment ts x rest h increment
  suffix_sound ((sign signs.Decrement, p) ∷ ts) x rest h = at_pair (IsSuffix free depth ((sign signs.Decrement, p) ∷ ts)) Decrement ts x rest h decrement
  suffix_sound ((m, p) ∷ ts) x rest h = absurd (no_err (Unexpected ((m, p) ∷ ts)) (x, rest) h)

  pub suffixes_sound : Finds (suffixes_with below) (AreSuffixes free depth)
  unfolding suffixes_with
  suffixes_sound ts xs rest h = repeat_sound is_suffix (suffix_with below) (AreSuffixes free depth) (λ s. no_suffixes) (λ from after left x xs e a. more_suffixes (suffix_sound from x after e) a) (length ts) ts xs rest h

  pub postfix_sound : Finds (postfix_with below) (IsUnary free depth)
  unfolding postfix_with
  postfix_sound ts x rest h =
      let e = bind_ok (primary_with below ts) (λ e. suffixes_with below e.1 >>= λ more. Ok (suffixed e.0 more.0, more.1)) (x, rest) h in
      let m = bind_ok (suffixes_with below (e.0).1) (λ more. Ok (suffixed (e.0).0 more.0, more.1)) (x, rest) e.2 in
      at_pair (IsUnary free depth ts) (suffixed (e.0).0 (m.0).0) (m.0).1 x rest m.2 (postfix (primary_sound ts (e.0).0 (e.0).1 e.1) (suffixes_sound (e.0).1 (m.0).0 (m.0).1 m.1))

  unary_by_sound : (o : Option UnaryOp) (m : Meaning) (p : Position) (ts : Tokens) (x : Expr) (rest : Tokens) → unary_operator m ≡ o → unary_by below o m p ts ≡ Ok (x, rest) → IsUnary free depth ((m, p) ∷ ts) x rest
  unary_by_sound None m p ts x rest g h = postfix_sound ((m, p) ∷ ts) x rest h
  unary_by_sound (Some o) m p ts x rest g h =
      let e = bind_ok (below false ts) (λ e. Ok (Unary p o e.0, e.1)) (x, rest) h in
      let d = part ts (e.0).0 (e.0).1 e.1 in
      at_pair (IsUnary free depth ((m, p) ∷ ts)) (Unary p o (e.0).0) (e.0).1 x rest e.2 (applied g d.0 d.1)

  pub unary_sound : Finds (unary_with below) (IsUnary free depth)
  unfolding unary_with
  unary_sound [] x rest h = absurd (no_err (Unexpected []) (x, rest) h)
  unary_sound ((m, p) ∷ ts) x rest h = unary_by_sound (unary_operator m) m p ts x rest refl h

  pub link_from_sound : (n : ℕ) (read : Tokens → ParseResult Expr) → Finds read (IsBinary free depth n) → (from after left : Tokens) (x : OperatorLink) (xs : List OperatorLink) (o : Option (BinaryOp × Tokens)) → operator_at n from ≡ o → link_from read o from ≡ Ok (x, after) → AreLinks free depth n after xs left → AreLinks free depth n from (x ∷ xs) left
  unfolding operator_at
  link_from_sound n read finds from after left x xs None g h a = absurd (no_err (Unexpected from) (x, after) h)
  link_from_sound n read finds [] after left x xs (Some o) g h a = absurd (no_operator o o g)
  link_from_sound n read finds ((m, p) ∷ ts) after left x xs (Some o) g h a =
      let e = bind_ok (read o.1) (λ e. Ok (record { operator = o.0; operand = e.0 }, e.1)) (x, after) h in
      at_pair (λ y r. AreLinks free depth n r xs left → AreLinks free depth n ((m, p) ∷ ts) (y ∷ xs) left) (record { operator = o.0; operand = (e.0).0 }) (e.0).1 x after e.2
      (operator_found n (binary_operator m) ts o (λ q r. IsBinary free depth n r (e.0).0 (e.0).1 → AreLinks free depth n (e.0).1 xs left → AreLinks free depth n ((m, p) ∷ ts) (record { operator = q; operand = (e.0).0 } ∷ xs) left) g (λ q s l. more_links s l) (finds o.1 (e.0).0 (e.0).1 e.1)) a

  pub links_sound : (n : ℕ) (read : Tokens → ParseResult Expr) → Finds read (IsBinary free depth n) → Finds (links_by n read) (AreLinks free depth n)
  unfolding links_by link_by
  links_sound n read finds ts xs rest h = repeat_sound (is_link n) (link_by n read) (AreLinks free depth n) (λ s. no_links) (λ from after left x xs e a. link_from_sound n read finds from after left x xs (operator_at n from) refl e a) (length ts) ts xs rest h

  pub chain_sound : (n : ℕ) (read : Tokens → ParseResult Expr) → Finds read (IsBinary free depth n) → Finds (chain_by n read) (IsBinary free depth (suc n))
  unfolding chain_by
  chain_sound n read finds ts x rest h =
      let e = bind_ok (read ts) (λ first. links_by n read first.1 >>= λ more. Ok (chained first.0 more.0, more.1)) (x, rest) h in
      let m = bind_ok (links_by n read (e.0).1) (λ more. Ok (chained (e.0).0 more.0, more.1)) (x, rest) e.2 in
      at_pair (IsBinary free depth (suc n) ts) (chained (e.0).0 (m.0).0) (m.0).1 x rest m.2 (joined (finds ts (e.0).0 (e.0).1 e.1) (links_sound n read finds (e.0).1 (m.0).0 (m.0).1 m.1))

  pub binary_sound : (n : ℕ) → Finds (binary_with below n) (IsBinary free depth n)
  unfolding binary_with
  binary_sound zero ts x rest h = operand (unary_sound ts x rest h)
  binary_sound (suc n) ts x rest h = chain_sound n (binary_with below n) (binary_sound n) ts x rest h

  branches_sound : (p : Position) (c : Expr) (from ts : Tokens) (x : Expr) (rest : Tokens) → IsBinary free depth max_level from c ((sign signs.Question, p) ∷ ts) → branches_with below c ts ≡ Ok (x, rest) → IsCond free depth from x rest
  unfolding branches_with
  branches_sound p c from ts x rest d h =
      let a = bind_ok (below true ts) (λ a. expect_at signs.Colon a.1 >>= λ colon. below true colon.1 >>= λ b. Ok (Conditional (place_of c) c a.0 b.0, b.1)) (x, rest) h in
      let k = bind_ok (expect_at signs.Colon (a.0).1) (λ colon. below true colon.1 >>= λ b. Ok (Conditional (place_of c) c (a.0).0 b.0, b.1)) (x, rest) a.2 in
      let b = bind_ok (below true (k.0).1) (λ b. Ok (Conditional (place_of c) c (a.0).0 b.0, b.1)) (x, rest) k.2 in
      let i : IsInner free depth ts (a.0).0 ((sign signs.Colon, (k.0).0) ∷ (k.0).1) =
      expect_sound signs.Colon (a.0).1 (k.0).0 (k.0).1 (λ r. IsInner free depth ts (a.0).0 r → IsInner free depth ts (a.0).0 ((sign signs.Colon, (k.0).0) ∷ (k.0).1)) k.1 (λ d. d) (whole ts (a.0).0 (a.0).1 a.1) in
      at_pair (IsCond free depth from) (Conditional (place_of c) c (a.0).0 (b.0).0) (b.0).1 x rest b.2 (branches d i (whole (k.0).1 (b.0).0 (b.0).1 b.1))

  assign_by_sound : (o : Option AssignOp) (m : Meaning) (p : Position) (e : Expr) (from ts : Tokens) (x : Expr) (rest : Tokens) → assign_operator m ≡ o → IsBinary free depth max_level from e ((m, p) ∷ ts) → assign_by below e o m p ts ≡ Ok (x, rest) → IsAssign free depth from x rest
  assign_by_sound None m p e from ts x rest g d h = at_pair (IsAssign free depth from) e ((m, p) ∷ ts) x rest h (no_assign (no_branch d))
  assign_by_sound (Some o) m p e from ts x rest g d h =
      let v = bind_ok (below true ts) (λ v. Ok (Assign (place_of e) e o v.0, v.1)) (x, rest) h in
      at_pair (IsAssign free depth from) (Assign (place_of e) e o (v.0).0) (v.0).1 x rest v.2 (assign d g (whole ts (v.0).0 (v.0).1 v.1))

  assign_from_sound : (e : Expr) (from ts : Tokens) (x : Expr) (rest : Tokens) → IsBinary free depth max_level from e ts → assign_from below e ts ≡ Ok (x, rest) → IsAssign free depth from x rest
  unfolding assign_from
  assign_from_sound e from [] x rest d h = at_pair (IsAssign free depth from) e [] x rest h (no_assign (no_branch d))
  assign_from_sound e from ((m, p) ∷ ts) x rest d h =
      if_elim (is_sign signs.Question m) (branches_with below e ts) (assign_by below e (assign_operator m) m p ts) (Ok (x, rest)) (IsAssign free depth from x rest) h
      (λ b k. no_assign (branches_sound p e from ts x rest (subst (λ w. IsBinary free depth max_level from e ((w, p) ∷ ts)) (sign_is signs.Question m b) d) k))
      (λ b k. assign_by_sound (assign_operator m) m p e from ts x rest refl d k)

  pub assign_sound : Finds (assign_with below) (IsAssign free depth)
  unfolding assign_with
  assign_sound ts x rest h =
      let e = bind_ok (binary_with below max_level ts) (λ e. assign_from below e.0 e.1) (x, rest) h in
      assign_from_sound (e.0).0 ts (e.0).1 x rest (binary_sound max_level ts (e.0).0 (e.0).1 e.1) e.2

limit_is_no_ok : (ts : Tokens) (x : Expr × Tokens) → limit_at ts ≡ Ok x → ⊥
unfolding limit_at
limit_is_no_ok ts x h = if_elim (next_is _ ts) (Err (TooDeep ts)) (Err (Unexpected ts)) (Ok x) ⊥ h (λ b e. no_err (TooDeep ts) x e) (λ b e. no_err (Unexpected ts) x e)

mutual
  unfolding below_at

  pub whole_sound : (room depth : ℕ) → depth + room ≡ 64 → Finds (below_at room true) (IsInner 0 depth)
  whole_sound zero depth d ts x rest h = absurd (limit_is_no_ok ts (x, rest) h)
  whole_sound (suc room) depth d ts x rest h =
      inner (λ some. omega arith) (assign_sound 0 (suc depth) (below_at room) (whole_sound room (suc depth) (omega arith)) (part_sound room (suc depth) (omega arith)) ts x rest h)

  pub part_sound : (room depth : ℕ) → depth + room ≡ 64 → Finds (below_at room false) (IsPart 0 depth)
  part_sound zero depth d ts x rest h = absurd (limit_is_no_ok ts (x, rest) h)
  part_sound (suc room) depth d ts x rest h =
      (λ some. omega arith, unary_sound 0 (suc depth) (below_at room) (whole_sound room (suc depth) (omega arith)) (part_sound room (suc depth) (omega arith)) ts x rest h)
