-- What is before the place where the reading of an expression stops begins one.
use Rattle.std.proofs.Common.{◌≡◌, ℕ, zero, suc, ◌+◌, ◌≤◌, List, [], ◌∷◌, true, false, cond, Option, Some, None, is_some, Ok, Err, refl, sym, ap, subst, length, arith}
use Rattle.ash_lex.specs.Tokens.{Meaning, name, number, sign, reserved, unsupported}
use Rattle.ash_lex.specs.declared.signs.Sign.TheVariants as signs
use Rattle.ash_lex.specs.declared.words.ReservedWord.TheVariants as words
use Rattle.ash_tree.specs.declared.tree.places.Position.{Position}
use Rattle.ash_tree.specs.declared.tree.types.Primitive.{Primitive}
use Rattle.ash_tree.specs.declared.tree.operators.UnaryOp.{UnaryOp}
use Rattle.ash_tree.specs.declared.tree.operators.BinaryOp.{BinaryOp}
use Rattle.ash_tree.specs.declared.tree.operators.AssignOp.{AssignOp}
use Rattle.ash_tree.specs.Tree.{HandleElement, Expr, Number, Truth, Null, This, Name, Call, Brackets, Convert, NewArray, Cast, Unary, Conditional, Assign, TypeName, Field, Method, Index, Increment, Decrement, place_of, exprs, chained, suffixed}
use Rattle.ash_tree.specs.GrammarTokens.{Tokens}
use Rattle.ash_tree.specs.Operators.{primitive, unary_operator, binary_operator, max_level, assign_operator}
use Rattle.ash_tree.specs.Types.{IsElement, handle_element}
use Rattle.ash_tree.specs.Expressions.{IsInner, inner, AreExprs, no_exprs, some_exprs, AreMoreExprs, no_more_exprs, more_exprs, IsArgs, args, IsAssign, no_assign, assign, no_branch, branches, IsBinary, operand, joined, AreLinks, no_links, more_links, IsUnary, applied, postfix, AreSuffixes, no_suffixes, more_suffixes, IsSuffix, field, method, index, increment, decrement, IsPrimary, numeral, yes, no, null, this, named, call, brackets, convert, new_array, cast}
use Rattle.ash_parse.specs.SignTokens.{is_sign, same_sign}
use Rattle.ash_parse.specs.Readers.{ParseResult, Unexpected, TooDeep, ◌>>=◌, next_is_sign, expect_at}
use Rattle.ash_parse.specs.ExpressionReader.{Below, begins, limit_at, next_expr_with, more_exprs_with, exprs_with, arguments_with, bracketed_with, name_or_call_with, new_array_with, cast_with, primary_by, primary_with, is_suffix, member_with, index_with, suffix_with, suffixes_with, postfix_with, unary_by, unary_with, operator_at, is_link, link_from, link_by, links_by, chain_by, binary_with, branches_with, assign_by, assign_from, assign_with, below_at}
use Rattle.ash_parse.specs.TypeReader.{is_array, element_at, target_at, after_sign, after_elem, after_element}
use Rattle.ash_parse.specs.StatementReader.{is_vars, is_name, next_is_name}
use Rattle.ash_parse.proofs.Readings.{sign_is, expect_again}
use Rattle.ash_parse.proofs.Rereading.{no_some, no_true}
use Rattle.ash_parse.proofs.ExpressionSound.{IsPart, operator_found}
use Rattle.ash_parse.proofs.BeginTypes.{begin_element}
use Rattle.ash_parse.proofs.BeginLaws.{Law, Filled, FilledBy, Explained, Then, After, Grows, then, law_as, fill_as, done, fill_here, stopped_at, stops_here, too_deep_at, after, fill_after, either, explain_either, sign_then, name_then, put_law, all_of, nowhere, some_name}

-- an operand is an `assign`
up : (n : ℕ) {free depth : ℕ} {from left : Tokens} {e : Expr} → IsUnary free depth from e left → IsBinary free depth n from e left
up zero u = operand u
up (suc n) u = joined (up n u) no_links

pub alone : {free depth : ℕ} {from left : Tokens} {e : Expr} → IsUnary free depth from e left → IsAssign free depth from e left
alone u = no_assign (no_branch (up max_level u))

pub inner_alone : {free depth : ℕ} {from left : Tokens} {e : Expr} → length from ≤ free → IsUnary free (suc depth) from e left → IsInner free depth from e left
inner_alone big u = inner (λ deep. absurd (omega arith)) (alone u)

-- a name is a phrase
pub fill_primary : (depth : ℕ) → Filled (λ free. IsPrimary free depth)
fill_primary depth = fill_after (λ free. IsPrimary free depth) (name some_name, nowhere) (fill_here (After (name some_name, nowhere) (λ free. IsPrimary free depth)) (Name nowhere some_name) (λ free left. named))

pub fill_unary : (depth : ℕ) → Filled (λ free. IsUnary free depth)
fill_unary depth = fill_as (λ free. IsPrimary free depth) (λ free. IsUnary free depth) (λ free from x left d. postfix d no_suffixes) (fill_primary depth)

pub fill_assign : (depth : ℕ) → Filled (λ free. IsAssign free depth)
fill_assign depth = fill_as (λ free. IsUnary free depth) (λ free. IsAssign free depth) (λ free from x left d. alone d) (fill_unary depth)

-- a token that begins a declaration of variables is a primitive type or a name, and no operator
no_vars_prim : (m : Meaning) (p q : Position) (k : Primitive) (ts : Tokens) → primitive m ≡ Some k → is_vars ((m, p) ∷ (sign signs.OpenParenthesis, q) ∷ ts) ≡ false
unfolding is_vars next_is_name is_name
no_vars_prim m p q k ts g = rw g refl

no_vars_unary : (m : Meaning) (p : Position) (o : UnaryOp) (ts : Tokens) → primitive m ≡ None → unary_operator m ≡ Some o → is_vars ((m, p) ∷ ts) ≡ false
unfolding is_vars is_name is_array unary_operator
no_vars_unary (name t) p o ts g h = absurd (no_some o h)
no_vars_unary (number n) p o ts g h = absurd (no_some o h)
no_vars_unary (sign s) p o ts g h = rw g refl
no_vars_unary (reserved words.Not) p o ts g h = rw g refl
no_vars_unary (reserved w) p o ts g h = absurd (no_some o h)
no_vars_unary (unsupported w) p o ts g h = absurd (no_some o h)

-- a token that begins an expression begins an operand, with a name or with a name in brackets where more is needed
begins_by : (depth : ℕ) (m : Meaning) (p : Position) (k : Option Primitive) (u : Option UnaryOp) → primitive m ≡ k → unary_operator m ≡ u → cond (is_some k) true (is_some u) ≡ true → FilledBy (m, p) (λ free. IsUnary free depth)
begins_by depth m p (Some k) u g h b = record {
  text = (sign signs.OpenParenthesis, nowhere) ∷ (name some_name, nowhere) ∷ (sign signs.CloseParenthesis, nowhere) ∷ [];
  tree = Convert p k (Name nowhere some_name);
  is = λ free left big. postfix (convert g (inner_alone (omega arith) (postfix named no_suffixes))) no_suffixes;
  no_vars = λ after. no_vars_prim m p nowhere k _ g;
}
begins_by depth m p None (Some o) g h b = record {
  text = (name some_name, nowhere) ∷ [];
  tree = Unary p o (Name nowhere some_name);
  is = λ free left big. applied h (λ deep. absurd (omega arith)) (postfix named no_suffixes);
  no_vars = λ after. no_vars_unary m p o _ g h;
}
begins_by depth m p None None g h b = absurd (no_true b)

begins_unary : (depth : ℕ) (m : Meaning) (p : Position) → begins m ≡ true → FilledBy (m, p) (λ free. IsUnary free depth)
unfolding begins is_vars next_is_name is_name is_array after_element after_elem after_sign next_is_sign is_sign same_sign primitive
begins_unary depth (name text) p b = record {
  text = (sign signs.OpenParenthesis, nowhere) ∷ (sign signs.CloseParenthesis, nowhere) ∷ [];
  tree = Call p text (exprs []);
  is = λ free left big. postfix (call (args no_exprs)) no_suffixes;
  no_vars = λ after. refl;
}
begins_unary depth (number n) p b = record { text = []; tree = Number p n; is = λ free left big. postfix numeral no_suffixes; no_vars = λ after. refl }
begins_unary depth (sign signs.OpenParenthesis) p b = record {
  text = (name some_name, nowhere) ∷ (sign signs.CloseParenthesis, nowhere) ∷ [];
  tree = Brackets p (Name nowhere some_name);
  is = λ free left big. postfix (brackets (inner_alone (omega arith) (postfix named no_suffixes))) no_suffixes;
  no_vars = λ after. refl;
}
begins_unary depth (reserved words.True) p b = record { text = []; tree = Truth p true; is = λ free left big. postfix yes no_suffixes; no_vars = λ after. refl }
begins_unary depth (reserved words.False) p b = record { text = []; tree = Truth p false; is = λ free left big. postfix no no_suffixes; no_vars = λ after. refl }
begins_unary depth (reserved words.Null) p b = record { text = []; tree = Null p; is = λ free left big. postfix null no_suffixes; no_vars = λ after. refl }
begins_unary depth (reserved words.This) p b = record { text = []; tree = This p; is = λ free left big. postfix this no_suffixes; no_vars = λ after. refl }
begins_unary depth (reserved words.Array) p b = record {
  text = (sign signs.Less, nowhere) ∷ (name some_name, nowhere) ∷ (sign signs.Handle, nowhere) ∷ (sign signs.Greater, nowhere) ∷ (sign signs.OpenParenthesis, nowhere) ∷ (sign signs.CloseParenthesis, nowhere) ∷ [];
  tree = NewArray p (HandleElement nowhere some_name) (exprs []);
  is = λ free left big. postfix (new_array handle_element (args no_exprs)) no_suffixes;
  no_vars = λ after. refl;
}
begins_unary depth (reserved words.Cast) p b = record {
  text = (sign signs.Less, nowhere) ∷ (name some_name, nowhere) ∷ (sign signs.Greater, nowhere) ∷ (sign signs.OpenParenthesis, nowhere) ∷ (name some_name, nowhere) ∷ (sign signs.CloseParenthesis, nowhere) ∷ [];
  tree = Cast p (record { place = nowhere; name = some_name }) (Name nowhere some_name);
  is = λ free left big. postfix (cast (inner_alone (omega arith) (postfix named no_suffixes))) no_suffixes;
  no_vars = λ after. refl;
}
begins_unary depth m p b = begins_by depth m p (primitive m) (unary_operator m) refl refl b

pub begins_assign : (depth : ℕ) (m : Meaning) (p : Position) → begins m ≡ true → FilledBy (m, p) (λ free. IsAssign free depth)
begins_assign depth m p b = let f = begins_unary depth m p b in record { text = f.text; tree = f.tree; is = λ free left big. alone (f.is free left big); no_vars = f.no_vars }

begins_inner : (depth : ℕ) (m : Meaning) (p : Position) → begins m ≡ true → FilledBy (m, p) (λ free. IsInner free depth)
begins_inner depth m p b = let f = begins_unary (suc depth) m p b in record { text = f.text; tree = f.tree; is = λ free left big. inner_alone big (f.is free left big); no_vars = f.no_vars }

begins_part : (depth : ℕ) (m : Meaning) (p : Position) → begins m ≡ true → FilledBy (m, p) (λ free. IsPart free depth)
begins_part depth m p b = let f = begins_unary (suc depth) m p b in record { text = f.text; tree = f.tree; is = λ free left big. (λ deep. absurd (omega arith), f.is free left big); no_vars = f.no_vars }

pub fill_inner : (depth : ℕ) → Filled (λ free. IsInner free depth)
fill_inner depth = let f = fill_unary (suc depth) in record { text = f.text; tree = f.tree; is = λ free left big. inner_alone big (f.is free left big) }

fill_part : (depth : ℕ) → Filled (λ free. IsPart free depth)
fill_part depth = let f = fill_unary (suc depth) in record { text = f.text; tree = f.tree; is = λ free left big. (λ deep. absurd (omega arith), f.is free left big) }

limit_by : (P : ℕ → Tokens → Expr → Tokens → Type 0) → Filled P → ((m : Meaning) (p : Position) → begins m ≡ true → FilledBy (m, p) P) → (ts : Tokens) → Law (limit_at ts) ts P
unfolding limit_at
limit_by P fill go [] = stops_here P [] fill
limit_by P fill go ((m, p) ∷ ts) = record {
  explained = explain_either (begins m) (Err (TooDeep ((m, p) ∷ ts))) (Err (Unexpected ((m, p) ∷ ts))) ((m, p) ∷ ts) P (λ b. too_deep_at P (m, p) ts (go m p b)) (λ b. stopped_at P ((m, p) ∷ ts) fill);
  filled = fill;
}

-- "(" assign ")"
pub data IsBracketed : ℕ → ℕ → Tokens → Expr → Tokens → Type 0 where
  bracketed : {free depth : ℕ} {p q : Position} {from left : Tokens} {e : Expr} → IsInner free depth from e ((sign signs.CloseParenthesis, q) ∷ left) → IsBracketed free depth ((sign signs.OpenParenthesis, p) ∷ from) e left

converted : {free depth : ℕ} {m : Meaning} {p : Position} {k : Primitive} {from left : Tokens} {e : Expr} → primitive m ≡ Some k → IsBracketed free depth from e left → IsPrimary free depth ((m, p) ∷ from) (Convert p k e) left
converted g (bracketed i) = convert g i

-- "<" NAME ">"
pub data IsTarget : Tokens → TypeName → Tokens → Type 0 where
  target : {o q z : Position} {text : List ℕ} {left : Tokens} → IsTarget ((sign signs.Less, o) ∷ (name text, q) ∷ (sign signs.Greater, z) ∷ left) (record { place = q; name = text }) left

begin_target : (ts : Tokens) → Law (target_at ts) ts (λ free. IsTarget)
unfolding target_at
begin_target ts =
    sign_then _ signs.Less _ ts
    (λ o r. name_then _ _ r
    (λ n s. sign_then _ signs.Greater _ s
    (λ z t. done _ (record { place = n.1; name = n.0 }) t (λ free left. target))))

casted : {free depth : ℕ} {p : Position} {t : TypeName} {from after left : Tokens} {e : Expr} → IsTarget from t after → IsBracketed free depth after e left → IsPrimary free depth ((reserved words.Cast, p) ∷ from) (Cast p t e) left
casted target (bracketed i) = cast i

module _ (depth : ℕ) (below : Below) (whole : (ts : Tokens) → Law (below true ts) ts (λ free. IsInner free depth)) (part : (ts : Tokens) → Law (below false ts) ts (λ free. IsPart free depth)) where
  next_expr : (ts : Tokens) → Law (next_expr_with below ts) ts (Grows (λ free. AreMoreExprs free depth))
  unfolding next_expr_with
  next_expr ts =
      sign_then _ signs.Comma _ ts
      (λ p rest. law_as (λ free. IsInner free depth) _ (λ free from x left d xs end more. more_exprs d more) (below true rest) rest (whole rest))

  begin_more_exprs : (ts : Tokens) → Law (more_exprs_with below ts) ts (λ free. AreMoreExprs free depth)
  unfolding more_exprs_with
  begin_more_exprs ts = all_of (next_is_sign signs.Comma) (next_expr_with below) (λ free. AreMoreExprs free depth) (λ free left. no_more_exprs) (λ s b. (next_expr s).explained) (length ts) ts

  pub begin_exprs : (ts : Tokens) → Law (exprs_with below ts) ts (λ free. AreExprs free depth)
  unfolding exprs_with
  begin_exprs ts =
      either (next_is_sign signs.CloseParenthesis ts) _ _ ts _
      (done _ [] ts (λ free left. no_exprs))
      (then (λ free. IsInner free depth) _ (below true ts) _ ts (whole ts)
      (λ x rest. put_law (λ free. AreMoreExprs free depth) _ x (λ free from xs left m before d. some_exprs d m) (more_exprs_with below rest) rest (begin_more_exprs rest)))

  pub begin_args : (ts : Tokens) → Law (arguments_with below ts) ts (λ free. IsArgs free depth)
  unfolding arguments_with
  begin_args ts =
      sign_then _ signs.OpenParenthesis _ ts
      (λ p r. then (λ free. AreExprs free depth) _ (exprs_with below r) _ r (begin_exprs r)
      (λ es s. sign_then _ signs.CloseParenthesis _ s
      (λ q t. done _ es t (λ free left before d. args d))))

  -- what is between brackets, with the ")"
  Closed : ℕ → Tokens → Expr → Tokens → Type 0
  Closed free from e left = (q : Position) × IsInner free depth from e ((sign signs.CloseParenthesis, q) ∷ left)

  closed : (ts : Tokens) → Law (below true ts >>= λ e. expect_at signs.CloseParenthesis e.1 >>= λ z. Ok (e.0, z.1)) ts Closed
  unfolding Closed
  closed ts =
      then (λ free. IsInner free depth) _ (below true ts) _ ts (whole ts)
      (λ e r. sign_then _ signs.CloseParenthesis _ r
      (λ q s. done _ e s (λ free left before d. (q, d))))

  pub begin_bracketed : (ts : Tokens) → Law (bracketed_with below ts) ts (λ free. IsBracketed free depth)
  unfolding bracketed_with Closed
  begin_bracketed ts =
      sign_then _ signs.OpenParenthesis _ ts
      (λ p r. law_as Closed _ (λ free from e left d. bracketed d.1) (below true r >>= λ e. expect_at signs.CloseParenthesis e.1 >>= λ z. Ok (e.0, z.1)) r (closed r))

  begin_named : (p : Position) (text : List ℕ) (ts : Tokens) → Law (name_or_call_with below p text ts) ts (After (name text, p) (λ free. IsPrimary free depth))
  unfolding name_or_call_with
  begin_named p text ts =
      either (next_is_sign signs.OpenParenthesis ts) _ _ ts _
      (then (λ free. IsArgs free depth) _ (arguments_with below ts) _ ts (begin_args ts)
      (λ es r. done _ (Call p text (exprs es)) r (λ free left before d. call d)))
      (done _ (Name p text) ts (λ free left. named))

  opened : (p : Position) (ts : Tokens) → (below true ts >>= λ e. expect_at signs.CloseParenthesis e.1 >>= λ z. Ok (e.0, z.1)) ≡ bracketed_with below ((sign signs.OpenParenthesis, p) ∷ ts)
  unfolding bracketed_with
  opened p ts = ap (λ (o : ParseResult Position). ◌>>=◌ {B = Expr} o (λ o. below true o.1 >>= λ e. expect_at signs.CloseParenthesis e.1 >>= λ z. Ok (e.0, z.1))) (sym (expect_again signs.OpenParenthesis p ts))

  begin_brackets : (p : Position) (ts : Tokens) → Law (bracketed_with below ((sign signs.OpenParenthesis, p) ∷ ts) >>= λ e. Ok (Brackets p e.0, e.1)) ((sign signs.OpenParenthesis, p) ∷ ts) (λ free. IsPrimary free depth)
  unfolding Closed
  begin_brackets p ts =
      subst (λ (o : ParseResult Expr). Law (o >>= λ e. Ok (Brackets p e.0, e.1)) ((sign signs.OpenParenthesis, p) ∷ ts) (λ free. IsPrimary free depth)) (opened p ts)
      (after _ (sign signs.OpenParenthesis, p) _ ts (then Closed _ (below true ts >>= λ e. expect_at signs.CloseParenthesis e.1 >>= λ z. Ok (e.0, z.1)) _ ts (closed ts)
      (λ e r. done _ (Brackets p e) r (λ free left before d. brackets d.1))))

  begin_new_array : (p : Position) (ts : Tokens) → Law (new_array_with below p ts) ts (After (reserved words.Array, p) (λ free. IsPrimary free depth))
  unfolding new_array_with
  begin_new_array p ts =
      then (λ free. IsElement) _ (element_at ts) _ ts (begin_element ts)
      (λ of r. then (λ free. IsArgs free depth) _ (arguments_with below r) _ r (begin_args r)
      (λ es s. done _ (NewArray p of (exprs es)) s (λ free left middle a before d. new_array d a)))

  begin_cast : (p : Position) (ts : Tokens) → Law (cast_with below p ts) ts (After (reserved words.Cast, p) (λ free. IsPrimary free depth))
  unfolding cast_with
  begin_cast p ts =
      then (λ free. IsTarget) _ (target_at ts) _ ts (begin_target ts)
      (λ t r. then (λ free. IsBracketed free depth) _ (bracketed_with below r) _ r (begin_bracketed r)
      (λ e s. done _ (Cast p t e) s (λ free left middle b before d. casted d b)))

  primary_by_begins : (k : Option Primitive) (m : Meaning) (p : Position) (ts : Tokens) → primitive m ≡ k → Law (primary_by below k m p ts) ((m, p) ∷ ts) (λ free. IsPrimary free depth)
  primary_by_begins (Some k) m p ts g =
      after _ (m, p) _ ts (then (λ free. IsBracketed free depth) _ (bracketed_with below ts) _ ts (begin_bracketed ts)
      (λ e r. done _ (Convert p k e) r (λ free left before d. converted g d)))
  primary_by_begins None (name text) p ts g = after _ (name text, p) _ ts (begin_named p text ts)
  primary_by_begins None (number n) p ts g = after _ (number n, p) _ ts (done _ (Number p n) ts (λ free left. numeral))
  primary_by_begins None (sign signs.OpenParenthesis) p ts g = begin_brackets p ts
  primary_by_begins None (reserved words.True) p ts g = after _ (reserved words.True, p) _ ts (done _ (Truth p true) ts (λ free left. yes))
  primary_by_begins None (reserved words.False) p ts g = after _ (reserved words.False, p) _ ts (done _ (Truth p false) ts (λ free left. no))
  primary_by_begins None (reserved words.Null) p ts g = after _ (reserved words.Null, p) _ ts (done _ (Null p) ts (λ free left. null))
  primary_by_begins None (reserved words.This) p ts g = after _ (reserved words.This, p) _ ts (done _ (This p) ts (λ free left. this))
  primary_by_begins None (reserved words.Array) p ts g = after _ (reserved words.Array, p) _ ts (begin_new_array p ts)
  primary_by_begins None (reserved words.Cast) p ts g = after _ (reserved words.Cast, p) _ ts (begin_cast p ts)
  primary_by_begins None m p ts g = stops_here (λ free. IsPrimary free depth) ((m, p) ∷ ts) (fill_primary depth)

  begin_primary : (ts : Tokens) → Law (primary_with below ts) ts (λ free. IsPrimary free depth)
  unfolding primary_with
  begin_primary [] = stops_here (λ free. IsPrimary free depth) [] (fill_primary depth)
  begin_primary ((m, p) ∷ ts) = primary_by_begins (primitive m) m p ts refl

  begin_member : (p : Position) (ts : Tokens) → Law (member_with below ts) ts (After (sign signs.Dot, p) (λ free. IsSuffix free depth))
  unfolding member_with
  begin_member p ts =
      name_then _ _ ts
      (λ n r. either (next_is_sign signs.OpenParenthesis r) _ _ r _
      (then (λ free. IsArgs free depth) _ (arguments_with below r) _ r (begin_args r)
      (λ es s. done _ (Method n.1 n.0 (exprs es)) s (λ free left before d. method d)))
      (done _ (Field n.1 n.0) r (λ free left. field)))

  begin_index : (p : Position) (ts : Tokens) → Law (index_with below ts) ts (After (sign signs.OpenBracket, p) (λ free. IsSuffix free depth))
  unfolding index_with
  begin_index p ts =
      then (λ free. IsInner free depth) _ (below true ts) _ ts (whole ts)
      (λ e r. sign_then _ signs.CloseBracket _ r
      (λ q s. done _ (Index e) s (λ free left before d. index d)))

  fill_suffix : Filled (λ free. IsSuffix free depth)
  fill_suffix = fill_after _ (sign signs.Increment, nowhere) (fill_here _ Increment (λ free left. increment))

  begin_suffix : (ts : Tokens) → Law (suffix_with below ts) ts (λ free. IsSuffix free depth)
  unfolding suffix_with
  begin_suffix [] = stops_here (λ free. IsSuffix free depth) [] fill_suffix
  begin_suffix ((sign signs.Dot, p) ∷ ts) = after _ (sign signs.Dot, p) _ ts (begin_member p ts)
  begin_suffix ((sign signs.OpenBracket, p) ∷ ts) = after _ (sign signs.OpenBracket, p) _ ts (begin_index p ts)
  begin_suffix ((sign signs.Increment, p) ∷ ts) = after _ (sign signs.Increment, p) _ ts (done _ Increment ts (λ free left. increment))
  begin_suffix ((sign signs.Decrement, p) ∷ ts) = after _ (sign signs.Decrement, p) _ ts (done _ Decrement ts (λ free left. decrement))
  begin_suffix ((m, p) ∷ ts) = stops_here (λ free. IsSuffix free depth) ((m, p) ∷ ts) fill_suffix

  begin_suffixes : (ts : Tokens) → Law (suffixes_with below ts) ts (λ free. AreSuffixes free depth)
  unfolding suffixes_with
  begin_suffixes ts =
      all_of is_suffix (suffix_with below) (λ free. AreSuffixes free depth) (λ free left. no_suffixes)
      (λ s b. (law_as (λ free. IsSuffix free depth) (Grows (λ free. AreSuffixes free depth)) (λ free from x left d xs end more. more_suffixes d more) (suffix_with below s) s (begin_suffix s)).explained) (length ts) ts

  begin_postfix : (ts : Tokens) → Law (postfix_with below ts) ts (λ free. IsUnary free depth)
  unfolding postfix_with
  begin_postfix ts =
      then (λ free. IsPrimary free depth) _ (primary_with below ts) _ ts (begin_primary ts)
      (λ e r. then (λ free. AreSuffixes free depth) _ (suffixes_with below r) _ r (begin_suffixes r)
      (λ more s. done _ (suffixed e more) s (λ free left middle ss before d. postfix d ss)))

  unary_by_begins : (o : Option UnaryOp) (m : Meaning) (p : Position) (ts : Tokens) → unary_operator m ≡ o → Law (unary_by below o m p ts) ((m, p) ∷ ts) (λ free. IsUnary free depth)
  unary_by_begins None m p ts g = begin_postfix ((m, p) ∷ ts)
  unary_by_begins (Some o) m p ts g =
      after _ (m, p) _ ts (then (λ free. IsPart free depth) _ (below false ts) _ ts (part ts)
      (λ e r. done _ (Unary p o e) r (λ free left before d. applied g d.0 d.1)))

  pub begin_unary : (ts : Tokens) → Law (unary_with below ts) ts (λ free. IsUnary free depth)
  unfolding unary_with
  begin_unary [] = stops_here (λ free. IsUnary free depth) [] (fill_unary depth)
  begin_unary ((m, p) ∷ ts) = unary_by_begins (unary_operator m) m p ts refl

  begin_link : (n : ℕ) (read : Tokens → ParseResult Expr) → ((ts : Tokens) → Law (read ts) ts (λ free. IsBinary free depth n)) → (from : Tokens) (o : Option (BinaryOp × Tokens)) → operator_at n from ≡ o → is_some o ≡ true → Explained (link_from read o from) from (Grows (λ free. AreLinks free depth n))
  unfolding operator_at
  begin_link n read law from None g b = absurd (no_true b)
  begin_link n read law [] (Some o) g b = absurd (no_some o g)
  begin_link n read law ((m, p) ∷ ts) (Some o) g b =
      operator_found n (binary_operator m) ts o (λ q r. Explained (read r >>= λ e. Ok (record { operator = q; operand = e.0 }, e.1)) ((m, p) ∷ ts) (Grows (λ free. AreLinks free depth n))) g
      (λ q s l. (after (Grows (λ free. AreLinks free depth n)) (m, p) (read ts >>= λ e. Ok (record { operator = q; operand = e.0 }, e.1)) ts
      (then (λ free. IsBinary free depth n) _ (read ts) _ ts (law ts)
      (λ e r. done _ (record { operator = q; operand = e }) r (λ free left before d xs end more. more_links s l d more)))).explained)

  begin_links : (n : ℕ) (read : Tokens → ParseResult Expr) → ((ts : Tokens) → Law (read ts) ts (λ free. IsBinary free depth n)) → (ts : Tokens) → Law (links_by n read ts) ts (λ free. AreLinks free depth n)
  unfolding links_by link_by is_link
  begin_links n read law ts = all_of (is_link n) (link_by n read) (λ free. AreLinks free depth n) (λ free left. no_links) (λ s b. begin_link n read law s (operator_at n s) refl b) (length ts) ts

  begin_chain : (n : ℕ) (read : Tokens → ParseResult Expr) → ((ts : Tokens) → Law (read ts) ts (λ free. IsBinary free depth n)) → (ts : Tokens) → Law (chain_by n read ts) ts (λ free. IsBinary free depth (suc n))
  unfolding chain_by
  begin_chain n read law ts =
      then (λ free. IsBinary free depth n) _ (read ts) _ ts (law ts)
      (λ e r. then (λ free. AreLinks free depth n) _ (links_by n read r) _ r (begin_links n read law r)
      (λ more s. done _ (chained e more) s (λ free left middle ls before d. joined d ls)))

  begin_binary : (n : ℕ) (ts : Tokens) → Law (binary_with below n ts) ts (λ free. IsBinary free depth n)
  unfolding binary_with
  begin_binary zero ts = law_as (λ free. IsUnary free depth) _ (λ free from x left d. operand d) (unary_with below ts) ts (begin_unary ts)
  begin_binary (suc n) ts = begin_chain n (binary_with below n) (begin_binary n) ts

  begin_branches : (p : Position) (c : Expr) (ts : Tokens) → Law (branches_with below c ts) ts (After (sign signs.Question, p) (Then (λ free. IsBinary free depth max_level) (λ free. IsAssign free depth) c))
  unfolding branches_with
  begin_branches p c ts =
      then (λ free. IsInner free depth) _ (below true ts) _ ts (whole ts)
      (λ a r. sign_then _ signs.Colon _ r
      (λ q s. then (λ free. IsInner free depth) _ (below true s) _ s (whole s)
      (λ b t. done _ (Conditional (place_of c) c a b) t (λ free left second j first i before d. no_assign (branches d i j)))))

  begin_assign_by : (o : Option AssignOp) (m : Meaning) (p : Position) (e : Expr) (ts : Tokens) → assign_operator m ≡ o → Law (assign_by below e o m p ts) ((m, p) ∷ ts) (Then (λ free. IsBinary free depth max_level) (λ free. IsAssign free depth) e)
  begin_assign_by None m p e ts g = done _ e ((m, p) ∷ ts) (λ free left before d. no_assign (no_branch d))
  begin_assign_by (Some o) m p e ts g =
      after _ (m, p) _ ts (then (λ free. IsInner free depth) _ (below true ts) _ ts (whole ts)
      (λ v r. done _ (Assign (place_of e) e o v) r (λ free left second i before d. assign d g i)))

  begin_assign_from : (e : Expr) (ts : Tokens) → Law (assign_from below e ts) ts (Then (λ free. IsBinary free depth max_level) (λ free. IsAssign free depth) e)
  unfolding assign_from
  begin_assign_from e [] = done _ e [] (λ free left before d. no_assign (no_branch d))
  begin_assign_from e ((m, p) ∷ ts) = record {
    explained = explain_either (is_sign signs.Question m) (branches_with below e ts) (assign_by below e (assign_operator m) m p ts) ((m, p) ∷ ts) (Then (λ free. IsBinary free depth max_level) (λ free. IsAssign free depth) e)
        (λ b. subst (λ w. Explained (branches_with below e ts) ((w, p) ∷ ts) (Then (λ free. IsBinary free depth max_level) (λ free. IsAssign free depth) e)) (sym (sign_is signs.Question m b)) (after _ (sign signs.Question, p) _ ts (begin_branches p e ts)).explained)
        (λ b. (begin_assign_by (assign_operator m) m p e ts refl).explained);
    filled = fill_here _ e (λ free left before d. no_assign (no_branch d));
  }

  pub begin_assign : (ts : Tokens) → Law (assign_with below ts) ts (λ free. IsAssign free depth)
  unfolding assign_with
  begin_assign ts = then (λ free. IsBinary free depth max_level) _ (binary_with below max_level ts) _ ts (begin_binary max_level ts) (λ e r. begin_assign_from e r)

mutual
  unfolding below_at

  pub begin_whole : (room depth : ℕ) → depth + room ≡ 64 → (ts : Tokens) → Law (below_at room true ts) ts (λ free. IsInner free depth)
  begin_whole zero depth d ts = limit_by (λ free. IsInner free depth) (fill_inner depth) (begins_inner depth) ts
  begin_whole (suc room) depth d ts =
      law_as (λ free. IsAssign free (suc depth)) _ (λ free from x left a. inner (λ some. omega arith) a) (assign_with (below_at room) ts) ts
      (begin_assign (suc depth) (below_at room) (begin_whole room (suc depth) (omega arith)) (begin_part room (suc depth) (omega arith)) ts)

  pub begin_part : (room depth : ℕ) → depth + room ≡ 64 → (ts : Tokens) → Law (below_at room false ts) ts (λ free. IsPart free depth)
  begin_part zero depth d ts = limit_by (λ free. IsPart free depth) (fill_part depth) (begins_part depth) ts
  begin_part (suc room) depth d ts =
      law_as (λ free. IsUnary free (suc depth)) _ (λ free from x left u. (λ some. omega arith, u)) (unary_with (below_at room) ts) ts
      (begin_unary (suc depth) (below_at room) (begin_whole room (suc depth) (omega arith)) (begin_part room (suc depth) (omega arith)) ts)
