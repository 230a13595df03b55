-- What is answered of types, declarations of variables and statements hangs only on the tokens that are taken and the
-- next one.
use Rattle.std.proofs.Common.{◌≡◌, ℕ, zero, suc, ◌≤◌, ◌⊎◌, inl, inr, List, [], ◌∷◌, ◌++◌, length, Bool, true, false, cond, not, Option, Some, None, is_some, Ok, Err, refl, sym, subst, arith}
use Rattle.ash_lex.specs.Tokens.{Meaning, name, number, sign, reserved, unsupported}
use Rattle.ash_lex.specs.declared.signs.Sign.TheVariants as signs
use Rattle.ash_lex.specs.declared.words.ReservedWord.TheVariants as words
use Rattle.ash_tree.specs.declared.tree.places.Position.{Position}
use Rattle.ash_tree.specs.declared.tree.types.Primitive.{Primitive}
use Rattle.ash_tree.specs.declared.tree.statements.Label.TheVariants as labels
use Rattle.ash_tree.specs.Tree.{Element, Named, Prim, Object, Handle, Array, ArrayHandle, Expr, Default, Value, Arguments, Vars, Stmt, Empty, Declare, Evaluate, Block, If, IfElse, While, DoWhile, For, Switch, Break, Continue, Return, labelled, place_of, place_of_type, stmts, cases}
use Rattle.ash_tree.specs.GrammarTokens.{Tokens}
use Rattle.ash_tree.specs.Operators.{primitive}
use Rattle.ash_parse.specs.declared.stmt_tokens.StmtToken.{StmtToken}
use Rattle.ash_parse.specs.declared.stmt_tokens.StmtToken.TheVariants as stmt_tokens
use Rattle.ash_parse.specs.SignTokens.{is_sign}
use Rattle.ash_parse.specs.Readers.{Unexpected, TooDeep, ParseResult, ◌>>=◌, next_is, next_is_sign, expect_at}
use Rattle.ash_parse.specs.ExpressionReader.{begins, bracketed_with, below_at}
use Rattle.ash_parse.specs.TypeReader.{is_array, element_at, after_element}
use Rattle.ash_parse.specs.StatementReader.{is_name, next_is_name, names_vars, array_names_vars, handle_by, type_by, type_at, is_vars, initializer_with, decl_with, next_decl_with, more_decls_with, decls_with, vars_with, vars_statement_with, first_with, test_with, return_value_with, stmt_token, begins_stmt, stmt_limit_at, is_end, ends_case, goes_on, case_goes_on, evaluate_with, is_else, else_with, if_with, while_with, is_while, while_at, do_with, for_with, number_at, case_value_at, label_by, label_at, stmts_with, case_with, cases_with, switch_with, local_with, locals_with, block_with, stmt_by, stmt_with, nested_at}
use Rattle.ash_parse.proofs.StatementLoops.{next_decl_shrinks, nested_shrinks, local_shrinks, case_shrinks}
use Rattle.ash_parse.proofs.Rereading.{no_some, no_true}
use Rattle.ash_parse.proofs.Keeps.{differs_off, Past, Fewer, past_fewer, bind_past, bind_fewer, First, first, name_takes, Agree, past, chosen, opens, Lawful, ok_lawful, bind_lawful, put_lawful, Steady, next_steady, sign_steady, Crosses, choice_lawful, if_lawful, IsNoArray, Led, led_after, led_array, led_from, led_stop, led_deep, led_if, led_lawful, expect_lawful, name_lawful, Takes, bind_takes, loop_lawful}
use Rattle.ash_parse.proofs.Choices.{element_lawful, left_of, passed_is_read, Passed, name_passed, word_passed, array_passed, or_none, after_open, differ_passed, differ_beyond, word_no_array}
use Rattle.ash_parse.proofs.KeepsExpressions.{word_is_no_array, passed_begins, TakesOrCut, then_takes_or_cut, exprs_lawful, arguments_lawful, bracketed_lawful, assign_lawful, assign_takes, below_lawful, below_takes}

pub goes_on_steady : Steady goes_on
unfolding goes_on
goes_on_steady = next_steady (λ m. not (is_end (stmt_token m)))

case_goes_on_steady : Steady case_goes_on
unfolding case_goes_on
case_goes_on_steady = next_steady (λ m. not (ends_case (stmt_token m)))

handle_by_lawful : (plain handle : Named) → Lawful (handle_by plain handle)
handle_by_lawful plain handle = if_lawful _ (sign_steady signs.Handle) (bind_lawful _ (expect_lawful signs.Handle) λ o. ok_lawful handle) (ok_lawful plain)

handle_lawful : (p : Position) (t : List ℕ) → Lawful (λ s. cond (next_is_sign signs.Handle s) (expect_at signs.Handle s >>= λ h. Ok (Handle p t, h.1)) (Ok (Object p t, s)))
handle_lawful p t = handle_by_lawful (Object p t) (Handle p t)

type_led : (k : Option Primitive) (m : Meaning) (p : Position) → primitive m ≡ k → Led (m, p) (λ s. type_by k m p s)
type_led (Some k) m p g = led_after (word_is_no_array m k g) (ok_lawful (Prim p k))
type_led None (name t) p g = led_after tt (handle_lawful p t)
type_led None (reserved words.Array) p g = led_array (λ e. handle_by (Array p e.0) (ArrayHandle p e.0) e.1) element_lawful (λ e. handle_by_lawful (Array p e) (ArrayHandle p e)) p
type_led None m p g = led_stop

pub type_lawful : Lawful type_at
unfolding type_at
type_lawful = led_lawful (λ n. omega arith) (λ m p. type_led (primitive m) m p refl)

pub type_takes : Takes Passed type_at
unfolding type_at primitive
type_takes = record { taken = by_passed }
  where
    by_passed : (n : ℕ) (s : Tokens) → Passed n s → Past n (type_at s)
    by_passed n _ (name_passed text p s l) = (handle_lawful p text).stays n s l
    by_passed n _ (word_passed m p k s e l) = rw e l
    by_passed n _ (array_passed p s l) = bind_past (λ e. handle_by (Array p e.0) (ArrayHandle p e.0) e.1) n (element_at s) l (λ e r k. (handle_by_lawful (Array p e) (ArrayHandle p e)).stays n r k)

name_is : (m : Meaning) (Q : Meaning → Type 0) → is_name m ≡ true → ((text : List ℕ) → Q (name text)) → Q m
unfolding is_name
name_is (name text) Q h go = go text
name_is (number n) Q h go = absurd (no_true h)
name_is (sign n) Q h go = absurd (no_true h)
name_is (reserved n) Q h go = absurd (no_true h)
name_is (unsupported n) Q h go = absurd (no_true h)

-- the reader takes what leaves open whether a declaration of variables begins, and, where one does, what decides it
pub record TakesVars {A : Type 0} (read : Tokens → ParseResult A) : Type 0 where
  pub takes : Takes Passed read
  pub chooses : (s : Tokens) → is_vars s ≡ true → Fewer (length (after_open s)) (read s)

vars_then : {A B : Type 0} {read : Tokens → ParseResult A} (f : A × Tokens → ParseResult B) → TakesVars read → ((x : A) → Lawful (λ s. f (x, s))) → TakesVars (λ s. read s >>= f)
vars_then {read} f u next = record {
  takes = bind_takes f u.takes next;
  chooses = λ s v. bind_fewer f (length (after_open s)) (read s) (u.chooses s v) (λ x k r l. (next x).stays k r l);
}

only_name : (b : Bool) → cond b true false ≡ true → b ≡ true
only_name true h = refl
only_name false h = h

-- what reads after a type takes the name there
module _ {B : Type 0} (f : Named × Tokens → ParseResult B) (law : (t : Named) → Lawful (λ s. f (t, s))) (takes : (t : Named) (text : List ℕ) (p : Position) → Takes (First (name text, p)) (λ s. f (t, s))) where
  name_fewer : (t : Named) (n : Meaning) (q : Position) (s : Tokens) → is_name n ≡ true → Fewer (suc (length s)) (f (t, (n, q) ∷ s))
  name_fewer t n q s h =
      past_fewer (length s) (suc (length s)) (f (t, (n, q) ∷ s)) (omega arith)
      (name_is n (λ w. Past (length s) (f (t, (w, q) ∷ s))) h (λ text. (takes t text q).taken (length s) ((name text, q) ∷ s) (first s (omega arith))))

  named_fewer : (t : Named) (s : Tokens) → next_is_name s ≡ true → Fewer (length s) (f (t, s))
  unfolding next_is_name
  named_fewer t [] h = absurd (no_true h)
  named_fewer t ((n, q) ∷ s) h = name_fewer t n q s h

  sign_fewer : (v : Bool) (plain handled : Named) (n : Meaning) (q : Position) (s : Tokens) → cond (is_name n) true v ≡ true → Fewer (suc (length s)) (cond v (cond v (Ok (q, s)) (Err (Unexpected ((n, q) ∷ s))) >>= λ h. Ok (handled, h.1)) (Ok (plain, (n, q) ∷ s)) >>= f)
  sign_fewer true plain handled n q s h = past_fewer (length s) (suc (length s)) (f (handled, s)) (omega arith) ((law handled).stays (length s) s (omega arith))
  sign_fewer false plain handled n q s h = name_fewer plain n q s (only_name (is_name n) h)

  handle_fewer : (plain handled : Named) (s : Tokens) → names_vars s ≡ true → Fewer (length s) (handle_by plain handled s >>= f)
  unfolding next_is_name next_is_sign expect_at
  handle_fewer plain handled [] h = absurd (no_true h)
  handle_fewer plain handled ((n, q) ∷ s) h = sign_fewer (is_sign signs.Handle n) plain handled n q s h

  element_fewer : (p : Position) (o : ParseResult Element) → array_names_vars (left_of o) ≡ true → Fewer (length (or_none (left_of o))) ((o >>= λ e. handle_by (Array p e.0) (ArrayHandle p e.0) e.1) >>= f)
  element_fewer p (Ok e) h = handle_fewer (Array p e.0) (ArrayHandle p e.0) e.1 h
  element_fewer p (Err e) h = absurd (no_true h)

  array_fewer : (p : Position) (s : Tokens) → array_names_vars (after_element s) ≡ true → Fewer (length (or_none (after_element s))) ((element_at s >>= λ e. handle_by (Array p e.0) (ArrayHandle p e.0) e.1) >>= f)
  array_fewer p s =
      subst (λ (b : Option Tokens). array_names_vars b ≡ true → Fewer (length (or_none b)) ((element_at s >>= λ e. handle_by (Array p e.0) (ArrayHandle p e.0) e.1) >>= f)) (sym (passed_is_read s)) (element_fewer p (element_at s))

  type_fewer : (k : Option Primitive) (m : Meaning) (p : Position) (s : Tokens) → primitive m ≡ k → cond (is_some k) (next_is_name s) (cond (is_name m) (names_vars s) (cond (is_array m) (array_names_vars (after_element s)) false)) ≡ true → Fewer (length (after_open ((m, p) ∷ s))) (type_by k m p s >>= f)
  unfolding is_name is_array after_open
  type_fewer (Some k) m p s g h = rw (word_no_array m k g) (named_fewer (Prim p k) s h)
  type_fewer None (name text) p s g h = handle_fewer (Object p text) (Handle p text) s h
  type_fewer None (number x) p s g h = absurd (no_true h)
  type_fewer None (sign x) p s g h = absurd (no_true h)
  type_fewer None (reserved words.Array) p s g h = array_fewer p s h
  type_fewer None (reserved x) p s g h = absurd (no_true h)
  type_fewer None (unsupported x) p s g h = absurd (no_true h)

  type_chooses : (s : Tokens) → is_vars s ≡ true → Fewer (length (after_open s)) (type_at s >>= f)
  unfolding is_vars type_at
  type_chooses [] h = absurd (no_true h)
  type_chooses ((m, p) ∷ s) h = type_fewer (primitive m) m p s refl h

  after_type_takes : TakesVars (λ s. type_at s >>= f)
  after_type_takes = record { takes = bind_takes f type_takes law; chooses = type_chooses }

pub vars_crosses : {A : Type 0} {on off : Tokens → ParseResult A} → TakesVars on → TakesOrCut off → Crosses is_vars on off
vars_crosses {A} {on} {off} u v t more other prefix =
    let s = prefix ++ t ∷ more in
    let r = prefix ++ t ∷ other in (
      λ h k. chosen (length (after_open s)) (u.chooses s h) (differ_beyond t more other prefix h k),
      λ h k. by_off h k (v.taken (length more) s (differ_passed t more other prefix (differs_off (is_vars s) (is_vars r) h k))),
    )
  where
    by_off : is_vars (prefix ++ t ∷ more) ≡ false → is_vars (prefix ++ t ∷ other) ≡ true → Past (length more) (off (prefix ++ t ∷ more)) ⊎ (off (prefix ++ t ∷ more) ≡ Err (TooDeep (prefix ++ t ∷ more))) → Agree t more other (off (prefix ++ t ∷ more)) (on (prefix ++ t ∷ other))
    by_off h k (inl p) = past p (u.takes.taken (length other) (prefix ++ t ∷ other) (differ_passed t other more prefix (λ e. differs_off (is_vars (prefix ++ t ∷ more)) (is_vars (prefix ++ t ∷ other)) h k (sym e))))
    by_off h k (inr e) = subst (λ x. Agree t more other x (on (prefix ++ t ∷ other))) (sym e) (opens prefix h k)

module _ (room : ℕ) (h : room ≤ 64) where
  pub initializer_lawful : Lawful (initializer_with (below_at room))
  unfolding initializer_with
  initializer_lawful =
      if_lawful _ (sign_steady signs.Assign) (bind_lawful _ (expect_lawful signs.Assign) λ a. bind_lawful _ (assign_lawful room h (below_lawful room h)) λ e. ok_lawful (Value e))
      (if_lawful _ (sign_steady signs.OpenParenthesis) (bind_lawful _ (arguments_lawful room h (below_lawful room h)) λ es. ok_lawful (Arguments es)) (ok_lawful Default))

  pub decl_lawful : Lawful (decl_with (below_at room))
  unfolding decl_with
  decl_lawful = bind_lawful _ name_lawful λ n. bind_lawful _ initializer_lawful λ i. ok_lawful (record { place = n.1; name = n.0; initializer = i })

  next_decl_lawful : Lawful (next_decl_with (below_at room))
  unfolding next_decl_with
  next_decl_lawful = bind_lawful _ (expect_lawful signs.Comma) λ c. decl_lawful

  pub more_decls_lawful : Lawful (more_decls_with (below_at room))
  unfolding more_decls_with
  more_decls_lawful = loop_lawful (next_is_sign signs.Comma) (next_decl_with (below_at room)) (next_decl_shrinks room h) (sign_steady signs.Comma) next_decl_lawful

  decls_lawful : Lawful (decls_with (below_at room))
  unfolding decls_with
  decls_lawful = bind_lawful _ decl_lawful λ d. put_lawful d more_decls_lawful

  after_type : (t : Named) → Lawful {A = Vars} (λ s. decls_with (below_at room) s >>= λ ds. Ok (record { of = t; decls = ds.0 }, ds.1))
  after_type t = bind_lawful _ decls_lawful λ ds. ok_lawful (record { of = t; decls = ds })

  vars_lawful : Lawful (vars_with (below_at room))
  unfolding vars_with
  vars_lawful = bind_lawful _ type_lawful after_type

  after_vars : (v : Vars) → Lawful (λ s. expect_at signs.Semicolon s >>= λ o. Ok (v, o.1))
  after_vars v = bind_lawful _ (expect_lawful signs.Semicolon) λ o. ok_lawful v

  pub declared_lawful : Lawful (vars_statement_with (below_at room))
  unfolding vars_statement_with
  declared_lawful = bind_lawful _ vars_lawful after_vars

  declare_lawful : Lawful (λ s. vars_statement_with (below_at room) s >>= λ v. Ok (Declare (place_of_type (v.0).of) v.0, v.1))
  declare_lawful = bind_lawful _ declared_lawful λ v. ok_lawful (Declare (place_of_type v.of) v)

  decls_takes : (text : List ℕ) (p : Position) → Takes (First (name text, p)) (decls_with (below_at room))
  unfolding decls_with decl_with
  decls_takes text p = bind_takes _ (bind_takes _ (name_takes text p) (λ n. bind_lawful _ initializer_lawful λ i. ok_lawful (record { place = n.1; name = n.0; initializer = i }))) (λ d. put_lawful d more_decls_lawful)

  vars_takes : TakesVars (vars_with (below_at room))
  unfolding vars_with
  vars_takes = after_type_takes (λ t. decls_with (below_at room) t.1 >>= λ ds. Ok (record { of = t.0; decls = ds.0 }, ds.1)) after_type (λ t text p. bind_takes _ (decls_takes text p) (λ ds. ok_lawful (record { of = t; decls = ds })))

  declared_takes : TakesVars (vars_statement_with (below_at room))
  unfolding vars_statement_with
  declared_takes = vars_then (λ v. expect_at signs.Semicolon v.1 >>= λ s. Ok (v.0, s.1)) vars_takes after_vars

  declare_takes : TakesVars (λ s. vars_statement_with (below_at room) s >>= λ v. Ok (Declare (place_of_type (v.0).of) v.0, v.1))
  declare_takes = vars_then (λ v. Ok (Declare (place_of_type (v.0).of) v.0, v.1)) declared_takes (λ v. ok_lawful (Declare (place_of_type v.of) v))

  after_tested : (e : Expr) → Lawful (λ s. expect_at signs.Semicolon s >>= λ o. Ok (Some e, o.1))
  after_tested e = bind_lawful _ (expect_lawful signs.Semicolon) λ o. ok_lawful (Some e)

  after_evaluated : (e : Expr) → Lawful (λ s. expect_at signs.Semicolon s >>= λ o. Ok (Evaluate (place_of e) e, o.1))
  after_evaluated e = bind_lawful _ (expect_lawful signs.Semicolon) λ o. ok_lawful (Evaluate (place_of e) e)

  evaluated_takes : TakesOrCut (λ s. below_at room true s >>= λ e. expect_at signs.Semicolon e.1 >>= λ o. Ok (Evaluate (place_of e.0) e.0, o.1))
  evaluated_takes = then_takes_or_cut _ (below_takes room h) after_evaluated

  first_lawful : Lawful (first_with (below_at room))
  unfolding first_with
  first_lawful =
      if_lawful _ (sign_steady signs.Semicolon) (bind_lawful _ (expect_lawful signs.Semicolon) λ s. ok_lawful (Empty s))
      (choice_lawful _ (vars_crosses declare_takes evaluated_takes) declare_lawful (bind_lawful _ (below_lawful room h true) after_evaluated))

  test_lawful : Lawful (test_with (below_at room))
  unfolding test_with
  test_lawful = if_lawful _ (sign_steady signs.Semicolon) (bind_lawful _ (expect_lawful signs.Semicolon) λ s. ok_lawful None) (bind_lawful _ (below_lawful room h true) after_tested)

  result_lawful : Lawful (return_value_with (below_at room))
  unfolding return_value_with
  result_lawful = if_lawful _ (sign_steady signs.Semicolon) (bind_lawful _ (expect_lawful signs.Semicolon) λ s. ok_lawful None) (bind_lawful _ (assign_lawful room h (below_lawful room h)) after_tested)

  evaluate_lawful : Lawful (evaluate_with (below_at room))
  unfolding evaluate_with
  evaluate_lawful = bind_lawful _ (assign_lawful room h (below_lawful room h)) after_evaluated

  evaluate_takes : Takes Passed (evaluate_with (below_at room))
  unfolding evaluate_with
  evaluate_takes = bind_takes _ (assign_takes room h (below_lawful room h)) after_evaluated

word_leads : (m : Meaning) (k : Primitive) → primitive m ≡ Some k → stmt_token m ≡ stmt_tokens.Other
unfolding primitive stmt_token
word_leads (reserved words.Bool) k e = refl
word_leads (reserved words.Int) k e = refl
word_leads (reserved words.Int32) k e = refl
word_leads (reserved words.Int64) k e = refl
word_leads (reserved words.Uint) k e = refl
word_leads (reserved words.Uint32) k e = refl
word_leads (reserved words.Uint64) k e = refl
word_leads m k e = absurd (no_some k e)

-- what leads a statement of its own is no array
abbrev is_other : StmtToken → Bool
is_other stmt_tokens.Other = true
is_other _ = false

no_false : true ≡ false → ⊥
no_false h = cc

leads_no_array : (k : StmtToken) (m : Meaning) → stmt_token m ≡ k → is_other k ≡ false → IsNoArray m
unfolding stmt_token
leads_no_array k (reserved words.Array) e o = no_false (subst (λ l. is_other l ≡ false) (sym e) o)
leads_no_array k m e o = tt

while_no_array : (m : Meaning) → is_while (stmt_token m) ≡ true → IsNoArray m
unfolding stmt_token
while_no_array (reserved words.Array) e = no_true e
while_no_array m e = tt

else_no_array : (m : Meaning) → is_else (stmt_token m) ≡ true → IsNoArray m
unfolding stmt_token
else_no_array (reserved words.Array) e = no_true e
else_no_array m e = tt

-- what leaves it open begins a statement
passed_begins_stmt : (n : ℕ) (s : Tokens) → Passed n s → next_is begins_stmt s ≡ true
unfolding begins_stmt stmt_token begins
passed_begins_stmt n _ (name_passed text p s l) = refl
passed_begins_stmt n _ (word_passed m p k s e l) = rw (word_leads m k e) (passed_begins n ((m, p) ∷ s) (word_passed m p k s e l))
passed_begins_stmt n _ (array_passed p s l) = refl

limit_takes : TakesOrCut stmt_limit_at
unfolding stmt_limit_at
limit_takes = record { taken = λ n s p. inr (rw (passed_begins_stmt n s p) refl) }

limit_lawful : Lawful stmt_limit_at
unfolding stmt_limit_at
limit_lawful = led_lawful (λ n. omega arith) (λ m p. led_if (begins_stmt m) (λ b. led_deep) led_stop)

pub nested_takes : (room : ℕ) → room ≤ 64 → TakesOrCut (nested_at room)
unfolding nested_at stmt_with stmt_token
nested_takes zero h = limit_takes
nested_takes (suc room) h = record { taken = λ n s p. inl (by_passed n s p) }
  where
    by_passed : (n : ℕ) (s : Tokens) → Passed n s → Past n (nested_at (suc room) s)
    by_passed n _ (name_passed text p s l) = (evaluate_takes room (omega arith)).taken n ((name text, p) ∷ s) (name_passed text p s l)
    by_passed n _ (word_passed m p k s e l) = rw (word_leads m k e) ((evaluate_takes room (omega arith)).taken n ((m, p) ∷ s) (word_passed m p k s e l))
    by_passed n _ (array_passed p s l) = (evaluate_takes room (omega arith)).taken n ((reserved words.Array, p) ∷ s) (array_passed p s l)

while_at_lawful : Lawful while_at
unfolding while_at
while_at_lawful = led_lawful (λ n. omega arith) (λ m p. led_if (is_while (stmt_token m)) (λ e. led_after (while_no_array m e) (ok_lawful p)) led_stop)

number_led : (m : Meaning) (p : Position) → Led (m, p) (λ s. number_at ((m, p) ∷ s))
unfolding number_at
number_led (number n) p = led_after tt (ok_lawful (n, p))
number_led m p = led_stop

number_lawful : Lawful number_at
unfolding number_at
number_lawful = led_lawful (λ n. omega arith) number_led

case_value_lawful : Lawful case_value_at
unfolding case_value_at
case_value_lawful =
    if_lawful _ (sign_steady signs.Minus) (bind_lawful _ (expect_lawful signs.Minus) λ o. bind_lawful _ number_lawful λ n. bind_lawful _ (expect_lawful signs.Colon) λ c. ok_lawful (labels.CaseMinus n.0, o))
    (bind_lawful _ number_lawful λ n. bind_lawful _ (expect_lawful signs.Colon) λ c. ok_lawful (labels.Case n.0, n.1))

label_led : (k : StmtToken) (m : Meaning) (p : Position) → stmt_token m ≡ k → Led (m, p) (λ s. label_by k m p s)
label_led stmt_tokens.Case m p g = led_after (leads_no_array stmt_tokens.Case m g refl) case_value_lawful
label_led stmt_tokens.Default m p g = led_after (leads_no_array stmt_tokens.Default m g refl) (bind_lawful _ (expect_lawful signs.Colon) λ c. ok_lawful (labels.Default, p))
label_led k m p g = led_stop

label_lawful : Lawful label_at
unfolding label_at
label_lawful = led_lawful (λ n. omega arith) (λ m p. label_led (stmt_token m) m p refl)

module _ (room : ℕ) (h : room ≤ 64) (nested : Lawful (nested_at room)) where
  bracket_lawful : Lawful (bracketed_with (below_at room))
  bracket_lawful = bracketed_lawful room h (below_lawful room h)

  else_lawful : (p : Position) (c : Expr) (s : Stmt) → Lawful (else_with (nested_at room) p c s)
  unfolding else_with
  else_lawful p c s = led_lawful (λ n. omega arith) (λ m o. led_if (is_else (stmt_token m)) (λ e. led_after (else_no_array m e) (bind_lawful _ nested λ t. ok_lawful (IfElse p c s t))) (led_from (ok_lawful (If p c s))))

  if_stmt_lawful : (p : Position) → Lawful (if_with (below_at room) (nested_at room) p)
  unfolding if_with
  if_stmt_lawful p = bind_lawful _ bracket_lawful λ c. bind_lawful _ nested λ s. else_lawful p c s

  while_lawful : (p : Position) → Lawful (while_with (below_at room) (nested_at room) p)
  unfolding while_with
  while_lawful p = bind_lawful _ bracket_lawful λ c. bind_lawful _ nested λ s. ok_lawful (While p c s)

  do_lawful : (p : Position) → Lawful (do_with (below_at room) (nested_at room) p)
  unfolding do_with
  do_lawful p = bind_lawful _ nested λ s. bind_lawful _ while_at_lawful λ w. bind_lawful _ bracket_lawful λ c. bind_lawful _ (expect_lawful signs.Semicolon) λ o. ok_lawful (DoWhile p s c)

  for_lawful : (p : Position) → Lawful (for_with (below_at room) (nested_at room) p)
  unfolding for_with
  for_lawful p =
      bind_lawful _ (expect_lawful signs.OpenParenthesis) λ o. bind_lawful _ (first_lawful room h) λ f. bind_lawful _ (test_lawful room h) λ c.
      bind_lawful _ (exprs_lawful room h (below_lawful room h)) λ es. bind_lawful _ (expect_lawful signs.CloseParenthesis) λ z. bind_lawful _ nested λ s. ok_lawful (For p f c es s)

  stmts_lawful : Lawful (stmts_with (nested_at room))
  unfolding stmts_with
  stmts_lawful = loop_lawful case_goes_on (nested_at room) (nested_shrinks room h) case_goes_on_steady nested

  case_lawful : Lawful (case_with (nested_at room))
  unfolding case_with
  case_lawful = bind_lawful _ label_lawful λ l. bind_lawful _ stmts_lawful λ ss. ok_lawful (labelled l.1 l.0 (stmts ss))

  cases_lawful : Lawful (cases_with (nested_at room))
  unfolding cases_with
  cases_lawful = loop_lawful goes_on (case_with (nested_at room)) (case_shrinks room h) goes_on_steady case_lawful

  switch_lawful : (p : Position) → Lawful (switch_with (below_at room) (nested_at room) p)
  unfolding switch_with
  switch_lawful p = bind_lawful _ bracket_lawful λ e. bind_lawful _ (expect_lawful signs.OpenBrace) λ o. bind_lawful _ cases_lawful λ cs. bind_lawful _ (expect_lawful signs.CloseBrace) λ z. ok_lawful (Switch p e (cases cs))

  local_lawful : Lawful (local_with (below_at room) (nested_at room))
  unfolding local_with
  local_lawful = choice_lawful _ (vars_crosses (declare_takes room h) (nested_takes room h)) (declare_lawful room h) nested

  locals_lawful : Lawful (locals_with (below_at room) (nested_at room))
  unfolding locals_with
  locals_lawful = loop_lawful goes_on (local_with (below_at room) (nested_at room)) (local_shrinks room h) goes_on_steady local_lawful

  pub block_lawful : Lawful (block_with (below_at room) (nested_at room))
  unfolding block_with
  block_lawful = bind_lawful _ (expect_lawful signs.OpenBrace) λ o. bind_lawful _ locals_lawful λ ss. bind_lawful _ (expect_lawful signs.CloseBrace) λ z. ok_lawful ss

  stmt_led : (k : StmtToken) (m : Meaning) (p : Position) → stmt_token m ≡ k → Led (m, p) (λ s. stmt_by k (below_at room) (nested_at room) m p s)
  stmt_led stmt_tokens.Block m p g = led_from {read = λ s. block_with (below_at room) (nested_at room) s >>= λ b. Ok (Block p (stmts b.0), b.1)} (bind_lawful _ block_lawful λ b. ok_lawful (Block p (stmts b)))
  stmt_led stmt_tokens.Empty m p g = led_after (leads_no_array stmt_tokens.Empty m g refl) (ok_lawful (Empty p))
  stmt_led stmt_tokens.If m p g = led_after (leads_no_array stmt_tokens.If m g refl) (if_stmt_lawful p)
  stmt_led stmt_tokens.While m p g = led_after (leads_no_array stmt_tokens.While m g refl) (while_lawful p)
  stmt_led stmt_tokens.Do m p g = led_after (leads_no_array stmt_tokens.Do m g refl) (do_lawful p)
  stmt_led stmt_tokens.For m p g = led_after (leads_no_array stmt_tokens.For m g refl) (for_lawful p)
  stmt_led stmt_tokens.Switch m p g = led_after (leads_no_array stmt_tokens.Switch m g refl) (switch_lawful p)
  stmt_led stmt_tokens.Break m p g = led_after (leads_no_array stmt_tokens.Break m g refl) (bind_lawful _ (expect_lawful signs.Semicolon) λ s. ok_lawful (Break p))
  stmt_led stmt_tokens.Continue m p g = led_after (leads_no_array stmt_tokens.Continue m g refl) (bind_lawful _ (expect_lawful signs.Semicolon) λ s. ok_lawful (Continue p))
  stmt_led stmt_tokens.Return m p g = led_after (leads_no_array stmt_tokens.Return m g refl) (bind_lawful _ (result_lawful room h) λ e. ok_lawful (Return p e))
  stmt_led stmt_tokens.Other m p g = led_from (evaluate_lawful room h)
  stmt_led k m p g = led_stop

  stmt_lawful : Lawful (stmt_with (below_at room) (nested_at room))
  unfolding stmt_with
  stmt_lawful = led_lawful (λ n. omega arith) (λ m p. stmt_led (stmt_token m) m p refl)

pub nested_lawful : (room : ℕ) → room ≤ 64 → Lawful (nested_at room)
unfolding nested_at
nested_lawful zero h = limit_lawful
nested_lawful (suc room) h = stmt_lawful room (omega arith) (nested_lawful room (omega arith))
