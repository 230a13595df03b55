-- What is answered where a function or variables begin hangs only on the tokens that are taken and the next one. Six
-- tokens decide at most which of the two it is, and both readers take each of them that leaves it open.
use Rattle.std.proofs.Common.{◌≡◌, ℕ, ◌≤◌, ◌⊎◌, inl, inr, List, [], ◌∷◌, ◌++◌, length, Bool, true, false, cond, Option, Some, None, Ok, Err, refl, sym, ap, subst, arith}
use Rattle.ash_lex.specs.Tokens.{Meaning, name, number, sign, reserved, unsupported}
use Rattle.ash_lex.specs.declared.signs.Sign.{Sign}
use Rattle.ash_lex.specs.declared.signs.Sign.TheVariants as signs
use Rattle.ash_lex.specs.declared.words.ReservedWord.TheVariants as words
use Rattle.ash_tree.specs.declared.tree.places.Position.{Position}
use Rattle.ash_tree.specs.declared.tree.types.Primitive.{Primitive}
use Rattle.ash_tree.specs.Tree.{Element, Named, Prim, Object, Handle, Array, ArrayHandle, Expr, Decl, Initializer, Arguments, Vars, Parameter, Function}
use Rattle.ash_tree.specs.GrammarTokens.{Tokens}
use Rattle.ash_tree.specs.Operators.{primitive}
use Rattle.ash_tree.specs.Expressions.{max_depth}
use Rattle.ash_parse.specs.SignTokens.{is_sign, same_sign}
use Rattle.ash_parse.specs.Readers.{Unexpected, ParseResult, ◌>>=◌, put, next_is_sign, expect_at, name_at}
use Rattle.ash_parse.specs.ExpressionReader.{below_at, exprs_with, arguments_with, more_exprs_with}
use Rattle.ash_parse.specs.TypeReader.{is_array, element_at, after_element}
use Rattle.ash_parse.specs.StatementReader.{is_name, next_is_name, handle_by, type_by, type_at, is_vars, initializer_with, decl_with, more_decls_with, decls_with, vars_with, vars_statement_with}
use Rattle.ash_parse.specs.ItemReader.{is_void, result_type_at, parameter_at, next_parameter_at, more_parameters_at, parameter_list_at, parameters_at, body_at, function_at, globals_at, without_first, opens_body, names_function, handle_names_function, array_names_function, is_function}
use Rattle.ash_parse.proofs.Readings.{sign_is}
use Rattle.ash_parse.proofs.ItemShorter.{next_parameter_shrinks}
use Rattle.ash_parse.proofs.Rereading.{no_some, no_true}
use Rattle.ash_parse.proofs.Keeps.{differs_on, differs_off, alike, Past, past, Lawful, ok_lawful, bind_past, bind_lawful, put_lawful, sign_steady, Crosses, choice_lawful, if_lawful, IsNoArray, Led, led_after, led_from, led_if, led_lawful, expect_lawful, name_lawful, Takes, bind_takes, loop_lawful}
use Rattle.ash_parse.proofs.Choices.{left_of, passed_is_read, Passed, name_passed, word_passed, array_passed, differ_passed, word_no_array}
use Rattle.ash_parse.proofs.KeepsExpressions.{below_lawful, room_takes, more_exprs_lawful}
use Rattle.ash_parse.proofs.KeepsStatements.{type_lawful, type_takes, more_decls_lawful, initializer_lawful, declared_lawful, block_lawful, nested_lawful}

pub within : max_depth ≤ 64
within = omega arith

void_no_array : (m : Meaning) → is_void m ≡ true → IsNoArray m
unfolding is_void
void_no_array (reserved words.Array) e = no_true e
void_no_array m e = tt

result_led : (m : Meaning) (p : Position) → Led (m, p) (λ s. result_type_at ((m, p) ∷ s))
unfolding result_type_at
result_led m p = led_if (is_void m) (λ e. led_after (void_no_array m e) (ok_lawful None)) (led_from {read = λ s. type_at s >>= λ t. Ok (Some t.0, t.1)} (bind_lawful _ type_lawful λ t. ok_lawful (Some t)))

pub result_lawful : Lawful result_type_at
unfolding result_type_at
result_lawful = led_lawful (λ n. omega arith) result_led

after_parameter : (t : Named) → Lawful {A = Parameter} (λ s. name_at s >>= λ n. Ok (record { of = t; place = (n.0).1; name = (n.0).0 }, n.1))
after_parameter t = bind_lawful _ name_lawful λ n. ok_lawful (record { of = t; place = n.1; name = n.0 })

parameter_lawful : Lawful parameter_at
unfolding parameter_at
parameter_lawful = bind_lawful _ type_lawful after_parameter

next_parameter_lawful : Lawful next_parameter_at
unfolding next_parameter_at
next_parameter_lawful = bind_lawful _ (expect_lawful signs.Comma) λ c. parameter_lawful

more_parameters_lawful : Lawful more_parameters_at
unfolding more_parameters_at
more_parameters_lawful = loop_lawful (next_is_sign signs.Comma) next_parameter_at next_parameter_shrinks (sign_steady signs.Comma) next_parameter_lawful

-- a list with its ")", where `some` reads a list with an element at least
abbrev closed : {A : Type 0} → (Tokens → ParseResult (List A)) → Tokens → ParseResult (List A)
closed some s = cond (next_is_sign signs.CloseParenthesis s) (Ok ([], s)) (some s) >>= λ xs. expect_at signs.CloseParenthesis xs.1 >>= λ z. Ok (xs.0, z.1)

closes : {A : Type 0} (xs : List A) → Lawful (λ s. expect_at signs.CloseParenthesis s >>= λ z. Ok (xs, z.1))
closes xs = bind_lawful _ (expect_lawful signs.CloseParenthesis) λ z. ok_lawful xs

closed_lawful : {A : Type 0} {some : Tokens → ParseResult (List A)} → Lawful some → Lawful (closed some)
closed_lawful {some} law = bind_lawful {read = λ s. cond (next_is_sign signs.CloseParenthesis s) (Ok ([], s)) (some s)} (λ xs. expect_at signs.CloseParenthesis xs.1 >>= λ z. Ok (xs.0, z.1)) (if_lawful (next_is_sign signs.CloseParenthesis) (sign_steady signs.CloseParenthesis) (ok_lawful []) law) closes

-- these tokens begin what is after the "(" of parameters, and so many are after it at the most
Opened : ℕ → Tokens → Type 0
Opened n [] = ⊥
Opened n ((m, p) ∷ s) = Passed n ((m, p) ∷ s) ⊎ ((is_sign signs.CloseParenthesis m ≡ true) × (length s ≤ n))

word_no_sign : (s : Sign) (m : Meaning) (k : Primitive) → primitive m ≡ Some k → is_sign s m ≡ false
unfolding primitive is_sign
word_no_sign s (sign x) k h = absurd (no_some k h)
word_no_sign s m k h = refl

passed_no_sign : (o : Sign) (n : ℕ) (s : Tokens) → Passed n s → next_is_sign o s ≡ false
unfolding next_is_sign is_sign
passed_no_sign o n _ (name_passed text p s l) = refl
passed_no_sign o n _ (word_passed m p k s e l) = word_no_sign o m k e
passed_no_sign o n _ (array_passed p s l) = refl

closed_takes : {A : Type 0} {some : Tokens → ParseResult (List A)} → Takes Passed some → Takes Opened (closed some)
unfolding Opened next_is_sign expect_at
closed_takes {A} {some} takes = record { taken = by_opened }
  where
    by_opened : (n : ℕ) (s : Tokens) → Opened n s → Past n (closed some s)
    by_opened n [] b = absurd b
    by_opened n ((m, p) ∷ s) (inr b) = rw (b.0, b.0) b.1
    by_opened n ((m, p) ∷ s) (inl b) =
        rw (passed_no_sign signs.CloseParenthesis n ((m, p) ∷ s) b)
        (bind_past (λ xs. expect_at signs.CloseParenthesis xs.1 >>= λ z. Ok (xs.0, z.1)) n (some ((m, p) ∷ s)) (takes.taken n ((m, p) ∷ s) b) (λ xs r k. (closes xs).stays n r k))

some_parameters : Tokens → ParseResult (List Parameter)
some_parameters s = parameter_at s >>= λ x. put x.0 (more_parameters_at x.1)

some_parameters_lawful : Lawful some_parameters
unfolding some_parameters
some_parameters_lawful = bind_lawful _ parameter_lawful λ x. put_lawful x more_parameters_lawful

some_parameters_takes : Takes Passed some_parameters
unfolding some_parameters parameter_at
some_parameters_takes = bind_takes _ (bind_takes _ type_takes after_parameter) (λ x. put_lawful x more_parameters_lawful)

pub parameters_lawful : Lawful parameters_at
unfolding parameters_at parameter_list_at some_parameters
parameters_lawful = bind_lawful _ (expect_lawful signs.OpenParenthesis) λ o. closed_lawful some_parameters_lawful

pub body_lawful : Lawful body_at
unfolding body_at
body_lawful = block_lawful max_depth within (nested_lawful max_depth within)

globals_lawful : Lawful globals_at
unfolding globals_at
globals_lawful = declared_lawful max_depth within

-- after the name: the parameters of a function, by the next three tokens
opens_function : Tokens → Bool
opens_function s = cond (next_is_sign signs.OpenParenthesis s) (cond (is_vars (without_first s)) true (opens_body (without_first s))) false

opens_sign : (m : Meaning) (p : Position) (s : Tokens) → opens_function ((m, p) ∷ s) ≡ true → m ≡ sign signs.OpenParenthesis
unfolding opens_function next_is_sign
opens_sign m p s h = by_sign (is_sign signs.OpenParenthesis m) refl h
  where
    by_sign : (v : Bool) → is_sign signs.OpenParenthesis m ≡ v → cond v (cond (is_vars (without_first ((m, p) ∷ s))) true (opens_body (without_first ((m, p) ∷ s)))) false ≡ true → m ≡ sign signs.OpenParenthesis
    by_sign true e h = sign_is signs.OpenParenthesis m e
    by_sign false e h = absurd (no_true h)

brace_steady : (a t : Meaning × Position) (more other prefix : Tokens) → opens_body (a ∷ prefix ++ t ∷ more) ≡ opens_body (a ∷ prefix ++ t ∷ other)
unfolding opens_body
brace_steady (m, p) t more other prefix = rw (sign_steady signs.OpenBrace t more other prefix) refl

-- after the "(" where tokens that are the same up to `t` differ in what decides for a function, `t` is taken
body_opened : (t : Meaning × Position) (more other prefix : Tokens) → (opens_body (prefix ++ t ∷ more) ≡ opens_body (prefix ++ t ∷ other) → ⊥) → Opened (length more) (prefix ++ t ∷ more)
unfolding opens_body Opened
body_opened (m, p) more other [] differs = inr (by_sign (is_sign signs.CloseParenthesis m) differs, omega arith)
  where
    by_sign : (v : Bool) → (cond v (next_is_sign signs.OpenBrace more) false ≡ cond v (next_is_sign signs.OpenBrace other) false → ⊥) → v ≡ true
    by_sign true d = refl
    by_sign false d = absurd (d refl)
body_opened t more other (a ∷ prefix) differs = absurd (differs (brace_steady a t more other prefix))

passed_opened : (n : ℕ) (s : Tokens) → Passed n s → Opened n s
unfolding Opened
passed_opened n _ (name_passed text p s l) = inl (name_passed text p s l)
passed_opened n _ (word_passed m p k s e l) = inl (word_passed m p k s e l)
passed_opened n _ (array_passed p s l) = inl (array_passed p s l)

parameters_opened : (t : Meaning × Position) (more other prefix : Tokens) → (cond (is_vars (prefix ++ t ∷ more)) true (opens_body (prefix ++ t ∷ more)) ≡ cond (is_vars (prefix ++ t ∷ other)) true (opens_body (prefix ++ t ∷ other)) → ⊥) → Opened (length more) (prefix ++ t ∷ more)
parameters_opened t more other prefix differs = by_vars (is_vars s) (is_vars r) refl refl differs
  where
    s : Tokens
    s = prefix ++ t ∷ more

    r : Tokens
    r = prefix ++ t ∷ other

    by_vars : (v w : Bool) → is_vars s ≡ v → is_vars r ≡ w → (cond v true (opens_body s) ≡ cond w true (opens_body r) → ⊥) → Opened (length more) s
    by_vars true true e k d = absurd (d refl)
    by_vars true false e k d = passed_opened (length more) s (differ_passed t more other prefix (differs_on (is_vars s) (is_vars r) e k))
    by_vars false true e k d = passed_opened (length more) s (differ_passed t more other prefix (differs_off (is_vars s) (is_vars r) e k))
    by_vars false false e k d = body_opened t more other prefix d

-- a reader that reads parameters or arguments after a "("
module _ {A : Type 0} (read inside : Tokens → ParseResult A) (opened : (p : Position) (s : Tokens) → read ((sign signs.OpenParenthesis, p) ∷ s) ≡ inside s) (law : Lawful inside) (takes : Takes Opened inside) where
  takes_open : (m : Meaning) (p : Position) (n : ℕ) (s : Tokens) → m ≡ sign signs.OpenParenthesis → Past n (inside s) → Past n (read ((m, p) ∷ s))
  takes_open m p n s e l = subst (λ w. Past n (read ((w, p) ∷ s))) (sym e) (subst (λ x. Past n x) (sym (opened p s)) l)

  -- what decides for a function is taken
  takes_deciding : (t : Meaning × Position) (more other seen prefix : Tokens) → opens_function (prefix ++ t ∷ seen) ≡ true → (opens_function (prefix ++ t ∷ more) ≡ opens_function (prefix ++ t ∷ other) → ⊥) → Past (length more) (read (prefix ++ t ∷ more))
  unfolding opens_function next_is_sign without_first
  takes_deciding (m, p) more other seen [] h differs = takes_open m p (length more) more (opens_sign m p seen h) (law.stays (length more) more (omega arith))
  takes_deciding t more other seen ((m, p) ∷ prefix) h differs =
      takes_open m p (length more) (prefix ++ t ∷ more) (opens_sign m p (prefix ++ t ∷ seen) h)
      (takes.taken (length more) (prefix ++ t ∷ more) (parameters_opened t more other prefix (λ e. differs (ap (λ v. cond (is_sign signs.OpenParenthesis m) v false) e))))

-- a function's parameters and its body, after its name
abbrev function_by : Option Named → List ℕ × Position → ParseResult (List Parameter) → ParseResult Function
function_by r n o = o >>= λ xs. body_at xs.1 >>= λ b. Ok (record { place = n.1; result = r; name = n.0; parameters = xs.0; body = b.0 }, b.1)

after_parameters : (r : Option Named) (n : List ℕ × Position) (xs : List Parameter) → Lawful {A = Function} (λ s. body_at s >>= λ b. Ok (record { place = n.1; result = r; name = n.0; parameters = xs; body = b.0 }, b.1))
after_parameters r n xs = bind_lawful _ body_lawful λ b. ok_lawful (record { place = n.1; result = r; name = n.0; parameters = xs; body = b })

-- the variables, after the name of the first of them
abbrev globals_by : Named → List ℕ × Position → ParseResult Initializer → ParseResult Vars
globals_by t n o =
    (((o >>= λ i. Ok (record { place = n.1; name = n.0; initializer = i.0 }, i.1)) >>= λ d. put d.0 (more_decls_with (below_at max_depth) d.1)) >>= λ ds. Ok (record { of = t; decls = ds.0 }, ds.1))
    >>= λ v. expect_at signs.Semicolon v.1 >>= λ z. Ok (v.0, z.1)

module _ (t : Named) (n : List ℕ × Position) where
  first_decl : (i : Initializer) → Lawful {A = Decl} (λ s. Ok (record { place = n.1; name = n.0; initializer = i }, s))
  first_decl i = ok_lawful (record { place = n.1; name = n.0; initializer = i })

  more_after : (d : Decl) → Lawful (λ s. put d (more_decls_with (below_at max_depth) s))
  more_after d = put_lawful d (more_decls_lawful max_depth within)

  all_decls : (ds : List Decl) → Lawful {A = Vars} (λ s. Ok (record { of = t; decls = ds }, s))
  all_decls ds = ok_lawful (record { of = t; decls = ds })

  end_after : (v : Vars) → Lawful (λ s. expect_at signs.Semicolon s >>= λ z. Ok (v, z.1))
  end_after v = bind_lawful _ (expect_lawful signs.Semicolon) λ z. ok_lawful v

  globals_by_lawful : {read : Tokens → ParseResult Initializer} → Lawful read → Lawful (λ s. globals_by t n (read s))
  globals_by_lawful law = bind_lawful _ (bind_lawful _ (bind_lawful _ (bind_lawful _ law first_decl) more_after) all_decls) end_after

  globals_by_takes : {P : ℕ → Tokens → Type 0} {read : Tokens → ParseResult Initializer} → Takes P read → Takes P (λ s. globals_by t n (read s))
  globals_by_takes takes = bind_takes _ (bind_takes _ (bind_takes _ (bind_takes _ takes first_decl) more_after) all_decls) end_after

abbrev some_exprs : Tokens → ParseResult (List Expr)
some_exprs s = below_at max_depth true s >>= λ e. put e.0 (more_exprs_with (below_at max_depth) e.1)

more_of : (e : Expr) → Lawful (λ s. put e (more_exprs_with (below_at max_depth) s))
more_of e = put_lawful e (more_exprs_lawful max_depth within (below_lawful max_depth within))

some_exprs_lawful : Lawful some_exprs
some_exprs_lawful = bind_lawful (λ e. put e.0 (more_exprs_with (below_at max_depth) e.1)) (below_lawful max_depth within true) more_of

some_exprs_takes : Takes Passed some_exprs
some_exprs_takes = bind_takes (λ e. put e.0 (more_exprs_with (below_at max_depth) e.1)) (room_takes 63 (omega arith)) more_of

module _ {B : Type 0} (of_function : Function → B) (of_globals : Vars → B) where
  abbrev on : Option Named → List ℕ × Position → ParseResult (List Parameter) → ParseResult B
  on r n o = function_by r n o >>= λ f. Ok (of_function f.0, f.1)

  abbrev off : Named → List ℕ × Position → ParseResult Initializer → ParseResult B
  off t n o = globals_by t n o >>= λ v. Ok (of_globals v.0, v.1)

  on_lawful : (r : Option Named) (n : List ℕ × Position) {read : Tokens → ParseResult (List Parameter)} → Lawful read → Lawful (λ s. on r n (read s))
  on_lawful r n law = bind_lawful _ (bind_lawful _ law (after_parameters r n)) λ f. ok_lawful (of_function f)

  on_takes : (r : Option Named) (n : List ℕ × Position) {P : ℕ → Tokens → Type 0} {read : Tokens → ParseResult (List Parameter)} → Takes P read → Takes P (λ s. on r n (read s))
  on_takes r n takes = bind_takes _ (bind_takes _ takes (after_parameters r n)) λ f. ok_lawful (of_function f)

  off_lawful : (t : Named) (n : List ℕ × Position) {read : Tokens → ParseResult Initializer} → Lawful read → Lawful (λ s. off t n (read s))
  off_lawful t n law = bind_lawful _ (globals_by_lawful t n law) λ v. ok_lawful (of_globals v)

  off_takes : (t : Named) (n : List ℕ × Position) {P : ℕ → Tokens → Type 0} {read : Tokens → ParseResult Initializer} → Takes P read → Takes P (λ s. off t n (read s))
  off_takes t n takes = bind_takes _ (globals_by_takes t n takes) λ v. ok_lawful (of_globals v)

  abbrev made : Tokens → ParseResult Initializer
  made s = closed some_exprs s >>= λ es. Ok (Arguments es.0, es.1)

  made_lawful : Lawful made
  made_lawful = bind_lawful {read = closed some_exprs} (λ es. Ok (Arguments es.0, es.1)) (closed_lawful some_exprs_lawful) (λ es. ok_lawful (Arguments es))

  made_takes : Takes Opened made
  made_takes = bind_takes {read = closed some_exprs} (λ es. Ok (Arguments es.0, es.1)) (closed_takes some_exprs_takes) (λ es. ok_lawful (Arguments es))

  on_opened : (r : Option Named) (n : List ℕ × Position) (p : Position) (s : Tokens) → on r n (parameters_at ((sign signs.OpenParenthesis, p) ∷ s)) ≡ on r n (closed some_parameters s)
  unfolding parameters_at parameter_list_at some_parameters expect_at is_sign same_sign
  on_opened r n p s = refl

  off_opened : (t : Named) (n : List ℕ × Position) (p : Position) (s : Tokens) → off t n (initializer_with (below_at max_depth) ((sign signs.OpenParenthesis, p) ∷ s)) ≡ off t n (made s)
  unfolding initializer_with arguments_with exprs_with next_is_sign expect_at is_sign same_sign
  off_opened t n p s = refl

  function_decided : (t : Named) (n : List ℕ × Position) (a : Meaning × Position) (more other seen prefix : Tokens) → opens_function (prefix ++ a ∷ seen) ≡ true → (opens_function (prefix ++ a ∷ more) ≡ opens_function (prefix ++ a ∷ other) → ⊥) → Past (length more) (on (Some t) n (parameters_at (prefix ++ a ∷ more)))
  function_decided t n = takes_deciding (λ s. on (Some t) n (parameters_at s)) (λ s. on (Some t) n (closed some_parameters s)) (on_opened (Some t) n) (on_lawful (Some t) n {read = closed some_parameters} (closed_lawful some_parameters_lawful)) (on_takes (Some t) n {read = closed some_parameters} (closed_takes some_parameters_takes))

  globals_decided : (t : Named) (n : List ℕ × Position) (a : Meaning × Position) (more other seen prefix : Tokens) → opens_function (prefix ++ a ∷ seen) ≡ true → (opens_function (prefix ++ a ∷ more) ≡ opens_function (prefix ++ a ∷ other) → ⊥) → Past (length more) (off t n (initializer_with (below_at max_depth) (prefix ++ a ∷ more)))
  globals_decided t n = takes_deciding (λ s. off t n (initializer_with (below_at max_depth) s)) (λ s. off t n (made s)) (off_opened t n) (off_lawful t n {read = made} made_lawful) (off_takes t n {read = made} made_takes)

  -- what opens a body decides for a function
  decided_crosses : (t : Named) (n : List ℕ × Position) → Crosses opens_function (λ s. on (Some t) n (parameters_at s)) (λ s. off t n (initializer_with (below_at max_depth) s))
  decided_crosses t n a more other prefix = (
    λ h k. past (function_decided t n a more other more prefix h (differs_on (opens_function (prefix ++ a ∷ more)) (opens_function (prefix ++ a ∷ other)) h k)) (globals_decided t n a other more more prefix h (λ e. differs_on (opens_function (prefix ++ a ∷ more)) (opens_function (prefix ++ a ∷ other)) h k (sym e))),
    λ h k. past (globals_decided t n a more other other prefix k (differs_off (opens_function (prefix ++ a ∷ more)) (opens_function (prefix ++ a ∷ other)) h k)) (function_decided t n a other more other prefix k (λ e. differs_off (opens_function (prefix ++ a ∷ more)) (opens_function (prefix ++ a ∷ other)) h k (sym e))),
  )

  -- after its type, a function or variables
  abbrev named : Named → Tokens → ParseResult B
  named t s = name_at s >>= λ n. cond (opens_function n.1) (on (Some t) n.0 (parameters_at n.1)) (off t n.0 (initializer_with (below_at max_depth) n.1))

  after_name : (t : Named) (n : List ℕ × Position) → Lawful (λ s. cond (opens_function s) (on (Some t) n (parameters_at s)) (off t n (initializer_with (below_at max_depth) s)))
  after_name t n = choice_lawful opens_function (decided_crosses t n) (on_lawful (Some t) n {read = parameters_at} parameters_lawful) (off_lawful t n {read = initializer_with (below_at max_depth)} (initializer_lawful max_depth within))

  named_lawful : (t : Named) → Lawful (named t)
  named_lawful t = bind_lawful {read = name_at} (λ n. cond (opens_function n.1) (on (Some t) n.0 (parameters_at n.1)) (off t n.0 (initializer_with (below_at max_depth) n.1))) name_lawful (after_name t)

  -- after a type that was read, or where none was
  abbrev on_type : ParseResult Named → ParseResult B
  on_type o = ((o >>= λ t. Ok (Some t.0, t.1)) >>= λ r. name_at r.1 >>= λ n. function_by r.0 n.0 (parameters_at n.1)) >>= λ f. Ok (of_function f.0, f.1)

  abbrev off_type : ParseResult Named → ParseResult B
  off_type o = ((o >>= λ t. decls_with (below_at max_depth) t.1 >>= λ ds. Ok (record { of = t.0; decls = ds.0 }, ds.1)) >>= λ v. expect_at signs.Semicolon v.1 >>= λ z. Ok (v.0, z.1)) >>= λ v. Ok (of_globals v.0, v.1)

  one_of : (b : Bool) (o : ParseResult B) → cond b o o ≡ o
  one_of true o = refl
  one_of false o = refl

  by_names : (t : Named) (s : Tokens) → cond (names_function s) (on_type (Ok (t, s))) (off_type (Ok (t, s))) ≡ named t s
  unfolding names_function next_is_name is_name name_at decls_with decl_with opens_function without_first
  by_names t [] = refl
  by_names t ((name text, p) ∷ s) = refl
  by_names t ((number n, p) ∷ s) = refl
  by_names t ((sign n, p) ∷ s) = refl
  by_names t ((reserved n, p) ∷ s) = refl
  by_names t ((unsupported n, p) ∷ s) = refl

  by_next : (t : Named) (s : Tokens) → cond (cond (next_is_sign signs.Handle s) (names_function (without_first s)) (names_function s)) (on_type (Ok (t, s))) (off_type (Ok (t, s))) ≡ named t s
  unfolding names_function next_is_name is_name name_at decls_with decl_with opens_function next_is_sign is_sign without_first
  by_next t [] = refl
  by_next t ((name text, p) ∷ s) = refl
  by_next t ((number n, p) ∷ s) = refl
  by_next t ((sign n, p) ∷ s) = one_of (cond (same_sign signs.Handle n) (names_function s) (names_function ((sign n, p) ∷ s))) (Err (Unexpected ((sign n, p) ∷ s)))
  by_next t ((reserved n, p) ∷ s) = refl
  by_next t ((unsupported n, p) ∷ s) = refl

  by_handle : (v : Bool) (plain handle : Named) (q : Position) (m : Meaning) (s : Tokens) →
      cond (cond v (names_function s) (names_function ((m, q) ∷ s))) (on_type (cond v (cond v (Ok (q, s)) (Err (Unexpected ((m, q) ∷ s))) >>= λ h. Ok (handle, h.1)) (Ok (plain, (m, q) ∷ s)))) (off_type (cond v (cond v (Ok (q, s)) (Err (Unexpected ((m, q) ∷ s))) >>= λ h. Ok (handle, h.1)) (Ok (plain, (m, q) ∷ s))))
      ≡ (cond v (cond v (Ok (q, s)) (Err (Unexpected ((m, q) ∷ s))) >>= λ h. Ok (handle, h.1)) (Ok (plain, (m, q) ∷ s)) >>= λ t. named t.0 t.1)
  by_handle true plain handle q m s = by_names handle s
  by_handle false plain handle q m s = by_names plain ((m, q) ∷ s)

  -- after what is a type with an "@" or without one
  by_handles : (plain handle : Named) (s : Tokens) → cond (handle_names_function s) (on_type (handle_by plain handle s)) (off_type (handle_by plain handle s)) ≡ (handle_by plain handle s >>= λ t. named t.0 t.1)
  unfolding handle_names_function next_is_sign expect_at without_first
  by_handles plain handle [] = by_names plain []
  by_handles plain handle ((m, q) ∷ s) = by_handle (is_sign signs.Handle m) plain handle q m s

  abbrev array_by : Position → ParseResult Element → ParseResult Named
  array_by p o = o >>= λ e. handle_by (Array p e.0) (ArrayHandle p e.0) e.1

  by_element : (p : Position) (o : ParseResult Element) → cond (array_names_function (left_of o)) (on_type (array_by p o)) (off_type (array_by p o)) ≡ (array_by p o >>= λ t. named t.0 t.1)
  by_element p (Ok e) = by_handles (Array p e.0) (ArrayHandle p e.0) e.1
  by_element p (Err h) = refl

  by_array : (p : Position) (s : Tokens) → cond (array_names_function (after_element s)) (on_type (array_by p (element_at s))) (off_type (array_by p (element_at s))) ≡ (array_by p (element_at s) >>= λ t. named t.0 t.1)
  by_array p s = subst (λ v. cond (array_names_function v) (on_type (array_by p (element_at s))) (off_type (array_by p (element_at s))) ≡ (array_by p (element_at s) >>= λ t. named t.0 t.1)) (sym (passed_is_read s)) (by_element p (element_at s))

  by_plain : (t : Named) (s : Tokens) → cond (handle_names_function s) (on_type (Ok (t, s))) (off_type (Ok (t, s))) ≡ named t s
  unfolding handle_names_function
  by_plain t s = by_next t s

  by_kind : (k : Option Primitive) (m : Meaning) (p : Position) (s : Tokens) → primitive m ≡ k → cond (cond (is_array m) (array_names_function (after_element s)) (handle_names_function s)) (on_type (type_by k m p s)) (off_type (type_by k m p s)) ≡ (type_by k m p s >>= λ t. named t.0 t.1)
  unfolding is_array
  by_kind (Some k) m p s g = rw (word_no_array m k g) (by_plain (Prim p k) s)
  by_kind None (name text) p s g = by_handles (Object p text) (Handle p text) s
  by_kind None (number n) p s g = one_of (handle_names_function s) (Err (Unexpected ((number n, p) ∷ s)))
  by_kind None (sign n) p s g = one_of (handle_names_function s) (Err (Unexpected ((sign n, p) ∷ s)))
  by_kind None (reserved words.Array) p s g = by_array p s
  by_kind None (reserved n) p s g = one_of (handle_names_function s) (Err (Unexpected ((reserved n, p) ∷ s)))
  by_kind None (unsupported n) p s g = one_of (handle_names_function s) (Err (Unexpected ((unsupported n, p) ∷ s)))

  -- a function or variables, whichever the tokens begin
  abbrev pub either : Tokens → ParseResult B
  either s = cond (is_function s) (function_at s >>= λ f. Ok (of_function f.0, f.1)) (globals_at s >>= λ v. Ok (of_globals v.0, v.1))

  abbrev of_void : Tokens → ParseResult B
  of_void s = (name_at s >>= λ n. function_by None n.0 (parameters_at n.1)) >>= λ f. Ok (of_function f.0, f.1)

  either_by : Tokens → ParseResult B
  either_by [] = Err (Unexpected [])
  either_by ((m, p) ∷ s) = cond (is_void m) (of_void s) (type_at ((m, p) ∷ s) >>= λ t. named t.0 t.1)

  by_void : (v : Bool) (m : Meaning) (p : Position) (s : Tokens) →
      cond (cond v true (cond (is_array m) (array_names_function (after_element s)) (handle_names_function s)))
      ((cond v (Ok (None, s)) (type_by (primitive m) m p s >>= λ t. Ok (Some t.0, t.1)) >>= λ r. name_at r.1 >>= λ n. function_by r.0 n.0 (parameters_at n.1)) >>= λ f. Ok (of_function f.0, f.1))
      (off_type (type_by (primitive m) m p s))
      ≡ cond v (of_void s) (type_by (primitive m) m p s >>= λ t. named t.0 t.1)
  by_void true m p s = refl
  by_void false m p s = by_kind (primitive m) m p s refl

  same_either : (s : Tokens) → either s ≡ either_by s
  unfolding either_by is_function function_at result_type_at globals_at vars_statement_with vars_with type_at
  same_either [] = refl
  same_either ((m, p) ∷ s) = by_void (is_void m) m p s

  void_lawful : Lawful of_void
  void_lawful = bind_lawful _ (bind_lawful {read = name_at} (λ n. function_by None n.0 (parameters_at n.1)) name_lawful λ n. bind_lawful _ parameters_lawful (after_parameters None n)) λ f. ok_lawful (of_function f)

  typed_lawful : Lawful (λ s. type_at s >>= λ t. named t.0 t.1)
  typed_lawful = bind_lawful {read = type_at} (λ t. named t.0 t.1) type_lawful named_lawful

  pub either_lawful : Lawful either
  unfolding either_by
  either_lawful = alike same_either (led_lawful {read = either_by} (λ n. omega arith) (λ m p. led_if (is_void m) (λ e. led_after (void_no_array m e) void_lawful) (led_from {read = λ s. type_at s >>= λ t. named t.0 t.1} typed_lawful)))

  pub either_takes : (text : List ℕ) (p : Position) (n : ℕ) (s : Tokens) → length s ≤ n → Past n (either ((name text, p) ∷ s))
  unfolding either_by is_void
  either_takes text p n s l = subst (λ x. Past n x) (sym (same_either ((name text, p) ∷ s))) ((bind_takes {read = type_at} (λ t. named t.0 t.1) type_takes named_lawful).taken n ((name text, p) ∷ s) (name_passed text p s l))
