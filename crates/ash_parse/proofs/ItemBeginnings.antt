-- The first tokens of an item or a member decide which it is.
use Rattle.std.proofs.Common.{◌≡◌, ℕ, List, [], ◌∷◌, true, false, Option, Some, refl}
use Rattle.ash_lex.specs.Tokens.{Meaning, name, sign, reserved}
use Rattle.ash_lex.specs.declared.signs.Sign.TheVariants as signs
use Rattle.ash_lex.specs.declared.words.ReservedWord.TheVariants as words
use Rattle.ash_tree.specs.declared.tree.places.Position.{Position}
use Rattle.ash_tree.specs.declared.tree.types.Primitive.{Primitive}
use Rattle.ash_tree.specs.Tree.{Named, Expr, Decl, Vars, Stmt, Parameter, Function, Member, InterfaceMethod, Item}
use Rattle.ash_tree.specs.GrammarTokens.{Tokens}
use Rattle.ash_tree.specs.Operators.{primitive, unary_operator}
use Rattle.ash_tree.specs.Expressions.{AreExprs, no_exprs, some_exprs, args}
use Rattle.ash_tree.specs.Types.{IsType, prim, object, handle, array, array_handle}
use Rattle.ash_tree.specs.Statements.{IsDecl, bare, valued, made, IsVars, vars, IsBlock, block}
use Rattle.ash_tree.specs.Grammar.{IsResultType, void, typed, IsParameter, parameter, AreParameters, no_parameters, parameters, IsFunction, function, IsMember, method, fields, constructor, class, IsItem, a_class, a_function, globals, IsInterfaceMethod, interface_method, interface, an_interface}
use Rattle.ash_parse.specs.SignTokens.{is_sign, same_sign}
use Rattle.ash_parse.specs.Readers.{next_is, next_is_sign}
use Rattle.ash_parse.specs.ExpressionReader.{begins}
use Rattle.ash_parse.specs.TypeReader.{is_array}
use Rattle.ash_parse.specs.StatementReader.{is_name, next_is_name, is_vars, goes_on, stmt_token}
use Rattle.ash_parse.specs.ItemReader.{is_void, is_class, without_first, opens_body, names_function, handle_names_function, is_function, is_constructor, is_left, is_interface}
use Rattle.ash_parse.proofs.Rereading.{no_some, no_true}
use Rattle.ash_parse.proofs.ExpressionBounds.{Closes, begins_no_close, inner_begins, more_end}
use Rattle.ash_parse.proofs.Elements.{element_passed}
use Rattle.ash_parse.proofs.VarsComplete.{Next, Done, ends_follow, inner_no_vars, type_begins, type_vars, decl_begins, decls_next, next_ends, ends_decl}
use Rattle.ash_parse.proofs.StatementComplete.{starts_no_semicolon, starts_further}

-- neither a class, an interface nor a ";" is next, and an item or a member is
abbrev pub Beginnings : Tokens → Type 0
Beginnings ts = (next_is is_class ts ≡ false) × (next_is_sign signs.Semicolon ts ≡ false) × (is_left ts ≡ true) × (goes_on ts ≡ true) × (next_is is_interface ts ≡ false)

begins_heads_at : (m : Meaning) → begins m ≡ true → (is_class m ≡ false) × (is_void m ≡ false) × (is_interface m ≡ false)
unfolding begins is_class is_void is_interface primitive unary_operator
begins_heads_at (reserved words.Class) h = absurd (no_true h)
begins_heads_at (reserved words.Void) h = absurd (no_true h)
begins_heads_at (reserved words.Interface) h = absurd (no_true h)
begins_heads_at m h = (refl, refl, refl)

pub begins_all : (ts : Tokens) → next_is begins ts ≡ true → Beginnings ts
unfolding is_left
begins_all [] h = absurd (no_true h)
begins_all ((m, p) ∷ ts) h = ((begins_heads_at m h).0, starts_no_semicolon ((m, p) ∷ ts) h, refl, (starts_further ((m, p) ∷ ts) h).0, (begins_heads_at m h).2)

pub begins_no_void : (ts : Tokens) → next_is begins ts ≡ true → next_is is_void ts ≡ false
begins_no_void [] h = refl
begins_no_void ((m, p) ∷ ts) h = (begins_heads_at m h).1

result_heads : {from left : Tokens} {r : Option Named} → IsResultType from r left → Beginnings from
unfolding is_left is_class is_interface next_is_sign is_sign same_sign goes_on stmt_token
result_heads void = (refl, refl, refl, refl, refl)
result_heads (typed {from = from} t) = begins_all from (type_begins t)

pub function_heads : {free : ℕ} {from left : Tokens} {f : Function} → IsFunction free from f left → Beginnings from
function_heads (function r p b) = result_heads r

pub vars_heads : {free depth : ℕ} {from left : Tokens} {v : Vars} → IsVars free depth from v left → Beginnings from
vars_heads (vars {from = from} t a b) = begins_all from (type_begins t)

pub member_goes : {free : ℕ} {from left : Tokens} {x : Member} → IsMember free from x left → goes_on from ≡ true
unfolding goes_on stmt_token
member_goes (method f) = (function_heads f).3
member_goes (fields v) = (vars_heads v).3
member_goes (constructor p b) = refl

pub interface_method_goes : {from left : Tokens} {x : InterfaceMethod} → IsInterfaceMethod from x left → goes_on from ≡ true
interface_method_goes (interface_method r p) = (result_heads r).3

pub item_heads : {free : ℕ} {from left : Tokens} {x : Item} → IsItem free from x left → (next_is_sign signs.Semicolon from ≡ false) × (is_left from ≡ true)
unfolding next_is_sign is_sign same_sign is_left
item_heads (a_class (class is ms)) = (refl, refl)
item_heads (an_interface (interface ms)) = (refl, refl)
item_heads (a_function f) = let q = function_heads f in (q.1, q.2)
item_heads (globals v) = let q = vars_heads v in (q.1, q.2)

primitive_token : (m : Meaning) (k : Primitive) → primitive m ≡ Some k → (is_void m ≡ false) × (is_name m ≡ false) × (is_array m ≡ false)
unfolding primitive is_void is_name is_array
primitive_token (reserved words.Void) k h = absurd (no_some k h)
primitive_token (name t) k h = absurd (no_some k h)
primitive_token (reserved words.Array) k h = absurd (no_some k h)
primitive_token m k h = (refl, refl, refl)

-- after a type, its name and what follows decide whether this is a function
typed_function : {from left : Tokens} {t : Named} → IsType from t left → next_is_sign signs.Handle left ≡ false → is_function from ≡ names_function left
unfolding is_function is_void is_array handle_names_function without_first next_is_sign is_sign same_sign
typed_function (prim {m = m} {k = k} g) s = rw ((primitive_token m k g).0, (primitive_token m k g).2, s) refl
typed_function object s = rw s refl
typed_function handle s = refl
typed_function (array a) s = rw (element_passed a, s) refl
typed_function (array_handle a) s = rw (element_passed a) refl

block_opens : {free depth : ℕ} {from left : Tokens} {ss : List Stmt} → IsBlock free depth from ss left → next_is_sign signs.OpenBrace from ≡ true
unfolding next_is_sign is_sign same_sign
block_opens (block a) = refl

parameter_vars : {from left : Tokens} {x : Parameter} → IsParameter from x left → is_vars from ≡ true
unfolding next_is_name is_name
parameter_vars (parameter t) = type_vars t refl

names_parameters : (text : List ℕ) (p : Position) {from left : Tokens} {xs : List Parameter} → AreParameters from xs left → next_is_sign signs.OpenBrace left ≡ true → names_function ((name text, p) ∷ from) ≡ true
unfolding names_function next_is_name is_name is_array without_first next_is_sign is_sign same_sign opens_body is_vars primitive
names_parameters text p no_parameters s = s
names_parameters text p (parameters a b) s = rw (parameter_vars a) refl

name_no_handle : (text : List ℕ) (p : Position) (ts : Tokens) → next_is_sign signs.Handle ((name text, p) ∷ ts) ≡ false
unfolding next_is_sign is_sign
name_no_handle text p ts = refl

name_no_open : (text : List ℕ) (p : Position) (ts : Tokens) → next_is_sign signs.OpenParenthesis ((name text, p) ∷ ts) ≡ false
unfolding next_is_sign is_sign
name_no_open text p ts = refl

-- each function is recognized by its first tokens
pub function_function : {free : ℕ} {from left : Tokens} {f : Function} → IsFunction free from f left → is_function from ≡ true
unfolding is_function is_void
function_function (function void b c) = refl
function_function (function {p = p} {text = text} {after = after} (typed t) b c) = rw (typed_function t (name_no_handle text p after)) (names_parameters text p b (block_opens c))

close_opens_no_body : (m : Meaning) (p : Position) (ts : Tokens) → is_sign signs.CloseParenthesis m ≡ true → next_is_sign signs.OpenBrace ts ≡ false → (is_vars ((m, p) ∷ ts) ≡ false) × (opens_body ((m, p) ∷ ts) ≡ false)
unfolding is_sign same_sign is_vars primitive is_name is_array opens_body
close_opens_no_body (sign signs.CloseParenthesis) p ts h s = (refl, s)
close_opens_no_body m p ts h s = absurd (no_true h)

none_opens : (left : Tokens) → Closes left → next_is_sign signs.OpenBrace (without_first left) ≡ false → (is_vars left ≡ false) × (opens_body left ≡ false)
unfolding next_is_sign without_first
none_opens [] h s = absurd (no_true h)
none_opens ((m, p) ∷ ts) h s = close_opens_no_body m p ts h s

no_close_no_body : (ts : Tokens) → next_is_sign signs.CloseParenthesis ts ≡ false → opens_body ts ≡ false
unfolding next_is_sign opens_body
no_close_no_body [] h = refl
no_close_no_body ((m, p) ∷ ts) h = rw h refl

-- arguments are no parameters
exprs_no_function : {free depth : ℕ} {from left : Tokens} {es : List Expr} → AreExprs free depth from es left → Closes left → next_is_sign signs.OpenBrace (without_first left) ≡ false → (is_vars from ≡ false) × (opens_body from ≡ false)
exprs_no_function (no_exprs {left = left}) c s = none_opens left c s
exprs_no_function (some_exprs {from = from} {after = next} a b) c s = (inner_no_vars a (ends_follow next (more_end b c)), no_close_no_body from (begins_no_close from (inner_begins a)))

next_no_brace_at : (m : Meaning) → ends_decl m ≡ true → is_sign signs.OpenBrace m ≡ false
unfolding ends_decl is_sign same_sign
next_no_brace_at (sign signs.OpenBrace) h = absurd (no_true h)
next_no_brace_at m h = refl

next_no_brace : (left : Tokens) → Next left → next_is_sign signs.OpenBrace left ≡ false
unfolding next_is_sign
next_no_brace [] h = refl
next_no_brace ((m, p) ∷ ts) h = next_no_brace_at m h

decl_no_function : {free depth : ℕ} {from left : Tokens} {d : Decl} → IsDecl free depth from d left → Next left → names_function from ≡ false
unfolding names_function next_is_name is_name without_first next_is_sign is_sign same_sign
decl_no_function (bare {left = left}) s = rw ((next_ends left s).2) refl
decl_no_function (valued a) s = refl
decl_no_function (made {left = left} (args {q = q} a)) s =
    let e = exprs_no_function a refl (next_no_brace left s) in
    rw (e.0, e.1) refl

-- no declaration of variables begins as a function does
pub vars_no_function : {free depth : ℕ} {from left : Tokens} {v : Vars} → IsVars free depth from v left → Done left → is_function from ≡ false
vars_no_function (vars t a b) s = rw (typed_function t (decl_begins a).1) (decl_no_function a (decls_next b s))

typed_no_constructor : {from left : Tokens} {t : Named} → IsType from t left → next_is_sign signs.OpenParenthesis left ≡ false → is_constructor from ≡ false
unfolding is_constructor next_is_name is_name without_first next_is_sign is_sign same_sign
typed_no_constructor (prim {m = m} {k = k} g) s = rw ((primitive_token m k g).1) refl
typed_no_constructor object s = s
typed_no_constructor handle s = refl
typed_no_constructor (array a) s = refl
typed_no_constructor (array_handle a) s = refl

pub function_no_constructor : {free : ℕ} {from left : Tokens} {f : Function} → IsFunction free from f left → is_constructor from ≡ false
unfolding is_constructor next_is_name is_name
function_no_constructor (function void b c) = refl
function_no_constructor (function {p = p} {text = text} {after = after} (typed t) b c) = typed_no_constructor t (name_no_open text p after)

decl_no_open : {free depth : ℕ} {from left : Tokens} {d : Decl} → IsDecl free depth from d left → next_is_sign signs.OpenParenthesis from ≡ false
unfolding next_is_sign is_sign
decl_no_open bare = refl
decl_no_open (valued a) = refl
decl_no_open (made a) = refl

pub vars_no_constructor : {free depth : ℕ} {from left : Tokens} {v : Vars} → IsVars free depth from v left → is_constructor from ≡ false
vars_no_constructor (vars t a b) = typed_no_constructor t (decl_no_open a)

parameters_open : {from left : Tokens} {xs : List Parameter} → AreParameters from xs left → next_is_sign signs.OpenParenthesis from ≡ true
unfolding next_is_sign is_sign same_sign
parameters_open no_parameters = refl
parameters_open (parameters a b) = refl

pub constructor_constructor : (text : List ℕ) (p : Position) {from left : Tokens} {xs : List Parameter} → AreParameters from xs left → is_constructor ((name text, p) ∷ from) ≡ true
unfolding is_constructor next_is_name is_name without_first
constructor_constructor text p a = parameters_open a
