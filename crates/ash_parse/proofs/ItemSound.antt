-- What is read of modules and registered declarations is in the grammar.
use Rattle.std.proofs.Common.{◌≡◌, ℕ, List, [], ◌∷◌, Bool, true, false, cond, Some, None, Ok, refl, sym, subst, length}
use Rattle.ash_lex.specs.Tokens.{Meaning, name, sign, reserved}
use Rattle.ash_lex.specs.declared.signs.Sign.TheVariants as signs
use Rattle.ash_lex.specs.declared.words.ReservedWord.TheVariants as words
use Rattle.ash_tree.specs.declared.tree.places.Position.{Position}
use Rattle.ash_tree.specs.Tree.{TypeName, Vars, Parameter, Constructor, AMethod, AField, AConstructor, Class, Interface, Item, AClass, AnInterface, AFunction, AGlobal}
use Rattle.ash_tree.specs.GrammarTokens.{Tokens}
use Rattle.ash_tree.specs.Expressions.{max_depth}
use Rattle.ash_tree.specs.Types.{IsType}
use Rattle.ash_tree.specs.Statements.{IsVars, IsBlock}
use Rattle.ash_tree.specs.Grammar.{IsResultType, void, typed, IsParameter, parameter, AreMoreParameters, no_more_parameters, more_parameters, AreParameters, no_parameters, parameters, IsFunction, function, IsMember, method, fields, constructor, AreMembers, no_members, more_members, IsClass, class, IsItem, a_class, a_function, globals, Derives, no_items, semicolon, item, AreMoreInterfaces, no_more_interfaces, more_interfaces, AreInterfaces, no_interfaces, interfaces, IsInterfaceMethod, interface_method, AreInterfaceMethods, no_interface_methods, more_interface_methods, IsInterface, interface, an_interface}
use Rattle.ash_parse.specs.SignTokens.{is_sign}
use Rattle.ash_parse.specs.Readers.{Unexpected, ◌>>=◌, put, loop, next_is_sign, expect_at, name_at}
use Rattle.ash_parse.specs.ExpressionReader.{below_at}
use Rattle.ash_parse.specs.StatementReader.{type_at, goes_on, nested_at}
use Rattle.ash_parse.specs.ItemReader.{is_void, is_class, is_interface, result_type_at, parameter_at, next_parameter_at, more_parameters_at, parameter_list_at, parameters_at, body_at, function_at, globals_at, without_first, is_function, is_constructor, constructor_at, member_at, members_at, next_interface_at, more_interfaces_at, listed_interfaces_at, interfaces_at, class_at, interface_method_at, interface_methods_at, interface_at, other_item_at, item_at, strip, entry_at, is_left, entries_at, module_at}
use Rattle.ash_parse.proofs.Readings.{no_err, bind_ok, at_pair, if_elim, put_ok, Finds, repeat_sound, sign_is, expect_sound, name_sound}
use Rattle.ash_parse.proofs.Types.{ends_in, type_sound}
use Rattle.ash_parse.proofs.ExpressionSound.{whole_sound, part_sound}
use Rattle.ash_parse.proofs.StatementSound.{declared_sound, block_sound, nested_sound}

pub void_is : (m : Meaning) → is_void m ≡ true → m ≡ reserved words.Void
unfolding is_void
void_is (reserved words.Void) h = refl
void_is _ h = cc

pub class_is : (m : Meaning) → is_class m ≡ true → m ≡ reserved words.Class
unfolding is_class
class_is (reserved words.Class) h = refl
class_is _ h = cc

pub interface_is : (m : Meaning) → is_interface m ≡ true → m ≡ reserved words.Interface
unfolding is_interface
interface_is (reserved words.Interface) h = refl
interface_is _ h = cc

-- the name that is expected is where a phrase ends
pub names_in : (ts : Tokens) (x : List ℕ × Position) (rest : Tokens) (Q : Tokens → Type 0) → name_at ts ≡ Ok (x, rest) → Q ts → Q ((name x.0, x.1) ∷ rest)
names_in ts x rest Q h = name_sound ts x rest (λ r. Q r → Q ((name x.0, x.1) ∷ rest)) h (λ d. d)

pub result_type_sound : Finds result_type_at IsResultType
unfolding result_type_at
result_type_sound [] x rest h = absurd (no_err (Unexpected []) (x, rest) h)
result_type_sound ((m, p) ∷ ts) x rest h =
    if_elim (is_void m) (Ok (None, ts)) (type_at ((m, p) ∷ ts) >>= λ t. Ok (Some t.0, t.1)) (Ok (x, rest)) (IsResultType ((m, p) ∷ ts) x rest) h
    (λ b k. at_pair (IsResultType ((m, p) ∷ ts)) None ts x rest k (subst (λ w. IsResultType ((w, p) ∷ ts) None ts) (sym (void_is m b)) void))
    (λ b k. let t = bind_ok (type_at ((m, p) ∷ ts)) (λ t. Ok (Some t.0, t.1)) (x, rest) k in
    at_pair (IsResultType ((m, p) ∷ ts)) (Some (t.0).0) (t.0).1 x rest t.2 (typed (type_sound ((m, p) ∷ ts) (t.0).0 (t.0).1 t.1)))

parameter_sound : Finds parameter_at IsParameter
unfolding parameter_at
parameter_sound ts x rest h =
    let t = bind_ok (type_at ts) (λ t. name_at t.1 >>= λ n. Ok (record { of = t.0; place = (n.0).1; name = (n.0).0 }, n.1)) (x, rest) h in
    let n = bind_ok (name_at (t.0).1) (λ n. Ok (record { of = (t.0).0; place = (n.0).1; name = (n.0).0 }, n.1)) (x, rest) t.2 in
    at_pair (IsParameter ts) (record { of = (t.0).0; place = ((n.0).0).1; name = ((n.0).0).0 }) (n.0).1 x rest n.2 (parameter (names_in (t.0).1 (n.0).0 (n.0).1 (λ r. IsType ts (t.0).0 r) n.1 (type_sound ts (t.0).0 (t.0).1 t.1)))

pub grow_parameters : (from after left : Tokens) (x : Parameter) (xs : List Parameter) → next_parameter_at from ≡ Ok (x, after) → AreMoreParameters after xs left → AreMoreParameters from (x ∷ xs) left
unfolding next_parameter_at
grow_parameters from after left x xs h more =
    let c = bind_ok (expect_at signs.Comma from) (λ comma. parameter_at comma.1) (x, after) h in
    expect_sound signs.Comma from (c.0).0 (c.0).1 (λ r. AreMoreParameters r (x ∷ xs) left) c.1 (more_parameters (parameter_sound (c.0).1 x after c.2) more)

parameters_sound : Finds parameters_at AreParameters
unfolding parameters_at parameter_list_at more_parameters_at
parameters_sound ts x rest h =
    let o = bind_ok (expect_at signs.OpenParenthesis ts) (λ o. cond (next_is_sign signs.CloseParenthesis o.1) (Ok ([], o.1)) (parameter_at o.1 >>= λ x. put x.0 (loop (next_is_sign signs.Comma) next_parameter_at x.1)) >>= λ xs. expect_at signs.CloseParenthesis xs.1 >>= λ z. Ok (xs.0, z.1)) (x, rest) h in
    let s = (o.0).1 in
    let xs = bind_ok (cond (next_is_sign signs.CloseParenthesis s) (Ok ([], s)) (parameter_at s >>= λ x. put x.0 (loop (next_is_sign signs.Comma) next_parameter_at x.1))) (λ xs. expect_at signs.CloseParenthesis xs.1 >>= λ z. Ok (xs.0, z.1)) (x, rest) o.2 in
    let z = bind_ok (expect_at signs.CloseParenthesis (xs.0).1) (λ z. Ok ((xs.0).0, z.1)) (x, rest) xs.2 in
    let Q : List Parameter → Tokens → Type 0 = λ ys r. expect_at signs.CloseParenthesis r ≡ Ok z.0 → AreParameters ((sign signs.OpenParenthesis, (o.0).0) ∷ s) ys (z.0).1 in
    at_pair (AreParameters ts) (xs.0).0 (z.0).1 x rest z.2
    (expect_sound signs.OpenParenthesis ts (o.0).0 s (λ r. AreParameters r (xs.0).0 (z.0).1) o.1
    (if_elim (next_is_sign signs.CloseParenthesis s) (Ok ([], s)) (parameter_at s >>= λ x. put x.0 (loop (next_is_sign signs.Comma) next_parameter_at x.1)) (Ok xs.0) (Q (xs.0).0 (xs.0).1) xs.1
    (λ b k. at_pair Q [] s (xs.0).0 (xs.0).1 k (λ e. expect_sound signs.CloseParenthesis s (z.0).0 (z.0).1 (λ r. AreParameters ((sign signs.OpenParenthesis, (o.0).0) ∷ r) [] (z.0).1) e no_parameters))
    (λ b k. let f = bind_ok (parameter_at s) (λ x. put x.0 (loop (next_is_sign signs.Comma) next_parameter_at x.1)) xs.0 k in
    put_ok (f.0).0 (loop (next_is_sign signs.Comma) next_parameter_at (f.0).1) (xs.0).0 (xs.0).1 Q f.2
    (λ ys left r e. parameters (parameter_sound s (f.0).0 (f.0).1 f.1) (ends_in signs.CloseParenthesis left (z.0).0 (z.0).1 (λ l. AreMoreParameters (f.0).1 ys l) e (repeat_sound (next_is_sign signs.Comma) next_parameter_at AreMoreParameters (λ s. no_more_parameters) grow_parameters (length (f.0).1) (f.0).1 ys left r))))
    z.1))

body_sound : Finds body_at (IsBlock 0 0)
unfolding body_at
body_sound ts x rest h = block_sound 0 0 (below_at max_depth) (nested_at max_depth) (whole_sound max_depth 0 refl) (part_sound max_depth 0 refl) (nested_sound max_depth 0 refl) ts x rest h

pub function_sound : Finds function_at (IsFunction 0)
unfolding function_at
function_sound ts x rest h =
    let r = bind_ok (result_type_at ts) (λ r. name_at r.1 >>= λ n. parameters_at n.1 >>= λ xs. body_at xs.1 >>= λ b. Ok (record { place = (n.0).1; result = r.0; name = (n.0).0; parameters = xs.0; body = b.0 }, b.1)) (x, rest) h in
    let n = bind_ok (name_at (r.0).1) (λ n. parameters_at n.1 >>= λ xs. body_at xs.1 >>= λ b. Ok (record { place = (n.0).1; result = (r.0).0; name = (n.0).0; parameters = xs.0; body = b.0 }, b.1)) (x, rest) r.2 in
    let xs = bind_ok (parameters_at (n.0).1) (λ xs. body_at xs.1 >>= λ b. Ok (record { place = ((n.0).0).1; result = (r.0).0; name = ((n.0).0).0; parameters = xs.0; body = b.0 }, b.1)) (x, rest) n.2 in
    let b = bind_ok (body_at (xs.0).1) (λ b. Ok (record { place = ((n.0).0).1; result = (r.0).0; name = ((n.0).0).0; parameters = (xs.0).0; body = b.0 }, b.1)) (x, rest) xs.2 in
    at_pair (λ y l. IsFunction 0 ts y l) (record { place = ((n.0).0).1; result = (r.0).0; name = ((n.0).0).0; parameters = (xs.0).0; body = (b.0).0 }) (b.0).1 x rest b.2
    (function (names_in (r.0).1 (n.0).0 (n.0).1 (λ l. IsResultType ts (r.0).0 l) n.1 (result_type_sound ts (r.0).0 (r.0).1 r.1)) (parameters_sound (n.0).1 (xs.0).0 (xs.0).1 xs.1) (body_sound (xs.0).1 (b.0).0 (b.0).1 b.1))

globals_sound : (ts : Tokens) (x : Vars) (rest : Tokens) → globals_at ts ≡ Ok (x, rest) → (p : Position) × IsVars 0 0 ts x ((sign signs.Semicolon, p) ∷ rest)
unfolding globals_at
globals_sound ts x rest h = declared_sound 0 0 (below_at max_depth) (whole_sound max_depth 0 refl) (part_sound max_depth 0 refl) ts x rest h

constructor_sound : (ts : Tokens) (x : Constructor) (rest : Tokens) → constructor_at ts ≡ Ok (x, rest) → IsMember 0 ts (AConstructor x) rest
unfolding constructor_at
constructor_sound ts x rest h =
    let n = bind_ok (name_at ts) (λ n. parameters_at n.1 >>= λ xs. body_at xs.1 >>= λ b. Ok (record { place = (n.0).1; name = (n.0).0; parameters = xs.0; body = b.0 }, b.1)) (x, rest) h in
    let xs = bind_ok (parameters_at (n.0).1) (λ xs. body_at xs.1 >>= λ b. Ok (record { place = ((n.0).0).1; name = ((n.0).0).0; parameters = xs.0; body = b.0 }, b.1)) (x, rest) n.2 in
    let b = bind_ok (body_at (xs.0).1) (λ b. Ok (record { place = ((n.0).0).1; name = ((n.0).0).0; parameters = (xs.0).0; body = b.0 }, b.1)) (x, rest) xs.2 in
    at_pair (λ y l. IsMember 0 ts (AConstructor y) l) (record { place = ((n.0).0).1; name = ((n.0).0).0; parameters = (xs.0).0; body = (b.0).0 }) (b.0).1 x rest b.2
    (name_sound ts (n.0).0 (n.0).1 (λ l. IsMember 0 l (AConstructor (record { place = ((n.0).0).1; name = ((n.0).0).0; parameters = (xs.0).0; body = (b.0).0 })) (b.0).1) n.1 (constructor (parameters_sound (n.0).1 (xs.0).0 (xs.0).1 xs.1) (body_sound (xs.0).1 (b.0).0 (b.0).1 b.1)))

pub member_sound : Finds member_at (IsMember 0)
unfolding member_at
member_sound ts x rest h =
    if_elim (is_constructor ts) (constructor_at ts >>= λ f. Ok (AConstructor f.0, f.1)) (cond (is_function ts) (function_at ts >>= λ f. Ok (AMethod f.0, f.1)) (globals_at ts >>= λ v. Ok (AField v.0, v.1))) (Ok (x, rest)) (IsMember 0 ts x rest) h
    (λ b k. let f = bind_ok (constructor_at ts) (λ f. Ok (AConstructor f.0, f.1)) (x, rest) k in
    at_pair (λ y l. IsMember 0 ts y l) (AConstructor (f.0).0) (f.0).1 x rest f.2 (constructor_sound ts (f.0).0 (f.0).1 f.1))
    (λ b k. if_elim (is_function ts) (function_at ts >>= λ f. Ok (AMethod f.0, f.1)) (globals_at ts >>= λ v. Ok (AField v.0, v.1)) (Ok (x, rest)) (IsMember 0 ts x rest) k
    (λ c l. let f = bind_ok (function_at ts) (λ f. Ok (AMethod f.0, f.1)) (x, rest) l in
    at_pair (λ y l. IsMember 0 ts y l) (AMethod (f.0).0) (f.0).1 x rest f.2 (method (function_sound ts (f.0).0 (f.0).1 f.1)))
    (λ c l. let v = bind_ok (globals_at ts) (λ v. Ok (AField v.0, v.1)) (x, rest) l in
    at_pair (λ y l. IsMember 0 ts y l) (AField (v.0).0) (v.0).1 x rest v.2 (fields (globals_sound ts (v.0).0 (v.0).1 v.1).1)))

pub grow_interfaces : (from after left : Tokens) (x : TypeName) (xs : List TypeName) → next_interface_at from ≡ Ok (x, after) → AreMoreInterfaces after xs left → AreMoreInterfaces from (x ∷ xs) left
unfolding next_interface_at
grow_interfaces from after left x xs h more =
    let c = bind_ok (expect_at signs.Comma from) (λ comma. name_at comma.1 >>= λ n. Ok (record { place = (n.0).1; name = (n.0).0 }, n.1)) (x, after) h in
    let n = bind_ok (name_at (c.0).1) (λ n. Ok (record { place = (n.0).1; name = (n.0).0 }, n.1)) (x, after) c.2 in
    at_pair (λ (y : TypeName) (r : Tokens). AreMoreInterfaces r xs left → AreMoreInterfaces from (y ∷ xs) left) (record { place = ((n.0).0).1; name = ((n.0).0).0 }) (n.0).1 x after n.2
    (λ m. expect_sound signs.Comma from (c.0).0 (c.0).1 (λ r. AreMoreInterfaces r (record { place = ((n.0).0).1; name = ((n.0).0).0 } ∷ xs) left) c.1
    (name_sound (c.0).1 (n.0).0 (n.0).1 (λ r. AreMoreInterfaces ((sign signs.Comma, (c.0).0) ∷ r) (record { place = ((n.0).0).1; name = ((n.0).0).0 } ∷ xs) left) n.1 (more_interfaces m))) more

interfaces_sound : Finds interfaces_at AreInterfaces
unfolding interfaces_at listed_interfaces_at more_interfaces_at
interfaces_sound ts x rest h =
    if_elim (next_is_sign signs.Colon ts) (expect_at signs.Colon ts >>= λ c. name_at c.1 >>= λ n. put (record { place = (n.0).1; name = (n.0).0 }) (loop (next_is_sign signs.Comma) next_interface_at n.1)) (Ok ([], ts)) (Ok (x, rest)) (AreInterfaces ts x rest) h
    (λ b k. let c = bind_ok (expect_at signs.Colon ts) (λ c. name_at c.1 >>= λ n. put (record { place = (n.0).1; name = (n.0).0 }) (loop (next_is_sign signs.Comma) next_interface_at n.1)) (x, rest) k in
    let n = bind_ok (name_at (c.0).1) (λ n. put (record { place = (n.0).1; name = (n.0).0 }) (loop (next_is_sign signs.Comma) next_interface_at n.1)) (x, rest) c.2 in
    expect_sound signs.Colon ts (c.0).0 (c.0).1 (λ r. AreInterfaces r x rest) c.1
    (name_sound (c.0).1 (n.0).0 (n.0).1 (λ r. AreInterfaces ((sign signs.Colon, (c.0).0) ∷ r) x rest) n.1
    (put_ok (record { place = ((n.0).0).1; name = ((n.0).0).0 }) (loop (next_is_sign signs.Comma) next_interface_at (n.0).1) x rest (λ ys left. AreInterfaces ((sign signs.Colon, (c.0).0) ∷ (name ((n.0).0).0, ((n.0).0).1) ∷ (n.0).1) ys left) n.2
    (λ ys left r. interfaces (repeat_sound (next_is_sign signs.Comma) next_interface_at AreMoreInterfaces (λ s. no_more_interfaces) grow_interfaces (length (n.0).1) (n.0).1 ys left r)))))
    (λ b k. at_pair (AreInterfaces ts) [] ts x rest k no_interfaces)

class_sound : (p : Position) (ts : Tokens) (x : Class) (rest : Tokens) → class_at ts ≡ Ok (x, rest) → IsClass 0 ((reserved words.Class, p) ∷ ts) x rest
unfolding class_at members_at
class_sound p ts x rest h =
    let n = bind_ok (name_at ts) (λ n. interfaces_at n.1 >>= λ is. expect_at signs.OpenBrace is.1 >>= λ o. loop goes_on member_at o.1 >>= λ xs. expect_at signs.CloseBrace xs.1 >>= λ z. Ok (record { place = (n.0).1; name = (n.0).0; interfaces = is.0; members = xs.0 }, z.1)) (x, rest) h in
    let is = bind_ok (interfaces_at (n.0).1) (λ is. expect_at signs.OpenBrace is.1 >>= λ o. loop goes_on member_at o.1 >>= λ xs. expect_at signs.CloseBrace xs.1 >>= λ z. Ok (record { place = ((n.0).0).1; name = ((n.0).0).0; interfaces = is.0; members = xs.0 }, z.1)) (x, rest) n.2 in
    let o = bind_ok (expect_at signs.OpenBrace (is.0).1) (λ o. loop goes_on member_at o.1 >>= λ xs. expect_at signs.CloseBrace xs.1 >>= λ z. Ok (record { place = ((n.0).0).1; name = ((n.0).0).0; interfaces = (is.0).0; members = xs.0 }, z.1)) (x, rest) is.2 in
    let xs = bind_ok (loop goes_on member_at (o.0).1) (λ xs. expect_at signs.CloseBrace xs.1 >>= λ z. Ok (record { place = ((n.0).0).1; name = ((n.0).0).0; interfaces = (is.0).0; members = xs.0 }, z.1)) (x, rest) o.2 in
    let z = bind_ok (expect_at signs.CloseBrace (xs.0).1) (λ z. Ok (record { place = ((n.0).0).1; name = ((n.0).0).0; interfaces = (is.0).0; members = (xs.0).0 }, z.1)) (x, rest) xs.2 in
    let c : Class = record { place = ((n.0).0).1; name = ((n.0).0).0; interfaces = (is.0).0; members = (xs.0).0 } in
    let i : AreInterfaces (n.0).1 (is.0).0 (is.0).1 = interfaces_sound (n.0).1 (is.0).0 (is.0).1 is.1 in
    let m : AreMembers 0 (o.0).1 (xs.0).0 (xs.0).1 = repeat_sound goes_on member_at (AreMembers 0) (λ s. no_members) (λ from after left x xs e a. more_members (member_sound from x after e) a) (length (o.0).1) (o.0).1 (xs.0).0 (xs.0).1 xs.1 in
    at_pair (λ y l. IsClass 0 ((reserved words.Class, p) ∷ ts) y l) c (z.0).1 x rest z.2
    (name_sound ts (n.0).0 (n.0).1 (λ l. IsClass 0 ((reserved words.Class, p) ∷ l) c (z.0).1) n.1
    (class (ends_in signs.OpenBrace (is.0).1 (o.0).0 (o.0).1 (λ l. AreInterfaces (n.0).1 (is.0).0 l) o.1 i) (ends_in signs.CloseBrace (xs.0).1 (z.0).0 (z.0).1 (λ l. AreMembers 0 (o.0).1 (xs.0).0 l) z.1 m)))

pub interface_method_sound : Finds interface_method_at IsInterfaceMethod
unfolding interface_method_at
interface_method_sound ts x rest h =
    let r = bind_ok (result_type_at ts) (λ r. name_at r.1 >>= λ n. parameters_at n.1 >>= λ xs. expect_at signs.Semicolon xs.1 >>= λ z. Ok (record { place = (n.0).1; result = r.0; name = (n.0).0; parameters = xs.0 }, z.1)) (x, rest) h in
    let n = bind_ok (name_at (r.0).1) (λ n. parameters_at n.1 >>= λ xs. expect_at signs.Semicolon xs.1 >>= λ z. Ok (record { place = (n.0).1; result = (r.0).0; name = (n.0).0; parameters = xs.0 }, z.1)) (x, rest) r.2 in
    let xs = bind_ok (parameters_at (n.0).1) (λ xs. expect_at signs.Semicolon xs.1 >>= λ z. Ok (record { place = ((n.0).0).1; result = (r.0).0; name = ((n.0).0).0; parameters = xs.0 }, z.1)) (x, rest) n.2 in
    let z = bind_ok (expect_at signs.Semicolon (xs.0).1) (λ z. Ok (record { place = ((n.0).0).1; result = (r.0).0; name = ((n.0).0).0; parameters = (xs.0).0 }, z.1)) (x, rest) xs.2 in
    at_pair (IsInterfaceMethod ts) (record { place = ((n.0).0).1; result = (r.0).0; name = ((n.0).0).0; parameters = (xs.0).0 }) (z.0).1 x rest z.2
    (interface_method (names_in (r.0).1 (n.0).0 (n.0).1 (λ l. IsResultType ts (r.0).0 l) n.1 (result_type_sound ts (r.0).0 (r.0).1 r.1)) (ends_in signs.Semicolon (xs.0).1 (z.0).0 (z.0).1 (λ l. AreParameters (n.0).1 (xs.0).0 l) z.1 (parameters_sound (n.0).1 (xs.0).0 (xs.0).1 xs.1)))

interface_sound : (p : Position) (ts : Tokens) (x : Interface) (rest : Tokens) → interface_at ts ≡ Ok (x, rest) → IsInterface ((reserved words.Interface, p) ∷ ts) x rest
unfolding interface_at interface_methods_at
interface_sound p ts x rest h =
    let n = bind_ok (name_at ts) (λ n. expect_at signs.OpenBrace n.1 >>= λ o. loop goes_on interface_method_at o.1 >>= λ xs. expect_at signs.CloseBrace xs.1 >>= λ z. Ok (record { place = (n.0).1; name = (n.0).0; methods = xs.0 }, z.1)) (x, rest) h in
    let o = bind_ok (expect_at signs.OpenBrace (n.0).1) (λ o. loop goes_on interface_method_at o.1 >>= λ xs. expect_at signs.CloseBrace xs.1 >>= λ z. Ok (record { place = ((n.0).0).1; name = ((n.0).0).0; methods = xs.0 }, z.1)) (x, rest) n.2 in
    let xs = bind_ok (loop goes_on interface_method_at (o.0).1) (λ xs. expect_at signs.CloseBrace xs.1 >>= λ z. Ok (record { place = ((n.0).0).1; name = ((n.0).0).0; methods = xs.0 }, z.1)) (x, rest) o.2 in
    let z = bind_ok (expect_at signs.CloseBrace (xs.0).1) (λ z. Ok (record { place = ((n.0).0).1; name = ((n.0).0).0; methods = (xs.0).0 }, z.1)) (x, rest) xs.2 in
    let i : Interface = record { place = ((n.0).0).1; name = ((n.0).0).0; methods = (xs.0).0 } in
    let m : AreInterfaceMethods (o.0).1 (xs.0).0 (xs.0).1 = repeat_sound goes_on interface_method_at AreInterfaceMethods (λ s. no_interface_methods) (λ from after left x xs e a. more_interface_methods (interface_method_sound from x after e) a) (length (o.0).1) (o.0).1 (xs.0).0 (xs.0).1 xs.1 in
    at_pair (λ y l. IsInterface ((reserved words.Interface, p) ∷ ts) y l) i (z.0).1 x rest z.2
    (name_sound ts (n.0).0 (n.0).1 (λ l. IsInterface ((reserved words.Interface, p) ∷ l) i (z.0).1) n.1
    (expect_sound signs.OpenBrace (n.0).1 (o.0).0 (o.0).1 (λ l. IsInterface ((reserved words.Interface, p) ∷ (name ((n.0).0).0, ((n.0).0).1) ∷ l) i (z.0).1) o.1
    (interface (ends_in signs.CloseBrace (xs.0).1 (z.0).0 (z.0).1 (λ l. AreInterfaceMethods (o.0).1 (xs.0).0 l) z.1 m))))

other_item_sound : Finds other_item_at (IsItem 0)
other_item_sound u x rest h =
    if_elim (is_function u) (function_at u >>= λ f. Ok (AFunction f.0, f.1)) (globals_at u >>= λ v. Ok (AGlobal v.0, v.1)) (Ok (x, rest)) (IsItem 0 u x rest) h
    (λ c l. let f = bind_ok (function_at u) (λ f. Ok (AFunction f.0, f.1)) (x, rest) l in
    at_pair (λ y l. IsItem 0 u y l) (AFunction (f.0).0) (f.0).1 x rest f.2 (a_function (function_sound u (f.0).0 (f.0).1 f.1)))
    (λ c l. let v = bind_ok (globals_at u) (λ v. Ok (AGlobal v.0, v.1)) (x, rest) l in
    at_pair (λ y l. IsItem 0 u y l) (AGlobal (v.0).0) (v.0).1 x rest v.2 (globals (globals_sound u (v.0).0 (v.0).1 v.1).1))

pub item_sound : Finds item_at (IsItem 0)
unfolding item_at
item_sound [] x rest h = absurd (no_err (Unexpected []) (x, rest) h)
item_sound ((m, p) ∷ ts) x rest h =
    let u : Tokens = (m, p) ∷ ts in
    if_elim (is_class m) (class_at ts >>= λ c. Ok (AClass c.0, c.1)) (cond (is_interface m) (interface_at ts >>= λ i. Ok (AnInterface i.0, i.1)) (other_item_at u)) (Ok (x, rest)) (IsItem 0 u x rest) h
    (λ b k. let c = bind_ok (class_at ts) (λ c. Ok (AClass c.0, c.1)) (x, rest) k in
    at_pair (λ y l. IsItem 0 u y l) (AClass (c.0).0) (c.0).1 x rest c.2 (a_class (subst (λ w. IsClass 0 ((w, p) ∷ ts) (c.0).0 (c.0).1) (sym (class_is m b)) (class_sound p ts (c.0).0 (c.0).1 c.1))))
    (λ b k. if_elim (is_interface m) (interface_at ts >>= λ i. Ok (AnInterface i.0, i.1)) (other_item_at u) (Ok (x, rest)) (IsItem 0 u x rest) k
    (λ c l. let i = bind_ok (interface_at ts) (λ i. Ok (AnInterface i.0, i.1)) (x, rest) l in
    at_pair (λ y l. IsItem 0 u y l) (AnInterface (i.0).0) (i.0).1 x rest i.2 (an_interface (subst (λ w. IsInterface ((w, p) ∷ ts) (i.0).0 (i.0).1) (sym (interface_is m c)) (interface_sound p ts (i.0).0 (i.0).1 i.1))))
    (λ c l. other_item_sound u x rest l))

-- what is after each ";" is a module where the whole is
strip_sound : (ts : Tokens) (xs : List Item) → Derives 0 (strip ts) xs → Derives 0 ts xs
unfolding strip
strip_sound [] xs d = d
strip_sound ((m, p) ∷ ts) xs d =
    let P : Bool → Type 0 = λ v. is_sign signs.Semicolon m ≡ v → Derives 0 (cond v (strip ts) ((m, p) ∷ ts)) xs → Derives 0 ((m, p) ∷ ts) xs in
    (elim (is_sign signs.Semicolon m) as P [ true ↦ λ e k. subst (λ w. Derives 0 ((w, p) ∷ ts) xs) (sym (sign_is signs.Semicolon m e)) (semicolon (strip_sound ts xs k)) | false ↦ λ e k. k ]) refl d

-- with an end that is a module with no items, the whole is one
abbrev Leads : Tokens → List Item → Tokens → Type 0
Leads from xs left = Derives 0 left [] → Derives 0 from xs

pub grow_items : (from after left : Tokens) (x : Item) (xs : List Item) → entry_at from ≡ Ok (x, after) → Leads after xs left → Leads from (x ∷ xs) left
unfolding entry_at
grow_items from after left x xs h more done =
    let i = bind_ok (item_at from) (λ x. Ok (x.0, strip x.1)) (x, after) h in
    at_pair (λ y r. Derives 0 r xs → Derives 0 from (y ∷ xs)) (i.0).0 (strip (i.0).1) x after i.2 (λ d. item (item_sound from (i.0).0 (i.0).1 i.1) (strip_sound (i.0).1 xs d)) (more done)

pub module_sound : (ts : Tokens) (xs : List Item) (rest : Tokens) → module_at ts ≡ Ok (xs, rest) → rest ≡ [] → Derives 0 ts xs
unfolding module_at entries_at
module_sound ts xs rest h e =
    strip_sound ts xs (repeat_sound is_left entry_at Leads (λ s d. d) grow_items (length (strip ts)) (strip ts) xs rest h (subst (λ r. Derives 0 r []) (sym e) no_items))
