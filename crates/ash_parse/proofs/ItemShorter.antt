-- Each item takes a token at least, and the loops over items go on with fewer.
use Rattle.std.proofs.Common.{◌≡◌, ℕ, ◌<◌, ◌≤◌, [], ◌∷◌, List, Option, Some, None, Bool, true, false, cond, Ok, refl, subst, length, arith}
use Rattle.ash_lex.specs.Tokens.{name, sign}
use Rattle.ash_lex.specs.declared.signs.Sign.TheVariants as signs
use Rattle.ash_tree.specs.declared.tree.places.Position.{Position}
use Rattle.ash_tree.specs.Tree.{Named, TypeName, Parameter, Function, Member, Class, InterfaceMethod, Interface, Item, Declaration, ASignature, AProperty}
use Rattle.ash_tree.specs.GrammarTokens.{Tokens}
use Rattle.ash_tree.specs.Types.{IsType}
use Rattle.ash_tree.specs.Grammar.{IsResultType, void, typed, IsParameter, parameter, AreMoreParameters, no_more_parameters, more_parameters, AreParameters, no_parameters, parameters, IsFunction, function, IsMember, method, fields, constructor, AreMembers, no_members, more_members, IsClass, class, IsItem, a_class, a_function, globals, IsUnnamed, unnamed, with_name, AreMoreUnnamed, no_more_unnamed, more_unnamed, AreUnnamed, no_unnamed, some_unnamed, Declares, signature, property, AreMoreInterfaces, no_more_interfaces, more_interfaces, AreInterfaces, no_interfaces, interfaces, IsInterfaceMethod, interface_method, AreInterfaceMethods, no_interface_methods, more_interface_methods, IsInterface, interface, an_interface}
use Rattle.ash_parse.specs.SignTokens.{is_sign}
use Rattle.ash_parse.specs.Readers.{Unexpected, ◌>>=◌, put, loop, next_is_sign, expect_at, name_at}
use Rattle.ash_parse.specs.StatementReader.{is_name, next_is_name, type_at}
use Rattle.ash_parse.specs.ItemReader.{next_parameter_at, member_at, next_interface_at, interface_method_at, item_at, entry_at, strip, without_first, is_left, unnamed_at, next_unnamed_at, more_unnamed_at, unnamed_list_at, unnamed_parameters_at, property_by, declaration_after, declaration_at, result_type_at}
use Rattle.ash_parse.proofs.Readings.{no_err, bind_ok, at_pair, if_elim, put_ok, Finds, repeat_sound, expect_sound}
use Rattle.ash_parse.proofs.Types.{ends_in, type_sound, type_shorter}
use Rattle.ash_parse.proofs.StatementShorter.{vars_shorter, block_shorter}
use Rattle.ash_parse.proofs.ItemSound.{grow_parameters, member_sound, grow_interfaces, interface_method_sound, item_sound, result_type_sound, names_in}
use Rattle.ash_parse.proofs.Loop.{Shrinks}

no_truth : false ≡ true → ⊥
no_truth h = cc

result_shorter : {from left : Tokens} {t : Option Named} → IsResultType from t left → length left < length from
result_shorter void = omega arith
result_shorter (typed t) = type_shorter t

pub parameter_shorter : {from left : Tokens} {x : Parameter} → IsParameter from x left → length left < length from
parameter_shorter (parameter t) = let x = type_shorter t in omega arith

more_parameters_shorter : {from left : Tokens} {xs : List Parameter} → AreMoreParameters from xs left → length left ≤ length from
more_parameters_shorter no_more_parameters = omega arith
more_parameters_shorter (more_parameters a b) = let x = parameter_shorter a in let y = more_parameters_shorter b in omega arith

more_parameters_strict : {from left : Tokens} {x : Parameter} {xs : List Parameter} → AreMoreParameters from (x ∷ xs) left → length left < length from
more_parameters_strict (more_parameters a b) = let x = parameter_shorter a in let y = more_parameters_shorter b in omega arith

parameters_shorter : {from left : Tokens} {xs : List Parameter} → AreParameters from xs left → length left < length from
parameters_shorter no_parameters = omega arith
parameters_shorter (parameters a b) = let x = parameter_shorter a in let y = more_parameters_shorter b in omega arith

function_shorter : {free : ℕ} {from left : Tokens} {f : Function} → IsFunction free from f left → length left < length from
function_shorter (function r p b) = let x = result_shorter r in let y = parameters_shorter p in let z = block_shorter b in omega arith

pub member_shorter : {free : ℕ} {from left : Tokens} {m : Member} → IsMember free from m left → length left < length from
member_shorter (method f) = function_shorter f
member_shorter (fields v) = let x = vars_shorter v in omega arith
member_shorter (constructor p b) = let x = parameters_shorter p in let y = block_shorter b in omega arith

members_shorter : {free : ℕ} {from left : Tokens} {ms : List Member} → AreMembers free from ms left → length left ≤ length from
members_shorter no_members = omega arith
members_shorter (more_members a b) = let x = member_shorter a in let y = members_shorter b in omega arith

more_interfaces_shorter : {from left : Tokens} {xs : List TypeName} → AreMoreInterfaces from xs left → length left ≤ length from
more_interfaces_shorter no_more_interfaces = omega arith
more_interfaces_shorter (more_interfaces a) = let x = more_interfaces_shorter a in omega arith

more_interfaces_strict : {from left : Tokens} {x : TypeName} {xs : List TypeName} → AreMoreInterfaces from (x ∷ xs) left → length left < length from
more_interfaces_strict (more_interfaces a) = let x = more_interfaces_shorter a in omega arith

interfaces_shorter : {from left : Tokens} {xs : List TypeName} → AreInterfaces from xs left → length left ≤ length from
interfaces_shorter no_interfaces = omega arith
interfaces_shorter (interfaces a) = let x = more_interfaces_shorter a in omega arith

class_shorter : {free : ℕ} {from left : Tokens} {c : Class} → IsClass free from c left → length left < length from
class_shorter (class is ms) = let x = interfaces_shorter is in let y = members_shorter ms in omega arith

pub interface_method_shorter : {from left : Tokens} {m : InterfaceMethod} → IsInterfaceMethod from m left → length left < length from
interface_method_shorter (interface_method r p) = let x = result_shorter r in let y = parameters_shorter p in omega arith

interface_methods_shorter : {from left : Tokens} {ms : List InterfaceMethod} → AreInterfaceMethods from ms left → length left ≤ length from
interface_methods_shorter no_interface_methods = omega arith
interface_methods_shorter (more_interface_methods a b) = let x = interface_method_shorter a in let y = interface_methods_shorter b in omega arith

interface_shorter : {from left : Tokens} {i : Interface} → IsInterface from i left → length left < length from
interface_shorter (interface ms) = let x = interface_methods_shorter ms in omega arith

pub item_shorter : {free : ℕ} {from left : Tokens} {x : Item} → IsItem free from x left → length left < length from
item_shorter (a_class c) = class_shorter c
item_shorter (an_interface i) = interface_shorter i
item_shorter (a_function f) = function_shorter f
item_shorter (globals v) = let x = vars_shorter v in omega arith

pub next_parameter_shrinks : Shrinks next_parameter_at
next_parameter_shrinks ts x rest e = more_parameters_strict (grow_parameters ts rest rest x [] e no_more_parameters)

pub member_shrinks : Shrinks member_at
member_shrinks ts x rest e = member_shorter (member_sound ts x rest e)

pub next_interface_shrinks : Shrinks next_interface_at
next_interface_shrinks ts x rest e = more_interfaces_strict (grow_interfaces ts rest rest x [] e no_more_interfaces)

pub interface_method_shrinks : Shrinks interface_method_at
interface_method_shrinks ts x rest e = interface_method_shorter (interface_method_sound ts x rest e)

pub strip_shorter : (ts : Tokens) → length (strip ts) ≤ length ts
unfolding strip
strip_shorter [] = omega arith
strip_shorter ((m, p) ∷ ts) =
    let P : Bool → Type 0 = λ v. length (cond v (strip ts) ((m, p) ∷ ts)) ≤ length ((m, p) ∷ ts) in
    let ih : length (strip ts) ≤ length ts = strip_shorter ts in
    elim (is_sign signs.Semicolon m) as P [ true ↦ omega arith | false ↦ omega arith ]

pub entry_shrinks : Shrinks entry_at
unfolding entry_at
entry_shrinks ts x rest e =
    let i = bind_ok (item_at ts) (λ x. Ok (x.0, strip x.1)) (x, rest) e in
    let a : length (i.0).1 < length ts = item_shorter (item_sound ts (i.0).0 (i.0).1 i.1) in
    let b : length (strip (i.0).1) ≤ length (i.0).1 = strip_shorter (i.0).1 in
    at_pair (λ _ r. length r < length ts) (i.0).0 (strip (i.0).1) x rest i.2 (omega arith)

pub no_more_left : is_left [] ≡ false
unfolding is_left
no_more_left = refl

pub left_is_none : (ts : Tokens) → is_left ts ≡ false → ts ≡ []
unfolding is_left
left_is_none [] h = refl
left_is_none (t ∷ ts) h = cc

pub strip-more : (ts : Tokens) → next_is_sign signs.Semicolon ts ≡ true → strip ts ≡ strip (without_first ts)
unfolding next_is_sign strip without_first
strip-more [] h = refl
strip-more ((m, p) ∷ ts) h = rw h refl

pub strip-done : (ts : Tokens) → next_is_sign signs.Semicolon ts ≡ false → strip ts ≡ ts
unfolding next_is_sign strip
strip-done [] h = refl
strip-done ((m, p) ∷ ts) h = rw h refl

pub without_first-shorter : (ts : Tokens) → next_is_sign signs.Semicolon ts ≡ true → length (without_first ts) < length ts
unfolding next_is_sign without_first
without_first-shorter [] h = absurd (no_truth h)
without_first-shorter (t ∷ ts) h = omega arith

-- tokens that begin with a name
name_is : (ts : Tokens) (Q : Tokens → Type 0) → next_is_name ts ≡ true → ((t : List ℕ) (p : Position) → Q ((name t, p) ∷ without_first ts)) → Q ts
unfolding next_is_name is_name without_first
name_is [] Q h go = absurd (no_truth h)
name_is ((name t, p) ∷ ts) Q h go = go t p
name_is (_ ∷ ts) Q h go = absurd (no_truth h)

unnamed_sound : Finds unnamed_at IsUnnamed
unfolding unnamed_at
unnamed_sound ts x rest h =
    let t = bind_ok (type_at ts) (λ t. Ok (t.0, cond (next_is_name t.1) (without_first t.1) t.1)) (x, rest) h in
    let d = type_sound ts (t.0).0 (t.0).1 t.1 in
    let P : Bool → Type 0 = λ v. next_is_name (t.0).1 ≡ v → IsUnnamed ts (t.0).0 (cond v (without_first (t.0).1) (t.0).1) in
    at_pair (IsUnnamed ts) (t.0).0 (cond (next_is_name (t.0).1) (without_first (t.0).1) (t.0).1) x rest t.2
    ((elim (next_is_name (t.0).1) as P [ true ↦ λ e. name_is (t.0).1 (λ l. IsType ts (t.0).0 l → IsUnnamed ts (t.0).0 (without_first (t.0).1)) e (λ n p k. with_name k) d | false ↦ λ e. unnamed d ]) refl)

grow_unnamed : (from after left : Tokens) (x : Named) (xs : List Named) → next_unnamed_at from ≡ Ok (x, after) → AreMoreUnnamed after xs left → AreMoreUnnamed from (x ∷ xs) left
unfolding next_unnamed_at
grow_unnamed from after left x xs h more =
    let c = bind_ok (expect_at signs.Comma from) (λ comma. unnamed_at comma.1) (x, after) h in
    expect_sound signs.Comma from (c.0).0 (c.0).1 (λ r. AreMoreUnnamed r (x ∷ xs) left) c.1 (more_unnamed (unnamed_sound (c.0).1 x after c.2) more)

pub unnamed_shorter : {from left : Tokens} {x : Named} → IsUnnamed from x left → length left < length from
unnamed_shorter (unnamed t) = type_shorter t
unnamed_shorter (with_name t) = let x = type_shorter t in omega arith

more_unnamed_shorter : {from left : Tokens} {xs : List Named} → AreMoreUnnamed from xs left → length left ≤ length from
more_unnamed_shorter no_more_unnamed = omega arith
more_unnamed_shorter (more_unnamed a b) = let x = unnamed_shorter a in let y = more_unnamed_shorter b in omega arith

more_unnamed_strict : {from left : Tokens} {x : Named} {xs : List Named} → AreMoreUnnamed from (x ∷ xs) left → length left < length from
more_unnamed_strict (more_unnamed a b) = let x = unnamed_shorter a in let y = more_unnamed_shorter b in omega arith

pub next_unnamed_shrinks : Shrinks next_unnamed_at
next_unnamed_shrinks ts x rest e = more_unnamed_strict (grow_unnamed ts rest rest x [] e no_more_unnamed)

unnamed_parameters_sound : Finds unnamed_parameters_at AreUnnamed
unfolding unnamed_parameters_at unnamed_list_at more_unnamed_at
unnamed_parameters_sound ts x rest h =
    let o = bind_ok (expect_at signs.OpenParenthesis ts) (λ o. cond (next_is_sign signs.CloseParenthesis o.1) (Ok ([], o.1)) (unnamed_at o.1 >>= λ x. put x.0 (loop (next_is_sign signs.Comma) next_unnamed_at x.1)) >>= λ xs. expect_at signs.CloseParenthesis xs.1 >>= λ z. Ok (xs.0, z.1)) (x, rest) h in
    let s = (o.0).1 in
    let xs = bind_ok (cond (next_is_sign signs.CloseParenthesis s) (Ok ([], s)) (unnamed_at s >>= λ x. put x.0 (loop (next_is_sign signs.Comma) next_unnamed_at x.1))) (λ xs. expect_at signs.CloseParenthesis xs.1 >>= λ z. Ok (xs.0, z.1)) (x, rest) o.2 in
    let z = bind_ok (expect_at signs.CloseParenthesis (xs.0).1) (λ z. Ok ((xs.0).0, z.1)) (x, rest) xs.2 in
    let Q : List Named → Tokens → Type 0 = λ ys r. expect_at signs.CloseParenthesis r ≡ Ok z.0 → AreUnnamed ((sign signs.OpenParenthesis, (o.0).0) ∷ s) ys (z.0).1 in
    at_pair (AreUnnamed ts) (xs.0).0 (z.0).1 x rest z.2
    (expect_sound signs.OpenParenthesis ts (o.0).0 s (λ r. AreUnnamed r (xs.0).0 (z.0).1) o.1
    (if_elim (next_is_sign signs.CloseParenthesis s) (Ok ([], s)) (unnamed_at s >>= λ x. put x.0 (loop (next_is_sign signs.Comma) next_unnamed_at x.1)) (Ok xs.0) (Q (xs.0).0 (xs.0).1) xs.1
    (λ b k. at_pair Q [] s (xs.0).0 (xs.0).1 k (λ e. expect_sound signs.CloseParenthesis s (z.0).0 (z.0).1 (λ r. AreUnnamed ((sign signs.OpenParenthesis, (o.0).0) ∷ r) [] (z.0).1) e no_unnamed))
    (λ b k. let f = bind_ok (unnamed_at s) (λ x. put x.0 (loop (next_is_sign signs.Comma) next_unnamed_at x.1)) xs.0 k in
    put_ok (f.0).0 (loop (next_is_sign signs.Comma) next_unnamed_at (f.0).1) (xs.0).0 (xs.0).1 Q f.2
    (λ ys left r e. some_unnamed (unnamed_sound s (f.0).0 (f.0).1 f.1) (ends_in signs.CloseParenthesis left (z.0).0 (z.0).1 (λ l. AreMoreUnnamed (f.0).1 ys l) e (repeat_sound (next_is_sign signs.Comma) next_unnamed_at AreMoreUnnamed (λ s. no_more_unnamed) grow_unnamed (length (f.0).1) (f.0).1 ys left r))))
    z.1))

-- all of the tokens are a declaration, where none is left after it
abbrev Whole : Tokens → Declaration → Tokens → Type 0
Whole ts d left = left ≡ [] → Declares ts d

property_sound : (r : Option Named) (p : Position) (t : List ℕ) (from ts : Tokens) (x : Declaration) (rest : Tokens) → IsResultType from r ((name t, p) ∷ ts) → property_by r p t ts ≡ Ok (x, rest) → Whole from x rest
property_sound None p t from ts x rest d h = absurd (no_err (Unexpected ts) (x, rest) h)
property_sound (Some k) p t from ts x rest (typed d) h = at_pair (Whole from) (AProperty (record { place = p; of = k; name = t })) ts x rest h (λ e. property (subst (λ l. IsType from k ((name t, p) ∷ l)) e d))

pub declaration_sound : (ts : Tokens) (x : Declaration) (rest : Tokens) → declaration_at ts ≡ Ok (x, rest) → rest ≡ [] → Declares ts x
unfolding declaration_at declaration_after
declaration_sound ts x rest h =
    let r = bind_ok (result_type_at ts) (λ r. name_at r.1 >>= λ n. cond (next_is_sign signs.OpenParenthesis n.1) (unnamed_parameters_at n.1 >>= λ xs. Ok (ASignature (record { place = (n.0).1; result = r.0; name = (n.0).0; parameters = xs.0 }), xs.1)) (property_by r.0 (n.0).1 (n.0).0 n.1)) (x, rest) h in
    let n = bind_ok (name_at (r.0).1) (λ n. cond (next_is_sign signs.OpenParenthesis n.1) (unnamed_parameters_at n.1 >>= λ xs. Ok (ASignature (record { place = (n.0).1; result = (r.0).0; name = (n.0).0; parameters = xs.0 }), xs.1)) (property_by (r.0).0 (n.0).1 (n.0).0 n.1)) (x, rest) r.2 in
    let p = ((n.0).0).1 in
    let t = ((n.0).0).0 in
    let s = (n.0).1 in
    let d : IsResultType ts (r.0).0 ((name t, p) ∷ s) = names_in (r.0).1 (n.0).0 s (λ l. IsResultType ts (r.0).0 l) n.1 (result_type_sound ts (r.0).0 (r.0).1 r.1) in
    if_elim (next_is_sign signs.OpenParenthesis s) (unnamed_parameters_at s >>= λ xs. Ok (ASignature (record { place = p; result = (r.0).0; name = t; parameters = xs.0 }), xs.1)) (property_by (r.0).0 p t s) (Ok (x, rest)) (Whole ts x rest) n.2
    (λ b k. let xs = bind_ok (unnamed_parameters_at s) (λ xs. Ok (ASignature (record { place = p; result = (r.0).0; name = t; parameters = xs.0 }), xs.1)) (x, rest) k in
    at_pair (Whole ts) (ASignature (record { place = p; result = (r.0).0; name = t; parameters = (xs.0).0 })) (xs.0).1 x rest xs.2 (λ e. signature d (subst (λ l. AreUnnamed s (xs.0).0 l) e (unnamed_parameters_sound s (xs.0).0 (xs.0).1 xs.1))))
    (λ b k. property_sound (r.0).0 p t ts s x rest d k)
