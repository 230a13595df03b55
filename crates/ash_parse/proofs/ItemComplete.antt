-- What is in the grammar of modules and of registered declarations is read, or reading is cut where a token is too
-- deep, so that tokens have one tree.
use Rattle.std.proofs.Common.{◌≡◌, ℕ, List, [], ◌∷◌, length, true, false, ◌≤◌, ◌⊎◌, Option, Some, Ok, Err, refl, sym, ap, subst, ◌∙◌, arith}
use Rattle.ash_lex.specs.Tokens.{name, sign}
use Rattle.ash_lex.specs.declared.signs.Sign.TheVariants as signs
use Rattle.ash_lex.specs.declared.tokens.Token.{Token}
use Rattle.ash_tree.specs.declared.tree.places.Position.{Position}
use Rattle.ash_tree.specs.Tree.{Named, TypeName, Vars, Stmt, Parameter, Function, Constructor, Member, Class, InterfaceMethod, Item, AFunction, AGlobal, Declaration, AProperty}
use Rattle.ash_tree.specs.GrammarTokens.{Tokens}
use Rattle.ash_tree.specs.Expressions.{max_depth}
use Rattle.ash_tree.specs.Statements.{IsVars, IsBlock}
use Rattle.ash_tree.specs.Grammar.{IsResultType, void, typed, IsParameter, parameter, AreMoreParameters, no_more_parameters, more_parameters, AreParameters, no_parameters, parameters, IsFunction, function, IsMember, method, fields, constructor, AreMembers, no_members, more_members, AreMoreInterfaces, no_more_interfaces, more_interfaces, AreInterfaces, no_interfaces, interfaces, class, IsInterfaceMethod, interface_method, AreInterfaceMethods, no_interface_methods, more_interface_methods, interface, IsItem, a_class, an_interface, a_function, globals, Derives, no_items, semicolon, item, IsUnnamed, unnamed, with_name, AreMoreUnnamed, no_more_unnamed, more_unnamed, AreUnnamed, no_unnamed, some_unnamed, Declares, signature, property}
use Rattle.ash_parse.specs.declared.faults.ParseFault.{ParseFault}
use Rattle.ash_parse.specs.declared.faults.ParseFault.TheVariants as faults
use Rattle.ash_parse.specs.SignTokens.{is_sign, same_sign}
use Rattle.ash_parse.specs.Readers.{TooDeep, ParseResult, next_is, next_is_sign}
use Rattle.ash_parse.specs.StatementReader.{is_name, next_is_name, type_at, goes_on}
use Rattle.ash_parse.specs.ExpressionReader.{begins}
use Rattle.ash_parse.specs.ItemReader.{is_void, is_class, is_interface, result_type_at, parameter_at, next_parameter_at, more_parameters_at, parameter_list_at, parameters_at, body_at, function_at, globals_at, without_first, is_function, constructor_at, member_at, members_at, next_interface_at, more_interfaces_at, listed_interfaces_at, interfaces_at, class_at, interface_method_at, interface_methods_at, interface_at, item_at, strip, entry_at, is_left, entries_at, module_at, unnamed_at, next_unnamed_at, more_unnamed_at, unnamed_list_at, unnamed_parameters_at, declaration_after, declaration_at}
use Rattle.ash_parse.specs.ParseFaults.{IsFault, whole_declaration_at}
use Rattle.ash_parse.specs.Unique.{HasOneModule, HasOneDeclaration}
use Rattle.ash_parse.proofs.Readings.{ok_is, expect_again, next_is_sign-again, name_again}
use Rattle.ash_parse.proofs.ItemShorter.{parameter_shorter, member_shorter, interface_method_shorter, item_shorter, unnamed_shorter, strip_shorter, strip-done, no_more_left}
use Rattle.ash_parse.proofs.Rereading.{no_true, Reads, whole, as_read, then_reads, is_cut, is_whole, ReadsAll, none_again, one_again}
use Rattle.ash_parse.proofs.ExpressionBounds.{Closes, begins_no_close, close_ends}
use Rattle.ash_parse.proofs.VarsComplete.{Follows, ends_follow, type_read, type_begins, declared_read}
use Rattle.ash_parse.proofs.StatementComplete.{brace_rests, block_read}
use Rattle.ash_parse.proofs.ItemBeginnings.{begins_no_void, function_heads, vars_heads, member_goes, interface_method_goes, item_heads, function_function, vars_no_function, function_no_constructor, vars_no_constructor, constructor_constructor}

name_no_handle : (text : List ℕ) (p : Position) (ts : Tokens) → next_is_sign signs.Handle ((name text, p) ∷ ts) ≡ false
unfolding next_is_sign is_sign
name_no_handle text p ts = refl

typed_again : (from left : Tokens) (t : Named) → next_is begins from ≡ true → type_at from ≡ Ok (t, left) → result_type_at from ≡ Ok (Some t, left)
unfolding result_type_at
typed_again [] left t b h = absurd (no_true b)
typed_again ((m, p) ∷ ts) left t b h = rw (begins_no_void ((m, p) ∷ ts) b, h) refl

result_type_read : {from left : Tokens} {r : Option Named} → IsResultType from r left → next_is_sign signs.Handle left ≡ false → result_type_at from ≡ Ok (r, left)
unfolding result_type_at is_void
result_type_read void s = refl
result_type_read (typed {from = from} {left = left} {t = t} a) s = typed_again from left t (type_begins a) (type_read a s)

parameter_read : {from left : Tokens} {x : Parameter} → IsParameter from x left → parameter_at from ≡ Ok (x, left)
unfolding parameter_at
parameter_read (parameter {p = p} {text = text} {left = left} a) = rw (type_read a (name_no_handle text p left), name_again text p left) refl

parameter_begins : {from left : Tokens} {x : Parameter} → IsParameter from x left → next_is begins from ≡ true
parameter_begins (parameter a) = type_begins a

next_parameter_again : (p : Position) (from left : Tokens) (x : Parameter) → parameter_at from ≡ Ok (x, left) → next_parameter_at ((sign signs.Comma, p) ∷ from) ≡ Ok (x, left)
unfolding next_parameter_at
next_parameter_again p from left x h = rw (expect_again signs.Comma p from) h

more_parameters_read : {from left : Tokens} {xs : List Parameter} → AreMoreParameters from xs left → Closes left → ReadsAll 0 (next_is_sign signs.Comma) next_parameter_at from xs left
more_parameters_read (no_more_parameters {left = left}) s = none_again 0 (next_is_sign signs.Comma) next_parameter_at left (close_ends left s).1
more_parameters_read (more_parameters {p = p} {from = from} {after = next} {left = left} {x = x} {xs = xs} a b) s =
    let l = parameter_shorter a in
    one_again 0 (next_is_sign signs.Comma) next_parameter_at ((sign signs.Comma, p) ∷ from) next left x xs (next_is_sign-again signs.Comma p from) (as_read (next_parameter_again p from next x (parameter_read a))) (omega arith) (more_parameters_read b s)

parameters_read : {from left : Tokens} {xs : List Parameter} → AreParameters from xs left → parameters_at from ≡ Ok (xs, left)
unfolding parameters_at parameter_list_at more_parameters_at
parameters_read (no_parameters {p = p} {q = q} {left = left}) = rw (expect_again signs.OpenParenthesis p ((sign signs.CloseParenthesis, q) ∷ left), next_is_sign-again signs.CloseParenthesis q left, expect_again signs.CloseParenthesis q left) refl
parameters_read (parameters {p = p} {q = q} {from = from} {after = next} {left = left} {x = x} {xs = xs} a b) =
    rw (expect_again signs.OpenParenthesis p from, begins_no_close from (parameter_begins a), parameter_read a, is_whole (more_parameters_read b (next_is_sign-again signs.CloseParenthesis q left) (length next) (omega arith)) refl, expect_again signs.CloseParenthesis q left) refl

body_read : {free : ℕ} {from left : Tokens} {ss : List Stmt} → IsBlock free 0 from ss left → Reads (List Stmt) free (body_at from) (ss, left)
unfolding body_at
body_read a = block_read a max_depth (omega arith)

function_read : {free : ℕ} {from left : Tokens} {f : Function} → IsFunction free from f left → Reads Function free (function_at from) (f, left)
unfolding function_at
function_read (function {p = p} {text = text} {after = next} a b c) = rw (result_type_read a (name_no_handle text p next), name_again text p next, parameters_read b) (then_reads _ (body_read c) whole)

globals_read : {free : ℕ} {from : Tokens} {v : Vars} (p : Position) (left : Tokens) → IsVars free 0 from v ((sign signs.Semicolon, p) ∷ left) → Reads Vars free (globals_at from) (v, left)
unfolding globals_at
globals_read p left a = declared_read p left a max_depth (omega arith)

constructor_again : {free : ℕ} (p : Position) (text : List ℕ) (from inside left : Tokens) (xs : List Parameter) (body : List Stmt) → parameters_at from ≡ Ok (xs, inside) → Reads (List Stmt) free (body_at inside) (body, left) → Reads Constructor free (constructor_at ((name text, p) ∷ from)) (record { place = p; name = text; parameters = xs; body = body }, left)
unfolding constructor_at
constructor_again p text from inside left xs body h i = rw (name_again text p from, h) (then_reads _ i whole)

member_read : {free : ℕ} {from left : Tokens} {x : Member} → IsMember free from x left → Reads Member free (member_at from) (x, left)
unfolding member_at
member_read (method f) = rw (function_no_constructor f, function_function f) (then_reads _ (function_read f) whole)
member_read (fields {p = p} {left = left} v) = rw (vars_no_constructor v, vars_no_function v (next_is_sign-again signs.Semicolon p left)) (then_reads _ (globals_read p left v) whole)
member_read (constructor {p = p} {text = text} {from = from} {inside = inside} {left = left} {xs = xs} {body = body} a b) = rw (constructor_constructor text p a) (then_reads _ (constructor_again p text from inside left xs body (parameters_read a) (body_read b)) whole)

members_read : {free : ℕ} {from left : Tokens} {xs : List Member} → AreMembers free from xs left → goes_on left ≡ false → ReadsAll free goes_on member_at from xs left
members_read (no_members {left = left}) s = none_again _ goes_on member_at left s
members_read (more_members {from = from} {after = next} {left = left} {x = x} {xs = xs} a b) s =
    one_again _ goes_on member_at from next left x xs (member_goes a) (member_read a) (member_shorter a) (members_read b s)

next_interface_again : (p q : Position) (text : List ℕ) (ts : Tokens) → next_interface_at ((sign signs.Comma, p) ∷ (name text, q) ∷ ts) ≡ Ok (record { place = q; name = text }, ts)
unfolding next_interface_at
next_interface_again p q text ts = rw (expect_again signs.Comma p ((name text, q) ∷ ts), name_again text q ts) refl

more_interfaces_read : {from left : Tokens} {xs : List TypeName} → AreMoreInterfaces from xs left → next_is_sign signs.Comma left ≡ false → ReadsAll 0 (next_is_sign signs.Comma) next_interface_at from xs left
more_interfaces_read (no_more_interfaces {left = left}) s = none_again 0 (next_is_sign signs.Comma) next_interface_at left s
more_interfaces_read (more_interfaces {p = p} {q = q} {text = text} {after = next} {left = left} {xs = xs} a) s =
    one_again 0 (next_is_sign signs.Comma) next_interface_at ((sign signs.Comma, p) ∷ (name text, q) ∷ next) next left (record { place = q; name = text }) xs (next_is_sign-again signs.Comma p ((name text, q) ∷ next)) (as_read (next_interface_again p q text next)) (omega arith) (more_interfaces_read a s)

interfaces_read : {from left : Tokens} {xs : List TypeName} → AreInterfaces from xs left → next_is_sign signs.Colon left ≡ false → next_is_sign signs.Comma left ≡ false → interfaces_at from ≡ Ok (xs, left)
unfolding interfaces_at listed_interfaces_at more_interfaces_at
interfaces_read no_interfaces c s = rw c refl
interfaces_read (interfaces {p = p} {q = q} {text = text} {after = next} a) c s =
    rw (next_is_sign-again signs.Colon p ((name text, q) ∷ next), expect_again signs.Colon p ((name text, q) ∷ next), name_again text q next, is_whole (more_interfaces_read a s (length next) (omega arith)) refl) refl

-- no list of interfaces goes on with a brace
brace_ends_list : (o : Position) (ts : Tokens) → (next_is_sign signs.Colon ((sign signs.OpenBrace, o) ∷ ts) ≡ false) × (next_is_sign signs.Comma ((sign signs.OpenBrace, o) ∷ ts) ≡ false)
unfolding next_is_sign is_sign same_sign
brace_ends_list o ts = (refl, refl)

class_again : {free : ℕ} (q o w : Position) (text : List ℕ) (head from left : Tokens) (is : List TypeName) (xs : List Member) → interfaces_at head ≡ Ok (is, (sign signs.OpenBrace, o) ∷ from) → ReadsAll free goes_on member_at from xs ((sign signs.CloseBrace, w) ∷ left) → Reads Class free (class_at ((name text, q) ∷ head)) (record { place = q; name = text; interfaces = is; members = xs }, left)
unfolding class_at members_at
class_again q o w text head from left is xs i r = rw (name_again text q head, i, expect_again signs.OpenBrace o from) (then_reads _ (r (length from) (omega arith)) (rw (expect_again signs.CloseBrace w left) whole))

interface_method_read : {from left : Tokens} {x : InterfaceMethod} → IsInterfaceMethod from x left → interface_method_at from ≡ Ok (x, left)
unfolding interface_method_at
interface_method_read (interface_method {p = p} {q = q} {text = text} {after = next} {left = left} a b) = rw (result_type_read a (name_no_handle text p next), name_again text p next, parameters_read b, expect_again signs.Semicolon q left) refl

interface_methods_read : {from left : Tokens} {xs : List InterfaceMethod} → AreInterfaceMethods from xs left → goes_on left ≡ false → ReadsAll 0 goes_on interface_method_at from xs left
interface_methods_read (no_interface_methods {left = left}) s = none_again 0 goes_on interface_method_at left s
interface_methods_read (more_interface_methods {from = from} {after = next} {left = left} {x = x} {xs = xs} a b) s =
    one_again 0 goes_on interface_method_at from next left x xs (interface_method_goes a) (as_read (interface_method_read a)) (interface_method_shorter a) (interface_methods_read b s)

interface_again : (q o w : Position) (text : List ℕ) (from left : Tokens) (xs : List InterfaceMethod) → ReadsAll 0 goes_on interface_method_at from xs ((sign signs.CloseBrace, w) ∷ left) → interface_at ((name text, q) ∷ (sign signs.OpenBrace, o) ∷ from) ≡ Ok (record { place = q; name = text; methods = xs }, left)
unfolding interface_at interface_methods_at
interface_again q o w text from left xs r = rw (name_again text q ((sign signs.OpenBrace, o) ∷ from), expect_again signs.OpenBrace o from, is_whole (r (length from) (omega arith)) refl, expect_again signs.CloseBrace w left) refl

function_again : {free : ℕ} (from left : Tokens) (f : Function) → is_left from ≡ true → next_is is_class from ≡ false → next_is is_interface from ≡ false → is_function from ≡ true → Reads Function free (function_at from) (f, left) → Reads Item free (item_at from) (AFunction f, left)
unfolding item_at is_left
function_again [] left f l c d i h = absurd (no_true l)
function_again ((m, p) ∷ ts) left f l c d i h = rw (c, d, i) (then_reads _ h whole)

globals_again : {free : ℕ} (from left : Tokens) (v : Vars) → is_left from ≡ true → next_is is_class from ≡ false → next_is is_interface from ≡ false → is_function from ≡ false → Reads Vars free (globals_at from) (v, left) → Reads Item free (item_at from) (AGlobal v, left)
unfolding item_at is_left
globals_again [] left v l c d i h = absurd (no_true l)
globals_again ((m, p) ∷ ts) left v l c d i h = rw (c, d, i) (then_reads _ h whole)

brace_ends : (p : Position) (left : Tokens) → goes_on ((sign signs.CloseBrace, p) ∷ left) ≡ false
brace_ends p left = (brace_rests p left).0

item_read : {free : ℕ} {from left : Tokens} {x : Item} → IsItem free from x left → Reads Item free (item_at from) (x, left)
unfolding item_at is_class is_interface
item_read (a_class (class {q = q} {o = o} {z = w} {text = text} {after = next} {from = from} {left = left} {is = is} {xs = xs} i a)) =
    let b = brace_ends_list o from in
    then_reads _ (class_again q o w text next from left is xs (interfaces_read i b.0 b.1) (members_read a (brace_ends w left))) whole
item_read (an_interface (interface {q = q} {o = o} {z = w} {text = text} {from = from} {left = left} {xs = xs} a)) = then_reads _ (as_read (interface_again q o w text from left xs (interface_methods_read a (brace_ends w left)))) whole
item_read (a_function {from = from} {left = left} {f = f} a) = let q = function_heads a in function_again from left f q.2 q.0 q.4 (function_function a) (function_read a)
item_read (globals {p = p} {from = from} {left = left} {v = v} a) = let q = vars_heads a in globals_again from left v q.2 q.0 q.4 (vars_no_function a (next_is_sign-again signs.Semicolon p left)) (globals_read p left a)

entry_again : {free : ℕ} (from left : Tokens) (x : Item) → Reads Item free (item_at from) (x, left) → Reads Item free (entry_at from) (x, strip left)
unfolding entry_at
entry_again from left x h = then_reads _ h whole

entries_read : {free : ℕ} {ts : Tokens} {xs : List Item} → Derives free ts xs → ReadsAll free is_left entry_at (strip ts) xs []
unfolding strip is_sign same_sign
entries_read no_items = none_again _ is_left entry_at [] no_more_left
entries_read (semicolon d) = entries_read d
entries_read (item {free = free} {from = from} {after = next} {x = x} {xs = xs} i d) =
    let q = item_heads i in
    let a = item_shorter i in
    let b = strip_shorter next in
    subst (λ s. ReadsAll free is_left entry_at s (x ∷ xs) []) (sym (strip-done from q.0)) (one_again free is_left entry_at from (strip next) [] x xs q.1 (entry_again from next x (item_read i)) (omega arith) (entries_read d))

-- the items that tokens derive are read, or reading is cut at the depth
pub module_reads : (free : ℕ) (ts : Tokens) (xs : List Item) → Derives free ts xs → Reads (List Item) free (module_at ts) (xs, [])
unfolding module_at entries_at
module_reads free ts xs d = entries_read d (length (strip ts)) (omega arith)

pub module_cut : (free : ℕ) (ts : Tokens) (xs : List Item) → Derives free ts xs → (module_at ts ≡ Ok (xs, [])) ⊎ ((rest : Tokens) × (module_at ts ≡ Err (TooDeep rest)) × (length rest ≤ free))
module_cut free ts xs d = is_cut (module_reads free ts xs d)

-- within the depth, they are read
pub module_read : (ts : Tokens) (xs : List Item) → Derives 0 ts xs → module_at ts ≡ Ok (xs, [])
module_read ts xs d = is_whole (module_reads 0 ts xs d) refl

pub items_are_one : (ts : Tokens) (xs ys : List Item) → module_at ts ≡ Ok (xs, []) → Derives 0 ts ys → xs ≡ ys
items_are_one ts xs ys h d = ap (λ (v : List Item × Tokens). v.0) (ok_is (xs, []) (ys, []) (sym h ∙ module_read ts ys d))

on_ok : {A : Type 0} (all : List Token) (f : ParseFault) (x : A × Tokens) → IsFault {A = A} all f (Ok x) → f ≡ faults.NoMemory
on_ok all (faults.Unexpected at) x h = absurd h
on_ok all (faults.Unsupported word at) x h = absurd h
on_ok all (faults.TooDeep at) x h = absurd h
on_ok all faults.NoMemory x h = refl

-- where reading gives a tree, only memory can be wanting
only_memory : {A : Type 0} (all : List Token) (f : ParseFault) (read : ParseResult A) (x : A × Tokens) → IsFault all f read → read ≡ Ok x → f ≡ faults.NoMemory
only_memory {A} all f read x h e = on_ok all f x (subst (λ (r : ParseResult A). IsFault all f r) e h)

pub module_memory : (all : List Token) (f : ParseFault) (ts : Tokens) (xs : List Item) → IsFault all f (module_at ts) → Derives 0 ts xs → f ≡ faults.NoMemory
module_memory all f ts xs h d = only_memory all f (module_at ts) (xs, []) h (module_read ts xs d)

unnamed_again : (from left : Tokens) (t : Named) → type_at from ≡ Ok (t, left) → next_is_name left ≡ false → unnamed_at from ≡ Ok (t, left)
unfolding unnamed_at
unnamed_again from left t h s = rw (h, s) refl

with_name_again : (p : Position) (text : List ℕ) (from left : Tokens) (t : Named) → type_at from ≡ Ok (t, (name text, p) ∷ left) → unnamed_at from ≡ Ok (t, left)
unfolding unnamed_at next_is_name is_name without_first
with_name_again p text from left t h = rw h refl

unnamed_read : {from left : Tokens} {x : Named} → IsUnnamed from x left → Follows left → unnamed_at from ≡ Ok (x, left)
unnamed_read (unnamed {from = from} {left = left} {t = t} a) s = unnamed_again from left t (type_read a s.1) s.0
unnamed_read (with_name {p = p} {text = text} {from = from} {left = left} {t = t} a) s = with_name_again p text from left t (type_read a (name_no_handle text p left))

unnamed_begins : {from left : Tokens} {x : Named} → IsUnnamed from x left → next_is begins from ≡ true
unnamed_begins (unnamed a) = type_begins a
unnamed_begins (with_name a) = type_begins a

next_unnamed_again : (p : Position) (from left : Tokens) (x : Named) → unnamed_at from ≡ Ok (x, left) → next_unnamed_at ((sign signs.Comma, p) ∷ from) ≡ Ok (x, left)
unfolding next_unnamed_at
next_unnamed_again p from left x h = rw (expect_again signs.Comma p from) h

unnamed_follow : {from left : Tokens} {xs : List Named} → AreMoreUnnamed from xs left → Closes left → Follows from
unfolding next_is_name is_name next_is_sign is_sign same_sign
unnamed_follow (no_more_unnamed {left = left}) s = ends_follow left (close_ends left s).0
unnamed_follow (more_unnamed a b) s = (refl, refl)

more_unnamed_read : {from left : Tokens} {xs : List Named} → AreMoreUnnamed from xs left → Closes left → ReadsAll 0 (next_is_sign signs.Comma) next_unnamed_at from xs left
more_unnamed_read (no_more_unnamed {left = left}) s = none_again 0 (next_is_sign signs.Comma) next_unnamed_at left (close_ends left s).1
more_unnamed_read (more_unnamed {p = p} {from = from} {after = next} {left = left} {x = x} {xs = xs} a b) s =
    let l = unnamed_shorter a in
    one_again 0 (next_is_sign signs.Comma) next_unnamed_at ((sign signs.Comma, p) ∷ from) next left x xs (next_is_sign-again signs.Comma p from) (as_read (next_unnamed_again p from next x (unnamed_read a (unnamed_follow b s)))) (omega arith) (more_unnamed_read b s)

unnamed_list_read : {from left : Tokens} {xs : List Named} → AreUnnamed from xs left → unnamed_parameters_at from ≡ Ok (xs, left)
unfolding unnamed_parameters_at unnamed_list_at more_unnamed_at
unnamed_list_read (no_unnamed {p = p} {q = q} {left = left}) = rw (expect_again signs.OpenParenthesis p ((sign signs.CloseParenthesis, q) ∷ left), next_is_sign-again signs.CloseParenthesis q left, expect_again signs.CloseParenthesis q left) refl
unnamed_list_read (some_unnamed {p = p} {q = q} {from = from} {after = next} {left = left} {x = x} {xs = xs} a b) =
    let s = next_is_sign-again signs.CloseParenthesis q left in
    rw (expect_again signs.OpenParenthesis p from, begins_no_close from (unnamed_begins a), unnamed_read a (unnamed_follow b s), is_whole (more_unnamed_read b s (length next) (omega arith)) refl, expect_again signs.CloseParenthesis q left) refl

unnamed_opens : {from left : Tokens} {xs : List Named} → AreUnnamed from xs left → next_is_sign signs.OpenParenthesis from ≡ true
unfolding next_is_sign is_sign same_sign
unnamed_opens no_unnamed = refl
unnamed_opens (some_unnamed a b) = refl

property_again : (p : Position) (text : List ℕ) (from : Tokens) (t : Named) → result_type_at from ≡ Ok (Some t, (name text, p) ∷ []) → declaration_at from ≡ Ok (AProperty (record { place = p; of = t; name = text }), [])
unfolding declaration_at declaration_after next_is_sign
property_again p text from t h = rw (h, name_again text p []) refl

-- the declaration that tokens derive is read
declaration_read : {ts : Tokens} {d : Declaration} → Declares ts d → declaration_at ts ≡ Ok (d, [])
unfolding declaration_at declaration_after
declaration_read (signature {p = p} {text = text} {after = next} a b) = rw (result_type_read a (name_no_handle text p next), name_again text p next, unnamed_opens b, unnamed_list_read b) refl
declaration_read (property {p = p} {text = text} {from = from} {t = t} a) = property_again p text from t (result_type_read (typed a) (name_no_handle text p []))

pub whole_read : (ts : Tokens) (d : Declaration) → Declares ts d → whole_declaration_at ts ≡ Ok (d, [])
unfolding whole_declaration_at is_left
whole_read ts d h = rw (declaration_read h) refl

pub declarations_are_one : (ts : Tokens) (d e : Declaration) → whole_declaration_at ts ≡ Ok (d, []) → Declares ts e → d ≡ e
declarations_are_one ts d e h k = ap (λ (v : Declaration × Tokens). v.0) (ok_is (d, []) (e, []) (sym h ∙ whole_read ts e k))

pub declaration_memory : (all : List Token) (f : ParseFault) (ts : Tokens) (d : Declaration) → IsFault all f (whole_declaration_at ts) → Declares ts d → f ≡ faults.NoMemory
declaration_memory all f ts d h k = only_memory all f (whole_declaration_at ts) (d, []) h (whole_read ts d k)

-- tokens have one tree
pub one_module : (ts : Tokens) → HasOneModule ts
one_module ts xs ys d e = items_are_one ts xs ys (module_read ts xs d) e

pub one_declaration : (ts : Tokens) → HasOneDeclaration ts
one_declaration ts d e h k = declarations_are_one ts d e (whole_read ts d h) k
