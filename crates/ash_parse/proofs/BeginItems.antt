-- What is before the place where the reading of a module stops begins a module; and where a token is too deep, so
-- does what is before it with the token.
use Rattle.std.proofs.Common.{◌≡◌, ℕ, suc, ◌+◌, List, [], ◌∷◌, ◌++◌, Bool, true, false, cond, Some, None, Ok, Err, refl, sym, ap, subst, ◌∙◌, append_assoc, length, arith}
use Rattle.std.proofs.lemmas.List.{append-nil}
use Rattle.ash_lex.specs.Tokens.{Meaning, name, sign, reserved}
use Rattle.ash_lex.specs.declared.signs.Sign.TheVariants as signs
use Rattle.ash_lex.specs.declared.words.ReservedWord.TheVariants as words
use Rattle.ash_tree.specs.declared.tree.places.Position.{Position}
use Rattle.ash_tree.specs.Tree.{Parameter, AMethod, AField, AConstructor, Item, AClass, AnInterface, AFunction, AGlobal}
use Rattle.ash_tree.specs.GrammarTokens.{Tokens}
use Rattle.ash_tree.specs.Expressions.{max_depth}
use Rattle.ash_tree.specs.Types.{IsType}
use Rattle.ash_tree.specs.Statements.{IsVars, IsBlock}
use Rattle.ash_tree.specs.Grammar.{IsResultType, void, typed, IsParameter, parameter, AreMoreParameters, no_more_parameters, more_parameters, AreParameters, no_parameters, parameters, IsFunction, function, IsMember, method, fields, constructor, AreMembers, no_members, more_members, IsClass, class, IsItem, a_class, a_function, globals, Derives, no_items, semicolon, item, AreMoreInterfaces, no_more_interfaces, more_interfaces, AreInterfaces, no_interfaces, interfaces, IsInterfaceMethod, interface_method, AreInterfaceMethods, no_interface_methods, more_interface_methods, IsInterface, interface, an_interface}
use Rattle.ash_parse.specs.SignTokens.{is_sign}
use Rattle.ash_parse.specs.Readers.{Halt, Unexpected, TooDeep, ParseResult, ◌>>=◌, next_is_sign}
use Rattle.ash_parse.specs.ExpressionReader.{below_at}
use Rattle.ash_parse.specs.StatementReader.{type_at, is_vars, goes_on, nested_at}
use Rattle.ash_parse.specs.ItemReader.{is_void, is_class, is_interface, result_type_at, parameter_at, next_parameter_at, more_parameters_at, parameter_list_at, parameters_at, body_at, function_at, globals_at, is_function, is_constructor, constructor_at, member_at, members_at, next_interface_at, more_interfaces_at, listed_interfaces_at, interfaces_at, class_at, interface_method_at, interface_methods_at, interface_at, other_item_at, item_at, strip, entry_at, is_left, entries_at, module_at}
use Rattle.ash_parse.proofs.Readings.{sign_is}
use Rattle.ash_parse.proofs.ItemSound.{void_is, class_is, interface_is}
use Rattle.ash_parse.proofs.StatementSound.{nested_sound}
use Rattle.ash_parse.proofs.BeginLaws.{left_at, GoesOn, Stopped, Law, Filled, Explained, Then, After, Grows, Ending, then, law_as, done, fill_here, stops_here, after, fill_after, either, explain_either, sign_then, name_then, put_law, all_of, nowhere, some_name}
use Rattle.ash_parse.proofs.BeginExpressions.{begin_whole, begin_part}
use Rattle.ash_parse.proofs.BeginTypes.{begin_type}
use Rattle.ash_parse.proofs.BeginStatements.{begin_declared, begin_block}
use Rattle.ash_parse.proofs.BeginNested.{begin_nested}

fill_result : Filled (λ free. IsResultType)
fill_result = fill_after _ (reserved words.Void, nowhere) (fill_here _ None (λ free left. void))

pub begin_result_type : (ts : Tokens) → Law (result_type_at ts) ts (λ free. IsResultType)
unfolding result_type_at
begin_result_type [] = stops_here (λ free. IsResultType) [] fill_result
begin_result_type ((m, p) ∷ ts) = record {
  explained = explain_either (is_void m) (Ok (None, ts)) (type_at ((m, p) ∷ ts) >>= λ t. Ok (Some t.0, t.1)) ((m, p) ∷ ts) (λ free. IsResultType)
      (λ b. subst (λ w. Explained (Ok (None, ts)) ((w, p) ∷ ts) (λ free. IsResultType)) (sym (void_is m b)) (after (λ free. IsResultType) (reserved words.Void, p) (Ok (None, ts)) ts (done _ None ts (λ free left. void))).explained)
      (λ b. (then (λ free. IsType) (λ free. IsResultType) (type_at ((m, p) ∷ ts)) (λ t. Ok (Some t.0, t.1)) ((m, p) ∷ ts) (begin_type ((m, p) ∷ ts)) (λ t r. done _ (Some t) r (λ free left before d. typed d))).explained);
  filled = fill_result;
}

begin_parameter : (ts : Tokens) → Law (parameter_at ts) ts (λ free. IsParameter)
unfolding parameter_at
begin_parameter ts =
    then (λ free. IsType) _ (type_at ts) _ ts (begin_type ts)
    (λ t r. name_then _ _ r
    (λ n s. done _ (record { of = t; place = n.1; name = n.0 }) s (λ free left before d. parameter d)))

begin_next_parameter : (ts : Tokens) → Law (next_parameter_at ts) ts (Grows (λ free. AreMoreParameters))
unfolding next_parameter_at
begin_next_parameter ts =
    sign_then _ signs.Comma _ ts
    (λ p r. law_as (λ free. IsParameter) _ (λ free from x left d xs end more. more_parameters d more) (parameter_at r) r (begin_parameter r))

begin_more_parameters : (ts : Tokens) → Law (more_parameters_at ts) ts (λ free. AreMoreParameters)
unfolding more_parameters_at
begin_more_parameters ts = all_of (next_is_sign signs.Comma) next_parameter_at (λ free. AreMoreParameters) (λ free left. no_more_parameters) (λ s b. (begin_next_parameter s).explained) (length ts) ts

-- [ type NAME { "," type NAME } ]
data AreListed : Tokens → List Parameter → Tokens → Type 0 where
  none : {left : Tokens} → AreListed left [] left
  some : {from after left : Tokens} {x : Parameter} {xs : List Parameter} → IsParameter from x after → AreMoreParameters after xs left → AreListed from (x ∷ xs) left

listed : {p q : Position} {from left : Tokens} {xs : List Parameter} → AreListed from xs ((sign signs.CloseParenthesis, q) ∷ left) → AreParameters ((sign signs.OpenParenthesis, p) ∷ from) xs left
listed none = no_parameters
listed (some x xs) = parameters x xs

begin_parameter_list : (ts : Tokens) → Law (parameter_list_at ts) ts (λ free. AreListed)
unfolding parameter_list_at
begin_parameter_list ts =
    either (next_is_sign signs.CloseParenthesis ts) _ _ ts _
    (done _ [] ts (λ free left. none))
    (then (λ free. IsParameter) _ (parameter_at ts) _ ts (begin_parameter ts)
    (λ x r. put_law (λ free. AreMoreParameters) _ x (λ free from xs left more before d. some d more) (more_parameters_at r) r (begin_more_parameters r)))

begin_parameters : (ts : Tokens) → Law (parameters_at ts) ts (λ free. AreParameters)
unfolding parameters_at
begin_parameters ts =
    sign_then _ signs.OpenParenthesis _ ts
    (λ p r. then (λ free. AreListed) _ (parameter_list_at r) _ r (begin_parameter_list r)
    (λ xs s. sign_then _ signs.CloseParenthesis _ s
    (λ q t. done _ xs t (λ free left before d. listed d))))

begin_body : (ts : Tokens) → Law (body_at ts) ts (λ free. IsBlock free 0)
unfolding body_at
begin_body ts = begin_block 0 (below_at max_depth) (nested_at max_depth) (begin_whole max_depth 0 refl) (begin_part max_depth 0 refl) (begin_nested max_depth 0 refl) (λ s x rest h. (nested_sound max_depth 0 refl s x rest h).1) ts

begin_function : (ts : Tokens) → Law (function_at ts) ts IsFunction
unfolding function_at
begin_function ts =
    then (λ free. IsResultType) _ (result_type_at ts) _ ts (begin_result_type ts)
    (λ r a. name_then _ _ a
    (λ n b. then (λ free. AreParameters) _ (parameters_at b) _ b (begin_parameters b)
    (λ xs c. then (λ free. IsBlock free 0) _ (body_at c) _ c (begin_body c)
    (λ body d. done _ (record { place = n.1; result = r; name = n.0; parameters = xs; body = body }) d (λ free left third k second ps first t. function t ps k)))))

begin_globals : (ts : Tokens) → Law (globals_at ts) ts (Ending signs.Semicolon (λ free. IsVars free 0))
unfolding globals_at
begin_globals ts = begin_declared 0 (below_at max_depth) (begin_whole max_depth 0 refl) (begin_part max_depth 0 refl) ts

begin_constructor : (ts : Tokens) → Law (constructor_at ts) ts (λ free from x left. IsMember free from (AConstructor x) left)
unfolding constructor_at
begin_constructor ts =
    name_then _ _ ts
    (λ n b. then (λ free. AreParameters) _ (parameters_at b) _ b (begin_parameters b)
    (λ xs c. then (λ free. IsBlock free 0) _ (body_at c) _ c (begin_body c)
    (λ body d. done _ (record { place = n.1; name = n.0; parameters = xs; body = body }) d (λ free left second k first ps. constructor ps k))))

begin_member : (ts : Tokens) → Law (member_at ts) ts IsMember
unfolding member_at
begin_member ts =
    either (is_constructor ts) _ _ ts _
    (then (λ free from x left. IsMember free from (AConstructor x) left) _ (constructor_at ts) _ ts (begin_constructor ts) (λ f r. done _ (AConstructor f) r (λ free left before d. d)))
    (either (is_function ts) _ _ ts _
    (then IsFunction _ (function_at ts) _ ts (begin_function ts) (λ f r. done _ (AMethod f) r (λ free left before d. method d)))
    (then (Ending signs.Semicolon (λ free. IsVars free 0)) _ (globals_at ts) _ ts (begin_globals ts) (λ v r. done _ (AField v) r (λ free left before d. fields d.1))))

begin_members : (ts : Tokens) → Law (members_at ts) ts AreMembers
unfolding members_at
begin_members ts =
    all_of goes_on member_at AreMembers (λ free left. no_members)
    (λ s b. (law_as IsMember (Grows AreMembers) (λ free from x left d xs end more. more_members d more) (member_at s) s (begin_member s)).explained) (length ts) ts

begin_next_interface : (ts : Tokens) → Law (next_interface_at ts) ts (Grows (λ free. AreMoreInterfaces))
unfolding next_interface_at
begin_next_interface ts =
    sign_then _ signs.Comma _ ts
    (λ p r. name_then _ _ r
    (λ n s. done _ (record { place = n.1; name = n.0 }) s (λ free left xs end more. more_interfaces more)))

begin_more_interfaces : (ts : Tokens) → Law (more_interfaces_at ts) ts (λ free. AreMoreInterfaces)
unfolding more_interfaces_at
begin_more_interfaces ts = all_of (next_is_sign signs.Comma) next_interface_at (λ free. AreMoreInterfaces) (λ free left. no_more_interfaces) (λ s b. (begin_next_interface s).explained) (length ts) ts

begin_listed_interfaces : (p : Position) (ts : Tokens) → Law (listed_interfaces_at ts) ts (After (sign signs.Colon, p) (λ free. AreInterfaces))
unfolding listed_interfaces_at
begin_listed_interfaces p ts =
    name_then _ _ ts
    (λ n r. put_law (λ free. AreMoreInterfaces) _ (record { place = n.1; name = n.0 }) (λ free from xs left more. interfaces more) (more_interfaces_at r) r (begin_more_interfaces r))

begin_interfaces : (ts : Tokens) → Law (interfaces_at ts) ts (λ free. AreInterfaces)
unfolding interfaces_at
begin_interfaces ts =
    either (next_is_sign signs.Colon ts) _ _ ts _
    (sign_then _ signs.Colon _ ts begin_listed_interfaces)
    (done _ [] ts (λ free left. no_interfaces))

begin_class : (p : Position) (ts : Tokens) → Law (class_at ts) ts (After (reserved words.Class, p) IsClass)
unfolding class_at
begin_class p ts =
    name_then _ _ ts
    (λ n a. then (λ free. AreInterfaces) _ (interfaces_at a) _ a (begin_interfaces a)
    (λ is b. sign_then _ signs.OpenBrace _ b
    (λ o c. then AreMembers _ (members_at c) _ c (begin_members c)
    (λ xs d. sign_then _ signs.CloseBrace _ d
    (λ z e. done _ (record { place = n.1; name = n.0; interfaces = is; members = xs }) e (λ free left before ms first i. class i ms))))))

begin_interface_method : (ts : Tokens) → Law (interface_method_at ts) ts (λ free. IsInterfaceMethod)
unfolding interface_method_at
begin_interface_method ts =
    then (λ free. IsResultType) _ (result_type_at ts) _ ts (begin_result_type ts)
    (λ r a. name_then _ _ a
    (λ n b. then (λ free. AreParameters) _ (parameters_at b) _ b (begin_parameters b)
    (λ xs c. sign_then _ signs.Semicolon _ c
    (λ z d. done _ (record { place = n.1; result = r; name = n.0; parameters = xs }) d (λ free left second ps first t. interface_method t ps)))))

begin_interface_methods : (ts : Tokens) → Law (interface_methods_at ts) ts (λ free. AreInterfaceMethods)
unfolding interface_methods_at
begin_interface_methods ts =
    all_of goes_on interface_method_at (λ free. AreInterfaceMethods) (λ free left. no_interface_methods)
    (λ s b. (law_as (λ free. IsInterfaceMethod) (Grows (λ free. AreInterfaceMethods)) (λ free from x left d xs end more. more_interface_methods d more) (interface_method_at s) s (begin_interface_method s)).explained) (length ts) ts

begin_interface : (p : Position) (ts : Tokens) → Law (interface_at ts) ts (After (reserved words.Interface, p) (λ free. IsInterface))
unfolding interface_at
begin_interface p ts =
    name_then _ _ ts
    (λ n a. sign_then _ signs.OpenBrace _ a
    (λ o b. then (λ free. AreInterfaceMethods) _ (interface_methods_at b) _ b (begin_interface_methods b)
    (λ xs c. sign_then _ signs.CloseBrace _ c
    (λ z d. done _ (record { place = n.1; name = n.0; methods = xs }) d (λ free left before ms. interface ms)))))

-- a class without members
fill_item : Filled IsItem
fill_item =
    fill_after _ (reserved words.Class, nowhere) (fill_after _ (name some_name, nowhere) (fill_after _ (sign signs.OpenBrace, nowhere) (fill_after _ (sign signs.CloseBrace, nowhere)
    (fill_here _ (AClass (record { place = nowhere; name = some_name; interfaces = []; members = [] })) (λ free left. a_class (class no_interfaces no_members))))))

begin_other_item : (ts : Tokens) → Law (other_item_at ts) ts IsItem
begin_other_item ts =
    either (is_function ts) (function_at ts >>= λ f. Ok (AFunction f.0, f.1)) (globals_at ts >>= λ v. Ok (AGlobal v.0, v.1)) ts IsItem
    (then IsFunction _ (function_at ts) _ ts (begin_function ts) (λ f r. done _ (AFunction f) r (λ free left before d. a_function d)))
    (then (Ending signs.Semicolon (λ free. IsVars free 0)) _ (globals_at ts) _ ts (begin_globals ts) (λ v r. done _ (AGlobal v) r (λ free left before d. globals d.1)))

begin_item : (ts : Tokens) → Law (item_at ts) ts IsItem
unfolding item_at
begin_item [] = stops_here IsItem [] fill_item
begin_item ((m, p) ∷ ts) =
    let u : Tokens = (m, p) ∷ ts in
    record {
      explained = explain_either (is_class m) (class_at ts >>= λ c. Ok (AClass c.0, c.1)) (cond (is_interface m) (interface_at ts >>= λ i. Ok (AnInterface i.0, i.1)) (other_item_at u)) u IsItem
          (λ b. subst (λ w. Explained (class_at ts >>= λ c. Ok (AClass c.0, c.1)) ((w, p) ∷ ts) IsItem) (sym (class_is m b))
          (after IsItem (reserved words.Class, p) (class_at ts >>= λ c. Ok (AClass c.0, c.1)) ts (then (After (reserved words.Class, p) IsClass) _ (class_at ts) _ ts (begin_class p ts) (λ c r. done _ (AClass c) r (λ free left before d. a_class d)))).explained)
          (λ b. explain_either (is_interface m) (interface_at ts >>= λ i. Ok (AnInterface i.0, i.1)) (other_item_at u) u IsItem
          (λ c. subst (λ w. Explained (interface_at ts >>= λ i. Ok (AnInterface i.0, i.1)) ((w, p) ∷ ts) IsItem) (sym (interface_is m c))
          (after IsItem (reserved words.Interface, p) (interface_at ts >>= λ i. Ok (AnInterface i.0, i.1)) ts (then (After (reserved words.Interface, p) (λ free. IsInterface)) _ (interface_at ts) _ ts (begin_interface p ts) (λ i r. done _ (AnInterface i) r (λ free left before d. an_interface d)))).explained)
          (λ c. (begin_other_item u).explained));
      filled = fill_item;
    }

-- each ";" that the tokens begin with changes nothing
record Stripped (ts : Tokens) : Type 0 where
  semicolons : Tokens
  all : ts ≡ semicolons ++ strip ts
  is : (free : ℕ) (left : Tokens) (xs : List Item) → Derives free left xs → Derives free (semicolons ++ left) xs

stripped : (ts : Tokens) → Stripped ts
unfolding strip
stripped [] = record { semicolons = []; all = refl; is = λ free left xs d. d }
stripped ((m, p) ∷ ts) =
    let s = stripped ts in
    let M : Bool → Type 0 = λ b. is_sign signs.Semicolon m ≡ b → (semicolons : Tokens) × ((m, p) ∷ ts ≡ semicolons ++ cond b (strip ts) ((m, p) ∷ ts)) × ((free : ℕ) (left : Tokens) (xs : List Item) → Derives free left xs → Derives free (semicolons ++ left) xs) in
    let r = (elim (is_sign signs.Semicolon m) as M [
      | true ↦ λ e. ((m, p) ∷ s.semicolons, ap (λ (r : Tokens). (m, p) ∷ r) s.all, λ free left xs d. subst (λ w. Derives free ((w, p) ∷ (s.semicolons ++ left)) xs) (sym (sign_is signs.Semicolon m e)) (semicolon (s.is free left xs d)))
      | false ↦ λ e. ([], refl, λ free left xs d. d)
    ]) refl in
    record { semicolons = r.0; all = r.1; is = r.2 }

-- with an end that is a module with no items, the whole is one
abbrev Leads : ℕ → Tokens → List Item → Tokens → Type 0
Leads free from xs left = Derives free left [] → Derives free from xs

begin_stripped : (x : Item) (ts : Tokens) → Law (Ok (x, strip ts)) ts (Then IsItem (Grows Leads) x)
begin_stripped x ts =
    let s = stripped ts in
    record {
      explained = record { taken = s.semicolons; all = s.all; is = λ free left before d xs end more last. item d (s.is free left xs (more last)) };
      filled = fill_here _ x (λ free left before d xs end more last. item d (more last));
    }

begin_entry : (ts : Tokens) → Law (entry_at ts) ts (Grows Leads)
unfolding entry_at
begin_entry ts = then IsItem (Grows Leads) (item_at ts) (λ x. Ok (x.0, strip x.1)) ts (begin_item ts) (λ x r. begin_stripped x r)

begin_entries : (ts : Tokens) → Law (entries_at ts) ts Leads
unfolding entries_at
begin_entries ts = all_of is_left entry_at Leads (λ free left d. d) (λ s b. (begin_entry s).explained) (length ts) ts

pub stops_with : {A : Type 0} (o : ParseResult A) (h : Halt) (ts : Tokens) (P : ℕ → Tokens → A → Tokens → Type 0) → o ≡ Err h → Explained o ts P → Stopped ts h P
stops_with o h ts P e x = subst (λ r. Explained r ts P) e x

-- where reading stops, the tokens before begin a module, which goes on with the token that is too deep, if one does
pub record StopsModule (all : Tokens) (h : Halt) : Type 0 where
  pub prefix : Tokens
  pub is_all : all ≡ prefix ++ left_at h
  pub tail : Tokens
  pub goes_on : GoesOn h tail
  pub items : List Item
  pub derived : Derives (length tail) (prefix ++ tail) items

pub stops_module : (all : Tokens) (h : Halt) → module_at all ≡ Err h → StopsModule all h
unfolding module_at
stops_module all h e =
    let s = stripped all in
    let r = stops_with (entries_at (strip all)) h (strip all) Leads e (begin_entries (strip all)).explained in
    let n : length r.tail + 0 ≡ length r.tail = omega arith in
    let d : Derives (length r.tail + 0) (r.prefix ++ (r.tail ++ [])) r.tree = r.is [] no_items in
    let k : Derives (length r.tail) (r.prefix ++ (r.tail ++ [])) r.tree = subst (λ free. Derives free (r.prefix ++ (r.tail ++ [])) r.tree) n d in
    let w : Derives (length r.tail) (r.prefix ++ r.tail) r.tree = subst (λ (l : Tokens). Derives (length r.tail) (r.prefix ++ l) r.tree) (append-nil r.tail) k in
    record {
      prefix = s.semicolons ++ r.prefix;
      is_all = s.all ∙ ap (λ (l : Tokens). s.semicolons ++ l) r.all ∙ sym (append_assoc s.semicolons r.prefix (left_at h));
      tail = r.tail;
      goes_on = r.goes_on;
      items = r.tree;
      derived = subst (λ (l : Tokens). Derives (length r.tail) l r.tree) (sym (append_assoc s.semicolons r.prefix r.tail)) (s.is (length r.tail) (r.prefix ++ r.tail) r.tree w);
    }

-- what is before the place where reading stops begins a module within the depth
pub begun : (ts rest : Tokens) → module_at ts ≡ Err (Unexpected rest) → (prefix : Tokens) × (ts ≡ prefix ++ rest) × ((tail : Tokens) × (items : List Item) × Derives (length tail) (prefix ++ tail) items)
begun ts rest e = let s = stops_module ts (Unexpected rest) e in (s.prefix, s.is_all, (s.tail, s.items, s.derived))

-- where a token is too deep, a module goes on with it that has only this token and those after too deep, and there it
-- begins no declaration of variables
pub begun_deep : (ts rest : Tokens) (t : Meaning × Position) → module_at ts ≡ Err (TooDeep (t ∷ rest)) → (prefix : Tokens) × (tail : Tokens) × (items : List Item) × (ts ≡ prefix ++ t ∷ rest) × (is_vars (t ∷ tail) ≡ false) × Derives (suc (length tail)) (prefix ++ t ∷ tail) items
begun_deep ts rest t e =
    let s = stops_module ts (TooDeep (t ∷ rest)) e in
    let tail = s.goes_on.0 in
    let no_vars : is_vars ((t ∷ tail) ++ []) ≡ false = subst (λ (l : Tokens). is_vars (l ++ []) ≡ false) s.goes_on.1 (s.goes_on.2 []) in
    (s.prefix, tail, s.items, s.is_all, subst (λ (l : Tokens). is_vars l ≡ false) (append-nil (t ∷ tail)) no_vars, subst (λ (l : Tokens). Derives (length l) (s.prefix ++ l) s.items) s.goes_on.1 s.derived)

-- what is too deep is a token
pub some_token_deep : (ts : Tokens) → module_at ts ≡ Err (TooDeep []) → ⊥
some_token_deep ts e = (stops_module ts (TooDeep []) e).goes_on
