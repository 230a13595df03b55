-- What is answered of a module or a declaration hangs only on the tokens that are taken and the next one.
use Rattle.std.proofs.Common.{◌≡◌, ℕ, ◌+◌, ◌≤◌, List, [], ◌∷◌, ◌++◌, length, Bool, true, false, cond, Option, Some, None, Ok, Err, refl, sym, ap, subst, ◌∙◌, append_assoc, length-append, arith}
use Rattle.ash_lex.specs.Tokens.{Meaning, name, number, sign, reserved, unsupported}
use Rattle.ash_lex.specs.declared.signs.Sign.TheVariants as signs
use Rattle.ash_lex.specs.declared.words.ReservedWord.TheVariants as words
use Rattle.ash_tree.specs.declared.tree.places.Position.{Position}
use Rattle.ash_tree.specs.Tree.{Element, Named, Member, AMethod, AField, AConstructor, AClass, AnInterface, AFunction, AGlobal, ASignature, AProperty}
use Rattle.ash_tree.specs.GrammarTokens.{Tokens}
use Rattle.ash_tree.specs.Types.{IsElement}
use Rattle.ash_parse.specs.SignTokens.{is_sign}
use Rattle.ash_parse.specs.Readers.{Halt, Unexpected, TooDeep, ParseResult, ◌>>=◌, next_is_sign, name_at}
use Rattle.ash_parse.specs.StatementReader.{is_name, next_is_name, is_vars, goes_on}
use Rattle.ash_parse.specs.ItemReader.{is_class, is_interface, parameters_at, body_at, without_first, is_constructor, constructor_at, member_at, members_at, next_interface_at, more_interfaces_at, listed_interfaces_at, interfaces_at, class_at, interface_method_at, interface_methods_at, interface_at, item_at, strip, entry_at, is_left, entries_at, module_at, unnamed_at, next_unnamed_at, more_unnamed_at, unnamed_list_at, unnamed_parameters_at, property_by, declaration_after, declaration_at}
use Rattle.ash_parse.specs.ParseFaults.{whole_declaration_at}
use Rattle.ash_parse.specs.FirstFault.{LeavesOpen}
use Rattle.ash_parse.proofs.ItemShorter.{member_shrinks, next_interface_shrinks, interface_method_shrinks, entry_shrinks, next_unnamed_shrinks, strip_shorter}
use Rattle.ash_parse.proofs.Rereading.{no_true}
use Rattle.ash_parse.proofs.Keeps.{differs_on, differs_off, no_cross, Past, Agree, reads, past, Inside, Clear, ends_before, Lawful, ok_lawful, bind_past, bind_lawful, put_lawful, Steady, sign_steady, Crosses, choice_lawful, if_lawful, IsNoArray, sign_no_array, Led, led_after, led_from, stop_lawful, led_if, led_lawful, expect_lawful, name_lawful, loop_lawful}
use Rattle.ash_parse.proofs.SameFaults.{not_deep_beyond, not_cut_inside, stops_alike, deep_alike}
use Rattle.ash_parse.proofs.Choices.{inside_element}
use Rattle.ash_parse.proofs.BeginLaws.{left_at}
use Rattle.ash_parse.proofs.KeepsFunctions.{result_lawful, parameters_lawful, body_lawful, either, either_lawful, either_takes}
use Rattle.ash_parse.proofs.KeepsStatements.{goes_on_steady, type_lawful}

constructor_lawful : Lawful constructor_at
unfolding constructor_at
constructor_lawful = bind_lawful _ name_lawful λ n. bind_lawful _ parameters_lawful λ xs. bind_lawful _ body_lawful λ b. ok_lawful (record { place = n.1; name = n.0; parameters = xs; body = b })

-- a member that is a method or fields
abbrev other_member : Tokens → ParseResult Member
other_member s = either AMethod AField s

abbrev a_constructor : Tokens → ParseResult Member
a_constructor s = constructor_at s >>= λ f. Ok (AConstructor f.0, f.1)

a_constructor_lawful : Lawful a_constructor
a_constructor_lawful = bind_lawful {read = constructor_at} (λ f. Ok (AConstructor f.0, f.1)) constructor_lawful (λ f. ok_lawful (AConstructor f))

begins_with_name : (m : Meaning) (p : Position) (s : Tokens) (Q : Meaning → Type 0) → is_constructor ((m, p) ∷ s) ≡ true → ((text : List ℕ) → Q (name text)) → Q m
unfolding is_constructor next_is_name is_name
begins_with_name (name text) p s Q h go = go text
begins_with_name (number n) p s Q h go = absurd (no_true h)
begins_with_name (sign n) p s Q h go = absurd (no_true h)
begins_with_name (reserved n) p s Q h go = absurd (no_true h)
begins_with_name (unsupported n) p s Q h go = absurd (no_true h)

constructor_steady : (a t : Meaning × Position) (more other prefix : Tokens) → is_constructor (a ∷ prefix ++ t ∷ more) ≡ is_constructor (a ∷ prefix ++ t ∷ other)
unfolding is_constructor next_is_name without_first
constructor_steady a t more other prefix = rw (sign_steady signs.OpenParenthesis t more other prefix) refl

constructor_takes : (text : List ℕ) (p : Position) (n : ℕ) (s : Tokens) → length s ≤ n → Past n (a_constructor ((name text, p) ∷ s))
unfolding constructor_at name_at
constructor_takes text p n s l =
    bind_past (λ f. Ok (AConstructor f.0, f.1)) n (parameters_at s >>= λ xs. body_at xs.1 >>= λ b. Ok (record { place = p; name = text; parameters = xs.0; body = b.0 }, b.1))
    (bind_past (λ xs. body_at xs.1 >>= λ b. Ok (record { place = p; name = text; parameters = xs.0; body = b.0 }, b.1)) n (parameters_at s) (parameters_lawful.stays n s l)
    (λ xs r k. bind_past (λ b. Ok (record { place = p; name = text; parameters = xs; body = b.0 }, b.1)) n (body_at r) (body_lawful.stays n r k) (λ b q j. j))) (λ f r k. k)

constructor_crosses : Crosses is_constructor a_constructor other_member
constructor_crosses (m, p) more other [] = (
  λ h k. begins_with_name m p more (λ w. Agree (w, p) more other (a_constructor ((w, p) ∷ more)) (other_member ((w, p) ∷ other))) h (λ text. past (constructor_takes text p (length more) more (omega arith)) (either_takes AMethod AField text p (length other) other (omega arith))),
  λ h k. begins_with_name m p other (λ w. Agree (w, p) more other (other_member ((w, p) ∷ more)) (a_constructor ((w, p) ∷ other))) k (λ text. past (either_takes AMethod AField text p (length more) more (omega arith)) (constructor_takes text p (length other) other (omega arith))),
)
constructor_crosses t more other (a ∷ prefix) =
    let s = a ∷ prefix ++ t ∷ more in
    let r = a ∷ prefix ++ t ∷ other in
    no_cross (is_constructor s) (is_constructor r) (Agree t more other (a_constructor s) (other_member r)) (Agree t more other (other_member s) (a_constructor r)) (constructor_steady a t more other prefix)

member_lawful : Lawful member_at
unfolding member_at
member_lawful = choice_lawful is_constructor constructor_crosses a_constructor_lawful (either_lawful AMethod AField)

members_lawful : Lawful members_at
unfolding members_at
members_lawful = loop_lawful goes_on member_at member_shrinks goes_on_steady member_lawful

next_interface_lawful : Lawful next_interface_at
unfolding next_interface_at
next_interface_lawful = bind_lawful _ (expect_lawful signs.Comma) λ c. bind_lawful _ name_lawful λ n. ok_lawful (record { place = n.1; name = n.0 })

more_interfaces_lawful : Lawful more_interfaces_at
unfolding more_interfaces_at
more_interfaces_lawful = loop_lawful (next_is_sign signs.Comma) next_interface_at next_interface_shrinks (sign_steady signs.Comma) next_interface_lawful

listed_interfaces_lawful : Lawful listed_interfaces_at
unfolding listed_interfaces_at
listed_interfaces_lawful = bind_lawful _ name_lawful λ n. put_lawful (record { place = n.1; name = n.0 }) more_interfaces_lawful

interfaces_lawful : Lawful interfaces_at
unfolding interfaces_at
interfaces_lawful = if_lawful _ (sign_steady signs.Colon) (bind_lawful _ (expect_lawful signs.Colon) λ c. listed_interfaces_lawful) (ok_lawful [])

class_lawful : Lawful class_at
unfolding class_at
class_lawful = bind_lawful _ name_lawful λ n. bind_lawful _ interfaces_lawful λ is. bind_lawful _ (expect_lawful signs.OpenBrace) λ o. bind_lawful _ members_lawful λ xs. bind_lawful _ (expect_lawful signs.CloseBrace) λ z. ok_lawful (record { place = n.1; name = n.0; interfaces = is; members = xs })

interface_method_lawful : Lawful interface_method_at
unfolding interface_method_at
interface_method_lawful = bind_lawful _ result_lawful λ r. bind_lawful _ name_lawful λ n. bind_lawful _ parameters_lawful λ xs. bind_lawful _ (expect_lawful signs.Semicolon) λ z. ok_lawful (record { place = n.1; result = r; name = n.0; parameters = xs })

interface_methods_lawful : Lawful interface_methods_at
unfolding interface_methods_at
interface_methods_lawful = loop_lawful goes_on interface_method_at interface_method_shrinks goes_on_steady interface_method_lawful

interface_lawful : Lawful interface_at
unfolding interface_at
interface_lawful = bind_lawful _ name_lawful λ n. bind_lawful _ (expect_lawful signs.OpenBrace) λ o. bind_lawful _ interface_methods_lawful λ xs. bind_lawful _ (expect_lawful signs.CloseBrace) λ z. ok_lawful (record { place = n.1; name = n.0; methods = xs })

class_no_array : (m : Meaning) → is_class m ≡ true → IsNoArray m
unfolding is_class
class_no_array (reserved words.Array) e = no_true e
class_no_array m e = tt

interface_no_array : (m : Meaning) → is_interface m ≡ true → IsNoArray m
unfolding is_interface
interface_no_array (reserved words.Array) e = no_true e
interface_no_array m e = tt

item_led : (m : Meaning) (p : Position) → Led (m, p) (λ s. item_at ((m, p) ∷ s))
unfolding item_at
item_led m p =
    led_if (is_class m) (λ e. led_after (class_no_array m e) (bind_lawful _ class_lawful λ c. ok_lawful (AClass c)))
    (led_if (is_interface m) (λ e. led_after (interface_no_array m e) (bind_lawful _ interface_lawful λ i. ok_lawful (AnInterface i)))
    (led_from {read = either AFunction AGlobal} (either_lawful AFunction AGlobal)))

item_lawful : Lawful item_at
unfolding item_at
item_lawful = led_lawful (λ n. omega arith) item_led

strip_lawful : {A : Type 0} (x : A) → Lawful (λ s. Ok (x, strip s))
unfolding strip
strip_lawful {A} x = record { keeps = in_prefix; stays = λ n s h. let e : length (strip s) ≤ length s = strip_shorter s in omega arith; clears = cleared }
  where
    first : (b : Bool) (t : Meaning × Position) (more other : Tokens) → Agree t more other (Ok (x, cond b (strip more) (t ∷ more))) (Ok (x, cond b (strip other) (t ∷ other)))
    first true t more other = past (strip_shorter more) (strip_shorter other)
    first false t more other = reads x []

    next : (b : Bool) (a t : Meaning × Position) (more other prefix : Tokens) → Agree t more other (Ok (x, strip (prefix ++ t ∷ more))) (Ok (x, strip (prefix ++ t ∷ other))) →
        Agree t more other (Ok (x, cond b (strip (prefix ++ t ∷ more)) (a ∷ prefix ++ t ∷ more))) (Ok (x, cond b (strip (prefix ++ t ∷ other)) (a ∷ prefix ++ t ∷ other)))
    next true a t more other prefix ih = ih
    next false a t more other prefix ih = reads x (a ∷ prefix)

    in_prefix : (t : Meaning × Position) (more other prefix : Tokens) → Agree t more other (Ok (x, strip (prefix ++ t ∷ more))) (Ok (x, strip (prefix ++ t ∷ other)))
    in_prefix (m, p) more other [] = first (is_sign signs.Semicolon m) (m, p) more other
    in_prefix t more other ((m, p) ∷ prefix) = next (is_sign signs.Semicolon m) (m, p) t more other prefix (in_prefix t more other prefix)

    first_clear : (b : Bool) (m : Meaning) (p : Position) (more : Tokens) (n : ℕ) → is_sign signs.Semicolon m ≡ b → Inside (m, p) more n → Clear (m, p) more n (Ok (x, cond b (strip more) ((m, p) ∷ more)))
    first_clear true m p more n e i = absurd (subst (λ w. IsNoArray w) i.is_word (sign_no_array signs.Semicolon m e))
    first_clear false m p more n e i = ends_before x []

    next_clear : (b : Bool) (a t : Meaning × Position) (more prefix : Tokens) (n : ℕ) → Clear t more n (Ok (x, strip (prefix ++ t ∷ more))) → Clear t more n (Ok (x, cond b (strip (prefix ++ t ∷ more)) (a ∷ prefix ++ t ∷ more)))
    next_clear true a t more prefix n ih = ih
    next_clear false a t more prefix n ih = ends_before x (a ∷ prefix)

    cleared : (t : Meaning × Position) (more : Tokens) (n : ℕ) (prefix : Tokens) → Inside t more n → Clear t more n (Ok (x, strip (prefix ++ t ∷ more)))
    cleared (m, p) more n [] i = first_clear (is_sign signs.Semicolon m) m p more n refl i
    cleared t more n ((m, p) ∷ prefix) i = next_clear (is_sign signs.Semicolon m) (m, p) t more prefix n (cleared t more n prefix i)

entry_lawful : Lawful entry_at
unfolding entry_at
entry_lawful = bind_lawful (λ x. Ok (x.0, strip x.1)) item_lawful strip_lawful

left_steady : Steady is_left
unfolding is_left
left_steady t more other [] = refl
left_steady t more other (a ∷ prefix) = refl

entries_lawful : Lawful entries_at
unfolding entries_at
entries_lawful = loop_lawful is_left entry_at entry_shrinks left_steady entry_lawful

pub module_lawful : Lawful module_at
unfolding module_at
module_lawful = bind_lawful {read = λ s. Ok (tt {0}, strip s)} (λ x. entries_at x.1) (strip_lawful (tt {0})) (λ x. entries_lawful)

name_no_array : (m : Meaning) → is_name m ≡ true → IsNoArray m
unfolding is_name
name_no_array (reserved words.Array) e = no_true e
name_no_array m e = tt

optional_name : (t : Named) → Lawful (λ s. Ok (t, cond (next_is_name s) (without_first s) s))
unfolding next_is_name without_first
optional_name t = led_lawful (λ n. omega arith) (λ m p. by_token (is_name m) m p refl)
  where
    by_token : (b : Bool) (m : Meaning) (p : Position) → is_name m ≡ b → Led (m, p) (λ s. Ok (t, cond b s ((m, p) ∷ s)))
    by_token true m p e = led_after (name_no_array m e) (ok_lawful t)
    by_token false m p e = led_from (ok_lawful t)

unnamed_lawful : Lawful unnamed_at
unfolding unnamed_at
unnamed_lawful = bind_lawful _ type_lawful optional_name

next_unnamed_lawful : Lawful next_unnamed_at
unfolding next_unnamed_at
next_unnamed_lawful = bind_lawful _ (expect_lawful signs.Comma) λ c. unnamed_lawful

more_unnamed_lawful : Lawful more_unnamed_at
unfolding more_unnamed_at
more_unnamed_lawful = loop_lawful (next_is_sign signs.Comma) next_unnamed_at next_unnamed_shrinks (sign_steady signs.Comma) next_unnamed_lawful

unnamed_list_lawful : Lawful unnamed_list_at
unfolding unnamed_list_at
unnamed_list_lawful = if_lawful _ (sign_steady signs.CloseParenthesis) (ok_lawful []) (bind_lawful _ unnamed_lawful λ x. put_lawful x more_unnamed_lawful)

unnamed_parameters_lawful : Lawful unnamed_parameters_at
unfolding unnamed_parameters_at
unnamed_parameters_lawful = bind_lawful _ (expect_lawful signs.OpenParenthesis) λ o. bind_lawful _ unnamed_list_lawful λ xs. bind_lawful _ (expect_lawful signs.CloseParenthesis) λ z. ok_lawful xs

property_lawful : (r : Option Named) (p : Position) (text : List ℕ) → Lawful (property_by r p text)
property_lawful (Some t) p text = ok_lawful (AProperty (record { place = p; of = t; name = text }))
property_lawful None p text = stop_lawful

declaration_after_lawful : (r : Option Named) (p : Position) (text : List ℕ) → Lawful (declaration_after r p text)
unfolding declaration_after
declaration_after_lawful r p text = if_lawful _ (sign_steady signs.OpenParenthesis) (bind_lawful _ unnamed_parameters_lawful λ xs. ok_lawful (ASignature (record { place = p; result = r; name = text; parameters = xs }))) (property_lawful r p text)

declaration_lawful : Lawful declaration_at
unfolding declaration_at
declaration_lawful = bind_lawful _ result_lawful λ r. bind_lawful _ name_lawful λ n. declaration_after_lawful r n.1 n.0

pub whole_declaration_lawful : Lawful whole_declaration_at
unfolding whole_declaration_at
whole_declaration_lawful = bind_lawful _ declaration_lawful λ d. if_lawful is_left left_steady stop_lawful (ok_lawful d)

-- where a token fits nowhere, what is after it changes nothing
pub keeps_unexpected : (prefix more other : Tokens) (t : Meaning × Position) → module_at (prefix ++ t ∷ more) ≡ Err (Unexpected (t ∷ more)) → module_at (prefix ++ t ∷ other) ≡ Err (Unexpected (t ∷ other))
keeps_unexpected prefix more other t h = stops_alike t more other (module_lawful.keeps t more other prefix) h

-- where a token is too deep, what is after those that decide what it begins changes nothing
pub keeps_too_deep : (prefix seen more other : Tokens) (t u : Meaning × Position) → is_vars (t ∷ (seen ++ u ∷ more)) ≡ is_vars (t ∷ (seen ++ u ∷ other)) → module_at (prefix ++ t ∷ (seen ++ u ∷ more)) ≡ Err (TooDeep (t ∷ (seen ++ u ∷ more))) → module_at (prefix ++ t ∷ (seen ++ u ∷ other)) ≡ Err (TooDeep (t ∷ (seen ++ u ∷ other)))
keeps_too_deep prefix seen more other t u same h =
    let regroup : (s : Tokens) → (prefix ++ t ∷ seen) ++ s ≡ prefix ++ t ∷ (seen ++ s) = λ s. append_assoc prefix (t ∷ seen) s in
    ap module_at (sym (regroup (u ∷ other))) ∙ deep_alike (t ∷ seen) u more other (module_lawful.keeps u more other (prefix ++ t ∷ seen)) (λ v w. differs_off (is_vars (t ∷ (seen ++ u ∷ more))) (is_vars (t ∷ (seen ++ u ∷ other))) v w same) (ap module_at (regroup (u ∷ more)) ∙ h)

-- where a token is too deep, so it does with any others after it, as long as it begins no declaration with them
pub keeps_deep : (prefix more other : Tokens) (t : Meaning × Position) → is_vars (t ∷ other) ≡ false → module_at (prefix ++ t ∷ more) ≡ Err (TooDeep (t ∷ more)) → module_at (prefix ++ t ∷ other) ≡ Err (TooDeep (t ∷ other))
keeps_deep prefix more other t v h = deep_alike [] t more other (module_lawful.keeps t more other prefix) (λ u w. differs_on (is_vars (t ∷ other)) (is_vars (t ∷ other)) w v refl) h

-- where reading stops after what leaves open what a token begins, the token is too deep with no others after it
pub keeps_not_deep : (prefix seen other : Tokens) (t : Meaning × Position) (halt : Halt) → LeavesOpen t seen → module_at (prefix ++ t ∷ (seen ++ left_at halt)) ≡ Err halt → module_at (prefix ++ t ∷ other) ≡ Err (TooDeep (t ∷ other)) → ⊥
keeps_not_deep prefix seen other t halt leaves h k = not_deep_beyond t (seen ++ left_at halt) other seen halt leaves refl (module_lawful.keeps t (seen ++ left_at halt) other prefix) h k

-- no token is too deep inside an array's `"<" elem ">"`
pub none_deep_inside : (prefix seen rest tail : Tokens) (t u : Meaning × Position) (of : Element) → t.0 ≡ reserved words.Array → IsElement (seen ++ u ∷ tail) of [] → module_at (prefix ++ t ∷ (seen ++ u ∷ rest)) ≡ Err (TooDeep (u ∷ rest)) → ⊥
none_deep_inside prefix seen rest tail t u of w d h =
    let n : length (seen ++ u ∷ rest) ≡ length seen + length (u ∷ rest) = length-append seen (u ∷ rest) in
    not_cut_inside t (seen ++ u ∷ rest) (u ∷ rest) (omega arith) (module_lawful.clears t (seen ++ u ∷ rest) (length (u ∷ rest)) prefix (inside_element t seen tail rest u of w d)) h

pub keeps_unexpected_declaration : (prefix more other : Tokens) (t : Meaning × Position) → whole_declaration_at (prefix ++ t ∷ more) ≡ Err (Unexpected (t ∷ more)) → whole_declaration_at (prefix ++ t ∷ other) ≡ Err (Unexpected (t ∷ other))
keeps_unexpected_declaration prefix more other t h = stops_alike t more other (whole_declaration_lawful.keeps t more other prefix) h
