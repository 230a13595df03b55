-- What decides whether tokens begin a declaration of variables: the token after the first, or after an array's
-- `"<" elem ">"`. Where two lists of tokens that begin alike differ in it, what they have in common leaves it open.
use Rattle.std.proofs.Common.{◌≡◌, ℕ, suc, ◌<◌, ◌≤◌, ◌⊎◌, inl, inr, List, [], ◌∷◌, ◌++◌, length, Bool, true, false, cond, Option, Some, None, is_some, Ok, Err, refl, sym, ap, subst, ◌∙◌, append_assoc, arith}
use Rattle.ash_lex.specs.Tokens.{Meaning, name, number, sign, reserved, unsupported}
use Rattle.ash_lex.specs.declared.signs.Sign.{Sign}
use Rattle.ash_lex.specs.declared.signs.Sign.TheVariants as signs
use Rattle.ash_lex.specs.declared.words.ReservedWord.TheVariants as words
use Rattle.ash_tree.specs.declared.tree.places.Position.{Position}
use Rattle.ash_tree.specs.declared.tree.types.Primitive.{Primitive}
use Rattle.ash_tree.specs.Tree.{Element, PrimElement, HandleElement}
use Rattle.ash_tree.specs.GrammarTokens.{Tokens}
use Rattle.ash_tree.specs.Operators.{primitive}
use Rattle.ash_tree.specs.Types.{IsElement}
use Rattle.ash_parse.specs.SignTokens.{is_sign}
use Rattle.ash_parse.specs.Readers.{Halt, Unexpected, ParseResult, ◌>>=◌, expect_at}
use Rattle.ash_parse.specs.TypeReader.{is_array, elem_by, elem_at, element_at, after_sign, after_elem_by, after_elem, and_after, after_element}
use Rattle.ash_parse.specs.StatementReader.{is_name, next_is_name, names_vars, array_names_vars, is_vars}
use Rattle.ash_parse.specs.FirstFault.{LeavesOpen}
use Rattle.ash_parse.proofs.Rereading.{no_some, no_true}
use Rattle.ash_parse.proofs.Elements.{element_read}
use Rattle.ash_parse.proofs.NeverDeep.{IsUncut, element_uncut}
use Rattle.ash_parse.proofs.Keeps.{Past, fewer_past, Beyond, Agree, reads, stops, deep, past, chosen, opens, Inside, Lawful, ok_lawful, bind_lawful, Steady, next_steady, sign_steady, Led, led_after, led_stop, led_lawful, expect_lawful}

pub name_steady : Steady next_is_name
unfolding next_is_name
name_steady = next_steady is_name

names_vars_steady : Steady names_vars
names_vars_steady t more other prefix = rw (name_steady t more other prefix, sign_steady signs.Handle t more other prefix) refl

elem_led : (k : Option Primitive) (m : Meaning) (p : Position) → primitive m ≡ k → Led (m, p) (λ s. elem_by k m p s)
unfolding primitive
elem_led (Some k) (reserved words.Array) p e = absurd (no_some k e)
elem_led (Some k) m p e = led_after tt (ok_lawful (PrimElement p k))
elem_led None (name text) p e = led_after tt (bind_lawful _ (expect_lawful signs.Handle) λ h. ok_lawful (HandleElement p text))
elem_led None m p e = led_stop

elem_lawful : Lawful elem_at
unfolding elem_at
elem_lawful = led_lawful (λ n. omega arith) (λ m p. elem_led (primitive m) m p refl)

pub element_lawful : Lawful element_at
unfolding element_at
element_lawful = bind_lawful _ (expect_lawful signs.Less) λ o. bind_lawful _ elem_lawful λ e. bind_lawful _ (expect_lawful signs.Greater) λ z. ok_lawful e

-- what is left after what is read
abbrev pub left_of : {A : Type 0} → ParseResult A → Option Tokens
left_of (Ok x) = Some x.1
left_of (Err e) = None

-- what passes an array's elements' type reads it
sign_passed : (s : Sign) (ts : Tokens) → after_sign s ts ≡ left_of (expect_at s ts)
unfolding after_sign expect_at
sign_passed s [] = refl
sign_passed s ((m, p) ∷ ts) = by_sign (is_sign s m)
  where
    by_sign : (b : Bool) → cond b (Some ts) None ≡ left_of (cond b (Ok (p, ts)) (Err (Unexpected ((m, p) ∷ ts))))
    by_sign true = refl
    by_sign false = refl

then_passed : {A B : Type 0} (o : ParseResult A) (f : A × Tokens → ParseResult B) (g : Tokens → Option Tokens) → ((x : A) (s : Tokens) → g s ≡ left_of (f (x, s))) → and_after (left_of o) g ≡ left_of (o >>= f)
then_passed (Ok x) f g h = h x.0 x.1
then_passed (Err e) f g h = refl

map_passed : {A B : Type 0} (o : ParseResult A) (x : B) → left_of o ≡ left_of (o >>= λ y. Ok (x, y.1))
map_passed (Ok y) x = refl
map_passed (Err e) x = refl

elem_by_passed : (k : Option Primitive) (m : Meaning) (p : Position) (ts : Tokens) → after_elem_by k m ts ≡ left_of (elem_by k m p ts)
elem_by_passed (Some k) m p ts = refl
elem_by_passed None (name text) p ts = sign_passed signs.Handle ts ∙ map_passed (expect_at signs.Handle ts) (HandleElement p text)
elem_by_passed None (number n) p ts = refl
elem_by_passed None (sign n) p ts = refl
elem_by_passed None (reserved n) p ts = refl
elem_by_passed None (unsupported n) p ts = refl

elem_passed : (ts : Tokens) → after_elem ts ≡ left_of (elem_at ts)
unfolding after_elem elem_at
elem_passed [] = refl
elem_passed ((m, p) ∷ ts) = elem_by_passed (primitive m) m p ts

pub passed_is_read : (ts : Tokens) → after_element ts ≡ left_of (element_at ts)
unfolding after_element element_at
passed_is_read ts =
    ap (λ o. and_after o (λ o. and_after (after_elem o) (λ e. after_sign signs.Greater e))) (sign_passed signs.Less ts)
    ∙ then_passed (expect_at signs.Less ts) (λ o. elem_at o.1 >>= λ e. expect_at signs.Greater e.1 >>= λ z. Ok (e.0, z.1)) (λ o. and_after (after_elem o) (λ e. after_sign signs.Greater e))
    (λ x s. ap (λ o. and_after o (λ e. after_sign signs.Greater e)) (elem_passed s)
    ∙ then_passed (elem_at s) (λ e. expect_at signs.Greater e.1 >>= λ z. Ok (e.0, z.1)) (λ e. after_sign signs.Greater e) (λ e r. sign_passed signs.Greater r ∙ map_passed (expect_at signs.Greater r) e))

-- These tokens begin with what leaves it open whether a declaration of variables begins, and so many are after it at
-- the most: after a name, after a primitive type, or in or after an array's `"<" elem ">"`.
pub data Passed (n : ℕ) : Tokens → Type 0 where
  name_passed : (text : List ℕ) (p : Position) (s : Tokens) → length s ≤ n → Passed n ((name text, p) ∷ s)
  word_passed : (m : Meaning) (p : Position) (k : Primitive) (s : Tokens) → primitive m ≡ Some k → length s ≤ n → Passed n ((m, p) ∷ s)
  array_passed : (p : Position) (s : Tokens) → Past n (element_at s) → Passed n ((reserved words.Array, p) ∷ s)

-- the tokens after what leaves it open
abbrev pub or_none : Option Tokens → Tokens
or_none None = []
or_none (Some ts) = ts

unfoldable pub after_open : Tokens → Tokens
after_open [] = []
after_open ((m, p) ∷ s) = cond (is_array m) (or_none (after_element s)) s

-- where the token after them decides, an array's elements' type is taken
element_passed_by : {t : Meaning × Position} {more other : Tokens} {one two : ParseResult Element} → Agree t more other one two → IsUncut one → (array_names_vars (left_of one) ≡ array_names_vars (left_of two) → ⊥) → Past (length more) one
element_passed_by {t} {more} {other} (reads x prefix) u differs = absurd (differs (names_vars_steady t more other prefix))
element_passed_by (stops prefix) u differs = absurd (differs refl)
element_passed_by (deep prefix) u differs = absurd u
element_passed_by (past h k) u differs = h
element_passed_by {more} {one} (chosen n h b) u differs = fewer_past n (length more) one (b [] more (inl refl) refl) h
element_passed_by (opens prefix h k) u differs = absurd u

element_taken : (t : Meaning × Position) (more other prefix : Tokens) → (array_names_vars (after_element (prefix ++ t ∷ more)) ≡ array_names_vars (after_element (prefix ++ t ∷ other)) → ⊥) → Past (length more) (element_at (prefix ++ t ∷ more))
element_taken t more other prefix differs =
    element_passed_by (element_lawful.keeps t more other prefix) (element_uncut (prefix ++ t ∷ more))
    (λ e. differs (ap (λ o. array_names_vars o) (passed_is_read (prefix ++ t ∷ more)) ∙ e ∙ sym (ap (λ o. array_names_vars o) (passed_is_read (prefix ++ t ∷ other)))))

-- where two lists of tokens that are the same up to `t` differ in beginning a declaration,
-- `t` is in what leaves it open
first_passed : (k : Option Primitive) (m : Meaning) (p : Position) (more other : Tokens) → primitive m ≡ k → (is_vars ((m, p) ∷ more) ≡ is_vars ((m, p) ∷ other) → ⊥) → Passed (length more) ((m, p) ∷ more)
unfolding is_vars is_name is_array
first_passed (Some k) m p more other e differs = word_passed m p k more e (omega arith)
first_passed None (name text) p more other e differs = name_passed text p more (omega arith)
first_passed None (reserved words.Array) p more other e differs = array_passed p more (element_lawful.stays (length more) more (omega arith))
first_passed None m p more other e differs = absurd (differs (rw e refl))

next_passed : (k : Option Primitive) (m : Meaning) (p : Position) (t : Meaning × Position) (more other prefix : Tokens) → primitive m ≡ k → (is_vars ((m, p) ∷ prefix ++ t ∷ more) ≡ is_vars ((m, p) ∷ prefix ++ t ∷ other) → ⊥) → Passed (length more) ((m, p) ∷ prefix ++ t ∷ more)
unfolding is_vars is_name is_array
next_passed (Some k) m p t more other prefix e differs = absurd (differs (rw (e, name_steady t more other prefix) refl))
next_passed None (name text) p t more other prefix e differs = absurd (differs (rw (e, name_steady t more other prefix, sign_steady signs.Handle t more other prefix) refl))
next_passed None (reserved words.Array) p t more other prefix e differs = array_passed p (prefix ++ t ∷ more) (element_taken t more other prefix (λ h. differs (rw (e, h) refl)))
next_passed None m p t more other prefix e differs = absurd (differs (rw e refl))

pub differ_passed : (t : Meaning × Position) (more other prefix : Tokens) → (is_vars (prefix ++ t ∷ more) ≡ is_vars (prefix ++ t ∷ other) → ⊥) → Passed (length more) (prefix ++ t ∷ more)
differ_passed (m, p) more other [] differs = first_passed (primitive m) m p more other refl differs
differ_passed t more other ((m, p) ∷ prefix) differs = next_passed (primitive m) m p t more other prefix refl differs

-- the last of several tokens
last_of : (s : Tokens) → (s ≡ []) ⊎ ((prefix : Tokens) × (t : Meaning × Position) × (s ≡ prefix ++ t ∷ []))
last_of [] = inl refl
last_of (a ∷ s) = by_rest (last_of s)
  where
    by_rest : (s ≡ []) ⊎ ((prefix : Tokens) × (t : Meaning × Position) × (s ≡ prefix ++ t ∷ [])) → (a ∷ s ≡ []) ⊎ ((prefix : Tokens) × (t : Meaning × Position) × (a ∷ s ≡ prefix ++ t ∷ []))
    by_rest (inl e) = inr ([], a, ap (λ (l : Tokens). a ∷ l) e)
    by_rest (inr q) = inr (a ∷ q.0, q.1, ap (λ (l : Tokens). a ∷ l) q.2)

none_left : (t : Meaning × Position) (prefix more : Tokens) → ◌≡◌ {A = Option Tokens} (Some (prefix ++ t ∷ more)) (Some []) → ⊥
none_left t [] more h = cc
none_left t (a ∷ prefix) more h = cc

-- where an element ends after `more`, it takes `t` with other tokens too
whole_taken : {t : Meaning × Position} {more other : Tokens} {one two : ParseResult Element} (e x : Element) (rest : Tokens) → Agree t other more one two → one ≡ Ok (x, rest) → two ≡ Ok (e, []) → length rest ≤ length other
whole_taken {t} {more} e x rest (reads y prefix) h k = absurd (none_left t prefix more (ap left_of k))
whole_taken e x rest (stops prefix) h k = absurd (no_some rest (ap left_of h))
whole_taken e x rest (deep prefix) h k = absurd (no_some rest (ap left_of h))
whole_taken {other} e x rest (past a b) h k = subst (λ o. Past (length other) o) h a
whole_taken {other} {one} e x rest (chosen n a b) h k = subst (λ o. Past (length other) o) h (fewer_past n (length other) one (b [] other (inl refl) refl) a)
whole_taken e x rest (opens prefix a b) h k = absurd (no_some rest (ap left_of h))

-- after what begins an element, no element that begins so leaves more
pub open_taken : (seen tail rest r : Tokens) (e x : Element) → IsElement (seen ++ tail) e [] → element_at (seen ++ rest) ≡ Ok (x, r) → length r ≤ length rest
open_taken seen tail rest r e x d h = by_last (last_of seen)
  where
    by_last : (seen ≡ []) ⊎ ((prefix : Tokens) × (t : Meaning × Position) × (seen ≡ prefix ++ t ∷ [])) → length r ≤ length rest
    by_last (inl is) = subst (λ o. Past (length rest) o) (ap (λ (l : Tokens). element_at (l ++ rest)) (sym is) ∙ h) (element_lawful.stays (length rest) rest (omega arith))
    by_last (inr q) =
        let regroup : (s : Tokens) → seen ++ s ≡ q.0 ++ q.1 ∷ s = λ s. ap (λ (l : Tokens). l ++ s) q.2 ∙ append_assoc q.0 (q.1 ∷ []) s in
        whole_taken {t = q.1} {more = tail} {other = rest} e x r (element_lawful.keeps q.1 rest tail q.0) (ap element_at (sym (regroup rest)) ∙ h) (ap element_at (sym (regroup tail)) ∙ element_read d)

-- no reading of an element takes the word `array`
data Left {A : Type 0} (p : Position) (more : Tokens) : ParseResult A → Type 0 where
  left : (x : A) (prefix : Tokens) → Left p more (Ok (x, prefix ++ (reserved words.Array, p) ∷ more))
  stopped : (h : Halt) → Left p more (Err h)

then_left : {A B : Type 0} {p : Position} {more : Tokens} {o : ParseResult A} (f : A × Tokens → ParseResult B) → Left p more o → ((x : A) (prefix : Tokens) → Left p more (f (x, prefix ++ (reserved words.Array, p) ∷ more))) → Left p more (o >>= f)
then_left f (left x prefix) go = go x prefix
then_left f (stopped h) go = stopped h

sign_left : (s : Sign) (p : Position) (more prefix : Tokens) → Left p more (expect_at s (prefix ++ (reserved words.Array, p) ∷ more))
unfolding expect_at is_sign
sign_left s p more [] = stopped _
sign_left s p more ((m, q) ∷ prefix) = by_sign (is_sign s m)
  where
    by_sign : (b : Bool) → Left p more (cond b (Ok (q, prefix ++ (reserved words.Array, p) ∷ more)) (Err (Unexpected ((m, q) ∷ prefix ++ (reserved words.Array, p) ∷ more))))
    by_sign true = left q prefix
    by_sign false = stopped _

elem_by_left : (k : Option Primitive) (m : Meaning) (q p : Position) (more prefix : Tokens) → Left p more (elem_by k m q (prefix ++ (reserved words.Array, p) ∷ more))
elem_by_left (Some k) m q p more prefix = left (PrimElement q k) prefix
elem_by_left None (name text) q p more prefix = then_left _ (sign_left signs.Handle p more prefix) (λ h prefix. left (HandleElement q text) prefix)
elem_by_left None (number n) q p more prefix = stopped _
elem_by_left None (sign n) q p more prefix = stopped _
elem_by_left None (reserved n) q p more prefix = stopped _
elem_by_left None (unsupported n) q p more prefix = stopped _

elem_left : (p : Position) (more prefix : Tokens) → Left p more (elem_at (prefix ++ (reserved words.Array, p) ∷ more))
unfolding elem_at primitive
elem_left p more [] = stopped _
elem_left p more ((m, q) ∷ prefix) = elem_by_left (primitive m) m q p more prefix

element_left : (p : Position) (more prefix : Tokens) → Left p more (element_at (prefix ++ (reserved words.Array, p) ∷ more))
unfolding element_at
element_left p more prefix =
    then_left _ (sign_left signs.Less p more prefix) (λ o prefix.
    then_left _ (elem_left p more prefix) (λ e prefix.
    then_left _ (sign_left signs.Greater p more prefix) (λ z prefix. left e prefix)))

array_longer : (p : Position) (prefix more : Tokens) → length more < length (prefix ++ (reserved words.Array, p) ∷ more)
array_longer p [] more = omega arith
array_longer p (a ∷ prefix) more = let e : length more < length (prefix ++ (reserved words.Array, p) ∷ more) = array_longer p prefix more in omega arith

none_names : (o : ParseResult Element) (h : Halt) → o ≡ Err h → array_names_vars (left_of o) ≡ true → ⊥
none_names o h e v = no_true (sym (ap (λ o. array_names_vars (left_of o)) e) ∙ v)

not_left : {p : Position} {more : Tokens} {o : ParseResult Element} → Left p more o → Past (length more) o → array_names_vars (left_of o) ≡ true → ⊥
not_left {p} {more} (left x prefix) h v = let e : length more < length (prefix ++ (reserved words.Array, p) ∷ more) = array_longer p prefix more in absurd (omega arith)
not_left (stopped h) l v = no_true v

-- what is after what leaves it open is after all of `seen` that does
some_left : (o : ParseResult Element) (rest : Tokens) → Past (length rest) o → length (or_none (left_of o)) ≤ length rest
some_left (Ok x) rest h = h
some_left (Err e) rest h = omega arith

open_after : (p : Position) (more seen rest : Tokens) → LeavesOpen (reserved words.Array, p) seen → more ≡ seen ++ rest → length (or_none (after_element more)) ≤ length rest
open_after p more seen rest leaves is =
    subst (λ (o : Option Tokens). length (or_none o) ≤ length rest) (sym (ap (λ (l : Tokens). after_element l) is ∙ passed_is_read (seen ++ rest))) (by_open leaves (element_at (seen ++ rest)) refl)
  where
    by_open : LeavesOpen (reserved words.Array, p) seen → (o : ParseResult Element) → element_at (seen ++ rest) ≡ o → length (or_none (left_of o)) ≤ length rest
    by_open (inl none) o e = some_left o rest (subst (λ o. Past (length rest) o) (ap (λ (l : Tokens). element_at (l ++ rest)) (sym none) ∙ e) (element_lawful.stays (length rest) rest (omega arith)))
    by_open (inr d) (Ok x) e = open_taken seen d.1 rest x.1 d.2 x.0 d.3 e
    by_open (inr d) (Err h) e = omega arith

all_after : (more seen rest : Tokens) → seen ≡ [] → more ≡ seen ++ rest → length more ≤ length rest
all_after more seen rest none is = let e : length more ≡ length rest = ap length (is ∙ ap (λ (l : Tokens). l ++ rest) none) in omega arith

differ : {a b : Bool} → a ≡ true → b ≡ false → a ≡ b → ⊥
differ h k e = cc

no_word_array : (k : Primitive) (m : Meaning) → primitive m ≡ Some k → m ≡ reserved words.Array → ⊥
unfolding primitive
no_word_array k m e h = no_some k (sym (ap primitive h) ∙ e)

no_name_array : (text : List ℕ) → name text ≡ reserved words.Array → ⊥
no_name_array text h = cc

pub word_no_array : (m : Meaning) (k : Primitive) → primitive m ≡ Some k → is_array m ≡ false
unfolding primitive is_array
word_no_array (reserved words.Array) k h = absurd (no_some k h)
word_no_array m k h = refl

first_beyond : (k : Option Primitive) (m : Meaning) (p : Position) (more : Tokens) → primitive m ≡ k → is_vars ((m, p) ∷ more) ≡ true → Beyond (m, p) more (length (after_open ((m, p) ∷ more)))
unfolding is_vars is_name is_array after_open
first_beyond (Some k) m p more e v seen rest leaves is = rw (word_no_array m k e) (by_open leaves)
  where
    by_open : LeavesOpen (m, p) seen → length more ≤ length rest
    by_open (inl none) = all_after more seen rest none is
    by_open (inr d) = absurd (no_word_array k m e d.0)
first_beyond None (name text) p more e v seen rest leaves is = by_open leaves
  where
    by_open : LeavesOpen (name text, p) seen → length more ≤ length rest
    by_open (inl none) = all_after more seen rest none is
    by_open (inr d) = absurd (no_name_array text d.0)
first_beyond None (reserved words.Array) p more e v seen rest leaves is = open_after p more seen rest leaves is
first_beyond None m p more e v seen rest leaves is = absurd (no_true (subst (λ (k : Option Primitive). cond (is_some k) (next_is_name more) false ≡ true) e v))

-- an element that is taken is no more than what is before `more`
taken_left : (n : ℕ) (o : ParseResult Element) → Past n o → length (or_none (left_of o)) ≤ n
taken_left n (Ok x) h = h
taken_left n (Err e) h = omega arith

array_beyond : (p q : Position) (w : Meaning) (more prefix : Tokens) → Past (length more) (element_at (prefix ++ (w, q) ∷ more)) → array_names_vars (after_element (prefix ++ (w, q) ∷ more)) ≡ true → Beyond (w, q) more (length (or_none (after_element (prefix ++ (w, q) ∷ more))))
array_beyond p q w more prefix taken v seen rest leaves is = by_open leaves
  where
    passed : after_element (prefix ++ (w, q) ∷ more) ≡ left_of (element_at (prefix ++ (w, q) ∷ more))
    passed = passed_is_read (prefix ++ (w, q) ∷ more)

    names : array_names_vars (left_of (element_at (prefix ++ (w, q) ∷ more))) ≡ true
    names = sym (ap (λ o. array_names_vars o) passed) ∙ v

    by_open : LeavesOpen (w, q) seen → length (or_none (after_element (prefix ++ (w, q) ∷ more))) ≤ length rest
    by_open (inl none) =
        let e : length more ≤ length rest = all_after more seen rest none is in
        let k : length (or_none (left_of (element_at (prefix ++ (w, q) ∷ more)))) ≤ length more = taken_left (length more) (element_at (prefix ++ (w, q) ∷ more)) taken in
        let l : length (or_none (after_element (prefix ++ (w, q) ∷ more))) ≡ length (or_none (left_of (element_at (prefix ++ (w, q) ∷ more)))) = ap (λ o. length (or_none o)) passed in
        omega arith
    by_open (inr d) =
        absurd (not_left (subst (λ (m : Meaning). Left q more (element_at (prefix ++ (m, q) ∷ more))) (sym d.0) (element_left q more prefix)) taken names)

next_beyond : (k : Option Primitive) (m : Meaning) (p : Position) (t : Meaning × Position) (more other prefix : Tokens) → primitive m ≡ k → is_vars ((m, p) ∷ prefix ++ t ∷ more) ≡ true → is_vars ((m, p) ∷ prefix ++ t ∷ other) ≡ false → Beyond t more (length (after_open ((m, p) ∷ prefix ++ t ∷ more)))
unfolding is_vars is_name is_array after_open
next_beyond (Some k) m p t more other prefix e v w = absurd (differ v w (rw (e, name_steady t more other prefix) refl))
next_beyond None (name text) p t more other prefix e v w = absurd (differ v w (rw (e, name_steady t more other prefix, sign_steady signs.Handle t more other prefix) refl))
next_beyond None (reserved words.Array) p t more other prefix e v w =
    array_beyond p t.1 t.0 more prefix (element_taken t more other prefix (λ h. differ v w (rw (e, h) refl)))
    (subst (λ (k : Option Primitive). cond (is_some k) (next_is_name (prefix ++ t ∷ more)) (array_names_vars (after_element (prefix ++ t ∷ more))) ≡ true) e v)
next_beyond None m p t more other prefix e v w = absurd (no_true (subst (λ (k : Option Primitive). cond (is_some k) (next_is_name (prefix ++ t ∷ more)) false ≡ true) e v))

pub differ_beyond : (t : Meaning × Position) (more other prefix : Tokens) → is_vars (prefix ++ t ∷ more) ≡ true → is_vars (prefix ++ t ∷ other) ≡ false → Beyond t more (length (after_open (prefix ++ t ∷ more)))
differ_beyond (m, p) more other [] v w = first_beyond (primitive m) m p more refl v
differ_beyond t more other ((m, p) ∷ prefix) v w = next_beyond (primitive m) m p t more other prefix refl v w

-- after what begins an element, and the next token, reading one has not ended before that token
pub inside_element : (t : Meaning × Position) (seen tail rest : Tokens) (u : Meaning × Position) (e : Element) → t.0 ≡ reserved words.Array → IsElement (seen ++ u ∷ tail) e [] → Inside t (seen ++ u ∷ rest) (suc (length rest))
inside_element t seen tail rest u e w d = record {
  is_word = w;
  ends_later = λ x r h.
      let regroup : (s : Tokens) → (seen ++ u ∷ []) ++ s ≡ seen ++ u ∷ s = λ s. append_assoc seen (u ∷ []) s in
      let l : length r ≤ length rest = open_taken (seen ++ u ∷ []) tail rest r e x (subst (λ (l : Tokens). IsElement l e []) (sym (regroup tail)) d) (ap element_at (regroup rest) ∙ h) in
      omega arith;
}
