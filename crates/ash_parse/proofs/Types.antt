-- What is read of a type is in the grammar.
use Rattle.std.proofs.Common.{◌≡◌, ℕ, List, [], ◌∷◌, Option, Some, None, Ok, refl, length, arith, ◌<◌}
use Rattle.ash_lex.specs.Tokens.{Meaning, name, number, sign, reserved, unsupported}
use Rattle.ash_lex.specs.declared.signs.Sign.{Sign}
use Rattle.ash_lex.specs.declared.signs.Sign.TheVariants as signs
use Rattle.ash_lex.specs.declared.words.ReservedWord.TheVariants as words
use Rattle.ash_tree.specs.declared.tree.places.Position.{Position}
use Rattle.ash_tree.specs.declared.tree.types.Primitive.{Primitive}
use Rattle.ash_tree.specs.Tree.{Element, PrimElement, HandleElement, Named, Prim, Object, Handle, Array, ArrayHandle, TypeName}
use Rattle.ash_tree.specs.GrammarTokens.{Tokens}
use Rattle.ash_tree.specs.Operators.{primitive}
use Rattle.ash_tree.specs.Types.{IsElement, prim_element, handle_element, IsType, prim, object, handle, array, array_handle}
use Rattle.ash_parse.specs.Readers.{Unexpected, ◌>>=◌, next_is_sign, expect_at, name_at}
use Rattle.ash_parse.specs.TypeReader.{elem_by, elem_at, element_at, target_at}
use Rattle.ash_parse.specs.StatementReader.{handle_by, type_by, type_at}
use Rattle.ash_parse.proofs.Readings.{no_err, bind_ok, at_pair, if_elim, Finds, expect_sound, name_sound}

-- the sign that is expected is where a phrase ends
pub ends_in : (s : Sign) (ts : Tokens) (p : Position) (rest : Tokens) (Q : Tokens → Type 0) → expect_at s ts ≡ Ok (p, rest) → Q ts → Q ((sign s, p) ∷ rest)
ends_in s ts p rest Q h = expect_sound s ts p rest (λ r. Q r → Q ((sign s, p) ∷ rest)) h (λ d. d)

elem_by_sound : (k : Option Primitive) (m : Meaning) (o p : Position) (ts : Tokens) (x : Element) (after : Tokens) (z : Position) (rest : Tokens) → primitive m ≡ k → elem_by k m p ts ≡ Ok (x, after) → expect_at signs.Greater after ≡ Ok (z, rest) → IsElement ((sign signs.Less, o) ∷ (m, p) ∷ ts) x rest
elem_by_sound (Some k) m o p ts x after z rest g h =
    at_pair (λ y l. expect_at signs.Greater l ≡ Ok (z, rest) → IsElement ((sign signs.Less, o) ∷ (m, p) ∷ ts) y rest) (PrimElement p k) ts x after h
    (λ e. expect_sound signs.Greater ts z rest (λ l. IsElement ((sign signs.Less, o) ∷ (m, p) ∷ l) (PrimElement p k) rest) e (prim_element g))
elem_by_sound None (name t) o p ts x after z rest g h =
    let a = bind_ok (expect_at signs.Handle ts) (λ h. Ok (HandleElement p t, h.1)) (x, after) h in
    at_pair (λ y l. expect_at signs.Greater l ≡ Ok (z, rest) → IsElement ((sign signs.Less, o) ∷ (name t, p) ∷ ts) y rest) (HandleElement p t) (a.0).1 x after a.2
    (λ e. expect_sound signs.Handle ts (a.0).0 (a.0).1 (λ l. IsElement ((sign signs.Less, o) ∷ (name t, p) ∷ l) (HandleElement p t) rest) a.1
    (expect_sound signs.Greater (a.0).1 z rest (λ l. IsElement ((sign signs.Less, o) ∷ (name t, p) ∷ (sign signs.Handle, (a.0).0) ∷ l) (HandleElement p t) rest) e handle_element))
elem_by_sound None (number n) o p ts x after z rest g h = absurd (no_err (Unexpected ((number n, p) ∷ ts)) (x, after) h)
elem_by_sound None (sign n) o p ts x after z rest g h = absurd (no_err (Unexpected ((sign n, p) ∷ ts)) (x, after) h)
elem_by_sound None (reserved n) o p ts x after z rest g h = absurd (no_err (Unexpected ((reserved n, p) ∷ ts)) (x, after) h)
elem_by_sound None (unsupported n) o p ts x after z rest g h = absurd (no_err (Unexpected ((unsupported n, p) ∷ ts)) (x, after) h)

elem_sound : (o : Position) (ts : Tokens) (x : Element) (after : Tokens) (z : Position) (rest : Tokens) → elem_at ts ≡ Ok (x, after) → expect_at signs.Greater after ≡ Ok (z, rest) → IsElement ((sign signs.Less, o) ∷ ts) x rest
unfolding elem_at
elem_sound o [] x after z rest h = absurd (no_err (Unexpected []) (x, after) h)
elem_sound o ((m, p) ∷ ts) x after z rest h = elem_by_sound (primitive m) m o p ts x after z rest refl h

pub element_sound : Finds element_at IsElement
unfolding element_at
element_sound ts x rest h =
    let o = bind_ok (expect_at signs.Less ts) (λ o. elem_at o.1 >>= λ e. expect_at signs.Greater e.1 >>= λ z. Ok (e.0, z.1)) (x, rest) h in
    let e = bind_ok (elem_at (o.0).1) (λ e. expect_at signs.Greater e.1 >>= λ z. Ok (e.0, z.1)) (x, rest) o.2 in
    let z = bind_ok (expect_at signs.Greater (e.0).1) (λ z. Ok ((e.0).0, z.1)) (x, rest) e.2 in
    at_pair (IsElement ts) (e.0).0 (z.0).1 x rest z.2
    (expect_sound signs.Less ts (o.0).0 (o.0).1 (λ l. IsElement l (e.0).0 (z.0).1) o.1 (elem_sound (o.0).0 (o.0).1 (e.0).0 (e.0).1 (z.0).0 (z.0).1 e.1 z.1))

-- the tokens of "<" NAME ">"
pub target_sound : (ts : Tokens) (x : TypeName) (rest : Tokens) (Q : TypeName → Tokens → Type 0) → target_at ts ≡ Ok (x, rest) → ((o q z : Position) (text : List ℕ) (left : Tokens) → ts ≡ (sign signs.Less, o) ∷ (name text, q) ∷ (sign signs.Greater, z) ∷ left → Q (record { place = q; name = text }) left) → Q x rest
unfolding target_at
target_sound ts x rest Q h go =
    let o = bind_ok (expect_at signs.Less ts) (λ o. name_at o.1 >>= λ n. expect_at signs.Greater n.1 >>= λ z. Ok (record { place = (n.0).1; name = (n.0).0 }, z.1)) (x, rest) h in
    let n = bind_ok (name_at (o.0).1) (λ n. expect_at signs.Greater n.1 >>= λ z. Ok (record { place = (n.0).1; name = (n.0).0 }, z.1)) (x, rest) o.2 in
    let z = bind_ok (expect_at signs.Greater (n.0).1) (λ z. Ok (record { place = ((n.0).0).1; name = ((n.0).0).0 }, z.1)) (x, rest) n.2 in
    at_pair Q (record { place = ((n.0).0).1; name = ((n.0).0).0 }) (z.0).1 x rest z.2
    (go (o.0).0 ((n.0).0).1 (z.0).0 ((n.0).0).0 (z.0).1
    (expect_sound signs.Less ts (o.0).0 (o.0).1 (λ (l : Tokens). l ≡ (sign signs.Less, (o.0).0) ∷ (name ((n.0).0).0, ((n.0).0).1) ∷ (sign signs.Greater, (z.0).0) ∷ (z.0).1) o.1
    (name_sound (o.0).1 (n.0).0 (n.0).1 (λ (l : Tokens). ◌≡◌ {A = Tokens} ((sign signs.Less, (o.0).0) ∷ l) ((sign signs.Less, (o.0).0) ∷ (name ((n.0).0).0, ((n.0).0).1) ∷ (sign signs.Greater, (z.0).0) ∷ (z.0).1)) n.1
    (expect_sound signs.Greater (n.0).1 (z.0).0 (z.0).1 (λ (l : Tokens). ◌≡◌ {A = Tokens} ((sign signs.Less, (o.0).0) ∷ (name ((n.0).0).0, ((n.0).0).1) ∷ l) ((sign signs.Less, (o.0).0) ∷ (name ((n.0).0).0, ((n.0).0).1) ∷ (sign signs.Greater, (z.0).0) ∷ (z.0).1)) z.1 refl))))

handle_by_sound : (plain handled : Named) (ts : Tokens) (x : Named) (rest : Tokens) (Q : Named → Tokens → Type 0) → handle_by plain handled ts ≡ Ok (x, rest) → Q plain ts → ((q : Position) (left : Tokens) → expect_at signs.Handle ts ≡ Ok (q, left) → Q handled left) → Q x rest
handle_by_sound plain handled ts x rest Q h off on =
    if_elim (next_is_sign signs.Handle ts) (expect_at signs.Handle ts >>= λ h. Ok (handled, h.1)) (Ok (plain, ts)) (Ok (x, rest)) (Q x rest) h
    (λ b e. let o = bind_ok (expect_at signs.Handle ts) (λ h. Ok (handled, h.1)) (x, rest) e in at_pair Q handled (o.0).1 x rest o.2 (on (o.0).0 (o.0).1 o.1))
    (λ b e. at_pair Q plain ts x rest e off)

array_type_sound : (p : Position) (ts : Tokens) (x : Named) (rest : Tokens) → element_at ts >>= (λ e. handle_by (Array p e.0) (ArrayHandle p e.0) e.1) ≡ Ok (x, rest) → IsType ((reserved words.Array, p) ∷ ts) x rest
array_type_sound p ts x rest h =
    let e = bind_ok (element_at ts) (λ e. handle_by (Array p e.0) (ArrayHandle p e.0) e.1) (x, rest) h in
    let d : IsElement ts (e.0).0 (e.0).1 = element_sound ts (e.0).0 (e.0).1 e.1 in
    handle_by_sound (Array p (e.0).0) (ArrayHandle p (e.0).0) (e.0).1 x rest (IsType ((reserved words.Array, p) ∷ ts)) e.2 (array d)
    (λ q left g. array_handle (ends_in signs.Handle (e.0).1 q left (λ l. IsElement ts (e.0).0 l) g d))

type_by_sound : (k : Option Primitive) (m : Meaning) (p : Position) (ts : Tokens) (x : Named) (rest : Tokens) → primitive m ≡ k → type_by k m p ts ≡ Ok (x, rest) → IsType ((m, p) ∷ ts) x rest
type_by_sound (Some k) m p ts x rest g h = at_pair (IsType ((m, p) ∷ ts)) (Prim p k) ts x rest h (prim g)
type_by_sound None (name t) p ts x rest g h =
    handle_by_sound (Object p t) (Handle p t) ts x rest (IsType ((name t, p) ∷ ts)) h object
    (λ q left e. expect_sound signs.Handle ts q left (λ r. IsType ((name t, p) ∷ r) (Handle p t) left) e handle)
type_by_sound None (number n) p ts x rest g h = absurd (no_err (Unexpected ((number n, p) ∷ ts)) (x, rest) h)
type_by_sound None (sign n) p ts x rest g h = absurd (no_err (Unexpected ((sign n, p) ∷ ts)) (x, rest) h)
type_by_sound None (reserved words.Array) p ts x rest g h = array_type_sound p ts x rest h
type_by_sound None (reserved n) p ts x rest g h = absurd (no_err (Unexpected ((reserved n, p) ∷ ts)) (x, rest) h)
type_by_sound None (unsupported n) p ts x rest g h = absurd (no_err (Unexpected ((unsupported n, p) ∷ ts)) (x, rest) h)

pub type_sound : Finds type_at IsType
unfolding type_at
type_sound [] x rest h = absurd (no_err (Unexpected []) (x, rest) h)
type_sound ((m, p) ∷ ts) x rest h = type_by_sound (primitive m) m p ts x rest refl h

pub element_shorter : {from left : Tokens} {e : Element} → IsElement from e left → length left < length from
element_shorter (prim_element g) = omega arith
element_shorter handle_element = omega arith

pub type_shorter : {from left : Tokens} {t : Named} → IsType from t left → length left < length from
type_shorter (prim g) = omega arith
type_shorter object = omega arith
type_shorter handle = omega arith
type_shorter (array a) = let x = element_shorter a in omega arith
type_shorter (array_handle a) = let x = element_shorter a in omega arith
