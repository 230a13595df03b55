-- What is before the place where the reading of a type stops begins one.
use Rattle.std.proofs.Common.{◌≡◌, ℕ, List, [], ◌∷◌, Option, Some, None, Ok, refl, sym, subst}
use Rattle.ash_lex.specs.Tokens.{Meaning, name, sign, reserved}
use Rattle.ash_lex.specs.declared.signs.Sign.TheVariants as signs
use Rattle.ash_lex.specs.declared.words.ReservedWord.TheVariants as words
use Rattle.ash_tree.specs.declared.tree.places.Position.{Position}
use Rattle.ash_tree.specs.declared.tree.types.Primitive.{Primitive}
use Rattle.ash_tree.specs.Tree.{Element, PrimElement, HandleElement, Named, Prim, Object, Handle, Array, ArrayHandle}
use Rattle.ash_tree.specs.GrammarTokens.{Tokens}
use Rattle.ash_tree.specs.Operators.{primitive}
use Rattle.ash_tree.specs.Types.{IsElement, prim_element, handle_element, IsType, prim, object, handle, array, array_handle}
use Rattle.ash_parse.specs.Readers.{◌>>=◌, next_is_sign, expect_at}
use Rattle.ash_parse.specs.TypeReader.{elem_by, elem_at, element_at}
use Rattle.ash_parse.specs.StatementReader.{handle_by, type_by, type_at}
use Rattle.ash_parse.proofs.BeginLaws.{Law, Filled, After, then, done, fill_here, stops_here, after, fill_after, either, sign_then, nowhere, some_name}

fill_type : Filled (λ free. IsType)
fill_type = fill_after _ (name some_name, nowhere) (fill_here _ (Object nowhere some_name) (λ free left. object))

-- the "@" of an elem
abbrev HandlePart : Position → Position → List ℕ → ℕ → Tokens → Element → Tokens → Type 0
HandlePart o p text free from e left = (q : Position) × (from ≡ (sign signs.Handle, q) ∷ left) × (e ≡ HandleElement p text)

handle_part : (o p : Position) (text : List ℕ) (z : Position) (left before : Tokens) (e : Element) → HandlePart o p text 0 before e ((sign signs.Greater, z) ∷ left) → IsElement ((sign signs.Less, o) ∷ (name text, p) ∷ before) e left
handle_part o p text z left before e d =
    subst (λ (b : Tokens). IsElement ((sign signs.Less, o) ∷ (name text, p) ∷ b) e left) (sym d.1)
    (subst (λ (x : Element). IsElement ((sign signs.Less, o) ∷ (name text, p) ∷ (sign signs.Handle, d.0) ∷ (sign signs.Greater, z) ∷ left) x left) (sym d.2) handle_element)

fill_elem : (o : Position) → Filled (After (sign signs.Less, o) (λ free. IsElement))
fill_elem o =
    fill_after _ (name some_name, nowhere) (fill_after _ (sign signs.Handle, nowhere) (fill_after _ (sign signs.Greater, nowhere)
    (fill_here _ (HandleElement nowhere some_name) (λ free left. handle_element))))

begin_handle_elem : (o p : Position) (text : List ℕ) (ts : Tokens) → Law ((expect_at signs.Handle ts >>= λ h. Ok (HandleElement p text, h.1)) >>= λ e. expect_at signs.Greater e.1 >>= λ z. Ok (e.0, z.1)) ts (After (name text, p) (After (sign signs.Less, o) (λ free. IsElement)))
begin_handle_elem o p text ts =
    then (HandlePart o p text) _ (expect_at signs.Handle ts >>= λ h. Ok (HandleElement p text, h.1)) _ ts
    (sign_then _ signs.Handle _ ts (λ q r. done _ (HandleElement p text) r (λ free left. (q, refl, refl))))
    (λ e r. sign_then _ signs.Greater _ r
    (λ z s. done _ e s (λ free left before d. handle_part o p text z left before e d)))

-- an elem and the ">", after the "<"
begin_elem_by : (o : Position) (k : Option Primitive) (m : Meaning) (p : Position) (ts : Tokens) → primitive m ≡ k → Law (elem_by k m p ts >>= λ e. expect_at signs.Greater e.1 >>= λ z. Ok (e.0, z.1)) ((m, p) ∷ ts) (After (sign signs.Less, o) (λ free. IsElement))
begin_elem_by o (Some k) m p ts g =
    after _ (m, p) _ ts (sign_then _ signs.Greater _ ts (λ z r. done _ (PrimElement p k) r (λ free left. prim_element g)))
begin_elem_by o None (name text) p ts g = after _ (name text, p) _ ts (begin_handle_elem o p text ts)
begin_elem_by o None m p ts g = stops_here _ ((m, p) ∷ ts) (fill_elem o)

begin_elem : (o : Position) (ts : Tokens) → Law (elem_at ts >>= λ e. expect_at signs.Greater e.1 >>= λ z. Ok (e.0, z.1)) ts (After (sign signs.Less, o) (λ free. IsElement))
unfolding elem_at
begin_elem o [] = stops_here _ [] (fill_elem o)
begin_elem o ((m, p) ∷ ts) = begin_elem_by o (primitive m) m p ts refl

pub begin_element : (ts : Tokens) → Law (element_at ts) ts (λ free. IsElement)
unfolding element_at
begin_element ts = sign_then _ signs.Less _ ts (λ o r. begin_elem o r)

-- ["@"] after a type
begin_handle_by : (Q : ℕ → Tokens → Named → Tokens → Type 0) (plain handled : Named) (ts : Tokens) → ((free : ℕ) (left : Tokens) → Q free left plain left) → ((q : Position) (free : ℕ) (left : Tokens) → Q free ((sign signs.Handle, q) ∷ left) handled left) → Law (handle_by plain handled ts) ts Q
begin_handle_by Q plain handled ts off on =
    either (next_is_sign signs.Handle ts) _ _ ts _
    (sign_then _ signs.Handle _ ts (λ q r. done _ handled r (on q)))
    (done _ plain ts off)

begin_type_by : (k : Option Primitive) (m : Meaning) (p : Position) (ts : Tokens) → primitive m ≡ k → Law (type_by k m p ts) ((m, p) ∷ ts) (λ free. IsType)
begin_type_by (Some k) m p ts g = after _ (m, p) _ ts (done _ (Prim p k) ts (λ free left. prim g))
begin_type_by None (name t) p ts g = after _ (name t, p) _ ts (begin_handle_by _ (Object p t) (Handle p t) ts (λ free left. object) (λ q free left. handle))
begin_type_by None (reserved words.Array) p ts g =
    after _ (reserved words.Array, p) _ ts (then (λ free. IsElement) _ (element_at ts) _ ts (begin_element ts)
    (λ e r. begin_handle_by _ (Array p e) (ArrayHandle p e) r (λ free left before d. array d) (λ q free left before d. array_handle d)))
begin_type_by None m p ts g = stops_here (λ free. IsType) ((m, p) ∷ ts) fill_type

pub begin_type : (ts : Tokens) → Law (type_at ts) ts (λ free. IsType)
unfolding type_at
begin_type [] = stops_here (λ free. IsType) [] fill_type
begin_type ((m, p) ∷ ts) = begin_type_by (primitive m) m p ts refl
