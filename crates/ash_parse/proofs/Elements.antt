-- What is in the grammar of an array's elements is read and passed.
use Rattle.std.proofs.Common.{◌≡◌, ◌∷◌, Some, Ok, refl}
use Rattle.ash_lex.specs.Tokens.{name, sign}
use Rattle.ash_lex.specs.declared.signs.Sign.{Sign}
use Rattle.ash_lex.specs.declared.signs.Sign.TheVariants as signs
use Rattle.ash_tree.specs.declared.tree.places.Position.{Position}
use Rattle.ash_tree.specs.Tree.{Element}
use Rattle.ash_tree.specs.GrammarTokens.{Tokens}
use Rattle.ash_tree.specs.Operators.{primitive}
use Rattle.ash_tree.specs.Types.{IsElement, prim_element, handle_element}
use Rattle.ash_parse.specs.TypeReader.{elem_at, element_at, after_sign, after_elem, after_element}
use Rattle.ash_parse.proofs.Readings.{is_sign-refl, expect_again}

-- the sign after what is passed
after_again : (s : Sign) (p : Position) (ts : Tokens) → after_sign s ((sign s, p) ∷ ts) ≡ Some ts
unfolding after_sign
after_again s p ts = rw (is_sign-refl s) refl

pub element_read : {from left : Tokens} {e : Element} → IsElement from e left → element_at from ≡ Ok (e, left)
unfolding element_at elem_at primitive
element_read (prim_element {m = m} {o = o} {p = p} {z = z} {k = k} {left = left} g) =
    rw (expect_again signs.Less o ((m, p) ∷ (sign signs.Greater, z) ∷ left), g, expect_again signs.Greater z left) refl
element_read (handle_element {o = o} {p = p} {q = q} {z = z} {text = text} {left = left}) =
    rw (expect_again signs.Less o ((name text, p) ∷ (sign signs.Handle, q) ∷ (sign signs.Greater, z) ∷ left), expect_again signs.Handle q ((sign signs.Greater, z) ∷ left), expect_again signs.Greater z left) refl

-- and it is passed so
pub element_passed : {from left : Tokens} {e : Element} → IsElement from e left → after_element from ≡ Some left
unfolding after_element after_elem primitive
element_passed (prim_element {m = m} {o = o} {p = p} {z = z} {k = k} {left = left} g) =
    rw (after_again signs.Less o ((m, p) ∷ (sign signs.Greater, z) ∷ left), g, after_again signs.Greater z left) refl
element_passed (handle_element {o = o} {p = p} {q = q} {z = z} {text = text} {left = left}) =
    rw (after_again signs.Less o ((name text, p) ∷ (sign signs.Handle, q) ∷ (sign signs.Greater, z) ∷ left), after_again signs.Handle q ((sign signs.Greater, z) ∷ left), after_again signs.Greater z left) refl
