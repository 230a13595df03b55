-- The grammar of types (AngelScript manual, "Data types"), one case for each production:
--
--   type = prim | NAME ["@"] | "array" "<" elem ">" ["@"]
--   elem = prim | NAME "@"
use Rattle.std.specs.Prelude.{◌≡◌, ℕ, List, ◌∷◌, Some}
use Rattle.ash_lex.specs.Tokens.{Meaning, name, sign, reserved}
use Rattle.ash_lex.specs.declared.signs.Sign.TheVariants as signs
use Rattle.ash_lex.specs.declared.words.ReservedWord.TheVariants as words
use Rattle.ash_tree.specs.declared.tree.places.Position.{Position}
use Rattle.ash_tree.specs.declared.tree.types.Primitive.{Primitive}
use Rattle.ash_tree.specs.Tree.{Element, PrimElement, HandleElement, Named, Prim, Object, Handle, Array, ArrayHandle}
use Rattle.ash_tree.specs.GrammarTokens.{Tokens}
use Rattle.ash_tree.specs.Operators.{primitive}

-- "<" elem ">", where elem = prim | NAME "@". The last token is the sign `>` alone: `>>` and `>=` are other signs.
pub data IsElement : Tokens → Element → Tokens → Type 0 where
  prim_element : {m : Meaning} {o p z : Position} {k : Primitive} {left : Tokens} → primitive m ≡ Some k
      → IsElement ((sign signs.Less, o) ∷ (m, p) ∷ (sign signs.Greater, z) ∷ left) (PrimElement p k) left
  handle_element : {o p q z : Position} {text : List ℕ} {left : Tokens}
      → IsElement ((sign signs.Less, o) ∷ (name text, p) ∷ (sign signs.Handle, q) ∷ (sign signs.Greater, z) ∷ left)
      (HandleElement p text) left

-- type = prim | NAME ["@"] | "array" "<" elem ">" ["@"]
pub data IsType : Tokens → Named → Tokens → Type 0 where
  prim : {m : Meaning} {p : Position} {k : Primitive} {left : Tokens} → primitive m ≡ Some k
      → IsType ((m, p) ∷ left) (Prim p k) left
  object : {p : Position} {text : List ℕ} {left : Tokens} → IsType ((name text, p) ∷ left) (Object p text) left
  handle : {p q : Position} {text : List ℕ} {left : Tokens}
      → IsType ((name text, p) ∷ (sign signs.Handle, q) ∷ left) (Handle p text) left
  array : {p : Position} {from left : Tokens} {e : Element} → IsElement from e left
      → IsType ((reserved words.Array, p) ∷ from) (Array p e) left
  array_handle : {p q : Position} {from left : Tokens} {e : Element} → IsElement from e ((sign signs.Handle, q) ∷ left)
      → IsType ((reserved words.Array, p) ∷ from) (ArrayHandle p e) left
