-- Reading the type of an array's elements and the type that a cast names, and passing the former.
use Rattle.std.specs.Prelude.{[], ◌∷◌, Bool, true, false, Option, Some, None, Ok, Err, if◌then◌else◌}
use Rattle.ash_lex.specs.Tokens.{Meaning, name, reserved}
use Rattle.ash_lex.specs.declared.signs.Sign.{Sign}
use Rattle.ash_lex.specs.declared.signs.Sign.TheVariants as signs
use Rattle.ash_lex.specs.declared.words.ReservedWord.TheVariants as words
use Rattle.ash_tree.specs.declared.tree.places.Position.{Position}
use Rattle.ash_tree.specs.declared.tree.types.Primitive.{Primitive}
use Rattle.ash_tree.specs.Tree.{Element, PrimElement, HandleElement, TypeName}
use Rattle.ash_tree.specs.GrammarTokens.{Tokens}
use Rattle.ash_tree.specs.Operators.{primitive}
use Rattle.ash_parse.specs.SignTokens.{is_sign}
use Rattle.ash_parse.specs.Readers.{ParseResult, Unexpected, ◌>>=◌, expect_at, name_at}

unfoldable pub is_array : Meaning → Bool
is_array (reserved words.Array) = true
is_array _ = false

abbrev pub elem_by : Option Primitive → Meaning → Position → Tokens → ParseResult Element
elem_by (Some k) m p ts = Ok (PrimElement p k, ts)
elem_by None (name text) p ts = expect_at signs.Handle ts >>= λ h. Ok (HandleElement p text, h.1)
elem_by None m p ts = Err (Unexpected ((m, p) ∷ ts))

-- elem = prim | NAME "@"
unfoldable pub elem_at : Tokens → ParseResult Element
elem_at [] = Err (Unexpected [])
elem_at ((m, p) ∷ ts) = elem_by (primitive m) m p ts

-- "<" elem ">"
unfoldable pub element_at : Tokens → ParseResult Element
element_at ts = do
  o ← expect_at signs.Less ts
  e ← elem_at o.1
  z ← expect_at signs.Greater e.1
  Ok (e.0, z.1)

-- "<" NAME ">"
unfoldable pub target_at : Tokens → ParseResult TypeName
target_at ts = do
  o ← expect_at signs.Less ts
  n ← name_at o.1
  z ← expect_at signs.Greater n.1
  Ok (record { place = (n.0).1; name = (n.0).0 }, z.1)

-- after this sign, where it is next
unfoldable pub after_sign : Sign → Tokens → Option Tokens
after_sign s [] = None
after_sign s ((m, p) ∷ ts) = if is_sign s m then Some ts else None

abbrev pub after_elem_by : Option Primitive → Meaning → Tokens → Option Tokens
after_elem_by (Some k) m ts = Some ts
after_elem_by None (name text) ts = after_sign signs.Handle ts
after_elem_by None m ts = None

-- after an elem, where one is next
unfoldable pub after_elem : Tokens → Option Tokens
after_elem [] = None
after_elem ((m, p) ∷ ts) = after_elem_by (primitive m) m ts

abbrev pub and_after : Option Tokens → (Tokens → Option Tokens) → Option Tokens
and_after None f = None
and_after (Some ts) f = f ts

-- after "<" elem ">", where it is next
unfoldable pub after_element : Tokens → Option Tokens
after_element ts =
    and_after (after_sign signs.Less ts) (λ o. and_after (after_elem o) (λ e. after_sign signs.Greater e))
