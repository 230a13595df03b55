-- These definitions say what the tokens of a script are to the grammar: what each means, and its place.
use Rattle.std.specs.Prelude.{List, map}
use Rattle.ash_lex.specs.Tokens.{Meaning, meaning_of}
use Rattle.ash_lex.specs.declared.tokens.Token.{Token}
use Rattle.ash_tree.specs.declared.tree.places.Position.{Position}

-- Tokens are in the order of the text.
abbrev pub Tokens : Type 0
Tokens = List (Meaning × Position)

-- `place_of_token t` is the place of a token: its first byte, and its line.
abbrev pub place_of_token : Token → Position
place_of_token t = record { at = t.from; line = t.line }

abbrev pub placed : Token → Meaning × Position
placed t = (meaning_of t.kind, place_of_token t)

abbrev pub tokens_of : List Token → Tokens
tokens_of ts = map placed ts
