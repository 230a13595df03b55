-- These definitions say what the texts of a registration mean: the name of a type, and what is declared.
use Rattle.std.specs.Prelude.{ℕ, ◌≤◌, ◌⊎◌, List, [], ◌∷◌, Option, Some, None, map, length}
use Rattle.ash_lex.specs.Tokens.{Meaning, name, reserved, unsupported, Lexeme, lexeme_at, HasTokens, max_source_bytes}
use Rattle.ash_lex.specs.declared.words.ReservedWord.{ReservedWord}
use Rattle.ash_lex.specs.declared.words.UnsupportedWord.{UnsupportedWord}
use Rattle.ash_tree.specs.declared.tree.places.Position.{Position}
use Rattle.ash_tree.specs.Tree.{Declaration}
use Rattle.ash_tree.specs.Grammar.{Declares}

-- The text has at most as many bytes as a source, and these are its tokens.
pub record IsCutInto (text : List ℕ) (tokens : List Lexeme) : Type 0 where
  pub short : length text ≤ max_source_bytes
  pub lexed : HasTokens text tokens

-- The text has these tokens, or it has none since it is too long or has a lexical fault.
abbrev pub IsLexed : List ℕ → Option (List Lexeme) → Type 0
IsLexed text (Some tokens) = IsCutInto text tokens
IsLexed text None = (tokens : List Lexeme) → ¬ IsCutInto text tokens

-- A text is a name, a word of the language, or neither.
pub data NameClass : Type 0 where
  NameText : NameClass
  ReservedText : NameClass
  OtherText : NameClass

-- The text is one token of this meaning, from its first byte to its last.
abbrev pub IsWord : List ℕ → Meaning → Type 0
IsWord text meaning = IsCutInto text (lexeme_at [] text meaning ∷ [])

-- The text is a word that is reserved or unsupported.
abbrev pub IsNoNameWord : List ℕ → Type 0
IsNoNameWord text =
    ((w : ReservedWord) × IsWord text (reserved w)) ⊎ ((w : UnsupportedWord) × IsWord text (unsupported w))

-- A name is a letter or `_`, then letters, digits and `_`, and it is no word of the language.
abbrev pub HasNameClass : List ℕ → NameClass → Type 0
HasNameClass text NameText = IsWord text (name text)
HasNameClass text ReservedText = IsNoNameWord text
HasNameClass text OtherText = (¬ IsWord text (name text)) × (¬ IsNoNameWord text)

-- `placed_lexeme t` is a token of a text as the grammar sees it.
abbrev pub placed_lexeme : Lexeme → Meaning × Position
placed_lexeme t = (t.meaning, record { at = t.from; line = t.line })

-- The text is this declaration, with nothing after it.
pub record IsDeclaring (text : List ℕ) (declared : Declaration) : Type 0 where
  pub tokens : List Lexeme
  pub cut : IsCutInto text tokens
  pub declares : Declares (map placed_lexeme tokens) declared

-- The text declares this, or nothing.
abbrev pub IsDeclarationOf : List ℕ → Option Declaration → Type 0
IsDeclarationOf text (Some declared) = IsDeclaring text declared
IsDeclarationOf text None = (declared : Declaration) → ¬ IsDeclaring text declared
