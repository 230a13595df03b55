-- These definitions say which classes of names the code's represent, and what a text is by its tokens.
use Rattle.std.specs.Prelude.{ℕ, ◌&&◌, List, [], ◌∷◌, nat_eq, if◌then◌else◌}
use Rattle.ash_lex.specs.Tokens.{Meaning, name, reserved, unsupported, Lexeme}
use Rattle.ash_registry.specs.declared.texts.NameClass as code
use Rattle.ash_registry.specs.declared.texts.NameClass.TheVariants as variants
use Rattle.ash_registry.specs.Texts.{NameClass, NameText, ReservedText, OtherText}

-- `name_class_of class` is the class that the code's represents.
abbrev pub name_class_of : code.NameClass → NameClass
name_class_of variants.Name = NameText
name_class_of variants.Reserved = ReservedText
name_class_of variants.Other = OtherText

-- `class_of_meaning meaning` is what a text is that is one token of this meaning.
abbrev pub class_of_meaning : Meaning → NameClass
class_of_meaning (name _) = NameText
class_of_meaning (reserved _) = ReservedText
class_of_meaning (unsupported _) = ReservedText
class_of_meaning _ = OtherText

-- `class_of_token len t` is what a text of this length is by its only token.
abbrev pub class_of_token : ℕ → Lexeme → NameClass
class_of_token len t = if nat_eq t.from 0 && nat_eq t.to len then class_of_meaning t.meaning else OtherText

-- `class_of_tokens len ts` is what a text of this length is by its tokens.
abbrev pub class_of_tokens : ℕ → List Lexeme → NameClass
class_of_tokens len (t ∷ []) = class_of_token len t
class_of_tokens len _ = OtherText
