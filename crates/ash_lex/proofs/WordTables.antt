-- Each word is in its table: the look-up finds it by its characters.
use Rattle.std.proofs.Common.{◌≡◌, ℕ, ◌<◌, List, [], ◌∷◌, length, Some, get_or, refl, arith, find}
use Rattle.std.specs.Str.{bytes_eq}
use Rattle.ash_lex.specs.ReservedWords.{reserved_text, unsupported_text}
use Rattle.ash_lex.specs.Scan.{reserved_word, unsupported_word}
use Rattle.ash_lex.specs.declared.words.ReservedWord.{ReservedWord}
use Rattle.ash_lex.specs.declared.words.ReservedWord.TheVariants.{And, Or, Xor, Not, Is, Null, True, False, Void}
use Rattle.ash_lex.specs.declared.words.ReservedWord.TheVariants.{Bool as BoolWord, Int, Int32, Int64, Uint, Uint32}
use Rattle.ash_lex.specs.declared.words.ReservedWord.TheVariants.{Uint64, Class, Interface, Cast, Array, This, If, Else}
use Rattle.ash_lex.specs.declared.words.ReservedWord.TheVariants.{While, Do, For, Switch, Case, Default, Break}
use Rattle.ash_lex.specs.declared.words.ReservedWord.TheVariants.{Continue, Return}
use Rattle.ash_lex.specs.declared.words.UnsupportedWord.{UnsupportedWord}
use Rattle.ash_lex.specs.declared.words.UnsupportedWord.TheVariants.{Auto, Catch, Const, Double, Enum, Float, Funcdef}
use Rattle.ash_lex.specs.declared.words.UnsupportedWord.TheVariants.{Import, In, Inout, Int8, Int16, Mixin, Namespace}
use Rattle.ash_lex.specs.declared.words.UnsupportedWord.TheVariants.{Out, Private, Protected, Try, Typedef, Uint8}
use Rattle.ash_lex.specs.declared.words.UnsupportedWord.TheVariants.{Uint16}

-- the look-up of a word's own characters gives the word
pub reserved_word-of_text : (w : ReservedWord) → reserved_word (reserved_text w) ≡ Some w
reserved_word-of_text And = refl
reserved_word-of_text Or = refl
reserved_word-of_text Xor = refl
reserved_word-of_text Not = refl
reserved_word-of_text Is = refl
reserved_word-of_text Null = refl
reserved_word-of_text True = refl
reserved_word-of_text False = refl
reserved_word-of_text Void = refl
reserved_word-of_text BoolWord = refl
reserved_word-of_text Int = refl
reserved_word-of_text Int32 = refl
reserved_word-of_text Int64 = refl
reserved_word-of_text Uint = refl
reserved_word-of_text Uint32 = refl
reserved_word-of_text Uint64 = refl
reserved_word-of_text Class = refl
reserved_word-of_text Interface = refl
reserved_word-of_text Cast = refl
reserved_word-of_text Array = refl
reserved_word-of_text This = refl
reserved_word-of_text If = refl
reserved_word-of_text Else = refl
reserved_word-of_text While = refl
reserved_word-of_text Do = refl
reserved_word-of_text For = refl
reserved_word-of_text Switch = refl
reserved_word-of_text Case = refl
reserved_word-of_text Default = refl
reserved_word-of_text Break = refl
reserved_word-of_text Continue = refl
reserved_word-of_text Return = refl

-- words that give each text with this first byte its word give this text its word
pub reserved_word-from : (text : List ℕ) (words : List ReservedWord) → 0 < length text
    → ((after : List ℕ) → find (λ w. bytes_eq (get_or text 0 0 ∷ after) (reserved_text w)) words
    ≡ reserved_word (get_or text 0 0 ∷ after)) → find (λ w. bytes_eq text (reserved_text w)) words ≡ reserved_word text
reserved_word-from [] words some each = absurd (omega arith)
reserved_word-from (b ∷ after) words some each = each after

-- the look-up of a word's own characters gives the word
pub unsupported_word-of_text : (w : UnsupportedWord) → unsupported_word (unsupported_text w) ≡ Some w
unsupported_word-of_text Auto = refl
unsupported_word-of_text Catch = refl
unsupported_word-of_text Const = refl
unsupported_word-of_text Double = refl
unsupported_word-of_text Enum = refl
unsupported_word-of_text Float = refl
unsupported_word-of_text Funcdef = refl
unsupported_word-of_text Import = refl
unsupported_word-of_text In = refl
unsupported_word-of_text Inout = refl
unsupported_word-of_text Int8 = refl
unsupported_word-of_text Int16 = refl
unsupported_word-of_text Mixin = refl
unsupported_word-of_text Namespace = refl
unsupported_word-of_text Out = refl
unsupported_word-of_text Private = refl
unsupported_word-of_text Protected = refl
unsupported_word-of_text Try = refl
unsupported_word-of_text Typedef = refl
unsupported_word-of_text Uint8 = refl
unsupported_word-of_text Uint16 = refl

-- words that give each text with this first byte its word give this text its word
pub unsupported_word-from : (text : List ℕ) (words : List UnsupportedWord) → 0 < length text
    → ((after : List ℕ) → find (λ w. bytes_eq (get_or text 0 0 ∷ after) (unsupported_text w)) words
    ≡ unsupported_word (get_or text 0 0 ∷ after))
    → find (λ w. bytes_eq text (unsupported_text w)) words ≡ unsupported_word text
unsupported_word-from [] words some each = absurd (omega arith)
unsupported_word-from (b ∷ after) words some each = each after
