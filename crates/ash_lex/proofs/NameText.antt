-- The bytes of a name are ASCII, and so they are text; and none of them is a line feed.
use Rattle.std.proofs.Common.{◌≡◌, ℕ, ◌<◌, true, List, [], ◌∷◌, Result, Ok, Err, MatchResult, IsOk, IsAscii, IsUtf8}
use Rattle.std.proofs.Common.{refl, arith}
use Rattle.std.proofs.lemmas.Bool.Decides.{nat_tests}
use Rattle.std.proofs.lemmas.Str.{IsUtf8-from_ascii}
use Rattle.std.proofs.lemmas.Str.Ascii.{IsAscii-nil, IsAscii-cons}
use Rattle.ash_lex.specs.Bytes.{is_word, Each}
use Rattle.ash_lex.specs.Pieces.{IsName}
use Rattle.ash_lex.proofs.Bounds.{letter_is_word}

word_is_ascii : (b : ℕ) → is_word b ≡ true → b < 128
word_is_ascii b h = grind (arith, nat_tests)

words_are_ascii : (bs : List ℕ) → Each is_word bs → IsAscii bs
words_are_ascii [] h = IsAscii-nil
words_are_ascii (b ∷ bs) h = IsAscii-cons b bs (word_is_ascii b h.0) (words_are_ascii bs h.1)

pub name_is_text : (piece : List ℕ) → IsName piece → IsUtf8 piece
name_is_text [] h = absurd h
name_is_text (b ∷ bs) h = IsUtf8-from_ascii (b ∷ bs) (words_are_ascii (b ∷ bs) (letter_is_word b h.0, h.1))

-- what can't fail is `Ok`
pub ok_unless : {T E : Type 0} (r : Result T E) (P : T → Type 0) (Q : E → Type 0) → MatchResult r P Q
    → ((e : E) → Q e → ⊥) → IsOk r
ok_unless (Ok x) P Q h never = refl
ok_unless (Err e) P Q h never = absurd (never e h)
