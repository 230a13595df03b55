-- What the look-ups of words say.
use Rattle.std.proofs.Common.{◌≡◌, ◌≢◌, ℕ, Bool, true, false, cond, List, [], ◌∷◌, Some, None, sym, refl, ap, ◌∙◌}
use Rattle.std.proofs.Common.{subst}
use Rattle.std.specs.Prelude.{find}
use Rattle.std.specs.Str.{bytes_eq}
use Rattle.std.proofs.lemmas.Slice.Eq.{bytes_eq-Decides}
use Rattle.ash_lex.specs.ReservedWords.{reserved_text, unsupported_text}
use Rattle.ash_lex.specs.Scan.{reserved_word, unsupported_word, reserved_words, unsupported_words}
use Rattle.ash_lex.specs.declared.words.ReservedWord.{ReservedWord}
use Rattle.ash_lex.specs.declared.words.UnsupportedWord.{UnsupportedWord}
use Rattle.ash_lex.proofs.WordTables.{reserved_word-of_text, unsupported_word-of_text}

-- what a search finds passes the test
pub find_passes : {W : Type 0} (test : W → Bool) (ws : List W) (r : W) → find test ws ≡ Some r → test r ≡ true
find_passes test [] r h = cc
find_passes {W} test (w ∷ ws) r h =
    let P : Bool → Type 0 = λ b. test w ≡ b → cond b (Some w) (find test ws) ≡ Some r → test r ≡ true in
    (elim (test w) as P [
      | true ↦ λ e g. let same : w ≡ r = cc in subst (λ (x : W). test x ≡ true) same e
      | false ↦ λ e g. find_passes test ws r g
    ]) refl h

pub reserved_word-is : (text : List ℕ) (w : ReservedWord) → reserved_word text ≡ Some w → text ≡ reserved_text w
reserved_word-is text w h =
    (bytes_eq-Decides text (reserved_text w)).0 (find_passes (λ v. bytes_eq text (reserved_text v)) reserved_words w h)

pub unsupported_word-is : (text : List ℕ) (w : UnsupportedWord) → unsupported_word text ≡ Some w
    → text ≡ unsupported_text w
unsupported_word-is text w h =
    (bytes_eq-Decides text (unsupported_text w)).0
    (find_passes (λ v. bytes_eq text (unsupported_text v)) unsupported_words w h)

pub reserved_word-none : (text : List ℕ) → reserved_word text ≡ None → (w : ReservedWord) → text ≢ reserved_text w
reserved_word-none text h w same =
    let found : reserved_word text ≡ Some w = ap reserved_word same ∙ reserved_word-of_text w in
    let apart : None ≡ Some w = sym h ∙ found in cc

pub unsupported_word-none : (text : List ℕ) → unsupported_word text ≡ None → (w : UnsupportedWord)
    → text ≢ unsupported_text w
unsupported_word-none text h w same =
    let found : unsupported_word text ≡ Some w = ap unsupported_word same ∙ unsupported_word-of_text w in
    let apart : None ≡ Some w = sym h ∙ found in cc

-- no two reserved words are written alike, nor two unsupported ones
pub reserved_text-injective : (v w : ReservedWord) → reserved_text v ≡ reserved_text w → v ≡ w
reserved_text-injective v w h =
    let both : Some v ≡ Some w = sym (reserved_word-of_text v) ∙ ap reserved_word h ∙ reserved_word-of_text w in cc

pub unsupported_text-injective : (v w : UnsupportedWord) → unsupported_text v ≡ unsupported_text w → v ≡ w
unsupported_text-injective v w h =
    let both : Some v ≡ Some w =
    sym (unsupported_word-of_text v) ∙ ap unsupported_word h ∙ unsupported_word-of_text w in cc
