-- Which bytes are the text of what is registered.
use Rattle.std.proofs.Common.{◌≡◌, ◌≤◌, ◌&&◌, ℕ, Bool, true, false, leb, List, length, refl}
use Rattle.std.specs.Str.{IsUtf8, is_utf8}
use Rattle.std.proofs.lemmas.Bool.{leb-true, le-leb}
use Rattle.std.proofs.lemmas.Str.{IsUtf8-from_is_utf8, is_utf8-from_IsUtf8}
use Rattle.ash_image.specs.Image.{FitsText, max_registered_text_bytes}
use Rattle.ash_image.specs.ImageReading.{is_text}
use Rattle.ash_image.proofs.NameLaws.{both}

pub text_fits : (bytes : List ℕ) → is_text bytes ≡ true → FitsText bytes
text_fits bytes e =
    let h = both (leb (length bytes) max_registered_text_bytes) (is_utf8 bytes) e in
    record { utf8 = IsUtf8-from_is_utf8 bytes h.1; short = leb-true _ _ h.0 }

pub some_text : (bytes : List ℕ) → length bytes ≤ max_registered_text_bytes → IsUtf8 bytes → is_text bytes ≡ true
some_text bytes short utf8 = rw (le-leb (length bytes) max_registered_text_bytes short) (is_utf8-from_IsUtf8 bytes utf8)

and_false : (a : Bool) → (a && false) ≡ false
and_false true = refl
and_false false = refl

by_utf8 : (bytes : List ℕ) (v : Bool) → is_utf8 bytes ≡ v → (IsUtf8 bytes → ⊥) → is_text bytes ≡ false
by_utf8 bytes true e not = absurd (not (IsUtf8-from_is_utf8 bytes e))
by_utf8 bytes false e not = rw e (and_false (leb (length bytes) max_registered_text_bytes))

pub no_text : (bytes : List ℕ) → (IsUtf8 bytes → ⊥) → is_text bytes ≡ false
no_text bytes not = by_utf8 bytes (is_utf8 bytes) refl not
