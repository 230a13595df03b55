-- Steps of a walk that are bound, taken apart.
use Rattle.std.proofs.Common.{◌≡◌, Bool, true, false, cond, Ok, refl}
use Rattle.ash_type_rules.specs.TypingResult.{TypingResult, ◌>>=◌}
use Rattle.ash_type_rules.proofs.TypingWords.{bound}
pub use Rattle.ash_type_rules.proofs.TypingWords.{no_fault as no_err, same_ok as ok_is, bind_ok}

pub bind_is : {A B : Type 0} (o : TypingResult A) (f : A → TypingResult B) (x : A) (y : B) → o ≡ Ok x → f x ≡ Ok y
    → (o >>= f) ≡ Ok y
bind_is o f x y h k = bound o f x (Ok y) h k

pub if_ok : {A : Type 0} {P : Type 0} (b : Bool) (x y r : TypingResult A) → cond b x y ≡ r → (b ≡ true → x ≡ r → P)
    → (b ≡ false → y ≡ r → P) → P
if_ok true x y r h on off = on refl h
if_ok false x y r h on off = off refl h
