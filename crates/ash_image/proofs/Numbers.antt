-- A number that was read from bytes is written as those bytes.
use Rattle.std.proofs.Common.{◌≡◌, ℕ, zero, suc, ◌+◌, ◌*◌, ◌/◌, ◌%◌, ◌^◌, ◌<◌, List, [], ◌∷◌, length, get_or, refl, sym}
use Rattle.std.proofs.Common.{ap, ◌∙◌, arith}
use Rattle.std.proofs.Math.Nat.{div-div-eq-div-mul, pow-succ'}
use Rattle.std.specs.Int.{byte_at, bytes_low_first}
use Rattle.byteorder.specs.Endian.{little_from}
use Rattle.byteorder.specs.Numbers.{little_from-cons}

abbrev pub IsBytes : List ℕ → Type 0
IsBytes bytes = (i : ℕ) → get_or bytes i 0 < 256

byte_at-shift : (i x : ℕ) → byte_at (suc i) x ≡ byte_at i (x / 256)
byte_at-shift zero x = refl
byte_at-shift (suc i) x =
    let shift : x / 256 ^ suc (suc i) ≡ x / 256 / 256 ^ suc i = ap (λ (p : ℕ). x / p) (pow-succ' 256 (suc i))
    ∙ sym (div-div-eq-div-mul x 256 (256 ^ suc i)) in
    ap (λ (y : ℕ). y % 256) shift

bytes_low_first-shift : (i n x : ℕ) → bytes_low_first (suc i) n x ≡ bytes_low_first i n (x / 256)
bytes_low_first-shift i zero x = refl
bytes_low_first-shift i (suc n) x = rw (byte_at-shift i x, bytes_low_first-shift (suc i) n x) refl

pub bytes_back : (n : ℕ) (bytes : List ℕ) → length bytes ≡ n → IsBytes bytes
    → bytes_low_first 0 n (little_from 0 n bytes) ≡ bytes
bytes_back zero [] len fits = refl
bytes_back zero (b ∷ bytes) len fits = absurd (omega arith)
bytes_back (suc n) [] len fits = absurd (omega arith)
bytes_back (suc n) (b ∷ bytes) len fits =
    let high = little_from 0 n bytes in
    let x = b + 256 * high in
    let small : b < 256 = fits 0 in
    let is : little_from 0 (suc n) (b ∷ bytes) ≡ x = ap (λ (h : ℕ). b + 256 * h) (little_from-cons 0 n b bytes) in
    let low : x % 256 ≡ b = omega arith in
    let rest : x / 256 ≡ high = omega arith in
    let more : bytes_low_first 1 n x ≡ bytes = bytes_low_first-shift 0 n x ∙ ap (bytes_low_first 0 n) rest
    ∙ bytes_back n bytes (omega arith) (λ i. fits (suc i)) in
    ap (bytes_low_first 0 (suc n)) is ∙ ap (λ (c : ℕ). c ∷ bytes_low_first 1 n x) low
    ∙ ap (λ (cs : List ℕ). b ∷ cs) more
