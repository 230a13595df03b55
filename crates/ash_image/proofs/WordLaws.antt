-- The two laws of a word in an image.
use Rattle.std.proofs.Common.{◌≡◌, ℕ, zero, suc, ◌^◌, ◌<◌, true, false, ltb, eqb, List, [], ◌++◌, Some, refl, ap, ◌∙◌, arith}
use Rattle.std.specs.Bool.{IsTrue}
use Rattle.std.specs.Int.{w32, w64, cast_signed, cast_unsigned}
use Rattle.std.proofs.lemmas.Bool.{ltb-true}
use Rattle.std.proofs.lemmas.Int.{of_z-to_z, to_z-of_z}
use Rattle.std.proofs.Math.Facts.{sfits_to_z, Fits-of_z}
use Rattle.ash_host.specs.declared.word.Word.{Word}
use Rattle.ash_host.specs.declared.word.Word.TheVariants as words
use Rattle.ash_image.specs.Fields.{number}
use Rattle.ash_image.specs.ImageWords.{word, FitsWord, value_at, word_at}
use Rattle.ash_image.proofs.Numbers.{IsBytes}
use Rattle.ash_image.proofs.FieldLaws.{IsField, number_field, checked_field, tagged_field, HasCase, IsCase, case_takes}
use Rattle.ash_image.proofs.FieldLaws.{bare_takes, as_again}

is_flag : (n : ℕ) → (n < 256 ^ 1) × IsTrue (ltb n 2) → (word (words.Bool (eqb n 1)) ≡ number 1 0 ++ number 1 n)
    × FitsWord (words.Bool (eqb n 1))
is_flag zero h = (refl, tt)
is_flag (suc zero) h = (refl, tt)
is_flag (suc (suc n)) h = absurd (omega (arith, ltb-true (suc (suc n)) 2 h.1))

value_takes : (tag : ℕ) (bytes : List ℕ) (x : Word × List ℕ) → IsBytes bytes → value_at tag bytes ≡ Some x
    → HasCase word FitsWord tag bytes x
unfolding value_at
value_takes zero bytes x ok e = case_takes word FitsWord 0 (λ n. words.Bool (eqb n 1))
    (checked_field (λ n. ltb n 2) (number_field 1)) is_flag bytes x ok e
value_takes (suc zero) bytes x ok e =
    case_takes word FitsWord 1 (λ n. words.Int (cast_signed w32 n)) (number_field 4)
    (λ n lt. (
      ap (λ (v : ℕ). number 1 1 ++ number 4 v) (of_z-to_z w32 n lt),
      sfits_to_z {w = w32} {n = n} (record { fits = lt }),
    )) bytes x ok e
value_takes (suc (suc zero)) bytes x ok e =
    case_takes word FitsWord 2 (λ n. words.Uint n) (number_field 4) (λ n lt. (refl, lt)) bytes x ok e
value_takes (suc (suc (suc zero))) bytes x ok e =
    case_takes word FitsWord 3 (λ n. words.Int64 (cast_signed w64 n)) (number_field 8)
    (λ n lt. (
      ap (λ (v : ℕ). number 1 3 ++ number 8 v) (of_z-to_z w64 n lt),
      sfits_to_z {w = w64} {n = n} (record { fits = lt }),
    )) bytes x ok e
value_takes (suc (suc (suc (suc zero)))) bytes x ok e =
    case_takes word FitsWord 4 (λ n. words.Uint64 n) (number_field 8) (λ n lt. (refl, lt)) bytes x ok e
value_takes (suc (suc (suc (suc (suc zero))))) bytes x ok e =
    bare_takes word FitsWord 5 words.Null refl tt bytes x ok e
value_takes (suc (suc (suc (suc (suc (suc zero)))))) bytes x ok e =
    case_takes word FitsWord 6 (λ n. words.Object n) (number_field 8) (λ n lt. (refl, lt)) bytes x ok e
value_takes (suc (suc (suc (suc (suc (suc (suc n))))))) bytes x ok e = absurd cc

value_again : (w : Word) → FitsWord w → IsCase word value_at w
unfolding value_at
value_again (words.Bool true) h = record {
  tag = 0;
  small = omega arith;
  body = number 1 1;
  spelled = refl;
  read = λ rest.
      as_again (λ n. words.Bool (eqb n 1)) (checked_field (λ n. ltb n 2) (number_field 1)) 1 rest (omega arith, refl);
}
value_again (words.Bool false) h = record {
  tag = 0;
  small = omega arith;
  body = number 1 0;
  spelled = refl;
  read = λ rest.
      as_again (λ n. words.Bool (eqb n 1)) (checked_field (λ n. ltb n 2) (number_field 1)) 0 rest (omega arith, refl);
}
value_again (words.Int z) h = record {
  tag = 1;
  small = omega arith;
  body = number 4 (cast_unsigned w32 z);
  spelled = refl;
  read = λ rest.
      as_again (λ n. words.Int (cast_signed w32 n)) (number_field 4) (cast_unsigned w32 z) rest
      (Fits-of_z {w = w32} {z = z} h).fits
      ∙ ap (λ v. Some (words.Int v, rest)) (to_z-of_z w32 z h);
}
value_again (words.Uint n) h = record {
  tag = 2;
  small = omega arith;
  body = number 4 n;
  spelled = refl;
  read = λ rest.
      as_again (λ m. words.Uint m) (number_field 4) n rest h;
}
value_again (words.Int64 z) h = record {
  tag = 3;
  small = omega arith;
  body = number 8 (cast_unsigned w64 z);
  spelled = refl;
  read = λ rest.
      as_again (λ n. words.Int64 (cast_signed w64 n)) (number_field 8) (cast_unsigned w64 z) rest
      (Fits-of_z {w = w64} {z = z} h).fits
      ∙ ap (λ v. Some (words.Int64 v, rest)) (to_z-of_z w64 z h);
}
value_again (words.Uint64 n) h = record {
  tag = 4;
  small = omega arith;
  body = number 8 n;
  spelled = refl;
  read = λ rest.
      as_again (λ m. words.Uint64 m) (number_field 8) n rest h;
}
value_again words.Null h = record { tag = 5; small = omega arith; body = []; spelled = refl; read = λ rest. refl }
value_again (words.Object n) h = record {
  tag = 6;
  small = omega arith;
  body = number 8 n;
  spelled = refl;
  read = λ rest.
      as_again (λ m. words.Object m) (number_field 8) n rest h;
}

pub word_field : IsField word FitsWord word_at
unfolding word_at
word_field = tagged_field value_takes value_again
