-- How readings go together to one that reads a whole phrase, or is cut where a token is too deep.
use Rattle.std.proofs.Common.{◌≡◌, ℕ, zero, suc, ◌<◌, ◌≤◌, List, [], ◌∷◌, length, Bool, true, false, Option, Some, None, Ok, Err, ◌⊎◌, inl, inr, refl, sym, subst, arith}
use Rattle.ash_lex.specs.Tokens.{Meaning}
use Rattle.ash_tree.specs.declared.tree.places.Position.{Position}
use Rattle.ash_tree.specs.GrammarTokens.{Tokens}
use Rattle.ash_parse.specs.Readers.{TooDeep, ParseResult, ◌>>=◌, put, repeat}

pub no_some : {A : Type 0} (x : A) → ◌≡◌ {A = Option A} None (Some x) → ⊥
no_some x h = cc

pub no_true : false ≡ true → ⊥
no_true h = cc

-- this is what reading gives, or reading is cut at the depth, at one of the last `free` tokens
pub data Reads (A : Type 0) : ℕ → ParseResult A → A × Tokens → Type 0 where
  whole : {free : ℕ} {x : A × Tokens} → Reads A free (Ok x) x
  cut : {free : ℕ} {t : Meaning × Position} {more : Tokens} {x : A × Tokens} → length more < free → Reads A free (Err (TooDeep (t ∷ more))) x

pub as_read : {A : Type 0} {free : ℕ} {read : ParseResult A} {x : A × Tokens} → read ≡ Ok x → Reads A free read x
as_read {A} {free} {read} {x} e = subst (λ r. Reads A free r x) (sym e) whole

-- where no token is free, nothing is cut
pub is_whole : {A : Type 0} {free : ℕ} {read : ParseResult A} {x : A × Tokens} → Reads A free read x → free ≡ 0 → read ≡ Ok x
is_whole whole z = refl
is_whole (cut l) z = absurd (omega arith)

pub is_cut : {A : Type 0} {free : ℕ} {read : ParseResult A} {x : A × Tokens} → Reads A free read x → (read ≡ Ok x) ⊎ ((rest : Tokens) × (read ≡ Err (TooDeep rest)) × (length rest ≤ free))
is_cut whole = inl refl
is_cut (cut {t = t} {more = more} l) = inr (t ∷ more, refl, omega arith)

-- one reading after the other
pub then_reads : {A B : Type 0} {free : ℕ} {read : ParseResult A} {x : A × Tokens} {y : B × Tokens} (next : A × Tokens → ParseResult B) → Reads A free read x → Reads B free (next x) y → Reads B free (read >>= next) y
then_reads next whole k = k
then_reads next (cut l) k = cut l

pub put_reads : {A : Type 0} {free : ℕ} {read : ParseResult (List A)} {xs : List A × Tokens} (x : A) → Reads (List A) free read xs → Reads (List A) free (put x read) (x ∷ xs.0, xs.1)
put_reads x whole = whole
put_reads x (cut l) = cut l

-- reading again and again, as often as it takes
abbrev pub ReadsAll : {A : Type 0} → ℕ → (Tokens → Bool) → (Tokens → ParseResult A) → Tokens → List A → Tokens → Type 0
ReadsAll {A} free more read from xs left = (n : ℕ) → length from ≤ n → Reads (List A) free (repeat more read n from) (xs, left)

pub none_again : {A : Type 0} (free : ℕ) (more : Tokens → Bool) (read : Tokens → ParseResult A) (left : Tokens) → more left ≡ false → ReadsAll free more read left [] left
unfolding repeat
none_again free more read left b zero l = whole
none_again free more read left b (suc n) l = rw b whole

pub one_again : {A : Type 0} (free : ℕ) (more : Tokens → Bool) (read : Tokens → ParseResult A) (from after left : Tokens) (x : A) (xs : List A) → more from ≡ true → Reads A free (read from) (x, after) → length after < length from → ReadsAll free more read after xs left → ReadsAll free more read from (x ∷ xs) left
unfolding repeat
one_again free more read from after left x xs b h lt rest zero l = absurd (omega arith)
one_again free more read from after left x xs b h lt rest (suc n) l = rw b (then_reads _ h (put_reads x (rest n (omega arith))))
