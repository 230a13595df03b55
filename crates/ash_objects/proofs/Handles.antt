-- The handles among words, before and after one is written.
use Rattle.std.proofs.Common.{◌≡◌, ℕ, cond, List, [], ◌∷◌, refl, ap, nat_eq, arith, Option, Some, None, length, zero, suc, ◌+◌, ◌≤◌, ◌<◌, set, get_or}
use Rattle.std.specs.Prelude.{slice_get}
use Rattle.std.proofs.lemmas.Bool.Decides.{nat_tests}
use Rattle.std.proofs.lemmas.List.Sums.{sum_by-set, get_or-le-sum_by}
use Rattle.ash_host.specs.declared.word.Word.{Word}
use Rattle.ash_host.specs.declared.word.Word.TheVariants as words
use Rattle.ash_host.specs.Objects.{handles_to, is_handle_to, handle}

-- whether a handle is to an object, as a number
abbrev pub hits : Option ℕ → ℕ → ℕ
hits None m = 0
hits (Some k) m = cond (nat_eq m k) 1 0

-- a word is counted where it is a handle to the object
pub hits_word : (m : ℕ) (w : Word) → cond {A = ℕ} (is_handle_to m w) 1 0 ≡ hits (handle w) m
hits_word m (words.Bool b) = refl
hits_word m (words.Int b) = refl
hits_word m (words.Uint b) = refl
hits_word m (words.Int64 b) = refl
hits_word m (words.Uint64 b) = refl
hits_word m words.Null = refl
hits_word m (words.Object k) = refl

pub same_test : (a b : ℕ) → nat_eq a b ≡ nat_eq b a
same_test a b = grind (arith, nat_tests)

-- the word that is at a place
word_at : {A : Type 0} (ws : List A) (i : ℕ) (x d : A) → slice_get ws i ≡ Some x → (i < length ws) × (get_or ws i d ≡ x)
word_at [] i x d h = cc
word_at (y ∷ ws) zero x d h = (omega arith, cc)
word_at (y ∷ ws) (suc i) x d h = let later = word_at ws i x d h in (omega (arith, later.0), later.1)

-- the handles among words, after one was written
pub handles-set : (m : ℕ) (ws : List Word) (i : ℕ) (before after : Word) → slice_get ws i ≡ Some before
    → handles_to m (set ws i after) + hits (handle before) m ≡ handles_to m ws + hits (handle after) m
handles-set m ws i before after there =
    let at = word_at ws i before words.Null there in
    let sums = sum_by-set (λ (w : Word). cond {A = ℕ} (is_handle_to m w) 1 0) ws i after words.Null at.0 in
    let was = ap (λ (w : Word). cond {A = ℕ} (is_handle_to m w) 1 0) at.1 in
    omega (arith, sums, was, hits_word m before, hits_word m after)

-- a word that is among words is counted
pub handles-at : (m : ℕ) (ws : List Word) (i : ℕ) (before : Word) → slice_get ws i ≡ Some before
    → hits (handle before) m ≤ handles_to m ws
handles-at m ws i before there =
    let at = word_at ws i before words.Null there in
    let some = get_or-le-sum_by (λ (w : Word). cond {A = ℕ} (is_handle_to m w) 1 0) ws i words.Null at.0 in
    let was = ap (λ (w : Word). cond {A = ℕ} (is_handle_to m w) 1 0) at.1 in
    omega (arith, some, was, hits_word m before)
