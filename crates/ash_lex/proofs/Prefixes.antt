-- Prefixes of a text: those that pass a test, those that a text begins with, and comments up to their end.
use Rattle.std.proofs.Common.{◌≡◌, ℕ, ◌+◌, ◌≤◌, Bool, true, false, not, cond, ◌&&◌, nat_eq, List, [], ◌∷◌, ◌++◌, length}
use Rattle.std.proofs.Common.{drop, Option, Some, None, option_map, codes, sym, refl, ap, ◌∙◌, subst, inl, inr, ◌⊎◌}
use Rattle.std.proofs.Common.{arith}
use Rattle.std.specs.List.{starts_with, prefix_len, take_while}
use Rattle.std.proofs.lemmas.Bool.Decides.{Decides-eqb}
use Rattle.std.proofs.lemmas.List.Sums.{take_while-cons}
use Rattle.std.proofs.lemmas.Slice.Eq.{starts_is}
use Rattle.ash_lex.specs.Bytes.{Each}
use Rattle.ash_lex.specs.Pieces.{HasNoCommentEnd}
use Rattle.ash_lex.specs.Scan.{comment_end}

pub both_true : (a b : Bool) → (a && b) ≡ true → (a ≡ true) × (b ≡ true)
both_true true b h = (refl, h)
both_true false b h = cc

pub not_true : (b : Bool) → not b ≡ true → b ≡ false
not_true true h = cc
not_true false h = refl

pub not_false : (b : Bool) → b ≡ false → not b ≡ true
not_false true h = cc
not_false false h = refl

-- which way a choice went
pub cond_cases : {X : Type 0} (b : Bool) (x y z : X) → cond b x y ≡ z → ((b ≡ true) × (x ≡ z)) ⊎ ((b ≡ false) × (y ≡ z))
cond_cases true x y z h = inl (refl, h)
cond_cases false x y z h = inr (refl, h)

-- a text that begins with p is p and the rest
pub starts-true : (text p : List ℕ) → starts_with nat_eq text p ≡ true → text ≡ p ++ drop (length p) text
starts-true text p h = (starts_is Decides-eqb text p (starts_with nat_eq text p) refl).0 h

pub starts-append : (p rest : List ℕ) → starts_with nat_eq (p ++ rest) p ≡ true
starts-append p rest = (starts_is Decides-eqb (p ++ rest) p (starts_with nat_eq (p ++ rest) p) refl).1 rest refl

-- bytes that all pass are no more than those that pass from the first on, whatever follows
pub length-le-prefix_len : (test : ℕ → Bool) (xs ys : List ℕ) → Each test xs → length xs ≤ prefix_len test (xs ++ ys)
length-le-prefix_len test [] ys h = omega arith
length-le-prefix_len test (x ∷ xs) ys h = rw h.0 (omega (arith, length-le-prefix_len test xs ys h.1))

-- the bytes that pass from the first on pass
pub Each-take_while : (test : ℕ → Bool) (xs : List ℕ) → Each test (take_while test xs)
Each-take_while test [] = tt
Each-take_while test (x ∷ xs) =
    let P : Bool → Type 0 = λ b. test x ≡ b → Each test (cond b (x ∷ take_while test xs) []) in
    subst (Each test) (sym (take_while-cons test x xs)) ((elim (test x) as P [
      | true ↦ λ e. (e, Each-take_while test xs)
      | false ↦ λ e. tt
    ]) refl)

-- whether `*/` begins at the byte before a `*/` or at it is decided by the `*` alone
same_start : (x : ℕ) (t r : List ℕ) → starts_with nat_eq (x ∷ (t ++ 42 ∷ 47 ∷ r)) (codes "*/")
    ≡ starts_with nat_eq (x ∷ (t ++ 42 ∷ [])) (codes "*/")
same_start x [] r = refl
same_start x (y ∷ t) r = refl

-- a comment's text ends where `*/` begins nowhere before
pub comment_end-at : (t r : List ℕ) → HasNoCommentEnd (t ++ 42 ∷ []) → comment_end (t ++ 42 ∷ 47 ∷ r) ≡ Some (length t + 2)
comment_end-at [] r h = refl
comment_end-at (x ∷ t) r h =
    rw (same_start x t r, not_true _ h.0, comment_end-at t r h.1) (ap Some (omega arith))

-- without a `*/` there is no end
pub comment_end-none : (t : List ℕ) → HasNoCommentEnd t → comment_end t ≡ None
comment_end-none [] h = refl
comment_end-none (x ∷ t) h = rw (not_true _ h.0, comment_end-none t h.1) refl

map_some : (o : Option ℕ) (n : ℕ) → option_map (λ k. k + 1) o ≡ Some n → (m : ℕ) × (o ≡ Some m) × (n ≡ m + 1)
map_some None n h = cc
map_some (Some m) n h = (m, refl, cc)

map_none : (o : Option ℕ) → option_map (λ k. k + 1) o ≡ None → o ≡ None
map_none None h = refl
map_none (Some m) h = cc

-- the end that is found is the first `*/`
pub comment_end-some : (xs : List ℕ) (n : ℕ) → comment_end xs ≡ Some n
    → (t r : List ℕ) × (xs ≡ t ++ 42 ∷ 47 ∷ r) × (n ≡ length t + 2) × HasNoCommentEnd (t ++ 42 ∷ [])
comment_end-some [] n h = cc
comment_end-some (x ∷ xs) n h =
    elim (cond_cases (starts_with nat_eq (x ∷ xs) (codes "*/")) (Some 2) (option_map (λ k. k + 1) (comment_end xs))
    (Some n) h) [
      | inl w ↦ ([], drop 2 (x ∷ xs), starts-true (x ∷ xs) (codes "*/") w.0, let e : 2 ≡ n = cc in sym e, (refl, tt))
      | inr w ↦
          let later = map_some (comment_end xs) n w.1 in
          let found = comment_end-some xs later.0 later.1 in (
            x ∷ found.0,
            found.1,
            ap (λ l. x ∷ l) found.2,
            omega (arith, later.2, found.3),
            (
              not_false _ (sym (same_start x found.0 found.1)
                  ∙ ap (λ l. starts_with nat_eq (x ∷ l) (codes "*/")) (sym found.2) ∙ w.0),
              found.4,
            ),
          )
    ]

pub comment_end-none_found : (xs : List ℕ) → comment_end xs ≡ None → HasNoCommentEnd xs
comment_end-none_found [] h = tt
comment_end-none_found (x ∷ xs) h =
    elim (cond_cases (starts_with nat_eq (x ∷ xs) (codes "*/")) (Some 2)
    (option_map (λ k. k + 1) (comment_end xs)) None h) [
      | inl w ↦ cc
      | inr w ↦ (not_false _ w.0, comment_end-none_found xs (map_none (comment_end xs) w.1))
    ]
