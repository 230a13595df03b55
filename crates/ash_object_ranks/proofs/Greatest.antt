-- The greatest of some numbers.
use Rattle.std.proofs.Common.{◌≤◌, ◌<◌, ℕ, zero, suc, List, [], ◌∷◌, subst, arith}
use Rattle.std.specs.Prelude.{Contains, All, slice_index}
use Rattle.std.proofs.lemmas.List.Elements.{All-head, All-tail}
use Rattle.ash_soundness.proofs.Values.{none_in, first_in, later_in}
use Rattle.ash_object_ranks.specs.ObjectRanks.{greatest}

-- it is no less than any of them
pub no_less : (number : ℕ → ℕ) (xs : List ℕ) (x : ℕ) → Contains xs x → number x ≤ greatest number xs
no_less number [] x i = absurd (none_in x i)
no_less number (y ∷ ys) x (zero, l, e) = subst (λ (z : ℕ). number z ≤ greatest number (y ∷ ys)) e (omega arith)
no_less number (y ∷ ys) x (suc k, l, e) = omega (arith, no_less number ys x (k, omega arith, e))

-- and no more than what all of them are no more than
pub no_more : (number : ℕ → ℕ) (xs : List ℕ) (most : ℕ) → ((x : ℕ) → Contains xs x → number x ≤ most) → greatest number xs ≤ most
no_more number [] most each = omega arith
no_more number (y ∷ ys) most each = omega (arith, each y (first_in y ys), no_more number ys most (λ x i. each x (later_in y x ys i)))

-- a rank is no more than what all ranks are below
pub ranks_within : (many : ℕ) (ranks : List ℕ) → All (λ rank. rank < many) ranks → (class : ℕ) → slice_index ranks class ≤ many
ranks_within many [] h class = omega arith
ranks_within many (r ∷ ranks) h zero = let first : r < many = All-head (λ rank. rank < many) r ranks h in omega arith
ranks_within many (r ∷ ranks) h (suc class) = ranks_within many ranks (All-tail (λ rank. rank < many) r ranks h) class
