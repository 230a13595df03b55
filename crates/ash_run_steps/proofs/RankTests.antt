-- Ranks that fall along every reference pass the test.
use Rattle.std.proofs.Common.{◌≡◌, ℕ, Bool, true, List, [], ◌∷◌, refl, sym, ◌∙◌, arith, nat_eq, nat_lt}
use Rattle.std.specs.Prelude.{is_some}
use Rattle.std.specs.List.{list_all}
use Rattle.std.proofs.lemmas.Bool.{eq-eqb}
use Rattle.std.proofs.lemmas.Bool.Decides.{nat_tests}
use Rattle.ash_host.specs.Objects.{LiveObjects, object_at, numbers, references}
use Rattle.ash_host.specs.Reach.{AreObjectRanks, is_among}
use Rattle.ash_host.proofs.Membership.{or_first, or_second, both_and, is_among_says, is_among-numbers}
use Rattle.ash_run_steps.specs.RankedObjects.{fall_from, is_ranked, are_ranked}

all_of : (test : ℕ → Bool) (ns : List ℕ) → ((n : ℕ) → is_among ns n ≡ true → test n ≡ true) → list_all test ns ≡ true
all_of test [] each = refl
all_of test (m ∷ ns) each =
    both_and (test m) (list_all test ns) (each m (or_first (nat_eq m m) (is_among ns m) (eq-eqb m m refl)))
    (all_of test ns (λ n among. each n (or_second (nat_eq n m) (is_among ns n) among)))

pub ranks_pass : (rank : ℕ → ℕ) (top : ℕ) (objects : LiveObjects (List ℕ)) → AreObjectRanks rank top objects → are_ranked rank top objects ≡ true
ranks_pass rank top objects ranks =
    all_of (is_ranked rank top objects) (numbers objects) (λ n among.
    both_and (nat_lt (rank n) top) (fall_from rank objects n) (low n (lives n among))
    (all_of (λ m. nat_lt (rank m) (rank n)) (references objects n) (λ m refers. fall n m refers)))
  where
    lives : (n : ℕ) → is_among (numbers objects) n ≡ true → is_some (object_at n objects) ≡ true
    lives n among = sym (is_among-numbers n objects) ∙ among

    low : (n : ℕ) → is_some (object_at n objects) ≡ true → nat_lt (rank n) top ≡ true
    low n there = let below = ranks.below n there in grind (arith, nat_tests)

    fall : (n m : ℕ) → is_among (references objects n) m ≡ true → nat_lt (rank m) (rank n) ≡ true
    fall n m refers = let falls = ranks.falls n m (is_among_says m (references objects n) refers) in grind (arith, nat_tests)
