-- Walks over lists, step by step: the first step that fails ends them.
use Rattle.std.proofs.Common.{◌≡◌, ℕ, ◌+◌, List, [], ◌∷◌, length, Ok, sym, ap, ◌∙◌, ◌<◌, ◌≤◌, drop, get_or}
use Rattle.std.proofs.lemmas.List.{at_drop_more, at_drop_all}
use Rattle.ash_type_rules.specs.TypingResult.{TypingResult, ◌>>=◌}
use Rattle.ash_check_names.specs.declared.error.CheckError.{CheckError}
use Rattle.ash_check_names.specs.declared.error.CheckError.TheVariants as errors
use Rattle.ash_check_names.specs.Agreement.{FailsWith}

-- where the first step fails, what is bound to it does
pub stops : {X Y : Type 0} (first : TypingResult X) (rest : X → TypingResult Y) (e : CheckError) → FailsWith e first → FailsWith e (first >>= rest)
stops first rest (errors.Fault f) fails = ap (λ r. r >>= rest) fails
stops first rest errors.NoMemory fails = tt

at_result : {X : Type 0} (e : CheckError) (some others : TypingResult X) → some ≡ others → FailsWith e some → FailsWith e others
at_result (errors.Fault f) some others same fails = sym same ∙ fails
at_result errors.NoMemory some others same fails = tt

module _ {X S : Type 0} (step : S → X → TypingResult S) (walk : S → List X → TypingResult S) (steps : (s : S) (x : X) (xs : List X) → walk s (x ∷ xs) ≡ (step s x >>= λ next. walk next xs)) (all : List X) (i : ℕ) (s : S) (whole : TypingResult S) where
  next_step : (item : X) → i < length all → item ≡ get_or all i item → walk s (drop i all) ≡ whole → (step s item >>= λ next. walk next (drop (i + 1) all)) ≡ whole
  next_step item within is so_far =
      let others = drop (i + 1) all in
      ap (λ x. step s x >>= λ next. walk next others) is ∙ sym (steps s (get_or all i item) others) ∙ sym (at_drop_more (walk s) all i item within) ∙ so_far

  pub walk_goes_on : (item : X) (next : S) → i < length all → item ≡ get_or all i item → step s item ≡ Ok next → walk s (drop i all) ≡ whole → walk next (drop (i + 1) all) ≡ whole
  walk_goes_on item next within is gives so_far =
      sym (ap (λ r. r >>= λ n. walk n (drop (i + 1) all)) gives) ∙ next_step item within is so_far

  pub walk_stops : (item : X) (e : CheckError) → i < length all → item ≡ get_or all i item → FailsWith e (step s item) → walk s (drop i all) ≡ whole → FailsWith e whole
  walk_stops item e within is fails so_far =
      at_result e (step s item >>= λ next. walk next (drop (i + 1) all)) whole (next_step item within is so_far) (stops (step s item) (λ next. walk next (drop (i + 1) all)) e fails)

  pub walk_ends : length all ≤ i → walk s (drop i all) ≡ whole → walk s [] ≡ whole
  walk_ends end so_far = sym (at_drop_all (walk s) all i end) ∙ so_far
