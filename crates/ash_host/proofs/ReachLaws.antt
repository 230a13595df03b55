-- What is reachable can be computed, and the sweep is what its definition says.
use Rattle.std.proofs.Common.{◌≡◌, ℕ, Bool, true, false, cond, List, [], ◌∷◌, inl, inr, refl, sym, subst, ap, ◌∙◌, nat_eq}
use Rattle.std.specs.Prelude.{None, Contains, ◌&&◌, ◌||◌}
use Rattle.std.specs.List.Sorted.{IsStrictlyIncreasing}
use Rattle.std.proofs.lemmas.List.Kept.{IsStrictlyIncreasing-filter}
use Rattle.std.proofs.lemmas.Map.Entries.{lookup-filter-keys}
use Rattle.std.specs.List.{list_any}
use Rattle.std.proofs.lemmas.Bool.{eqb-true}
use Rattle.ash_host.specs.Objects.{LiveObjects, object_at, numbers, references, IsInOrder}
use Rattle.ash_host.specs.Reach.{Reachable, Root, Field, ReachableIn, is_among, leads, refers, is_reachable, Swept, after_sweep, drops_of_sweep}
use Rattle.ash_host.proofs.Membership.{or_cases, or_first, or_second, and_both, both_and, is_among_yes, is_among_says, list_any_weaker, list_any_at, list_any_some, is_among-numbers, refers_lives, numbers-filter}

-- one step leads there, whatever the stops
leads-step : (refers : ℕ → ℕ → Bool) (stops : List ℕ) (m n : ℕ) → refers m n ≡ true → leads refers stops m n ≡ true
unfolding leads
leads-step refers [] m n h = h
leads-step refers (stop ∷ stops) m n h = or_first (leads refers stops m n) (leads refers stops m stop && leads refers stops stop n) (leads-step refers stops m n h)

-- two ways joined at one of the stops are a way
leads-join : (refers : ℕ → ℕ → Bool) (stops : List ℕ) (m x n : ℕ) → is_among stops x ≡ true → leads refers stops m x ≡ true → leads refers stops x n ≡ true → leads refers stops m n ≡ true
unfolding leads
leads-join refers [] m x n among a b = cc
leads-join refers (stop ∷ stops) m x n among a b =
    elim (or_cases (nat_eq x stop) (is_among stops x) among) [
      | inl here ↦ or_second (L m n) (L m stop && L stop n) (both_and (L m stop) (L stop n) (to_stop (eqb-true x stop here)) (from_stop (eqb-true x stop here)))
      | inr later ↦
          elim (or_cases (L m x) (L m stop && L stop x) a) [
            | inl direct ↦
                elim (or_cases (L x n) (L x stop && L stop n) b) [
                  | inl on ↦ or_first (L m n) (L m stop && L stop n) (leads-join refers stops m x n later direct on)
                  | inr by ↦ let two = and_both (L x stop) (L stop n) by in or_second (L m n) (L m stop && L stop n) (both_and (L m stop) (L stop n) (leads-join refers stops m x stop later direct two.0) two.1)
                ]
            | inr over ↦
                let first = and_both (L m stop) (L stop x) over in
                elim (or_cases (L x n) (L x stop && L stop n) b) [
                  | inl on ↦ or_second (L m n) (L m stop && L stop n) (both_and (L m stop) (L stop n) first.0 (leads-join refers stops stop x n later first.1 on))
                  | inr by ↦ let two = and_both (L x stop) (L stop n) by in or_second (L m n) (L m stop && L stop n) (both_and (L m stop) (L stop n) first.0 two.1)
                ]
          ]
    ]
  where
    L : ℕ → ℕ → Bool
    L = leads refers stops

    to_stop : x ≡ stop → L m stop ≡ true
    to_stop e = let a' = subst (λ (k : ℕ). L m k || (L m stop && L stop k) ≡ true) e a in elim (or_cases (L m stop) (L m stop && L stop stop) a') [ inl h ↦ h | inr h ↦ (and_both (L m stop) (L stop stop) h).0 ]

    from_stop : x ≡ stop → L stop n ≡ true
    from_stop e = let b' = subst (λ (k : ℕ). L k n || (L k stop && L stop n) ≡ true) e b in elim (or_cases (L stop n) (L stop stop && L stop n) b') [ inl h ↦ h | inr h ↦ (and_both (L stop stop) (L stop n) h).1 ]

-- what a way leads to is reachable
leads-reaches : {IsHeld : ℕ → Type 0} {RefersTo : ℕ → ℕ → Type 0} (refers : ℕ → ℕ → Bool) → ((a b : ℕ) → refers a b ≡ true → RefersTo a b) → (stops : List ℕ) (m n : ℕ) → leads refers stops m n ≡ true → Reachable IsHeld RefersTo m → Reachable IsHeld RefersTo n
unfolding leads
leads-reaches refers says [] m n h r = Field r (says m n h)
leads-reaches refers says (stop ∷ stops) m n h r =
    elim (or_cases (leads refers stops m n) (leads refers stops m stop && leads refers stops stop n) h) [
      | inl direct ↦ leads-reaches refers says stops m n direct r
      | inr over ↦
          let two = and_both (leads refers stops m stop) (leads refers stops stop n) over in
          leads-reaches refers says stops stop n two.1 (leads-reaches refers says stops m stop two.0 r)
    ]

module _ {M : Type 0} (held : List ℕ) (objects : LiveObjects M) where
  abbrev ways : ℕ → ℕ → Bool
  ways = leads (refers objects) (numbers objects)

  -- what the test finds is reachable
  pub is_reachable_says : (n : ℕ) → is_reachable held objects n ≡ true → ReachableIn (Contains held) objects n
  is_reachable_says n h =
      elim (or_cases (is_among held n) (list_any (λ root. ways root n) held) h) [
        | inl here ↦ Root (is_among_says n held here)
        | inr later ↦
            let s = list_any_some (λ root. ways root n) held later in
            leads-reaches (refers objects) (λ a b e. is_among_says b (references objects a) e) (numbers objects) s.0 n s.2 (Root (is_among_says s.0 held s.1))
      ]

  -- what is reachable the test finds
  pub is_reachable_yes : (n : ℕ) → ReachableIn (Contains held) objects n → is_reachable held objects n ≡ true
  is_reachable_yes n (Root h) = or_first (is_among held n) (list_any (λ root. ways root n) held) (is_among_yes n held h)
  is_reachable_yes n (Field {one} r f) =
      elim (or_cases (is_among held one) (list_any (λ root. ways root one) held) (is_reachable_yes one r)) [
        | inl here ↦ or_second (is_among held n) (list_any (λ root. ways root n) held) (list_any_at (λ root. ways root n) one step held here)
        | inr later ↦
            or_second (is_among held n) (list_any (λ root. ways root n) held)
            (list_any_weaker (λ root. ways root one) (λ root. ways root n) (λ root way. leads-join (refers objects) (numbers objects) root one n lives way step) held later)
      ]
    where
      refer : refers objects one n ≡ true
      refer = is_among_yes n (references objects one) f

      step : ways one n ≡ true
      step = leads-step (refers objects) (numbers objects) one n refer

      lives : is_among (numbers objects) one ≡ true
      lives = is_among-numbers one objects ∙ refers_lives objects one n refer

  -- what a sweep leaves at a number
  pub object_at-after_sweep : (n : ℕ) → object_at n (after_sweep held objects) ≡ cond (is_reachable held objects n) (object_at n objects) None
  object_at-after_sweep n = lookup-filter-keys (nat_eq n) (is_reachable held objects) (is_reachable held objects n) (λ k e. ap (is_reachable held objects) (sym (eqb-true n k e))) objects

  -- what is reachable stays
  sweep_stays : (n : ℕ) → ReachableIn (Contains held) objects n → object_at n (after_sweep held objects) ≡ object_at n objects
  sweep_stays n r = object_at-after_sweep n ∙ ap (λ (b : Bool). cond b (object_at n objects) None) (is_reachable_yes n r)

  -- the rest goes
  sweep_goes : (n : ℕ) → ¬ ReachableIn (Contains held) objects n → object_at n (after_sweep held objects) ≡ None
  sweep_goes n not_reached =
      object_at-after_sweep n ∙ go (is_reachable held objects n) refl
    where
      go : (b : Bool) → is_reachable held objects n ≡ b → cond b (object_at n objects) None ≡ None
      go true e = absurd (not_reached (is_reachable_says n e))
      go false e = refl

  -- the sweep that is computed is the sweep
  pub sweep_is_exact : IsInOrder objects → Swept (Contains held) objects (after_sweep held objects) (drops_of_sweep held objects)
  sweep_is_exact in_order = record {
    stays = sweep_stays;
    goes = sweep_goes;
    in_order = subst IsStrictlyIncreasing (sym (numbers-filter (is_reachable held objects) objects)) (IsStrictlyIncreasing-filter (is_reachable held objects) (numbers objects) in_order);
    reported = refl;
  }
