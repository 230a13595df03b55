-- Laws of the sweep.
use Rattle.std.proofs.Common.{◌≡◌, ◌≤◌, ◌+◌, ℕ, zero, suc, Bool, true, false, cond, List, [], ◌∷◌, inl, inr, refl, sym, subst, ap, ◌∙◌, nat_eq, arith}
use Rattle.std.specs.Prelude.{Option, None, Some, Contains, filter, is_some, ◌&&◌}
use Rattle.std.specs.Option.{option_map_or, is_none}
use Rattle.std.specs.Map.{keys_of}
use Rattle.std.proofs.lemmas.Bool.{eq-eqb}
use Rattle.ash_host.specs.Objects.{Plain, LiveObjects, object_at, numbers, Refers, Lives, handles, fields_of, is_host}
use Rattle.ash_host.specs.Reach.{Reachable, Root, Field, ReachableIn, NoneDangles, Swept, Cascaded, AreObjectRanks, hosts_gone, is_reachable, is_among}
use Rattle.ash_host.proofs.Membership.{is_among-numbers, or_first, or_second}
use Rattle.ash_host.proofs.Order.{same_in_order}
use Rattle.ash_host.proofs.ReachLaws.{is_reachable_says, is_reachable_yes}

-- what is at a number decides what is referred to from there
pub references_same : {M : Type 0} (a b : LiveObjects M) (one other : ℕ) → object_at one a ≡ object_at one b → Refers a one other → Refers b one other
references_same a b one other e r = subst (λ o. Contains (option_map_or (λ object. handles (fields_of object)) o []) other) e r

-- reach along more references from more that is held
pub reachable_along : {A B : ℕ → Type 0} {R S : ℕ → ℕ → Type 0} → ((n : ℕ) → A n → B n) → ((m n : ℕ) → R m n → S m n) → (n : ℕ) → Reachable A R n → Reachable B S n
reachable_along held refers n (Root h) = Root (held n h)
reachable_along held refers n (Field {one} r f) = Field (reachable_along held refers one r) (refers one n f)

-- nothing refers from a number at which nothing lives
pub none_refers : {M : Type 0} (objects : LiveObjects M) (one other : ℕ) → object_at one objects ≡ None → Refers objects one other → ⊥
none_refers objects one other e r =
    let h = subst (λ o. Contains (option_map_or (λ object. handles (fields_of object)) o []) other) e r in
    omega (arith, h.1)

is_none_from : {A : Type 0} (o : Option A) → is_some o ≡ false → o ≡ None
is_none_from None h = refl
is_none_from (Some x) h = cc

-- none goes where each lives still
none_gone : {M : Type 0} (l new : LiveObjects M) → ((n : ℕ) → is_among (numbers l) n ≡ true → is_some (object_at n new) ≡ true) → hosts_gone l new ≡ []
none_gone [] new h = refl
none_gone {M} (e ∷ l) new h =
    ap (λ (b : Bool). keys_of (cond b (e ∷ rest) rest)) (not_gone (is_host e.1) (object_at e.0 new) (h e.0 (or_first (nat_eq e.0 e.0) (is_among (numbers l) e.0) (eq-eqb e.0 e.0 refl))))
    ∙ none_gone l new (λ n among. h n (or_second (nat_eq n e.0) (is_among (numbers l) n) among))
  where
    rest : LiveObjects M
    rest = filter (λ f. is_host f.1 && is_none (object_at f.0 new)) l

    not_gone : (b : Bool) (o : Option (Plain M)) → is_some o ≡ true → b && is_none o ≡ false
    not_gone true None some = sym some
    not_gone true (Some x) some = refl
    not_gone false o some = refl

-- where no handle dangles, what is reachable lives
pub reachable_lives : {M : Type 0} {IsHeld : ℕ → Type 0} (objects : LiveObjects M) → NoneDangles IsHeld objects → (n : ℕ) → ReachableIn IsHeld objects n → Lives objects n
reachable_lives objects closed n (Root h) = closed.held n h
reachable_lives objects closed n (Field {one} r f) = closed.fields one n f

module _ {M : Type 0} {IsHeld : ℕ → Type 0} {old new : LiveObjects M} {dropped : List ℕ} (s : Swept IsHeld old new dropped) where
  -- after a sweep the same is reachable
  pub swept_reachable : (n : ℕ) → ReachableIn IsHeld old n → ReachableIn IsHeld new n
  swept_reachable n (Root h) = Root h
  swept_reachable n (Field {one} r f) = Field (swept_reachable one r) (references_same old new one n (sym (s.stays one r)) f)

  pub swept_reached : (n : ℕ) → ReachableIn IsHeld new n → ReachableIn IsHeld old n
  swept_reached n (Root h) = Root h
  swept_reached n (Field {one} r f) = Field (swept_reached one r) (references_same new old one n (s.stays one (swept_reached one r)) f)

  -- and no handle dangles
  pub swept_none_dangles : NoneDangles IsHeld old → NoneDangles IsHeld new
  swept_none_dangles closed = record {
    held = λ n h. stays_alive n (Root h);
    fields = λ one other f. live one other f (is_some (object_at other new)) refl;
  }
    where
      stays_alive : (n : ℕ) → ReachableIn IsHeld old n → Lives new n
      stays_alive n r = subst (λ (o : Option (Plain M)). is_some o ≡ true) (sym (s.stays n r)) (reachable_lives old closed n r)

      live : (one other : ℕ) → Refers new one other → (b : Bool) → is_some (object_at other new) ≡ b → b ≡ true
      live one other f true e = refl
      live one other f false e =
          let unreached : ReachableIn IsHeld old one → ⊥ = λ r. let alive = stays_alive other (Field r (references_same new old one other (s.stays one r) f)) in cc in
          absurd (none_refers new one other (s.goes one unreached) f)

  -- sweeping again changes nothing and drops nothing
  pub swept_again : Swept IsHeld new new []
  swept_again = record {
    stays = λ n r. refl;
    goes = λ n unreached. s.goes n (λ r. unreached (swept_reachable n r));
    in_order = s.in_order;
    reported = sym (none_gone new new (λ n among. sym (is_among-numbers n new) ∙ among));
  }

-- A cascade of counts is a sweep: where ranks fall along every reference, what it leaves is what is reachable.
module _ {M : Type 0} {IsHeld : ℕ → Type 0} {rank : ℕ → ℕ} {top : ℕ} (old new : LiveObjects M) (c : Cascaded IsHeld old new) (closed : NoneDangles IsHeld old) (ranks : AreObjectRanks rank top old) where
  unless_gone : (n : ℕ) (b : Bool) → is_some (object_at n new) ≡ b → (object_at n new ≡ None → ⊥) → b ≡ true
  unless_gone n true e still = refl
  unless_gone n false e still = absurd (still (is_none_from (object_at n new) e))

  reached_lives : (n : ℕ) → ReachableIn IsHeld old n → Lives new n
  reached_lives n (Root h) = unless_gone n (is_some (object_at n new)) refl (λ none. c.not_held n (closed.held n h) none h)
  reached_lives n (Field {one} r f) = unless_gone n (is_some (object_at n new)) refl (λ none. c.not_referred one n (closed.fields one n f) none (reached_lives one r) f)

  lived : (n : ℕ) → Lives new n → Lives old n
  lived n h = subst (λ (o : Option (Plain M)). is_some o ≡ true) (c.unchanged n h) h

  live_reached : (fuel n : ℕ) → top ≤ fuel + rank n → Lives new n → ReachableIn IsHeld old n
  live_reached zero n bound h = absurd (omega (arith, ranks.below n (lived n h)))
  live_reached (suc fuel) n bound h =
      elim (c.counted n h) [
        | inl held ↦ Root held
        | inr (one, alive, f) ↦
            let refers_old : Refers old one n = references_same new old one n (c.unchanged one alive) f in
            Field (live_reached fuel one (omega (arith, ranks.falls one n refers_old)) alive) refers_old
      ]

  goes_at : (n : ℕ) (b : Bool) → is_some (object_at n new) ≡ b → ¬ ReachableIn IsHeld old n → object_at n new ≡ None
  goes_at n true e unreached = absurd (unreached (live_reached top n (omega arith) e))
  goes_at n false e unreached = is_none_from (object_at n new) e

  pub cascade_is_sweep : Swept IsHeld old new (hosts_gone old new)
  cascade_is_sweep = record {
    stays = λ n r. c.unchanged n (reached_lives n r);
    goes = λ n unreached. goes_at n (is_some (object_at n new)) refl unreached;
    in_order = c.in_order;
    reported = refl;
  }

-- There is one sweep.
module _ {M : Type 0} (held : List ℕ) {old a b : LiveObjects M} {gone_a gone_b : List ℕ} (s : Swept (Contains held) old a gone_a) (t : Swept (Contains held) old b gone_b) where
  same_at : (n : ℕ) (r : Bool) → is_reachable held old n ≡ r → object_at n a ≡ object_at n b
  same_at n true e = let r = is_reachable_says held old n e in s.stays n r ∙ sym (t.stays n r)
  same_at n false e = let unreached : ReachableIn (Contains held) old n → ⊥ = λ r. let yes = is_reachable_yes held old n r in cc in s.goes n unreached ∙ sym (t.goes n unreached)

  pub sweep_is_one : a ≡ b
  sweep_is_one = same_in_order a b s.in_order t.in_order (λ n. same_at n (is_reachable held old n) refl)

  pub drops_are_one : gone_a ≡ gone_b
  drops_are_one = s.reported ∙ ap (hosts_gone old) sweep_is_one ∙ sym t.reported
