-- Lives of numbers: how they are put together, and what makes one.
use Rattle.std.proofs.Common.{◌≡◌, ◌≤◌, ◌<◌, ◌+◌, ◌∙◌, ◌⊎◌, inl, inr, ℕ, zero, suc, cond, IsSome, List, [], ◌∷◌, ◌++◌, Option, Some, None, refl, sym, subst, ap, arith}
use Rattle.std.proofs.lemmas.List.Sums.{sum_by-cons, sum_by-append}
use Rattle.std.specs.Option.{option_map_or}
use Rattle.ash_host.specs.declared.event.Event.{Event}
use Rattle.ash_host.specs.Objects.{Plain, Script, Array, Host, object_at, AreNumbered}
use Rattle.ash_meaning.specs.Numbers.{is_draw_of, is_drop_of, draws_of, drops_of, Numbering, one_if_host, hosts_at, NumberLife, NumberLives}

-- a prefix of joined lists ends in the first of them, or in the second
pub split : {A : Type 0} (xs ys before after : List A) → xs ++ ys ≡ before ++ after → ((rest : List A) × (xs ≡ before ++ rest)) ⊎ ((more : List A) × (before ≡ xs ++ more) × (ys ≡ more ++ after))
split [] ys before after e = inr (before, refl, e)
split (x ∷ xs) ys [] after e = inl (x ∷ xs, refl)
split {A} (x ∷ xs) ys (b ∷ before) after e =
    go (split xs ys before after tail)
  where
    head : x ≡ b
    head = cc

    tail : xs ++ ys ≡ before ++ after
    tail = cc

    go : ((rest : List A) × (xs ≡ before ++ rest)) ⊎ ((more : List A) × (before ≡ xs ++ more) × (ys ≡ more ++ after)) → ((rest : List A) × (x ∷ xs ≡ (b ∷ before) ++ rest)) ⊎ ((more : List A) × (b ∷ before ≡ (x ∷ xs) ++ more) × (ys ≡ more ++ after))
    go (inl (rest, f)) = inl (rest, ap (λ (l : List A). x ∷ l) f ∙ ap (λ (y : A). y ∷ (before ++ rest)) head)
    go (inr (more, f, g)) = inr (more, ap (λ (y : A). y ∷ before) (sym head) ∙ ap (λ (l : List A). x ∷ l) f, g)

-- counts

pub draws-append : (n : ℕ) (xs ys : List Event) → draws_of n (xs ++ ys) ≡ draws_of n xs + draws_of n ys
draws-append n xs ys = sum_by-append (λ x. cond (is_draw_of n x) 1 0) xs ys

pub drops-append : (n : ℕ) (xs ys : List Event) → drops_of n (xs ++ ys) ≡ drops_of n xs + drops_of n ys
drops-append n xs ys = sum_by-append (λ x. cond (is_drop_of n x) 1 0) xs ys

pub draws-cons : (n : ℕ) (x : Event) (xs : List Event) → draws_of n (x ∷ xs) ≡ cond (is_draw_of n x) 1 0 + draws_of n xs
draws-cons n x xs = sum_by-cons (λ x. cond (is_draw_of n x) 1 0) x xs

pub drops-cons : (n : ℕ) (x : Event) (xs : List Event) → drops_of n (x ∷ xs) ≡ cond (is_drop_of n x) 1 0 + drops_of n xs
drops-cons n x xs = sum_by-cons (λ x. cond (is_drop_of n x) 1 0) x xs

-- a part has no more than the whole
part_drops : (n : ℕ) (events before after : List Event) → events ≡ before ++ after → drops_of n before ≤ drops_of n events
part_drops n events before after e = let same : drops_of n events ≡ drops_of n (before ++ after) = ap (drops_of n) e in omega (arith, same, drops-append n before after)

-- hosts

one_at_most : (object : Plain (List ℕ)) → one_if_host object ≤ 1
one_at_most (Script owner place fields) = omega arith
one_at_most (Array of elements) = omega arith
one_at_most (Host kind state) = omega arith

pub hosts_few : (n : ℕ) (a : Numbering) → hosts_at n a ≤ 1
hosts_few n a = go (object_at n a.objects)
  where
    go : (o : Option (Plain (List ℕ))) → option_map_or one_if_host o 0 ≤ 1
    go None = omega arith
    go (Some object) = one_at_most object

-- a host object has a number that was given
pub hosts_given : (n : ℕ) (a : Numbering) → AreNumbered a.last a.objects → 0 < hosts_at n a → n ≤ a.last
hosts_given n a numbered = go (object_at n a.objects) refl
  where
    go : (o : Option (Plain (List ℕ))) → object_at n a.objects ≡ o → 0 < option_map_or one_if_host o 0 → n ≤ a.last
    go None e less = absurd (omega arith)
    go (Some object) e less = (numbered.given n (subst (λ (o : Option (Plain (List ℕ))). IsSome o) (sym e) refl)).1

-- lives

-- A life is decided by its counts, where no more is dropped than was there.
pub life_of : (n : ℕ) (a b : Numbering) (events : List Event) → draws_of n events ≤ 1 → (0 < draws_of n events → (a.last < n) × (n ≤ b.last)) → drops_of n events ≤ hosts_at n a → hosts_at n b + drops_of n events ≡ hosts_at n a + draws_of n events → NumberLife n a events b
life_of n a b events drawn anew dropped balance = record {
  drawn_once = drawn;
  drawn_anew = anew;
  dropped_once = omega (arith, dropped, hosts_few n a);
  dropped_after = λ before after e. omega (arith, part_drops n events before after e, dropped);
  balance = balance;
}

-- nothing of the number happens
pub same_life : (n : ℕ) (a b : Numbering) (events : List Event) → draws_of n events ≡ 0 → drops_of n events ≡ 0 → hosts_at n b ≡ hosts_at n a → NumberLife n a events b
same_life n a b events drawn dropped same = life_of n a b events (omega (arith, drawn)) (λ less. absurd (omega (arith, drawn, less))) (omega (arith, dropped)) (omega (arith, drawn, dropped, same))

module _ (n : ℕ) {a b c : Numbering} {xs ys : List Event} (numbered : AreNumbered a.last a.objects) (rises : a.last ≤ b.last) (more : b.last ≤ c.last) (one : NumberLife n a xs b) (two : NumberLife n b ys c) where
  once : (i j : ℕ) → draws_of n xs ≡ i → draws_of n ys ≡ j → i + j ≤ 1
  once zero j e f = omega (arith, two.drawn_once, f)
  once (suc i) zero e f = omega (arith, one.drawn_once, e)
  once (suc i) (suc j) e f =
      let early : n ≤ b.last = (one.drawn_anew (omega (arith, e))).1 in
      let late : b.last < n = (two.drawn_anew (omega (arith, f))).0 in
      absurd (omega arith)

  anew : (i j : ℕ) → draws_of n xs ≡ i → draws_of n ys ≡ j → 0 < i + j → (a.last < n) × (n ≤ c.last)
  anew zero j e f less =
      let late : b.last < n = (two.drawn_anew (omega (arith, less, f))).0 in
      let last : n ≤ c.last = (two.drawn_anew (omega (arith, less, f))).1 in
      (omega arith, last)
  anew (suc i) j e f less =
      let first : a.last < n = (one.drawn_anew (omega (arith, e))).0 in
      let early : n ≤ b.last = (one.drawn_anew (omega (arith, e))).1 in
      (first, omega arith)

  balanced : hosts_at n c + drops_of n (xs ++ ys) ≡ hosts_at n a + draws_of n (xs ++ ys)
  balanced = omega (arith, draws-append n xs ys, drops-append n xs ys, one.balance, two.balance)

  drawn_once : draws_of n (xs ++ ys) ≤ 1
  drawn_once = omega (arith, draws-append n xs ys, once (draws_of n xs) (draws_of n ys) refl refl)

  drawn_anew : 0 < draws_of n (xs ++ ys) → (a.last < n) × (n ≤ c.last)
  drawn_anew less = anew (draws_of n xs) (draws_of n ys) refl refl (omega (arith, less, draws-append n xs ys))

  dropped_once : (h : ℕ) → hosts_at n a ≡ h → drops_of n (xs ++ ys) ≤ 1
  dropped_once zero e = omega (arith, e, balanced, drawn_once)
  dropped_once (suc h) e = none (draws_of n (xs ++ ys)) refl
    where
      none : (i : ℕ) → draws_of n (xs ++ ys) ≡ i → drops_of n (xs ++ ys) ≤ 1
      none zero f = omega (arith, f, balanced, hosts_few n a)
      none (suc i) f =
          let given : n ≤ a.last = hosts_given n a numbered (omega (arith, e)) in
          let late : a.last < n = (drawn_anew (omega (arith, f))).0 in
          absurd (omega arith)

  dropped_after : (before after : List Event) → xs ++ ys ≡ before ++ after → drops_of n before ≤ hosts_at n a + draws_of n before
  dropped_after before after e = go (split xs ys before after e)
    where
      go : ((rest : List Event) × (xs ≡ before ++ rest)) ⊎ ((later : List Event) × (before ≡ xs ++ later) × (ys ≡ later ++ after)) → drops_of n before ≤ hosts_at n a + draws_of n before
      go (inl (rest, f)) = one.dropped_after before rest f
      go (inr (later, f, g)) =
          let drops : drops_of n before ≡ drops_of n (xs ++ later) = ap (drops_of n) f in
          let draws : draws_of n before ≡ draws_of n (xs ++ later) = ap (draws_of n) f in
          omega (arith, drops, draws, drops-append n xs later, draws-append n xs later, one.balance, two.dropped_after later after g)

  joined_life : NumberLife n a (xs ++ ys) c
  joined_life = record {
    drawn_once = drawn_once;
    drawn_anew = drawn_anew;
    dropped_once = dropped_once (hosts_at n a) refl;
    dropped_after = dropped_after;
    balance = balanced;
  }

pub joined_lives : {a b c : Numbering} {xs ys : List Event} → AreNumbered a.last a.objects → NumberLives a xs b → NumberLives b ys c → NumberLives a (xs ++ ys) c
joined_lives {a} {b} {c} numbered one two = record {
  numbered = two.numbered;
  rises = omega (arith, one.rises, two.rises);
  lives = λ n. joined_life n numbered one.rises two.rises (one.lives n) (two.lives n);
}

-- the same numbers, and nothing happens
pub same_lives : (a b : Numbering) (events : List Event) → AreNumbered b.last b.objects → a.last ≤ b.last → ((n : ℕ) → draws_of n events ≡ 0) → ((n : ℕ) → drops_of n events ≡ 0) → ((n : ℕ) → hosts_at n b ≡ hosts_at n a) → NumberLives a events b
same_lives a b events numbered rises drawn dropped same = record {
  numbered = numbered;
  rises = rises;
  lives = λ n. same_life n a b events (drawn n) (dropped n) (same n);
}
