-- Worlds in which an object is changed.
use Rattle.std.proofs.Common.{◌≡◌, ◌≤◌, ◌+◌, ℕ, Bool, true, false, cond, List, [], ◌∷◌, length, refl, sym, ap, ◌∙◌, subst, nat_eq, arith}
use Rattle.std.specs.Prelude.{Option, Some, None, option_map, unwrap_or, sum_by}
use Rattle.std.specs.Option.{option_map_or}
use Rattle.std.specs.Ordering.{nat_cmp}
use Rattle.std.specs.BTreeMap.{is_at}
use Rattle.std.specs.Map.{lookup, values_of}
use Rattle.std.proofs.lemmas.Bool.{eqb-true}
use Rattle.std.proofs.lemmas.Bool.Decides.{nat_tests}
use Rattle.std.proofs.lemmas.Cmp.{nat_cmp_total}
use Rattle.std.proofs.lemmas.Option.{same_Some}
use Rattle.std.proofs.lemmas.Map.Entries.{sum_by-insert_entry, length-values_of}
use Rattle.std.proofs.lemmas.Map.Keys.{sorted_from_strictly_increasing}
use Rattle.std.proofs.lemmas.List.Sums.{sum_by-cons}
use Rattle.ash_host.specs.Objects.{Plain, LiveObjects, object_at, numbers, with_at, IsInOrder, Lives}
use Rattle.ash_host.proofs.Order.{object_at-with_at, in_order-with_at}
use Rattle.ash_host.specs.Limits.{max_objects}
use Rattle.ash_meaning.specs.Activity.{World}
use Rattle.ash_meaning.specs.ObjectSteps.{change_at, with_object}
use Rattle.ash_soundness.specs.WellFormed.{Context, shape_of, shape_at, IsObject, Follows, IsWorld}
use Rattle.ash_soundness.proofs.Values.{shape_lives, lives_shape, Stays, object_stays, values_stay, live_on}

-- how many entries there are after a value was put at a number

ones : {A : Type 0} (xs : List A) → sum_by (λ (x : A). 1) xs ≡ length xs
ones [] = refl
ones {A} (x ∷ xs) = omega (arith, sum_by-cons (λ (y : A). 1) x xs, ones xs)

is_at_eq : (x y : ℕ) → is_at (nat_cmp x) y ≡ nat_eq x y
is_at_eq x y = grind (arith, nat_tests)

lookup_same : {A : Type 0} (p q : ℕ → Bool) → ((k : ℕ) → p k ≡ q k) → (l : List (ℕ × A)) → lookup p l ≡ lookup q l
lookup_same p q same [] = refl
lookup_same p q same (e ∷ l) = ap (λ (b : Bool). cond b (Some e.1) (lookup p l)) (same e.0) ∙ ap (λ (o : Option _). cond (q e.0) (Some e.1) o) (lookup_same p q same l)

-- 1 where something is there
abbrev one_if : {A : Type 0} → Option A → ℕ
one_if {A} o = unwrap_or (option_map (λ (x : A). 1) o) 0

pub length-with_at : {A : Type 0} (k : ℕ) (v : A) (l : List (ℕ × A)) → IsInOrder l → length (with_at k v l) + one_if (object_at k l) ≡ length l + 1
length-with_at {A} k v l o =
    let sums = sum_by-insert_entry (λ (x : A). 1) nat_cmp_total l k v (sorted_from_strictly_increasing (numbers l) o) in
    let there = ap one_if (lookup_same (is_at (nat_cmp k)) (nat_eq k) (is_at_eq k) l) in
    omega (arith, sums, there, ones (values_of l), ones (values_of (with_at k v l)), length-values_of l, length-values_of (with_at k v l))

module _ (number : ℕ) (how : Plain (List ℕ) → Plain (List ℕ)) where
  none_changed : (n : ℕ) (all : LiveObjects (List ℕ)) → object_at number all ≡ None → (b : Bool) → nat_eq n number ≡ b → object_at n all ≡ cond b (option_map how (object_at n all)) (object_at n all)
  none_changed n all none false is = refl
  none_changed n all none true is =
      let same : n ≡ number = eqb-true n number is in
      let gone : object_at n all ≡ None = ap (λ (k : ℕ). object_at k all) same ∙ none in
      gone ∙ sym (ap (option_map how) gone)

  some_changed : (n : ℕ) (all : LiveObjects (List ℕ)) (object : Plain (List ℕ)) → object_at number all ≡ Some object → (b : Bool) → nat_eq n number ≡ b → cond b (Some (how object)) (object_at n all) ≡ cond b (option_map how (object_at n all)) (object_at n all)
  some_changed n all object some false is = refl
  some_changed n all object some true is =
      let same : n ≡ number = eqb-true n number is in
      let here : object_at n all ≡ Some object = ap (λ (k : ℕ). object_at k all) same ∙ some in
      sym (ap (option_map how) here)

  changed_from : (n : ℕ) (all : LiveObjects (List ℕ)) (o : Option (Plain (List ℕ))) → object_at number all ≡ o → object_at n (option_map_or (λ object. with_at number (how object) all) o all) ≡ cond (nat_eq n number) (option_map how (object_at n all)) (object_at n all)
  changed_from n all None e = none_changed n all e (nat_eq n number) refl
  changed_from n all (Some object) e = object_at-with_at number (how object) n all ∙ some_changed n all object e (nat_eq n number) refl

  -- what lives by each number after the object of one was changed
  pub object_at-changed : (n : ℕ) (all : LiveObjects (List ℕ)) → object_at n (change_at number how all) ≡ cond (nat_eq n number) (option_map how (object_at n all)) (object_at n all)
  object_at-changed n all = changed_from n all (object_at number all) refl

  in_order_from : (all : LiveObjects (List ℕ)) (o : Option (Plain (List ℕ))) → IsInOrder all → IsInOrder (option_map_or (λ object. with_at number (how object) all) o all)
  in_order_from all None h = h
  in_order_from all (Some object) h = in_order-with_at number (how object) all h

  pub in_order-changed : (all : LiveObjects (List ℕ)) → IsInOrder all → IsInOrder (change_at number how all)
  in_order-changed all h = in_order_from all (object_at number all) h

  length_from : (all : LiveObjects (List ℕ)) (o : Option (Plain (List ℕ))) → object_at number all ≡ o → IsInOrder all → length (option_map_or (λ object. with_at number (how object) all) o all) ≡ length all
  length_from all None e h = refl
  length_from all (Some object) e h = omega (arith, length-with_at number (how object) all h, ap one_if e)

  pub length-changed : (all : LiveObjects (List ℕ)) → IsInOrder all → length (change_at number how all) ≡ length all
  length-changed all h = length_from all (object_at number all) refl h

  module _ (keeps : (o : Plain (List ℕ)) → shape_of (how o) ≡ shape_of o) where
    keeps_shape : (b : Bool) (o : Option (Plain (List ℕ))) → option_map shape_of (cond b (option_map how o) o) ≡ option_map shape_of o
    keeps_shape true None = refl
    keeps_shape true (Some o) = ap Some (keeps o)
    keeps_shape false o = refl

    pub shape_at-changed : (n : ℕ) (all : LiveObjects (List ℕ)) → shape_at n (change_at number how all) ≡ shape_at n all
    shape_at-changed n all = ap (option_map shape_of) (object_at-changed n all) ∙ keeps_shape (nat_eq n number) (object_at n all)

    pub changed_stays : (all : LiveObjects (List ℕ)) (n : ℕ) → Stays all (change_at number how all) n
    changed_stays all n = record { stays = λ shape e. shape_at-changed n all ∙ e }

    lives_before : (all : LiveObjects (List ℕ)) (n : ℕ) → Lives (change_at number how all) n → Lives all n
    lives_before all n h =
        let there = lives_shape n (change_at number how all) h in
        shape_lives n all there.0 (sym (shape_at-changed n all) ∙ there.1)

    module _ {c : Context} {w : World} (h : IsWorld c w) where
      pub world_follows : Follows w (with_object number how w)
      world_follows = record {
        last = omega arith;
        shapes = λ n shape le e. sym (shape_at-changed n w.objects) ∙ e;
        outside = refl;
      }

      module _ (fits : (o : Plain (List ℕ)) → object_at number w.objects ≡ Some o → IsObject c.modules w.objects (how o)) where
        stay : {o : Plain (List ℕ)} → IsObject c.modules w.objects o → IsObject c.modules (change_at number how w.objects) o
        stay i = object_stays (λ n _. changed_stays w.objects n) i

        object_from : (n : ℕ) (o : Plain (List ℕ)) (b : Bool) (found : Option (Plain (List ℕ))) → nat_eq n number ≡ b → object_at n w.objects ≡ found → cond b (option_map how found) found ≡ Some o → IsObject c.modules (change_at number how w.objects) o
        object_from n o true None is at e = absurd (cc)
        object_from n o true (Some x) is at e =
            let same : n ≡ number = eqb-true n number is in
            let there : object_at number w.objects ≡ Some x = sym (ap (λ (k : ℕ). object_at k w.objects) same) ∙ at in
            subst (IsObject c.modules (change_at number how w.objects)) (same_Some (how x) o e) (stay (fits x there))
        object_from n o false found is at e = stay ((h.living).each n o (at ∙ e))

        pub world_changed : IsWorld c (with_object number how w)
        world_changed = record {
          numbered = record {
            in_order = in_order-changed w.objects (h.numbered).in_order;
            given = λ n lives. (h.numbered).given n (lives_before w.objects n lives);
          };
          last = h.last;
          few = let same = length-changed w.objects (h.numbered).in_order in let few : length w.objects ≤ max_objects = h.few in omega (arith, same, few);
          living = record { each = λ n o at. object_from n o (nat_eq n number) (object_at n w.objects) refl refl (sym (object_at-changed n w.objects) ∙ at) };
          offered = record { each = λ n kind e. (h.offered).each n kind (sym (shape_at-changed n w.objects) ∙ e) };
          globals = values_stay (λ n _. changed_stays w.objects n) h.globals;
          outside = live_on (λ n _. changed_stays w.objects n) h.outside;
          states = record { services = (h.states).services; pool = (h.states).pool; answers = (h.states).answers };
        }
