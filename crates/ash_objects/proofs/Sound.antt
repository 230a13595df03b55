-- What holds of every table, from what the code knows of its own.
use Rattle.std.proofs.Common.{◌≡◌, ℕ, List, refl, sym, subst, ap, arith, Option, Some, None, ◌<◌, ◌≤◌, ◌^◌, length}
use Rattle.std.specs.Prelude.{IsSome, IfSome, IsSomeAnd, Contains}
use Rattle.std.specs.Option.{option_map, option_map_or}
use Rattle.ash_host.specs.Limits.{max_elements}
use Rattle.ash_host.specs.Objects.{object_at, Lives, AreNumbered, handles}
use Rattle.ash_host.proofs.CountLaws.{handles_counted}
use Rattle.ash_host.proofs.Membership.{is_among_yes}
use Rattle.ash_slots.specs.Bodies.{words_of}
use Rattle.ash_slots.specs.SlotCounting.{counted}
use Rattle.ash_slots.specs.Store.{SlotEntry, AreStored}
use Rattle.ash_objects.specs.Counting.{holding, fields_in, living, living_in, IsTable}
use Rattle.ash_objects.specs.Facts.{IsSoundTable}
use Rattle.ash_objects.specs.Sweeping.{RefersTo}
use Rattle.ash_objects.specs.Table.{Living, fields_holding}
use Rattle.ash_objects.proofs.Counts.{object_at-living, numbers-living, fields-living, fields_small}
use Rattle.ash_objects.proofs.Fields.{one-le-sum}
use Rattle.ash_objects.proofs.Newcomers.{length-living}
use Rattle.ash_objects.proofs.Views.{in_view, lives_view, body_view}

module _ {B : Type 0} (l : List (ℕ × SlotEntry B)) (last settled : ℕ) (t : IsTable l last settled) where
  numbered : AreNumbered last (living_in l)
  numbered = record {
    in_order = rw (numbers-living l l) t.in_order;
    given = λ n lives. t.given n (lives_view n l lives);
  }

  short : (n : ℕ)
      → IfSome (option_map (λ object. object.body) (object_at n (living_in l))) (λ body. length (words_of body) ≤ max_elements)
  short n = rw (body_view n l) (go (object_at n l) (t.counted.short n))
    where
      go : (v : Option (SlotEntry B)) → IfSome v (λ object. length (words_of (object.item).body) ≤ 4096)
          → IfSome (option_map (λ object. (object.item).body) v) (λ body. length (words_of body) ≤ max_elements)
      go None h = tt
      go (Some p) h = h

  -- what a field holds is counted, and what is counted lives
  alive : (one other : ℕ) → RefersTo (living_in l) one other → Lives (living_in l) other
  alive one other refers =
      subst (λ (v : Option (Living B)). IsSome v) (sym (object_at-living other l l)) (lives (object_at other l) refl)
    where
      held : (v : Option (SlotEntry B)) → object_at one l ≡ v
          → IsSomeAnd (option_map (living (fields_in one l)) v)
          (λ object. Contains (handles (words_of object.body)) other) → 0 < counted other l
      held None is h = absurd h
      held (Some p) is h =
          let some = handles_counted other (words_of (p.item).body) (is_among_yes other (handles (words_of (p.item).body)) h) in
          let part = one-le-sum (holding other) one l p is in
          omega (arith, some, part, t.counted.covered other)

      lives : (v : Option (SlotEntry B)) → object_at other l ≡ v → IsSome (option_map (living (fields_in other l)) v)
      lives None is =
          let none = ap (λ (u : Option (SlotEntry B)). option_map_or (λ object. (object.item).count) u 0) is in
          let there = subst (λ (v : Option (Living B)). IsSomeAnd v (λ object. Contains (handles (words_of object.body)) other)) (object_at-living one l l) refers in
          let some = held (object_at one l) refl there in
          absurd (omega (arith, none, some))
      lives (Some p) is = refl

  small : (n : ℕ) → fields_holding n (living_in l) ≤ 2 ^ 24
  small n = omega (arith, fields-living n l l, fields_small n l t.in_order t.counted.short, t.counted.few)

  held : (n : ℕ) → option_map_or (λ object. object.holds) (object_at n (living_in l)) 0 ≤ 2 ^ 127
  held n =
      let view = ap (λ (v : Option (Living B)). option_map_or (λ object. object.holds) v 0) (object_at-living n l l) in
      omega (arith, view, go (object_at n l) refl)
    where
      go : (v : Option (SlotEntry B)) → object_at n l ≡ v
          → option_map_or (λ object. object.holds) (option_map (living (fields_in n l)) v) 0 ≤ 2 ^ 127
      go None is = omega arith
      go (Some p) is =
          let mine = ap (λ (u : Option (SlotEntry B)). option_map_or (λ object. (object.item).count) u 0) is in
          omega (arith, mine, t.counted.bounded n)

  pub sound_table : AreStored l → last < 2 ^ 64 → (pool services : List B) (gone : List ℕ) → IsSoundTable (record { objects = living_in l; pool = pool; services = services; last = last; settled = settled; gone = gone })
  sound_table stored given pool services gone = record {
    numbered = numbered;
    cleared = t.cleared;
    given = given;
    few = let same = length-living l l in omega (arith, same, t.counted.few);
    short = short;
    apart = λ slot one other is also. stored.apart slot one other (in_view one slot l is) (in_view other slot l also);
    alive = alive;
    small = small;
    held = held;
  }
