use Rattle.std.proofs.Common.{◌≡◌, refl, arith, ap, ◌∙◌, ◌<◌, ◌+◌, length, true}
use Rattle.ash_host.specs.Objects.{with_at}
use Rattle.ash_slots.specs.Bodies.{words_of}
use Rattle.ash_slots.specs.Store.{SlotEntry}
use Rattle.ash_objects.specs.Counting.{living_in, refer_all}
use Rattle.ash_objects.specs.Making.{new_object}
use Rattle.ash_objects.proofs.Referring.{all_alive_view, all_face}
use Rattle.ash_objects.proofs.Newcomers.{length-living, made_is, view_new, table_new, absent, slot_new, words_new, alive_new, fits_new}
use Rattle.ash_objects.proofs.Listed.{listed_covers, listed_new, listed_faces}
use Rattle.ash_objects.proofs.objects.Objects.make.Goals as goal

pub refer_words-requires : goal.refer_words-requires
refer_words-requires g c = record {
  within =
      let l = c.self.inside.store.objects in
      let t = c.self.invariant.table in
      let n = c.args.next in
      let p : SlotEntry _ = record { slot = c.in-Ok.slot; waiting = true; item = record { count = 0; touched = true; body = c.args.body } } in
      let number : n ≡ c.self.inside.last + 1 = rw (← c.self.view_is) at c.requires.next in
      let later : c.self.inside.last < n = omega (arith, number) in
      let none = absent l c.self.inside.last n t.given later in
      let alive = all_alive_view (words_of c.args.body) l (rw (← c.self.view_is) at c.requires.alive) in
      let short = c.requires.short in
      rw c.in-Ok.ensures.objects (
        n,
        slot_new n p l t.in_order t.counted none alive refl,
        rw (words_new n p l t.in_order t.counted none alive refl) (alive_new n p l t.in_order t.counted none alive refl),
        λ other. fits_new n p l t.in_order t.counted none alive refl other short,
      );
}

pub invariant_of-self-2 : goal.invariant_of-self-2
invariant_of-self-2 g c =
    let l = c.self.inside.store.objects in
    let t = c.self.invariant.table in
    let n = c.args.next in
    let p : SlotEntry _ = record { slot = c.in-Ok.slot; waiting = true; item = record { count = 0; touched = true; body = c.args.body } } in
    let number : n ≡ c.self.inside.last + 1 = rw (← c.self.view_is) at c.requires.next in
    let later : c.self.inside.last < n = omega (arith, number) in
    let none = absent l c.self.inside.last n t.given later in
    let alive = all_alive_view (words_of c.args.body) l (rw (← c.self.view_is) at c.requires.alive) in
    let short = c.requires.short in
    let room = rw (← c.self.view_is) at c.requires.room in
    let few : length l < 4096 = omega (arith, room, length-living l l) in
    let here = slot_new n p l t.in_order t.counted none alive refl in
    let referred = rw c.in-Ok.ensures.objects at (c.refer_words.ensures.effect n) in
    let first = listed_covers l _ _ c.mark.ensures.covers (listed_covers l _ _ c.reserve.ensures.covers c.self.invariant.listed) in
    let put = listed_new n p l _ (omega (arith, c.in_ok-reserve.ensures.room, c.vacant.ensures.slot, c.in-Ok.ensures.slot, c.mark.ensures.covers.room)) (λ yes. c.mark.ensures.listed) first in
    rw (referred here, words_new n p l t.in_order t.counted none alive refl) (record {
      table =
          table_new n p l t.in_order t.counted none alive refl c.self.inside.last c.self.inside.settled t.given
          t.cleared refl short few later;
      listed =
          listed_faces (refer_all (words_of c.args.body) (with_at n p l)) (with_at n p l) _
          (λ m. all_face (words_of c.args.body) m (with_at n p l)) put;
    })

pub returns-clause-made : goal.returns-clause-made
returns-clause-made g c =
    let l = c.self.inside.store.objects in
    let t = c.self.invariant.table in
    let n = c.args.next in
    let p : SlotEntry _ = record { slot = c.in-Ok.slot; waiting = true; item = record { count = 0; touched = true; body = c.args.body } } in
    let number : n ≡ c.self.inside.last + 1 = rw (← c.self.view_is) at c.requires.next in
    let later : c.self.inside.last < n = omega (arith, number) in
    let none = absent l c.self.inside.last n t.given later in
    let alive = all_alive_view (words_of c.args.body) l (rw (← c.self.view_is) at c.requires.alive) in
    let here = slot_new n p l t.in_order t.counted none alive refl in
    let referred = rw c.in-Ok.ensures.objects at (c.refer_words.ensures.effect n) in
    let put : living_in c.refer_words.new.store.objects ≡ with_at n (new_object c.in-Ok.slot c.args.body) (living_in l) =
    ap living_in (referred here ∙ ap (λ ws. refer_all ws (with_at n p l)) (words_new n p l t.in_order t.counted none alive refl))
    ∙ view_new n p l t.in_order t.counted none alive refl refl in
    rw (← c.self.view_is) (made_is _ n c.in-Ok.slot c.args.body (living_in c.refer_words.new.store.objects) number put)
