use Rattle.std.proofs.Common.{◌≡◌, refl, arith, sym, ap, ◌∙◌, ◌<◌, ◌≤◌, ◌+◌, length, true, subst, ℕ}
use Rattle.std.specs.Prelude.{IfSome}
use Rattle.std.specs.List.{Contains}
use Rattle.ash_slots.specs.Store.{SlotEntry}
use Rattle.std.proofs.lemmas.List.Elements.{All-nil}
use Rattle.ash_host.specs.Objects.{with_at, handle, Lives}
use Rattle.ash_slots.specs.declared.body.Body.TheVariants.{Host}
use Rattle.ash_objects.specs.Counting.{living_in}
use Rattle.ash_objects.specs.Making.{new_object}
use Rattle.ash_objects.proofs.Newcomers.{length-living, got, drawn_is, view_new, table_new, absent}
use Rattle.ash_objects.proofs.Faults.{reserved}
use Rattle.ash_objects.proofs.Listed.{listed_covers, listed_new}
use Rattle.ash_objects.proofs.objects.Objects.draw_at.Goals as goal

rises : (last number : ℕ) → number ≡ last + 1 → last < number
rises last number is = omega arith

below : (a b : ℕ) → a + 1 ≤ b → a < b
below a b h = omega arith

-- there is room to list the slot
within_is : (slot vacant room after : ℕ) → vacant < room → slot ≡ vacant → room ≤ after → slot < after
within_is slot vacant room after within same more = omega arith

pub invariant_of-self : goal.invariant_of-self
invariant_of-self g c = record {
  table = c.self.invariant.table;
  listed =
      listed_covers c.self.inside.store.objects _ _ c.reserve-else-is_err.ensures.covers c.self.invariant.listed;
}

pub invariant_of-self-in-Err : goal.invariant_of-self-in-Err
invariant_of-self-in-Err g c =
    rw c.in-Err.ensures.unchanged (record {
      table = c.self.invariant.table;
      listed =
          listed_covers c.self.inside.store.objects _ _ c.reserve-else-is_err.ensures.covers c.self.invariant.listed;
    })

pub insert-requires : goal.insert-requires
insert-requires g c = record {
  unused =
      let number : c.args.number ≡ c.self.inside.last + 1 = rw (← c.self.view_is) at c.requires.next in
      absent c.self.inside.store.objects c.self.inside.last c.args.number c.self.invariant.table.given (rises c.self.inside.last c.args.number number);
}

pub mark-requires : goal.mark-requires
mark-requires g c = record {
  within = reserved c.reserve-else-is_err.result _ c.if-is_err-2.ensures.value c.reserve-else-is_err.ensures.room;
}

pub push_reserved-requires : goal.push_reserved-requires
push_reserved-requires g c =
    below _ _ (reserved c.reserve.result _ c.if-is_err.ensures.value c.reserve.ensures.ok)

pub invariant_of-self-2 : goal.invariant_of-self-2
invariant_of-self-2 g c =
    let l = c.self.inside.store.objects in
    let t = c.self.invariant.table in
    let n = c.args.number in
    let number : n ≡ c.self.inside.last + 1 = rw (← c.self.view_is) at c.requires.next in
    let later : c.self.inside.last < n = rises c.self.inside.last n number in
    let room = rw (← c.self.view_is) at c.requires.room in
    let few : length l < 4096 = omega (arith, room, length-living l l) in
    let p : SlotEntry _ = record { slot = c.in_default.field-0; waiting = true; item = record { count = 0; touched = true; body = Host c.remove.result } } in
    let first = listed_covers l _ _ c.mark.ensures.covers (listed_covers l _ _ c.reserve-else-is_err.ensures.covers c.self.invariant.listed) in
    let within : c.vacant-vacant.result < c.reserve-else-is_err.new.self.room = reserved c.reserve-else-is_err.result _ c.if-is_err-2.ensures.value c.reserve-else-is_err.ensures.room in
    let slot : p.slot ≡ c.vacant-vacant.result = c.in_default.ensures.slot ∙ sym c.vacant-vacant.ensures.slot in
    let put = listed_new n p l _ (within_is p.slot c.vacant-vacant.result c.reserve-else-is_err.new.self.room _ within slot c.mark.ensures.covers.room) (λ yes. subst (λ (k : ℕ). Contains c.mark.new.self.slots k) (sym slot) c.mark.ensures.listed) first in
    rw c.in_default.ensures.objects (record {
      listed = put;
      table = table_new n p l t.in_order t.counted (absent l c.self.inside.last n t.given later) (All-nil (λ word. IfSome (handle word) (Lives l))) refl c.self.inside.last c.self.inside.settled t.given t.cleared refl (omega arith) few later;
    })

pub returns-clause-drawn : goal.returns-clause-drawn
returns-clause-drawn g c =
    let l = c.self.inside.store.objects in
    let t = c.self.invariant.table in
    let n = c.args.number in
    let number : n ≡ c.self.inside.last + 1 = rw (← c.self.view_is) at c.requires.next in
    let later : c.self.inside.last < n = rises c.self.inside.last n number in
    let put : living_in c.insert.new.self.objects ≡ with_at n (new_object c.in_default.field-0 (Host c.remove.result)) (living_in l) =
    ap living_in c.in_default.ensures.objects
    ∙ view_new n (record { slot = c.in_default.field-0; waiting = true; item = record { count = 0; touched = true; body = Host c.remove.result } }) l t.in_order t.counted (absent l c.self.inside.last n t.given later) (All-nil (λ word. IfSome (handle word) (Lives l))) refl refl in
    let within : c.args.place < length c.self.inside.pool.items = rw (← c.self.view_is) at c.requires.within in
    rw (← c.self.view_is)
    (drawn_is _ n c.in_default.field-0 c.args.place c.remove.result _ _ (got c.self.inside.pool.items c.args.place c.remove.result within c.remove.ensures.value) number put c.remove.ensures.items)
