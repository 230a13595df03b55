use Rattle.std.proofs.Common.{refl, arith, Some}
use Rattle.ash_slots.specs.Store.{change_at}
use Rattle.ash_slots.specs.SlotCounting.{decremented}
use Rattle.ash_objects.proofs.Counts.{view_less}
use Rattle.ash_objects.proofs.Views.{in_view, holds_view, table_less}
use Rattle.ash_objects.proofs.Fields.{handle_face}
use Rattle.ash_objects.proofs.Listed.{listed_faces}
use Rattle.ash_objects.proofs.objects.Objects.unhold_at.Goals as goal

pub decrement_count-requires : goal.decrement_count-requires
decrement_count-requires g c = record {
  counted = let at = rw (← c.self.view_is) at c.requires.held.1 in
      let some = rw (← c.self.view_is) at c.requires.held.2 in
      let more = holds_view c.requires.held.0 c.self.inside.store.objects some in
      (c.requires.held.0, in_view c.requires.held.0 c.args.slot c.self.inside.store.objects at, omega (arith, more));
}

pub invariant_of-self : goal.invariant_of-self
invariant_of-self g c =
    let at = rw (← c.self.view_is) at c.requires.held.1 in
    let some = rw (← c.self.view_is) at c.requires.held.2 in
    let l = c.self.inside.store.objects in
    let n = c.requires.held.0 in
    rw (c.decrement_count.ensures.counted n (in_view n c.args.slot l at)) (record {
      table = table_less l _ _ c.self.invariant.table n (holds_view n l some);
      listed =
          listed_faces (change_at n decremented l) l _
          (λ m. handle_face decremented (λ p. refl) (Some n) m l) c.self.invariant.listed;
    })

pub returns : goal.returns
returns g c = record {
  unheld = λ number is.
      let at = rw (← c.self.view_is) at is in
      rw (← c.self.view_is, c.decrement_count.ensures.counted number (in_view number c.args.slot c.self.inside.store.objects at), view_less number c.self.inside.store.objects c.self.invariant.table.in_order c.self.invariant.table.counted) refl;
}
