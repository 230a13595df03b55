use Rattle.std.proofs.Common.{refl, Some}
use Rattle.ash_slots.specs.Store.{change_at}
use Rattle.ash_slots.specs.SlotCounting.{incremented}
use Rattle.ash_objects.proofs.Counts.{view_more}
use Rattle.ash_objects.proofs.Views.{in_view, fits_view, few_view, table_more}
use Rattle.ash_objects.proofs.Fields.{face_more}
use Rattle.ash_objects.proofs.Listed.{listed_faces}
use Rattle.ash_objects.proofs.objects.Objects.hold_at.Goals as goal

pub increment_count-requires-clause-occupied : goal.increment_count-requires-clause-occupied
increment_count-requires-clause-occupied g c =
    let at = rw (← c.self.view_is) at c.requires.few.1 in
    (c.requires.few.0, in_view c.requires.few.0 c.args.slot c.self.inside.store.objects at)

pub increment_count-requires-clause-fits : goal.increment_count-requires-clause-fits
increment_count-requires-clause-fits g c = fits_view c.self.inside.store.objects _ _ c.self.invariant.table

pub invariant_of-self : goal.invariant_of-self
invariant_of-self g c =
    let at = rw (← c.self.view_is) at c.requires.few.1 in
    let few = rw (← c.self.view_is) at c.requires.few.2 in
    let l = c.self.inside.store.objects in
    let n = c.requires.few.0 in
    rw (c.increment_count.ensures.counted n (in_view n c.args.slot l at)) (record {
      table = table_more l _ _ c.self.invariant.table n (few_view l _ _ c.self.invariant.table n few);
      listed = listed_faces (change_at n incremented l) l _ (λ m. face_more (Some n) m l) c.self.invariant.listed;
    })

pub returns : goal.returns
returns g c = record {
  held = λ number is.
      let at = rw (← c.self.view_is) at is in
      rw (← c.self.view_is, c.increment_count.ensures.counted number (in_view number c.args.slot c.self.inside.store.objects at), view_more number c.self.inside.store.objects c.self.invariant.table.in_order c.self.invariant.table.counted) refl;
}
