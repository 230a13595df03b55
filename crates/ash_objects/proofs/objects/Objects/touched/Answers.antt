use Rattle.std.proofs.Common.{sym, ◌∙◌, refl}
use Rattle.ash_objects.specs.Marking.{marked_in}
use Rattle.ash_objects.proofs.Touching.{marked_is, marked_rise, cleared_table, cleared_view}
use Rattle.ash_objects.proofs.objects.Objects.touched.Goals as goal

pub invariant_of-self : goal.invariant_of-self
invariant_of-self g c =
    let l = c.self.inside.store.objects in
    record {
      table =
          rw c.unmark_listed.ensures.unmarked
          (cleared_table (marked_in l) l c.self.inside.last c.self.inside.settled c.self.invariant.table);
      listed = c.unmark_listed.ensures.listed;
    }

pub returns-clause-living : goal.returns-clause-living
returns-clause-living g c =
    let l = c.self.inside.store.objects in
    let sorted = c.sort_numbers.ensures.effect (marked_in l) (marked_rise l c.self.invariant.table.in_order) c.unmark_listed.ensures.numbers in
    rw (← c.self.view_is) (sorted ∙ sym (marked_is l l))

pub returns-clause-cleared : goal.returns-clause-cleared
returns-clause-cleared g c =
    let l = c.self.inside.store.objects in
    rw (← c.self.view_is, c.unmark_listed.ensures.unmarked, cleared_view l c.self.invariant.table.in_order, c.replace-gone.ensures.after, c.new.ensures.items) refl
