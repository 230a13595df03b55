use Rattle.std.proofs.Common.{ap, ◌∙◌}
use Rattle.ash_objects.specs.Table.{slot_of, with_object, unheld}
use Rattle.ash_bench.proofs.Tables.{some_hold, held_slot, in_slot_lives, undone}
use Rattle.ash_bench.proofs.objects.hold_each.Goals as goal

pub hold_at-requires : goal.hold_at-requires
hold_at-requires c = record { may_be_held = rw c.loop-slot.invariant.same (c.requires.may_be_held c.loop-slot.slot-index 0 c.loop-slot-test.true) }

pub unhold_at-requires : goal.unhold_at-requires
unhold_at-requires c = record {
  within =
      let old = c.loop-slot.objects in
      let here = c.requires.may_be_held c.loop-slot.slot-index 0 c.loop-slot-test.true in
      let slot_is = ap (slot_of here.0) c.loop-slot.invariant.same ∙ here.1 in
      let now = c.hold_at.ensures.effect here.0 slot_is in
      (here.0, ap (slot_of here.0) now ∙ held_slot here.0 old ∙ slot_is, rw now (some_hold here.0 old (in_slot_lives here.0 _ old slot_is)));
}

pub loop-slot-preserved : goal.loop-slot-preserved
loop-slot-preserved c =
    let old = c.loop-slot.objects in
    let here = c.requires.may_be_held c.loop-slot.slot-index 0 c.loop-slot-test.true in
    let slot_is = ap (slot_of here.0) c.loop-slot.invariant.same ∙ here.1 in
    let held_is = c.hold_at.ensures.effect here.0 slot_is in
    let now = c.unhold_at.ensures.effect here.0 (ap (slot_of here.0) held_is ∙ held_slot here.0 old ∙ slot_is) in
    record { same = now ∙ ap (with_object here.0 unheld) held_is ∙ undone here.0 old ∙ c.loop-slot.invariant.same }
