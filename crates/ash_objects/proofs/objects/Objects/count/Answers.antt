use Rattle.std.proofs.Common.{sym, ap, ◌∙◌, Option}
use Rattle.std.specs.Option.{option_map_or}
use Rattle.ash_slots.specs.Store.{SlotEntry}
use Rattle.ash_objects.proofs.Counts.{count_is}
use Rattle.ash_slots.proofs.Steps.{is_in_from, counted_item, none_from}
use Rattle.ash_objects.proofs.objects.Objects.count.Goals as goal

pub item-requires : goal.item-requires
item-requires g c = record { occupied = (c.args.number, is_in_from c.args.number c.in-Some.slot c.self.inside.store.objects (sym c.slot.ensures.slot ∙ c.in-Some.is)) }

pub returns-in-Some : goal.returns-in-Some
returns-in-Some g c = record {
  count = let here = is_in_from c.args.number c.in-Some.slot c.self.inside.store.objects (sym c.slot.ensures.slot ∙ c.in-Some.is) in
      rw (← c.self.view_is) (sym (count_is c.args.number c.self.inside.store.objects c.self.invariant.table.counted ∙ counted_item c.args.number c.self.inside.store.objects c.item.result.now (c.item.ensures.value c.args.number here)));
}

pub returns-in-None : goal.returns-in-None
returns-in-None g c = record {
  count = let none = none_from c.args.number c.self.inside.store.objects (sym c.slot.ensures.slot ∙ c.in-None.is) in
      rw (← c.self.view_is) (sym (count_is c.args.number c.self.inside.store.objects c.self.invariant.table.counted ∙ ap (λ (v : Option (SlotEntry _)). option_map_or (λ object. (object.item).count) v 0) none));
}
