use Rattle.std.proofs.Common.{sym, ap, ◌∙◌, Option}
use Rattle.std.specs.Option.{option_map, option_copied}
use Rattle.ash_slots.specs.Store.{SlotEntry}
use Rattle.ash_slots.proofs.Steps.{is_in_from, none_from}
use Rattle.ash_objects.proofs.Views.{body_view, body_item}
use Rattle.ash_objects.proofs.objects.Objects.body.Goals as goal

pub item-requires : goal.item-requires
item-requires g c = record { occupied = (c.args.number, is_in_from c.args.number c.in_ok-slot.slot c.self.inside.store.objects (sym c.slot.ensures.slot ∙ c.in_ok-slot.was)) }

pub returns : goal.returns
returns g c = record {
  body = let l = c.self.inside.store.objects in
      let here = is_in_from c.args.number c.in_ok-slot.slot l (sym c.slot.ensures.slot ∙ c.in_ok-slot.was) in
      rw (← c.self.view_is) (sym (body_view c.args.number l ∙ body_item c.args.number l c.item.result.now (c.item.ensures.value c.args.number here)));
}

pub returns-in_err-slot : goal.returns-in_err-slot
returns-in_err-slot g c = record {
  body = let l = c.self.inside.store.objects in
      let none = none_from c.args.number l (sym c.slot.ensures.slot ∙ c.in_err-slot.was) in
      rw (← c.self.view_is) (ap option_copied c.from_residual.ensures ∙ sym (body_view c.args.number l ∙ ap (λ (v : Option (SlotEntry _)). option_map (λ object. (object.item).body) v) none));
}
