use Rattle.std.proofs.Common.{sym, ap, ◌∙◌}
use Rattle.std.specs.Option.{option_map}
use Rattle.ash_host.specs.Objects.{object_at}
use Rattle.ash_slots.specs.Store.{Store}
use Rattle.ash_slots.proofs.Placing.{slots_of, found_by_number}
use Rattle.ash_slots.proofs.store.Store.slot_by_index.Goals as goal

pub returns : goal.returns
returns g c = record {
  slot = c.copied.ensures ∙ c.get.ensures.value ∙ found_by_number c.args.number c.self.inside.index.entries
      ∙ sym (slots_of c.args.number c.self.inside.entries c.self.inside.index.entries c.self.invariant.placed)
      ∙ ap (λ (s : Store _). option_map (λ object. object.slot) (object_at c.args.number s.objects)) c.self.view_is;
}
