use Rattle.ash_slots.proofs.Boxes.{box_was, no_script, no_array, boxed_at}
use Rattle.ash_slots.proofs.calling.start_in.Goals as goal

pub unreachable-requires : goal.unreachable-requires
unreachable-requires g c =
    no_script c.requires.host.0 c.args.store.now.objects c.item_mut-item.result.now (c.item_mut-item.ensures.value c.requires.host.0 c.requires.host.1) _ c.in-Script.is c.requires.host.2

pub unreachable-requires-in-Array : goal.unreachable-requires-in-Array
unreachable-requires-in-Array g c =
    no_array c.requires.host.0 c.args.store.now.objects c.item_mut-item.result.now (c.item_mut-item.ensures.value c.requires.host.0 c.requires.host.1) _ c.in-Array.is c.requires.host.2

pub returns : goal.returns
returns g c = record {
  answered = λ number is_in.
      let mine = c.item_mut-item.ensures.value number is_in in
      record {
        before = c.in-Host.object;
        after = c.start.new.self;
        was = box_was number c.args.store.now.objects c.item_mut-item.result.now mine c.in-Host.object c.in-Host.is;
        responds = record {
          allowed = c.start.ensures.allowed;
          same_kind = c.start.ensures.same_kind;
          same_relation = c.start.ensures.same_relation;
          bounded = c.start.ensures.bounded;
        };
        becomes =
            boxed_at number c.args.store.now.objects c.item_mut-item.result.now mine c.args.slot
            c.item_mut-item.ensures.stored is_in c.start.new.self;
      };
}
