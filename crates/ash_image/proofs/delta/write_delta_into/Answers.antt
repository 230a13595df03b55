use Rattle.std.proofs.Common.{◌++◌}
use Rattle.std.proofs.lemmas.Result.{on_ok_weaker}
use Rattle.ash_image.specs.Fields.{number, items}
use Rattle.ash_image.specs.Image.{service, object}
use Rattle.ash_image.specs.Delta.{module_change}
use Rattle.ash_image.specs.DeltaViews.{delta_in}
use Rattle.ash_image.proofs.Appended.{appended6}
use Rattle.ash_image.proofs.delta.write_delta_into.Goals as goal

pub returns : goal.returns
returns c = record {
  value =
      let d = delta_in c.args.parts in
      on_ok_weaker c.write_objects.result
      (λ last. appended6 c.args.out.now.items c.write_u64.new.out.items c.write_u64-2.new.out.items
      c.write_states.new.out.items c.write_change.new.out.items c.write_numbers.new.out.items c.write_objects.new.out.items
      (number 8 d.seq) (number 8 d.last) (items 2 service d.services) (module_change d.change)
      (items 4 (number 8) d.gone) (items 4 object d.put)
      c.in_ok-write_u64.ensures.written c.in_ok-write_u64-2.ensures.written c.in_ok-write_states.ensures.value
      c.in_ok-write_change.ensures.written c.in_ok-write_numbers.ensures.value last)
      c.write_objects.ensures.written;
}
