use Rattle.ash_image.proofs.ModuleLaws.{names_ascend, numbers_rise}
use Rattle.ash_image.proofs.leading.keep_order.Goals as goal

pub returns : goal.returns
returns c =
    let state = c.args.state.now in
    record {
      ordered = record {
        modules = names_ascend state.modules.entries c.len-modules.ensures.ordered;
        objects = numbers_rise state.objects c.len-objects.ensures.ordered;
      };
    }
