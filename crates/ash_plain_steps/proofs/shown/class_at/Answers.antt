use Rattle.std.proofs.Common.{List, map, ◌∙◌, ap}
use Rattle.std.specs.Prelude.{slice_get}
use Rattle.ash_typed.specs.Modules.{class_of}
use Rattle.ash_plain_steps.proofs.ShownObjects.{got_seen}
use Rattle.ash_plain_steps.proofs.shown.class_at.Goals as goal

pub returns : goal.returns
returns c = record {
  value =
      got_seen class_of c.deref.result.now c.args.class c.get.result c.get.ensures.lookup
      ∙ ap (λ (l : List _). slice_get (map class_of l) c.args.class) c.deref.ensures.value;
}
