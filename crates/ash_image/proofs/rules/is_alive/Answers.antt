use Rattle.std.proofs.Common.{◌∙◌}
use Rattle.ash_image.proofs.OrderLaws.{search_is}
use Rattle.ash_image.proofs.rules.is_alive.Goals as goal

pub returns : goal.returns
returns c = record {
  value =
      c.is_ok.ensures.value ∙ search_is c.args.alive.now c.args.number c.binary_search.result c.binary_search.ensures.position c.requires.rising;
}
