use Rattle.std.proofs.Common.{ℕ, Option, ap, ◌∙◌, unwrap_or}
use Rattle.ash_states.proofs.Placed.{index_is}
use Rattle.ash_states.proofs.parts.index_of.Goals as goal

pub returns : goal.returns
returns c = record {
  value = c.unwrap_or.ensures ∙ ap (λ (o : Option ℕ). unwrap_or o 0) c.place_of.ensures.value
      ∙ index_is c.args.modules.now c.args.name.now;
}
