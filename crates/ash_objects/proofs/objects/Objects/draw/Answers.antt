use Rattle.std.proofs.Common.{refl, arith, sym, ◌∙◌}
use Rattle.ash_objects.proofs.objects.Objects.draw.Goals as goal

pub returns-in_default-clause-pool : goal.returns-in_default-clause-pool
returns-in_default-clause-pool g c = (
  λ _. (
    λ full. absurd (omega (arith, c.in_ok-number.ensures.room, full)),
    λ spent. let no = c.in_ok-number.ensures.spent.1 (λ full. absurd (omega (arith, c.in_ok-number.ensures.room, full)), spent) in absurd (cc),
    sym c.place_of.ensures.place ∙ c.in_default.is,
  ),
  λ _. refl,
)
