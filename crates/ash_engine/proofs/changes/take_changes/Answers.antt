use Rattle.std.proofs.Common.{ℕ, List, refl, sym, subst}
use Rattle.std.specs.Prelude.{Contains}
use Rattle.ash_engine.proofs.changes.take_changes.Goals as goal

pub returns-clause-taken : goal.returns-clause-taken
returns-clause-taken g c = record {
  called = c.in_ok-services.ensures.called;
  same_modules = refl;
  living = c.in_ok-objects.ensures.living;
  gone =
      λ number.
      let same = c.sort_numbers.ensures.same number in
      let gone = c.in_ok-objects.ensures.gone in (
        λ is. subst (λ (l : List ℕ). Contains l number) gone (same.0 is),
        λ is. same.1 (subst (λ (l : List ℕ). Contains l number) (sym gone) is),
      );
  services_rise = c.in_ok-services.ensures.rise;
  gone_rise = c.sort_numbers.ensures.rise;
}
