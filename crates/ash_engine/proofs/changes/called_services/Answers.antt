use Rattle.std.proofs.Common.{ℕ, List, sym, subst}
use Rattle.std.specs.Prelude.{Contains}
use Rattle.ash_engine.proofs.Called.{calls_are}
use Rattle.ash_engine.proofs.changes.called_services.Goals as goal

pub returns : goal.returns
returns c =
    let events = c.args.events.now in
    record {
      called = λ place.
          let same = c.sort_places.ensures.same place in
          let value = c.in_ok-services.ensures.value in (
            λ h. (calls_are place events).0 (subst (λ (l : List ℕ). Contains l place) value (same.0 h)),
            λ h. same.1 (subst (λ (l : List ℕ). Contains l place) (sym value) ((calls_are place events).1 h)),
          );
      rise = c.sort_places.ensures.rise;
    }
