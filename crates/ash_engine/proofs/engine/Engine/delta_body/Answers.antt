use Rattle.std.proofs.Common.{◌≡◌, sym, ap, ◌∙◌}
use Rattle.std.specs.Prelude.{Some}
use Rattle.ash_registry.specs.RegistryViews.{registered}
use Rattle.ash_engine.specs.LiveStates.{LiveState, EngineState}
use Rattle.ash_engine.proofs.LiveFacts.{recorded_in}
use Rattle.ash_engine.proofs.engine.Engine.delta_body.Goals as goal

pub returns-clause-delta : goal.returns-clause-delta
returns-clause-delta g c live is =
    let here = registered c.self.inside.registry in
    recorded_in g.B.HostObject here c.self.inside.live c.in-Some.live c.in-Some.is live
    (ap (λ (e : EngineState _). e.live) c.self.view_is ∙ is) c.delta_body.result (c.delta_body.ensures.body here)
