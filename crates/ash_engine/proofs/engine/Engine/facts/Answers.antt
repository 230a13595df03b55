use Rattle.std.proofs.Common.{ap, ◌∙◌}
use Rattle.ash_registry.specs.RegistryViews.{registered}
use Rattle.ash_engine.specs.LiveStates.{EngineState}
use Rattle.ash_engine.proofs.LiveFacts.{boxes_in, reached_in, registered_in}
use Rattle.ash_engine.proofs.engine.Engine.facts.Goals as goal

pub returns : goal.returns
returns g c =
    let G = g.B.HostObject in
    let B = g.row.B.Denot in
    let here = registered c.self.inside.registry in
    let seen = ap (λ (e : EngineState B). e.live) c.self.view_is in
    record {
      boxes = λ live is. boxes_in G here c.self.inside.live c.self.invariant live (seen ∙ is);
      reached = λ live is. reached_in G here c.self.inside.live c.self.invariant live (seen ∙ is);
      registered = λ live is. registered_in G here c.self.inside.live live (seen ∙ is) ∙ ap (λ (e : EngineState B). e.registered) c.self.view_is;
    }
