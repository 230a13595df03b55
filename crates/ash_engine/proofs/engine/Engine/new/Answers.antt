use Rattle.std.proofs.Common.{Some, ap}
use Rattle.ash_registry.specs.RegistryViews.{registered}
use Rattle.ash_engine.specs.LiveStates.{EngineState, LiveState}
use Rattle.ash_engine.proofs.engine.Engine.new.Goals as goal

pub returns-clause-begun : goal.returns-clause-begun
returns-clause-begun g c =
    let B = g.row.B.Denot in
    ap (λ (live : LiveState B). let e : EngineState B = record { registered = registered c.args.registry; live = Some live } in e)
    (c.first_live-live.ensures.begun c.args.services.items c.in_ok-taken.ensures.taken)
