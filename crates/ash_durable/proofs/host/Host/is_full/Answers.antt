use Rattle.std.proofs.Common.{subst}
use Rattle.ash_durable.specs.Hosting.{Hosted}
use Rattle.ash_durable.proofs.Requesting.{RunsInIts, runs_seen}
use Rattle.ash_durable.proofs.host.Host.is_full.Goals as goal

pub returns-clause-runs : goal.returns-clause-runs
returns-clause-runs g c =
    subst (λ (host : Hosted g.row.D.Denot g.row.B.Denot). RunsInIts host) c.self.view_is
    (runs_seen c.self.inside.stopped c.self.inside.engine c.self.inside.journal c.facts.ensures.registered)
