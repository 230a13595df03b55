use Rattle.std.proofs.Common.{subst}
use Rattle.ash_durable.specs.Hosting.{Hosted, RunsSound}
use Rattle.ash_durable.proofs.Requesting.{RunsInIts, runs_seen, sound_seen}
use Rattle.ash_durable.proofs.host.Host.facts.Goals as goal

pub returns-clause-sound : goal.returns-clause-sound
returns-clause-sound g c =
    subst (λ (host : Hosted g.row.D.Denot g.row.B.Denot). RunsSound g.B.HostObject host) c.self.view_is
    (sound_seen g.B.HostObject c.self.inside.stopped c.self.inside.engine c.self.inside.journal
    (λ live is. record { boxes = c.facts.ensures.boxes live is; reached = c.facts.ensures.reached live is }))

pub returns-clause-runs : goal.returns-clause-runs
returns-clause-runs g c =
    subst (λ (host : Hosted g.row.D.Denot g.row.B.Denot). RunsInIts host) c.self.view_is
    (runs_seen c.self.inside.stopped c.self.inside.engine c.self.inside.journal c.facts.ensures.registered)
