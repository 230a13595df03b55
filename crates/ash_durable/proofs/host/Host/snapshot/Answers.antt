use Rattle.ash_durable.proofs.Handling.{handles_snapshot, snapshot_installed}
use Rattle.ash_durable.proofs.Requesting.{seen_some}
use Rattle.ash_durable.proofs.host.Host.snapshot.Goals as goal

pub returns-in-None-clause-handled : goal.returns-in-None-clause-handled
returns-in-None-clause-handled g c =
    let some = seen_some c.self.inside.stopped c.self.inside.engine c.self.inside.journal c.args.self.now c.in-None.is
    c.self.invariant c.self.view_is in
    λ budget. handles_snapshot g.D.Disk g.B.HostObject budget some.0 c.args.self.now c.install.result
    c.install.new.self some.2 (c.facts.ensures.runs some.0 some.2) c.install.ensures.tries_install

pub returns-in-None-clause-installed : goal.returns-in-None-clause-installed
returns-in-None-clause-installed g c =
    let some = seen_some c.self.inside.stopped c.self.inside.engine c.self.inside.journal c.args.self.now c.in-None.is
    c.self.invariant c.self.view_is in
    snapshot_installed g.D.Disk some.0 c.args.self.now c.install.result c.install.new.self
    (c.facts.ensures.runs some.0 some.2) c.install.ensures.tries_install
