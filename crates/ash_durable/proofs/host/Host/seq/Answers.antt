use Rattle.std.proofs.Common.{ℕ, sym, subst}
use Rattle.ash_requests.specs.Requests.{Seq, Number}
use Rattle.ash_durable.specs.Hosting.{Handles}
use Rattle.ash_durable.proofs.Handling.{handles_seq}
use Rattle.ash_durable.proofs.Requesting.{seen_some}
use Rattle.ash_durable.proofs.host.Host.seq.Goals as goal

pub returns-in-None-clause-handled : goal.returns-in-None-clause-handled
returns-in-None-clause-handled g c =
    let some = seen_some c.self.inside.stopped c.self.inside.engine c.self.inside.journal c.args.self.now c.in-None.is
    c.self.invariant c.self.view_is in
    λ budget. subst (λ (n : ℕ). Handles g.D.Disk g.B.HostObject budget Seq c.args.self.now (Number n) c.args.self.now)
    (sym (c.seq.ensures.number some.0 some.1))
    (handles_seq g.D.Disk g.B.HostObject budget some.0 c.args.self.now some.2 (c.facts.ensures.runs some.0 some.2))
