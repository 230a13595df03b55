use Rattle.ash_requests.specs.Requests.{Get}
use Rattle.ash_requests.specs.RequestViews.{reply_seen}
use Rattle.ash_sources.specs.SourceFaults.{fault_of}
use Rattle.ash_durable.proofs.Changing.{handles_at, reads_only}
use Rattle.ash_durable.proofs.host.Host.global.Goals as goal

pub returns-clause-handled : goal.returns-clause-handled
returns-clause-handled g c budget =
    handles_at g.D.Disk g.B.HostObject 0 budget (Get c.args.module.now c.args.name.now) c.args.self.now
    (reply_seen fault_of c.handle.result) c.handle.new.self tt c.handle.ensures.handled

pub returns-clause-unchanged : goal.returns-clause-unchanged
returns-clause-unchanged g c =
    reads_only g.D.Disk g.B.HostObject 0 (Get c.args.module.now c.args.name.now) c.args.self.now
    (reply_seen fault_of c.handle.result) c.handle.new.self (λ no. no) (λ no. no.0) c.handle.ensures.handled
