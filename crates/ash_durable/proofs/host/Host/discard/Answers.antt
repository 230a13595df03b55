use Rattle.ash_requests.specs.Requests.{Discard}
use Rattle.ash_requests.specs.RequestViews.{reply_seen}
use Rattle.ash_sources.specs.SourceFaults.{fault_of}
use Rattle.ash_durable.proofs.Changing.{handles_at}
use Rattle.ash_durable.proofs.host.Host.discard.Goals as goal

pub returns-clause-handled : goal.returns-clause-handled
returns-clause-handled g c budget =
    handles_at g.D.Disk g.B.HostObject 0 budget (Discard c.args.module.now) c.args.self.now
    (reply_seen fault_of c.handle.result)
    c.handle.new.self tt c.handle.ensures.handled
