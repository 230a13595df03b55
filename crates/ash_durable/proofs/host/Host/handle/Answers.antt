use Rattle.ash_requests.specs.RequestViews.{request_seen, reply_seen}
use Rattle.ash_sources.specs.SourceFaults.{fault_of}
use Rattle.ash_durable.specs.HostReplies.{refused_by}
use Rattle.ash_durable.proofs.HandledRequests.{handles_seen_stopped}
use Rattle.ash_durable.proofs.Refusing.{refuses_first}
use Rattle.ash_durable.proofs.host.Host.handle.Goals as goal

pub returns-in-Some-clause-handled : goal.returns-in-Some-clause-handled
returns-in-Some-clause-handled g c =
    handles_seen_stopped g.D.Disk g.B.HostObject c.args.budget (request_seen c.args.request.now) c.self.inside.stopped
    c.self.inside.engine c.self.inside.journal c.args.self.now c.in-Some.seq
    (reply_seen fault_of c.reply_of_stopped.result)
    c.in-Some.is c.self.view_is c.reply_of_stopped.ensures.value

pub returns-in-Some-clause-refused : goal.returns-in-Some-clause-refused
returns-in-Some-clause-refused g c =
    refuses_first g.D.Disk g.B.HostObject c.args.budget (request_seen c.args.request.now) c.args.self.now
    (reply_seen fault_of c.reply_of_stopped.result) c.args.self.now (returns-in-Some-clause-handled g c)

pub returns-in-Ok-clause-refused : goal.returns-in-Ok-clause-refused
returns-in-Ok-clause-refused g c =
    refuses_first g.D.Disk g.B.HostObject c.args.budget (request_seen c.args.request.now) c.args.self.now
    (reply_seen fault_of c.in-Ok.reply) c.handle_running.new.self c.in-Ok.ensures.handles

pub returns-in-Err-clause-refused : goal.returns-in-Err-clause-refused
returns-in-Err-clause-refused g c =
    refuses_first g.D.Disk g.B.HostObject c.args.budget (request_seen c.args.request.now) c.args.self.now
    (refused_by c.in-Err.refusal) c.handle_running.new.self c.in-Err.ensures.handles
