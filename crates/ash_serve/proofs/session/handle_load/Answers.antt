use Rattle.std.proofs.Common.{◌∙◌, List, ℕ, refl, subst}
use Rattle.std.proofs.lemmas.Result.{err_from_is_err_and}
use Rattle.ash_requests.specs.RequestViews.{reply_seen}
use Rattle.ash_requests.specs.Requests.{Load}
use Rattle.ash_sources.specs.SourceFaults.{fault_of}
use Rattle.ash_lines.specs.Lines.{HostRequest, BadRequest}
use Rattle.ash_lines.specs.declared.reply.LineReply.TheVariants as line_replies
use Rattle.ash_serve.specs.Serving.{handling_with, relations}
use Rattle.ash_serve.proofs.HandlingLemmas.{command_stopped, line_replied}
use Rattle.ash_serve.proofs.session.handle_load.Goals as goal

pub returns-in_err-read_source-clause-handled : goal.returns-in_err-read_source-clause-handled
returns-in_err-read_source-clause-handled g c start line w l e =
    let p = err_from_is_err_and c.from_residual.result c.from_residual.ensures.1 in
    rw (p.1, p.2) (command_stopped (handling_with g.S.Source.feed (relations g.H.RequestHandler.handles g.H.RequestHandler.handles_batch c.args.budget)) start c.read_source.new.input c.args.host.now _ (c.in_err-read_source.ensures.read start line c.args.header.name.now w l e))

pub returns-in-Unended-clause-handled : goal.returns-in-Unended-clause-handled
returns-in-Unended-clause-handled g c start line w l e =
    line_replied (handling_with g.S.Source.feed (relations g.H.RequestHandler.handles g.H.RequestHandler.handles_batch c.args.budget)) start c.read_source.new.input c.args.host.now c.args.host.now BadRequest line_replies.BadRequest
    (rw c.in-Unended.is at (c.in_ok-read_source.ensures.read start line c.args.header.name.now w l e)) refl

pub returns-in-Whole-clause-handled : goal.returns-in-Whole-clause-handled
returns-in-Whole-clause-handled g c start line w l e =
    let name = c.args.header.name.now in
    let s = rw c.in-Whole.is at (c.in_ok-read_source.ensures.read start line name w l e) in
    line_replied (handling_with g.S.Source.feed (relations g.H.RequestHandler.handles g.H.RequestHandler.handles_batch c.args.budget)) start c.read_source.new.input c.args.host.now c.handle-reply.new.self (HostRequest (Load name s.0)) (line_replies.Host c.handle-reply.result) s.1
    (g.met.H.RequestHandler.depends_on_prefix c.args.budget name s.0 c.args.host.now c.handle-reply.new.self (reply_seen fault_of c.handle-reply.result)
    (subst (λ (x : List ℕ). g.H.RequestHandler.handles c.args.budget (Load name x) c.args.host.now (reply_seen fault_of c.handle-reply.result) c.handle-reply.new.self) (c.as_slice.ensures.value ∙ s.2) c.handle-reply.ensures.handled))
