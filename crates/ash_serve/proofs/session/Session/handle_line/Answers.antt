use Rattle.std.proofs.Common.{◌∙◌, List, refl, sym, ap}
use Rattle.ash_requests.specs.RequestViews.{request_seen}
use Rattle.ash_requests.specs.Requests.{Call}
use Rattle.ash_requests.specs.declared.argument.Arg.{Arg}
use Rattle.ash_lines.proofs.HeaderLemmas.{batch-at-most}
use Rattle.ash_lines.specs.Lines.{HostRequest, Quit, BadRequest, Complete, parse_line}
use Rattle.ash_lines.specs.declared.reply.LineReply.TheVariants as line_replies
use Rattle.ash_serve.specs.Serving.{handling_with, relations}
use Rattle.ash_serve.proofs.HandlingLemmas.{line_replied}
use Rattle.ash_serve.proofs.RequestLemmas.{line_whole, line_header}
use Rattle.ash_serve.proofs.session.Session.handle_line.Goals as goal

pub returns-in-Request-clause-handled : goal.returns-in-Request-clause-handled
returns-in-Request-clause-handled g c start w =
    line_replied (handling_with g.S.Source.feed (relations g.H.RequestHandler.handles g.H.RequestHandler.handles_batch c.args.self.now.budget)) start c.args.input.now c.args.host.now c.handle.new.self (HostRequest (request_seen c.in-Request.request)) (line_replies.Host c.handle.result)
    (line_whole g.S.Source.feed start c.args.input.now c.args.self.now.buffers.line.items (HostRequest (request_seen c.in-Request.request)) w c.requires.short (c.in-Request.ensures.parsed ∙ ap parse_line c.as_slice-line.ensures.value))
    c.handle.ensures.handled

pub returns-in-Call-clause-handled : goal.returns-in-Call-clause-handled
returns-in-Call-clause-handled g c start w =
    let module_name = c.in-Call.header.module.now in
    let function = c.in-Call.header.function.now in
    line_replied (handling_with g.S.Source.feed (relations g.H.RequestHandler.handles g.H.RequestHandler.handles_batch c.args.self.now.budget)) start c.args.input.now c.args.host.now c.handle-reply.new.self
    (HostRequest (Call module_name function c.as_slice.result.now)) (line_replies.Host c.handle-reply.result)
    (line_whole g.S.Source.feed start c.args.input.now c.args.self.now.buffers.line.items (HostRequest (Call module_name function c.as_slice.result.now)) w c.requires.short
    (ap (λ (arguments : List Arg). Complete (HostRequest (Call module_name function arguments))) c.as_slice.ensures.value
    ∙ c.in-Call.ensures.parsed ∙ ap parse_line c.as_slice-line.ensures.value))
    c.handle-reply.ensures.handled

pub returns-in-Load-clause-handled : goal.returns-in-Load-clause-handled
returns-in-Load-clause-handled g c start w =
    c.handle_load.ensures.handled start c.args.self.now.buffers.line.items w c.requires.short (sym (c.in-Load.ensures.parsed ∙ ap parse_line c.as_slice-line.ensures.value))

pub handle_batch-requires-clause-few : goal.handle_batch-requires-clause-few
handle_batch-requires-clause-few g c =
    batch-at-most c.args.self.now.buffers.line.items c.in-Batch.count (sym (c.in-Batch.ensures.parsed ∙ ap parse_line c.as_slice-line.ensures.value))

pub returns-in-Batch-clause-handled : goal.returns-in-Batch-clause-handled
returns-in-Batch-clause-handled g c start w =
    c.handle_batch.ensures.handled start
    (line_header g.S.Source.feed start c.args.input.now c.args.self.now.buffers.line.items c.in-Batch.count w c.requires.short (c.in-Batch.ensures.parsed ∙ ap parse_line c.as_slice-line.ensures.value))

pub returns-in-Quit-clause-handled : goal.returns-in-Quit-clause-handled
returns-in-Quit-clause-handled g c start w =
    line_replied (handling_with g.S.Source.feed (relations g.H.RequestHandler.handles g.H.RequestHandler.handles_batch c.args.self.now.budget)) start c.args.input.now c.args.host.now c.args.host.now Quit line_replies.Quit
    (line_whole g.S.Source.feed start c.args.input.now c.args.self.now.buffers.line.items Quit w c.requires.short (c.in-Quit.ensures.parsed ∙ ap parse_line c.as_slice-line.ensures.value)) refl

pub returns-in-BadRequest-clause-handled : goal.returns-in-BadRequest-clause-handled
returns-in-BadRequest-clause-handled g c start w =
    line_replied (handling_with g.S.Source.feed (relations g.H.RequestHandler.handles g.H.RequestHandler.handles_batch c.args.self.now.budget)) start c.args.input.now c.args.host.now c.args.host.now BadRequest line_replies.BadRequest
    (line_whole g.S.Source.feed start c.args.input.now c.args.self.now.buffers.line.items BadRequest w c.requires.short (c.in-BadRequest.ensures.parsed ∙ ap parse_line c.as_slice-line.ensures.value)) refl
