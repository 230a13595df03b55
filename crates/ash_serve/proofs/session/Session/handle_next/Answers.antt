use Rattle.std.proofs.Common.{refl}
use Rattle.std.proofs.lemmas.Result.{err_from_is_err_and}
use Rattle.ash_lines.specs.Lines.{LineTooLong}
use Rattle.ash_lines.specs.declared.reply.LineReply.TheVariants as line_replies
use Rattle.ash_serve.specs.Serving.{handling_with, relations}
use Rattle.ash_serve.specs.declared.fault.RunFault.TheVariants as faults
use Rattle.ash_serve.proofs.HandlingLemmas.{command_stopped, line_replied}
use Rattle.ash_serve.proofs.RequestLemmas.{line_fault, line_cut, line_long}
use Rattle.ash_serve.proofs.session.Session.handle_next.Goals as goal

pub returns-in_err-read_line-clause-handled : goal.returns-in_err-read_line-clause-handled
returns-in_err-read_line-clause-handled g c =
    let p = err_from_is_err_and c.from_residual.result c.from_residual.ensures.1 in
    rw p.1 (command_stopped (handling_with g.S.Source.feed (relations g.H.RequestHandler.handles g.H.RequestHandler.handles_batch c.args.self.now.budget)) c.args.input.now c.read_line.new.input c.args.host.now p.0
    (line_fault g.S.Source.feed c.args.input.now c.read_line.new.input c.in_err-read_line.field-0.0 p.0 p.2 c.in_err-read_line.ensures.read))

pub returns-in-Cut-clause-handled : goal.returns-in-Cut-clause-handled
returns-in-Cut-clause-handled g c =
    command_stopped (handling_with g.S.Source.feed (relations g.H.RequestHandler.handles g.H.RequestHandler.handles_batch c.args.self.now.budget)) c.args.input.now c.read_line.new.input c.args.host.now faults.Truncated
    (line_cut g.S.Source.feed c.args.input.now c.read_line.new.input (rw c.in-Cut.is at c.in_ok-read_line.ensures.read))

pub returns-in-TooLong-clause-handled : goal.returns-in-TooLong-clause-handled
returns-in-TooLong-clause-handled g c =
    line_replied (handling_with g.S.Source.feed (relations g.H.RequestHandler.handles g.H.RequestHandler.handles_batch c.args.self.now.budget)) c.args.input.now c.read_line.new.input c.args.host.now c.args.host.now LineTooLong line_replies.LineTooLong
    (line_long g.S.Source.feed c.args.input.now c.read_line.new.input (rw c.in-TooLong.is at c.in_ok-read_line.ensures.read)) refl

pub handle_line-requires-clause-short : goal.handle_line-requires-clause-short
handle_line-requires-clause-short g c = let w = rw c.in-Whole.is at c.in_ok-read_line.ensures.read in w.1

pub returns-in_err-handle_line-in-Whole-clause-handled : goal.returns-in_err-handle_line-in-Whole-clause-handled
returns-in_err-handle_line-in-Whole-clause-handled g c =
    let w = rw c.in-Whole.is at c.in_ok-read_line.ensures.read in
    let p = err_from_is_err_and c.from_residual-in_err-handle_line-in-Whole.result c.from_residual-in_err-handle_line-in-Whole.ensures.1 in
    rw (p.1, p.2) (c.in_err-handle_line-in-Whole.ensures.handled c.args.input.now w.0)

pub returns-in_ok-handle_line-in-Whole-clause-handled : goal.returns-in_ok-handle_line-in-Whole-clause-handled
returns-in_ok-handle_line-in-Whole-clause-handled g c =
    let w = rw c.in-Whole.is at c.in_ok-read_line.ensures.read in c.in_ok-handle_line-in-Whole.ensures.handled c.args.input.now w.0
