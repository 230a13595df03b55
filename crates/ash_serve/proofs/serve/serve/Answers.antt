use Rattle.std.proofs.Common.{◌∙◌, sym, refl, inl, Ok, Err}
use Rattle.std.proofs.lemmas.Result.{err_from_is_err_and}
use Rattle.ash_serve.specs.CommandReplies.{command_reply_of}
use Rattle.ash_serve.specs.Serving.{handling_with, relations, request_state, run_state, serving_with}
use Rattle.ash_serve.proofs.ServingLemmas.{ongoing-nil, ongoing-more, served-falls, serves_input, serves_input_fault}
use Rattle.ash_serve.proofs.ServingLemmas.{by_budget, serves_reply, serves_quit, goes_on}
use Rattle.ash_serve.proofs.serve.serve.Goals as goal

pub requests-init : goal.requests-init
requests-init g c = record {
  log = ongoing-nil (serving_with g.S.Source.feed g.K.Sink.outlet (relations g.H.RequestHandler.handles g.H.RequestHandler.handles_batch c.args.budget)) g.met.S.Source.is_feed g.met.K.Sink.is_outlet (run_state c.args.input.now c.args.output.now c.args.host.now);
  room = c.in_ok-session.ensures.room;
  budget = c.in_ok-session.ensures.budget;
}

pub returns-in-Ok-None : goal.returns-in-Ok-None
returns-in-Ok-None g c =
    let serving = serving_with g.S.Source.feed g.K.Sink.outlet (relations g.H.RequestHandler.handles g.H.RequestHandler.handles_batch c.args.budget) in
    let before = run_state c.args.input.now c.args.output.now c.args.host.now in
    let last = run_state c.requests.input c.requests.output c.requests.host in
    let after = run_state c.handle_next.new.input c.close.new.output c.handle_next.new.host in
    let w = rw c.in-Ok-None.field-0-is at (by_budget g.S.Source.feed g.H.RequestHandler.handles g.H.RequestHandler.handles_batch c.requests.session.budget c.args.budget
    (request_state c.requests.input c.requests.host) (request_state c.handle_next.new.input c.handle_next.new.host)
    (Ok c.in-Ok-None.field-0) c.requests.invariant.budget c.in-Ok-None.ensures.handled) in
    record { serves = serves_input serving before last after c.close.result c.requests.invariant.log w c.close.ensures.closes }

pub returns-in-Err : goal.returns-in-Err
returns-in-Err g c =
    let serving = serving_with g.S.Source.feed g.K.Sink.outlet (relations g.H.RequestHandler.handles g.H.RequestHandler.handles_batch c.args.budget) in
    let before = run_state c.args.input.now c.args.output.now c.args.host.now in
    let last = run_state c.requests.input c.requests.output c.requests.host in
    let after = run_state c.handle_next.new.input c.close-in-Err.new.output c.handle_next.new.host in
    let w = by_budget g.S.Source.feed g.H.RequestHandler.handles g.H.RequestHandler.handles_batch c.requests.session.budget c.args.budget
    (request_state c.requests.input c.requests.host) (request_state c.handle_next.new.input c.handle_next.new.host)
    (Err c.in-Err.fault) c.requests.invariant.budget c.in-Err.ensures.handled in
    record { serves = serves_input_fault serving before last after c.in-Err.fault c.close-in-Err.result c.requests.invariant.log w c.close-in-Err.ensures.closes }

pub returns-in_err-write_reply : goal.returns-in_err-write_reply
returns-in_err-write_reply g c =
    let serving = serving_with g.S.Source.feed g.K.Sink.outlet (relations g.H.RequestHandler.handles g.H.RequestHandler.handles_batch c.args.budget) in
    let before = run_state c.args.input.now c.args.output.now c.args.host.now in
    let last = run_state c.requests.input c.requests.output c.requests.host in
    let after = run_state c.handle_next.new.input c.write_reply.new.output c.handle_next.new.host in
    let w = rw c.in-Ok-Some.field-0-is at (by_budget g.S.Source.feed g.H.RequestHandler.handles g.H.RequestHandler.handles_batch c.requests.session.budget c.args.budget
    (request_state c.requests.input c.requests.host) (request_state c.handle_next.new.input c.handle_next.new.host)
    (Ok c.in-Ok-Some.field-0) c.requests.invariant.budget c.in-Ok-Some.ensures.handled) in
    let p = err_from_is_err_and c.from_residual-in_err-write_reply.result c.from_residual-in_err-write_reply.ensures.1 in
    record { serves = rw (p.1, p.2) (serves_reply serving before last after c.in-Ok-Some.reply c.requests.invariant.log w c.in_err-write_reply.ensures.written) }

pub returns-then-ends : goal.returns-then-ends
returns-then-ends g c =
    let serving = serving_with g.S.Source.feed g.K.Sink.outlet (relations g.H.RequestHandler.handles g.H.RequestHandler.handles_batch c.args.budget) in
    let before = run_state c.args.input.now c.args.output.now c.args.host.now in
    let last = run_state c.requests.input c.requests.output c.requests.host in
    let after = run_state c.handle_next.new.input c.close-then-ends.new.output c.handle_next.new.host in
    let w = rw c.in-Ok-Some.field-0-is at (by_budget g.S.Source.feed g.H.RequestHandler.handles g.H.RequestHandler.handles_batch c.requests.session.budget c.args.budget
    (request_state c.requests.input c.requests.host) (request_state c.handle_next.new.input c.handle_next.new.host)
    (Ok c.in-Ok-Some.field-0) c.requests.invariant.budget c.in-Ok-Some.ensures.handled) in
    record { serves = serves_quit serving g.met.K.Sink.is_outlet before last after c.write_reply.new.output c.in-Ok-Some.reply c.close-then-ends.result c.requests.invariant.log (sym c.ends_run-ends.ensures.quit ∙ c.if-ends.true) w c.in_ok-write_reply.ensures.written c.close-then-ends.ensures.closes }

pub requests-preserved : goal.requests-preserved
requests-preserved g c =
    let serving = serving_with g.S.Source.feed g.K.Sink.outlet (relations g.H.RequestHandler.handles g.H.RequestHandler.handles_batch c.args.budget) in
    let before = run_state c.args.input.now c.args.output.now c.args.host.now in
    let last = run_state c.requests.input c.requests.output c.requests.host in
    let after = run_state c.handle_next.new.input c.write_reply.new.output c.handle_next.new.host in
    let w = rw c.in-Ok-Some.field-0-is at (by_budget g.S.Source.feed g.H.RequestHandler.handles g.H.RequestHandler.handles_batch c.requests.session.budget c.args.budget
    (request_state c.requests.input c.requests.host) (request_state c.handle_next.new.input c.handle_next.new.host)
    (Ok c.in-Ok-Some.field-0) c.requests.invariant.budget c.in-Ok-Some.ensures.handled) in
    record {
      log = ongoing-more serving g.met.S.Source.is_feed g.met.K.Sink.is_outlet before last after w.0 (command_reply_of c.in-Ok-Some.reply) c.requests.invariant.log w.1 c.in_ok-write_reply.ensures.written c.in_ok-write_reply.ensures.prompt
          (goes_on (relations g.H.RequestHandler.handles g.H.RequestHandler.handles_batch c.args.budget) c.requests.host c.handle_next.new.host w.0 (command_reply_of c.in-Ok-Some.reply) (sym c.ends_run-ends.ensures.quit ∙ c.if-ends.false) w.1.handled);
      room = c.handle_next.ensures.room;
      budget = c.handle_next.ensures.budget ∙ c.requests.invariant.budget;
    }

pub requests-smaller : goal.requests-smaller
requests-smaller g c =
    let handling = handling_with g.S.Source.feed (relations g.H.RequestHandler.handles g.H.RequestHandler.handles_batch c.args.budget) in
    let last = request_state c.requests.input c.requests.host in
    let after = request_state c.handle_next.new.input c.handle_next.new.host in
    let w = rw c.in-Ok-Some.field-0-is at (by_budget g.S.Source.feed g.H.RequestHandler.handles g.H.RequestHandler.handles_batch c.requests.session.budget c.args.budget last after (Ok c.in-Ok-Some.field-0) c.requests.invariant.budget c.in-Ok-Some.ensures.handled) in
    served-falls handling g.met.S.Source.is_feed last after w.0 (command_reply_of c.in-Ok-Some.reply) w.1

pub returns-in_err-session : goal.returns-in_err-session
returns-in_err-session g c = record {
  serves = let p = err_from_is_err_and c.from_residual.result c.from_residual.ensures.1 in
      rw (p.1, p.2) (inl (record { input_same = refl; output_same = refl; host_same = refl }));
}
