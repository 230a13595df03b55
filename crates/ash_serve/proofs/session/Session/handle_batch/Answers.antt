use Rattle.std.proofs.Common.{◌∙◌, map, ap}
use Rattle.std.proofs.lemmas.Result.{err_from_is_err_and}
use Rattle.ash_durable.specs.BatchViews.{batch_request_seen}
use Rattle.ash_serve.specs.BatchLines.{owned_seen}
use Rattle.ash_serve.specs.Serving.{handling_with, relations}
use Rattle.ash_serve.proofs.HandlingLemmas.{batch_failed, batch_unasked, batch_replied}
use Rattle.ash_serve.proofs.session.Session.handle_batch.Goals as goal

pub returns-in_err-kept-clause-handled : goal.returns-in_err-kept-clause-handled
returns-in_err-kept-clause-handled g c start w =
    let p = err_from_is_err_and c.from_residual.result c.from_residual.ensures.1 in
    rw (p.1, p.2) (batch_failed (handling_with g.S.Source.feed (relations g.H.RequestHandler.handles g.H.RequestHandler.handles_batch c.args.self.now.budget)) g.met.S.Source.is_feed start c.args.input.now c.read_batch.new.input c.args.host.now c.args.count _ w c.in_err-kept.ensures.read)

pub returns-in_err-requests-clause-handled : goal.returns-in_err-requests-clause-handled
returns-in_err-requests-clause-handled g c start w =
    let p = err_from_is_err_and c.from_residual-in_err-requests.result c.from_residual-in_err-requests.ensures.1 in
    let r = c.in_ok-kept.ensures.read in
    rw (p.1, p.2) (batch_unasked (handling_with g.S.Source.feed (relations g.H.RequestHandler.handles g.H.RequestHandler.handles_batch c.args.self.now.budget)) g.met.S.Source.is_feed start c.args.input.now c.read_batch.new.input c.args.host.now c.args.count r.0 w r.1)

pub returns-clause-handled : goal.returns-clause-handled
returns-clause-handled g c start w =
    let r = c.in_ok-kept.ensures.read in
    batch_replied (handling_with g.S.Source.feed (relations g.H.RequestHandler.handles g.H.RequestHandler.handles_batch c.args.self.now.budget)) g.met.S.Source.is_feed (g.met.H.RequestHandler.batch_depends_on_prefix c.args.self.now.budget) start c.args.input.now c.read_batch.new.input c.args.host.now c.batch-result.new.self c.args.count r.0 (map batch_request_seen c.as_slice-2.result.now) c.batch-result.result w r.1 r.2
    (ap (map batch_request_seen) c.as_slice-2.ensures.value ∙ (c.in_ok-requests.ensures.same ∙ (ap (map owned_seen) c.as_slice.ensures.value ∙ r.3))) c.batch-result.ensures.handled
