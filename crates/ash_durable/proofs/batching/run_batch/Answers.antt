use Rattle.std.proofs.Common.{ℕ, ◌+◌, List, length, map, take, drop, slice_set, refl, ◌∙◌, ap, arith}
use Rattle.std.proofs.lemmas.List.{length-map, length-take}
use Rattle.std.proofs.lemmas.Result.{err_from_is_err_and}
use Rattle.ash_durable.specs.BatchViews.{batch_request_seen}
use Rattle.ash_durable.proofs.BatchRunLaws.{begun, run_has, run_few, run_next, stops_at, run_all, run_whole}
use Rattle.ash_durable.proofs.BatchRunLaws.{fit_stops}
use Rattle.ash_durable.proofs.Requesting.{some_live}
use Rattle.ash_durable.proofs.batching.run_batch.Goals as goal

pub loop-request-init : goal.loop-request-init
loop-request-init g c = record {
  runs = λ live is.
      begun g.B.HostObject c.args.budget live c.in-Ok.run' c.args.engine.now is c.in-Ok.ensures.replies
      c.in-Ok.ensures.body c.in-Ok.ensures.answered;
  registered = refl;
}

pub handle-requires-clause-live : goal.handle-requires-clause-live
handle-requires-clause-live g c =
    let some = some_live c.args.engine.now.live c.requires.live in
    let i = c.loop-request.request-index in
    run_has g.B.HostObject c.args.budget (map batch_request_seen (take i c.args.requests.now)) some.0
    c.loop-request.run c.loop-request.engine (c.loop-request.invariant.runs some.0 some.1)

pub handle-requires-clause-few : goal.handle-requires-clause-few
handle-requires-clause-few g c =
    let some = some_live c.args.engine.now.live c.requires.live in
    let i = c.loop-request.request-index in
    let xs = c.args.requests.now in
    let few = run_few g.B.HostObject c.args.budget (map batch_request_seen (take i xs)) some.0 c.loop-request.run
    c.loop-request.engine (c.loop-request.invariant.runs some.0 some.1) in
    omega (
      arith,
      few,
      length-map (take i xs) batch_request_seen,
      length-take i xs,
      c.loop-request-test.true,
      c.requires.few,
    )

pub loop-request-preserved : goal.loop-request-preserved
loop-request-preserved g c =
    let i = c.loop-request.request-index in
    let xs = c.args.requests.now in
    record {
      runs = λ live is.
          run_next g.B.HostObject c.args.budget batch_request_seen live xs i _ c.loop-request-test.true
          c.handle.new.self c.handle.new.engine
          (c.in_ok-handle.ensures.runs live (map batch_request_seen (take i xs))
          (c.loop-request.invariant.runs live is));
      registered = c.in_ok-handle.ensures.registered ∙ c.loop-request.invariant.registered;
    }

pub returns-in_err-handle : goal.returns-in_err-handle
returns-in_err-handle g c =
    let i = c.loop-request.request-index in
    let xs = c.args.requests.now in
    record {
      registered = c.in_err-handle.ensures.registered ∙ c.loop-request.invariant.registered;
      runs = λ live is.
          let p = err_from_is_err_and c.from_residual.result c.from_residual.ensures.1 in
          rw (p.1, p.2) (stops_at g.B.HostObject c.args.budget batch_request_seen live xs i _ c.loop-request-test.true
          c.in_err-handle.field-0.0 c.handle.new.engine
          (c.in_err-handle.ensures.runs live (map batch_request_seen (take i xs))
          (c.loop-request.invariant.runs live is) (map batch_request_seen (drop (i + 1) xs))));
    }

pub returns-clause-runs : goal.returns-clause-runs
returns-clause-runs g c live is =
    let i = c.loop-request.request-index in
    let xs = c.args.requests.now in
    run_whole g.B.HostObject c.args.budget (map batch_request_seen xs) live c.loop-request.engine c.loop-request.run
    c.fit.new.self
    (omega (arith, length-map xs batch_request_seen, c.requires.few))
    (run_all g.B.HostObject c.args.budget batch_request_seen live xs i c.loop-request.run c.loop-request.engine
    c.loop-request-test.false (c.loop-request.invariant.runs live is)) c.in_ok-fit.ensures.replies
    c.in_ok-fit.ensures.answered _ (λ bs same. ap (λ (ys : List ℕ). slice_set ys 1 c.loop-request.run.answered) same)
    c.in_ok-fit.ensures.fitted

pub fit-requires : goal.fit-requires
fit-requires g c =
    let some = some_live c.args.engine.now.live c.requires.live in
    let i = c.loop-request.request-index in
    record {
      live = run_has g.B.HostObject c.args.budget (map batch_request_seen (take i c.args.requests.now)) some.0
          c.loop-request.run c.loop-request.engine (c.loop-request.invariant.runs some.0 some.1);
    }

pub returns-in_err-fit-clause-runs : goal.returns-in_err-fit-clause-runs
returns-in_err-fit-clause-runs g c live is =
    let i = c.loop-request.request-index in
    let xs = c.args.requests.now in
    let p = err_from_is_err_and c.from_residual-in_err-fit.result c.from_residual-in_err-fit.ensures.1 in
    rw (p.1, p.2) (fit_stops g.B.HostObject c.args.budget (map batch_request_seen xs) live c.loop-request.engine
    c.loop-request.run
    (run_all g.B.HostObject c.args.budget batch_request_seen live xs i c.loop-request.run c.loop-request.engine
    c.loop-request-test.false (c.loop-request.invariant.runs live is)) c.in_err-fit.field-0.0 c.in_err-fit.ensures.stop)
