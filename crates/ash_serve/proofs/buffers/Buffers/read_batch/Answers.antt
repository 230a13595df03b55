use Rattle.std.proofs.Common.{◌≡◌, ◌∙◌, arith, ◌∷◌, [], length-append}
use Rattle.std.proofs.lemmas.Result.{err_from_is_err_and}
use Rattle.ash_serve.proofs.BatchLemmas.{has-more, has-all, has-failed, none-refused}
use Rattle.ash_serve.proofs.buffers.Buffers.read_batch.Goals as goal

pub returns-in_err-requests-clause-read : goal.returns-in_err-requests-clause-read
returns-in_err-requests-clause-read g c =
    let p = err_from_is_err_and c.from_residual.result c.from_residual.ensures.1 in
    rw (p.1, p.2) (none-refused g.S.Source.feed g.met.S.Source.is_feed c.args.input.now c.args.count)

pub returns-in_err-request-clause-read : goal.returns-in_err-request-clause-read
returns-in_err-request-clause-read g c =
    let p = err_from_is_err_and c.from_residual-in_err-request.result c.from_residual-in_err-request.ensures.1 in
    rw (p.1, p.2) (has-failed g.S.Source.feed g.met.S.Source.is_feed _ _ _ _ c.loop-i.i c.args.count _ c.loop-i.invariant.read c.loop-i-test.true c.in_err-request.ensures.read)

pub loop-i-preserved : goal.loop-i-preserved
loop-i-preserved g c = record {
  read = has-more g.S.Source.feed g.met.S.Source.is_feed _ _ _ _ _ c.loop-i.i _ c.loop-i.invariant.read c.in_ok-request.ensures.read c.push_reserved.ensures.items;
  counted = rw c.push_reserved.ensures.items (omega (arith, c.loop-i.invariant.counted, length-append c.loop-i.requests.items (c.in_ok-request.request ∷ [])));
  capacity = omega arith;
  room = c.read_inner.ensures.room;
}

pub returns-clause-read : goal.returns-clause-read
returns-clause-read g c =
    let h = c.loop-i.invariant.read in
    let e : c.loop-i.i ≡ c.args.count = omega arith in
    (h.lines, has-all g.S.Source.feed _ _ _ c.loop-i.i c.args.count h e, h.counted ∙ e, h.kept)
