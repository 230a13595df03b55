use Rattle.std.proofs.Common.{[], ◌++◌, List, ℕ, sym, ap, ◌∙◌, drop, append_assoc, get_or, ◌+◌}
use Rattle.std.proofs.lemmas.Result.{err_from_is_err_and}
use Rattle.std.specs.Borrow.{Bor}
use Rattle.std.specs.List.{flat_map}
use Rattle.ash_lines.proofs.SinkLemmas.{accepts-then, fails-more, accepts-fails, left-piece}
use Rattle.ash_lines.proofs.pieces.write_all.Goals as goal

none : Bor (List ℕ)
none = record { ref_ptr = (0, 0); now = [] }

pub returns-in_err-write : goal.returns-in_err-write
unfolding none
returns-in_err-write g c =
    let i = c.loop-piece.invariant in
    let q = left-piece c.args.pieces.now c.loop-piece.piece-index none c.loop-piece-test.true in
    let all = i.2 ∙ ap (λ (x : List ℕ). i.0 ++ x) q in
    let h = accepts-fails g.K.Sink.outlet g.met.K.Sink.is_outlet _ _ _ i.0 _ i.1 (fails-more g.K.Sink.outlet _ _ _ (flat_map (λ (piece : Bor (List ℕ)). piece.now) (drop (c.loop-piece.piece-index + 1) c.args.pieces.now)) c.in_err-write.ensures.written) in
    let p = err_from_is_err_and c.from_residual.result c.from_residual.ensures.1 in
    record { text = rw (p.1, all) h }

pub loop-piece-preserved : goal.loop-piece-preserved
unfolding none
loop-piece-preserved g c =
    let i = c.loop-piece.invariant in
    let q = left-piece c.args.pieces.now c.loop-piece.piece-index none c.loop-piece-test.true in (
      i.0 ++ (get_or c.args.pieces.now c.loop-piece.piece-index none).now,
      accepts-then g.K.Sink.outlet g.met.K.Sink.is_outlet _ _ _ i.0 _ i.1 c.in_ok-write.ensures.written,
      i.2 ∙ (ap (λ (x : List ℕ). i.0 ++ x) q ∙ sym (append_assoc i.0 _ _)),
    )
