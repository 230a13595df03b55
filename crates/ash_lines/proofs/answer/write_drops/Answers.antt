use Rattle.std.proofs.Common.{List, ℕ, codes, sym, ◌∙◌, subst}
use Rattle.std.proofs.lemmas.Result.{err_from_is_err_and}
use Rattle.std.specs.List.{flat_map}
use Rattle.ash_lines.specs.Sink.{Writes, FailsPartway}
use Rattle.ash_lines.specs.ReplyText.{drop_text}
use Rattle.ash_lines.proofs.SinkLemmas.{fails-more, writes-then}
use Rattle.ash_lines.proofs.TextLemmas.{some-drops}
use Rattle.ash_lines.proofs.answer.write_drops.Goals as goal

pub returns-in_err-write : goal.returns-in_err-write
returns-in_err-write g c =
    let p = err_from_is_err_and c.from_residual.result c.from_residual.ensures.1 in
    let whole = some-drops c.args.events.now (sym c.if-not-has_drop.false ∙ c.has_drop.ensures.drop) in
    record {
      text = rw p.1 (subst (λ (x : List ℕ). FailsPartway g.K.Sink.outlet c.args.output.now x c.write.new.self) (sym whole)
          (fails-more g.K.Sink.outlet _ _ (codes " dropped") (flat_map drop_text c.args.events.now) c.in_err-write.ensures.written));
    }

pub returns : goal.returns
returns g c =
    let whole = some-drops c.args.events.now (sym c.if-not-has_drop.false ∙ c.has_drop.ensures.drop) in
    record {
      text = subst (λ (x : List ℕ). Writes g.K.Sink.outlet c.args.output.now x c.write_numbers.result c.write_numbers.new.output) (sym whole)
          (writes-then g.K.Sink.outlet g.met.K.Sink.is_outlet _ _ _ (codes " dropped") (flat_map drop_text c.args.events.now) c.write_numbers.result c.in_ok-write.ensures.written c.write_numbers.ensures.text);
    }
