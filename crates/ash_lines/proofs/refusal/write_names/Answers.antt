use Rattle.std.proofs.Common.{◌++◌, List, ℕ, ◌+◌, sym, ap, ◌∙◌, drop, append_assoc, map, codes, string_bytes}
use Rattle.std.proofs.lemmas.Result.{err_from_is_err_and}
use Rattle.ash_lines.specs.RefusalTexts.{names_text}
use Rattle.ash_lines.proofs.SinkLemmas.{accepts-then, fails-more, accepts-fails, left-name, name-pieces}
use Rattle.ash_lines.proofs.refusal.write_names.Goals as goal

pub returns-in_err-write_all : goal.returns-in_err-write_all
returns-in_err-write_all g c =
    let i = c.loop-name.invariant in
    let q = left-name string_bytes c.args.names.now c.loop-name.name-index c.name-item.result c.loop-name-test.true (sym c.name-item.is) in
    let all = i.2 ∙ ap (λ (x : List ℕ). i.0 ++ x) q in
    let e = name-pieces c.as_slice.result.now c.as_bytes.result.now (string_bytes c.name-item.result) c.as_slice.ensures c.as_bytes.ensures.value in
    let f = rw e at c.in_err-write_all.ensures.text in
    let h = accepts-fails g.K.Sink.outlet g.met.K.Sink.is_outlet _ _ _ i.0 _ i.1 (fails-more g.K.Sink.outlet _ _ (codes " " ++ string_bytes c.name-item.result) (names_text (map string_bytes (drop (c.loop-name.name-index + 1) c.args.names.now))) f) in
    let p = err_from_is_err_and c.from_residual.result c.from_residual.ensures.1 in
    record { text = rw (p.1, all) h }

pub loop-name-preserved : goal.loop-name-preserved
loop-name-preserved g c =
    let i = c.loop-name.invariant in
    let q = left-name string_bytes c.args.names.now c.loop-name.name-index c.name-item.result c.loop-name-test.true (sym c.name-item.is) in
    let e = name-pieces c.as_slice.result.now c.as_bytes.result.now (string_bytes c.name-item.result) c.as_slice.ensures c.as_bytes.ensures.value in (
      i.0 ++ (codes " " ++ string_bytes c.name-item.result),
      accepts-then g.K.Sink.outlet g.met.K.Sink.is_outlet _ _ _ i.0 _ i.1 (rw e at c.in_ok-write_all.ensures.text),
      i.2 ∙ (ap (λ (x : List ℕ). i.0 ++ x) q ∙ sym (append_assoc i.0 _ _)),
    )
