use Rattle.std.proofs.Common.{refl}
use Rattle.std.proofs.lemmas.Result.{err_from_is_err_and}
use Rattle.ash_lines.specs.ObjectTexts.{byte_text}
use Rattle.ash_lines.proofs.ItemLemmas.{wrote-none, wrote-more, wrote-failed, wrote-all}
use Rattle.ash_lines.proofs.object.write_bytes.Goals as goal

pub loop-byte-init : goal.loop-byte-init
loop-byte-init g c = wrote-none g.K.Sink.outlet g.met.K.Sink.is_outlet byte_text c.args.bytes.now c.args.output.now

pub returns-in_err-write_byte : goal.returns-in_err-write_byte
returns-in_err-write_byte g c =
    let p = err_from_is_err_and c.from_residual.result c.from_residual.ensures.1 in
    record { text = rw p.1 (wrote-failed g.K.Sink.outlet g.met.K.Sink.is_outlet byte_text c.args.bytes.now _ _ _ c.loop-byte.byte-index _ _ c.loop-byte.invariant c.in_err-write_byte.ensures.text c.loop-byte-test.true refl) }

pub loop-byte-preserved : goal.loop-byte-preserved
loop-byte-preserved g c =
    wrote-more g.K.Sink.outlet g.met.K.Sink.is_outlet byte_text c.args.bytes.now _ _ _ c.loop-byte.byte-index _ _ c.loop-byte.invariant c.in_ok-write_byte.ensures.text c.loop-byte-test.true refl

pub returns : goal.returns
returns g c = record { text = wrote-all g.K.Sink.outlet byte_text c.args.bytes.now _ _ c.loop-byte.byte-index c.loop-byte.invariant c.loop-byte-test.false }
