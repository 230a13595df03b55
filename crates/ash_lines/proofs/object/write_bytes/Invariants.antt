use Rattle.ash_lines.specs.ObjectTexts.{byte_text}
use Rattle.ash_lines.proofs.ItemLemmas.{WroteUpTo}
use Rattle.ash_lines.proofs.object.write_bytes.Given as goal

abbrev pub invariant-loop-byte : goal.invariant-loop-byte
invariant-loop-byte g l = WroteUpTo g.K.Sink.outlet byte_text l.bytes l.initial.output l.byte-index l.output
