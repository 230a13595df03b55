use Rattle.ash_lines.specs.ReplyText.{drop_text}
use Rattle.ash_lines.proofs.ItemLemmas.{WroteUpTo}
use Rattle.ash_lines.proofs.answer.write_numbers.Given as goal

abbrev pub invariant-loop-event : goal.invariant-loop-event
invariant-loop-event g l = WroteUpTo g.K.Sink.outlet drop_text l.events l.initial.output l.event-index l.output
