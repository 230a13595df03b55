use Rattle.std.proofs.Common.{◌≡◌, ◌++◌, List, ℕ, drop, map, string_bytes}
use Rattle.ash_lines.specs.Sink.{Accepts}
use Rattle.ash_lines.specs.RefusalTexts.{names_text}
use Rattle.ash_lines.proofs.refusal.write_names.Given as goal

abbrev pub invariant-loop-name : goal.invariant-loop-name
invariant-loop-name g l = (text : List ℕ) × Accepts g.K.Sink.outlet l.initial.output text l.output × (names_text (map string_bytes l.names) ≡ text ++ names_text (map string_bytes (drop l.name-index l.names)))
