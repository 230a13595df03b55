-- What the code's outcomes of a run represent: how the run ends.
use Rattle.std.specs.Prelude.{string_bytes}
use Rattle.ash_meaning.specs.Ends.{End, Finished, Threw, Aborted}
use Rattle.ash_requests.specs.declared.outcome.Outcome as code
use Rattle.ash_requests.specs.declared.outcome.Outcome.TheVariants as outcomes

abbrev pub end_seen : code.Outcome → End
end_seen (outcomes.Finished value) = Finished value
end_seen (outcomes.Exception exception function line) = Threw exception (string_bytes function) line
end_seen (outcomes.Aborted function line) = Aborted (string_bytes function) line
