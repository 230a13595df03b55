use Rattle.std.proofs.Common.{Result, drop}
use Rattle.ash_image.specs.declared.named_state.NamedState.{NamedState}
use Rattle.ash_image.specs.NamedViews.{state_seen}
use Rattle.ash_replay.specs.declared.fault.ReplayFault.{ReplayFault}
use Rattle.ash_replay.specs.ReplaySteps.{LeadsThrough}
use Rattle.ash_replay.proofs.records.last_state.Given as goal

-- if the records that are left lead somewhere from this state, all lead there from the first
abbrev pub invariant-loop-record : goal.invariant-loop-record
invariant-loop-record l = (result : Result NamedState ReplayFault)
    → LeadsThrough l.version (state_seen l.state) (drop l.record-index l.records) result
    → LeadsThrough l.version (state_seen l.fn.first) l.records result
