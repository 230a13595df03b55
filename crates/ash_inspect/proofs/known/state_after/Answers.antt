use Rattle.std.proofs.Common.{subst}
use Rattle.ash_journal.specs.Current.{Contents}
use Rattle.ash_journal.specs.Reading.{bodies_of}
use Rattle.ash_replay.specs.ReplayFaults.{IsMisshapen}
use Rattle.ash_replay.specs.ReplaySteps.{ReportsDamage}
use Rattle.ash_inspect.proofs.KnownLaws.{well_shaped}
use Rattle.ash_inspect.proofs.known.state_after.Goals as goal

pub returns-in-Err-Damaged-clause-only : goal.returns-in-Err-Damaged-clause-only
returns-in-Err-Damaged-clause-only c version s placed leads =
    let contents : Contents = (c.args.image.now, bodies_of c.args.records.now) in
    let shape = subst (ReportsDamage (IsMisshapen contents)) c.in-Err-Damaged.field-0-is
    (c.in-Err-Damaged.ensures.fault placed) in
    absurd (well_shaped version contents s c.in-Err-Damaged.field-0-0 leads shape)
