use Rattle.ash_type_rules.proofs.FaultLaws.{fault_broken}
use Rattle.ash_type_rules.proofs.modules.faults_are_what_they_say.Goals as goal

pub returns : goal.returns
returns c = record { broken_there = fault_broken }
