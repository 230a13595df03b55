use Rattle.ash_type_rules.proofs.FaultLaws.{fault_at, fault_token}
use Rattle.ash_type_rules.proofs.modules.faults_are_at_tokens.Goals as goal

pub returns-clause-at_a_token : goal.returns-clause-at_a_token
returns-clause-at_a_token c = fault_token

pub returns-clause-at_its_token : goal.returns-clause-at_its_token
returns-clause-at_its_token c = fault_at
