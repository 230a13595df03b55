use Rattle.ash_requests.specs.Tasks.{task_of}
use Rattle.ash_requests.proofs.Refused.{refused_keeps}
use Rattle.ash_requests.proofs.Determined.{refusal_keeps}
use Rattle.ash_requests.proofs.laws.refusal_changes_nothing.Goals as goal

pub returns-clause-first : goal.returns-clause-first
returns-clause-first g c = λ embedding budget request state hosts refusal e. refused_keeps budget state hosts refusal (task_of embedding request state) e

pub returns-clause-every : goal.returns-clause-every
returns-clause-every g c = refusal_keeps
