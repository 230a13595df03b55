-- A request that is refused changes nothing.
use Rattle.std.proofs.Common.{◌≡◌, ℕ, ap}
use Rattle.std.specs.Prelude.{Some, Ok, Err}
use Rattle.std.specs.Result.{result_err}
use Rattle.ash_requests.specs.States.{State, Hosts}
use Rattle.ash_requests.specs.Requests.{Refusal, Refused}
use Rattle.ash_requests.specs.Tasks.{TaskResult}
use Rattle.ash_requests.specs.Steps.{unless_refused, replied}

pub refused_keeps : {F : Type 0} (budget : ℕ) (state : State) (hosts : Hosts) (refusal : Refusal F) (result : TaskResult F) → result_err result ≡ Some refusal → unless_refused budget result state hosts ≡ Some (replied (Refused refusal) state hosts)
refused_keeps budget state hosts refusal (Ok task) e = absurd (cc)
refused_keeps {F} budget state hosts refusal (Err first) e =
    let same : first ≡ refusal = cc in
    ap (λ (r : Refusal F). Some (replied (Refused r) state hosts)) same
