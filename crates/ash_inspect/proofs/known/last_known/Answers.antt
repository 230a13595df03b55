use Rattle.std.proofs.Common.{refl, length}
use Rattle.std.proofs.lemmas.Bool.{false≢true}
use Rattle.ash_inspect.proofs.known.last_known.Goals as goal

pub returns-in-Some-clause-all : goal.returns-in-Some-clause-all
returns-in-Some-clause-all c version s placed leads =
    (record { records = length c.args.records.now; stored = c.in-Some.stored }, refl, refl)

pub returns-in-None-clause-all : goal.returns-in-None-clause-all
returns-in-None-clause-all c version s placed leads =
    absurd (false≢true (rw c.in-None.is at c.in_ok-found.ensures.only version s placed leads))
