use Rattle.std.proofs.lemmas.Result.{on_ok_weaker}
use Rattle.ash_journal.proofs.first_append.append_first.Goals as goal

pub returns-clause-acknowledged : goal.returns-clause-acknowledged
returns-clause-acknowledged g c =
    on_ok_weaker c.append.result
    (λ added image bodies found. added image bodies (c.in_ok-settle.ensures.settled image bodies found))
    c.append.ensures.acknowledged
