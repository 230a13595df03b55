use Rattle.std.proofs.Common.{◌∷◌, []}
use Rattle.ash_disk_tests.proofs.journal.composed.three_records.Goals as goal

pub returns-in-Ok-append-3-clause-holds : goal.returns-in-Ok-append-3-clause-holds
returns-in-Ok-append-3-clause-holds g c honest_first honest_second =
    let image = c.args.image.now in
    let body = c.args.body.now in
    let none = c.in-Ok.ensures.created honest_first honest_second in
    let one = c.in-Ok-append.ensures.acknowledged image [] none in
    let two = c.in-Ok-append-2.ensures.acknowledged image (body ∷ []) one in
    c.in-Ok-append-3.ensures.acknowledged image (body ∷ body ∷ []) two
