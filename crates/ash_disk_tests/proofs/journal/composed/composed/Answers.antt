use Rattle.std.proofs.Common.{◌∷◌, []}
use Rattle.ash_disk_tests.proofs.journal.composed.composed.Goals as goal

pub returns-in-Ok : goal.returns-in-Ok
returns-in-Ok g c = record {
  held =
      λ honest_first honest_second.
      let image = c.args.image.now in
      let body = c.args.body.now in
      let three = c.in_ok-journal.ensures.holds honest_first honest_second in
      let one = c.in_ok-found.ensures.holds image (body ∷ body ∷ body ∷ []) three in
      c.in-Ok.ensures.acknowledged image (body ∷ []) one;
}
