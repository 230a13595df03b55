use Rattle.std.proofs.Common.{◌≡◌, true, sym, ◌∙◌}
use Rattle.ash_image.specs.NamedViews.{state_seen}
use Rattle.ash_replay.proofs.Replaying.{no_body, read_with}
use Rattle.ash_replay.proofs.records.state_by_image.Goals as goal

pub returns-in_default-clause-only : goal.returns-in_default-clause-only
returns-in_default-clause-only c after leads =
    absurd (no_body c.args.version c.args.body.now (state_seen c.args.before.now) after c.in_ok-stored.field-0
    c.in_default.is c.in_ok-stored.ensures.only leads)

pub returns-then-not-is_with-clause-only : goal.returns-then-not-is_with-clause-only
returns-then-not-is_with-clause-only c after leads =
    let stored = c.in-Some.stored in
    let both = read_with c.args.version c.args.body.now (state_seen c.args.before.now) after stored
    (rw c.in-Some.is at c.in_ok-stored.ensures.only) leads in
    let is : c.is_with.result ≡ true = c.is_with.ensures.exact.1 (both.0, both.1 ∙ sym c.deref.ensures) in
    absurd (cc)
