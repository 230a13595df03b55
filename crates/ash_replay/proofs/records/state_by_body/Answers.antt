use Rattle.std.proofs.Common.{◌≡◌, None, refl, rules}
use Rattle.ash_image.specs.NamedViews.{state_seen}
use Rattle.ash_replay.proofs.Replaying.{delta_only, deltas_only, image_only}
use Rattle.ash_replay.proofs.records.state_by_body.Goals as goal

pub returns-in-Some-clause-only : goal.returns-in-Some-clause-only
returns-in-Some-clause-only c after leads =
    let bytes = c.in-Some.bytes.now in
    c.state_by_delta.ensures.only after
    (delta_only c.args.version c.args.body.now bytes (state_seen c.args.before) after c.in-Some.ensures.tagged leads)

pub returns-in-Some-bytes_after-clause-only : goal.returns-in-Some-bytes_after-clause-only
returns-in-Some-bytes_after-clause-only c after leads =
    let bytes = c.in-Some-bytes_after.bytes.now in
    c.state_by_deltas.ensures.only after
    (deltas_only c.args.version c.args.body.now bytes (state_seen c.args.before) after
    c.in-Some-bytes_after.ensures.tagged leads)

pub returns-in-None-clause-only : goal.returns-in-None-clause-only
returns-in-None-clause-only c after leads =
    let none : c.bytes_after.result ≡ None = search rules in
    c.state_by_image.ensures.only after
    (image_only c.args.version c.args.body.now (state_seen c.args.before) after (c.bytes_after.ensures.others none)
    (c.in-None.ensures.others refl) leads)
