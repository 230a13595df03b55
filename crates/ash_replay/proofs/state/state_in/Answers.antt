use Rattle.std.proofs.Common.{rules, ◌≡◌, ◌∙◌, inr}
use Rattle.ash_journal.specs.Reading.{bodies_of}
use Rattle.ash_registry.specs.RegistryViews.{registered}
use Rattle.ash_registry.specs.RegistryText.{text_of}
use Rattle.ash_image.specs.SnapshotViews.{snapshot_of}
use Rattle.ash_replay.specs.ReplayFaults.{after_image}
use Rattle.ash_replay.proofs.Replaying.{newest_is}
use Rattle.ash_replay.proofs.HostStatesRead.{is_read, of_none}
use Rattle.ash_replay.proofs.state.state_in.Goals as goal

pub returns-in-Some-clause-read : goal.returns-in-Some-clause-read
returns-in-Some-clause-read c =
    let stored = c.in_ok-stored.stored in
    let s = snapshot_of stored.state in
    let text : s.registered ≡ text_of (registered c.args.registry) = search rules in
    is_read (registered c.args.registry) (c.args.image.now, bodies_of c.args.records.now) stored.version s
    c.in-Some.state c.in_ok-stored.ensures.state text (rw c.in-Some.is at c.in_ok-state.ensures.exact)

pub returns-in-None-clause-fault : goal.returns-in-None-clause-fault
returns-in-None-clause-fault c placed =
    let stored = c.in_ok-stored.stored in
    let s = snapshot_of stored.state in
    let text : s.registered ≡ text_of (registered c.args.registry) = search rules in
    inr (
      stored.version,
      s,
      c.in_ok-stored.ensures.state,
      text,
      of_none (registered c.args.registry) s (rw c.in-None.is at c.in_ok-state.ensures.exact),
      c.last_gate.ensures.value ∙ newest_is 0 (after_image c.args.image.now) c.args.records.now placed,
    )
