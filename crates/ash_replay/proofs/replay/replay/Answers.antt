use Rattle.std.proofs.lemmas.Result.{err_from_is_err_and}
use Rattle.ash_journal.specs.Reading.{bodies_of}
use Rattle.ash_image.specs.SnapshotViews.{snapshot_of}
use Rattle.ash_image.specs.NamedViews.{state_seen}
use Rattle.ash_replay.proofs.Replaying.{record_fault, rules_fault, led_to, state_led, breaks}
use Rattle.ash_replay.proofs.replay.replay.Goals as goal

pub returns-in_err-last-clause-fault : goal.returns-in_err-last-clause-fault
returns-in_err-last-clause-fault c placed =
    let stored = c.in_ok-stored.stored in
    let p = err_from_is_err_and c.from_residual-in_err-last.result c.from_residual-in_err-last.ensures.1 in
    rw (p.1, p.2) (record_fault c.args.image.now c.args.records.now stored.version (snapshot_of stored.state)
    (state_seen c.in_ok-first.first) c.in_err-last.field-0.0 c.in_ok-stored.ensures.reads_image
    c.in_ok-first.ensures.named placed c.in_err-last.ensures.leads_through)

pub returns-in-Some-clause-state : goal.returns-in-Some-clause-state
returns-in-Some-clause-state c =
    let stored = c.in_ok-stored.stored in
    let led = led_to c.args.image.now c.args.records.now stored.version (snapshot_of stored.state)
    (state_seen c.in_ok-first.first) (state_seen c.in_ok-last.last) c.in_ok-stored.ensures.reads_image
    c.in_ok-first.ensures.named c.in_ok-last.ensures.leads_through in
    let found = rw c.in-Some.is at c.in_ok-state.ensures.stored in
    state_led stored.version (c.args.image.now, bodies_of c.args.records.now) (state_seen c.in_ok-last.last)
    (snapshot_of c.in-Some.state) led found.0 found.1 found.2

pub returns-in-None-clause-fault : goal.returns-in-None-clause-fault
returns-in-None-clause-fault c placed =
    let stored = c.in_ok-stored.stored in
    let led = led_to c.args.image.now c.args.records.now stored.version (snapshot_of stored.state)
    (state_seen c.in_ok-first.first) (state_seen c.in_ok-last.last) c.in_ok-stored.ensures.reads_image
    c.in_ok-first.ensures.named c.in_ok-last.ensures.leads_through in
    rules_fault c.args.image.now c.args.records.now stored.version (state_seen c.in_ok-last.last) c.last_gate.result led
    (breaks stored.version (state_seen c.in_ok-last.last) c.in_ok-state.field-0 c.in-None.is
    c.in_ok-state.ensures.only)
    placed c.last_gate.ensures.value
