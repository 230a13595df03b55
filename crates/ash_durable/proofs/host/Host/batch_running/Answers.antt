use Rattle.std.proofs.Common.{ℕ, ◌<◌, List, length, Ok, Err, map, sym, subst}
use Rattle.ash_journal.specs.Layout.{length_limit}
use Rattle.std.proofs.lemmas.Result.{err_from_is_err_and}
use Rattle.ash_requests.specs.Requests.{Request}
use Rattle.ash_durable.specs.Batches.{adding_request}
use Rattle.ash_durable.specs.BatchViews.{batch_request_seen}
use Rattle.ash_durable.specs.HostRequests.{MakesRoom}
use Rattle.ash_durable.proofs.BatchesSeen.{none_asked, ran_out_seen, lost_seen, untouched_seen, committed_seen}
use Rattle.ash_durable.proofs.BatchesSeen.{ran_live, ran_room, still_ready, known_has}
use Rattle.ash_durable.proofs.HandledBatches.{batch_no_room}
use Rattle.ash_durable.proofs.Handling.{found_room, found_live}
use Rattle.ash_durable.proofs.host.Host.batch_running.Goals as goal

pub returns-in_err-make_room : goal.returns-in_err-make_room
returns-in_err-make_room g c = record {
  handled =
      let requests = map batch_request_seen c.args.requests.now in
      let p = err_from_is_err_and c.from_residual.result c.from_residual.ensures.1 in
      rw (p.1, p.2) (batch_no_room g.D.Disk g.B.HostObject c.args.budget requests c.args.self.now
      c.in_err-make_room.field-0.0 c.make_room.new.self c.requires.live
      (subst (λ (r : Request). MakesRoom g.D.Disk r c.args.self.now (Err c.in_err-make_room.field-0.0)
      c.make_room.new.self) c.adding_request.ensures.value c.in_err-make_room.ensures.makes_room));
}

pub seq-seq-requires : goal.seq-seq-requires
seq-seq-requires g c =
    let requests = map batch_request_seen c.args.requests.now in
    let made = subst (λ (r : Request). MakesRoom g.D.Disk r c.args.self.now (Ok tt) c.make_room.new.self)
    c.adding_request.ensures.value c.in_ok-make_room.ensures.makes_room in
    let found = found_room g.D.Disk (adding_request requests) c.self.inside.stopped c.self.inside.engine
    c.self.inside.journal c.args.self.now c.make_room.new.self c.requires.live made c.self.view_is in
    record { live = found_live found }

pub run_batch-requires-clause-live : goal.run_batch-requires-clause-live
run_batch-requires-clause-live g c =
    let requests = map batch_request_seen c.args.requests.now in
    let made = subst (λ (r : Request). MakesRoom g.D.Disk r c.args.self.now (Ok tt) c.make_room.new.self)
    c.adding_request.ensures.value c.in_ok-make_room.ensures.makes_room in
    let found = found_room g.D.Disk (adding_request requests) c.self.inside.stopped c.self.inside.engine
    c.self.inside.journal c.args.self.now c.make_room.new.self c.requires.live made c.self.view_is in
    found_live found

pub returns-in-Err-Unchanged : goal.returns-in-Err-Unchanged
returns-in-Err-Unchanged g c = record {
  handled =
      let requests = map batch_request_seen c.args.requests.now in
      let made = subst (λ (r : Request). MakesRoom g.D.Disk r c.args.self.now (Ok tt) c.make_room.new.self)
      c.adding_request.ensures.value c.in_ok-make_room.ensures.makes_room in
      let found = found_room g.D.Disk (adding_request requests) c.self.inside.stopped c.self.inside.engine
      c.self.inside.journal c.args.self.now c.make_room.new.self c.requires.live made c.self.view_is in
      let runs = rw c.in-Err-Unchanged.field-0-is at c.in-Err-Unchanged.ensures.runs found.live found.live_is in
      ran_out_seen g.D.Disk g.B.HostObject c.args.budget requests c.self.inside.stopped c.self.inside.engine
      c.run_batch.new.engine c.self.inside.journal c.args.self.now found c.in-Err-Unchanged.ensures.registered runs
      (λ none. c.requires.some (none_asked batch_request_seen c.args.requests.now none));
}

pub returns-in-Err-Lost : goal.returns-in-Err-Lost
returns-in-Err-Lost g c = record {
  handled =
      let requests = map batch_request_seen c.args.requests.now in
      let made = subst (λ (r : Request). MakesRoom g.D.Disk r c.args.self.now (Ok tt) c.make_room.new.self)
      c.adding_request.ensures.value c.in_ok-make_room.ensures.makes_room in
      let found = found_room g.D.Disk (adding_request requests) c.self.inside.stopped c.self.inside.engine
      c.self.inside.journal c.args.self.now c.make_room.new.self c.requires.live made c.self.view_is in
      let runs = rw c.in-Err-Lost.field-0-is at c.in-Err-Lost.ensures.runs found.live found.live_is in
      lost_seen g.D.Disk g.B.HostObject c.args.budget requests c.self.inside.stopped c.self.inside.engine
      c.run_batch.new.engine c.self.inside.journal c.args.self.now found c.in-Err-Lost.ensures.registered
      c.seq-seq.result (c.seq-seq.ensures.number found.live found.live_is) runs;
}

pub invariant_of-self : goal.invariant_of-self
invariant_of-self g c =
    let requests = map batch_request_seen c.args.requests.now in
    let made = subst (λ (r : Request). MakesRoom g.D.Disk r c.args.self.now (Ok tt) c.make_room.new.self)
    c.adding_request.ensures.value c.in_ok-make_room.ensures.makes_room in
    let found = found_room g.D.Disk (adding_request requests) c.self.inside.stopped c.self.inside.engine
    c.self.inside.journal c.args.self.now c.make_room.new.self c.requires.live made c.self.view_is in
    let runs = rw c.in-Err-Unchanged.field-0-is at c.in-Err-Unchanged.ensures.runs found.live found.live_is in
    still_ready c.self.inside.stopped c.self.inside.engine.live c.run_batch.new.engine.live c.self.inside.journal
    c.self.invariant (known_has c.run_batch.new.engine.live found.live runs)

pub invariant_of-self-then-run-eq0 : goal.invariant_of-self-then-run-eq0
invariant_of-self-then-run-eq0 g c =
    let requests = map batch_request_seen c.args.requests.now in
    let made = subst (λ (r : Request). MakesRoom g.D.Disk r c.args.self.now (Ok tt) c.make_room.new.self)
    c.adding_request.ensures.value c.in_ok-make_room.ensures.makes_room in
    let found = found_room g.D.Disk (adding_request requests) c.self.inside.stopped c.self.inside.engine
    c.self.inside.journal c.args.self.now c.make_room.new.self c.requires.live made c.self.view_is in
    let ran = c.in-Ok.ensures.runs found.live found.live_is in
    still_ready c.self.inside.stopped c.self.inside.engine.live c.run_batch.new.engine.live c.self.inside.journal
    c.self.invariant (known_has c.run_batch.new.engine.live ran.stepped.after ran.stepped.live_is)

pub invariant_of-self-2 : goal.invariant_of-self-2
invariant_of-self-2 g c =
    let requests = map batch_request_seen c.args.requests.now in
    let made = subst (λ (r : Request). MakesRoom g.D.Disk r c.args.self.now (Ok tt) c.make_room.new.self)
    c.adding_request.ensures.value c.in_ok-make_room.ensures.makes_room in
    let found = found_room g.D.Disk (adding_request requests) c.self.inside.stopped c.self.inside.engine
    c.self.inside.journal c.args.self.now c.make_room.new.self c.requires.live made c.self.view_is in
    let ran = c.in-Ok.ensures.runs found.live found.live_is in
    still_ready c.self.inside.stopped c.self.inside.engine.live c.run_batch.new.engine.live c.self.inside.journal
    c.self.invariant (known_has c.run_batch.new.engine.live ran.stepped.after ran.stepped.live_is)

pub returns-then-run-eq0 : goal.returns-then-run-eq0
returns-then-run-eq0 g c = record {
  handled =
      let requests = map batch_request_seen c.args.requests.now in
      let made = subst (λ (r : Request). MakesRoom g.D.Disk r c.args.self.now (Ok tt) c.make_room.new.self)
      c.adding_request.ensures.value c.in_ok-make_room.ensures.makes_room in
      let found = found_room g.D.Disk (adding_request requests) c.self.inside.stopped c.self.inside.engine
      c.self.inside.journal c.args.self.now c.make_room.new.self c.requires.live made c.self.view_is in
      untouched_seen g.D.Disk g.B.HostObject c.args.budget requests c.self.inside.stopped c.self.inside.engine
      c.run_batch.new.engine c.self.inside.journal c.args.self.now found c.in-Ok.ensures.registered c.in-Ok.run'
      (c.in-Ok.ensures.runs found.live found.live_is) c.facts.ensures.registered c.if-run-eq0.true;
}

pub commit_record-requires-clause-live : goal.commit_record-requires-clause-live
commit_record-requires-clause-live g c =
    let requests = map batch_request_seen c.args.requests.now in
    let made = subst (λ (r : Request). MakesRoom g.D.Disk r c.args.self.now (Ok tt) c.make_room.new.self)
    c.adding_request.ensures.value c.in_ok-make_room.ensures.makes_room in
    let found = found_room g.D.Disk (adding_request requests) c.self.inside.stopped c.self.inside.engine
    c.self.inside.journal c.args.self.now c.make_room.new.self c.requires.live made c.self.view_is in
    ran_live g.D.Disk g.B.HostObject c.args.budget requests c.self.inside.stopped c.self.inside.engine
    c.run_batch.new.engine c.self.inside.journal c.args.self.now found c.in-Ok.ensures.registered c.in-Ok.run'
    (c.in-Ok.ensures.runs found.live found.live_is) c.facts.ensures.registered

pub commit_record-requires-clause-room : goal.commit_record-requires-clause-room
commit_record-requires-clause-room g c =
    let requests = map batch_request_seen c.args.requests.now in
    let made = subst (λ (r : Request). MakesRoom g.D.Disk r c.args.self.now (Ok tt) c.make_room.new.self)
    c.adding_request.ensures.value c.in_ok-make_room.ensures.makes_room in
    let found = found_room g.D.Disk (adding_request requests) c.self.inside.stopped c.self.inside.engine
    c.self.inside.journal c.args.self.now c.make_room.new.self c.requires.live made c.self.view_is in
    ran_room g.D.Disk g.B.HostObject c.args.budget requests c.self.inside.stopped c.self.inside.engine
    c.run_batch.new.engine c.self.inside.journal c.args.self.now found c.in-Ok.ensures.registered c.in-Ok.run'
    (c.in-Ok.ensures.runs found.live found.live_is) c.facts.ensures.registered
    c.if-run-eq0.false c.make_room.new.self made c.self.view_is

pub commit_record-requires-clause-short : goal.commit_record-requires-clause-short
commit_record-requires-clause-short g c =
    let requests = map batch_request_seen c.args.requests.now in
    let made = subst (λ (r : Request). MakesRoom g.D.Disk r c.args.self.now (Ok tt) c.make_room.new.self)
    c.adding_request.ensures.value c.in_ok-make_room.ensures.makes_room in
    let found = found_room g.D.Disk (adding_request requests) c.self.inside.stopped c.self.inside.engine
    c.self.inside.journal c.args.self.now c.make_room.new.self c.requires.live made c.self.view_is in
    let ran = c.in-Ok.ensures.runs found.live found.live_is in
    subst (λ (bs : List ℕ). length bs < length_limit) (sym c.deref.ensures.value) ran.short

pub returns-in_err-commit_record : goal.returns-in_err-commit_record
returns-in_err-commit_record g c = record {
  handled =
      let requests = map batch_request_seen c.args.requests.now in
      let made = subst (λ (r : Request). MakesRoom g.D.Disk r c.args.self.now (Ok tt) c.make_room.new.self)
      c.adding_request.ensures.value c.in_ok-make_room.ensures.makes_room in
      let found = found_room g.D.Disk (adding_request requests) c.self.inside.stopped c.self.inside.engine
      c.self.inside.journal c.args.self.now c.make_room.new.self c.requires.live made c.self.view_is in
      let p = err_from_is_err_and c.from_residual-in_err-commit_record.result
      c.from_residual-in_err-commit_record.ensures.1 in
      rw (p.1, p.2) (committed_seen g.D.Disk g.B.HostObject c.args.budget requests c.self.inside.stopped
      c.self.inside.engine c.run_batch.new.engine c.self.inside.journal c.args.self.now found
      c.in-Ok.ensures.registered c.in-Ok.run' (c.in-Ok.ensures.runs found.live found.live_is)
      c.facts.ensures.registered c.if-run-eq0.false c.seq-seq.result (Err c.in_err-commit_record.field-0.0)
      c.commit_record.new.self
      (λ live is. record { boxes = c.facts.ensures.boxes live is; reached = c.facts.ensures.reached live is })
      (c.seq-seq.ensures.number found.live found.live_is)
      (rw c.deref.ensures.value at c.in_err-commit_record.ensures.commits));
}

pub returns : goal.returns
returns g c = record {
  handled =
      let requests = map batch_request_seen c.args.requests.now in
      let made = subst (λ (r : Request). MakesRoom g.D.Disk r c.args.self.now (Ok tt) c.make_room.new.self)
      c.adding_request.ensures.value c.in_ok-make_room.ensures.makes_room in
      let found = found_room g.D.Disk (adding_request requests) c.self.inside.stopped c.self.inside.engine
      c.self.inside.journal c.args.self.now c.make_room.new.self c.requires.live made c.self.view_is in
      committed_seen g.D.Disk g.B.HostObject c.args.budget requests c.self.inside.stopped c.self.inside.engine
      c.run_batch.new.engine c.self.inside.journal c.args.self.now found c.in-Ok.ensures.registered c.in-Ok.run'
      (c.in-Ok.ensures.runs found.live found.live_is) c.facts.ensures.registered c.if-run-eq0.false c.seq-seq.result
      (Ok tt) c.commit_record.new.self
      (λ live is. record { boxes = c.facts.ensures.boxes live is; reached = c.facts.ensures.reached live is })
      (c.seq-seq.ensures.number found.live found.live_is)
      (rw c.deref.ensures.value at c.in_ok-commit_record.ensures.commits);
}
