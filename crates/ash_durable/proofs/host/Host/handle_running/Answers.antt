use Rattle.std.proofs.Common.{Ok, Err}
use Rattle.std.proofs.lemmas.Bool.{iff_false}
use Rattle.std.proofs.lemmas.Result.{err_from_is_err_and}
use Rattle.ash_requests.specs.RequestViews.{request_seen}
use Rattle.ash_durable.proofs.Handling.{found_room, found_live, handled_live, handled_room, handled_other}
use Rattle.ash_durable.proofs.Handling.{handled_answer}
use Rattle.ash_durable.proofs.Handling.{handled_lost, handles_no_room}
use Rattle.ash_durable.proofs.host.Host.handle_running.Goals as goal

pub returns-in_err-make_room : goal.returns-in_err-make_room
returns-in_err-make_room g c = record {
  handles =
      let p = err_from_is_err_and c.from_residual.result c.from_residual.ensures.1 in
      rw (p.1, p.2) (handles_no_room g.D.Disk g.B.HostObject c.args.budget (request_seen c.args.request.now)
      c.args.self.now c.in_err-make_room.field-0.0 c.make_room.new.self c.requires.live
      c.in_err-make_room.ensures.makes_room);
}

pub returns-in-Err : goal.returns-in-Err
returns-in-Err g c = record {
  handles =
      let stopped = c.self.inside.stopped in
      let engine = c.self.inside.engine in
      let journal = c.self.inside.journal in
      let request = request_seen c.args.request.now in
      let found = found_room g.D.Disk request stopped engine journal c.args.self.now c.make_room.new.self
      c.requires.live c.in_ok-make_room.ensures.makes_room c.self.view_is in
      handled_lost g.D.Disk g.B.HostObject c.args.budget request stopped engine c.handle.new.self journal
      c.args.self.now found c.in-Err.ensures.registered c.seq-seq.result c.in-Err.field-0
      (c.in-Err.ensures.handled found.live found.live_is) (c.seq-seq.ensures.number found.live found.live_is);
}

pub seq-seq-requires : goal.seq-seq-requires
seq-seq-requires g c =
    let stopped = c.self.inside.stopped in
    let engine = c.self.inside.engine in
    let journal = c.self.inside.journal in
    let request = request_seen c.args.request.now in
    let found = found_room g.D.Disk request stopped engine journal c.args.self.now c.make_room.new.self
    c.requires.live c.in_ok-make_room.ensures.makes_room c.self.view_is in
    record { live = found_live found }

pub handle-requires : goal.handle-requires
handle-requires g c =
    let stopped = c.self.inside.stopped in
    let engine = c.self.inside.engine in
    let journal = c.self.inside.journal in
    let request = request_seen c.args.request.now in
    let found = found_room g.D.Disk request stopped engine journal c.args.self.now c.make_room.new.self
    c.requires.live c.in_ok-make_room.ensures.makes_room c.self.view_is in
    record { live = found_live found }

pub returns-then-not-is_answer : goal.returns-then-not-is_answer
returns-then-not-is_answer g c = record {
  handles =
      let stopped = c.self.inside.stopped in
      let engine = c.self.inside.engine in
      let journal = c.self.inside.journal in
      let request = request_seen c.args.request.now in
      let found = found_room g.D.Disk request stopped engine journal c.args.self.now c.make_room.new.self
      c.requires.live c.in_ok-make_room.ensures.makes_room c.self.view_is in
      handled_other g.D.Disk g.B.HostObject c.args.budget request stopped engine c.handle.new.self journal
      c.args.self.now found c.in-Ok.ensures.registered c.in-Ok.reply
      (c.in-Ok.ensures.handled found.live found.live_is) c.facts.ensures.registered
      (iff_false c.is_answer.ensures.exact c.if-not-is_answer.true);
}

pub commit-requires-clause-live : goal.commit-requires-clause-live
commit-requires-clause-live g c =
    let stopped = c.self.inside.stopped in
    let engine = c.self.inside.engine in
    let journal = c.self.inside.journal in
    let request = request_seen c.args.request.now in
    let found = found_room g.D.Disk request stopped engine journal c.args.self.now c.make_room.new.self
    c.requires.live c.in_ok-make_room.ensures.makes_room c.self.view_is in
    handled_live g.D.Disk g.B.HostObject c.args.budget request stopped engine c.handle.new.self journal
    c.args.self.now found c.in-Ok.ensures.registered c.in-Ok.reply
    (c.in-Ok.ensures.handled found.live found.live_is) c.facts.ensures.registered

pub commit-requires-clause-room : goal.commit-requires-clause-room
commit-requires-clause-room g c =
    let stopped = c.self.inside.stopped in
    let engine = c.self.inside.engine in
    let journal = c.self.inside.journal in
    let request = request_seen c.args.request.now in
    let found = found_room g.D.Disk request stopped engine journal c.args.self.now c.make_room.new.self
    c.requires.live c.in_ok-make_room.ensures.makes_room c.self.view_is in
    handled_room g.D.Disk g.B.HostObject c.args.budget request stopped engine c.handle.new.self journal
    c.args.self.now found c.in-Ok.ensures.registered c.in-Ok.reply
    (c.in-Ok.ensures.handled found.live found.live_is) c.facts.ensures.registered
    c.make_room.new.self c.in_ok-make_room.ensures.makes_room c.self.view_is
    (c.is_answer.ensures.exact.0 c.if-not-is_answer.false)

pub returns-in_err-commit : goal.returns-in_err-commit
returns-in_err-commit g c = record {
  handles =
      let stopped = c.self.inside.stopped in
      let engine = c.self.inside.engine in
      let journal = c.self.inside.journal in
      let request = request_seen c.args.request.now in
      let found = found_room g.D.Disk request stopped engine journal c.args.self.now c.make_room.new.self
      c.requires.live c.in_ok-make_room.ensures.makes_room c.self.view_is in
      let p = err_from_is_err_and c.from_residual-in_err-commit.result c.from_residual-in_err-commit.ensures.1 in
      rw (p.1, p.2) (handled_answer g.D.Disk g.B.HostObject c.args.budget request stopped engine c.handle.new.self
      journal c.args.self.now found c.in-Ok.ensures.registered c.in-Ok.reply
      (c.in-Ok.ensures.handled found.live found.live_is) c.facts.ensures.registered
      c.seq-seq.result (Err c.in_err-commit.field-0.0) c.commit.new.self
      (λ live is. record { boxes = c.facts.ensures.boxes live is; reached = c.facts.ensures.reached live is })
      (c.is_answer.ensures.exact.0 c.if-not-is_answer.false) (c.seq-seq.ensures.number found.live found.live_is)
      c.in_err-commit.ensures.commits);
}

pub returns : goal.returns
returns g c = record {
  handles =
      let stopped = c.self.inside.stopped in
      let engine = c.self.inside.engine in
      let journal = c.self.inside.journal in
      let request = request_seen c.args.request.now in
      let found = found_room g.D.Disk request stopped engine journal c.args.self.now c.make_room.new.self
      c.requires.live c.in_ok-make_room.ensures.makes_room c.self.view_is in
      handled_answer g.D.Disk g.B.HostObject c.args.budget request stopped engine c.handle.new.self journal
      c.args.self.now found c.in-Ok.ensures.registered c.in-Ok.reply
      (c.in-Ok.ensures.handled found.live found.live_is) c.facts.ensures.registered
      c.seq-seq.result (Ok tt) c.commit.new.self
      (λ live is. record { boxes = c.facts.ensures.boxes live is; reached = c.facts.ensures.reached live is })
      (c.is_answer.ensures.exact.0 c.if-not-is_answer.false) (c.seq-seq.ensures.number found.live found.live_is)
      c.in_ok-commit.ensures.commits;
}
