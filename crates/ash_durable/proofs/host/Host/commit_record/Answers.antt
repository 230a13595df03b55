use Rattle.ash_durable.proofs.RecordCommits.{record_kept_seen, record_lost_seen}
use Rattle.ash_durable.proofs.Requesting.{sees, ready_seen}
use Rattle.ash_durable.proofs.host.Host.commit_record.Goals as goal

pub returns-in-Ok : goal.returns-in-Ok
returns-in-Ok g c = record {
  commits =
      let engine = c.self.inside.engine in
      let old = c.self.inside.journal in
      let seen = sees c.self.inside.stopped engine old c.args.self.now c.requires.live c.self.view_is
      c.facts.ensures.registered in
      record_kept_seen g.D.Disk c.args.body.now c.self.inside.stopped engine old c.add_record.new.journal
      c.args.self.now seen c.args.last c.in-Ok.ensures.adds;
}

pub returns-in-Err : goal.returns-in-Err
returns-in-Err g c = record {
  commits =
      let engine = c.self.inside.engine in
      let old = c.self.inside.journal in
      let seen = sees c.self.inside.stopped engine old c.args.self.now c.requires.live c.self.view_is
      c.facts.ensures.registered in
      record_lost_seen g.D.Disk c.args.body.now c.self.inside.stopped engine old c.add_record.new.journal
      c.args.self.now seen c.args.last c.in-Err.refusal c.in-Err.ensures.adds;
}

pub invariant_of-self : goal.invariant_of-self
invariant_of-self g c =
    let engine = c.self.inside.engine in
    let old = c.self.inside.journal in
    let seen = sees c.self.inside.stopped engine old c.args.self.now c.requires.live c.self.view_is
    c.facts.ensures.registered in
    ready_seen c.self.inside.stopped engine old c.add_record.new.journal c.args.self.now seen
    c.in-Ok.ensures.adds.outcome.0
