use Rattle.ash_durable.proofs.Requesting.{sees, ready_seen, commit_seen, commit_lost}
use Rattle.ash_durable.proofs.host.Host.commit.Goals as goal

pub returns-in-Ok : goal.returns-in-Ok
returns-in-Ok g c = record {
  commits =
      let engine = c.self.inside.engine in
      let old = c.self.inside.journal in
      let seen = sees c.self.inside.stopped engine old c.args.self.now c.requires.live c.self.view_is
      c.facts.ensures.registered in
      commit_seen c.self.inside.stopped engine old c.add_state.new.journal c.args.self.now seen g.D.Disk c.args.last
      c.in-Ok.ensures.adds;
}

pub returns-in-Err : goal.returns-in-Err
returns-in-Err g c = record {
  commits =
      let engine = c.self.inside.engine in
      let old = c.self.inside.journal in
      let seen = sees c.self.inside.stopped engine old c.args.self.now c.requires.live c.self.view_is
      c.facts.ensures.registered in
      commit_lost c.self.inside.stopped engine old c.add_state.new.journal c.args.self.now seen g.D.Disk c.args.last
      c.in-Err.refusal c.in-Err.ensures.adds;
}

pub invariant_of-self : goal.invariant_of-self
invariant_of-self g c =
    let engine = c.self.inside.engine in
    let old = c.self.inside.journal in
    let seen = sees c.self.inside.stopped engine old c.args.self.now c.requires.live c.self.view_is
    c.facts.ensures.registered in
    ready_seen c.self.inside.stopped engine old c.add_state.new.journal c.args.self.now seen
    ((c.in-Ok.ensures.adds seen.live seen.live_is).outcome.0)
