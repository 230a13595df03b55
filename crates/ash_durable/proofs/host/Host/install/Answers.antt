use Rattle.std.proofs.Common.{sym, subst}
use Rattle.ash_journal.specs.declared.journal.Journal.{Journal}
use Rattle.ash_durable.specs.Hosting.{IsReadyUnless}
use Rattle.ash_durable.proofs.Requesting.{sees, ready_seen, install_seen, install_put_off, install_lost, unchanged_for}
use Rattle.ash_durable.proofs.host.Host.install.Goals as goal

pub returns-in-Ok : goal.returns-in-Ok
returns-in-Ok g c = record {
  tries_install =
      let engine = c.self.inside.engine in
      let old = c.self.inside.journal in
      let seen = sees c.self.inside.stopped engine old c.args.self.now c.requires.live c.self.view_is
      c.facts.ensures.registered in
      install_seen c.self.inside.stopped engine old c.install_state.new.journal c.args.self.now seen g.D.Disk
      c.in-Ok.ensures.installs;
}

pub returns-in-DeviceFailed : goal.returns-in-DeviceFailed
returns-in-DeviceFailed g c = record {
  tries_install =
      let engine = c.self.inside.engine in
      let old = c.self.inside.journal in
      let seen = sees c.self.inside.stopped engine old c.args.self.now c.requires.live c.self.view_is
      c.facts.ensures.registered in
      install_lost c.self.inside.stopped engine old c.install_state.new.journal c.args.self.now seen g.D.Disk
      c.seq.result c.seq.ensures.number (rw c.in-DeviceFailed.is at c.in-Err.ensures.installs);
}

pub returns-in_default : goal.returns-in_default
returns-in_default g c = record {
  tries_install =
      let engine = c.self.inside.engine in
      let old = c.self.inside.journal in
      let seen = sees c.self.inside.stopped engine old c.args.self.now c.requires.live c.self.view_is
      c.facts.ensures.registered in
      install_put_off c.self.inside.stopped engine old c.install_state.new.journal c.args.self.now seen g.D.Disk
      c.in-Err.refusal c.in_default.not-DeviceFailed c.in-Err.ensures.installs;
}

pub invariant_of-self : goal.invariant_of-self
invariant_of-self g c =
    let engine = c.self.inside.engine in
    let old = c.self.inside.journal in
    let seen = sees c.self.inside.stopped engine old c.args.self.now c.requires.live c.self.view_is
    c.facts.ensures.registered in
    ready_seen c.self.inside.stopped engine old c.install_state.new.journal c.args.self.now seen
    ((c.in-Ok.ensures.installs seen.live seen.live_is).outcome.0)

pub invariant_of-self-in_default : goal.invariant_of-self-in_default
invariant_of-self-in_default g c =
    let stopped = c.self.inside.stopped in
    let engine = c.self.inside.engine in
    let old = c.self.inside.journal in
    let seen = sees stopped engine old c.args.self.now c.requires.live c.self.view_is c.facts.ensures.registered in
    let same = unchanged_for c.in-Err.refusal old c.install_state.new.journal c.in_default.not-DeviceFailed
    ((c.in-Err.ensures.installs seen.live seen.live_is).outcome) in
    subst (λ (j : Journal g.row.D.Denot). IsReadyUnless stopped engine.live j) (sym same) c.self.invariant
