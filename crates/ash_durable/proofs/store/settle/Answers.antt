use Rattle.std.proofs.Common.{◌∙◌, inl, subst}
use Rattle.ash_registry.specs.RegistryViews.{registered}
use Rattle.ash_image.specs.declared.version.Version.{Version}
use Rattle.ash_replay.specs.ReplayedStates.{AreIn}
use Rattle.ash_durable.specs.OpenedStore.{contents_of}
use Rattle.ash_durable.proofs.OpenedJournals.{read_as, fault_as, not_read, not_revived, moved_by, settles_one}
use Rattle.ash_durable.proofs.OpenedJournals.{settles_two}
use Rattle.ash_durable.proofs.store.settle.Goals as goal

pub returns-in-Err : goal.returns-in-Err
returns-in-Err g c = record {
  settled =
      let with_it = registered c.args.registry in
      inl (not_read g.D.Disk g.B.HostObject with_it c.args.pool.items c.args.services.items c.args.opened
      c.in-Err.fault c.refusal_of.result (c.refusal_of.ensures.fault ∙ c.into.ensures) c.refusal_of.ensures.a
      c.refusal_of.ensures.b
      (fault_as c.args.opened with_it c.in-Err.fault c.deref.result.now c.deref-2.result.now c.deref.ensures.value
      c.deref-2.ensures.value c.in-Err.ensures.fault));
}

pub returns-in-Err-revive : goal.returns-in-Err-revive
returns-in-Err-revive g c = record {
  settled =
      let with_it = registered c.args.registry in
      let opened = c.args.opened in
      let read = c.in-Ok.read in
      let reads = read_as opened with_it read c.deref.result.now c.deref-2.result.now c.deref.ensures.value
      c.deref-2.ensures.value c.in-Ok.ensures.read in
      let refused = c.refusal_of-in-Err-revive in
      inl (not_revived g.D.Disk g.B.HostObject with_it c.args.pool.items c.args.services.items opened read.state
      c.in-Err-revive.fault refused.result reads.registered_is (λ placed. reads.is_state)
      refused.ensures.fault refused.ensures.a refused.ensures.b c.in-Err-revive.ensures.revives);
}

pub returns-in-One : goal.returns-in-One
returns-in-One g c = record {
  settled =
      let with_it = registered c.args.registry in
      let opened = c.args.opened in
      let read = c.in-Ok.read in
      let reads = read_as opened with_it read c.deref.result.now c.deref-2.result.now c.deref.ensures.value
      c.deref-2.ensures.value c.in-Ok.ensures.read in
      let lives = c.in-Ok-revive.ensures.revives in
      settles_one g.D.Disk g.B.HostObject with_it c.args.pool.items c.args.services.items opened read.state
      c.in-Ok-revive.engine c.upgrade.result reads.registered_is lives
      (λ placed.
      (reads.is_state, subst (λ (v : Version). AreIn v (contents_of opened)) c.in-One.is reads.in_version))
      (moved_by g.D.Disk g.B.HostObject read.state c.args.pool.items c.args.services.items c.in-Ok-revive.engine
      opened.journal c.upgrade.result lives c.upgrade.ensures.moves);
}

pub returns : goal.returns
returns g c = record {
  settled =
      let with_it = registered c.args.registry in
      let opened = c.args.opened in
      let read = c.in-Ok.read in
      let reads = read_as opened with_it read c.deref.result.now c.deref-2.result.now c.deref.ensures.value
      c.deref-2.ensures.value c.in-Ok.ensures.read in
      settles_two g.D.Disk g.B.HostObject with_it c.args.pool.items c.args.services.items opened read.state
      c.in-Ok-revive.engine c.repair.result reads.registered_is c.in-Ok-revive.ensures.revives
      (λ placed.
      (reads.is_state, subst (λ (v : Version). AreIn v (contents_of opened)) c.in-Two.is reads.in_version))
      c.repair.ensures.repairs;
}
