use Rattle.ash_registry.specs.RegistryViews.{registered}
use Rattle.ash_durable.specs.OpenedStore.{NotFound}
use Rattle.ash_durable.proofs.Finding.{finds, not_opened}
use Rattle.ash_durable.proofs.store.find.Goals as goal

pub returns-in-Ok : goal.returns-in-Ok
returns-in-Ok g c = record {
  opens_state =
      let e = c.in-Ok.ensures in
      finds g.D.Disk g.B.HostObject (registered c.args.registry) c.args.pool.items c.args.services.items c.args.a
      c.args.b c.in-Ok.opened c.settle.result
      (record {
        holds = λ honest. e.found honest.honest_first honest.honest_second;
        placed = λ honest. e.offsets honest.honest_first honest.honest_second;
        represents = λ honest. e.represented honest.honest_first honest.honest_second;
        extends = λ honest. e.extends honest.honest_first honest.honest_second;
        sound = e.sound;
        read = record { read_first = e.first_read; read_second = e.second_read };
        counts = e.cause;
      })
      c.settle.ensures.settled;
}

pub returns-in-Err : goal.returns-in-Err
returns-in-Err g c = record {
  opens_state =
      let e = c.in-Err.ensures in
      NotFound (not_opened g.D.Disk g.B.HostObject (registered c.args.registry) c.args.pool.items c.args.services.items
      c.args.a c.args.b c.in-Err.refused.first c.in-Err.refused.second c.in-Err.refused.fault c.into.result
      c.into.ensures
      (λ honest. e.fault honest.honest_first honest.honest_second)
      (λ honest. e.extends honest.honest_first honest.honest_second)
      e.first_read e.second_read e.cause);
}

pub settle-requires : goal.settle-requires
settle-requires g c = record { not_failed = c.in-Ok.ensures.sound }
