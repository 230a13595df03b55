use Rattle.std.proofs.Common.{ap}
use Rattle.ash_registry.specs.RegistryViews.{registered}
use Rattle.ash_engine.specs.LiveStates.{EngineState, begin}
use Rattle.ash_durable.proofs.store.prepare_first.Goals as goal

pub returns : goal.returns
returns g c = record {
  prepares_first =
      let live = begin g.B.HostObject (registered c.args.registry) c.args.pool.items c.args.services.items in
      let is = ap (λ (e : EngineState g.row.B.Denot). e.live) c.in-Ok.ensures.begun in
      let closed = c.in_ok-find_closed.ensures.finds_closed in
      record {
        prepares = (
          c.in-Ok.ensures.has,
          c.in-Ok.ensures.begun,
          record { boxes = c.facts.ensures.boxes live is; reached = c.facts.ensures.reached live is },
          c.in-Ok-image.ensures.image live is,
          c.in-Ok-image.ensures.short,
          closed.finds,
        );
        read = closed.read;
        disks = closed.disks;
      };
}
