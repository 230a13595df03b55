use Rattle.ash_registry.specs.RegistryViews.{registered}
use Rattle.ash_durable.proofs.Opened.{opened_found}
use Rattle.ash_durable.proofs.host.Host.open.Goals as goal

pub returns : goal.returns
returns g c = record {
  opened = opened_found g.D.Disk g.B.HostObject g.met.D.Disk.seen_may_stay c.args.pool.items c.args.services.items
      (registered c.args.registry) c.args.a c.args.b c.in_ok-found.found c.in_ok-found.ensures.opens_state;
}
