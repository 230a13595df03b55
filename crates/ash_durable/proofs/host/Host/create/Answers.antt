use Rattle.ash_registry.specs.RegistryViews.{registered}
use Rattle.ash_durable.proofs.Opened.{created_made}
use Rattle.ash_durable.proofs.host.Host.create.Goals as goal

pub returns : goal.returns
returns g c = record {
  created = created_made g.D.Disk g.B.HostObject (registered c.args.registry) c.args.pool.items c.args.services.items
      c.args.a c.args.b c.in_ok-made.made c.in_ok-made.ensures.makes;
}
