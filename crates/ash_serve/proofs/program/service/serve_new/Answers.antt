use Rattle.std.proofs.Common.{refl}
use Rattle.ash_registry.specs.RegistryViews.{registered}
use Rattle.ash_durable.specs.Store.{Creates}
use Rattle.ash_serve.specs.Service.{service_remains, service_start}
use Rattle.ash_serve.proofs.ServiceLemmas.{serves_from, serves_refused}
use Rattle.ash_serve.proofs.program.service.serve_new.Goals as goal

pub returns-in-Ok : goal.returns-in-Ok
returns-in-Ok g c = record {
  serves = serves_from g.D.Disk g.B.HostObject c.args.service.budget (service_start (Creates g.D.Disk g.B.HostObject (registered c.args.service.registry) c.args.service.pool.items c.args.service.services.items c.args.service.a c.args.service.b) (g.R.Read.remaining c.args.reader) (g.W.Write.contents c.args.writer.now)) c.in-Ok.host c.serve_host.result.end (service_remains c.serve_host.result.a c.serve_host.result.b (g.W.Write.contents c.serve_host.new.writer)) c.in-Ok.ensures.created c.serve_host.ensures.serves;
}

pub returns-in-Err : goal.returns-in-Err
returns-in-Err g c =
    let e = c.end_without_host.ensures in record {
      serves = serves_refused g.D.Disk g.B.HostObject c.args.service.budget (service_start (Creates g.D.Disk g.B.HostObject (registered c.args.service.registry) c.args.service.pool.items c.args.service.services.items c.args.service.a c.args.service.b) (g.R.Read.remaining c.args.reader) (g.W.Write.contents c.args.writer.now)) c.in-Err.refused c.end_without_host.result.end (service_remains c.end_without_host.result.a c.end_without_host.result.b (g.W.Write.contents c.args.writer.now)) e.end e.a e.b refl c.in-Err.ensures.created;
    }
