use Rattle.std.proofs.Common.{List, subst}
use Rattle.ash_registry.specs.AcceptedRegistrations.{Registration}
use Rattle.ash_registry.specs.RegistryViews.{registered}
use Rattle.ash_durable.specs.Hosting.{first, second}
use Rattle.ash_durable.specs.OpenedStore.{Opens}
use Rattle.ash_durable.proofs.Opened.{opens_again}
use Rattle.ash_durable.proofs.host.Host.reopen.Goals as goal

pub returns-clause-opens : goal.returns-clause-opens
returns-clause-opens g c =
    let device = g.D.Disk in
    let parts = c.into_parts-registry.result in
    subst (λ (r : List Registration). Opens device g.B.HostObject r c.args.pool.items c.args.services.items
    (first c.args.self) (second c.args.self) c.open.result)
    c.into_parts-registry.ensures.registry
    (subst (λ (a : g.row.D.Denot). Opens device g.B.HostObject (registered parts.0) c.args.pool.items
    c.args.services.items a (second c.args.self) c.open.result)
    c.into_parts-registry.ensures.first
    (subst (λ (b : g.row.D.Denot). Opens device g.B.HostObject (registered parts.0) c.args.pool.items
    c.args.services.items parts.1 b c.open.result)
    c.into_parts-registry.ensures.second c.open.ensures.opened))

pub returns-clause-again : goal.returns-clause-again
returns-clause-again g c =
    let device = g.D.Disk in
    let parts = c.into_parts-registry.result in
    opens_again device g.B.HostObject g.met.D.Disk.seen_may_stay c.args.pool.items c.args.services.items c.args.self
    c.open.result
    c.facts.ensures.sound
    (subst (λ (r : List Registration). Opens device g.B.HostObject r c.args.pool.items c.args.services.items
    (first c.args.self) (second c.args.self) c.open.result)
    c.into_parts-registry.ensures.registry
    (subst (λ (a : g.row.D.Denot). Opens device g.B.HostObject (registered parts.0) c.args.pool.items
    c.args.services.items a (second c.args.self) c.open.result)
    c.into_parts-registry.ensures.first
    (subst (λ (b : g.row.D.Denot). Opens device g.B.HostObject (registered parts.0) c.args.pool.items
    c.args.services.items parts.1 b c.open.result)
    c.into_parts-registry.ensures.second c.open.ensures.opened)))
