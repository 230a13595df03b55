use Rattle.std.proofs.Common.{rules, ◌≡◌, map, ap, ◌∙◌}
use Rattle.ash_registry.specs.RegistryViews.{registered}
use Rattle.ash_states.specs.HostStates.{service_kinds}
use Rattle.ash_engine.specs.LiveStates.{services_for}
use Rattle.ash_engine.specs.RestoredBoxes.{HasServices}
use Rattle.ash_engine.proofs.Served.{kinds_served}
use Rattle.ash_engine.proofs.boxes.take_services.Goals as goal

pub returns-clause-kinds : goal.returns-clause-kinds
returns-clause-kinds g c =
    let registrations = registered c.args.registry.now in
    let taken : c.truncate.new.self.items ≡ services_for registrations c.args.services.items = search rules in
    let has : HasServices g.B.HostObject registrations c.args.services.items = search rules in
    ap (map g.B.HostObject.kind_of) taken ∙ kinds_served g.B.HostObject (service_kinds registrations) c.args.services.items has
