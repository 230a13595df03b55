use Rattle.std.proofs.Common.{rules, ◌≡◌, ◌≤◌, map, length}
use Rattle.std.proofs.lemmas.List.{length-map}
use Rattle.ash_registry.specs.RegistryViews.{registered}
use Rattle.ash_image.specs.Image.{max_services}
use Rattle.ash_states.specs.HostStates.{service_kinds}
use Rattle.ash_states.proofs.Admitted.{first_admitted, first_held}
use Rattle.ash_states.proofs.state.HostState.new.Goals as goal

pub invariant_of-result : goal.invariant_of-result
invariant_of-result c =
    let registrations = registered c.args.registry in
    let states = map (λ state. state.items) c.args.services.items in
    let many : length states ≡ length c.args.services.items = length-map c.args.services.items (λ state. state.items) in
    let served : length states ≡ length (service_kinds registrations) = search rules in
    let few : length states ≤ max_services = search rules in
    first_held registrations states c.new.result (first_admitted registrations states served few c.requires.fit) c.new.ensures.is_empty c.new.ensures.no_modules
