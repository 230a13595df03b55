use Rattle.std.proofs.Common.{arith, nat_le, count_by}
use Rattle.std.proofs.lemmas.Bool.Decides.{nat_tests}
use Rattle.ash_registry.specs.declared.fault.RegistryFault.TheVariants.{NoService}
use Rattle.ash_registrations.specs.Registrations.{is_service}
use Rattle.ash_registry.specs.Refusals.{refusal_of_declared_function, function_registration}
use Rattle.ash_registry.specs.RegistryViews.{registered}
use Rattle.ash_registry.proofs.Verdicts.{for_declared}
use Rattle.ash_registry.proofs.registry.Registry.function.Goals as goal

pub returns-clause-registers : goal.returns-clause-registers
returns-clause-registers c =
    for_declared c.args.decl.now (nat_le (count_by is_service (registered c.args.self.now)) c.args.service) NoService
    (refusal_of_declared_function (registered c.args.self.now) c.args.service c.args.id)
    (function_registration c.args.service c.args.id) _ _ _ _ c.in_ok-declared.ensures.declared
    (grind (arith, nat_tests))
    c.function_of_declaration.ensures.registered
