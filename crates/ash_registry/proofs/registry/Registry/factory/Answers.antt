use Rattle.std.proofs.Common.{arith, not}
use Rattle.std.proofs.lemmas.Bool.Decides.{nat_tests}
use Rattle.ash_registry.specs.declared.fault.RegistryFault.TheVariants.{UnknownType}
use Rattle.ash_registry.specs.Refusals.{is_known, refusal_of_declared_factory, factory_registration}
use Rattle.ash_registry.specs.RegistryViews.{registered}
use Rattle.ash_registry.proofs.Verdicts.{for_declared}
use Rattle.ash_registry.proofs.registry.Registry.factory.Goals as goal

pub returns-clause-registers : goal.returns-clause-registers
returns-clause-registers c =
    for_declared c.args.decl.now (not (is_known (registered c.args.self.now) c.args.of.now)) UnknownType
    (refusal_of_declared_factory (registered c.args.self.now) c.args.of.now)
    (factory_registration c.args.of.now) _ _ _ _
    c.in_ok-declared.ensures.declared (grind (arith, nat_tests)) c.factory_of_declaration.ensures.registered
