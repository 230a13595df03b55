use Rattle.ash_registry.specs.Refusals.{refusal_of_type}
use Rattle.ash_registry.specs.RegistryViews.{registered}
use Rattle.ash_registry.proofs.Verdicts.{for_name_class}
use Rattle.ash_registry.proofs.registry.Registry.object_type.Goals as goal

pub returns : goal.returns
returns c = record {
  registers =
      for_name_class c.args.name.now
      (λ s. refusal_of_type (registered c.args.self.now) c.args.name.now s c.args.kind) _ _ _ _ _
      c.in_ok-name_class.ensures.classified c.classified_type.ensures.registered;
}
