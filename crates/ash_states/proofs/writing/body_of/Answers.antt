use Rattle.std.proofs.Common.{ℕ, List, sym, subst}
use Rattle.std.specs.List.{AllByRecursion}
use Rattle.ash_host.specs.Objects.{Plain}
use Rattle.ash_registry.specs.RegistryViews.{registered}
use Rattle.ash_plain_steps.specs.declared.state.LoadedModule as code_module
use Rattle.ash_plain_steps.specs.StateViews.{modules_seen}
use Rattle.ash_states.specs.Holding.{held_with}
use Rattle.ash_states.specs.Indexes.{IsPlainIndexed}
use Rattle.ash_states.proofs.Depicted.{all_indexed}
use Rattle.ash_states.proofs.writing.body_of.Goals as goal

pub object_parts-requires : goal.object_parts-requires
object_parts-requires c = record {
  indexed = subst (λ (ms : List code_module.LoadedModule). AllByRecursion (λ (e : ℕ × Plain (List ℕ)). IsPlainIndexed (modules_seen ms) e.1) c.args.state.now.objects)
      (sym c.deref-4.ensures.value) (all_indexed (held_with (registered c.args.registry.now) c.args.state.now) c.requires.held.admitted);
}
