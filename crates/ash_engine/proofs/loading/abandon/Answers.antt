use Rattle.std.proofs.Common.{◌≤◌, ℕ, List, sym, subst}
use Rattle.ash_host.specs.declared.word.Word.{Word}
use Rattle.ash_host.specs.Objects.{handles}
use Rattle.ash_objects.specs.Table.{holds_of}
use Rattle.ash_run_steps.specs.RunStates.{times}
use Rattle.ash_engine.proofs.loading.abandon.Goals as goal

pub release-requires : goal.release-requires
release-requires g c = record {
  held = subst (λ (words : List Word). (number : ℕ)
      → times number (handles words) ≤ holds_of number c.args.parts.table) (sym c.deref.ensures.value) c.requires.held;
}
