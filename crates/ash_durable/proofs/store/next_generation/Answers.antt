use Rattle.std.proofs.Common.{List, ℕ, sym, subst}
use Rattle.ash_image.specs.declared.version.Version.TheVariants.{Two}
use Rattle.ash_states.specs.Images.{IsImageIn}
use Rattle.ash_durable.proofs.store.next_generation.Goals as goal

pub returns-in-Ok-next_generation : goal.returns-in-Ok-next_generation
returns-in-Ok-next_generation g c = record {
  prepares = λ live is. (
    c.deref.result.now,
    subst (λ (bytes : List ℕ). IsImageIn Two bytes live.durable) (sym c.deref.ensures.value)
        (c.in-Ok.ensures.image live is),
    c.in-Ok-next_generation.ensures.next,
  );
}
