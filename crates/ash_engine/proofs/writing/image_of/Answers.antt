use Rattle.std.proofs.Common.{ap, ◌∙◌, subst}
use Rattle.std.specs.Prelude.{IfOk}
use Rattle.ash_registry.specs.RegistryViews.{registered}
use Rattle.ash_image.specs.declared.version.Version.TheVariants.{Two}
use Rattle.ash_states.specs.HostStates.{HostState}
use Rattle.ash_states.specs.Images.{IsImageIn}
use Rattle.ash_engine.specs.TableStates.{slots_of}
use Rattle.ash_engine.proofs.WrittenLives.{same, writable}
use Rattle.ash_engine.proofs.writing.image_of.Goals as goal

pub image_of-requires : goal.image_of-requires
image_of-requires g c = record {
  writable = writable g.B.HostObject (registered c.args.registry.now) c.args.live.now c.table_state.result
      c.table_state.ensures.modules
      (c.table_state.ensures.slots ∙ c.deref-2.ensures.value ∙ c.in_ok-slots.ensures.slots ∙ ap slots_of c.deref.ensures.value)
      c.table_state.ensures.table c.table_state.ensures.seq c.requires.live c.table_state.ensures.last;
}

pub returns-clause-image : goal.returns-clause-image
returns-clause-image g c =
    subst (λ (s : HostState). IfOk c.image_of.result (λ image. IsImageIn Two image.items s))
    (same g.B.HostObject (registered c.args.registry.now) c.args.live.now c.table_state.result
    c.table_state.ensures.modules
    (c.table_state.ensures.slots ∙ c.deref-2.ensures.value ∙ c.in_ok-slots.ensures.slots ∙ ap slots_of c.deref.ensures.value)
    c.table_state.ensures.table c.table_state.ensures.seq)
    c.image_of.ensures.image
