use Rattle.std.proofs.Common.{map, sym, ap, ◌∙◌, subst}
use Rattle.ash_registry.specs.RegistryViews.{registered}
use Rattle.ash_image.specs.SnapshotViews.{services_in, modules_in, objects_in}
use Rattle.ash_states.specs.Writing.{HavePartKinds}
use Rattle.ash_table_states.specs.WrittenObjects.{listed_entries}
use Rattle.ash_table_states.proofs.Written.{written}
use Rattle.ash_table_states.proofs.writing.body_of.Goals as goal

pub body_by-requires-clause-listed : goal.body_by-requires-clause-listed
body_by-requires-clause-listed g c =
    written g.B.HostObject (registered c.args.registry.now) c.args.state.now c.requires.writable _ _ _
    c.deref.result.now (map (λ state. state.items) c.deref-2.result.now) (listed_entries c.deref-4.result.now)
    (ap services_in c.deref-6.ensures.value ∙ c.in_ok-services.ensures.written)
    (c.deref.ensures.value ∙ c.in_ok-kinds.ensures.in_order)
    (ap (λ saved. map (λ state. state.items) saved) c.deref-2.ensures.value
    ∙ c.in_ok-saved.ensures.states
    ∙ ap (map g.B.HostObject.state) c.services.ensures.services)
    c.in_ok-services.ensures.kinds
    (ap modules_in c.deref-7.ensures.value ∙ c.in_ok-modules.ensures.stored)
    (ap objects_in c.deref-8.ensures.value ∙ c.in_ok-objects.ensures.written)
    (ap listed_entries c.deref-4.ensures.value ∙ c.in_ok-listed.ensures.listed)
    (subst HavePartKinds (sym c.deref-8.ensures.value) c.in_ok-objects.ensures.kinds)
