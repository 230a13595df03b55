use Rattle.std.proofs.Common.{◌≡◌, ℕ, List, true, false, map, refl, sym, ap, ◌∙◌}
use Rattle.std.specs.List.{list_any}
use Rattle.std.specs.String.{string_bytes}
use Rattle.ash_registrations.specs.Registrations.{registration_of}
use Rattle.ash_registrations.specs.Registrations as spec
use Rattle.ash_registrations.proofs.Mapped.{any_mapped}
use Rattle.ash_registrations.proofs.searches.constructed_kind.Goals as goal

pub returns-then-any_is_factory_of : goal.returns-then-any_is_factory_of
returns-then-any_is_factory_of c =
    let has : list_any (spec.is_factory_of (string_bytes c.in-Type.name)) (map registration_of c.args.registrations.now) ≡ true =
    any_mapped (spec.is_factory_of (string_bytes c.in-Type.name)) registration_of c.args.registrations.now
    ∙ ap (λ (n : List ℕ). list_any (λ r. spec.is_factory_of n (registration_of r)) c.args.registrations.now) (sym c.deref.ensures)
    ∙ sym c.any_is_factory_of.ensures.value ∙ c.if-any_is_factory_of.true in
    record { value = rw (c.in-Type.is, has) refl }

pub returns-else-any_is_factory_of : goal.returns-else-any_is_factory_of
returns-else-any_is_factory_of c =
    let none : list_any (spec.is_factory_of (string_bytes c.in-Type.name)) (map registration_of c.args.registrations.now) ≡ false =
    any_mapped (spec.is_factory_of (string_bytes c.in-Type.name)) registration_of c.args.registrations.now
    ∙ ap (λ (n : List ℕ). list_any (λ r. spec.is_factory_of n (registration_of r)) c.args.registrations.now) (sym c.deref.ensures)
    ∙ sym c.any_is_factory_of.ensures.value ∙ c.if-any_is_factory_of.false in
    record { value = rw (c.in-Type.is, none) refl }
