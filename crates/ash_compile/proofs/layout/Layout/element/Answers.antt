use Rattle.std.proofs.Common.{ℕ, List, sym, ap, ◌∙◌, subst}
use Rattle.std.specs.Prelude.{slice_get}
use Rattle.ash_host.specs.Objects.{Handles}
use Rattle.ash_meaning.specs.Classes.{place_of_class, place_of_interface, element_of}
use Rattle.ash_soundness.specs.WellFormed.{IsNamed}
use Rattle.ash_object_ranks.specs.ShownTables.{elements_shown}
use Rattle.ash_compile.proofs.layout.Layout.element.Goals as goal

pub returns-in-Class : goal.returns-in-Class
returns-in-Class c = record {
  element = λ names slot p layout named has.
      let place = place_of_class p.tree c.in-Class.class in
      ap (elements_shown names) (c.handles.ensures.handles place
      (c.place_in.ensures.place ∙ ap (λ (xs : List ℕ). slice_get xs c.in-Class.class) c.deref.ensures.value
      ∙ layout.classes c.in-Class.class (subst (IsNamed p.tree) c.in-Class.is has)))
      ∙ ap (λ (n : ℕ). Handles (names n) place) layout.slot ∙ ap (λ (owner : List ℕ). Handles owner place) named
      ∙ sym (ap (element_of p) c.in-Class.is);
}

pub returns-in-Interface : goal.returns-in-Interface
returns-in-Interface c = record {
  element = λ names slot p layout named has.
      let place = place_of_interface p.tree c.in-Interface.interface in
      ap (elements_shown names) (c.handles-in-Interface.ensures.handles place
      (c.place_in-in-Interface.ensures.place
      ∙ ap (λ (xs : List ℕ). slice_get xs c.in-Interface.interface) c.deref-in-Interface.ensures.value
      ∙ layout.interfaces c.in-Interface.interface (subst (IsNamed p.tree) c.in-Interface.is has)))
      ∙ ap (λ (n : ℕ). Handles (names n) place) layout.slot ∙ ap (λ (owner : List ℕ). Handles owner place) named
      ∙ sym (ap (element_of p) c.in-Interface.is);
}
