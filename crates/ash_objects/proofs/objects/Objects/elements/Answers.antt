use Rattle.std.proofs.Common.{sym, subst, ap, ◌∙◌, Option, Some, List}
use Rattle.std.specs.Prelude.{IsSome}
use Rattle.ash_host.specs.declared.word.Word.{Word}
use Rattle.ash_objects.specs.Arrays.{elements_of}
use Rattle.ash_objects.proofs.Views.{in_view}
use Rattle.ash_objects.proofs.Refilling.{elements_view}
use Rattle.ash_objects.proofs.objects.Objects.elements.Goals as goal

pub item-requires : goal.item-requires
item-requires g c = record {
  occupied = let at = rw (← c.self.view_is) at c.requires.has_elements_in.1 in
      (c.requires.has_elements_in.0, in_view c.requires.has_elements_in.0 c.args.slot c.self.inside.store.objects at);
}

pub unreachable-requires : goal.unreachable-requires
unreachable-requires g c =
    let l = c.self.inside.store.objects in
    let here = in_view c.requires.has_elements_in.0 c.args.slot l (rw (← c.self.view_is) at c.requires.has_elements_in.1) in
    let some = rw (← c.self.view_is) at c.requires.has_elements_in.2 in
    let is = elements_view c.requires.has_elements_in.0 l c.item.result.now (c.item.ensures.value c.requires.has_elements_in.0 here) ∙ ap elements_of c.in-Script.is in
    let none = subst (λ (v : Option (List Word)). IsSome v) is some in
    absurd (cc)

pub unreachable-requires-in-Host : goal.unreachable-requires-in-Host
unreachable-requires-in-Host g c =
    let l = c.self.inside.store.objects in
    let here = in_view c.requires.has_elements_in.0 c.args.slot l (rw (← c.self.view_is) at c.requires.has_elements_in.1) in
    let some = rw (← c.self.view_is) at c.requires.has_elements_in.2 in
    let is = elements_view c.requires.has_elements_in.0 l c.item.result.now (c.item.ensures.value c.requires.has_elements_in.0 here) ∙ ap elements_of c.in-Host.is in
    let none = subst (λ (v : Option (List Word)). IsSome v) is some in
    absurd (cc)

pub returns : goal.returns
returns g c = record {
  value =
      λ number is.
      let l = c.self.inside.store.objects in
      let here = in_view number c.args.slot l (rw (← c.self.view_is) at is) in
      let same = elements_view number l c.item.result.now (c.item.ensures.value number here) ∙ ap elements_of c.in-Array.is in
      rw (← c.self.view_is) (same ∙ ap Some (sym c.as_slice.ensures.words));
}
