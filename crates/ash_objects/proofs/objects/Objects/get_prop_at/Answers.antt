use Rattle.std.proofs.Common.{◌∙◌}
use Rattle.ash_objects.proofs.Views.{in_view}
use Rattle.ash_objects.proofs.Boxes.{some_box, box_view}
use Rattle.ash_objects.proofs.objects.Objects.get_prop_at.Goals as goal

pub box_in-requires : goal.box_in-requires
box_in-requires g c = record {
  host = let l = c.self.inside.store.objects in
      let at = rw (← c.self.view_is) at c.requires.host.1 in
      let some = rw (← c.self.view_is) at c.requires.host.2 in
      (c.requires.host.0, in_view c.requires.host.0 c.args.slot l at, some_box c.requires.host.0 l some);
}

pub returns : goal.returns
returns g c = record {
  allowed = λ number is.
      let l = c.self.inside.store.objects in
      let at = rw (← c.self.view_is) at is in
      rw (← c.self.view_is, box_view number l ∙ c.box_in.ensures.stored number (in_view number c.args.slot l at)) c.get.ensures.allowed;
}
