use Rattle.ash_objects.proofs.Views.{in_view}
use Rattle.ash_objects.proofs.objects.Objects.number.Goals as goal

pub number-requires : goal.number-requires
number-requires g c = record {
  occupied = let at = rw (← c.self.view_is) at c.requires.lives.1 in
      (c.requires.lives.0, in_view c.requires.lives.0 c.args.slot c.self.inside.store.objects at);
}

pub returns : goal.returns
returns g c = record {
  number = λ number is.
      let at = rw (← c.self.view_is) at is in
      c.number.ensures.number number (in_view number c.args.slot c.self.inside.store.objects at);
}
