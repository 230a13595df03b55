use Rattle.ash_objects.proofs.Views.{in_view, place_view, word_view}
use Rattle.ash_objects.proofs.objects.Objects.field_at.Goals as goal

pub read_word-requires : goal.read_word-requires
read_word-requires g c = record {
  there = let at = rw (← c.self.view_is) at c.requires.there.1 in
      let there = rw (← c.self.view_is) at c.requires.there.2 in
      (c.requires.there.0, in_view c.requires.there.0 c.args.slot c.self.inside.store.objects at, place_view c.requires.there.0 c.args.place c.self.inside.store.objects there);
}

pub returns : goal.returns
returns g c = record {
  field = λ number is.
      let at = rw (← c.self.view_is) at is in
      rw (← c.self.view_is) (word_view number c.args.place c.self.inside.store.objects c.read_word.result (c.read_word.ensures.word number (in_view number c.args.slot c.self.inside.store.objects at)));
}
