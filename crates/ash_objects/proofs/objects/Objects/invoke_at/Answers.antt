use Rattle.std.proofs.Common.{◌∙◌, refl}
use Rattle.ash_host.specs.declared.event.Target.TheVariants.{Object}
use Rattle.ash_slots.specs.SlotResponses.{boxed}
use Rattle.ash_objects.proofs.Views.{in_view}
use Rattle.ash_objects.proofs.Boxes.{some_box, table_box, view_box, box_view, called_is}
use Rattle.ash_objects.proofs.Listed.{slot_within, listed_change, listed_covers}
use Rattle.ash_objects.proofs.objects.Objects.invoke_at.Goals as goal

pub mark-requires : goal.mark-requires
mark-requires g c = record {
  within =
      let at = rw (← c.self.view_is) at c.requires.host.1 in
      slot_within c.requires.host.0 c.args.slot c.self.inside.store.objects _ (in_view c.requires.host.0 c.args.slot c.self.inside.store.objects at) c.self.invariant.listed;
}

pub invoke_in-answer-requires : goal.invoke_in-answer-requires
invoke_in-answer-requires g c = record {
  host = let l = c.self.inside.store.objects in
      let at = rw (← c.self.view_is) at c.requires.host.1 in
      let some = rw (← c.self.view_is) at c.requires.host.2 in
      (c.requires.host.0, in_view c.requires.host.0 c.args.slot l at, some_box c.requires.host.0 l some);
}

pub invariant_of-self : goal.invariant_of-self
invariant_of-self g c =
    let l = c.self.inside.store.objects in
    let at = rw (← c.self.view_is) at c.requires.host.1 in
    let a = c.invoke_in-answer.ensures.answered c.requires.host.0 (in_view c.requires.host.0 c.args.slot l at) in
    rw a.becomes (record {
      table = table_box c.requires.host.0 l _ _ a.before a.after c.self.invariant.table a.was;
      listed =
          listed_change c.requires.host.0 c.args.slot (boxed a.after) l _
          (λ p. refl) (in_view c.requires.host.0 c.args.slot l at) c.mark.ensures.listed
          (listed_covers l _ _ c.mark.ensures.covers c.self.invariant.listed);
    })

pub returns-in-NoMemory-clause-answered : goal.returns-in-NoMemory-clause-answered
returns-in-NoMemory-clause-answered g c = λ number is.
    let l = c.self.inside.store.objects in
    let at = rw (← c.self.view_is) at is in
    let a = c.invoke_in-answer.ensures.answered number (in_view number c.args.slot l at) in
    record {
      before = a.before;
      after = a.after;
      was = rw (← c.self.view_is) (box_view number l ∙ a.was);
      responds = a.responds;
      becomes =
          rw (
            ← c.self.view_is,
            a.becomes,
            view_box number l a.before a.after c.self.invariant.table.in_order
                c.self.invariant.table.counted a.was,
          ) refl;
    }

pub invariant_of-self-2 : goal.invariant_of-self-2
invariant_of-self-2 g c =
    let l = c.self.inside.store.objects in
    let at = rw (← c.self.view_is) at c.requires.host.1 in
    let a = c.invoke_in-answer.ensures.answered c.requires.host.0 (in_view c.requires.host.0 c.args.slot l at) in
    rw a.becomes (record {
      table = table_box c.requires.host.0 l _ _ a.before a.after c.self.invariant.table a.was;
      listed =
          listed_change c.requires.host.0 c.args.slot (boxed a.after) l _
          (λ p. refl) (in_view c.requires.host.0 c.args.slot l at) c.mark.ensures.listed
          (listed_covers l _ _ c.mark.ensures.covers c.self.invariant.listed);
    })

pub returns : goal.returns
returns g c = record {
  answered = λ number is.
      let l = c.self.inside.store.objects in
      let at = rw (← c.self.view_is) at is in
      let a = c.invoke_in-answer.ensures.answered number (in_view number c.args.slot l at) in
      record {
        before = a.before;
        after = a.after;
        was = rw (← c.self.view_is) (box_view number l ∙ a.was);
        responds = a.responds;
        becomes =
            rw (
              ← c.self.view_is,
              a.becomes,
              view_box number l a.before a.after c.self.invariant.table.in_order
                  c.self.invariant.table.counted a.was,
            ) refl;
      };
  called =
      λ number is. rw (
        c.push_reserved.ensures.items,
        c.reserve.ensures.items,
        c.number-number.ensures.number number is,
        called_is (Object number) c.args.method c.invoke_in-answer.result c.in_default.not-NoMemory,
      ) refl;
  unchanged = tt;
  no_event = tt;
  no_room = tt;
}
