use Rattle.std.proofs.Common.{refl, sym, subst, ◌∙◌}
use Rattle.std.specs.Prelude.{IsSome}
use Rattle.ash_host.specs.Objects.{IsInOrder}
use Rattle.ash_slots.specs.SlotArrays.{refilled, lengthened}
use Rattle.ash_slots.proofs.Options.{some_if}
use Rattle.ash_objects.specs.Table.{Table}
use Rattle.ash_objects.proofs.Views.{in_view}
use Rattle.ash_objects.proofs.Refilling.{each_some, order_view, found_array, array_view, view_longer, table_longer}
use Rattle.ash_objects.proofs.Listed.{slot_within, listed_change, listed_covers}
use Rattle.ash_objects.proofs.objects.Objects.lengthen.Goals as goal

pub grow_elements-requires : goal.grow_elements-requires
grow_elements-requires g c = record {
  array = let l = c.self.inside.store.objects in
      let n = c.requires.array.0 in
      let at = rw (← c.self.view_is) at c.requires.array.1 in
      let a = found_array n l (rw (← c.self.view_is) at c.requires.array.2) in
      (n, in_view n c.args.slot l at, subst (λ v. IsSome v) (sym a.1) refl);
}

pub mark-requires : goal.mark-requires
mark-requires g c = record {
  within =
      let l = c.self.inside.store.objects in
      let at = rw (← c.self.view_is) at c.requires.array.1 in
      slot_within c.requires.array.0 c.args.slot l _ (in_view c.requires.array.0 c.args.slot l at) c.self.invariant.listed;
}

pub invariant_of-self-2 : goal.invariant_of-self-2
invariant_of-self-2 g c =
    let l = c.self.inside.store.objects in
    let n = c.requires.array.0 in
    let at = rw (← c.self.view_is) at c.requires.array.1 in
    let a = found_array n l (rw (← c.self.view_is) at c.requires.array.2) in
    let all = some_if _ _ a.0 a.1 (c.in_ok-grow_elements.ensures.grown n (in_view n c.args.slot l at)) in
    rw all (record {
      table = table_longer n c.args.len a.0 l _ _ c.self.invariant.table a.1 c.requires.short;
      listed =
          listed_change n c.args.slot (refilled (lengthened c.args.len a.0)) l _
          (λ p. refl) (in_view n c.args.slot l at) c.mark.ensures.listed
          (listed_covers l _ _ c.mark.ensures.covers c.self.invariant.listed);
    })

pub returns-clause-lengthened : goal.returns-clause-lengthened
returns-clause-lengthened g c = λ n is.
    let l = c.self.inside.store.objects in
    let at = rw (← c.self.view_is) at is in
    rw (← c.self.view_is) (each_some _ _ (λ array there.
    let a = sym (array_view n l) ∙ there in
    let all = some_if _ _ array a (c.in_ok-grow_elements.ensures.grown n (in_view n c.args.slot l at)) in
    rw (all, view_longer n c.args.len array l _ _ c.self.invariant.table a c.requires.short) refl))

pub returns-clause-in_order : goal.returns-clause-in_order
returns-clause-in_order g c =
    subst (λ (t : Table _). IsInOrder t.objects) c.self.view_is
    (order_view c.self.inside.store.objects c.self.invariant.table.in_order)

pub returns-in_err-grow_elements-clause-in_order : goal.returns-in_err-grow_elements-clause-in_order
returns-in_err-grow_elements-clause-in_order g c =
    subst (λ (t : Table _). IsInOrder t.objects) c.self.view_is
    (order_view c.self.inside.store.objects c.self.invariant.table.in_order)
