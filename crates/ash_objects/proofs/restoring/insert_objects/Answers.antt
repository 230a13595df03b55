use Rattle.std.proofs.Common.{◌<◌, refl, true, false, arith, rules}
use Rattle.ash_slots.specs.Store.{SlotEntry}
use Rattle.ash_objects.proofs.Putting.{put_begin, put_fits, put_new, put_more}
use Rattle.ash_objects.proofs.Listed.{listed_none, listed_covers, listed_new}
use Rattle.ash_objects.proofs.restoring.insert_objects.Goals as goal

pub loop-object-init : goal.loop-object-init
loop-object-init g c = record {
  state = put_begin c.args.objects.items c.args.boxes.items c.args.store.now.objects c.requires.fit c.requires.empty;
  listed = listed_none c.args.store.now.objects c.args.marks.now c.requires.empty;
}

pub join-requires : goal.join-requires
join-requires g c = record {
  drawn =
      put_fits c.args.objects.items c.args.boxes.items c.loop-object.objects.items c.pop.new.self.items c.loop-object.boxes.items c.pop-in-Some.new.self.items c.in-Some.object c.in-Some-pop.taken c.loop-object.store.objects c.requires.in_order c.requires.fit c.loop-object.invariant.state c.in-Some.ensures.items c.in-Some-pop.ensures.items;
}

pub insert-requires : goal.insert-requires
insert-requires g c = record { unused = put_new c.args.objects.items c.args.boxes.items c.loop-object.objects.items c.pop.new.self.items c.loop-object.boxes.items c.pop-in-Some.new.self.items c.in-Some.object c.in-Some-pop.taken c.loop-object.store.objects c.requires.in_order c.requires.fit c.loop-object.invariant.state c.in-Some.ensures.items c.in-Some-pop.ensures.items }

pub loop-object-preserved : goal.loop-object-preserved
loop-object-preserved g c =
    let l = c.loop-object.store.objects in
    let p : SlotEntry _ = record { slot = c.in-Ok._slot; waiting = true; item = record { count = 0; touched = false; body = c.join.result } } in
    let within : c.vacant.result < c.reserve.new.self.room = search rules in
    record {
      listed = rw c.in-Ok.ensures.objects (listed_new c.in-Some.object.number p l c.reserve.new.self (omega (arith, within, c.vacant.ensures.slot, c.in-Ok.ensures.slot)) (λ yes. absurd (cc)) (listed_covers l _ _ c.reserve.ensures.covers c.loop-object.invariant.listed));
      state = rw c.in-Ok.ensures.objects (put_more c.args.objects.items c.args.boxes.items c.loop-object.objects.items c.pop.new.self.items c.loop-object.boxes.items c.pop-in-Some.new.self.items c.in-Some.object c.in-Some-pop.taken c.loop-object.store.objects c.requires.in_order c.requires.fit c.loop-object.invariant.state c.in-Some.ensures.items c.in-Some-pop.ensures.items p c.join.ensures.value (record { uncounted = refl; waits = refl; unmarked = refl }));
    }
