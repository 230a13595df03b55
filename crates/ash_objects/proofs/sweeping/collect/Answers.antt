use Rattle.std.proofs.Common.{◌≡◌, ◌+◌, length, ap, ◌∙◌, arith, ◌∷◌, [], false}
use Rattle.std.proofs.lemmas.List.{length-append}
use Rattle.ash_objects.proofs.Popping.{seen_stored, seen_covered, seen_length}
use Rattle.ash_objects.proofs.Collecting.{skipped, one_more, smaller_taken, smaller_popped}
use Rattle.ash_objects.proofs.sweeping.collect.Goals as goal

pub take_idle-requires-clause-stored : goal.take_idle-requires-clause-stored
take_idle-requires-clause-stored g c = rw c.in-Some.ensures.objects (seen_stored false c.in-Some.slot c.loop-slot.store.objects c.next_waiting.ensures.stored)

pub take_idle-requires-clause-covered : goal.take_idle-requires-clause-covered
take_idle-requires-clause-covered g c = rw c.in-Some.ensures.objects (seen_covered false c.in-Some.slot c.loop-slot.store.objects c.loop-slot.invariant.gone.covered)

pub loop-slot-preserved-then-is_idle : goal.loop-slot-preserved-then-is_idle
loop-slot-preserved-then-is_idle g c =
    let l = c.loop-slot.store.objects in
    let slot = c.in-Some.slot in
    let e = c.take_idle.result in
    let is = c.in-Some.ensures.objects in
    let idle = rw is at (c.is_idle.ensures.idle.0 c.if-is_idle.true) in
    let here = rw is at c.take_idle.ensures.number in
    let mine = rw is at c.take_idle.ensures.item in
    let order = rw is at c.take_idle.ensures.stays_in_order in
    let now = rw is at c.take_idle.ensures.objects in
    record {
      gone =
          rw (now, c.push_reserved.ensures.items)
          (one_more c.args.store.now.objects l slot c.loop-slot.taken.items e c.loop-slot.invariant.gone
          c.next_waiting.ensures.stored idle here mine order);
      room = c.push_reserved.ensures.capacity ∙ c.loop-slot.invariant.room;
    }

pub loop-slot-smaller-then-is_idle : goal.loop-slot-smaller-then-is_idle
loop-slot-smaller-then-is_idle g c =
    let l = c.loop-slot.store.objects in
    let slot = c.in-Some.slot in
    let e = c.take_idle.result in
    let is = c.in-Some.ensures.objects in
    let idle = rw is at (c.is_idle.ensures.idle.0 c.if-is_idle.true) in
    let here = rw is at c.take_idle.ensures.number in
    let mine = rw is at c.take_idle.ensures.item in
    let order = rw is at c.take_idle.ensures.stays_in_order in
    let now = rw is at c.take_idle.ensures.objects in
    let after = one_more c.args.store.now.objects l slot c.loop-slot.taken.items e c.loop-slot.invariant.gone c.next_waiting.ensures.stored idle here mine order in
    let longer = length-append c.loop-slot.taken.items (e ∷ []) in
    let left = ap length now in
    let one : length c.take_idle.new.store.objects + 1 ≡ length l = omega (arith, longer, left, after.many, c.loop-slot.invariant.gone.many) in
    let room = c.take_idle.ensures.room ∙ c.in-Some.ensures.room in
    rw room (smaller_taken (length c.take_idle.new.store.objects) (length l) c.loop-slot.store.room c.take_idle.new.store.pending c.loop-slot.store.pending one)

pub loop-slot-preserved : goal.loop-slot-preserved
loop-slot-preserved g c =
    let l = c.loop-slot.store.objects in
    let is = c.in-Some.ensures.objects in
    record {
      gone = rw is (skipped c.args.store.now.objects l c.in-Some.slot c.loop-slot.taken.items c.loop-slot.invariant.gone (λ idle. let yes = c.is_idle.ensures.idle.1 (rw is idle) in let no = c.if-is_idle.false in cc));
      room = c.loop-slot.invariant.room;
    }

pub loop-slot-smaller : goal.loop-slot-smaller
loop-slot-smaller g c =
    let l = c.loop-slot.store.objects in
    let few = ap length c.in-Some.ensures.objects ∙ seen_length false c.in-Some.slot l in
    rw (few, c.in-Some.ensures.room) (smaller_popped (length l) c.loop-slot.store.room c.next_waiting.new.self.pending c.loop-slot.store.pending c.in-Some.ensures.fewer c.next_waiting.ensures.fits)
