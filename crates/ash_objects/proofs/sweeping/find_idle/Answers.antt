use Rattle.std.proofs.Common.{[], true, false, ◌∙◌}
use Rattle.ash_objects.proofs.Popping.{living_seen, seen_again}
use Rattle.ash_objects.proofs.Collecting.{put_back, skipped}
use Rattle.ash_objects.proofs.sweeping.find_idle.Goals as goal

pub returns-then-is_idle-clause-same : goal.returns-then-is_idle-clause-same
returns-then-is_idle-clause-same g c =
    let l = c.loop-slot.store.objects in
    let slot = c.in-Some.slot in
    rw (c.queue_for_sweep.ensures.objects, c.in-Some.ensures.objects, seen_again slot l)
    (living_seen true slot l ∙ c.loop-slot.invariant.same)

pub returns-then-is_idle-clause-stay : goal.returns-then-is_idle-clause-stay
returns-then-is_idle-clause-stay g c =
    let l = c.loop-slot.store.objects in
    let slot = c.in-Some.slot in
    rw (c.queue_for_sweep.ensures.objects, c.in-Some.ensures.objects, seen_again slot l)
    (put_back c.args.store.now.objects l slot [] c.loop-slot.invariant.stay)

pub loop-slot-preserved : goal.loop-slot-preserved
loop-slot-preserved g c =
    let l = c.loop-slot.store.objects in
    let slot = c.in-Some.slot in
    let is = c.in-Some.ensures.objects in
    record {
      same = rw is (living_seen false slot l ∙ c.loop-slot.invariant.same);
      stay = rw is (skipped c.args.store.now.objects l slot [] c.loop-slot.invariant.stay (λ idle. let yes = c.is_idle.ensures.idle.1 (rw is idle) in let no = c.if-is_idle.false in cc));
    }
