-- The laws, as the contracts state them.
use Rattle.ash_host.specs.ObjectLaws.{ReachIsDecided, SweepIsExact, SweepIsOne, SweepSettles, CascadeIsSweep, CountIsReferences, InsertIsExact, NumbersRise, SweepKeepsLast, RecordIsExact}
use Rattle.ash_host.proofs.ReachLaws as reach
use Rattle.ash_host.proofs.SweepLaws as sweep
use Rattle.ash_host.proofs.CountLaws as counts
use Rattle.ash_host.proofs.Order as order
use Rattle.ash_host.proofs.NumberLaws as numbers
use Rattle.ash_host.proofs.RecordLaws as records

pub reach_is_decided : (M : Type 0) → ReachIsDecided M
reach_is_decided M held objects number = (reach.is_reachable_says held objects number, reach.is_reachable_yes held objects number)

pub sweep_is_exact : (M : Type 0) → SweepIsExact M
sweep_is_exact M held objects in_order = reach.sweep_is_exact held objects in_order

pub sweep_is_one : (M : Type 0) → SweepIsOne M
sweep_is_one M held old one other dropped others s t = (sweep.sweep_is_one held s t, sweep.drops_are_one held s t)

pub sweep_settles : (M : Type 0) → SweepSettles M
sweep_settles M held old new dropped s = record {
  reach = λ number. (sweep.swept_reachable s number, sweep.swept_reached s number);
  handles = sweep.swept_none_dangles s;
  again = sweep.swept_again s;
}

pub cascade_is_sweep : (M : Type 0) → CascadeIsSweep M
cascade_is_sweep M held rank top old new c closed ranks = sweep.cascade_is_sweep old new c closed ranks

pub count_is_references : (M : Type 0) → CountIsReferences M
count_is_references M globals objects number o = (counts.counted_held globals objects number o, counts.held_counted globals objects number)

pub insert_is_exact : (M : Type 0) → InsertIsExact M
insert_is_exact M number object objects o = record {
  places = λ place. order.object_at-with_at number object place objects;
  in_order = order.in_order-with_at number object objects o;
  counts = λ other. counts.fields_to-with_at other number object objects o;
}

pub numbers_rise : (M : Type 0) → NumbersRise M
numbers_rise M last object objects numbered = numbers.put_next last object objects numbered

pub sweep_keeps_last : (M : Type 0) → SweepKeepsLast M
sweep_keeps_last M held last old new dropped numbered s = numbers.swept_numbered held last numbered s

pub record_is_exact : RecordIsExact
record_is_exact target call before all next left = (records.next_record_says target call before all next left, records.next_record_takes target call before all next left)
