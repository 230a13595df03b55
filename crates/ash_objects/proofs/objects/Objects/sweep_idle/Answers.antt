use Rattle.std.proofs.Common.{◌≡◌, ◌++◌, ◌+◌, ◌≤◌, ℕ, Bool, List, length, map, ap, ◌∙◌, arith}
use Rattle.ash_host.specs.declared.event.Event.{Event}
use Rattle.ash_slots.specs.declared.entry.Entry.{Entry}
use Rattle.ash_objects.specs.Counting.{living_in}
use Rattle.ash_objects.specs.Collecting.{entry_mark, marked_since, marked_drops}
use Rattle.ash_objects.specs.Sweeping.{gone_from}
use Rattle.ash_objects.proofs.Collected.{living_mark, table_now, collects_now, gone_marks, drops_is, leaves_reachable, order_now}
use Rattle.ash_objects.proofs.Faults.{reserved}
use Rattle.ash_objects.proofs.Listed.{listed_left}
use Rattle.ash_objects.proofs.objects.Objects.sweep_idle.Goals as goal

room_is : (had living objects room : ℕ) → had + living ≤ room → living ≡ objects → objects ≤ room
room_is had living objects room fits many = omega arith

-- there is room for what went, since there is for all
fits : (had living objects left went seen room : ℕ) → had + living ≤ room → living ≡ objects → went + left ≡ objects → seen ≡ went → had + seen ≤ room
fits had living objects left went seen room all many parts these = omega arith

pub collect-requires-clause-room : goal.collect-requires-clause-room
collect-requires-clause-room g c =
    room_is _ _ _ _ (reserved c.reserve.result _ c.if-is_err.ensures.value c.reserve.ensures.ok) c.len-living.ensures.len

pub push_dropped-requires-clause-numbers_fit : goal.push_dropped-requires-clause-numbers_fit
push_dropped-requires-clause-numbers_fit g c =
    fits _ _ _ (length c.collect.new.store.objects) (length c.collect.new.taken.items) _ _ (reserved c.reserve-else-is_err.result _ c.if-is_err-2.ensures.value c.reserve-else-is_err.ensures.ok) c.len-living.ensures.len c.collect.ensures.gone.many (c.deref.ensures.len ∙ c.sort_taken.ensures.len ∙ c.collect.new.taken.ok.0)

pub push_dropped-requires-clause-events_fit : goal.push_dropped-requires-clause-events_fit
push_dropped-requires-clause-events_fit g c =
    fits _ _ _ (length c.collect.new.store.objects) (length c.collect.new.taken.items) _ _ (reserved c.reserve-else-is_err-2.result _ c.if-is_err-3.ensures.value c.reserve-else-is_err-2.ensures.ok) c.len-living.ensures.len c.collect.ensures.gone.many (c.deref.ensures.len ∙ c.sort_taken.ensures.len ∙ c.collect.new.taken.ok.0)

pub invariant_of-self-2 : goal.invariant_of-self-2
invariant_of-self-2 g c =
    let l = c.self.inside.store.objects in
    let now = c.collect.new.store.objects in
    let t = c.self.invariant.table in
    let h = c.collect.ensures.gone in
    record {
      table =
          table_now l now c.collect.new.taken.items t.in_order t.counted h c.self.inside.last c.self.inside.settled t;
      listed = listed_left now l _ h.stay c.self.invariant.listed;
    }

pub returns-clause-collected : goal.returns-clause-collected
returns-clause-collected g c =
    let l = c.self.inside.store.objects in
    let now = c.collect.new.store.objects in
    let t = c.self.invariant.table in
    let h = c.collect.ensures.gone in
    let marks = map living_mark (gone_from (living_in l) (living_in now)) in
    let sorted = ap (λ (k : List (Entry _)). map entry_mark k) c.deref.ensures.value ∙ c.sort_taken.ensures.order marks (gone_marks l now c.collect.new.taken.items t.in_order t.counted h) in
    let gone : c.push_dropped.new.gone.items ≡ c.self.inside.gone.items ++ marked_since c.self.inside.settled marks =
    c.push_dropped.ensures.gone ∙ ap (λ (k : List ℕ). k ++ marked_since c.self.inside.settled (map entry_mark c.deref.result.now)) c.reserve-else-is_err.ensures.items ∙ ap (λ (k : List (ℕ × Bool)). c.self.inside.gone.items ++ marked_since c.self.inside.settled k) sorted in
    rw (← c.self.view_is, gone)
    (collects_now l now c.collect.new.taken.items t.in_order t.counted h c.collect.ensures.done c.self.inside.pool.items c.self.inside.services.items c.self.inside.last c.self.inside.settled c.self.inside.gone.items)

pub returns-clause-dropped : goal.returns-clause-dropped
returns-clause-dropped g c =
    let l = c.self.inside.store.objects in
    let now = c.collect.new.store.objects in
    let t = c.self.invariant.table in
    let h = c.collect.ensures.gone in
    let marks = map living_mark (gone_from (living_in l) (living_in now)) in
    let sorted = ap (λ (k : List (Entry _)). map entry_mark k) c.deref.ensures.value ∙ c.sort_taken.ensures.order marks (gone_marks l now c.collect.new.taken.items t.in_order t.counted h) in
    rw (← c.self.view_is, drops_is (gone_from (living_in l) (living_in now)))
    (c.push_dropped.ensures.events ∙ ap (λ (k : List Event). k ++ marked_drops (map entry_mark c.deref.result.now)) c.reserve-else-is_err-2.ensures.items ∙ ap (λ (k : List (ℕ × Bool)). c.args.events.now.items ++ marked_drops k) sorted)

pub returns-clause-reachable : goal.returns-clause-reachable
returns-clause-reachable g c = λ rank top ranks.
    let l = c.self.inside.store.objects in
    let now = c.collect.new.store.objects in
    let t = c.self.invariant.table in
    let h = c.collect.ensures.gone in
    let falls = rw (← c.self.view_is) at ranks in
    let collected = collects_now l now c.collect.new.taken.items t.in_order t.counted h c.collect.ensures.done c.self.inside.pool.items c.self.inside.services.items c.self.inside.last c.self.inside.settled c.self.inside.gone.items in
    rw (← c.self.view_is) (leaves_reachable _ _ collected (order_now l now c.collect.new.taken.items h) rank top falls)
