use Rattle.std.proofs.Common.{[], sym}
use Rattle.ash_objects.proofs.Collected.{collects_none, drops_none, order_none, leaves_reachable, sound_now}
use Rattle.ash_objects.proofs.objects.Objects.has_idle.Goals as goal

pub returns-clause-collected : goal.returns-clause-collected
returns-clause-collected g c = λ none.
    let now = c.find_idle.new.store.objects in
    let t = c.self.invariant.table in
    let h = c.find_idle.ensures.stay in
    let s = sound_now c.self.inside.store.objects now [] t.in_order t.counted h in
    collects_none now h.in_order s (c.find_idle.ensures.none none) c.self.inside.pool.items c.self.inside.services.items
    c.self.inside.last c.self.inside.settled c.self.inside.gone.items

pub returns-clause-dropped : goal.returns-clause-dropped
returns-clause-dropped g c = λ none.
    let now = c.find_idle.new.store.objects in
    let t = c.self.invariant.table in
    let h = c.find_idle.ensures.stay in
    let s = sound_now c.self.inside.store.objects now [] t.in_order t.counted h in
    sym (drops_none now h.in_order s (c.find_idle.ensures.none none) [])

pub returns-clause-reachable : goal.returns-clause-reachable
returns-clause-reachable g c = λ none rank top ranks.
    let now = c.find_idle.new.store.objects in
    let t = c.self.invariant.table in
    let h = c.find_idle.ensures.stay in
    let s = sound_now c.self.inside.store.objects now [] t.in_order t.counted h in
    let done = c.find_idle.ensures.none none in
    let collected = collects_none now h.in_order s done c.self.inside.pool.items c.self.inside.services.items
    c.self.inside.last c.self.inside.settled c.self.inside.gone.items in
    leaves_reachable _ _ collected (order_none now h.in_order s done) rank top ranks
