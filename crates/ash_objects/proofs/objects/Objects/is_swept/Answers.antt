use Rattle.std.proofs.Common.{[], sym}
use Rattle.ash_objects.proofs.Collected.{collects_none, drops_none, order_none, leaves_reachable}
use Rattle.ash_objects.proofs.objects.Objects.is_swept.Goals as goal

pub returns-clause-collected : goal.returns-clause-collected
returns-clause-collected g c = λ none.
    let t = c.self.invariant.table in
    rw (← c.self.view_is) (collects_none c.self.inside.store.objects t.in_order t.counted (c.none_waits.ensures.none none) c.self.inside.pool.items c.self.inside.services.items c.self.inside.last c.self.inside.settled c.self.inside.gone.items)

pub returns-clause-dropped : goal.returns-clause-dropped
returns-clause-dropped g c = λ none.
    let t = c.self.invariant.table in
    rw (← c.self.view_is) (sym (drops_none c.self.inside.store.objects t.in_order t.counted (c.none_waits.ensures.none none) []))

pub returns-clause-reachable : goal.returns-clause-reachable
returns-clause-reachable g c = λ none rank top ranks.
    let l = c.self.inside.store.objects in
    let t = c.self.invariant.table in
    let done = c.none_waits.ensures.none none in
    let falls = rw (← c.self.view_is) at ranks in
    let collected = collects_none l t.in_order t.counted done c.self.inside.pool.items c.self.inside.services.items c.self.inside.last c.self.inside.settled c.self.inside.gone.items in
    rw (← c.self.view_is) (leaves_reachable _ _ collected (order_none l t.in_order t.counted done) rank top falls)
