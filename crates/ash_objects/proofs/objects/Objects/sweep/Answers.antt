use Rattle.ash_objects.proofs.Collected.{collects_none, drops_none, order_none, leaves_reachable}
use Rattle.ash_objects.proofs.objects.Objects.sweep.Goals as goal

pub returns-then-none_waits-clause-collected : goal.returns-then-none_waits-clause-collected
returns-then-none_waits-clause-collected g c =
    let t = c.self.invariant.table in
    let done = c.none_waits.ensures.none c.if-none_waits.true in
    rw (← c.self.view_is) (collects_none c.self.inside.store.objects t.in_order t.counted done c.self.inside.pool.items c.self.inside.services.items c.self.inside.last c.self.inside.settled c.self.inside.gone.items)

pub returns-then-none_waits-clause-dropped : goal.returns-then-none_waits-clause-dropped
returns-then-none_waits-clause-dropped g c =
    let t = c.self.invariant.table in
    let done = c.none_waits.ensures.none c.if-none_waits.true in
    rw (← c.self.view_is) (drops_none c.self.inside.store.objects t.in_order t.counted done c.args.events.now.items)

pub returns-then-none_waits-clause-reachable : goal.returns-then-none_waits-clause-reachable
returns-then-none_waits-clause-reachable g c = λ rank top ranks.
    let l = c.self.inside.store.objects in
    let t = c.self.invariant.table in
    let done = c.none_waits.ensures.none c.if-none_waits.true in
    let falls = rw (← c.self.view_is) at ranks in
    let collected = collects_none l t.in_order t.counted done c.self.inside.pool.items c.self.inside.services.items c.self.inside.last c.self.inside.settled c.self.inside.gone.items in
    rw (← c.self.view_is) (leaves_reachable _ _ collected (order_none l t.in_order t.counted done) rank top falls)
