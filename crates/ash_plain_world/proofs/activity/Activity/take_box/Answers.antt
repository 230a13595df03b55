use Rattle.std.proofs.Common.{List, ap, ◌∙◌, map}
use Rattle.ash_meaning.specs.Activity.{FreeBox, World, in_world}
use Rattle.ash_plain_world.specs.ActivityViews.{activity_seen, box_seen}
use Rattle.ash_plain_world.proofs.Pools.{remove_map}
use Rattle.ash_plain_world.proofs.activity.Activity.take_box.Goals as goal

pub returns-clause-taken : goal.returns-clause-taken
unfolding activity_seen
returns-clause-taken c =
    ap (λ (pool : List FreeBox). in_world (λ (w : World). record w { pool = pool }) (activity_seen c.args.self.now)) (ap (map box_seen) c.remove.ensures.items ∙ remove_map box_seen c.args.self.now.world.pool.items c.args.place)
