use Rattle.std.proofs.Common.{◌≡◌, List, sym, ap, ◌∙◌, nat_eq, map}
use Rattle.std.specs.List.{position_from}
use Rattle.ash_meaning.specs.Activity.{FreeBox}
use Rattle.ash_plain_world.specs.ActivityViews.{activity_seen, box_seen}
use Rattle.ash_plain_data.proofs.Positions.{position_is}
use Rattle.ash_plain_world.proofs.activity.Activity.place_of_kind.Goals as goal

pub returns-clause-place : goal.returns-clause-place
unfolding activity_seen
returns-clause-place c =
    c.place_in.ensures.place
    ∙ ap (λ (pool : List _). position_from (λ (b : FreeBox). nat_eq b.kind c.args.kind) 0 (map box_seen pool)) c.deref.ensures.value
    ∙ sym (position_is (λ (b : FreeBox). nat_eq b.kind c.args.kind) (map box_seen c.args.self.now.world.pool.items))
