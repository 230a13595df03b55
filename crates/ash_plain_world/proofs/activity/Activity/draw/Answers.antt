use Rattle.std.proofs.Common.{◌≡◌, sym, ap, ◌∙◌}
use Rattle.ash_host.specs.Objects.{Host}
use Rattle.ash_meaning.specs.Activity.{Activity}
use Rattle.ash_meaning.specs.Runs.{Progress, Done, onward}
use Rattle.ash_meaning.specs.ObjectSteps.{make}
use Rattle.ash_plain_world.specs.ActivityViews.{activity_seen, box_seen}
use Rattle.ash_plain_world.proofs.Pools.{draw_empty, draw_box, noted}
use Rattle.ash_plain_world.proofs.activity.Activity.draw.Goals as goal

pub returns-in_default : goal.returns-in_default
returns-in_default c = record {
  run =
      draw_empty c.args.kind (activity_seen c.args.self.now) c.in_ok-demand_number.ensures.runs (sym c.place_of_kind.ensures.place ∙ c.in_default.is);
}

pub returns : goal.returns
returns c = record {
  run =
      let a = activity_seen c.args.self.now in
      let object = Host c.take_box-kind.result.kind c.take_box-kind.result.state.items in
      draw_box c.args.kind c.in-Some.place (box_seen c.take_box-kind.result) a c.in_ok-demand_number.ensures.runs (sym c.place_of_kind.ensures.place ∙ c.in-Some.is) c.take_box-kind.ensures.free
      ∙ ap (λ (b : Activity). onward (make object b) noted) (sym c.take_box-kind.ensures.taken)
      ∙ ap (λ (p : Progress _). onward p noted) c.in_ok-number.ensures.made
      ∙ ap (Done c.in_ok-number.number) (sym c.in_ok-push_event.ensures.value);
}
