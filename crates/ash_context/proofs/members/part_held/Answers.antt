use Rattle.ash_meaning.specs.Locations as locations
use Rattle.ash_run_steps.specs.Guarded.{give}
use Rattle.ash_run_steps.proofs.Composed.{comes_then}
use Rattle.ash_code.specs.Steps.{give_held, has_part, read_part}
use Rattle.ash_context.proofs.Regrouping.{becomes_guarded}
use Rattle.ash_context.proofs.members.part_held.Goals as goal

pub returns : goal.returns
returns g c =
    let old = c.args.state.now in
    let number = c.args.number in
    let place = c.args.place in
    let word = c.read_part-word.result in
    record {
      held = λ names. comes_then g.B.HostObject names (read_part number place) give_held old old c.held.new.state word c.held.result
          (becomes_guarded g.B.HostObject names (has_part number place) (locations.read (locations.Part number place)) (give word) old old (c.read_part-word.ensures.read names))
          (c.held.ensures.held names);
      same = c.held.ensures.same;
    }
