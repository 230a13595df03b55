use Rattle.std.proofs.Common.{◌≡◌, ◌+◌, refl, ap}
use Rattle.ash_objects.specs.Table.{Table}
use Rattle.ash_engine.specs.declared.live.Live.{Live}
use Rattle.ash_engine.proofs.resting.answered_at_rest.Goals as goal

pub returns : goal.returns
returns g c = record {
  answered = record {
    reply = refl;
    taken = c.changes_at_rest.ensures.taken c.args.events.items c.requires.uncalled;
    live = ap (λ (t : Table g.row.B.Denot). let l : Live g.row.B.Denot = record {
      loaded = record c.args.live.loaded { seq = c.args.live.loaded.seq + 1 };
      compiled = c.args.live.compiled;
      table = t;
      changes = c.changes_at_rest.result;
    } in l) c.changes_at_rest.ensures.settled;
  };
}
