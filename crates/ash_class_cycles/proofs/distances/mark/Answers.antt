use Rattle.ash_class_cycles.proofs.Markings.{marks_read_some, marks_read_none}
use Rattle.ash_class_cycles.proofs.distances.mark.Goals as goal

pub returns-in_ok-push : goal.returns-in_ok-push
returns-in_ok-push c = record {
  marks =
      rw c.in_ok-push.ensures.items
      (marks_read_none c.args.place c.args.distance c.args.distances.now.items c.args.found.now.items
      c.index.result.now c.requires.within c.index.ensures c.if-is_none.ensures);
}

pub returns-else-is_none : goal.returns-else-is_none
returns-else-is_none c = record {
  marks =
      marks_read_some c.args.place c.args.distance c.args.distances.now.items c.args.found.now.items c.index.result.now
      c.requires.within c.index.ensures c.if-is_none.ensures;
}
