use Rattle.std.proofs.Common.{◌≡◌, ◌++◌, ◌∷◌, ◌+◌, List, map, drop, sym, ap, ◌∙◌, arith}
use Rattle.ash_slots.specs.declared.entry.Entry.{Entry}
use Rattle.ash_objects.specs.Collecting.{entry_mark, marked_since, marked_drops}
use Rattle.ash_objects.proofs.Referring.{rest_got, rest_over}
use Rattle.ash_objects.proofs.Marks.{since_more, since_same, drops_more, drops_same, nothing_more}
use Rattle.ash_objects.proofs.sweeping.push_dropped.Goals as goal
use Rattle.ash_objects.proofs.sweeping.push_dropped.Goals.{then-entry-settled, else-entry-settled, then-is_host, else-is_host}

pub loop-entry-preserved : goal.loop-entry-preserved
loop-entry-preserved g c =
    let k = c.loop-entry.entry-index in
    let all = c.args.taken.now in
    let e = c.entry-item.result in
    let rest = drop (k + 1) all in
    let next : drop k all ≡ e ∷ rest = rest_got all k e c.loop-entry-test.true ∙ ap (λ (x : Entry _). x ∷ rest) (sym c.entry-item.is) in
    record {
      numbers =
          elim c.if-entry-settled.branch [
            | then-entry-settled w ↦ rw (w.gone-is, w.push_reserved.ensures.items) (since_more c.args.settled c.loop-entry.gone.items e rest w.if-entry-settled.true ∙ ap (λ (l : List (Entry _)). c.loop-entry.gone.items ++ marked_since c.args.settled (map entry_mark l)) (sym next) ∙ c.loop-entry.invariant.numbers)
            | else-entry-settled w ↦ rw w.gone-is (since_same c.args.settled c.loop-entry.gone.items e rest w.if-entry-settled.false ∙ ap (λ (l : List (Entry _)). c.loop-entry.gone.items ++ marked_since c.args.settled (map entry_mark l)) (sym next) ∙ c.loop-entry.invariant.numbers)
          ];
      events =
          elim c.if-is_host.branch [
            | then-is_host w ↦ rw (w.events-is, w.push_reserved-then-is_host.ensures.items) (drops_more c.loop-entry.events.items e rest (sym c.is_host.ensures.boxed ∙ w.if-is_host.true) ∙ ap (λ (l : List (Entry _)). c.loop-entry.events.items ++ marked_drops (map entry_mark l)) (sym next) ∙ c.loop-entry.invariant.events)
            | else-is_host w ↦ rw w.events-is (drops_same c.loop-entry.events.items e rest (sym c.is_host.ensures.boxed ∙ w.if-is_host.false) ∙ ap (λ (l : List (Entry _)). c.loop-entry.events.items ++ marked_drops (map entry_mark l)) (sym next) ∙ c.loop-entry.invariant.events)
          ];
      numbers_fit =
          elim c.if-entry-settled.branch [
            | then-entry-settled w ↦ rw w.gone-is (omega (arith, w.push_reserved.ensures.len, c.loop-entry.invariant.numbers_fit))
            | else-entry-settled w ↦ rw w.gone-is (omega (arith, c.loop-entry.invariant.numbers_fit))
          ];
      numbers_room =
          elim c.if-entry-settled.branch [
            | then-entry-settled w ↦ rw w.gone-is (w.push_reserved.ensures.capacity ∙ c.loop-entry.invariant.numbers_room)
            | else-entry-settled w ↦ rw w.gone-is c.loop-entry.invariant.numbers_room
          ];
      events_fit =
          elim c.if-is_host.branch [
            | then-is_host w ↦ rw w.events-is (omega (arith, w.push_reserved-then-is_host.ensures.len, c.loop-entry.invariant.events_fit))
            | else-is_host w ↦ rw w.events-is (omega (arith, c.loop-entry.invariant.events_fit))
          ];
      events_room =
          elim c.if-is_host.branch [
            | then-is_host w ↦ rw w.events-is (w.push_reserved-then-is_host.ensures.capacity ∙ c.loop-entry.invariant.events_room)
            | else-is_host w ↦ rw w.events-is c.loop-entry.invariant.events_room
          ];
    }

pub returns-clause-gone : goal.returns-clause-gone
returns-clause-gone g c =
    let over = rest_over c.args.taken.now c.loop-entry.entry-index c.loop-entry-test.false in
    sym (nothing_more c.loop-entry.gone.items) ∙ ap (λ (l : List (Entry _)). c.loop-entry.gone.items ++ marked_since c.args.settled (map entry_mark l)) (sym over) ∙ c.loop-entry.invariant.numbers

pub returns-clause-events : goal.returns-clause-events
returns-clause-events g c =
    let over = rest_over c.args.taken.now c.loop-entry.entry-index c.loop-entry-test.false in
    sym (nothing_more c.loop-entry.events.items) ∙ ap (λ (l : List (Entry _)). c.loop-entry.events.items ++ marked_drops (map entry_mark l)) (sym over) ∙ c.loop-entry.invariant.events
