use Rattle.std.proofs.Common.{refl, ap, ◌∙◌}
use Rattle.std.specs.Prelude.{Err}
use Rattle.ash_slots.specs.declared.body.Body.TheVariants.{Host}
use Rattle.ash_objects.specs.Table.{holds_of, slot_of}
use Rattle.ash_objects.specs.Making.{IsFull, IsSpent}
use Rattle.ash_run_steps.specs.RunStates.{state_with}
use Rattle.ash_run_steps.proofs.Draws.{was_drawn, holds_new, box_drawn, draw_gives, draw_is_full, draw_is_spent, draw_is_empty}
use Rattle.ash_run_steps.proofs.state.RunState.draw.Goals as goal
use Rattle.ash_run_steps.proofs.state.RunState.draw.Goals.{in-Ok, in-Err-ObjectLimit, in-Err-NumbersSpent, in-Err-PoolEmpty, in-Err-NoMemory}

pub invariant_of-self : goal.invariant_of-self
invariant_of-self g c = λ m.
    let table = c.self.inside.table in
    elim c.match-draw.branch [
      | in-Ok w ↦
          let was = was_drawn g.B.HostObject c.args.kind table c.draw.new.self (slot_of w.in-Ok.number c.draw.new.self) w.in-Ok.ensures.drawn in
          ap (holds_of m) was.becomes ∙ holds_new was.slot (Host was.box) table m (c.facts.ensures.sound).numbered ∙ c.self.invariant m
      | in-Err-ObjectLimit w ↦ ap (holds_of m) w.in-Err-ObjectLimit.ensures.unchanged ∙ c.self.invariant m
      | in-Err-NumbersSpent w ↦ ap (holds_of m) w.in-Err-NumbersSpent.ensures.unchanged ∙ c.self.invariant m
      | in-Err-PoolEmpty w ↦ ap (holds_of m) w.in-Err-PoolEmpty.ensures.unchanged ∙ c.self.invariant m
      | in-Err-NoMemory w ↦ ap (holds_of m) w.in-Err-NoMemory.ensures.unchanged ∙ c.self.invariant m
    ]

pub returns-clause-drawn : goal.returns-clause-drawn
returns-clause-drawn g c = λ names.
    let s = c.self.inside in
    let kind = c.args.kind in
    elim c.match-draw.branch [
      | in-Ok w ↦
          let was = was_drawn g.B.HostObject kind s.table c.draw.new.self (slot_of w.in-Ok.number c.draw.new.self) w.in-Ok.ensures.drawn in
          let few : IsFull s.table → ⊥ = λ full. let e = w.in-Ok.ensures.full.1 full in cc in
          let left : IsSpent s.table → ⊥ = λ spent. let e = w.in-Ok.ensures.spent.1 (few, spent) in cc in
          rw (← c.self.view_is, w.result-is, w.in-Ok.ensures.event, w.in-Ok.ensures.number, was.becomes) (draw_gives g.B.HostObject names kind was.place was.slot was.box (state_with s.table s.stack s.globals.items s.outside.items s.events.items s.ticks) few left was.first was.there)
      | in-Err-ObjectLimit w ↦
          let e = w.in-Err-ObjectLimit in
          rw (← c.self.view_is, w.result-is, e.ensures.unchanged, e.ensures.no_event) (draw_is_full g.B.HostObject names kind (state_with s.table s.stack s.globals.items s.outside.items s.events.items s.ticks) (e.ensures.full.0 (ap Err e.field-0-is)))
      | in-Err-NumbersSpent w ↦
          let e = w.in-Err-NumbersSpent in
          let spent = e.ensures.spent.0 (ap Err e.field-0-is) in
          rw (← c.self.view_is, w.result-is, e.ensures.unchanged, e.ensures.no_event) (draw_is_spent g.B.HostObject names kind (state_with s.table s.stack s.globals.items s.outside.items s.events.items s.ticks) spent.0 spent.1)
      | in-Err-PoolEmpty w ↦
          let e = w.in-Err-PoolEmpty in
          let empty = e.ensures.pool.0 (ap Err e.field-0-is) in
          rw (← c.self.view_is, w.result-is, e.ensures.unchanged, e.ensures.no_event) (draw_is_empty g.B.HostObject names kind (state_with s.table s.stack s.globals.items s.outside.items s.events.items s.ticks) empty.0 empty.1 empty.2)
      | in-Err-NoMemory w ↦ rw w.result-is tt
    ]

pub returns-clause-host : goal.returns-clause-host
returns-clause-host g c =
    let table = c.self.inside.table in
    elim c.match-draw.branch [
      | in-Ok w ↦
          let was = was_drawn g.B.HostObject c.args.kind table c.draw.new.self (slot_of w.in-Ok.number c.draw.new.self) w.in-Ok.ensures.drawn in
          rw (w.result-is, was.becomes, box_drawn was.slot was.place was.box table w.in-Ok.number w.in-Ok.ensures.number) refl
      | in-Err-ObjectLimit w ↦ rw w.result-is tt
      | in-Err-NumbersSpent w ↦ rw w.result-is tt
      | in-Err-PoolEmpty w ↦ rw w.result-is tt
      | in-Err-NoMemory w ↦ rw w.result-is tt
    ]
