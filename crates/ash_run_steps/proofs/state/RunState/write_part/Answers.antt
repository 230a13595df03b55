use Rattle.std.proofs.Common.{◌≡◌, ◌∷◌, ◌∙◌, [], refl, sym, false, arith, rules}
use Rattle.ash_host.specs.Objects.{handles}
use Rattle.ash_objects.specs.Table.{with_object, with_field}
use Rattle.ash_run_steps.specs.RunStates.{state_with, is_alive_in}
use Rattle.ash_run_steps.proofs.ChangedObjects.{changed_holds, changed_alive}
use Rattle.ash_run_steps.proofs.HoldSteps.{at_table}
use Rattle.ash_run_steps.proofs.PartSteps.{part_gives, part_lacks, part_dangles, part_alive, field_there}
use Rattle.ash_run_steps.proofs.Roots.{few_holds, counts_more, times_holding, holding}
use Rattle.ash_run_steps.proofs.state.RunState.write_part.Goals as goal

pub returns-in_default-clause-written : goal.returns-in_default-clause-written
returns-in_default-clause-written g c = λ names.
    let s = c.self.inside in
    let none = rw c.words_at.ensures.words at (sym c.word_in.ensures.word ∙ c.in_default.is) in
    rw (← c.self.view_is) (part_lacks g.B.HostObject names c.args.number c.args.place c.args.word (state_with s.table s.stack s.globals.items s.outside.items s.events.items s.ticks) none)

pub returns-then-not-is_alive-clause-written : goal.returns-then-not-is_alive-clause-written
returns-then-not-is_alive-clause-written g c = λ names.
    let s = c.self.inside in
    let lacks : is_alive_in c.args.word s.table ≡ false = search rules in
    rw (← c.self.view_is) (part_dangles g.B.HostObject names c.args.number c.args.place c.args.word (state_with s.table s.stack s.globals.items s.outside.items s.events.items s.ticks) lacks)

pub set_field-requires-clause-there : goal.set_field-requires-clause-there
set_field-requires-clause-there g c =
    let s = c.self.inside in
    let at = rw c.words_at.ensures.words at (sym c.word_in.ensures.word ∙ c.in-Some.is) in
    field_there c.args.number c.args.place c.in-Some.before s.table at

pub hold_word-requires-clause-alive : goal.hold_word-requires-clause-alive
hold_word-requires-clause-alive g c =
    let s = c.self.inside in
    let at = rw c.words_at.ensures.words at (sym c.word_in.ensures.word ∙ c.in-Some.is) in
    rw c.set_field.ensures.written (changed_alive (with_field c.args.place c.args.word) c.args.number c.in-Some.before s.table
    ∙ part_alive s.table (c.facts.ensures.sound).alive c.args.number c.args.place c.in-Some.before at)

pub hold_word-requires-clause-few : goal.hold_word-requires-clause-few
hold_word-requires-clause-few g c = λ m.
    let s = c.self.inside in
    rw c.set_field.ensures.written (omega (arith, changed_holds (with_field c.args.place c.args.word) c.args.number (λ _. refl) m s.table, few_holds m (state_with s.table s.stack s.globals.items s.outside.items s.events.items s.ticks) c.self.invariant, s.globals.ok.0, s.outside.ok.0, c.facts-2.ensures.few))

pub invariant_of-self-2 : goal.invariant_of-self-2
invariant_of-self-2 g c =
    let s = c.self.inside in
    let old = state_with s.table s.stack s.globals.items s.outside.items s.events.items s.ticks in
    let mid = at_table (with_object c.args.number (with_field c.args.place c.args.word) s.table) old in
    let ns = handles (c.in-Some.before ∷ []) in
    let more = rw c.set_field.ensures.written at c.hold_word.ensures.held in
    rw c.in_ok-push_handle.ensures.held (counts_more ns mid (at_table c.hold_word.new.table (holding ns old)) more (λ m. times_holding m ns old)
    (λ m. changed_holds (with_field c.args.place c.args.word) c.args.number (λ _. refl) m s.table ∙ c.self.invariant m))

pub returns-clause-written : goal.returns-clause-written
returns-clause-written g c = λ names.
    let s = c.self.inside in
    let at = rw c.words_at.ensures.words at (sym c.word_in.ensures.word ∙ c.in-Some.is) in
    let more = rw c.set_field.ensures.written at c.hold_word.ensures.held in
    rw (← c.self.view_is, c.in_ok-push_handle.ensures.held) (part_gives g.B.HostObject names c.args.number c.args.place c.args.word c.in-Some.before (state_with s.table s.stack s.globals.items s.outside.items s.events.items s.ticks) c.hold_word.new.table more.same ((c.facts.ensures.sound).numbered).in_order at)
