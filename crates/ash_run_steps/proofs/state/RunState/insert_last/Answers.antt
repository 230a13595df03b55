use Rattle.std.proofs.Common.{◌≡◌, ◌≤◌, ◌∷◌, ◌++◌, ◌∙◌, [], List, true, false, refl, sym, ap, length, rules}
use Rattle.std.specs.Prelude.{Err}
use Rattle.ash_host.specs.declared.word.Word.{Word}
use Rattle.ash_host.specs.Limits.{max_elements}
use Rattle.ash_objects.specs.Arrays.{array_at, with_elements}
use Rattle.ash_objects.specs.Table.{with_object, holds_of}
use Rattle.ash_run_steps.specs.ArrayGuards.{insert_last, stop_of_length}
use Rattle.ash_run_steps.specs.PartSteps.{words_at}
use Rattle.ash_run_steps.specs.RunStates.{state_with, bare, is_alive_in}
use Rattle.ash_run_steps.proofs.ArraySteps.{some_array, array_words, insert_gives, insert_ends, insert_lacks, insert_dangles, stops_by}
use Rattle.ash_run_steps.proofs.ChangedObjects.{changed_holds}
use Rattle.ash_run_steps.proofs.state.RunState.insert_last.Goals as goal

pub returns-then-not-is_array-clause-inserted : goal.returns-then-not-is_array-clause-inserted
returns-then-not-is_array-clause-inserted g c = λ names.
    let s = c.self.inside in
    let no : c.is_array.result ≡ false = search rules in
    rw (← c.self.view_is) (insert_lacks g.B.HostObject names (state_with s.table s.stack s.globals.items s.outside.items s.events.items s.ticks) c.args.number c.args.word (sym c.is_array.ensures.array ∙ no))

pub returns-then-not-is_alive-clause-inserted : goal.returns-then-not-is_alive-clause-inserted
returns-then-not-is_alive-clause-inserted g c = λ names.
    let s = c.self.inside in
    let lacks : is_alive_in c.args.word s.table ≡ false = search rules in
    rw (← c.self.view_is) (insert_dangles g.B.HostObject names (state_with s.table s.stack s.globals.items s.outside.items s.events.items s.ticks) c.args.number c.args.word lacks)

pub returns-in_err-insert_last-clause-inserted : goal.returns-in_err-insert_last-clause-inserted
returns-in_err-insert_last-clause-inserted g c = λ names.
    let s = c.self.inside in
    let yes : c.is_array.result ≡ true = search rules in
    let there = some_array (array_at c.args.number s.table) (sym c.is_array.ensures.array ∙ yes) in
    let same = array_words c.args.number there.0 s.table there.1 in
    let e = c.in_err-insert_last.ensures in
    let fault = c.in_err-insert_last.field-0.0 in
    let long = rw there.1 at e.long.0 in
    rw (← c.self.view_is, e.unchanged) (stops_by g.B.HostObject names (state_with s.table s.stack s.globals.items s.outside.items s.events.items s.ticks) (insert_last c.args.number c.args.word) (stop_of_length fault) c.from_residual.result c.from_residual.ensures.1
    (insert_ends g.B.HostObject names (state_with s.table s.stack s.globals.items s.outside.items s.events.items s.ticks) c.args.number c.args.word there.0 there.1 ((c.facts.ensures.sound).numbered).in_order fault (λ is. rw same (long (ap Err is)))))

pub invariant_of-self-2 : goal.invariant_of-self-2
invariant_of-self-2 g c = λ m.
    let s = c.self.inside in
    let yes : c.is_array.result ≡ true = search rules in
    let there = some_array (array_at c.args.number s.table) (sym c.is_array.ensures.array ∙ yes) in
    let new = rw there.1 at c.in_ok-insert_last.ensures.inserted in
    ap (holds_of m) new ∙ changed_holds (with_elements (there.0.elements ++ c.args.word ∷ [])) c.args.number (λ _. refl) m s.table ∙ c.self.invariant m

pub returns-clause-inserted : goal.returns-clause-inserted
returns-clause-inserted g c = λ names.
    let s = c.self.inside in
    let yes : c.is_array.result ≡ true = search rules in
    let there = some_array (array_at c.args.number s.table) (sym c.is_array.ensures.array ∙ yes) in
    let same = array_words c.args.number there.0 s.table there.1 in
    let e = c.in_ok-insert_last.ensures in
    let new = rw there.1 at e.inserted in
    let long = rw there.1 at e.long.1 in
    let few : max_elements ≤ length (words_at c.args.number s.table) → ⊥ = λ full. (let no = long (rw same at full) in absurd (cc)) in
    rw (← c.self.view_is) (insert_gives g.B.HostObject names c.args.number (state_with s.table s.stack s.globals.items s.outside.items s.events.items s.ticks) there.0 there.1 ((c.facts.ensures.sound).numbered).in_order c.args.word c.insert_last.new.self few
    (ap bare (new ∙ ap (λ (ws : List Word). with_object c.args.number (with_elements (ws ++ c.args.word ∷ [])) s.table) (sym same))))
