use Rattle.std.proofs.Common.{◌≡◌, ◌<◌, ◌-◌, ◌∷◌, ◌∙◌, [], ℕ, List, true, false, refl, sym, ap, length, take, drop, get_or, arith, rules}
use Rattle.std.specs.Prelude.{Some, slice_get}
use Rattle.std.proofs.lemmas.Option.{slice_get-get_or}
use Rattle.ash_host.specs.declared.word.Word.{Word}
use Rattle.ash_host.specs.declared.word.Word.TheVariants.{Bool}
use Rattle.ash_host.specs.Objects.{handles}
use Rattle.ash_meaning.specs.ArraySteps as arrays
use Rattle.ash_objects.specs.Arrays.{array_at, with_elements}
use Rattle.ash_objects.specs.Table.{with_object, holds_of}
use Rattle.ash_run_steps.specs.PartSteps.{words_at}
use Rattle.ash_run_steps.specs.RunStates.{state_with, is_alive_in}
use Rattle.ash_run_steps.proofs.ArraySteps.{some_array, array_words, remove_gives, remove_empty, not_array, last_drop}
use Rattle.ash_run_steps.proofs.ChangedObjects.{changed_holds, changed_alive}
use Rattle.ash_run_steps.proofs.PartSteps.{part_alive}
use Rattle.ash_run_steps.proofs.HoldSteps.{at_table}
use Rattle.ash_run_steps.proofs.Roots.{few_holds, counts_more, times_holding, holding}
use Rattle.ash_run_steps.proofs.state.RunState.remove_last.Goals as goal

pub returns-then-not-is_array-clause-removed : goal.returns-then-not-is_array-clause-removed
returns-then-not-is_array-clause-removed g c = λ names.
    let s = c.self.inside in
    let no : c.is_array.result ≡ false = search rules in
    rw (← c.self.view_is) (not_array g.B.HostObject names c.args.number (state_with s.table s.stack s.globals.items s.outside.items s.events.items s.ticks) (arrays.remove_last c.args.number) (sym c.is_array.ensures.array ∙ no))

pub returns-in_default-clause-removed : goal.returns-in_default-clause-removed
returns-in_default-clause-removed g c = λ names.
    let s = c.self.inside in
    let many = ap length c.words_at-words.ensures.words in
    let none : length (words_at c.args.number s.table) ≡ 0 = omega (arith, c.in_default.ensures) in
    rw (← c.self.view_is) (remove_empty g.B.HostObject names (state_with s.table s.stack s.globals.items s.outside.items s.events.items s.ticks) c.args.number none)

pub hold_word-requires-clause-alive : goal.hold_word-requires-clause-alive
hold_word-requires-clause-alive g c =
    let s = c.self.inside in
    let all = words_at c.args.number s.table in
    let last = c.in-Some.last in
    let word = get_or c.words_at-words.result.now last (Bool false) in
    let many = ap length c.words_at-words.ensures.words in
    let is : last ≡ length all - 1 = omega (arith, c.in-Some.ensures) in
    let some : 0 < length all = omega (arith, c.in-Some.ensures) in
    let yes : c.is_array.result ≡ true = search rules in
    let there = some_array (array_at c.args.number s.table) (sym c.is_array.ensures.array ∙ yes) in
    let same = array_words c.args.number there.0 s.table there.1 in
    let left = take (length all - 1) all in
    let new : c.remove_last.new.self ≡ with_object c.args.number (with_elements left) s.table = rw there.1 at c.in-Ok.ensures.removed ∙ ap (λ (ws : List Word). with_object c.args.number (with_elements (take (length ws - 1) ws)) s.table) (sym same) in
    let at : slice_get all last ≡ Some word = slice_get-get_or all last (Bool false) (omega arith) ∙ ap (λ (ws : List Word). Some (get_or ws last (Bool false))) (sym c.words_at-words.ensures.words) in
    ap (is_alive_in word) new ∙ changed_alive (with_elements left) c.args.number word s.table ∙ part_alive s.table (c.facts.ensures.sound).alive c.args.number last word at

pub hold_word-requires-clause-few : goal.hold_word-requires-clause-few
hold_word-requires-clause-few g c = λ m.
    let s = c.self.inside in
    let all = words_at c.args.number s.table in
    let last = c.in-Some.last in
    let word = get_or c.words_at-words.result.now last (Bool false) in
    let many = ap length c.words_at-words.ensures.words in
    let is : last ≡ length all - 1 = omega (arith, c.in-Some.ensures) in
    let some : 0 < length all = omega (arith, c.in-Some.ensures) in
    let yes : c.is_array.result ≡ true = search rules in
    let there = some_array (array_at c.args.number s.table) (sym c.is_array.ensures.array ∙ yes) in
    let same = array_words c.args.number there.0 s.table there.1 in
    let left = take (length all - 1) all in
    let new : c.remove_last.new.self ≡ with_object c.args.number (with_elements left) s.table = rw there.1 at c.in-Ok.ensures.removed ∙ ap (λ (ws : List Word). with_object c.args.number (with_elements (take (length ws - 1) ws)) s.table) (sym same) in
    omega (arith, ap (holds_of m) new, changed_holds (with_elements left) c.args.number (λ _. refl) m s.table, few_holds m (state_with s.table s.stack s.globals.items s.outside.items s.events.items s.ticks) c.self.invariant, s.globals.ok.0, s.outside.ok.0, c.facts-2.ensures.few)

pub invariant_of-self-2 : goal.invariant_of-self-2
invariant_of-self-2 g c =
    let s = c.self.inside in
    let all = words_at c.args.number s.table in
    let last = c.in-Some.last in
    let word = get_or c.words_at-words.result.now last (Bool false) in
    let many = ap length c.words_at-words.ensures.words in
    let is : last ≡ length all - 1 = omega (arith, c.in-Some.ensures) in
    let some : 0 < length all = omega (arith, c.in-Some.ensures) in
    let yes : c.is_array.result ≡ true = search rules in
    let there = some_array (array_at c.args.number s.table) (sym c.is_array.ensures.array ∙ yes) in
    let same = array_words c.args.number there.0 s.table there.1 in
    let left = take (length all - 1) all in
    let new : c.remove_last.new.self ≡ with_object c.args.number (with_elements left) s.table = rw there.1 at c.in-Ok.ensures.removed ∙ ap (λ (ws : List Word). with_object c.args.number (with_elements (take (length ws - 1) ws)) s.table) (sym same) in
    let old = state_with s.table s.stack s.globals.items s.outside.items s.events.items s.ticks in
    let mid = at_table (with_object c.args.number (with_elements left) s.table) old in
    let ns = handles (word ∷ []) in
    let more = rw new at c.hold_word.ensures.held in
    rw c.in_ok-push_handle.ensures.held (counts_more ns mid (at_table c.hold_word.new.table (holding ns old)) more (λ m. times_holding m ns old)
    (λ m. changed_holds (with_elements left) c.args.number (λ _. refl) m s.table ∙ c.self.invariant m))

pub returns-clause-removed : goal.returns-clause-removed
returns-clause-removed g c = λ names.
    let s = c.self.inside in
    let all = words_at c.args.number s.table in
    let last = c.in-Some.last in
    let word = get_or c.words_at-words.result.now last (Bool false) in
    let many = ap length c.words_at-words.ensures.words in
    let is : last ≡ length all - 1 = omega (arith, c.in-Some.ensures) in
    let some : 0 < length all = omega (arith, c.in-Some.ensures) in
    let yes : c.is_array.result ≡ true = search rules in
    let there = some_array (array_at c.args.number s.table) (sym c.is_array.ensures.array ∙ yes) in
    let same = array_words c.args.number there.0 s.table there.1 in
    let left = take (length all - 1) all in
    let new : c.remove_last.new.self ≡ with_object c.args.number (with_elements left) s.table = rw there.1 at c.in-Ok.ensures.removed ∙ ap (λ (ws : List Word). with_object c.args.number (with_elements (take (length ws - 1) ws)) s.table) (sym same) in
    let taken : drop (length all - 1) all ≡ get_or all (length all - 1) (Bool false) ∷ [] = last_drop all (length all - 1) (Bool false) (omega arith) in
    let one : word ≡ get_or all (length all - 1) (Bool false) = ap (λ (k : ℕ). get_or c.words_at-words.result.now k (Bool false)) is ∙ ap (λ (ws : List Word). get_or ws (length all - 1) (Bool false)) c.words_at-words.ensures.words in
    let are : handles (word ∷ []) ≡ handles (drop (length all - 1) all) = ap (λ (w : Word). handles (w ∷ [])) one ∙ sym (ap handles taken) in
    let more = rw new at c.hold_word.ensures.held in
    rw (← c.self.view_is, c.in_ok-push_handle.ensures.held) (remove_gives g.B.HostObject names c.args.number (state_with s.table s.stack s.globals.items s.outside.items s.events.items s.ticks) there.0 there.1 ((c.facts.ensures.sound).numbered).in_order (handles (word ∷ [])) c.hold_word.new.table some are more.same)
