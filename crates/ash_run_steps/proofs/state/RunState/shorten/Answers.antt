use Rattle.std.proofs.Common.{◌≡◌, ◌≤◌, ◌<◌, ◌∙◌, ◌+◌, List, refl, sym, ap, length, take, drop, reverse, arith}
use Rattle.std.specs.Prelude.{All}
use Rattle.std.proofs.lemmas.List.{length-reverse, length-drop}
use Rattle.ash_host.specs.declared.word.Word.{Word}
use Rattle.ash_host.specs.ElementTags.{initial_of}
use Rattle.ash_host.specs.Limits.{max_elements}
use Rattle.ash_host.specs.Objects.{handles, Lives}
use Rattle.ash_objects.specs.Arrays.{array_at, with_elements}
use Rattle.ash_objects.specs.Table.{with_object}
use Rattle.ash_run_steps.specs.Keeping.{keeping}
use Rattle.ash_run_steps.specs.PartSteps.{words_at}
use Rattle.ash_run_steps.specs.RunStates.{state_with}
use Rattle.ash_run_steps.specs.Stacks.{Frames}
use Rattle.ash_run_steps.proofs.ArraySteps.{some_array, array_words, resize_gives, resized_shorter, all_lives, all_reversed, more_reversed, pushed, got_behind, words_few}
use Rattle.ash_run_steps.proofs.ChangedObjects.{changed_holds, changed_alive}
use Rattle.ash_run_steps.proofs.PartSteps.{part_alive}
use Rattle.ash_run_steps.proofs.HoldSteps.{at_table}
use Rattle.ash_run_steps.proofs.Roots.{few_holds, counts_more, times_holding, holding}
use Rattle.ash_run_steps.proofs.Stacking.{handles_few}
use Rattle.ash_run_steps.proofs.state.RunState.shorten.Goals as goal

pub hold_numbers-requires-clause-alive : goal.hold_numbers-requires-clause-alive
hold_numbers-requires-clause-alive g c =
    let s = c.self.inside in
    let array = rw (← c.self.view_is) at c.requires.array in
    let there = some_array (array_at c.args.number s.table) array in
    let same = array_words c.args.number there.0 s.table there.1 in
    let all = words_at c.args.number s.table in
    let len = c.args.len in
    let fewer : len < length all = rw (← c.self.view_is) at c.requires.fewer in
    let left = take len all in
    let ns = handles (drop len all) in
    let fits : len ≤ length there.0.elements = omega (arith, ap length same) in
    let new : c.resize.new.self ≡ with_object c.args.number (with_elements left) s.table = (rw there.1 at c.in-Ok.ensures.shorter) fits ∙ ap (λ (ws : List Word). with_object c.args.number (with_elements (take len ws)) s.table) (sym same) in
    let held : c.push_handles.new.self ≡ keeping ns s.stack = c.in_ok-push_handles.ensures.held ∙ ap (λ (ws : List Word). keeping (handles ws) s.stack) c.words_from.ensures.words in
    let before : length c.held-before.result.now ≡ length (reverse (s.stack.frame).held) = ap length c.held-before.ensures.held in
    let taken : c.numbers_from.result.now ≡ reverse ns =
    c.numbers_from.ensures.numbers ∙ ap (drop (length c.held-before.result.now)) (c.held.ensures.held ∙ ap (λ (f : Frames). reverse (f.frame).held) held) ∙ pushed ns (s.stack.frame).held (length c.held-before.result.now) before in
    let table = with_object c.args.number (with_elements left) s.table in
    let each : All (Lives table.objects) ns = all_lives table (drop len all) (λ k w at. changed_alive (with_elements left) c.args.number w s.table ∙ part_alive s.table (c.facts.ensures.sound).alive c.args.number (len + k) w (got_behind all len k w at)) in
    rw (new, taken) (all_reversed (Lives table.objects) ns each)

pub hold_numbers-requires-clause-few : goal.hold_numbers-requires-clause-few
hold_numbers-requires-clause-few g c = λ m.
    let s = c.self.inside in
    let array = rw (← c.self.view_is) at c.requires.array in
    let there = some_array (array_at c.args.number s.table) array in
    let same = array_words c.args.number there.0 s.table there.1 in
    let all = words_at c.args.number s.table in
    let len = c.args.len in
    let fewer : len < length all = rw (← c.self.view_is) at c.requires.fewer in
    let left = take len all in
    let ns = handles (drop len all) in
    let fits : len ≤ length there.0.elements = omega (arith, ap length same) in
    let new : c.resize.new.self ≡ with_object c.args.number (with_elements left) s.table = (rw there.1 at c.in-Ok.ensures.shorter) fits ∙ ap (λ (ws : List Word). with_object c.args.number (with_elements (take len ws)) s.table) (sym same) in
    let held : c.push_handles.new.self ≡ keeping ns s.stack = c.in_ok-push_handles.ensures.held ∙ ap (λ (ws : List Word). keeping (handles ws) s.stack) c.words_from.ensures.words in
    let before : length c.held-before.result.now ≡ length (reverse (s.stack.frame).held) = ap length c.held-before.ensures.held in
    let taken : c.numbers_from.result.now ≡ reverse ns =
    c.numbers_from.ensures.numbers ∙ ap (drop (length c.held-before.result.now)) (c.held.ensures.held ∙ ap (λ (f : Frames). reverse (f.frame).held) held) ∙ pushed ns (s.stack.frame).held (length c.held-before.result.now) before in
    let many = ap length taken in
    rw new (omega (arith, many, length-reverse ns, handles_few (drop len all), length-drop len all, changed_holds (with_elements left) c.args.number (λ _. refl) m s.table, few_holds m (state_with s.table s.stack s.globals.items s.outside.items s.events.items s.ticks) c.self.invariant, s.globals.ok.0, s.outside.ok.0, c.facts-2.ensures.few, c.numbers_from.type_inv.0))

pub invariant_of-self-2 : goal.invariant_of-self-2
invariant_of-self-2 g c =
    let s = c.self.inside in
    let array = rw (← c.self.view_is) at c.requires.array in
    let there = some_array (array_at c.args.number s.table) array in
    let same = array_words c.args.number there.0 s.table there.1 in
    let all = words_at c.args.number s.table in
    let len = c.args.len in
    let fewer : len < length all = rw (← c.self.view_is) at c.requires.fewer in
    let left = take len all in
    let ns = handles (drop len all) in
    let fits : len ≤ length there.0.elements = omega (arith, ap length same) in
    let new : c.resize.new.self ≡ with_object c.args.number (with_elements left) s.table = (rw there.1 at c.in-Ok.ensures.shorter) fits ∙ ap (λ (ws : List Word). with_object c.args.number (with_elements (take len ws)) s.table) (sym same) in
    let held : c.push_handles.new.self ≡ keeping ns s.stack = c.in_ok-push_handles.ensures.held ∙ ap (λ (ws : List Word). keeping (handles ws) s.stack) c.words_from.ensures.words in
    let before : length c.held-before.result.now ≡ length (reverse (s.stack.frame).held) = ap length c.held-before.ensures.held in
    let taken : c.numbers_from.result.now ≡ reverse ns =
    c.numbers_from.ensures.numbers ∙ ap (drop (length c.held-before.result.now)) (c.held.ensures.held ∙ ap (λ (f : Frames). reverse (f.frame).held) held) ∙ pushed ns (s.stack.frame).held (length c.held-before.result.now) before in
    let old = state_with s.table s.stack s.globals.items s.outside.items s.events.items s.ticks in
    let mid = at_table (with_object c.args.number (with_elements left) s.table) old in
    let more = more_reversed ns mid.table c.hold_numbers.new.table (rw (taken, new) at c.hold_numbers.ensures.held) in
    rw held (counts_more ns mid (at_table c.hold_numbers.new.table (holding ns old)) more (λ m. times_holding m ns old)
    (λ m. changed_holds (with_elements left) c.args.number (λ _. refl) m s.table ∙ c.self.invariant m))

pub returns-clause-shortened : goal.returns-clause-shortened
returns-clause-shortened g c = λ names.
    let s = c.self.inside in
    let array = rw (← c.self.view_is) at c.requires.array in
    let there = some_array (array_at c.args.number s.table) array in
    let same = array_words c.args.number there.0 s.table there.1 in
    let all = words_at c.args.number s.table in
    let len = c.args.len in
    let fewer : len < length all = rw (← c.self.view_is) at c.requires.fewer in
    let left = take len all in
    let ns = handles (drop len all) in
    let fits : len ≤ length there.0.elements = omega (arith, ap length same) in
    let new : c.resize.new.self ≡ with_object c.args.number (with_elements left) s.table = (rw there.1 at c.in-Ok.ensures.shorter) fits ∙ ap (λ (ws : List Word). with_object c.args.number (with_elements (take len ws)) s.table) (sym same) in
    let held : c.push_handles.new.self ≡ keeping ns s.stack = c.in_ok-push_handles.ensures.held ∙ ap (λ (ws : List Word). keeping (handles ws) s.stack) c.words_from.ensures.words in
    let before : length c.held-before.result.now ≡ length (reverse (s.stack.frame).held) = ap length c.held-before.ensures.held in
    let taken : c.numbers_from.result.now ≡ reverse ns =
    c.numbers_from.ensures.numbers ∙ ap (drop (length c.held-before.result.now)) (c.held.ensures.held ∙ ap (λ (f : Frames). reverse (f.frame).held) held) ∙ pushed ns (s.stack.frame).held (length c.held-before.result.now) before in
    let more = rw (taken, new) at c.hold_numbers.ensures.held in
    let short : len ≤ max_elements = omega (arith, fewer, words_few c.args.number s.table ((c.facts.ensures.sound).short c.args.number)) in
    rw (← c.self.view_is, held) (resize_gives g.B.HostObject names c.args.number (state_with s.table s.stack s.globals.items s.outside.items s.events.items s.ticks) there.0 there.1 ((c.facts.ensures.sound).numbered).in_order len left c.hold_numbers.new.table short (resized_shorter len (initial_of there.0.element) all (omega arith)) more.same)
