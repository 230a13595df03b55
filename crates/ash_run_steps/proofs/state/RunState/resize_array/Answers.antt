use Rattle.std.proofs.Common.{◌≡◌, ◌≤◌, ◌<◌, ◌∙◌, true, false, refl, sym, ap, length, arith, rules}
use Rattle.ash_host.specs.ElementTags.{initial_of}
use Rattle.ash_host.specs.Limits.{max_elements}
use Rattle.ash_meaning.specs.ArraySteps as arrays
use Rattle.ash_meaning.specs.ArraySteps.{resized, natural_of}
use Rattle.ash_slots.specs.SlotArrays.{lengthened}
use Rattle.ash_objects.specs.Arrays.{array_at, with_elements}
use Rattle.ash_objects.specs.Table.{with_object, holds_of}
use Rattle.ash_run_steps.specs.PartSteps.{words_at}
use Rattle.ash_run_steps.specs.RunStates.{state_with}
use Rattle.ash_run_steps.proofs.ArraySteps.{some_array, array_words, not_array, resize_long, resize_comes, resize_guarded, resize_stays, resized_longer, resized_table}
use Rattle.ash_run_steps.proofs.ChangedObjects.{changed_holds}
use Rattle.ash_run_steps.proofs.state.RunState.resize_array.Goals as goal

pub returns-then-not-is_array-clause-resized : goal.returns-then-not-is_array-clause-resized
returns-then-not-is_array-clause-resized g c = λ names.
    let s = c.self.inside in
    let no : c.is_array.result ≡ false = search rules in
    rw (← c.self.view_is) (not_array g.B.HostObject names c.args.number (state_with s.table s.stack s.globals.items s.outside.items s.events.items s.ticks) (arrays.resize c.args.number (natural_of c.args.count)) (sym c.is_array.ensures.array ∙ no))

pub returns-then-count-clause-resized : goal.returns-then-count-clause-resized
returns-then-count-clause-resized g c = λ names.
    let s = c.self.inside in
    let long : max_elements < natural_of c.args.count = omega (arith, c.natural_of-count.ensures.natural, c.if-count.true) in
    rw (← c.self.view_is) (resize_long g.B.HostObject names (state_with s.table s.stack s.globals.items s.outside.items s.events.items s.ticks) c.args.number c.args.count long)

pub returns-then-len-words_at-clause-resized : goal.returns-then-len-words_at-clause-resized
returns-then-len-words_at-clause-resized g c = λ names.
    resize_comes g.B.HostObject names c.args.self.now c.args.number c.args.count c.shorten.result c.shorten.new.self (rw c.natural_of-count.ensures.natural at (c.shorten.ensures.shortened names))

pub invariant_of-self-2 : goal.invariant_of-self-2
invariant_of-self-2 g c = λ m.
    let s = c.self.inside in
    let yes : c.is_array.result ≡ true = search rules in
    let there = some_array (array_at c.args.number s.table) (sym c.is_array.ensures.array ∙ yes) in
    let same = array_words c.args.number there.0 s.table there.1 in
    let all = words_at c.args.number s.table in
    let len = c.natural_of-count.result in
    let enough : length all ≤ len = rw c.words_at.ensures.words at c.if-len-words_at.false in
    let many : length there.0.elements ≤ len = omega (arith, enough, ap length same) in
    let ws = resized len (initial_of there.0.element) all in
    let grown : lengthened len there.0 ≡ ws = resized_longer len there.0 many ∙ ap (resized len (initial_of there.0.element)) (sym same) in
    let new : c.resize.new.self ≡ with_object c.args.number (with_elements ws) s.table = resized_table c.args.number len there.0 s.table c.resize.new.self ws grown many (rw there.1 at c.in_ok-resize.ensures.shorter) (rw there.1 at c.in_ok-resize.ensures.longer) in
    ap (holds_of m) new ∙ changed_holds (with_elements ws) c.args.number (λ _. refl) m s.table ∙ c.self.invariant m

pub returns-clause-resized : goal.returns-clause-resized
returns-clause-resized g c = λ names.
    let s = c.self.inside in
    let yes : c.is_array.result ≡ true = search rules in
    let there = some_array (array_at c.args.number s.table) (sym c.is_array.ensures.array ∙ yes) in
    let same = array_words c.args.number there.0 s.table there.1 in
    let all = words_at c.args.number s.table in
    let len = c.natural_of-count.result in
    let enough : length all ≤ len = rw c.words_at.ensures.words at c.if-len-words_at.false in
    let many : length there.0.elements ≤ len = omega (arith, enough, ap length same) in
    let ws = resized len (initial_of there.0.element) all in
    let grown : lengthened len there.0 ≡ ws = resized_longer len there.0 many ∙ ap (resized len (initial_of there.0.element)) (sym same) in
    let new : c.resize.new.self ≡ with_object c.args.number (with_elements ws) s.table = resized_table c.args.number len there.0 s.table c.resize.new.self ws grown many (rw there.1 at c.in_ok-resize.ensures.shorter) (rw there.1 at c.in_ok-resize.ensures.longer) in
    let is = c.natural_of-count.ensures.natural in
    let stays = resize_stays g.B.HostObject names c.args.number (state_with s.table s.stack s.globals.items s.outside.items s.events.items s.ticks) there.0 there.1 ((c.facts.ensures.sound).numbered).in_order len ws c.resize.new.self c.if-count.false enough refl new in
    rw (← c.self.view_is) (resize_guarded g.B.HostObject names (state_with s.table s.stack s.globals.items s.outside.items s.events.items s.ticks) c.args.number c.args.count _ _ (rw is at stays))
