use Rattle.std.proofs.Common.{◌≡◌, ◌++◌, ℕ, List, length, get_or, take, sym, ap, ◌∙◌, subst, arith}
use Rattle.std.specs.Prelude.{All, IsTrue}
use Rattle.std.proofs.lemmas.List.{take_all}
use Rattle.ash_host.specs.declared.word.Word.{Word}
use Rattle.ash_host.specs.Objects.{handles}
use Rattle.ash_requests.specs.States.{globals_of}
use Rattle.ash_plain_steps.specs.declared.state.LoadedModule.{LoadedModule}
use Rattle.ash_plain_steps.specs.StateViews.{modules_seen}
use Rattle.ash_run_steps.specs.RunStates.{is_alive_in, HoldsMore}
use Rattle.ash_run_steps.proofs.Roots.{more_none, more_then}
use Rattle.ash_engine.proofs.HeldGlobals.{roots_step, alive_here, few_here}
use Rattle.ash_engine.proofs.starting.hold_globals.Goals as goal

pub loop-module-init : goal.loop-module-init
loop-module-init g c = more_none c.args.table.now

pub hold_words-requires-clause-alive : goal.hold_words-requires-clause-alive
hold_words-requires-clause-alive g c =
    let ms = c.args.modules.now in
    let i = c.loop-module.module-index in
    let m = c.module-item.result in
    subst (λ (ws : List Word). All (λ (word : Word). IsTrue (is_alive_in word c.loop-module.table)) ws)
    (ap (λ (x : LoadedModule). x.globals.items) (sym c.module-item.is) ∙ sym c.deref.ensures.value)
    (alive_here ms i m c.loop-module-test.true c.args.table.now c.loop-module.table c.requires.alive c.loop-module.invariant)

pub hold_words-requires-clause-few : goal.hold_words-requires-clause-few
hold_words-requires-clause-few g c = λ n.
    let ms = c.args.modules.now in
    let i = c.loop-module.module-index in
    let m = c.module-item.result in
    let words : length (get_or ms i m).globals.items ≡ length c.deref.result.now =
    ap (λ (x : LoadedModule). length x.globals.items) (sym c.module-item.is) ∙ ap (length {A = Word}) (sym c.deref.ensures.value) in
    let few = few_here ms i m c.loop-module-test.true c.args.table.now c.loop-module.table n (c.requires.none n) c.loop-module.invariant c.requires.short c.requires.few in
    omega (arith, few, words)

pub loop-module-preserved : goal.loop-module-preserved
loop-module-preserved g c =
    let ms = c.args.modules.now in
    let i = c.loop-module.module-index in
    let m = c.module-item.result in
    let words : handles c.deref.result.now ≡ handles (get_or ms i m).globals.items =
    ap handles c.deref.ensures.value ∙ ap (λ (x : LoadedModule). handles x.globals.items) c.module-item.is in
    let before = handles (globals_of (modules_seen (take i ms))) in
    subst (λ (ns : List ℕ). HoldsMore ns c.args.table.now c.hold_words.new.table)
    (ap (λ (ns : List ℕ). before ++ ns) words ∙ sym (roots_step ms i m c.loop-module-test.true))
    (more_then before (handles c.deref.result.now) c.args.table.now c.loop-module.table c.hold_words.new.table c.loop-module.invariant c.hold_words.ensures.held)

pub returns : goal.returns
returns g c = record { held = rw (take_all c.loop-module.module-index c.args.modules.now c.loop-module-test.false) at c.loop-module.invariant }
