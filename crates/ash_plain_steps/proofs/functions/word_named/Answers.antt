use Rattle.std.proofs.Common.{◌≡◌, ◌+◌, ℕ, List, length, drop, map, sym, ◌∙◌, ap, arith}
use Rattle.std.specs.List.{position_from}
use Rattle.std.specs.Str.{bytes_eq}
use Rattle.std.proofs.lemmas.List.{length-map}
use Rattle.ash_typed.specs.BodyViews.{value_of}
use Rattle.ash_typed.specs.Modules.{variables_of}
use Rattle.ash_typed.specs.SoundModules.{name_of_variable}
use Rattle.ash_plain_steps.specs.TaskViews.{word_among}
use Rattle.ash_plain_steps.proofs.Drops.{at_place, past}
use Rattle.ash_plain_steps.proofs.Words.{word_here, word_past}
use Rattle.ash_plain_steps.proofs.functions.word_named.Goals as goal

pub returns-in-Some : goal.returns-in-Some
returns-in-Some c = record {
  value =
      let item = c.declaration-item.result in
      let ds = c.args.declarations.now in
      let i = c.loop-declaration.declaration-index in
      let name = c.args.name.now in
      let words = c.loop-declaration.words.now in
      let found = c.in-Some.ensures.value ∙ ap (λ (l : List _). position_from (λ other. bytes_eq other name) 0 (map name_of_variable (map value_of l))) c.deref.ensures.value in
      c.word_at.ensures.value
      ∙ sym (word_here name (variables_of item) (map variables_of (drop (i + 1) ds)) words c.in-Some.place (sym found))
      ∙ ap (λ (l : List _). word_among name (map variables_of l) words) (sym (at_place ds i item c.loop-declaration-test.true c.declaration-item.is))
      ∙ c.loop-declaration.invariant;
}

pub loop-declaration-preserved : goal.loop-declaration-preserved
loop-declaration-preserved c =
    let item = c.declaration-item.result in
    let ds = c.args.declarations.now in
    let i = c.loop-declaration.declaration-index in
    let name = c.args.name.now in
    let words = c.loop-declaration.words.now in
    let found = c.in-None.ensures.value ∙ ap (λ (l : List _). position_from (λ other. bytes_eq other name) 0 (map name_of_variable (map value_of l))) c.deref.ensures.value in
    let count : c.len.result ≡ length (variables_of item).values = omega (arith, c.len.ensures, item.initializations.ok.0, length-map item.initializations.items value_of) in
    ap (λ (l : List _). word_among name (map variables_of (drop (i + 1) ds)) l) (c.after-words.ensures.value ∙ ap (λ (n : ℕ). drop n words) count)
    ∙ sym (word_past name (variables_of item) (map variables_of (drop (i + 1) ds)) words (sym found))
    ∙ ap (λ (l : List _). word_among name (map variables_of l) words) (sym (at_place ds i item c.loop-declaration-test.true c.declaration-item.is))
    ∙ c.loop-declaration.invariant

pub returns : goal.returns
returns c = record {
  value =
      ap (λ (l : List _). word_among c.args.name.now (map variables_of l) c.loop-declaration.words.now) (sym (past c.args.declarations.now c.loop-declaration.declaration-index c.loop-declaration-test.false))
      ∙ c.loop-declaration.invariant;
}
