use Rattle.std.proofs.Common.{◌≡◌, ◌<◌, ◌≤◌, ℕ, true, false, List, length, get_or, Some, None, sym, ap, ◌∙◌, subst, slice_get, nat_eq, arith}
use Rattle.std.specs.Prelude.{IfOk, string_bytes, option_map}
use Rattle.std.specs.Borrow.{Bor}
use Rattle.std.proofs.lemmas.Bool.Decides.{nat_tests}
use Rattle.std.proofs.lemmas.List.{length-map}
use Rattle.ash_code.specs.declared.code.CodeParts.{CodeParts}
use Rattle.ash_plain_steps.specs.declared.state.LoadedModule.{LoadedModule}
use Rattle.ash_plain_steps.specs.StateViews.{loaded_seen, modules_seen}
use Rattle.ash_plain_steps.proofs.ShownObjects.{got_seen}
use Rattle.ash_engine.specs.declared.live.Compiled.{Compiled}
use Rattle.ash_engine.specs.TableStates.{slots_of}
use Rattle.ash_engine.proofs.SlotSearches.{passed, reached, missed, ended, slot_at}
use Rattle.ash_engine.proofs.showing.module_name.Goals as goal

pub returns-in-Some : goal.returns-in-Some
returns-in-Some g c =
    let live = c.args.live.now in
    let cs = live.compiled.items in
    let i = c.loop-place.place in
    let one = c.compiled-item.result in
    let within : i < length cs = subst (λ (l : List Compiled). i < length l) c.deref-compiled-items.ensures.value c.loop-place-test.true in
    let in_slot = slot_at cs i one within (subst (λ (l : List Compiled). one ≡ get_or l i one) c.deref-compiled-items.ensures.value c.compiled-item.is) in
    let own : c.parts.result.now.module ≡ one.code.module = ap (λ (p : CodeParts). p.module) c.parts.ensures.parts in
    let same : nat_eq c.args.slot one.code.module ≡ true = grind (arith, nat_tests, own, c.if-parts-slot.true) in
    let m = c.in-Some.m.now in
    let there : slice_get (modules_seen live.loaded.modules.items) i ≡ Some (loaded_seen m) =
    ap (λ (l : List LoadedModule). slice_get (modules_seen l) i) (sym c.deref.ensures.value)
    ∙ sym (got_seen loaded_seen c.deref.result.now i c.get.result c.get.ensures.lookup)
    ∙ ap (option_map (λ (x : Bor LoadedModule). loaded_seen x.now)) c.in-Some.is in
    let is = c.as_str.ensures.value ∙ reached c.args.slot (modules_seen live.loaded.modules.items) (slots_of cs) i one.code.module (loaded_seen m) in_slot same there ∙ c.loop-place.invariant in
    record { name = subst (λ (x : List ℕ). IfOk c.from_str.result (λ name. string_bytes name ≡ x)) is c.from_str.ensures.ok }

pub returns-in-None : goal.returns-in-None
returns-in-None g c =
    let live = c.args.live.now in
    let i = c.loop-place.place in
    let there : slice_get (modules_seen live.loaded.modules.items) i ≡ None =
    ap (λ (l : List LoadedModule). slice_get (modules_seen l) i) (sym c.deref.ensures.value)
    ∙ sym (got_seen loaded_seen c.deref.result.now i c.get.result c.get.ensures.lookup)
    ∙ ap (option_map (λ (x : Bor LoadedModule). loaded_seen x.now)) c.in-None.is in
    record { name = c.new.ensures.bytes ∙ missed c.args.slot (modules_seen live.loaded.modules.items) (slots_of live.compiled.items) i there ∙ c.loop-place.invariant }

pub returns : goal.returns
returns g c =
    let live = c.args.live.now in
    let cs = live.compiled.items in
    let past = subst (λ (l : List Compiled). length l ≤ c.loop-place.place) c.deref-compiled-items.ensures.value c.loop-place-test.false in
    record { name = c.new-2.ensures.bytes ∙ ended c.args.slot (modules_seen live.loaded.modules.items) (slots_of cs) c.loop-place.place (omega (arith, past, length-map cs (λ (x : Compiled). x.code.module))) ∙ c.loop-place.invariant }

pub loop-place-preserved : goal.loop-place-preserved
loop-place-preserved g c =
    let live = c.args.live.now in
    let cs = live.compiled.items in
    let i = c.loop-place.place in
    let one = c.compiled-item.result in
    let within : i < length cs = subst (λ (l : List Compiled). i < length l) c.deref-compiled-items.ensures.value c.loop-place-test.true in
    let in_slot = slot_at cs i one within (subst (λ (l : List Compiled). one ≡ get_or l i one) c.deref-compiled-items.ensures.value c.compiled-item.is) in
    let own : c.parts.result.now.module ≡ one.code.module = ap (λ (p : CodeParts). p.module) c.parts.ensures.parts in
    let other : nat_eq c.args.slot one.code.module ≡ false = grind (arith, nat_tests, own, c.if-parts-slot.false) in
    passed c.args.slot (modules_seen live.loaded.modules.items) (slots_of cs) i one.code.module in_slot other ∙ c.loop-place.invariant
