use Rattle.std.proofs.Common.{◌≡◌, ◌+◌, ◌++◌, ◌∷◌, [], ℕ, List, take, sym, ap, ◌∙◌, subst}
use Rattle.std.specs.List.{AllZip, IsDistinct}
use Rattle.std.specs.Prelude.{nat_eq}
use Rattle.std.proofs.lemmas.List.{take_all}
use Rattle.ash_plain_steps.specs.declared.state.LoadedModule.{LoadedModule}
use Rattle.ash_plain_steps.specs.StateViews.{modules_seen}
use Rattle.ash_table_states.specs.TableStates.{places_from}
use Rattle.ash_table_states.proofs.SlotNames.{places_differ}
use Rattle.ash_engine.specs.declared.live.Compiled.{Compiled}
use Rattle.ash_engine.specs.TableStates.{slots_of, IsCompiledFrom}
use Rattle.ash_engine.proofs.CompiledModules.{each_more, slots_more}
use Rattle.ash_engine.proofs.compiling.compile_all.Goals as goal

pub loop-place-preserved : goal.loop-place-preserved
loop-place-preserved c =
    let ms = c.args.modules.now in
    let i = c.loop-place.place in
    let m = c.index-modules-place.result in
    let cs = c.loop-place.all.items in
    let one = c.in_ok-compiled.compiled in
    let pushed : c.push.new.self.items ≡ cs ++ one ∷ [] = c.in_ok-push.ensures.items in
    record {
      each = subst (λ (xs : List Compiled). AllZip IsCompiledFrom (take (i + 1) ms) xs) (sym pushed)
          (each_more ms i m c.loop-place-test.true cs one c.loop-place.invariant.each
          (subst (λ (x : LoadedModule). IsCompiledFrom x one) c.index-modules-place.is c.in_ok-compiled.ensures.compiled));
      slots = ap slots_of pushed ∙ slots_more ms i m c.loop-place-test.true cs one c.loop-place.invariant.slots c.in_ok-compiled.ensures.slot;
    }

pub returns : goal.returns
returns c =
    let ms = c.args.modules.now in
    let all : take c.loop-place.place ms ≡ ms = take_all c.loop-place.place ms c.loop-place-test.false in
    let cs = c.loop-place.all.items in
    let slots : slots_of cs ≡ places_from 0 (modules_seen ms) =
    c.loop-place.invariant.slots ∙ ap (λ (xs : List LoadedModule). places_from 0 (modules_seen xs)) all in
    record {
      compiled = record {
        each = subst (λ (xs : List LoadedModule). AllZip IsCompiledFrom xs cs) all c.loop-place.invariant.each;
        apart = subst (λ (ns : List ℕ). IsDistinct nat_eq ns) (sym slots) (places_differ 0 (modules_seen ms));
      };
      slots = slots;
    }
