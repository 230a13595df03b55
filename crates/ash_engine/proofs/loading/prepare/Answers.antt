use Rattle.std.proofs.Common.{ℕ, List, map, refl, sym, ap, ◌∙◌, subst}
use Rattle.std.specs.Prelude.{Option, IfSome, Contains}
use Rattle.ash_host.specs.Objects.{handles}
use Rattle.ash_meaning.specs.OperatorMeaning.{zero_of}
use Rattle.ash_requests.specs.States.{globals_of}
use Rattle.ash_typed.specs.Modules.{variables_of}
use Rattle.ash_typed.specs.Signatures.{types_of_globals}
use Rattle.ash_plain_steps.specs.StateViews.{modules_seen}
use Rattle.ash_engine.specs.declared.live.Compiled.{Compiled}
use Rattle.ash_engine.specs.TableStates.{slots_of}
use Rattle.ash_engine.proofs.loading.prepare.Goals as goal

pub returns : goal.returns
returns g c = record {
  prepared = record {
    name = c.in_ok-from_str.ensures.ok;
    source = c.in_ok-from_slice.ensures.items;
    tree = refl;
    zeros = c.in_ok-globals.ensures.zeros
        ∙ ap (λ (l : List _). map zero_of (types_of_globals (map variables_of l))) c.deref-2.ensures.value;
    fresh = λ there.
        subst (λ (o : Option ℕ). IfSome o (λ slot. Contains (slots_of c.deref.result.now) slot
        → ⊥)) c.in_ok-slot.ensures.ok_part c.free_slot.ensures.free
        (subst (λ (l : List Compiled). Contains (slots_of l) c.in_ok-slot.slot) (sym c.deref.ensures.value)
        (subst (λ (n : ℕ). Contains (slots_of c.args.live.now.compiled.items) n) c.in_ok-compiled.ensures.slot there));
    compiled = c.in_ok-compiled.ensures.compiled;
    outside = c.in_ok-outside.ensures.value
        ∙ ap (λ (l : List _). handles (globals_of (modules_seen l))) c.deref-3.ensures.value;
  };
}
