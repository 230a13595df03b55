use Rattle.std.proofs.Common.{◌≡◌, ◌<◌, ◌∙◌, ℕ, List, Option, Some, Err, sym, ap, subst, arith, length, take, option_map, Vec, Global}
use Rattle.std.specs.Prelude.{slice_get}
use Rattle.std.proofs.lemmas.Option.{slice_get-map}
use Rattle.std.proofs.lemmas.Result.{err_from_is_err_and}
use Rattle.ash_objects.specs.declared.restoring.TableFault.{TableFault}
use Rattle.ash_objects.specs.Restoring.{RestoresState, states_in}
use Rattle.ash_objects.proofs.Newcomers.{got}
use Rattle.ash_objects.proofs.Pointwise.{done_more, done_all, got_map, prefix_many, prefix_done}
use Rattle.ash_objects.proofs.restoring.restore_services.Goals as goal

pub loop-place-preserved : goal.loop-place-preserved
loop-place-preserved g c =
    let k = c.loop-place.place in
    let G = g.B.HostObject in
    let states = c.args.states.now in
    let cur = c.loop-place.services.items in
    let one = c.index_mut.result.now in
    let other = c.restore_state.new.object in
    let state = c.index-states-place.result in
    let within : k < length cur = omega (arith, c.requires.length, c.loop-place-test.true, c.loop-place.invariant.done.many, c.args.services.now.ok.0) in
    record {
      done = done_more (λ place one other. (bytes : List ℕ) → slice_get (states_in states) place ≡ Some bytes → RestoresState G one bytes other) k c.args.services.now.items cur one other c.loop-place.invariant.done (got cur k one within c.index_mut.ensures.value)
          (λ bytes there.
          subst (λ (bs : List ℕ). RestoresState G one bs other) (c.as_slice.ensures.value ∙ got_map (λ state. state.items) states k state bytes (got states k state c.loop-place-test.true c.index-states-place.is) there) c.in_ok-restore_state.ensures.restored);
    }

pub returns-clause-restored : goal.returns-clause-restored
returns-clause-restored g c = record {
  many = c.loop-place.invariant.done.many;
  each =
      λ place one other bytes was is there. done_all (λ place one other. (bytes : List ℕ)
      → slice_get (states_in c.args.states.now) place ≡ Some bytes
      → RestoresState g.B.HostObject one bytes other) c.loop-place.place c.args.services.now.items
      c.loop-place.services.items c.loop-place.invariant.done
      (omega (arith, c.requires.length, c.loop-place-test.false, c.args.services.now.ok.0)) place one other was is bytes
      there;
}

pub returns-in_err-restore_state-clause-refused : goal.returns-in_err-restore_state-clause-refused
returns-in_err-restore_state-clause-refused g c = λ number is.
    let k = c.loop-place.place in
    let G = g.B.HostObject in
    let states = c.args.states.now in
    let old = c.args.services.now.items in
    let cur = c.loop-place.services.items in
    let h = c.loop-place.invariant.done in
    let one = c.index_mut.result.now in
    let state = c.index-states-place.result in
    let within : k < length cur = omega (arith, c.requires.length, c.loop-place-test.true, h.many, c.args.services.now.ok.0) in
    let p = err_from_is_err_and c.from_residual.result c.from_residual.ensures.1 in
    let reported : c.in_err-restore_state.field-0.0 ≡ TableFault.RestoreRefused number = cc in
    let r = c.in_err-restore_state.ensures.refused number (ap Err reported) in (
      r.0,
      record {
        place = k;
        service = one;
        bytes = state.items;
        back = take k cur;
        there = sym (h.rest k (omega arith)) ∙ got cur k one within c.index_mut.ensures.value;
        state =
            slice_get-map (λ (state : Vec ℕ Global). state.items) states k
            ∙ ap (λ (o : Option (Vec ℕ Global)). option_map (λ (state : Vec ℕ Global). state.items) o)
            (got states k state c.loop-place-test.true c.index-states-place.is);
        before = record {
          many =
              prefix_many (λ place one other. (bytes : List ℕ) → slice_get (states_in states) place ≡ Some bytes
              → RestoresState G one bytes other) k old cur h;
          each =
              λ place one other bytes was is at. prefix_done (λ place one other. (bytes : List ℕ)
              → slice_get (states_in states) place ≡ Some bytes
              → RestoresState G one bytes other) k old cur h place one other was is bytes at;
        };
        refused = subst (λ (bs : List ℕ). G.refuses one bs) c.as_slice.ensures.value r.1;
      },
    )
