use Rattle.std.proofs.Common.{◌≡◌, ◌<◌, ◌∙◌, Some, Err, sym, ap, arith, length, take, subst}
use Rattle.std.specs.Prelude.{slice_get}
use Rattle.std.proofs.lemmas.Result.{err_from_is_err_and}
use Rattle.ash_objects.specs.declared.restoring.SavedObject.{SavedObject}
use Rattle.ash_objects.specs.declared.restoring.TableFault.{TableFault}
use Rattle.ash_objects.specs.Restoring.{RestoresBox}
use Rattle.ash_objects.proofs.Newcomers.{got}
use Rattle.ash_objects.proofs.Pointwise.{done_more, done_all, prefix_many, prefix_done}
use Rattle.ash_objects.proofs.restoring.restore_boxes.Goals as goal

pub loop-place-preserved : goal.loop-place-preserved
loop-place-preserved g c =
    let k = c.loop-place.place in
    let objects = c.args.objects.now in
    let cur = c.loop-place.boxes.items in
    let one = c.index_mut.result.now in
    let object = c.index-objects-place.result in
    let within : k < length cur = omega (arith, c.requires.length, c.loop-place-test.true, c.loop-place.invariant.done.many, c.args.boxes.now.ok.0) in
    record {
      done = done_more (λ place one other. (object : SavedObject) → slice_get objects place ≡ Some object → RestoresBox g.B.HostObject object.body one other) k c.args.boxes.now.items cur one c.restore_box.new.taken c.loop-place.invariant.done (got cur k one within c.index_mut.ensures.value)
          (λ other there.
          let here : Some object ≡ Some other = sym (got objects k object c.loop-place-test.true c.index-objects-place.is) ∙ there in
          let same : object ≡ other = cc in
          subst (λ (o : SavedObject). RestoresBox g.B.HostObject o.body one c.restore_box.new.taken) same c.in_ok-restore_box.ensures.restored);
    }

pub returns-in_err-restore_box-clause-refused : goal.returns-in_err-restore_box-clause-refused
returns-in_err-restore_box-clause-refused g c = λ number is.
    let k = c.loop-place.place in
    let G = g.B.HostObject in
    let objects = c.args.objects.now in
    let old = c.args.boxes.now.items in
    let cur = c.loop-place.boxes.items in
    let h = c.loop-place.invariant.done in
    let one = c.index_mut.result.now in
    let object = c.index-objects-place.result in
    let within : k < length cur = omega (arith, c.requires.length, c.loop-place-test.true, h.many, c.args.boxes.now.ok.0) in
    let p = err_from_is_err_and c.from_residual.result c.from_residual.ensures.1 in
    let reported : c.in_err-restore_box.field-0.0 ≡ TableFault.RestoreRefused number = cc in
    let r = c.in_err-restore_box.ensures.refused number (ap Err reported) in
    record {
      place = k;
      object = object;
      box = r.1.0;
      back = take k cur;
      there = got objects k object c.loop-place-test.true c.index-objects-place.is;
      named = sym r.0;
      took = sym (h.rest k (omega arith)) ∙ got cur k one within c.index_mut.ensures.value ∙ ap Some r.1.1;
      before = record {
        many =
            prefix_many (λ place one other. (object : SavedObject) → slice_get objects place ≡ Some object
            → RestoresBox G object.body one other) k old cur h;
        each =
            λ place object one other at was is. prefix_done (λ place one other. (object : SavedObject)
            → slice_get objects place ≡ Some object
            → RestoresBox G object.body one other) k old cur h place one other was is object at;
      };
      refused = r.1.2;
    }

pub returns-clause-restored : goal.returns-clause-restored
returns-clause-restored g c = record {
  many = c.loop-place.invariant.done.many;
  each =
      λ place object one other at was is. done_all (λ place one other. (object : SavedObject)
      → slice_get c.args.objects.now place ≡ Some object
      → RestoresBox g.B.HostObject object.body one other) c.loop-place.place c.args.boxes.now.items
      c.loop-place.boxes.items c.loop-place.invariant.done
      (omega (arith, c.requires.length, c.loop-place-test.false, c.args.boxes.now.ok.0)) place one other was is object
      at;
}
