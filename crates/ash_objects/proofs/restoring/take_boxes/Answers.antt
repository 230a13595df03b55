use Rattle.std.proofs.Common.{◌≡◌, ◌+◌, ◌∷◌, Err, sym, ap, ◌∙◌, drop, arith}
use Rattle.std.proofs.lemmas.Result.{err_from_is_err_and}
use Rattle.ash_objects.specs.declared.restoring.SavedObject.{SavedObject}
use Rattle.ash_objects.specs.declared.restoring.TableFault.{TableFault}
use Rattle.ash_objects.specs.Restoring.{draw_boxes}
use Rattle.ash_objects.proofs.Referring.{rest_got}
use Rattle.ash_objects.proofs.Drawing.{drawn_more, drawn_short}
use Rattle.ash_objects.proofs.restoring.take_boxes.Goals as goal

pub loop-object-preserved : goal.loop-object-preserved
loop-object-preserved g c =
    let k = c.loop-object.object-index in
    let G = g.B.HostObject in
    let objects = c.args.objects.now in
    let o = c.object-item.result in
    let next : drop k objects ≡ o ∷ drop (k + 1) objects = rest_got objects k o c.loop-object-test.true ∙ ap (λ (x : SavedObject). x ∷ drop (k + 1) objects) (sym c.object-item.is) in
    record {
      drawn =
          drawn_more G objects k o c.loop-object.boxes.items c.push_reserved.new.self.items c.in_ok-take_box.field-0
          c.loop-object.pool.items c.take_box.new.pool.items
          (draw_boxes G objects c.args.pool.now.items) next c.loop-object.invariant.drawn
          c.in_ok-take_box.ensures.taken c.push_reserved.ensures.items;
      many = omega (arith, c.push_reserved.ensures.len, c.loop-object.invariant.many);
      room = omega (arith, c.push_reserved.ensures.capacity, c.loop-object.invariant.room);
    }

pub returns-in_err-take_box-clause-short : goal.returns-in_err-take_box-clause-short
returns-in_err-take_box-clause-short g c = λ kind is.
    let k = c.loop-object.object-index in
    let G = g.B.HostObject in
    let objects = c.args.objects.now in
    let o = c.object-item.result in
    let next : drop k objects ≡ o ∷ drop (k + 1) objects = rest_got objects k o c.loop-object-test.true ∙ ap (λ (x : SavedObject). x ∷ drop (k + 1) objects) (sym c.object-item.is) in
    let p = err_from_is_err_and c.from_residual.result c.from_residual.ensures.1 in
    let reported : c.in_err-take_box.field-0.0 ≡ TableFault.PoolShort kind = cc in
    drawn_short G objects k o c.loop-object.boxes.items kind c.loop-object.pool.items (draw_boxes G objects c.args.pool.now.items) next c.loop-object.invariant.drawn (c.in_err-take_box.ensures.short kind (ap Err reported))
