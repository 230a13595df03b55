use Rattle.std.proofs.Common.{◌≡◌, ◌≤◌, ◌∙◌, ℕ, List, Err, sym, subst, ap, arith, length}
use Rattle.std.specs.Prelude.{All}
use Rattle.ash_host.specs.Objects.{numbers, Lives}
use Rattle.ash_objects.specs.declared.restoring.TableFault.{TableFault}
use Rattle.ash_objects.specs.declared.restoring.SavedObject.{SavedObject}
use Rattle.ash_objects.specs.Counting.{words_at, AllLive}
use Rattle.ash_objects.specs.Restoring.{stored_in, states_in, Enough, Short, draw_boxes, RestoresBoxes, BoxRefused, IsRefused, Service, Object, refer_objects}
use Rattle.ash_objects.proofs.Drawing.{fit_drawn, fit_length, fit_restored}
use Rattle.ash_objects.proofs.Putting.{put_numbers}
use Rattle.ash_objects.proofs.Stocking.{stock_there, stock_uncounted, stock_table}
use Rattle.ash_objects.proofs.Listed.{listed_faces}
use Rattle.ash_objects.proofs.Recounting.{referred_face}
use Rattle.ash_objects.proofs.Restored.{is_restored}
use Rattle.ash_objects.proofs.Faults.{reported, no_value, not_short, not_refused}
use Rattle.ash_objects.proofs.objects.Objects.restored.Goals as goal

pub returns-in_err-restore_services-clause-refused : goal.returns-in_err-restore_services-clause-refused
returns-in_err-restore_services-clause-refused g c = λ number is.
    let pool = c.args.pool.items in
    let left = c.take_boxes.new.pool.items in
    let before = c.in_ok-boxes.boxes.items in
    let drawn : draw_boxes g.B.HostObject c.args.stored.objects.items pool ≡ Enough before left = rw c.deref.ensures.value at c.in_ok-boxes.ensures.enough in
    let r = c.in_err-restore_services.ensures.refused number (ap Err (reported c.from_residual-in_err-restore_services.result c.in_err-restore_services.field-0.0 (TableFault.RestoreRefused number) c.from_residual-in_err-restore_services.ensures.1 is)) in
    subst (λ (n : ℕ). IsRefused g.B.HostObject c.args.stored.objects.items (states_in c.args.states.now) c.args.pool.items c.args.services.items n) (sym r.0) (Service before left drawn r.1)

pub restore_boxes-requires : goal.restore_boxes-requires
restore_boxes-requires g c = record {
  length =
      let G = g.B.HostObject in
      let objects = c.args.stored.objects.items in
      let pool = c.args.pool.items in
      let left = c.take_boxes.new.pool.items in
      let before = c.in_ok-boxes.boxes.items in
      let drawn : draw_boxes G objects pool ≡ Enough before left = rw c.deref.ensures.value at c.in_ok-boxes.ensures.enough in
      let many = fit_length objects before (fit_drawn G objects pool before left drawn) in
      let here = ap length c.deref-2.ensures.value in
      omega (arith, many, here, c.in_ok-boxes.boxes.ok.0);
}

pub returns-in_err-restore_boxes-clause-refused : goal.returns-in_err-restore_boxes-clause-refused
returns-in_err-restore_boxes-clause-refused g c = λ number is.
    let G = g.B.HostObject in
    let objects = c.args.stored.objects.items in
    let pool = c.args.pool.items in
    let left = c.take_boxes.new.pool.items in
    let before = c.in_ok-boxes.boxes.items in
    let drawn : draw_boxes G objects pool ≡ Enough before left = rw c.deref.ensures.value at c.in_ok-boxes.ensures.enough in
    let r = c.in_err-restore_boxes.ensures.refused number (ap Err (reported c.from_residual-in_err-restore_boxes.result c.in_err-restore_boxes.field-0.0 (TableFault.RestoreRefused number) c.from_residual-in_err-restore_boxes.ensures.1 is)) in
    Object number before left c.restore_services.new.services.items drawn c.in_ok-restore_services.ensures.restored (subst (λ (os : List SavedObject). BoxRefused G os before number) c.deref-2.ensures.value r)

pub insert_objects-requires-clause-fit : goal.insert_objects-requires-clause-fit
insert_objects-requires-clause-fit g c =
    let G = g.B.HostObject in
    let objects = c.args.stored.objects.items in
    let pool = c.args.pool.items in
    let left = c.take_boxes.new.pool.items in
    let before = c.in_ok-boxes.boxes.items in
    let drawn : draw_boxes G objects pool ≡ Enough before left = rw c.deref.ensures.value at c.in_ok-boxes.ensures.enough in
    let after = c.restore_boxes.new.boxes.items in
    let back : RestoresBoxes G objects before after = subst (λ (os : List SavedObject). RestoresBoxes G os before after) c.deref-2.ensures.value c.in_ok-restore_boxes.ensures.restored in
    fit_restored G objects before after (fit_drawn G objects pool before left drawn) back

pub refer_from-requires-clause-there : goal.refer_from-requires-clause-there
refer_from-requires-clause-there g c =
    let objects = c.args.stored.objects.items in
    let after = c.restore_boxes.new.boxes.items in
    let l = c.insert_objects.new.store.objects in
    let few : length objects ≤ 4096 = omega (arith, c.requires.few, c.args.stored.objects.ok.0) in
    let all : c.deref-4.result.now ≡ numbers l = c.deref-4.ensures.value ∙ c.in_ok-list.ensures.numbers ∙ ap (λ (os : List SavedObject). numbers (stored_in os)) c.deref-3.ensures.value ∙ sym (put_numbers objects after l c.in_ok-insert_objects.ensures.inserted) in
    subst (λ (ns : List ℕ). All (λ number. Lives l number × AllLive l (words_at number l) × (length (words_at number l) ≤ 4096)) ns) (sym all) (stock_there objects after l c.args.stored.last c.in_ok-insert_objects.ensures.inserted c.requires.numbered few c.requires.short c.requires.alive)

pub refer_from-requires-clause-uncounted : goal.refer_from-requires-clause-uncounted
refer_from-requires-clause-uncounted g c =
    let objects = c.args.stored.objects.items in
    let after = c.restore_boxes.new.boxes.items in
    let l = c.insert_objects.new.store.objects in
    let few : length objects ≤ 4096 = omega (arith, c.requires.few, c.args.stored.objects.ok.0) in
    stock_uncounted objects after l c.args.stored.last c.in_ok-insert_objects.ensures.inserted c.requires.numbered few c.requires.short c.requires.alive

pub invariant_of-result : goal.invariant_of-result
invariant_of-result g c =
    let objects = c.args.stored.objects.items in
    let after = c.restore_boxes.new.boxes.items in
    let l = c.insert_objects.new.store.objects in
    let few : length objects ≤ 4096 = omega (arith, c.requires.few, c.args.stored.objects.ok.0) in
    let all : c.deref-4.result.now ≡ numbers l = c.deref-4.ensures.value ∙ c.in_ok-list.ensures.numbers ∙ ap (λ (os : List SavedObject). numbers (stored_in os)) c.deref-3.ensures.value ∙ sym (put_numbers objects after l c.in_ok-insert_objects.ensures.inserted) in
    rw (c.refer_from.ensures.effect, all) (record {
      listed =
          listed_faces (refer_objects (numbers l) l) l _
          (λ m. referred_face (numbers l) m l) c.in_ok-insert_objects.ensures.listed;
      table =
          stock_table objects after l c.args.stored.last c.in_ok-insert_objects.ensures.inserted c.requires.numbered few
          c.requires.short c.requires.alive;
    })

pub returns-clause-objects : goal.returns-clause-objects
returns-clause-objects g c =
    let G = g.B.HostObject in
    let objects = c.args.stored.objects.items in
    let pool = c.args.pool.items in
    let left = c.take_boxes.new.pool.items in
    let before = c.in_ok-boxes.boxes.items in
    let drawn : draw_boxes G objects pool ≡ Enough before left = rw c.deref.ensures.value at c.in_ok-boxes.ensures.enough in
    let after = c.restore_boxes.new.boxes.items in
    let l = c.insert_objects.new.store.objects in
    let few : length objects ≤ 4096 = omega (arith, c.requires.few, c.args.stored.objects.ok.0) in
    let back : RestoresBoxes G objects before after = subst (λ (os : List SavedObject). RestoresBoxes G os before after) c.deref-2.ensures.value c.in_ok-restore_boxes.ensures.restored in
    let all : c.deref-4.result.now ≡ numbers l = c.deref-4.ensures.value ∙ c.in_ok-list.ensures.numbers ∙ ap (λ (os : List SavedObject). numbers (stored_in os)) c.deref-3.ensures.value ∙ sym (put_numbers objects after l c.in_ok-insert_objects.ensures.inserted) in
    rw (c.refer_from.ensures.effect, all) (is_restored G objects pool left before after l c.args.stored.last drawn back c.in_ok-insert_objects.ensures.inserted c.requires.numbered few c.requires.short c.requires.alive c.restore_services.new.services.items c.new.result.items)

pub returns-in_err-boxes-clause-objects : goal.returns-in_err-boxes-clause-objects
returns-in_err-boxes-clause-objects g c = no_value c.from_residual.result c.in_err-boxes.field-0.0 _ c.from_residual.ensures.1

pub returns-in_err-boxes-clause-services : goal.returns-in_err-boxes-clause-services
returns-in_err-boxes-clause-services g c = no_value c.from_residual.result c.in_err-boxes.field-0.0 _ c.from_residual.ensures.1

pub returns-in_err-boxes-clause-short : goal.returns-in_err-boxes-clause-short
returns-in_err-boxes-clause-short g c = λ kind is. subst (λ (os : List SavedObject). draw_boxes g.B.HostObject os c.args.pool.items ≡ Short kind) c.deref.ensures.value (c.in_err-boxes.ensures.short kind (ap Err (reported c.from_residual.result c.in_err-boxes.field-0.0 (TableFault.PoolShort kind) c.from_residual.ensures.1 is)))

pub returns-in_err-boxes-clause-refused : goal.returns-in_err-boxes-clause-refused
returns-in_err-boxes-clause-refused g c = λ number is. absurd (c.in_err-boxes.ensures.not_refused number (ap Err (reported c.from_residual.result c.in_err-boxes.field-0.0 (TableFault.RestoreRefused number) c.from_residual.ensures.1 is)))

pub returns-in_err-restore_services-clause-objects : goal.returns-in_err-restore_services-clause-objects
returns-in_err-restore_services-clause-objects g c = no_value c.from_residual-in_err-restore_services.result c.in_err-restore_services.field-0.0 _ c.from_residual-in_err-restore_services.ensures.1

pub returns-in_err-restore_services-clause-services : goal.returns-in_err-restore_services-clause-services
returns-in_err-restore_services-clause-services g c = no_value c.from_residual-in_err-restore_services.result c.in_err-restore_services.field-0.0 _ c.from_residual-in_err-restore_services.ensures.1

pub returns-in_err-restore_services-clause-short : goal.returns-in_err-restore_services-clause-short
returns-in_err-restore_services-clause-short g c = λ kind is. absurd (c.in_err-restore_services.ensures.enough kind (ap Err (reported c.from_residual-in_err-restore_services.result c.in_err-restore_services.field-0.0 (TableFault.PoolShort kind) c.from_residual-in_err-restore_services.ensures.1 is)))

pub returns-in_err-restore_boxes-clause-objects : goal.returns-in_err-restore_boxes-clause-objects
returns-in_err-restore_boxes-clause-objects g c = no_value c.from_residual-in_err-restore_boxes.result c.in_err-restore_boxes.field-0.0 _ c.from_residual-in_err-restore_boxes.ensures.1

pub returns-in_err-restore_boxes-clause-services : goal.returns-in_err-restore_boxes-clause-services
returns-in_err-restore_boxes-clause-services g c = no_value c.from_residual-in_err-restore_boxes.result c.in_err-restore_boxes.field-0.0 _ c.from_residual-in_err-restore_boxes.ensures.1

pub returns-in_err-restore_boxes-clause-short : goal.returns-in_err-restore_boxes-clause-short
returns-in_err-restore_boxes-clause-short g c = λ kind is. absurd (c.in_err-restore_boxes.ensures.enough kind (ap Err (reported c.from_residual-in_err-restore_boxes.result c.in_err-restore_boxes.field-0.0 (TableFault.PoolShort kind) c.from_residual-in_err-restore_boxes.ensures.1 is)))

pub returns-in_err-list-clause-objects : goal.returns-in_err-list-clause-objects
returns-in_err-list-clause-objects g c = no_value c.from_residual-in_err-list.result c.in_err-list.field-0.0 _ c.from_residual-in_err-list.ensures.1

pub returns-in_err-list-clause-services : goal.returns-in_err-list-clause-services
returns-in_err-list-clause-services g c = no_value c.from_residual-in_err-list.result c.in_err-list.field-0.0 _ c.from_residual-in_err-list.ensures.1

pub returns-in_err-list-clause-short : goal.returns-in_err-list-clause-short
returns-in_err-list-clause-short g c = λ kind is. absurd (not_short kind (c.in_err-list.ensures.memory (TableFault.PoolShort kind) (ap Err (reported c.from_residual-in_err-list.result c.in_err-list.field-0.0 (TableFault.PoolShort kind) c.from_residual-in_err-list.ensures.1 is))))

pub returns-in_err-list-clause-refused : goal.returns-in_err-list-clause-refused
returns-in_err-list-clause-refused g c = λ number is. absurd (not_refused number (c.in_err-list.ensures.memory (TableFault.RestoreRefused number) (ap Err (reported c.from_residual-in_err-list.result c.in_err-list.field-0.0 (TableFault.RestoreRefused number) c.from_residual-in_err-list.ensures.1 is))))

pub returns-in_err-insert_objects-clause-objects : goal.returns-in_err-insert_objects-clause-objects
returns-in_err-insert_objects-clause-objects g c = no_value c.from_residual-in_err-insert_objects.result c.in_err-insert_objects.field-0.0 _ c.from_residual-in_err-insert_objects.ensures.1

pub returns-in_err-insert_objects-clause-services : goal.returns-in_err-insert_objects-clause-services
returns-in_err-insert_objects-clause-services g c = no_value c.from_residual-in_err-insert_objects.result c.in_err-insert_objects.field-0.0 _ c.from_residual-in_err-insert_objects.ensures.1

pub returns-in_err-insert_objects-clause-short : goal.returns-in_err-insert_objects-clause-short
returns-in_err-insert_objects-clause-short g c = λ kind is. absurd (not_short kind (c.in_err-insert_objects.ensures.memory (TableFault.PoolShort kind) (ap Err (reported c.from_residual-in_err-insert_objects.result c.in_err-insert_objects.field-0.0 (TableFault.PoolShort kind) c.from_residual-in_err-insert_objects.ensures.1 is))))

pub returns-in_err-insert_objects-clause-refused : goal.returns-in_err-insert_objects-clause-refused
returns-in_err-insert_objects-clause-refused g c = λ number is. absurd (not_refused number (c.in_err-insert_objects.ensures.memory (TableFault.RestoreRefused number) (ap Err (reported c.from_residual-in_err-insert_objects.result c.in_err-insert_objects.field-0.0 (TableFault.RestoreRefused number) c.from_residual-in_err-insert_objects.ensures.1 is))))

pub insert_objects-requires-clause-in_order : goal.insert_objects-requires-clause-in_order
insert_objects-requires-clause-in_order g c = c.requires.numbered.in_order

pub returns-clause-services : goal.returns-clause-services
returns-clause-services g c = c.in_ok-restore_services.ensures.restored
