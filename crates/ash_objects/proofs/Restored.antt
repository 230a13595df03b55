-- A table that is made from a state has what the state holds.
use Rattle.std.proofs.Common.{◌≡◌, ℕ, List, Option, sym, subst, length, ◌≤◌}
use Rattle.std.specs.Prelude.{IfSome, All}
use Rattle.ash_host.specs.declared.host_object.HostObject.{Ghosts}
use Rattle.ash_host.specs.Objects.{object_at, numbers, Lives, AreNumbered, handle}
use Rattle.ash_slots.specs.declared.body.Body.{Body}
use Rattle.ash_slots.specs.Bodies.{words_of}
use Rattle.ash_slots.specs.Store.{SlotEntry}
use Rattle.ash_objects.specs.declared.restoring.SavedObject.{SavedObject}
use Rattle.ash_objects.specs.Counting.{living_in}
use Rattle.ash_objects.specs.Restoring.{Enough, stored_in, draw_boxes, AreBodies, RestoresBoxes, AreInserted, IsRestored, refer_objects, bodies_of}
use Rattle.ash_objects.proofs.Drawing.{fit_drawn, bodies_put}
use Rattle.ash_objects.proofs.Stocking.{stock_bodies, stock_held, stock_unmarked}

module _ {B : Type 0} (G : Ghosts B) (objects : List SavedObject) (pool left : List B) (before after : List (Option B)) (l : List (ℕ × SlotEntry B)) (last : ℕ) (drawn : draw_boxes G objects pool ≡ Enough before left) (back : RestoresBoxes G objects before after) (put : AreInserted objects after l) (numbered : AreNumbered last (stored_in objects)) (few : length objects ≤ 4096) (short : (m : ℕ) → IfSome (object_at m (stored_in objects)) (λ body. length (words_of body) ≤ 4096)) (alive : (m : ℕ) → IfSome (object_at m (stored_in objects)) (λ body. All (λ word. IfSome (handle word) (Lives (stored_in objects))) (words_of body))) where
  restored_bodies : AreBodies G objects before (bodies_of (living_in (refer_objects (numbers l) l)))
  restored_bodies =
      subst (λ (es : List (ℕ × Body B)). AreBodies G objects before es) (sym (stock_bodies objects after l last put numbered few short alive))
      (bodies_put G objects before after l (fit_drawn G objects pool before left drawn) back put)

  pub is_restored : (services : List B) (gone : List ℕ) → IsRestored G objects pool (record { objects = living_in (refer_objects (numbers l) l); pool = left; services = services; last = last; settled = last; gone = gone })
  is_restored services gone = record {
    boxes = before;
    drawn = drawn;
    bodies = restored_bodies;
    not_held = stock_held objects after l last put numbered few short alive;
    unmarked = stock_unmarked objects after l last put numbered few short alive;
  }
