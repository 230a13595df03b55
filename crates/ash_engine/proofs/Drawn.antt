-- A table and an engine draw the same boxes from a pool.
use Rattle.std.proofs.Common.{◌≡◌, ℕ, List, [], ◌∷◌, Option, Some, None, refl, ◌∙◌, ap}
use Rattle.std.specs.List.{cons_option}
use Rattle.std.specs.Option.{option_map}
use Rattle.ash_host.specs.declared.host_object.HostObject.{Ghosts}
use Rattle.ash_objects.specs.declared.restoring.SavedObject.{SavedObject}
use Rattle.ash_objects.specs.Restoring.{Drawn, draw_box, draw_boxes, draw_others, with_box_first, kind_wanted}
use Rattle.ash_objects.specs.Restoring as restoring
use Rattle.ash_engine.specs.Drawing.{Drawing, draw_all, draw_then, with_first}
use Rattle.ash_engine.specs.SavedDrawing.{wanted_by, drawing_of, DrawingsAgree}

module _ {B : Type 0} (G : Ghosts B) where
  -- an object that is no host object takes nothing
  none_first : (object : SavedObject) (objects : List SavedObject) (drawn : Drawn B)
      → drawing_of objects drawn ≡ drawing_of (object ∷ objects) (with_box_first None drawn)
  none_first object objects (restoring.Short kind) = refl
  none_first object objects (restoring.Enough boxes left) = refl

  -- a host object takes its box before the others
  box_first : (object : SavedObject) (box : B) (objects : List SavedObject) (drawn : Drawn B)
      → with_first object.number box (drawing_of objects drawn)
      ≡ drawing_of (object ∷ objects) (with_box_first (Some box) drawn)
  box_first object box objects (restoring.Short kind) = refl
  box_first object box objects (restoring.Enough boxes left) = refl

  pub agree : DrawingsAgree G
  agree [] pool = refl
  agree (object ∷ objects) pool = by (kind_wanted object) (λ left. agree objects left)
    where
      Later : Type 0
      Later = (left : List B) → draw_all G (wanted_by objects) left ≡ drawing_of objects (draw_boxes G objects left)

      taken : (kind : ℕ) (one : Option (B × List B)) → Later
          → draw_then object.number kind one (λ left. draw_all G (wanted_by objects) left)
          ≡ drawing_of (object ∷ objects) (draw_others kind one (λ left. draw_boxes G objects left))
      taken kind None later = refl
      taken kind (Some one) later =
          ap (λ (d : Drawing B). with_first object.number one.0 d) (later one.1)
          ∙ box_first object one.0 objects (draw_boxes G objects one.1)

      by : (wanted : Option ℕ) → Later
          → draw_all G (cons_option (option_map (λ (kind : ℕ). (object.number, kind)) wanted) (wanted_by objects)) pool
          ≡ drawing_of (object ∷ objects) (restoring.draw_then G wanted pool (λ left. draw_boxes G objects left))
      by None later = later pool ∙ none_first object objects (draw_boxes G objects pool)
      by (Some kind) later = taken kind (draw_box G kind pool) later
