-- The boxes that the objects of a state take from a pool: a table draws them for all its objects, as `ash_objects` says,
-- and an engine for the host objects by their numbers. Both draw the same.
use Rattle.std.specs.Prelude.{◌≡◌, ℕ, List, [], ◌∷◌, filter_map, Option, Some, None}
use Rattle.std.specs.Option.{option_map}
use Rattle.ash_host.specs.declared.host_object.HostObject.{Ghosts}
use Rattle.ash_objects.specs.declared.restoring.SavedObject.{SavedObject}
use Rattle.ash_objects.specs.Restoring.{Drawn, kind_wanted, draw_boxes}
use Rattle.ash_objects.specs.Restoring as restoring
use Rattle.ash_engine.specs.Drawing.{Drawing, Short, Enough, draw_all}

-- the number of a host object that is saved, and its kind
abbrev pub entry_wanted : SavedObject → Option (ℕ × ℕ)
entry_wanted object = option_map (λ (kind : ℕ). (object.number, kind)) (kind_wanted object)

-- the host objects among these by their numbers, each with its kind
abbrev pub wanted_by : List SavedObject → List (ℕ × ℕ)
wanted_by objects = filter_map entry_wanted objects

module _ {B : Type 0} where
  -- the boxes that objects took, by their numbers
  abbrev pub by_number : List SavedObject → List (Option B) → List (ℕ × B)
  by_number (object ∷ objects) (Some box ∷ boxes) = (object.number, box) ∷ by_number objects boxes
  by_number (object ∷ objects) (None ∷ boxes) = by_number objects boxes
  by_number _ _ = []

  -- what objects took, by their numbers
  abbrev pub drawing_of : List SavedObject → Drawn B → Drawing B
  drawing_of objects (restoring.Short kind) = Short kind
  drawing_of objects (restoring.Enough boxes left) = Enough (by_number objects boxes) left

  -- The host objects of a state take the boxes that its table takes for all its objects.
  abbrev pub DrawingsAgree : Ghosts B → Type 0
  DrawingsAgree G = (objects : List SavedObject) (pool : List B)
      → draw_all G (wanted_by objects) pool ≡ drawing_of objects (draw_boxes G objects pool)
