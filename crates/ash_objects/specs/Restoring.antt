-- A table from what a state holds.
use Rattle.std.specs.Prelude.{◌≡◌, ℕ, ◌≤◌, true, false, List, [], ◌∷◌, length}
use Rattle.std.specs.Prelude.{map, Option, None, Some, IsSome, IfSome, slice_get, nat_eq, take}
use Rattle.std.specs.Option.{option_map, option_and_then}
use Rattle.std.specs.List.{remove, position}
use Rattle.std.specs.declared.vec.Vec.{Vec}
use Rattle.std.specs.declared.alloc.Global.{Global}
use Rattle.ash_host.specs.declared.host_object.HostObject.{Ghosts}
use Rattle.ash_host.specs.Calls.{SameRelation}
use Rattle.ash_host.specs.Limits.{max_state_bytes}
use Rattle.ash_host.specs.Objects.{object_at}
use Rattle.ash_slots.specs.declared.body.Body.{Body}
use Rattle.ash_slots.specs.declared.body.Body.TheVariants.{Script, Array, Host}
use Rattle.ash_slots.specs.SlotResponses.{box_of}
use Rattle.ash_slots.specs.Store.{SlotEntry}
use Rattle.ash_objects.specs.declared.restoring.SavedObject.{SavedObject}
use Rattle.ash_objects.specs.declared.restoring.SavedHostObject.{SavedHostObject}
use Rattle.ash_objects.specs.Table.{Living, Table, holds_of}
use Rattle.ash_objects.specs.Counting.{refer_all, words_at}

-- the objects of a state by their numbers
abbrev pub stored_in : List SavedObject → List (ℕ × Body SavedHostObject)
stored_in objects = map (λ object. (object.number, object.body)) objects

-- the states of services
abbrev pub states_in : List (Vec ℕ Global) → List (List ℕ)
states_in states = map (λ state. state.items) states

-- the kind of a host object; what is none has none
abbrev pub kind_wanted : SavedObject → Option ℕ
kind_wanted object = option_map (λ saved. saved.kind) (box_of object.body)

-- the state of a host object; what is none has none
abbrev pub bytes_of : Body SavedHostObject → List ℕ
bytes_of (Script _) = []
bytes_of (Array _) = []
bytes_of (Host saved) = saved.state.items

-- What objects take from a pool, each its box or nothing, and what is left of it; or a kind of which no box is left.
pub data Drawn (B : Type 0) : Type 0 where
  Short : (kind : ℕ) → Drawn B
  Enough : (boxes : List (Option B)) (left : List B) → Drawn B

module _ {B : Type 0} where
  -- the first box of a kind, and the others in order
  abbrev pub draw_box : Ghosts B → ℕ → List B → Option (B × List B)
  draw_box G kind pool =
      option_and_then (λ place. option_map (λ box. (box, remove pool place)) (slice_get pool place))
      (position (λ box. nat_eq (G.kind_of box) kind) pool)

  -- with what one object took before the others
  abbrev pub with_box_first : Option B → Drawn B → Drawn B
  with_box_first box (Short kind) = Short kind
  with_box_first box (Enough boxes left) = Enough (box ∷ boxes) left

  -- a host object took a box from a pool, or there was none; the others take theirs from what is left
  abbrev pub draw_others : ℕ → Option (B × List B) → (List B → Drawn B) → Drawn B
  draw_others kind None others = Short kind
  draw_others kind (Some taken) others = with_box_first (Some taken.0) (others taken.1)

  -- an object takes its box from a pool, if it is a host object, and the others take theirs from what is left
  abbrev pub draw_then : Ghosts B → Option ℕ → List B → (List B → Drawn B) → Drawn B
  draw_then G None pool others = with_box_first None (others pool)
  draw_then G (Some kind) pool others = draw_others kind (draw_box G kind pool) others

  -- each host object takes the first box of its kind that is left, in order
  abbrev pub draw_boxes : Ghosts B → List SavedObject → List B → Drawn B
  draw_boxes G [] pool = Enough [] pool
  draw_boxes G (object ∷ objects) pool = draw_then G (kind_wanted object) pool (λ left. draw_boxes G objects left)

  -- A host object took a state: it has this state now, and its kind and its relation are as before.
  pub record RestoresState (G : Ghosts B) (before : B) (bytes : List ℕ) (after : B) : Type 0 where
    pub has : G.state after ≡ bytes
    pub same_kind : G.kind_of after ≡ G.kind_of before
    pub same_relation : SameRelation (G.allows before) (G.allows after)
    pub bounded : length (G.state after) ≤ max_state_bytes

  -- An object of a state is in a table what it was, with its box, which has its state, in place of its kind and state.
  abbrev pub IsBody : Ghosts B → Body SavedHostObject → Option B → Body B → Type 0
  IsBody G (Script script) box body = body ≡ Script script
  IsBody G (Array array) box body = body ≡ Array array
  IsBody G (Host saved) None body = ⊥
  IsBody G (Host saved) (Some before) body = (after : B) × (body ≡ Host after)
      × RestoresState G before saved.state.items after

  -- the same of all, in order
  abbrev pub AreBodies : Ghosts B → List SavedObject → List (Option B) → List (ℕ × Body B) → Type 0
  AreBodies G [] [] [] = Unit {0}
  AreBodies G (object ∷ objects) (box ∷ boxes) (e ∷ entries) = (e.0 ≡ object.number) × IsBody G object.body box e.1
      × AreBodies G objects boxes entries
  AreBodies G [] [] (e ∷ entries) = ⊥
  AreBodies G [] (box ∷ boxes) entries = ⊥
  AreBodies G (object ∷ objects) [] entries = ⊥
  AreBodies G (object ∷ objects) (box ∷ boxes) [] = ⊥

  -- what the objects of a table are, by their numbers
  abbrev pub bodies_of : List (ℕ × Living B) → List (ℕ × Body B)
  bodies_of objects = map (λ e. (e.0, (e.1).body)) objects

  -- A table has the objects of a state: each host object took the first box of its kind that was left, which has its
  -- state now; nothing is held but by fields and elements, and nothing is marked.
  pub record IsRestored (G : Ghosts B) (objects : List SavedObject) (pool : List B) (table : Table B) : Type 0 where
    pub boxes : List (Option B)
    pub drawn : draw_boxes G objects pool ≡ Enough boxes table.pool
    pub bodies : AreBodies G objects boxes (bodies_of table.objects)
    pub not_held : (number : ℕ) → holds_of number table ≡ 0
    pub unmarked : (number : ℕ) → IfSome (object_at number table.objects) (λ object. object.touched ≡ false)

  -- Each service took the state that it had.
  pub record RestoresServices (G : Ghosts B) (before : List B) (states : List (List ℕ)) (after : List B) : Type 0 where
    pub many : length after ≡ length before
    pub each : (place : ℕ) (one other : B) (bytes : List ℕ) → slice_get before place ≡ Some one
        → slice_get after place ≡ Some other → slice_get states place ≡ Some bytes → RestoresState G one bytes other

  -- The box that an object took, if it took one, has the object's state.
  abbrev pub RestoresBox : Ghosts B → Body SavedHostObject → Option B → Option B → Type 0
  RestoresBox G body None after = after ≡ None
  RestoresBox G body (Some before) after = (box : B) × (after ≡ Some box) × RestoresState G before (bytes_of body) box

  -- The boxes that objects took have the states of their objects.
  pub record RestoresBoxes (G : Ghosts B) (objects : List SavedObject) (before after : List (Option B)) : Type 0 where
    pub many : length after ≡ length before
    pub each : (place : ℕ) (object : SavedObject) (one other : Option B) → slice_get objects place ≡ Some object
        → slice_get before place ≡ Some one → slice_get after place ≡ Some other → RestoresBox G object.body one other

  -- The service at a place refused its state, and those before it took theirs.
  pub record ServiceRefused (G : Ghosts B) (services : List B) (states : List (List ℕ)) : Type 0 where
    pub place : ℕ
    pub service : B
    pub bytes : List ℕ
    pub back : List B
    pub there : slice_get services place ≡ Some service
    pub state : slice_get states place ≡ Some bytes
    pub before : RestoresServices G (take place services) states back
    pub refused : G.refuses service bytes

  -- The box that the object of a number took refused the object's state, and those before it took theirs.
  pub record BoxRefused (G : Ghosts B) (objects : List SavedObject) (boxes : List (Option B)) (number : ℕ)
      : Type 0 where
    pub place : ℕ
    pub object : SavedObject
    pub box : B
    pub back : List (Option B)
    pub there : slice_get objects place ≡ Some object
    pub named : object.number ≡ number
    pub took : slice_get boxes place ≡ Some (Some box)
    pub before : RestoresBoxes G objects (take place boxes) back
    pub refused : G.refuses box (bytes_of object.body)

  -- What was refused, once the pool was long enough: the state of the first service that refused; or, where all
  -- services took theirs, the state of the first host object, by number, whose box refused.
  pub data IsRefused (G : Ghosts B) (objects : List SavedObject) (states : List (List ℕ))
      (pool services : List B) : ℕ → Type 0 where
    Service : (boxes : List (Option B)) (left : List B) → draw_boxes G objects pool ≡ Enough boxes left
        → ServiceRefused G services states → IsRefused G objects states pool services 0
    Object : (number : ℕ) (boxes : List (Option B)) (left back : List B)
        → draw_boxes G objects pool ≡ Enough boxes left → RestoresServices G services states back
        → BoxRefused G objects boxes number → IsRefused G objects states pool services number

  -- what an object is, with the box that it took in place of its kind and state; nothing where it needed one and took
  -- none
  abbrev pub with_drawn : Body SavedHostObject → Option B → Option (Body B)
  with_drawn (Script script) box = Some (Script script)
  with_drawn (Array array) box = Some (Array array)
  with_drawn (Host saved) None = None
  with_drawn (Host saved) (Some box) = Some (Host box)

  -- each host object took a box
  abbrev pub AreFit : List SavedObject → List (Option B) → Type 0
  AreFit [] [] = Unit {0}
  AreFit [] (box ∷ boxes) = ⊥
  AreFit (object ∷ objects) [] = ⊥
  AreFit (object ∷ objects) (box ∷ boxes) = IsSome (with_drawn object.body box) × AreFit objects boxes

  -- an object as it is put into its slot
  pub record IsFresh (object : SlotEntry B) : Type 0 where
    pub uncounted : (object.item).count ≡ 0
    pub waits : object.waiting ≡ true
    pub unmarked : (object.item).touched ≡ false

  -- objects as they are put into their slots, with the boxes that they took
  abbrev pub AreInserted : List SavedObject → List (Option B) → List (ℕ × SlotEntry B) → Type 0
  AreInserted [] [] [] = Unit {0}
  AreInserted (object ∷ objects) (box ∷ boxes) (e ∷ entries) = (e.0 ≡ object.number)
      × (with_drawn object.body box ≡ Some ((e.1).item).body) × IsFresh e.1 × AreInserted objects boxes entries
  AreInserted [] [] (e ∷ entries) = ⊥
  AreInserted [] (box ∷ boxes) entries = ⊥
  AreInserted (object ∷ objects) [] entries = ⊥
  AreInserted (object ∷ objects) (box ∷ boxes) [] = ⊥

  -- the objects, each counted once more for each word of these that is a handle to it
  abbrev pub refer_objects : List ℕ → List (ℕ × SlotEntry B) → List (ℕ × SlotEntry B)
  refer_objects [] objects = objects
  refer_objects (number ∷ numbers) objects = refer_objects numbers (refer_all (words_at number objects) objects)
