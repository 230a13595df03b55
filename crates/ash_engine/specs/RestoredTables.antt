-- The table of a state that was stored, or why there is none.
use Rattle.std.specs.Prelude.{◌≡◌, ℕ, List, []}
use Rattle.ash_host.specs.declared.host_object.HostObject.{Ghosts}
use Rattle.ash_objects.specs.declared.restoring.SavedObject.{SavedObject}
use Rattle.ash_objects.specs.Restoring.{Short, draw_boxes, IsRestored, IsRefused}
use Rattle.ash_objects.specs.Table.{Table}
use Rattle.ash_requests.specs.States.{State}
use Rattle.ash_table_states.specs.SavedObjects.{AreSavedOf}

module _ {B : Type 0} (G : Ghosts B) where
  -- A table has the objects of a state, whose boxes are taken from a pool, and its last number. Nothing is marked.
  pub record IsTableOf (s : State) (pool : List B) (table : Table B) : Type 0 where
    pub saved : List SavedObject
    pub are : AreSavedOf s saved
    pub restored : IsRestored G saved pool table
    pub last : table.last ≡ s.last
    pub settled : table.settled ≡ s.last
    pub gone : table.gone ≡ []

  -- The pool has too few boxes of a kind for the objects of a state.
  pub record IsShortOf (s : State) (pool : List B) (kind : ℕ) : Type 0 where
    pub saved : List SavedObject
    pub are : AreSavedOf s saved
    pub short : draw_boxes G saved pool ≡ Short kind

  -- A service or a host object refused its state.
  pub record IsRefusedOf (s : State) (pool services : List B) (number : ℕ) : Type 0 where
    pub saved : List SavedObject
    pub are : AreSavedOf s saved
    pub refused : IsRefused G saved s.services pool services number
