-- The live state that the code has: modules with their code, and the table of objects, where a module has a slot in
-- place of its name.
use Rattle.std.specs.Prelude.{◌≡◌, ℕ, List, map, nat_eq}
use Rattle.std.specs.List.{AllByRecursion, AllZip, IsDistinct}
use Rattle.ash_host.specs.declared.host_object.HostObject.{Ghosts}
use Rattle.ash_host.specs.Objects.{handles}
use Rattle.ash_registry.specs.AcceptedRegistrations.{Registration}
use Rattle.ash_typed.specs.Modules.{Module, module_of}
use Rattle.ash_meaning.specs.Activity.{FreeBox}
use Rattle.ash_soundness.specs.WellFormed.{Context, IsContext, IsState}
use Rattle.ash_object_ranks.specs.ShownTables.{SlotNames}
use Rattle.ash_run_steps.specs.Answered.{boxes_of}
use Rattle.ash_run_steps.specs.RunStates.{HoldsRoots}
use Rattle.ash_code.specs.CompiledCode.{IsCodeOf}
use Rattle.ash_requests.specs.States.{globals_of}
use Rattle.ash_plain_steps.specs.declared.state.LoadedModule.{LoadedModule}
use Rattle.ash_plain_steps.specs.StateViews.{modules_seen}
use Rattle.ash_plain_steps.specs.Consistency.{AreConsistent}
use Rattle.ash_states.specs.HostStates.{HostState, IsAdmitted, embedding_for, service_kinds}
use Rattle.ash_table_states.specs.TableStates.{names_in, state_shown}
use Rattle.ash_engine.specs.declared.live.Compiled.{Compiled}
use Rattle.ash_engine.specs.declared.live.Live.{Live}
use Rattle.ash_change_laws.specs.MarkedObjects.{IsSettled}
use Rattle.ash_change_records.specs.ListedChanges.{AreListable}
use Rattle.ash_engine.specs.LiveStates.{LiveState, plain_box}
use Rattle.ash_engine.specs.NamedChanges.{changes_seen}

-- the slots of modules, in their order
abbrev pub slots_of : List Compiled → List ℕ
slots_of cs = map (λ (c : Compiled). c.code.module) cs

-- the code is that of a tree, whatever else is known
abbrev pub IsCodeOfTree : Module → Compiled → Type 0
IsCodeOfTree tree c = (x : Context) → IsContext x → (x.program).tree ≡ tree → IsCodeOf c.code x

abbrev pub IsCompiledFrom : LoadedModule → Compiled → Type 0
IsCompiledFrom m c = IsCodeOfTree (module_of m.tree) c

-- The modules have code, each in its place, and slots that differ.
pub record AreCompiled (ms : List LoadedModule) (cs : List Compiled) : Type 0 where
  pub each : AllZip IsCompiledFrom ms cs
  pub apart : IsDistinct nat_eq (slots_of cs)

-- the state of a free box is no longer than a state may be
abbrev pub BoxFits : FreeBox → Type 0
BoxFits box = IsState box.state

abbrev pub BoxesFit : List FreeBox → Type 0
BoxesFit pool = AllByRecursion BoxFits pool

module _ {B : Type 0} where
  -- the names of the modules of a live state, by their slots
  abbrev pub names_of : Live B → SlotNames
  names_of l = names_in (modules_seen l.loaded.modules.items) (slots_of l.compiled.items)

  -- the objects that globals are handles to, once for each
  abbrev pub roots_of : Live B → List ℕ
  roots_of l = handles (globals_of (modules_seen l.loaded.modules.items))

module _ {B : Type 0} (G : Ghosts B) where
  -- the state that a live state has, with what is registered
  abbrev pub durable_seen : List Registration → Live B → HostState
  durable_seen registered l = record {
    registered = registered;
    state = state_shown G (modules_seen l.loaded.modules.items) (slots_of l.compiled.items) l.loaded.seq l.table;
  }

  -- the live state that the code has
  abbrev pub live_seen : List Registration → Live B → LiveState B
  live_seen registered l = record {
    durable = durable_seen registered l;
    pool = map (plain_box G) l.table.pool;
    boxes = boxes_of l.table;
    changes = changes_seen (modules_seen l.loaded.modules.items) l.changes;
  }

  -- A host may be in it; the typed tree of each module is that of its source, and its code is that of the tree; each
  -- object is held in the table as often as globals hold it; the services are of the kinds that are registered, in
  -- order; and the states of free boxes are not too long. That each object is of a module that is loaded, and that the
  -- boxes are those of the state, follows.
  pub record IsLive (registered : List Registration) (l : Live B) : Type 0 where
    pub admitted : IsAdmitted (durable_seen registered l)
    pub consistent : AreConsistent (embedding_for registered) l.loaded.modules.items
    pub compiled : AreCompiled l.loaded.modules.items l.compiled.items
    pub held : HoldsRoots l.table (roots_of l)
    pub kinds : map G.kind_of l.table.services ≡ service_kinds registered
    pub fit : BoxesFit (map (plain_box G) l.table.pool)
    -- nothing is marked between requests
    pub settled : IsSettled l.table
    -- the names of what the last answered request changed can be listed
    pub listable : AreListable (changes_seen (modules_seen l.loaded.modules.items) l.changes)
