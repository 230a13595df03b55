-- What a request changed, by names: the services that it called, what became of the modules, and the objects that it
-- made, changed or took away. The names are all that the states before and after it differ in.
use Rattle.std.specs.Prelude.{◌≡◌, ◌≢◌, ◌↔◌, ◌⊎◌, ◌<◌, ℕ, List, [], Contains, Some, None, length, slice_get}
use Rattle.ash_host.specs.declared.event.Event.{Event}
use Rattle.ash_host.specs.declared.host_object.HostObject.{Ghosts}
use Rattle.ash_host.specs.declared.word.Word.{Word}
use Rattle.ash_host.specs.Objects.{Host, object_at, Lives, AreNumbered}
use Rattle.ash_host.specs.Records.{HostRecord}
use Rattle.ash_requests.specs.States.{LoadedModule, State, Hosts, Embedding, with_module, without_module, update_globals}
use Rattle.ash_requests.specs.Requests.{Request}
use Rattle.ash_requests.specs.Steps.{Step, step}
use Rattle.ash_requests.specs.StepLaws.{events_of_reply}
use Rattle.ash_objects.specs.Table.{Table}
use Rattle.ash_objects.specs.Marking.{marked_of}
use Rattle.ash_object_ranks.specs.ShownTables.{SlotNames, objects_shown}
use Rattle.ash_run_steps.specs.Following.{HasAnswered, KeepsMarks}
use Rattle.ash_change_laws.specs.UncalledServices.{IsCalled}
use Rattle.ash_change_laws.specs.MarkedObjects.{IsSettled, KeepNames}

-- What became of the modules: nothing; one was loaded; one was discarded; or globals of one hold other words, each by
-- its place in source order.
pub data ModuleChange : Type 0 where
  Unchanged : ModuleChange
  Loaded : (name : List ℕ) → ModuleChange
  Discarded : (name : List ℕ) → ModuleChange
  Globals : (name : List ℕ) (places : List ℕ) → ModuleChange

-- Services by their places in order of registration, what became of the modules, and objects by their numbers: those
-- that live, and those that went.
pub record Changes : Type 0 where
  pub services : List ℕ
  pub modules : ModuleChange
  pub living : List ℕ
  pub gone : List ℕ

-- before any request
abbrev pub nothing : Changes
nothing = record { services = []; modules = Unchanged; living = []; gone = [] }

-- The globals of a module hold other words at these places, of which there are some, and at no others.
pub record HoldOthers (name places : List ℕ) (before after : List LoadedModule) : Type 0 where
  pub was : LoadedModule
  pub words : List Word
  pub named : was.name ≡ name
  pub many : length words ≡ length was.globals
  pub some : places ≢ []
  pub others : (place : ℕ) → Contains places place ↔ (slice_get words place ≢ slice_get was.globals place)
  pub there : Contains before was
  pub changed : after ≡ update_globals name words before

-- A module was there, and the others are left.
pub record IsDiscarded (name : List ℕ) (before after : List LoadedModule) : Type 0 where
  pub was : LoadedModule
  pub named : was.name ≡ name
  pub there : Contains before was
  pub left : after ≡ without_module name before

abbrev pub IsModuleChange : ModuleChange → List LoadedModule → List LoadedModule → Type 0
IsModuleChange Unchanged before after = after ≡ before
IsModuleChange (Loaded name) before after = (m : LoadedModule) × (m.name ≡ name) × (after ≡ with_module m before)
IsModuleChange (Discarded name) before after = IsDiscarded name before after
IsModuleChange (Globals name places) before after = HoldOthers name places before after

-- The names are all that differs between two states, and no more than these events, this change of the modules and the
-- objects that lived or live say.
pub record Names (c : Changes) (happened : List Event) (before after : State) : Type 0 where
  pub called : (place : ℕ) → Contains c.services place ↔ IsCalled place happened
  pub services : (place : ℕ) → (Contains c.services place → ⊥)
      → slice_get after.services place ≡ slice_get before.services place
  pub modules : IsModuleChange c.modules before.modules after.modules
  pub objects : (number : ℕ) → (Contains c.living number → ⊥) → (Contains c.gone number → ⊥)
      → object_at number after.objects ≡ object_at number before.objects
  pub live : (number : ℕ) → Contains c.living number → Lives after.objects number
  pub went : (number : ℕ) → Contains c.gone number
      → Lives before.objects number × (object_at number after.objects ≡ None)

-- No more is named as living than what changed, if hosts gave these answers: a host object only if it was made in the
-- request or gave one of the answers, and none if a module was discarded, since no code runs then.
pub record NamesNoMore (answers : List HostRecord) (before after : State) (c : Changes) : Type 0 where
  pub hosts : (number kind : ℕ) (state : List ℕ) → Contains c.living number
      → object_at number after.objects ≡ Some (Host kind state)
      → (before.last < number) ⊎ HasAnswered answers number
  pub discards : (name : List ℕ) → c.modules ≡ Discarded name → c.living ≡ []

module _ {B : Type 0} where
  -- What a host has of a request besides its reply: tables before and after, whose marks were clear before, and which
  -- show the objects of the states; and names that are those of the table.
  pub record AreNamedBy (G : Ghosts B) (names later : SlotNames) (old new : Table B) (happened : List Event)
      (before after : State) (c : Changes) : Type 0 where
    pub settled : IsSettled old
    pub numbered : AreNumbered old.last old.objects
    pub keeps : KeepsMarks old new
    pub shown_before : before.objects ≡ objects_shown G names old.objects
    pub shown_after : after.objects ≡ objects_shown G later new.objects
    pub same_names : KeepNames G names later new
    pub called : (place : ℕ) → Contains c.services place ↔ IsCalled place happened
    pub modules : IsModuleChange c.modules before.modules after.modules
    pub living : c.living ≡ marked_of new
    pub gone : (number : ℕ) → Contains c.gone number ↔ Contains new.gone number

  -- Such names are all that a request changed.
  abbrev pub StepsAreNamed : {Fault : Type 0} → Ghosts B → Embedding Fault → ℕ → Type 0
  StepsAreNamed {Fault} G embedding budget =
      (request : Request) (before : State) (hosts : Hosts) (one : Step Fault) (names later : SlotNames)
      (old new : Table B) (c : Changes)
      → step embedding budget request before hosts ≡ Some one
      → AreNamedBy G names later old new (events_of_reply one.reply) before one.state c
      → Names c (events_of_reply one.reply) before one.state
