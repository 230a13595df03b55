-- What the code gives on the way from a state that was stored.
use Rattle.std.specs.Prelude.{◌≡◌, List, [], ◌∷◌, Option, Some, None, Ok}
use Rattle.std.specs.List.{AllByRecursion}
use Rattle.ash_host.specs.Objects.{LiveObjects, with_at}
use Rattle.ash_registry.specs.AcceptedRegistrations.{Registration}
use Rattle.ash_typed.specs.Modules.{Module}
use Rattle.ash_requests.specs.States.{Embedding}
use Rattle.ash_plain_steps.specs.declared.state.LoadedModule as code_module
use Rattle.ash_plain_steps.specs.declared.state.PlainState.{PlainState}
use Rattle.ash_plain_steps.specs.StateViews.{loaded_seen, modules_seen, state_seen}
use Rattle.ash_plain_steps.specs.Consistency.{IsReadFromSource}
use Rattle.ash_image.specs.Snapshots.{Loaded, Snapshot}
use Rattle.ash_states.specs.Images.{loaded_of, loaded_modules_of, state_of, HasServices, IsImageRefused}
use Rattle.ash_states.specs.Holding.{IsHeld}

-- a source has a typed tree
abbrev pub HasTree : {Fault : Type 0} → Embedding Fault → Loaded → Type 0
HasTree embedding m = (tree : Module) × (embedding.read m.source ≡ Ok tree)

-- A module that was stored is read again, or its source has no typed tree.
abbrev pub ReadsModule : {Fault : Type 0} → Embedding Fault → Loaded → Option code_module.LoadedModule → Type 0
ReadsModule embedding stored (Some m) = (loaded_seen m ≡ loaded_of stored) × IsReadFromSource embedding m
ReadsModule embedding stored None = HasTree embedding stored → ⊥

-- the modules that were stored are read again, or the source of one of them has no typed tree
abbrev pub ReadsModules : {Fault : Type 0} → Embedding Fault → List Loaded → Option (List code_module.LoadedModule)
    → Type 0
ReadsModules embedding stored (Some ms) =
    (modules_seen ms ≡ loaded_modules_of stored) × AllByRecursion (IsReadFromSource embedding) ms
ReadsModules embedding stored None = AllByRecursion (HasTree embedding) stored → ⊥

-- these objects, with others put at their numbers one after another
abbrev pub with_all : {M : Type 0} → LiveObjects M → LiveObjects M → LiveObjects M
with_all objects [] = objects
with_all objects (e ∷ more) = with_all (with_at e.0 e.1 objects) more

-- the state of a snapshot, where a host may be in it
abbrev pub RestoresHostState : List Registration → Snapshot → Option PlainState → Type 0
RestoresHostState registered snapshot (Some s) =
    (state_seen s ≡ state_of snapshot) × HasServices registered snapshot × IsHeld registered s
RestoresHostState registered snapshot None = IsImageRefused registered snapshot
