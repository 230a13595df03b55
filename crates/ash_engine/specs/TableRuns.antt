-- What runs take of a live state, what the machine says of them, and what they leave.
use Rattle.std.specs.Prelude.{◌≡◌, ◌⊎◌, ◌<◌, ℕ, ◌+◌, ◌++◌, List, [], map, set, slice_get, Some, None, Contains}
use Rattle.std.specs.Prelude.{string_bytes, vec_len, vec_capacity}
use Rattle.std.specs.declared.vec.Vec.{Vec}
use Rattle.std.specs.List.{insert, remove}
use Rattle.ash_host.specs.declared.host_object.HostObject.{Ghosts}
use Rattle.ash_host.specs.declared.word.Word.{Word}
use Rattle.ash_host.specs.declared.event.Event.{Event}
use Rattle.ash_host.specs.Objects.{handles, IsInOrder}
use Rattle.ash_typed.specs.Modules.{Function, module_of}
use Rattle.ash_typed.specs.Signatures.{types_of_globals}
use Rattle.ash_meaning.specs.Activity.{World}
use Rattle.ash_meaning.specs.Classes.{entry_of_function}
use Rattle.ash_meaning.specs.Ends.{End, Finished, Threw, Aborted, Outcome, call_entry, load_module}
use Rattle.ash_meaning.specs.OperatorMeaning.{zero_of}
use Rattle.ash_soundness.specs.WellFormed.{Context, IsContext, IsWellFormed}
use Rattle.ash_objects.specs.Table.{Table}
use Rattle.ash_objects.specs.Sweeping.{gone_from, drops}
use Rattle.ash_object_ranks.specs.SweepLaws.{SweptByCounts}
use Rattle.ash_run_steps.specs.declared.beginning.Parts.{Parts}
use Rattle.ash_run_steps.specs.RunStates.{HoldsLess}
use Rattle.ash_code.specs.declared.code.CodeParts.{CodeParts}
use Rattle.ash_code.specs.CompiledCode.{IsCodeOf, IsSetFor, env_of, first_of_function, first_of_load}
use Rattle.ash_code.specs.Performing.{Setting}
use Rattle.ash_context.specs.declared.context.Left.{Left}
use Rattle.ash_context.specs.declared.outcome.Outcome as run_outcome
use Rattle.ash_context.specs.declared.outcome.Outcome.TheVariants as outcomes
use Rattle.ash_context.specs.Outcomes.{Says, world_in}
use Rattle.ash_requests.specs.Requests.{Reply, Answered, Refused, NoMemory}
use Rattle.ash_requests.specs.RequestViews.{reply_seen}
use Rattle.ash_sources.specs.SourceFaults.{SourceFault, fault_of}
use Rattle.ash_plain_steps.specs.declared.state.LoadedModule.{LoadedModule}
use Rattle.ash_plain_steps.specs.declared.task.NewModule.{NewModule}
use Rattle.ash_plain_steps.specs.StateViews.{loaded_seen, modules_seen}
use Rattle.ash_requests.specs.States.{globals_of, with_module}
use Rattle.ash_objects.specs.Marking.{without_marks}
use Rattle.ash_engine.specs.declared.changes.ModuleChange.{ModuleChange}
use Rattle.ash_engine.specs.declared.changes.ModuleChange.TheVariants as changes
use Rattle.ash_engine.specs.NamedChanges.{AreTaken}
use Rattle.ash_engine.specs.declared.live.Compiled.{Compiled}
use Rattle.ash_engine.specs.declared.live.Live.{Live}
use Rattle.ash_engine.specs.declared.live.Rest.{Rest}
use Rattle.ash_engine.specs.declared.loading.Prepared.{Prepared}
use Rattle.ash_engine.specs.declared.steps.LiveStep.{LiveStep}
use Rattle.ash_engine.specs.TableStates.{slots_of, IsCompiledFrom}

-- the end that an outcome says, if functions have these names
abbrev pub end_named : (ℕ → List ℕ) → run_outcome.Outcome → End
end_named name (outcomes.Finished value) = Finished value
end_named name (outcomes.Exception code function line) = Threw code (name function) line
end_named name (outcomes.Aborted function line) = Aborted (name function) line

-- a run, however many instructions it did
abbrev pub uncounted : World → Outcome → Type 0
uncounted world outcome = Unit {0}

-- there is room for one more
abbrev pub HasRoom : {A C : Type 0} → Vec A C → Type 0
HasRoom items = vec_len items < vec_capacity items

module _ {B : Type 0} (G : Ghosts B) where
  -- what the machine says of a call of a function of code
  abbrev pub SaysOfCall : CodeParts → Parts B → ℕ → List Word → ℕ → Left B → Type 0
  SaysOfCall code parts function args budget left =
      (c : Context) (s : Setting) (f : Function) → IsContext c → IsCodeOf code c → IsSetFor code c s
      → slice_get ((c.program).tree).functions function ≡ Some f
      → IsWellFormed c (env_of c f.parameters) [] (first_of_function f args budget (world_in G s.names [] parts))
      → Says G s.names (λ (world : World). call_entry c.program args budget world (entry_of_function f)) uncounted parts
      left.outcome left.parts

  -- what it says of the initializers
  abbrev pub SaysOfLoad : CodeParts → Parts B → ℕ → Left B → Type 0
  SaysOfLoad code parts budget left =
      (c : Context) (s : Setting) → IsContext c → IsCodeOf code c → IsSetFor code c s
      → (parts.globals).items ≡ map zero_of (types_of_globals ((c.program).tree).globals)
      → IsWellFormed c (env_of c []) []
      (first_of_load (c.program).tree budget (world_in G s.names [] parts))
      → Says G s.names (λ (world : World). load_module c.program budget world) uncounted parts left.outcome left.parts

module _ {B : Type 0} where
  -- The module at a place has lent its globals to a run, with the table. All else rests.
  pub record IsLent (old : Live B) (place : ℕ) (m : LoadedModule) (others : List ℕ) (rest : Rest) (parts : Parts B)
      : Type 0 where
    pub lending : LoadedModule
    pub same : lending ≡ record m { globals = lending.globals }
    pub none : lending.globals.items ≡ []
    pub modules : rest.loaded.modules.items ≡ set old.loaded.modules.items place lending
    pub loaded : rest.loaded ≡ record old.loaded { modules = rest.loaded.modules }
    pub compiled : rest.compiled ≡ old.compiled
    pub changes : rest.changes ≡ old.changes
    pub table : parts.table ≡ old.table
    pub globals : parts.globals.items ≡ m.globals.items
    pub outside : parts.outside.items ≡ others
    pub events : parts.events.items ≡ []

  -- The module at a place has globals again, those that a run left, as it left the table.
  pub record IsGivenBack (rest : Rest) (place : ℕ) (m : LoadedModule) (parts : Parts B) (new : Live B) : Type 0 where
    pub modules : new.loaded.modules.items ≡ set rest.loaded.modules.items place (record m { globals = parts.globals })
    pub loaded : new.loaded ≡ record rest.loaded { modules = new.loaded.modules }
    pub compiled : new.compiled ≡ rest.compiled
    pub changes : new.changes ≡ rest.changes
    pub table : new.table ≡ parts.table

  -- The step answers that a run ended so, with these events, from this live state on. It counts one answer more, has the
  -- names of what was changed, and its table has no marks.
  pub record IsAnswered (before : Live B) (end : End) (events : List Event) (modules : ModuleChange) (one : LiveStep B)
      : Type 0 where
    pub reply : reply_seen fault_of one.reply ≡ Answered end (before.loaded.seq + 1) events
    pub taken : AreTaken events modules before.table one.live.changes
    pub live : one.live ≡ record before {
      loaded = record before.loaded { seq = before.loaded.seq + 1 };
      table = without_marks before.table;
      changes = one.live.changes;
    }

  -- The globals of a module gave up what they held, and there was a release point.
  pub record Released (words : List Word) (old new : Table B) (before after : List Event) : Type 0 where
    pub unheld : Table B
    pub less : HoldsLess (handles words) old unheld
    pub swept : SweptByCounts unheld new
    pub dropped : after ≡ before ++ drops (gone_from unheld.objects new.objects)

  -- A load has what it needs besides the live state: a slot of its own, code, zeros, and what other modules hold.
  pub record IsPrepared (new : NewModule) (old : Live B) (prepared : Prepared) : Type 0 where
    pub name : string_bytes prepared.new_module.name ≡ new.name.now
    pub source : prepared.new_module.source.items ≡ new.source.now
    pub tree : prepared.new_module.tree ≡ new.tree
    pub zeros : prepared.new_module.globals.items ≡ map zero_of (types_of_globals (module_of new.tree).globals)
    pub fresh : Contains (slots_of old.compiled.items) prepared.compiled.code.module → ⊥
    pub compiled : IsCompiledFrom prepared.new_module prepared.compiled
    pub outside : prepared.outside.items ≡ handles (globals_of (modules_seen old.loaded.modules.items))

  -- A module whose initializers came to their end is in its place by name, and so is its code.
  pub record IsKept (rest : Rest) (m : LoadedModule) (c : Compiled) (parts : Parts B) (new : Live B) : Type 0 where
    pub place : ℕ
    pub modules : new.loaded.modules.items ≡ insert rest.loaded.modules.items place (record m { globals = parts.globals })
    pub by_name : modules_seen new.loaded.modules.items
        ≡ with_module (loaded_seen (record m { globals = parts.globals })) (modules_seen rest.loaded.modules.items)
    pub loaded : new.loaded ≡ record rest.loaded { modules = new.loaded.modules }
    pub compiled : new.compiled.items ≡ insert rest.compiled.items place c
    pub table : new.table ≡ parts.table

  -- Nothing changed that can be seen; there may be more room.
  pub record IsUnkept (rest : Rest) (parts : Parts B) (new : Live B) : Type 0 where
    pub modules : new.loaded.modules.items ≡ rest.loaded.modules.items
    pub loaded : new.loaded ≡ record rest.loaded { modules = new.loaded.modules }
    pub compiled : new.compiled.items ≡ rest.compiled.items
    pub changes : new.changes ≡ rest.changes
    pub table : new.table ≡ parts.table

  -- What a load of a module comes to that has nothing to run: memory was refused, and nothing changed; or the module is
  -- kept, and that is answered.
  abbrev pub IsKeptAtOnce : Rest → LoadedModule → Compiled → Parts B → LiveStep B → Type 0
  IsKeptAtOnce rest m c parts one =
      ((reply_seen fault_of one.reply ≡ Refused NoMemory) × IsUnkept rest parts one.live)
      ⊎ ((live : Live B) × IsKept rest m c parts live
      × (place : ℕ) × (slice_get live.loaded.modules.items place ≡ Some (record m { globals = parts.globals }))
      × IsAnswered live (Finished None) parts.events.items (changes.Loaded place) one)

  -- A module whose initializers did not come to their end is gone, with what its globals held.
  pub record IsAbandoned (rest : Rest) (parts : Parts B) (new : Live B) (events : List Event) : Type 0 where
    pub loaded : new.loaded ≡ rest.loaded
    pub compiled : new.compiled ≡ rest.compiled
    pub released : Released parts.globals.items parts.table new.table parts.events.items events
    pub in_order : IsInOrder new.table.objects

  -- The module at a place is gone, with what its globals held.
  pub record IsRemoved (old : Live B) (place : ℕ) (m : LoadedModule) (new : Live B) (events : List Event) : Type 0 where
    pub modules : new.loaded.modules.items ≡ remove old.loaded.modules.items place
    pub loaded : new.loaded ≡ record old.loaded { modules = new.loaded.modules }
    pub compiled : new.compiled.items ≡ remove old.compiled.items place
    pub released : Released m.globals.items old.table new.table [] events
