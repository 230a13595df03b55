-- The tasks of requests over a live state, and what the machine says of the runs that they are.
use Rattle.std.specs.Prelude.{◌≡◌, ℕ, ◌+◌, List, [], map, slice_get, codes, Some}
use Rattle.std.specs.Option.{option_map_or}
use Rattle.ash_host.specs.declared.host_object.HostObject.{Ghosts}
use Rattle.ash_host.specs.declared.word.Word.{Word}
use Rattle.ash_registry.specs.AcceptedRegistrations.{Registration}
use Rattle.ash_typed.specs.Modules.{Module}
use Rattle.ash_meaning.specs.Classes.{Entry}
use Rattle.ash_code.specs.declared.code.CodeParts.{CodeParts}
use Rattle.ash_code.specs.CompiledCode.{entries_of}
use Rattle.ash_requests.specs.Requests.{Request}
use Rattle.ash_requests.specs.Tasks as tasks
use Rattle.ash_plain_steps.specs.declared.task.Task.{Task}
use Rattle.ash_plain_steps.specs.TaskViews.{task_seen}
use Rattle.ash_states.specs.StateSteps.{task_of}
use Rattle.ash_engine.specs.declared.live.Compiled.{Compiled}
use Rattle.ash_engine.specs.declared.live.Live.{Live}
use Rattle.ash_engine.specs.TableStates.{durable_seen, IsLive}
use Rattle.std.specs.Prelude.{Ok}

-- the code of modules, in their order
abbrev pub codes_of : List Compiled → List CodeParts
codes_of cs = map (λ (c : Compiled). c.code) cs

-- the name of what is entered by the code of a module, by its place among the functions; `(init)` behind the last
abbrev pub entry_name : Module → ℕ → List ℕ
entry_name m function = option_map_or (λ (e : Entry). e.name) (slice_get (entries_of m) function) (codes "(init)")

module _ {B : Type 0} (G : Ghosts B) where
  -- What is registered, and the request whose task this is in the live state.
  pub record IsAsked (l : Live B) (task : Task) : Type 0 where
    pub registered : List Registration
    pub request : Request
    pub live : IsLive G registered l
    pub one : tasks.Task
    pub seen : task_seen l.loaded.modules.items task ≡ Some one
    pub is : task_of request (durable_seen G registered l) ≡ Ok one
