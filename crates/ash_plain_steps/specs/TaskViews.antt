-- What the code's tasks represent, and what the code gives where it refuses.
use Rattle.std.specs.Prelude.{◌≡◌, ℕ, List, Option, Some, None, Result, Ok, Err, option_map, slice_get}
use Rattle.std.specs.Prelude.{if◌then◌else◌, codes}
use Rattle.std.specs.List.{find, position_from}
use Rattle.std.specs.Str.{bytes_eq}
use Rattle.std.specs.Option.{option_and_then}
use Rattle.ash_host.specs.declared.word.Word.{Word}
use Rattle.ash_host.specs.Objects.{Plain, Script, Array, Host}
use Rattle.ash_typed.specs.Modules.{Variables, Class, Module, module_of}
use Rattle.ash_typed.specs.SoundModules.{names_of_globals}
use Rattle.ash_requests.specs.States.{has_name}
use Rattle.ash_meaning.specs.Classes.{dotted}
use Rattle.ash_requests.specs.Requests.{ObjectContents, Fields, HostState, Elements}
use Rattle.ash_requests.specs.Tasks.{Task, Initialize, Invoke, Remove, Read, Show, Count, Rewrite, TaskResult}
use Rattle.ash_requests.specs.Tasks.{class_placed, shown_fields}
use Rattle.ash_requests.specs.TaskResults.{TakesMemoryToFind}
use Rattle.ash_plain_steps.specs.declared.state.LoadedModule.{LoadedModule}
use Rattle.ash_requests.specs.declared.refusal.Refusal as refusal
use Rattle.ash_requests.specs.declared.refusal.Refusal.TheVariants as refusals
use Rattle.ash_plain_steps.specs.declared.task.Task as task
use Rattle.ash_plain_steps.specs.declared.task.Task.TheVariants as tasks
use Rattle.ash_plain_steps.specs.StateViews.{loaded_seen}
use Rattle.ash_requests.specs.RequestViews.{refusal_seen, shown_seen}

-- a task, whose module goes by its place among these
abbrev pub task_seen : List LoadedModule → task.Task → Option Task
task_seen ms (tasks.Initialize new) = Some (Initialize new.name.now new.source.now (module_of new.tree))
task_seen ms (tasks.Invoke call) =
    option_map (λ m. Invoke (loaded_seen m) (module_of m.tree) call.function call.args.items)
    (slice_get ms call.module)
task_seen ms (tasks.Remove place) = option_map (λ m. Remove (loaded_seen m).name) (slice_get ms place)
task_seen ms (tasks.Read word) = Some (Read word)
task_seen ms (tasks.Show shown) = Some (Show (shown_seen shown))
task_seen ms tasks.Count = Some Count
task_seen ms tasks.Rewrite = Some Rewrite

-- The code refuses for the cause for which the definitions refuse, or since memory was refused where it takes some to
-- find it.
abbrev pub RefusesAs : {Code Fault : Type 0} → (Code → Fault) → (Fault → Type 0) → refusal.Refusal Code
    → TaskResult Fault → Type 0
RefusesAs fault takes refusals.NoMemory wanted = TakesMemoryToFind takes wanted
RefusesAs fault takes r wanted = wanted ≡ Err (refusal_seen fault r)

-- The code gives the task that the definitions give, or refuses.
abbrev pub GivesTask : {Code Fault : Type 0} → (Code → Fault) → (Fault → Type 0) → List LoadedModule
    → Result task.Task (refusal.Refusal Code) → TaskResult Fault → Type 0
GivesTask fault takes ms (Ok t) wanted = option_map (λ one. Ok one) (task_seen ms t) ≡ Some wanted
GivesTask fault takes ms (Err r) wanted = RefusesAs fault takes r wanted

-- The code finds what a task is made of, or refuses.
abbrev pub FindsFor : {X Code Fault : Type 0} → (Code → Fault) → (Fault → Type 0) → (X → Task)
    → Result X (refusal.Refusal Code) → TaskResult Fault → Type 0
FindsFor fault takes view (Ok x) wanted = wanted ≡ Ok (view x)
FindsFor fault takes view (Err r) wanted = RefusesAs fault takes r wanted

-- the module of a name
abbrev pub module_named : List ℕ → List LoadedModule → Option LoadedModule
module_named name ms = find (λ m. has_name name (loaded_seen m)) ms

abbrev pub tree_named : List ℕ → List LoadedModule → Option Module
tree_named name ms = option_map (λ m. module_of m.tree) (module_named name ms)

-- the class of an object, in the module of this name, by its place in the source
abbrev pub class_in : List ℕ → ℕ → List LoadedModule → Option Class
class_in owner place ms = option_and_then (class_placed place) (tree_named owner ms)

abbrev pub class_of_object : List ℕ → List LoadedModule → Plain (List ℕ) → Option Class
class_of_object name ms (Script owner place fields) = if bytes_eq owner name then class_in name place ms else None
class_of_object name ms _ = None

-- the name of the type of an object, and what is in it, by the typed trees of these modules
abbrev pub described_in : (ℕ → List ℕ) → List LoadedModule → Plain (List ℕ) → Option (List ℕ × ObjectContents)
described_in name_of_kind ms (Script owner place fields) =
    option_map (λ (c : Class). (dotted owner c.name, Fields (shown_fields c fields))) (class_in owner place ms)
described_in name_of_kind ms (Array of elements) = Some (codes "array", Elements elements)
described_in name_of_kind ms (Host kind bytes) = Some (name_of_kind kind, HostState bytes)

-- what a global holds, by its name among these declarations and its place among these words
abbrev pub word_among : List ℕ → List Variables → List Word → Option Word
word_among name declarations words =
    option_and_then (λ place. slice_get words place)
    (position_from (λ other. bytes_eq other name) 0 (names_of_globals declarations))
