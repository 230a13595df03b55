-- What is known of a task by its kind: whether it changes the state, and whether finding it takes memory.
use Rattle.std.specs.Prelude.{Ok, Err}
use Rattle.ash_requests.specs.Requests.{BadSource}
use Rattle.ash_requests.specs.Tasks.{Initialize, Invoke, Remove, Show, TaskResult}

-- the request is not refused, and its task changes the state
abbrev pub TaskChangesState : {Fault : Type 0} → TaskResult Fault → Type 0
TaskChangesState (Ok (Initialize name source tree)) = Unit {0}
TaskChangesState (Ok (Invoke loaded tree function args)) = Unit {0}
TaskChangesState (Ok (Remove name)) = Unit {0}
TaskChangesState _ = ⊥

-- What is found with memory: the tree of a source, or its fault where `takes` holds of that; the words of arguments;
-- and an object as it is shown.
abbrev pub TakesMemoryToFind : {Fault : Type 0} → (Fault → Type 0) → TaskResult Fault → Type 0
TakesMemoryToFind takes (Ok (Initialize name source tree)) = Unit {0}
TakesMemoryToFind takes (Ok (Invoke loaded tree function args)) = Unit {0}
TakesMemoryToFind takes (Ok (Show shown)) = Unit {0}
TakesMemoryToFind takes (Err (BadSource fault)) = takes fault
TakesMemoryToFind takes _ = ⊥
