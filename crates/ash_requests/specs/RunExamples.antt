-- Runs over requests, where sources of one byte are given modules.
use Rattle.std.specs.Prelude.{◌≡◌, ℕ, pos, List, [], ◌∷◌, slice_get, Some, option_map, Result, Ok, Err}
use Rattle.std.specs.Option.{option_map_or}
use Rattle.ash_host.specs.Ints.{int_bytes}
use Rattle.ash_host.specs.Records.{HostRecord}
use Rattle.ash_typed.specs.Modules.{Module}
use Rattle.ash_requests.specs.States.{State, Embedding, empty}
use Rattle.ash_requests.specs.Requests.{Request, Reply}
use Rattle.ash_requests.specs.Steps.{History, run}
use Rattle.ash_requests.specs.StepExamples.{name_of_kind, hosts}

-- sources of one byte, which is the place of a module among these; no other is a source
abbrev pub module_at : List Module → List ℕ → Result Module (Unit {0})
module_at modules [] = Err tt
module_at modules (place ∷ more) = option_map_or (λ (m : Module). Ok m) (slice_get modules place) (Err tt)

abbrev pub embedding_of : List Module → Embedding (Unit {0})
embedding_of modules = record { read = module_at modules; name_of_kind = name_of_kind }

-- no module, and one service, at 0
abbrev pub begin : State
begin = empty (int_bytes (pos 0) ∷ [])

-- these requests are answered so, from a state, within a budget of ticks for each, by so many free counters and these
-- answers of hosts
abbrev pub RepliesFrom : State → List Module → ℕ → List Request → ℕ → List HostRecord → List (Reply (Unit {0})) → Type 0
RepliesFrom state modules budget requests count answers replies =
    option_map (λ (h : History (Unit {0})). h.replies)
    (run (embedding_of modules) budget requests state (hosts count answers)) ≡ Some replies

-- the same before any request, with 20 ticks
abbrev pub RepliesOf : List Module → List Request → ℕ → List HostRecord → List (Reply (Unit {0})) → Type 0
RepliesOf modules requests count answers replies = RepliesFrom begin modules 20 requests count answers replies
