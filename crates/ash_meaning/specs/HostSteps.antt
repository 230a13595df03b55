-- Calls of host objects and services, what is made of their answers, and boxes that are drawn from the pool.
use Rattle.std.specs.Prelude.{ℕ, Bool, true, false, if◌then◌else◌, nat_eq, List, [], ◌∷◌, ◌++◌}
use Rattle.std.specs.Prelude.{remove, position, slice_get, slice_set, Option, Some, None}
use Rattle.std.specs.Option.{option_and_then}
use Rattle.ash_host.specs.declared.word.Word.{Word}
use Rattle.ash_host.specs.declared.word.Word.TheVariants as words
use Rattle.ash_host.specs.declared.answer.HostAnswer.{HostAnswer}
use Rattle.ash_host.specs.declared.answer.HostAnswer.TheVariants as answers
use Rattle.ash_host.specs.declared.event.Event.{Event}
use Rattle.ash_host.specs.declared.event.Event.TheVariants.{Drew, Called}
use Rattle.ash_host.specs.declared.event.Target.{Target}
use Rattle.ash_host.specs.declared.event.Target.TheVariants as targets
use Rattle.ash_host.specs.Calls.{HostCall, Start, Invoke, Get, Set}
use Rattle.ash_host.specs.Objects.{Plain, Host, object_at}
use Rattle.ash_host.specs.Records.{HostRecord, next_record}
use Rattle.ash_integers.specs.declared.int_type.IntType.TheVariants as ints
use Rattle.ash_typed.specs.declared.types.VarType.{VarType}
use Rattle.ash_typed.specs.declared.types.VarType.TheVariants as vars
use Rattle.ash_meaning.specs.declared.exception.Exception.TheVariants.{PoolEmpty, BadHostAnswer, Raised}
use Rattle.ash_meaning.specs.Activity.{FreeBox, World, in_world}
use Rattle.ash_meaning.specs.Runs.{Run, give, ◌>>=◌, ◌>>◌, look, change, raise, no_step, found}
use Rattle.ash_meaning.specs.Releases.{hold}
use Rattle.ash_meaning.specs.ObjectSteps.{with_object, demand_number, make}

-- events

abbrev pub with_event : Event → World → World
with_event event world = record world { events = world.events ++ event ∷ [] }

abbrev pub note : Event → Run (Unit {0})
note event = change (in_world (with_event event))

-- calls

abbrev pub state_in : Plain (List ℕ) → Option (List ℕ)
state_in (Host kind state) = Some state
state_in _ = None

abbrev pub with_state_in : List ℕ → Plain (List ℕ) → Plain (List ℕ)
with_state_in state (Host kind old) = Host kind state
with_state_in state object = object

-- the state of the object or the service that a call goes to
abbrev pub state_of : Target → World → Option (List ℕ)
state_of (targets.Object number) world = option_and_then state_in (object_at number world.objects)
state_of (targets.Service index) world = slice_get world.services index

abbrev pub with_state : Target → List ℕ → World → World
with_state (targets.Object number) state world = with_object number (with_state_in state) world
with_state (targets.Service index) state world = record world { services = slice_set world.services index state }

-- the next of what hosts answer, with those after it, where it is of this call at the state that the target has
abbrev pub next_answer : Target → HostCall → World → Option (HostRecord × List HostRecord)
next_answer target call world =
    option_and_then (λ before. next_record target call before world.answers) (state_of target world)

-- what the host did stays, whatever it answers
abbrev pub after_answer : Target → HostRecord → List HostRecord → World → World
after_answer target next left world = with_state target next.after (record world { answers = left })

-- Calls a host object or a service.
abbrev pub call_host : Target → HostCall → Run HostAnswer
call_host target call =
    look (λ activity. next_answer target call activity.world) >>= found
    >>= (λ taken. change (in_world (after_answer target taken.0 taken.1)) >> give (taken.0).answer)

-- answers

-- whether a word is a value of this type; hosts give no handles
abbrev pub is_of : VarType → Word → Bool
is_of vars.Bool (words.Bool b) = true
is_of (vars.Integer ints.Int) (words.Int n) = true
is_of (vars.Integer ints.Uint) (words.Uint n) = true
is_of (vars.Integer ints.Int64) (words.Int64 n) = true
is_of (vars.Integer ints.Uint64) (words.Uint64 n) = true
is_of _ _ = false

-- What is made of an answer where a result of this type is declared, or none. What gives no value gives null, which no
-- phrase uses. A host object that finds no memory leaves no step.
abbrev pub accept : Option VarType → HostAnswer → Run Word
accept None answers.Nothing = give words.Null
accept (Some of) answers.Nothing = raise BadHostAnswer
accept None (answers.Value word) = raise BadHostAnswer
accept (Some of) (answers.Value word) = if is_of of word then give word else raise BadHostAnswer
accept result (answers.Raise code) = raise (Raised code)
accept result answers.NoMemory = no_step

-- Runs a method of a host object, or a function of a service.
abbrev pub invoke_host : Target → ℕ → Option VarType → List Word → Run Word
invoke_host target id result args =
    call_host target (Invoke id args) >>= (λ answer. note (Called target id) >> accept result answer)

-- properties

abbrev pub get_property : ℕ → ℕ → VarType → Run Word
get_property number id of = call_host (targets.Object number) (Get id) >>= accept (Some of)

abbrev pub set_property : ℕ → ℕ → Word → Run (Unit {0})
set_property number id word = call_host (targets.Object number) (Set id word) >>= accept None >>= (λ _. give tt)

-- boxes of the pool

abbrev pub place_of_kind : ℕ → World → Option ℕ
place_of_kind kind world = position (λ (box : FreeBox). nat_eq box.kind kind) world.pool

abbrev pub without_box : ℕ → World → World
without_box place world = record world { pool = remove world.pool place }

-- the first free box of the kind, in the pool's order
abbrev pub box_in : World → Option ℕ → Run (ℕ × FreeBox)
box_in world None = raise PoolEmpty
box_in world (Some place) = found (slice_get world.pool place) >>= (λ box. give (place, box))

abbrev pub box_of_kind : ℕ → Run (ℕ × FreeBox)
box_of_kind kind = look (λ activity. activity.world) >>= (λ world. box_in world (place_of_kind kind world))

-- Takes a box from the pool, as the object of the next number.
abbrev pub draw : ℕ → Run ℕ
draw kind =
    demand_number >> box_of_kind kind
    >>= (λ box. change (in_world (without_box box.0)) >> make (Host (box.1).kind (box.1).state))
    >>= (λ number. note (Drew number) >> give number)

-- Constructs an object of a registered type: it is held before it is started.
abbrev pub construct_host : ℕ → List Word → Run Word
construct_host kind args =
    draw kind
    >>= (λ number. hold (words.Object number) >> call_host (targets.Object number) (Start args) >>= accept None
    >> give (words.Object number))
