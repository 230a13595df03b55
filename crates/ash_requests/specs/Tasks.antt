-- What a request asks for, once all that it names is found, or the first cause for which it is refused.
use Rattle.std.specs.Prelude.{ℕ, ◌-◌, ◌^◌, ◌==◌, ◌&&◌, ◌||◌, nat_le, nat_lt, Bool, true, false, not}
use Rattle.std.specs.Prelude.{if◌then◌else◌, List, [], ◌∷◌, codes, length, map, zip, position, slice_get}
use Rattle.std.specs.Prelude.{Option, Some, None, is_some, option_map, Result, Ok, Err}
use Rattle.std.specs.List.{list_all}
use Rattle.std.specs.Option.{option_map_or, option_and_then}
use Rattle.std.specs.Ordering.{int_eq}
use Rattle.std.specs.Result.{result_err}
use Rattle.std.specs.Str.{bytes_eq}
use Rattle.ash_host.specs.declared.word.Word.{Word}
use Rattle.ash_host.specs.declared.word.Word.TheVariants as words
use Rattle.ash_host.specs.Objects.{Plain, Script, Array, Host, object_at, count_of}
use Rattle.ash_integers.specs.Integers.{reduced}
use Rattle.ash_typed.specs.declared.types.VarType.{VarType}
use Rattle.ash_typed.specs.declared.types.VarType.TheVariants as vars
use Rattle.ash_typed.specs.StatementTree.{Initialization}
use Rattle.ash_typed.specs.Modules.{Function, Class, Module}
use Rattle.ash_typed.specs.SoundModules.{names_of_globals}
use Rattle.ash_meaning.specs.OperatorMeaning.{word_at}
use Rattle.ash_meaning.specs.Classes.{places_of_classes, dotted}
use Rattle.ash_requests.specs.declared.argument.Arg.{Arg}
use Rattle.ash_requests.specs.declared.argument.Arg.TheVariants as arguments
use Rattle.ash_requests.specs.States.{LoadedModule, State, Embedding, find_module, globals_of}
use Rattle.ash_requests.specs.Requests.{Request, Load, Call, Discard, Get, Object, Seq, Snapshot, Refusal}
use Rattle.ash_requests.specs.Requests.{SequenceSpent, BadName, ModuleTaken, TooManyModules, BadSource}
use Rattle.ash_requests.specs.Requests.{NoModule, NoFunction, NotCallable, BadArguments, NoGlobal}
use Rattle.ash_requests.specs.Requests.{NoObject, ObjectContents, Fields, HostState, Elements, Shown}

-- names of modules: a letter or `_`, then letters, digits and `_`, at most so many bytes
abbrev pub max_module_name_bytes : ℕ
max_module_name_bytes = 64

abbrev pub is_between : ℕ → ℕ → ℕ → Bool
is_between low high code = nat_le low code && nat_le code high

-- A to Z, a to z, and _
abbrev pub is_name_start : ℕ → Bool
is_name_start code = is_between 65 90 code || is_between 97 122 code || (code == 95)

-- or 0 to 9
abbrev pub is_name_part : ℕ → Bool
is_name_part code = is_name_start code || is_between 48 57 code

abbrev pub is_name : List ℕ → Bool
is_name [] = false
is_name (code ∷ more) = is_name_start code && list_all is_name_part more

abbrev pub is_module_name : List ℕ → Bool
is_module_name name = is_name name && nat_le (length name) max_module_name_bytes

-- how many modules there are at most, and how many requests are answered at most
abbrev pub max_modules : ℕ
max_modules = 16

abbrev pub max_seq : ℕ
max_seq = 2 ^ 64 - 1

-- arguments

abbrev pub option_cons : {A : Type 0} → Option A → Option (List A) → Option (List A)
option_cons (Some one) (Some more) = Some (one ∷ more)
option_cons _ _ = None

-- an argument as a word of a parameter's type, where the type holds it
abbrev pub argument_of : VarType → Arg → Option Word
argument_of vars.Bool (arguments.Truth b) = Some (words.Bool b)
argument_of (vars.Integer int_type) (arguments.Number z) =
    if int_eq (reduced int_type z) z then Some (word_at int_type z) else None
argument_of _ _ = None

-- as many arguments as parameters, each of its type
abbrev pub arguments_of : List VarType → List Arg → Option (List Word)
arguments_of [] [] = Some []
arguments_of (of ∷ parameters) (argument ∷ more) = option_cons (argument_of of argument) (arguments_of parameters more)
arguments_of _ _ = None

-- a function is called from outside where it takes and gives primitives alone
abbrev pub is_primitive : VarType → Bool
is_primitive vars.Bool = true
is_primitive (vars.Integer int_type) = true
is_primitive _ = false

abbrev pub is_callable : Function → Bool
is_callable f = list_all is_primitive f.parameters && option_map_or is_primitive f.result true

-- tasks

pub data Task : Type 0 where
  Initialize : (name source : List ℕ) (tree : Module) → Task
  Invoke : (loaded : LoadedModule) (tree : Module) (function : ℕ) (args : List Word) → Task
  Remove : (name : List ℕ) → Task
  Read : (word : Word) → Task
  Show : (shown : Shown) → Task
  Count : Task
  Rewrite : Task

-- a task, or why there is none
abbrev pub TaskResult : Type 0 → Type 0
TaskResult Fault = Result Task (Refusal Fault)

module _ {Fault : Type 0} where
  -- what must be there, or a refusal
  abbrev pub require_some : {A : Type 0} → Option A → Refusal Fault → (A → TaskResult Fault) → TaskResult Fault
  require_some (Some one) refusal next = next one
  require_some None refusal next = Err refusal

  -- what must hold, or a refusal
  abbrev pub require : Bool → Refusal Fault → TaskResult Fault → TaskResult Fault
  require true refusal next = next
  require false refusal next = Err refusal

  -- a request that changes the state, for which a sequence number is left
  abbrev pub numbered : State → TaskResult Fault → TaskResult Fault
  numbered state next = require (nat_lt state.seq max_seq) SequenceSpent next

  -- the typed tree of a source that has one
  abbrev pub tree_in : Result Module Fault → Option Module
  tree_in (Ok tree) = Some tree
  tree_in (Err fault) = None

  abbrev pub initialize : List ℕ → List ℕ → Result Module Fault → TaskResult Fault
  initialize name source (Ok tree) = Ok (Initialize name source tree)
  initialize name source (Err fault) = Err (BadSource fault)

  abbrev pub call_in : LoadedModule → Module → List ℕ → List Arg → TaskResult Fault
  call_in m tree name args =
      require_some (position (λ (f : Function). bytes_eq f.name name) tree.functions) NoFunction
      (λ place. require_some (slice_get tree.functions place) NoFunction
      (λ f. require (is_callable f) NotCallable
      (require_some (arguments_of f.parameters args) BadArguments
      (λ given. Ok (Invoke m tree place given)))))

  abbrev pub discarding : List ℕ → State → TaskResult Fault
  discarding name state = require_some (find_module name state) NoModule (λ m. Ok (Remove name))

-- what a global of a module holds
abbrev pub word_named : List ℕ → Module → List Word → Option Word
word_named name tree globals =
    option_and_then (λ place. slice_get globals place)
    (position (λ other. bytes_eq other name) (names_of_globals tree.globals))

-- the class at a place in the source of a module
abbrev pub class_placed : ℕ → Module → Option Class
class_placed place tree =
    option_and_then (λ class. slice_get tree.classes class)
    (position (λ other. other == place) (places_of_classes tree))

abbrev pub name_of : Initialization → List ℕ
name_of v = v.name

abbrev pub shown_fields : Class → List Word → List (List ℕ × Word)
shown_fields c fields = zip (map name_of c.fields) fields

module _ {Fault : Type 0} (embedding : Embedding Fault) where
  -- The typed tree of a module that is loaded. In every state that requests lead to there is one, since the source had
  -- one when it was loaded; so no request is refused since there is none.
  abbrev pub tree_of : LoadedModule → Option Module
  tree_of m = tree_in (embedding.read m.source)

  -- the refusals of each request, in the order in which they are tested

  abbrev pub loading : List ℕ → List ℕ → State → TaskResult Fault
  loading name source state =
      require (is_module_name name) BadName
      (require (not (is_some (find_module name state))) ModuleTaken
      (require (nat_lt (length state.modules) max_modules) TooManyModules
      (initialize name source (embedding.read source))))

  abbrev pub calling : List ℕ → List ℕ → List Arg → State → TaskResult Fault
  calling name function args state =
      require_some (find_module name state) NoModule
      (λ m. require_some (tree_of m) NoModule (λ tree. call_in m tree function args))

  abbrev pub reading : List ℕ → List ℕ → State → TaskResult Fault
  reading name global state =
      require_some (find_module name state) NoModule
      (λ m. require_some (option_and_then (λ tree. word_named global tree m.globals) (tree_of m)) NoGlobal
      (λ word. Ok (Read word)))

  -- the class of an object, by the name of its module and the place in its source
  abbrev pub class_named : List ℕ → ℕ → State → Option Class
  class_named owner place state =
      option_and_then (class_placed place) (option_and_then tree_of (find_module owner state))

  -- the name of the type of an object, and what is in it
  abbrev pub described : Plain (List ℕ) → State → Option (List ℕ × ObjectContents)
  described (Script owner place fields) state =
      option_map (λ (c : Class). (dotted owner c.name, Fields (shown_fields c fields))) (class_named owner place state)
  described (Array of elements) state = Some (codes "array", Elements elements)
  described (Host kind bytes) state = Some (embedding.name_of_kind kind, HostState bytes)

  abbrev pub shown : ℕ → State → List ℕ × ObjectContents → Shown
  shown number state of =
      record {
        number = number;
        type_name = of.0;
        count = count_of number (globals_of state.modules) state.objects;
        contents = of.1;
      }

  abbrev pub showing : ℕ → State → TaskResult Fault
  showing number state =
      require_some (object_at number state.objects) NoObject
      (λ object. require_some (described object state) NoObject
      (λ of. Ok (Show (shown number state of))))

  -- The task of a request in a state, or the first cause for which it is refused. No budget, no free box, no answer of
  -- a host and no memory has a part in it.
  abbrev pub task_of : Request → State → TaskResult Fault
  task_of (Load name source) state = numbered state (loading name source state)
  task_of (Call name function args) state = numbered state (calling name function args state)
  task_of (Discard name) state = numbered state (discarding name state)
  task_of (Get name global) state = reading name global state
  task_of (Object number) state = showing number state
  task_of Seq state = Ok Count
  task_of Snapshot state = Ok Rewrite

  -- why a request is refused, if it is
  abbrev pub first_refusal : Request → State → Option (Refusal Fault)
  first_refusal request state = result_err (task_of request state)
