-- Small runs over requests, whose replies are computed.
use Rattle.std.specs.Prelude.{◌≡◌, ◌==◌, if◌then◌else◌, ℕ, pos, List, [], ◌∷◌, codes}
use Rattle.std.specs.Prelude.{Option, Some, option_map, Result, Ok, Err}
use Rattle.ash_host.specs.Ints.{int_bytes}
use Rattle.ash_host.specs.Records.{HostRecord}
use Rattle.ash_integers.specs.declared.int_type.IntType.TheVariants as ints
use Rattle.ash_typed.specs.declared.tree.operations.Calculator.TheVariants as calculators
use Rattle.ash_typed.specs.TypedTree.{Read, Update, Place}
use Rattle.ash_typed.specs.StatementTree.{Stmt}
use Rattle.ash_typed.specs.Modules.{Module}
use Rattle.ash_meaning.specs.ExampleParts as parts
use Rattle.ash_meaning.specs.ExampleParts.{counters}
use Rattle.ash_meaning.specs.Examples as examples
use Rattle.ash_meaning.specs.ObjectExamples as objects
use Rattle.ash_requests.specs.States.{Hosts, Embedding, empty}
use Rattle.ash_requests.specs.Requests.{Request, HostState, Shown, Reply}
use Rattle.ash_requests.specs.Steps.{History, run}

-- names of modules

abbrev pub m : List ℕ
m = codes "m"

abbrev pub k : List ℕ
k = codes "k"

-- `int n = 2; int f(int k) { n += k; return n; }`
abbrev pub adding : Module
adding = parts.module_of [] (parts.alone (parts.named (codes "n") parts.int (Some (parts.number 2))) ∷ [])
    (parts.function parts.f (Some parts.int) (parts.int ∷ []) (more ∷ parts.returning (Read n) ∷ []) ∷ [])
  where
    n : Place
    n = parts.global 0 parts.int

    more : Stmt
    more = parts.evaluate (Update n ints.Int (record { operator = calculators.Add; of = ints.Int })
        (Read (parts.local 0 parts.int)))

-- `Counter@ g = Counter(7);`
abbrev pub with_counter : Module
with_counter = parts.module_of [] (parts.alone (parts.named (codes "g") parts.counter (Some (parts.new_counter 7)))
    ∷ []) []

-- sources of one byte, which these modules have; no other is a source
abbrev pub read : List ℕ → Result Module (Unit {0})
read [] = Err tt
read (byte ∷ more) =
    if byte == 1 then Ok with_counter else if byte == 2 then Ok (examples.right_side_first).tree
    else if byte == 3 then Ok (objects.unfinished).tree else if byte == 4 then Ok adding else Err tt

-- the kinds are Counter, 1, and Tally
abbrev pub name_of_kind : ℕ → List ℕ
name_of_kind kind = if kind == 1 then codes "Counter" else codes "Tally"

-- the program that embeds these
abbrev pub embedding : Embedding (Unit {0})
embedding = record { read = read; name_of_kind = name_of_kind }

-- a host with one service, this many counters, and these answers
abbrev pub hosts : ℕ → List HostRecord → Hosts
hosts count answers = record { pool = (counters count answers).pool; answers = answers }

abbrev pub replies_to : List Request → ℕ → List HostRecord → Option (List (Reply (Unit {0})))
replies_to requests count answers =
    option_map (λ (h : History (Unit {0})). h.replies)
    (run embedding 20 requests (empty (int_bytes (pos 0) ∷ [])) (hosts count answers))

abbrev pub RepliesInTurn : List Request → ℕ → List HostRecord → List (Reply (Unit {0})) → Type 0
RepliesInTurn requests count answers replies = replies_to requests count answers ≡ Some replies

-- an object of Counter as it is shown, with its count and its value
abbrev pub counter_shown : ℕ → ℕ → ℕ → Shown
counter_shown number count value =
    record { number = number; type_name = codes "Counter"; count = count; contents = HostState (int_bytes (pos value)) }
