-- Well-formed states: what outlives a request, and so what an image of a state may hold.
use Rattle.std.specs.Prelude.{◌≡◌, ◌≤◌, ℕ, true, List, [], ◌∷◌, length, find, Contains, IsSome, Ok}
use Rattle.std.specs.declared.cmp.Ordering.TheVariants.{Less}
use Rattle.std.specs.List.{AllByRecursion}
use Rattle.std.specs.Option.{option_and_then}
use Rattle.ash_host.specs.Objects.{LiveObjects, handles, Lives, AreNumbered}
use Rattle.ash_host.specs.Reach.{ReachableIn}
use Rattle.ash_host.specs.Limits.{max_objects}
use Rattle.ash_typed.specs.Modules.{Module}
use Rattle.ash_typed.specs.Signatures.{HostSignatures, types_of_globals}
use Rattle.ash_meaning.specs.Activity.{FreeBox}
use Rattle.ash_meaning.specs.ObjectSteps.{max_number}
use Rattle.ash_soundness.specs.WellFormed.{Known, AreValues, AreObjects, AreOffered, IsState, AreAnswers}
use Rattle.ash_soundness.specs.WellFormedLaws.{OffersNothing}
use Rattle.ash_requests.specs.States.{LoadedModule, State, Hosts, Embedding, compare_names, has_name, globals_of}
use Rattle.ash_requests.specs.Requests.{Request}
use Rattle.ash_requests.specs.Tasks.{is_module_name, max_modules, max_seq, tree_of}
use Rattle.ash_requests.specs.Steps.{Step, step, Steps, History, run, Runs}
use Rattle.ash_requests.specs.Premises.{ReadsSound}

-- what hosts bring: no state is longer than a state may be, and an answer has a number that its type has
pub record AreHosts (h : Hosts) : Type 0 where
  pub pool : AllByRecursion (λ (box : FreeBox). IsState box.state) h.pool
  pub answers : AreAnswers h.answers

-- the modules come after a name
abbrev pub ComeAfter : List ℕ → List LoadedModule → Type 0
ComeAfter name ms = AllByRecursion (λ (m : LoadedModule). compare_names name m.name ≡ Less) ms

-- each module comes before all that follow it: names ascend, and no two are one
abbrev pub Ascend : List LoadedModule → Type 0
Ascend [] = Unit {0}
Ascend (m ∷ ms) = ComeAfter m.name ms × Ascend ms

-- the name of a module is one that a module may have
abbrev pub HasValidName : LoadedModule → Type 0
HasValidName m = is_module_name m.name ≡ true

module _ {Fault : Type 0} (embedding : Embedding Fault) where
  -- the modules that are loaded, by name
  abbrev pub known_of : List LoadedModule → Known
  known_of ms name = option_and_then (tree_of embedding) (find (has_name name) ms)

  -- a module that is loaded: its source is read, and its globals are of their types
  pub record IsLoaded (all : LiveObjects (List ℕ)) (m : LoadedModule) : Type 0 where
    pub tree : Module
    pub is : embedding.read m.source ≡ Ok tree
    pub values : AreValues (record { name = m.name; tree = tree }) all (types_of_globals tree.globals) m.globals

  -- A state: the modules are by ascending name, what is stored is of its type, host objects are of kinds that the host
  -- has, numbers are at most the last, limits hold, and every object can be reached from the globals.
  pub record IsWellFormedState (host : HostSignatures) (s : State) : Type 0 where
    pub ascending : Ascend s.modules
    pub valid : AllByRecursion HasValidName s.modules
    pub few_modules : length s.modules ≤ max_modules
    pub loaded : AllByRecursion (IsLoaded s.objects) s.modules
    pub numbered : AreNumbered s.last s.objects
    pub last : s.last ≤ max_number
    pub few : length s.objects ≤ max_objects
    pub living : AreObjects (known_of s.modules) s.objects
    pub offered : AreOffered host s.objects
    pub services : AllByRecursion IsState s.services
    pub seq : s.seq ≤ max_seq
    pub reached : (number : ℕ) → Lives s.objects number
        → ReachableIn (Contains (handles (globals_of s.modules))) s.objects number

  -- the laws

  -- A request leaves a well-formed state, and hosts as they may be, whatever it comes to: also where it is refused for
  -- a cause that is not in the state.
  abbrev pub StepsKeep : HostSignatures → Type 0
  StepsKeep host =
      (budget : ℕ) (request : Request) (state : State) (hosts : Hosts) (one : Step Fault)
      → ReadsSound host embedding
      → IsWellFormedState host state
      → AreHosts hosts
      → Steps embedding budget request state hosts one
      → IsWellFormedState host one.state × AreHosts one.hosts

  -- and so do requests one after another
  abbrev pub RunsKeepWellFormed : HostSignatures → Type 0
  RunsKeepWellFormed host =
      (budget : ℕ) (requests : List Request) (state : State) (hosts : Hosts) (history : History Fault)
      → ReadsSound host embedding
      → IsWellFormedState host state
      → AreHosts hosts
      → Runs embedding budget requests state hosts history
      → IsWellFormedState host history.state × AreHosts history.hosts

  -- Where the host offers nothing, each request has a step in a well-formed state.
  abbrev pub WellFormedHaveSteps : HostSignatures → Type 0
  WellFormedHaveSteps host =
      (budget : ℕ) (request : Request) (state : State) (hosts : Hosts)
      → OffersNothing host
      → ReadsSound host embedding
      → IsWellFormedState host state
      → AreHosts hosts
      → IsSome (step embedding budget request state hosts)

  -- and requests one after another have a run
  abbrev pub HaveRuns : HostSignatures → Type 0
  HaveRuns host =
      (budget : ℕ) (requests : List Request) (state : State) (hosts : Hosts)
      → OffersNothing host
      → ReadsSound host embedding
      → IsWellFormedState host state
      → AreHosts hosts
      → IsSome (run embedding budget requests state hosts)
