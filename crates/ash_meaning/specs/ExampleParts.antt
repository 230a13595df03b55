-- Parts of small modules whose meaning is computed, and what is compared of it.
use Rattle.std.specs.Prelude.{◌≡◌, ℕ, pos, List, [], ◌∷◌, replicate, codes, Option, Some, None, option_map}
use Rattle.std.specs.Option.{option_map_or}
use Rattle.ash_host.specs.declared.word.Word.{Word}
use Rattle.ash_host.specs.declared.word.Word.TheVariants as words
use Rattle.ash_host.specs.declared.answer.HostAnswer.TheVariants.{Value, Nothing}
use Rattle.ash_host.specs.declared.event.Event.{Event}
use Rattle.ash_host.specs.declared.event.Target.TheVariants as host_targets
use Rattle.ash_host.specs.Calls as calls
use Rattle.ash_host.specs.Ints.{int_bytes}
use Rattle.ash_host.specs.Objects.{LiveObjects}
use Rattle.ash_host.specs.Records.{HostRecord}
use Rattle.ash_integers.specs.declared.int_type.IntType.TheVariants as ints
use Rattle.ash_typed.specs.declared.types.ObjectType.TheVariants as objects
use Rattle.ash_typed.specs.declared.types.VarType.{VarType}
use Rattle.ash_typed.specs.declared.types.VarType.TheVariants as vars
use Rattle.ash_typed.specs.declared.tree.operations.Variable.TheVariants as variables
use Rattle.ash_typed.specs.declared.tree.operations.ObjectMember.TheVariants as members
use Rattle.ash_typed.specs.declared.tree.operations.Method.TheVariants as methods
use Rattle.ash_typed.specs.declared.tree.operations.CallTarget.TheVariants as targets
use Rattle.ash_typed.specs.declared.tree.operations.Calculator.{Calculator}
use Rattle.ash_typed.specs.declared.tree.operations.Operation.TheVariants as operations
use Rattle.ash_typed.specs.TypedTree.{Expr, Number, Invoke, Operate, Call, Place, Stored, Held, exprs}
use Rattle.ash_typed.specs.StatementTree.{Initialization, Stmt, Evaluate, Return, stmts}
use Rattle.ash_typed.specs.Modules.{Variables, Function, Class, Module}
use Rattle.ash_meaning.specs.Activity.{World}
use Rattle.ash_meaning.specs.Classes.{Program}
use Rattle.ash_meaning.specs.declared.exception.Exception.{Exception}
use Rattle.ash_meaning.specs.Ends.{End, Finished, Threw, Aborted, Outcome, load_module}

-- parts of trees

abbrev pub int : VarType
int = vars.Integer ints.Int

abbrev pub handle_of_class : ℕ → VarType
handle_of_class class = vars.Handle (objects.Class class)

abbrev pub handle_of_kind : ℕ → VarType
handle_of_kind kind = vars.Handle (objects.Host kind)

abbrev pub number : ℕ → Expr
number n = Number ints.Int n

abbrev pub local : ℕ → VarType → Place
local slot of = Stored (variables.Local slot of)

abbrev pub global : ℕ → VarType → Place
global place of = Stored (variables.Global place of)

abbrev pub calculate : Calculator → Expr → Expr → Expr
calculate operator a b = Operate (operations.Calculate (record { operator = operator; of = ints.Int })) a b

abbrev pub variable : VarType → Option Expr → Initialization
variable of value = record { name = []; of = of; value = value }

abbrev pub named : List ℕ → VarType → Option Expr → Initialization
named name of value = record { name = name; of = of; value = value }

-- variables of a module with one of them
abbrev pub alone : Initialization → Variables
alone v = record { line = 1; values = v ∷ [] }

abbrev pub returning : Expr → Stmt
returning e = Return 1 (Some e)

abbrev pub evaluate : Expr → Stmt
evaluate e = Evaluate 1 e

abbrev pub function : List ℕ → Option VarType → List VarType → List Stmt → Function
function name result parameters body =
    record { name = name; line = 1; result = result; parameters = parameters; body = stmts body }

abbrev pub module_of : List Class → List Variables → List Function → Module
module_of classes globals functions =
    record { interfaces = []; classes = classes; functions = functions; globals = globals }

abbrev pub program : Module → Program
program m = record { name = codes "m"; tree = m }

-- worlds, and what is compared of an outcome

abbrev pub empty_world : World
empty_world = record {
  globals = [];
  outside = [];
  objects = [];
  last = 0;
  services = [];
  pool = [];
  answers = [];
  events = [];
}

abbrev pub end_of : Option Outcome → Option End
end_of outcome = option_map (λ (o : Outcome). o.end) outcome

-- a run ends with a value; by an exception, or by a refused tick, in a function at a line; or it has no step
abbrev pub FinishesWith : Option Outcome → Word → Type 0
FinishesWith outcome word = end_of outcome ≡ Some (Finished (Some word))

abbrev pub ThrowsAt : Option Outcome → Exception → List ℕ → ℕ → Type 0
ThrowsAt outcome exception function line = end_of outcome ≡ Some (Threw exception function line)

abbrev pub AbortsAt : Option Outcome → List ℕ → ℕ → Type 0
AbortsAt outcome function line = end_of outcome ≡ Some (Aborted function line)

-- the same of modules on one line
abbrev pub Throws : Option Outcome → Exception → List ℕ → Type 0
Throws outcome exception function = ThrowsAt outcome exception function 1

abbrev pub Aborts : Option Outcome → List ℕ → Type 0
Aborts outcome function = AbortsAt outcome function 1

abbrev pub HasNoStep : Option Outcome → Type 0
HasNoStep outcome = end_of outcome ≡ None

-- what a run leaves

abbrev pub HasEvents : Option Outcome → List Event → Type 0
HasEvents outcome events = option_map (λ (o : Outcome). (o.world).events) outcome ≡ Some events

abbrev pub HasServices : Option Outcome → List (List ℕ) → Type 0
HasServices outcome states = option_map (λ (o : Outcome). (o.world).services) outcome ≡ Some states

abbrev pub HasGlobals : Option Outcome → List Word → Type 0
HasGlobals outcome globals = option_map (λ (o : Outcome). (o.world).globals) outcome ≡ Some globals

abbrev pub HasObjects : Option Outcome → LiveObjects (List ℕ) → Type 0
HasObjects outcome objects = option_map (λ (o : Outcome). (o.world).objects) outcome ≡ Some objects

-- the last number that was given to an object
abbrev pub HasLast : Option Outcome → ℕ → Type 0
HasLast outcome last = option_map (λ (o : Outcome). (o.world).last) outcome ≡ Some last

-- every number was given to an object
abbrev pub numbers_spent : World
numbers_spent = record empty_world { last = 18446744073709551615 }

-- what a load leaves, with the budget of 9 ticks
abbrev pub loaded : Program → World
loaded p = option_map_or (λ (o : Outcome). o.world) (load_module p 9 empty_world) empty_world

-- counters, which have kind 1

abbrev pub with_counters : ℕ → List HostRecord → World → World
with_counters count answers world =
    record world { pool = replicate count (record { kind = 1; state = int_bytes (pos 0) }); answers = answers }

abbrev pub counters : ℕ → List HostRecord → World
counters count answers = with_counters count answers empty_world

abbrev pub started : ℕ → ℕ → HostRecord
started object n = record {
  target = host_targets.Object object;
  call = calls.Start (words.Int (pos n) ∷ []);
  before = int_bytes (pos 0);
  answer = Nothing;
  after = int_bytes (pos n);
}

abbrev pub added : ℕ → ℕ → ℕ → ℕ → HostRecord
added object n old sum =
    record {
      target = host_targets.Object object;
      call = calls.Invoke 1 (words.Int (pos n) ∷ []);
      before = int_bytes (pos old);
      answer = Value (words.Int (pos sum));
      after = int_bytes (pos sum);
    }

abbrev pub counter : VarType
counter = handle_of_kind 1

abbrev pub new_counter : ℕ → Expr
new_counter n = Call (targets.Host 1) (int ∷ []) (exprs (number n ∷ []))

abbrev pub add : Expr → ℕ → Expr
add object n = Invoke object (methods.Host 1 (Some int)) (int ∷ []) (exprs (number n ∷ []))

abbrev pub counter_value : Expr → Place
counter_value object = Held object (members.Property 1 int)

-- the service that adds: its functions 1, which adds, and 2, which gives the total

abbrev pub tallied_by : ℕ → ℕ → ℕ → HostRecord
tallied_by n old sum =
    record {
      target = host_targets.Service 0;
      call = calls.Invoke 1 (words.Int (pos n) ∷ []);
      before = int_bytes (pos old);
      answer = Value (words.Int (pos sum));
      after = int_bytes (pos sum);
    }

abbrev pub totalled : ℕ → HostRecord
totalled n = record {
  target = host_targets.Service 0;
  call = calls.Invoke 2 [];
  before = int_bytes (pos n);
  answer = Value (words.Int (pos n));
  after = int_bytes (pos n);
}

abbrev pub tally : ℕ → Expr
tally n = Call (targets.Service 0 1 (Some int)) (int ∷ []) (exprs (number n ∷ []))

abbrev pub total : Expr
total = Call (targets.Service 0 2 (Some int)) [] (exprs [])

-- functions

abbrev pub f : List ℕ
f = codes "f"

-- a module with one function, `f`, of these parameters
abbrev pub only : Option VarType → List VarType → List Stmt → Program
only result parameters body = program (module_of [] [] (function f result parameters body ∷ []))
