-- Calls: of functions, of methods, and of what is constructed.
use Rattle.std.specs.Prelude.{ℕ, if◌then◌else◌, List, map, slice_get, Option, unwrap_or, false}
use Rattle.std.specs.Option.{option_map_or, option_and_then}
use Rattle.ash_host.specs.declared.word.Word.{Word}
use Rattle.ash_host.specs.declared.word.Word.TheVariants as words
use Rattle.ash_host.specs.declared.event.Target.TheVariants as host_targets
use Rattle.ash_host.specs.Objects.{Plain, Script, object_at}
use Rattle.ash_typed.specs.declared.types.ObjectType.{ObjectType}
use Rattle.ash_typed.specs.declared.tree.operations.Method.{Method}
use Rattle.ash_typed.specs.declared.tree.operations.Method.TheVariants as methods
use Rattle.ash_typed.specs.declared.tree.operations.CallTarget.{CallTarget}
use Rattle.ash_typed.specs.declared.tree.operations.CallTarget.TheVariants as targets
use Rattle.ash_typed.specs.StatementTree.{Initialization}
use Rattle.ash_typed.specs.Modules.{Class}
use Rattle.ash_meaning.specs.Activity.{World}
use Rattle.ash_meaning.specs.Runs.{Run, give, ◌>>=◌, ◌>>◌, look, found}
use Rattle.ash_meaning.specs.Frames.{demand_frame, in_frame_of}
use Rattle.ash_meaning.specs.ObjectSteps.{demand_number, make}
use Rattle.ash_meaning.specs.HostSteps.{invoke_host, construct_host}
use Rattle.ash_meaning.specs.ArraySteps.{construct_array, invoke_array}
use Rattle.ash_meaning.specs.OperatorMeaning.{zero_of}
use Rattle.ash_meaning.specs.Classes.{Program, class_of, implemented, is_object_of, element_of, ModuleCallee}
use Rattle.ash_meaning.specs.Classes.{FreeFunction}
use Rattle.ash_meaning.specs.Classes.{Method as ClassMethod, Construction, Entry, entry_of, place_of_class}

-- What phrases call: the module that runs, and what a frame does after the tick of its entry.
pub record Calls : Type 0 where
  pub program : Program
  pub body : Entry → Run (Option Word)

-- of the module that runs

abbrev pub entry : Calls → ModuleCallee → Run Entry
entry calls callee = found (entry_of calls.program.tree callee)

-- the value of a call; what gives no value gives null, which no phrase uses
abbrev pub value_or_null : Option Word → Word
value_or_null value = unwrap_or value words.Null

-- Calls a function, or a method of an object.
abbrev pub call : Calls → ModuleCallee → Word → List Word → Run Word
call calls callee this args =
    entry calls callee
    >>= (λ e. demand_frame
    >> in_frame_of e.name e.line this args (calls.body e >>= (λ value. give (value_or_null value))))

-- a new object of a class, whose fields are zero, `false` or null
abbrev pub blank : Program → ℕ → Class → Plain (List ℕ)
blank p place c = Script p.name (place_of_class p.tree place) (map (λ (v : Initialization). zero_of v.of) c.fields)

-- Constructs an object of a class, whose frame has it as `this`, and gives it.
abbrev pub construct : Calls → ℕ → List Word → Run Word
construct calls class args =
    entry calls (Construction class)
    >>= (λ e. found (slice_get calls.program.tree.classes class)
    >>= (λ c. demand_frame >> demand_number >> make (blank calls.program class c)
    >>= (λ number. in_frame_of e.name e.line (words.Object number) args
    (calls.body e >> give (words.Object number)))))

-- the class of an object
abbrev pub class_at : Calls → ℕ → Run ℕ
class_at calls number =
    look (λ activity. option_and_then (class_of calls.program) (object_at number activity.world.objects)) >>= found

-- Calls the object's own method for one that an interface declares.
abbrev pub call_through : Calls → ℕ → ℕ → ℕ → List Word → Run Word
call_through calls interface method number args =
    class_at calls number
    >>= (λ class. found (implemented calls.program.tree interface method class)
    >>= (λ own. call calls (ClassMethod class own) (words.Object number) args))

-- of any object

abbrev pub invoke : Calls → Method → ℕ → List Word → Run Word
invoke calls (methods.Script class method result) number args =
    call calls (ClassMethod class method) (words.Object number) args
invoke calls (methods.Interface interface method result) number args = call_through calls interface method number args
invoke calls (methods.Host id result) number args = invoke_host (host_targets.Object number) id result args
invoke calls (methods.Array method) number args = invoke_array method number args

abbrev pub call_target : Calls → CallTarget → List Word → Run Word
call_target calls (targets.Function function result) args = call calls (FreeFunction function) words.Null args
call_target calls (targets.Service service id result) args = invoke_host (host_targets.Service service) id result args
call_target calls (targets.Class class) args = construct calls class args
call_target calls (targets.Host kind) args = construct_host kind args
call_target calls (targets.Array of) args = construct_array (element_of calls.program of) args

-- A cast gives the object where it is of the type, and else null.
abbrev pub cast_at : Program → ObjectType → ℕ → World → Word
cast_at p to number world =
    if option_map_or (is_object_of p to) (object_at number world.objects) false then words.Object number else words.Null

abbrev pub cast : Program → ObjectType → Word → Run Word
cast p to (words.Object number) = look (λ activity. cast_at p to number activity.world)
cast p to _ = give words.Null
