-- What requests ask for, by what is found.
use Rattle.std.proofs.Common.{refl, subst, ◌≡◌, ◌<◌, ◌≤◌, ℕ, Bool, true, false, not, List, length, Option, Some, None, Ok, Err, sym, ◌∙◌, ap, nat_lt, lt-ltb, le-ltb}
use Rattle.std.specs.Prelude.{slice_get, is_some}
use Rattle.std.specs.List.{position_from}
use Rattle.std.specs.Option.{option_and_then}
use Rattle.std.specs.Str.{bytes_eq}
use Rattle.ash_host.specs.declared.word.Word.{Word}
use Rattle.ash_typed.specs.Modules.{Function, Module}
use Rattle.ash_typed.specs.SoundModules.{names_of_globals}
use Rattle.ash_plain_data.proofs.Positions.{position_is}
use Rattle.ash_requests.specs.declared.argument.Arg.{Arg}
use Rattle.ash_requests.specs.States.{LoadedModule, State, Embedding, find_module}
use Rattle.ash_requests.specs.Requests.{Load, Call, Discard, Get, SequenceSpent, BadName, ModuleTaken, TooManyModules, NoModule, NoFunction, NotCallable, BadArguments, NoGlobal}
use Rattle.ash_requests.specs.Tasks.{TaskResult, Invoke, Remove, Read, max_seq, max_modules, is_module_name, is_callable, arguments_of, numbered, require, require_some, initialize, tree_of, task_of, call_in, word_named}
use Rattle.ash_plain_steps.specs.TaskViews.{word_among}
use Rattle.ash_requests.specs.TaskResults.{TakesMemoryToFind}

pub spent : {Fault : Type 0} (state : State) (next : TaskResult Fault) → max_seq ≤ state.seq → numbered state next ≡ Err SequenceSpent
spent state next h = let none : nat_lt state.seq max_seq ≡ false = le-ltb _ _ h in ap (λ (b : Bool). require b SequenceSpent next) none

pub unspent : {Fault : Type 0} (state : State) (next : TaskResult Fault) → state.seq < max_seq → numbered state next ≡ next
unspent state next h = let some : nat_lt state.seq max_seq ≡ true = lt-ltb _ _ h in ap (λ (b : Bool). require b SequenceSpent next) some

-- functions of a module

module _ {Fault : Type 0} (m : LoadedModule) (tree : Module) (name : List ℕ) (args : List Arg) where
  abbrev by_place : Option ℕ → TaskResult Fault
  by_place found = require_some found NoFunction
      (λ place. require_some (slice_get tree.functions place) NoFunction
      (λ f. require (is_callable f) NotCallable
      (require_some (arguments_of f.parameters args) BadArguments
      (λ given. Ok (Invoke m tree place given)))))

  place_is : (found : Option ℕ) → found ≡ position_from (λ (f : Function). bytes_eq f.name name) 0 tree.functions → call_in {Fault = Fault} m tree name args ≡ by_place found
  place_is found e = ap by_place (position_is (λ (f : Function). bytes_eq f.name name) tree.functions ∙ sym e)

  pub no_function : None ≡ position_from (λ (f : Function). bytes_eq f.name name) 0 tree.functions → call_in {Fault = Fault} m tree name args ≡ Err NoFunction
  no_function e = place_is None e

  pub nothing_there : (place : ℕ) → Some place ≡ position_from (λ (f : Function). bytes_eq f.name name) 0 tree.functions → slice_get tree.functions place ≡ None → call_in {Fault = Fault} m tree name args ≡ Err NoFunction
  nothing_there place e g = place_is (Some place) e ∙ ap (λ (o : Option Function). require_some o NoFunction
      (λ f. require (is_callable f) NotCallable (require_some (arguments_of f.parameters args) BadArguments (λ given. Ok (Invoke m tree place given))))) g

  function_there : (place : ℕ) (f : Function) → Some place ≡ position_from (λ (f : Function). bytes_eq f.name name) 0 tree.functions → slice_get tree.functions place ≡ Some f → call_in {Fault = Fault} m tree name args ≡ require (is_callable f) NotCallable (require_some (arguments_of f.parameters args) BadArguments (λ given. Ok (Invoke m tree place given)))
  function_there place f e g = place_is (Some place) e ∙ ap (λ (o : Option Function). require_some o NoFunction
      (λ f. require (is_callable f) NotCallable (require_some (arguments_of f.parameters args) BadArguments (λ given. Ok (Invoke m tree place given))))) g

  pub not_callable : (place : ℕ) (f : Function) → Some place ≡ position_from (λ (f : Function). bytes_eq f.name name) 0 tree.functions → slice_get tree.functions place ≡ Some f → is_callable f ≡ false → call_in {Fault = Fault} m tree name args ≡ Err NotCallable
  not_callable place f e g so_not = function_there place f e g ∙ ap (λ (b : Bool). require b NotCallable (require_some (arguments_of f.parameters args) BadArguments (λ given. Ok (Invoke m tree place given)))) so_not

  callable_with : (place : ℕ) (f : Function) (o : Option (List Word)) → Some place ≡ position_from (λ (f : Function). bytes_eq f.name name) 0 tree.functions → slice_get tree.functions place ≡ Some f → is_callable f ≡ true → o ≡ arguments_of f.parameters args → call_in {Fault = Fault} m tree name args ≡ require_some o BadArguments (λ given. Ok (Invoke m tree place given))
  callable_with place f o e g so is = function_there place f e g
      ∙ ap (λ (b : Bool). require b NotCallable (require_some (arguments_of f.parameters args) BadArguments (λ given. Ok (Invoke m tree place given)))) so
      ∙ ap (λ (o : Option (List Word)). require_some o BadArguments (λ given. Ok (Invoke m tree place given))) (sym is)

  pub bad_arguments : (place : ℕ) (f : Function) → Some place ≡ position_from (λ (f : Function). bytes_eq f.name name) 0 tree.functions → slice_get tree.functions place ≡ Some f → is_callable f ≡ true → None ≡ arguments_of f.parameters args → call_in {Fault = Fault} m tree name args ≡ Err BadArguments
  bad_arguments place f e g so is = callable_with place f None e g so is

  pub invoked : (place : ℕ) (f : Function) (words : List Word) → Some place ≡ position_from (λ (f : Function). bytes_eq f.name name) 0 tree.functions → slice_get tree.functions place ≡ Some f → is_callable f ≡ true → Some words ≡ arguments_of f.parameters args → call_in {Fault = Fault} m tree name args ≡ Ok (Invoke m tree place words)
  invoked place f words e g so is = callable_with place f (Some words) e g so is

found_words : {Fault : Type 0} (takes : Fault → Type 0) (m : LoadedModule) (tree : Module) (place : ℕ) (o : Option (List Word)) → is_some o ≡ true → TakesMemoryToFind takes (require_some o BadArguments (λ given. Ok (Invoke m tree place given)))
found_words takes m tree place (Some words) e = tt
found_words takes m tree place None e = absurd (cc)

-- The words of arguments take memory, once the function is found and may be called with them.
pub words_take : {Fault : Type 0} (takes : Fault → Type 0) (m : LoadedModule) (tree : Module) (name : List ℕ) (args : List Arg) (place : ℕ) (f : Function) → Some place ≡ position_from (λ (f : Function). bytes_eq f.name name) 0 tree.functions → slice_get tree.functions place ≡ Some f → is_callable f ≡ true → is_some (arguments_of f.parameters args) ≡ true → TakesMemoryToFind takes (call_in m tree name args)
words_take {Fault} takes m tree name args place f e g so held = subst (λ (r : TaskResult Fault). TakesMemoryToFind takes r) (sym (callable_with m tree name args place f (arguments_of f.parameters args) e g so refl)) (found_words takes m tree place (arguments_of f.parameters args) held)

pub word_named_is : (name : List ℕ) (tree : Module) (globals : List Word) → word_named name tree globals ≡ word_among name tree.globals globals
word_named_is name tree globals = ap (option_and_then (λ place. slice_get globals place)) (position_is (λ other. bytes_eq other name) (names_of_globals tree.globals))

-- requests

module _ {Fault : Type 0} (embedding : Embedding Fault) (state : State) (name : List ℕ) where
  pub call_of_none : (f : List ℕ) (args : List Arg) → state.seq < max_seq → find_module name state ≡ None → task_of embedding (Call name f args) state ≡ Err NoModule
  call_of_none f args h e = unspent state _ h ∙ ap (λ (o : Option LoadedModule). require_some o NoModule (λ m. require_some (tree_of embedding m) NoModule (λ tree. call_in m tree f args))) e

  pub call_of_one : (f : List ℕ) (args : List Arg) (m : LoadedModule) (tree : Module) → state.seq < max_seq → find_module name state ≡ Some m → tree_of embedding m ≡ Some tree → task_of embedding (Call name f args) state ≡ call_in m tree f args
  call_of_one f args m tree h e is = unspent state _ h
      ∙ ap (λ (o : Option LoadedModule). require_some o NoModule (λ m. require_some (tree_of embedding m) NoModule (λ tree. call_in m tree f args))) e
      ∙ ap (λ (o : Option Module). require_some o NoModule (λ tree. call_in m tree f args)) is

  pub discard_of_none : state.seq < max_seq → find_module name state ≡ None → task_of embedding (Discard name) state ≡ Err NoModule
  discard_of_none h e = unspent state _ h ∙ ap (λ (o : Option LoadedModule). require_some {Fault = Fault} o NoModule (λ m. Ok (Remove name))) e

  pub discard_of_one : (m : LoadedModule) → state.seq < max_seq → find_module name state ≡ Some m → task_of embedding (Discard name) state ≡ Ok (Remove name)
  discard_of_one m h e = unspent state _ h ∙ ap (λ (o : Option LoadedModule). require_some {Fault = Fault} o NoModule (λ m. Ok (Remove name))) e

  abbrev read_in : List ℕ → LoadedModule → TaskResult Fault
  read_in global m = require_some (option_and_then (λ tree. word_named global tree m.globals) (tree_of embedding m)) NoGlobal (λ word. Ok (Read word))

  pub read_of_none : (global : List ℕ) → find_module name state ≡ None → task_of embedding (Get name global) state ≡ Err NoModule
  read_of_none global e = ap (λ (o : Option LoadedModule). require_some o NoModule (read_in global)) e

  read_of_one : (global : List ℕ) (m : LoadedModule) (tree : Module) (o : Option Word) → find_module name state ≡ Some m → tree_of embedding m ≡ Some tree → o ≡ word_among global tree.globals m.globals → task_of embedding (Get name global) state ≡ require_some o NoGlobal (λ word. Ok (Read word))
  read_of_one global m tree o e is w =
      ap (λ (o : Option LoadedModule). require_some o NoModule (read_in global)) e
      ∙ ap (λ (o : Option Module). require_some {Fault = Fault} (option_and_then (λ tree. word_named global tree m.globals) o) NoGlobal (λ word. Ok (Read word))) is
      ∙ ap (λ (o : Option Word). require_some {Fault = Fault} o NoGlobal (λ word. Ok (Read word))) (word_named_is global tree m.globals ∙ sym w)

  pub read_no_global : (global : List ℕ) (m : LoadedModule) (tree : Module) → find_module name state ≡ Some m → tree_of embedding m ≡ Some tree → None ≡ word_among global tree.globals m.globals → task_of embedding (Get name global) state ≡ Err NoGlobal
  read_no_global global m tree e is w = read_of_one global m tree None e is w

  pub read_global : (global : List ℕ) (m : LoadedModule) (tree : Module) (word : Word) → find_module name state ≡ Some m → tree_of embedding m ≡ Some tree → Some word ≡ word_among global tree.globals m.globals → task_of embedding (Get name global) state ≡ Ok (Read word)
  read_global global m tree word e is w = read_of_one global m tree (Some word) e is w

  abbrev pub load_from : List ℕ → Bool → Bool → Bool → TaskResult Fault
  load_from source named taken few = require named BadName (require (not taken) ModuleTaken (require few TooManyModules (initialize name source (embedding.read source))))

  pub load_is : (source : List ℕ) (named taken few : Bool) → state.seq < max_seq → is_module_name name ≡ named → is_some (find_module name state) ≡ taken → nat_lt (length state.modules) max_modules ≡ few → task_of embedding (Load name source) state ≡ load_from source named taken few
  load_is source named taken few h n t f = unspent state _ h ∙ (λ i. load_from source (n i) (t i) (f i))
