-- What the code finds for a request, and what the request asks for then.
use Rattle.std.proofs.Common.{subst, ◌≡◌, ◌<◌, ◌≤◌, ℕ, Bool, true, false, List, length, Option, Some, None, Result, Ok, Err, refl, sym, ◌∙◌, ap, nat_lt, lt-ltb, le-ltb, get_or}
use Rattle.std.specs.Prelude.{slice_get, option_map, is_some}
use Rattle.std.specs.List.{find, position}
use Rattle.std.proofs.lemmas.List.{length-map}
use Rattle.std.proofs.lemmas.List.Quantifiers.{position-Some}
use Rattle.std.proofs.lemmas.Option.{get_or_from_slice_get, slice_get-get_or}
use Rattle.ash_host.specs.declared.word.Word.{Word}
use Rattle.ash_typed.specs.Modules.{Module, module_of}
use Rattle.ash_requests.specs.declared.argument.Arg.{Arg}
use Rattle.ash_requests.specs.States.{LoadedModule, Embedding, has_name, find_module}
use Rattle.ash_requests.specs.Requests.{Load, Call, Discard, Get, SequenceSpent, BadName, ModuleTaken, TooManyModules, NoModule, NoGlobal}
use Rattle.ash_requests.specs.SourceViews.{TakesMemoryToRead}
use Rattle.ash_requests.specs.Tasks.{TaskResult, Remove, Read, max_seq, max_modules, is_module_name, initialize, call_in, task_of}
use Rattle.ash_plain_steps.specs.declared.state.LoadedModule as code_module
use Rattle.ash_plain_steps.specs.declared.state.PlainState.{PlainState}
use Rattle.ash_plain_steps.specs.declared.task.Task.TheVariants as tasks
use Rattle.ash_plain_steps.specs.StateViews.{loaded_seen, modules_seen, state_seen}
use Rattle.ash_plain_steps.specs.Consistency.{AreConsistent}
use Rattle.ash_plain_steps.specs.TaskViews.{task_seen, word_among}
use Rattle.ash_requests.specs.TaskResults.{TakesMemoryToFind}
use Rattle.ash_plain_steps.proofs.Ascending.{same_name}
use Rattle.ash_plain_steps.proofs.Places.{found_nowhere}
use Rattle.ash_plain_steps.proofs.Found.{found_got, found_some, tree_got}
use Rattle.ash_plain_steps.proofs.Asked.{spent, load_is, load_from, call_of_none, call_of_one, discard_of_none, discard_of_one, read_of_none, read_no_global, read_global}

-- what `get` gives
pub got_item : {A : Type 0} (xs : List A) (i : ℕ) (x : A) → i < length xs → ((d : A) → x ≡ get_or xs i d) → slice_get xs i ≡ Some x
got_item xs i x h e = slice_get-get_or xs i x h ∙ ap (λ (y : _). Some y) (sym (e x))

-- the place of a module's name
abbrev pub place_in : List ℕ → List code_module.LoadedModule → Option ℕ
place_in name ms = position (λ (s : code_module.LoadedModule). has_name name (loaded_seen s)) ms

pub taken_is : (name : List ℕ) (ms : List code_module.LoadedModule) → is_some (find (has_name name) (modules_seen ms)) ≡ is_some (place_in name ms)
taken_is name ms = by (place_in name ms) refl
  where
    there : (place : ℕ) (o : Option code_module.LoadedModule) → place_in name ms ≡ Some place → slice_get ms place ≡ o → is_some (find (has_name name) (modules_seen ms)) ≡ true
    there place (Some m) e g = ap (λ (o : Option _). is_some o) (found_got name ms place m e g)
    there place None e g = absurd (found_some name ms place e g)

    by : (o : Option ℕ) → place_in name ms ≡ o → is_some (find (has_name name) (modules_seen ms)) ≡ is_some (place_in name ms)
    by (Some place) e = there place (slice_get ms place) e refl ∙ ap (λ (o : Option ℕ). is_some o) (sym e)
    by None e = ap (λ (o : Option _). is_some o) (found_nowhere loaded_seen name ms e) ∙ ap (λ (o : Option ℕ). is_some o) (sym e)

few_is : (ms : List code_module.LoadedModule) → length ms < max_modules → nat_lt (length (modules_seen ms)) max_modules ≡ true
few_is ms h = ap (λ (n : ℕ). nat_lt n max_modules) (length-map ms loaded_seen) ∙ lt-ltb _ _ h

many_is : (ms : List code_module.LoadedModule) → max_modules ≤ length ms → nat_lt (length (modules_seen ms)) max_modules ≡ false
many_is ms h = ap (λ (n : ℕ). nat_lt n max_modules) (length-map ms loaded_seen) ∙ le-ltb _ _ h

module _ {Fault : Type 0} (embedding : Embedding Fault) (s : PlainState) (name : List ℕ) where
  -- loads

  load_at : (source : List ℕ) (named taken few : Bool) → s.seq < max_seq → is_module_name name ≡ named → is_some (place_in name s.modules.items) ≡ taken → nat_lt (length (modules_seen s.modules.items)) max_modules ≡ few → task_of embedding (Load name source) (state_seen s) ≡ load_from embedding (state_seen s) name source named taken few
  load_at source named taken few h n t f = load_is embedding (state_seen s) name source named taken few h n (taken_is name s.modules.items ∙ t) f

  pub load_spent : (source : List ℕ) → max_seq ≤ s.seq → task_of embedding (Load name source) (state_seen s) ≡ Err SequenceSpent
  load_spent source h = spent (state_seen s) _ h

  pub load_misnamed : (source : List ℕ) → s.seq < max_seq → is_module_name name ≡ false → task_of embedding (Load name source) (state_seen s) ≡ Err BadName
  load_misnamed source h n = load_at source false (is_some (place_in name s.modules.items)) (nat_lt (length (modules_seen s.modules.items)) max_modules) h n refl refl

  pub load_taken : (source : List ℕ) → s.seq < max_seq → is_module_name name ≡ true → is_some (place_in name s.modules.items) ≡ true → task_of embedding (Load name source) (state_seen s) ≡ Err ModuleTaken
  load_taken source h n t = load_at source true true (nat_lt (length (modules_seen s.modules.items)) max_modules) h n t refl

  pub load_many : (source : List ℕ) → s.seq < max_seq → is_module_name name ≡ true → is_some (place_in name s.modules.items) ≡ false → max_modules ≤ length s.modules.items → task_of embedding (Load name source) (state_seen s) ≡ Err TooManyModules
  load_many source h n t f = load_at source true false false h n t (many_is s.modules.items f)

  pub load_read : (source : List ℕ) (found : Result Module Fault) → s.seq < max_seq → is_module_name name ≡ true → is_some (place_in name s.modules.items) ≡ false → length s.modules.items < max_modules → found ≡ embedding.read source → task_of embedding (Load name source) (state_seen s) ≡ initialize name source found
  load_read source found h n t f r = load_at source true false true h n t (few_is s.modules.items f) ∙ ap (initialize name source) (sym r)

  source_takes : (takes : Fault → Type 0) (source : List ℕ) (found : Result Module Fault) → TakesMemoryToRead takes found → TakesMemoryToFind takes (initialize name source found)
  source_takes takes source (Ok tree) h = tt
  source_takes takes source (Err fault) h = h

  -- The reading of a source takes memory where its tree or its fault does.
  pub reading_takes : (takes : Fault → Type 0) (source : List ℕ) → s.seq < max_seq → is_module_name name ≡ true → is_some (place_in name s.modules.items) ≡ false → length s.modules.items < max_modules → TakesMemoryToRead takes (embedding.read source) → TakesMemoryToFind takes (task_of embedding (Load name source) (state_seen s))
  reading_takes takes source h n t f read = subst (λ (r : TaskResult Fault). TakesMemoryToFind takes r) (sym (load_read source (embedding.read source) h n t f refl)) (source_takes takes source (embedding.read source) read)

  -- no module has the name

  pub load_absent : is_some (place_in name s.modules.items) ≡ false → find_module name (state_seen s) ≡ None
  load_absent t = by (find_module name (state_seen s)) (taken_is name s.modules.items ∙ t)
    where
      by : (o : Option LoadedModule) → is_some o ≡ false → o ≡ None
      by (Some one) e = absurd (cc)
      by None e = refl

  pub call_nowhere : (f : List ℕ) (args : List Arg) → s.seq < max_seq → place_in name s.modules.items ≡ None → task_of embedding (Call name f args) (state_seen s) ≡ Err NoModule
  call_nowhere f args h e = call_of_none embedding (state_seen s) name f args h (found_nowhere loaded_seen name s.modules.items e)

  pub discard_nowhere : s.seq < max_seq → place_in name s.modules.items ≡ None → task_of embedding (Discard name) (state_seen s) ≡ Err NoModule
  discard_nowhere h e = discard_of_none embedding (state_seen s) name h (found_nowhere loaded_seen name s.modules.items e)

  pub read_nowhere : (global : List ℕ) → place_in name s.modules.items ≡ None → task_of embedding (Get name global) (state_seen s) ≡ Err NoModule
  read_nowhere global e = read_of_none embedding (state_seen s) name global (found_nowhere loaded_seen name s.modules.items e)

  -- a module has it

  pub call_there : (f : List ℕ) (args : List Arg) (place : ℕ) (m : code_module.LoadedModule) → s.seq < max_seq → AreConsistent embedding s.modules.items → place_in name s.modules.items ≡ Some place → slice_get s.modules.items place ≡ Some m → task_of embedding (Call name f args) (state_seen s) ≡ call_in (loaded_seen m) (module_of m.tree) f args
  call_there f args place m h known e g = call_of_one embedding (state_seen s) name f args (loaded_seen m) (module_of m.tree) h (found_got name s.modules.items place m e g) (tree_got embedding s.modules.items place m known g)

  pub no_global_there : (global : List ℕ) (place : ℕ) (m : code_module.LoadedModule) → AreConsistent embedding s.modules.items → place_in name s.modules.items ≡ Some place → slice_get s.modules.items place ≡ Some m → None ≡ word_among global (module_of m.tree).globals m.globals.items → task_of embedding (Get name global) (state_seen s) ≡ Err NoGlobal
  no_global_there global place m known e g w = read_no_global embedding (state_seen s) name global (loaded_seen m) (module_of m.tree) (found_got name s.modules.items place m e g) (tree_got embedding s.modules.items place m known g) w

  pub global_there : (global : List ℕ) (place : ℕ) (m : code_module.LoadedModule) (word : Word) → AreConsistent embedding s.modules.items → place_in name s.modules.items ≡ Some place → slice_get s.modules.items place ≡ Some m → Some word ≡ word_among global (module_of m.tree).globals m.globals.items → task_of embedding (Get name global) (state_seen s) ≡ Ok (Read word)
  global_there global place m word known e g w = read_global embedding (state_seen s) name global (loaded_seen m) (module_of m.tree) word (found_got name s.modules.items place m e g) (tree_got embedding s.modules.items place m known g) w

  pub removal_given : (place : ℕ) → s.seq < max_seq → place_in name s.modules.items ≡ Some place → option_map (λ one. Ok one) (task_seen s.modules.items (tasks.Remove place)) ≡ Some (task_of embedding (Discard name) (state_seen s))
  removal_given place h e = by (slice_get s.modules.items place) refl
    where
      by : (o : Option code_module.LoadedModule) → slice_get s.modules.items place ≡ o → option_map (λ one. Ok one) (task_seen s.modules.items (tasks.Remove place)) ≡ Some (task_of embedding (Discard name) (state_seen s))
      by (Some m) g =
          let ms = s.modules.items in
          let named : (loaded_seen m).name ≡ name = same_name name (loaded_seen m) (ap (λ (s : code_module.LoadedModule). has_name name (loaded_seen s)) (sym (get_or_from_slice_get ms place m m g)) ∙ (position-Some (λ (s : code_module.LoadedModule). has_name name (loaded_seen s)) ms place m e).1) in
          ap (λ (o : Option code_module.LoadedModule). option_map (λ one. Ok one) (option_map (λ (s : code_module.LoadedModule). Remove (loaded_seen s).name) o)) g
          ∙ ap (λ (n : List ℕ). let wanted : TaskResult Fault = Ok (Remove n) in Some wanted) named
          ∙ ap (λ (r : TaskResult Fault). Some r) (sym (discard_of_one embedding (state_seen s) name (loaded_seen m) h (found_got name ms place m e g)))
      by None g = absurd (found_some name s.modules.items place e g)
