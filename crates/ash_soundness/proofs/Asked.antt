-- What a task is found to be.
use Rattle.std.proofs.Common.{◌≡◌, ◌<◌, ℕ, Bool, true, false, not, List, length, refl, sym, ap, subst, nat_lt, position, slice_get, arith}
use Rattle.std.specs.Prelude.{Option, Some, None, Result, Ok, Err, is_some}
use Rattle.std.specs.Option.{option_and_then}
use Rattle.std.proofs.lemmas.Bool.Decides.{nat_tests}
use Rattle.ash_host.specs.declared.word.Word.{Word}
use Rattle.ash_host.specs.Objects.{object_at}
use Rattle.ash_typed.specs.Modules.{Function, Module}
use Rattle.ash_requests.specs.declared.argument.Arg.{Arg}
use Rattle.ash_requests.specs.States.{LoadedModule, State, Embedding, find_module}
use Rattle.ash_requests.specs.Requests.{Request, Load, Call, Discard, Get, Object, Seq, Snapshot, Refusal, NoGlobal, NoObject}
use Rattle.ash_requests.specs.Requests as requests
use Rattle.ash_requests.specs.Tasks as tasks
use Rattle.ash_requests.specs.Tasks.{is_module_name, max_modules, max_seq, arguments_of, Task, Initialize, Invoke, Remove, Read, Show, Count, Rewrite, TaskResult, word_named, described, shown, require, require_some, tree_in, initialize, call_in, tree_of, task_of}
use Rattle.ash_soundness.proofs.Named.{found_name}

less : (m n : ℕ) → nat_lt m n ≡ true → m < n
less m n e = grind (arith, nat_tests)

is_none_from : {A : Type 0} (o : Option A) → not (is_some o) ≡ true → o ≡ None
is_none_from None e = refl
is_none_from (Some x) e = absurd (cc)

module _ {Fault : Type 0} where
  -- what a task asks for is there
  pub data IsTask (embedding : Embedding Fault) (s : State) : Task → Type 0 where
    initializes : {name source : List ℕ} {tree : Module}
        → is_module_name name ≡ true
        → embedding.read source ≡ Ok tree
        → find_module name s ≡ None
        → length s.modules < max_modules
        → s.seq < max_seq
        → IsTask embedding s (Initialize name source tree)
    calls : {m : LoadedModule} {tree : Module} {place : ℕ} {args : List Word} {f : Function} (asked : List Arg)
        → find_module m.name s ≡ Some m
        → embedding.read m.source ≡ Ok tree
        → slice_get tree.functions place ≡ Some f
        → arguments_of f.parameters asked ≡ Some args
        → s.seq < max_seq
        → IsTask embedding s (Invoke m tree place args)
    removes : {name : List ℕ} → s.seq < max_seq → IsTask embedding s (Remove name)
    reads : {word : Word} → IsTask embedding s (Read word)
    shows : {one : requests.Shown} → IsTask embedding s (Show one)
    counts : IsTask embedding s Count
    rewrites : IsTask embedding s Rewrite

  same_task : (one other : Task) → ◌≡◌ {A = TaskResult Fault} (Ok one) (Ok other) → one ≡ other
  same_task one other e = cc

  required : (b : Bool) (refusal : Refusal Fault) (next : TaskResult Fault) (t : Task) → require b refusal next ≡ Ok t → (b ≡ true) × (next ≡ Ok t)
  required true refusal next t e = (refl, e)
  required false refusal next t e = absurd (cc)

  required_some : {A : Type 0} (o : Option A) (refusal : Refusal Fault) (next : A → TaskResult Fault) (t : Task) → require_some o refusal next ≡ Ok t → (x : A) × (o ≡ Some x) × (next x ≡ Ok t)
  required_some (Some x) refusal next t e = (x, refl, e)
  required_some None refusal next t e = absurd (cc)

  tree_read : (r : Result Module Fault) (tree : Module) → tree_in r ≡ Some tree → r ≡ Ok tree
  tree_read (Ok t) tree e = let same : t ≡ tree = cc in ap (λ (x : Module). Ok x) same
  tree_read (Err fault) tree e = absurd (cc)

  module _ (embedding : Embedding Fault) (s : State) where
    initialize_is : (name source : List ℕ) (r : Result Module Fault) (t : Task) → is_module_name name ≡ true → embedding.read source ≡ r → find_module name s ≡ None → length s.modules < max_modules → s.seq < max_seq → initialize name source r ≡ Ok t → IsTask embedding s t
    initialize_is name source (Ok tree) t good is none few left e = subst (IsTask embedding s) (same_task (Initialize name source tree) t e) (initializes good is none few left)
    initialize_is name source (Err fault) t good is none few left e = absurd (cc)

    call_is : (m : LoadedModule) (tree : Module) (name : List ℕ) (asked : List Arg) (t : Task) → find_module m.name s ≡ Some m → embedding.read m.source ≡ Ok tree → s.seq < max_seq → ◌≡◌ {A = TaskResult Fault} (call_in m tree name asked) (Ok t) → IsTask embedding s t
    call_is m tree name asked t found is left e =
        let (place, at, e1) = required_some (position _ tree.functions) _ _ t e in
        let (f, there, e2) = required_some (slice_get tree.functions place) _ _ t e1 in
        let (callable, e3) = required (tasks.is_callable f) _ _ t e2 in
        let (args, given, e4) = required_some (arguments_of f.parameters asked) _ _ t e3 in
        subst (IsTask embedding s) (same_task (Invoke m tree place args) t e4) (calls asked found is there given left)

    pub task_is : (request : Request) (t : Task) → task_of embedding request s ≡ Ok t → IsTask embedding s t
    task_is (Load name source) t e =
        let (left, e1) = required (nat_lt s.seq max_seq) _ _ t e in
        let (good, e2) = required (is_module_name name) _ _ t e1 in
        let (free, e3) = required (not (is_some (find_module name s))) _ _ t e2 in
        let (few, e4) = required (nat_lt (length s.modules) max_modules) _ _ t e3 in
        initialize_is name source (embedding.read source) t good refl (is_none_from (find_module name s) free) (less _ _ few) (less _ _ left) e4
    task_is (Call name function asked) t e =
        let (left, e1) = required (nat_lt s.seq max_seq) _ _ t e in
        let (m, found, e2) = required_some (find_module name s) _ _ t e1 in
        let (tree, is, e3) = required_some (tree_of embedding m) _ _ t e2 in
        let named : m.name ≡ name = found_name name s.modules m found in
        call_is m tree function asked t (subst (λ (n : List ℕ). find_module n s ≡ Some m) (sym named) found) (tree_read (embedding.read m.source) tree is) (less _ _ left) e3
    task_is (Discard name) t e =
        let (left, e1) = required (nat_lt s.seq max_seq) _ _ t e in
        let (m, found, e2) = required_some (find_module name s) _ _ t e1 in
        subst (IsTask embedding s) (same_task (Remove name) t e2) (removes (less _ _ left))
    task_is (Get name global) t e =
        let (m, found, e1) = required_some (find_module name s) _ _ t e in
        let (word, at, e2) = required_some (option_and_then (λ tree. word_named global tree m.globals) (tree_of embedding m)) NoGlobal (λ word. Ok (Read word)) t e1 in
        subst (IsTask embedding s) (same_task (Read word) t e2) reads
    task_is (Object number) t e =
        let (object, at, e1) = required_some (object_at number s.objects) NoObject (λ object. require_some (described embedding object s) NoObject (λ of. Ok (Show (shown embedding number s of)))) t e in
        let (of, is, e2) = required_some (described embedding object s) NoObject (λ of. Ok (Show (shown embedding number s of))) t e1 in
        subst (IsTask embedding s) (same_task (Show (shown embedding number s of)) t e2) shows
    task_is Seq t e = subst (IsTask embedding s) (same_task Count t e) counts
    task_is Snapshot t e = subst (IsTask embedding s) (same_task Rewrite t e) rewrites
