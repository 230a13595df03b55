-- Objects that are asked for, as replies show them.
use Rattle.std.proofs.Common.{◌≡◌, ◌<◌, ◌+◌, ℕ, zero, suc, Bool, true, false, cond, List, [], ◌∷◌, length, map, find, position, refl, sym, ap, ◌∙◌, subst, slice_get, nat_eq, arith}
use Rattle.std.specs.Prelude.{◌==◌, Option, Some, None, Ok, Err, IsSome, is_some, option_map}
use Rattle.std.specs.List.{AllByRecursion, position_from}
use Rattle.std.specs.Map.{values_of}
use Rattle.std.specs.Option.{option_and_then}
use Rattle.std.proofs.lemmas.Bool.Decides.{nat_tests}
use Rattle.std.proofs.lemmas.Iterator.Adapters.{position_from-zero}
use Rattle.std.proofs.lemmas.List.FromFn.{get_or-map-range_with_len, length-map-range_with_len}
use Rattle.std.proofs.lemmas.List.Quantifiers.{position-Some}
use Rattle.std.proofs.lemmas.List.Sums.{sum_by-cons}
use Rattle.std.proofs.lemmas.Option.{same_Some, slice_get_within, slice_get-get_or}
use Rattle.ash_host.specs.declared.host_object.HostObject.{Ghosts}
use Rattle.ash_host.specs.declared.word.Word.{Word}
use Rattle.ash_host.specs.declared.word.Word.TheVariants as words
use Rattle.ash_host.specs.Objects.{Plain, Script, Array, Host, LiveObjects, object_at, handles, handles_to, is_handle_to, fields_of, fields_to}
use Rattle.ash_host.specs.Objects as plain
use Rattle.ash_typed.specs.Modules.{Class, Module, module_of}
use Rattle.ash_meaning.specs.Classes.{dotted, place_of_class, places_of_classes}
use Rattle.ash_slots.specs.declared.body.Body.{Body}
use Rattle.ash_slots.specs.Bodies.{words_of}
use Rattle.ash_objects.specs.Table.{Living, Table, body_of, count_of, fields_holding}
use Rattle.ash_object_ranks.specs.ShownTables.{SlotNames, body_shown, objects_shown}
use Rattle.ash_object_ranks.proofs.ShownTables.{words_shown, shown_at}
use Rattle.ash_run_steps.specs.RunStates.{HoldsRoots, times}
use Rattle.ash_run_steps.proofs.Roots.{times_word, times_one}
use Rattle.ash_requests.specs.Requests.{Object, NoObject, ObjectContents, Fields}
use Rattle.ash_requests.specs.States.{State, Embedding, has_name, globals_of}
use Rattle.ash_requests.specs.TaskResults.{TakesMemoryToFind}
use Rattle.ash_requests.specs.Tasks.{TaskResult, Show, require_some, tree_in, tree_of, class_placed, class_named, shown_fields, described, shown, task_of}
use Rattle.ash_soundness.specs.WellFormed.{IsObject, is_script, AreObjects}
use Rattle.ash_soundness.specs.WellFormedStates.{known_of}
use Rattle.ash_plain_steps.specs.declared.state.LoadedModule.{LoadedModule}
use Rattle.ash_plain_steps.specs.StateViews.{loaded_seen, modules_seen}
use Rattle.ash_plain_steps.specs.Consistency.{IsReadFromSource, AreConsistent}
use Rattle.ash_plain_steps.specs.TaskViews.{tree_named, described_in}

-- the first that passes is there if one passes

or_later : {A : Type 0} (b : Bool) (x : A) (o : Option A) → IsSome o → IsSome (cond b (Some x) o)
or_later true x o some = refl
or_later false x o some = some

first_there : {A : Type 0} (p : A → Bool) (from : ℕ) (xs : List A) (i : ℕ) (x : A) → slice_get xs i ≡ Some x → p x ≡ true → IsSome (position_from p from xs)
first_there p from [] i x at passes = absurd (cc)
first_there p from (y ∷ ys) zero x at passes = ap (λ (b : Bool). is_some (cond b (Some from) (position_from p (from + 1) ys))) (ap p (same_Some y x at) ∙ passes)
first_there p from (y ∷ ys) (suc i) x at passes = or_later (p y) from (position_from p (from + 1) ys) (first_there p (from + 1) ys i x at passes)

some_within : {A : Type 0} (xs : List A) (i : ℕ) → i < length xs → IsSome (slice_get xs i)
some_within [] i within = absurd (omega arith)
some_within (x ∷ xs) zero within = refl
some_within (x ∷ xs) (suc i) within = some_within xs i (omega arith)

some_mapped : {A C : Type 0} (f : A → C) (o : Option A) → IsSome o → IsSome (option_map f o)
some_mapped f None some = absurd (cc)
some_mapped f (Some x) some = refl

-- the class of an object is found by its place in the source

is_own : (place : ℕ) → nat_eq place place ≡ true
is_own place = grind (arith, nat_tests)

module _ (tree : Module) where
  abbrev places : List ℕ
  places = places_of_classes tree

  place_at : (class : ℕ) (source : Class) → slice_get tree.classes class ≡ Some source → slice_get places class ≡ Some (place_of_class tree class)
  place_at class source at =
      let within : class < length tree.classes = slice_get_within tree.classes class source at in
      let own : 0 + class ≡ class = omega arith in
      slice_get-get_or places class 0 (omega (arith, within, length-map-range_with_len (place_of_class tree) 0 (length tree.classes)))
      ∙ ap (λ (n : ℕ). Some n) (get_or-map-range_with_len (place_of_class tree) 0 (length tree.classes) class class 0 within own)

  chosen : (place : ℕ) (o : Option ℕ) → position (λ other. other == place) places ≡ o → IsSome o → IsSome (option_and_then (λ class. slice_get tree.classes class) o)
  chosen place None is some = absurd (cc)
  chosen place (Some class) is some =
      some_within tree.classes class (omega (arith, (position-Some (λ other. other == place) places class 0 is).0, length-map-range_with_len (place_of_class tree) 0 (length tree.classes)))

  class_there : (class : ℕ) (source : Class) → slice_get tree.classes class ≡ Some source → IsSome (class_placed (place_of_class tree class) tree)
  class_there class source at =
      let place = place_of_class tree class in
      chosen place (position (λ other. other == place) places) refl
      (subst (λ (o : Option ℕ). IsSome o) (sym (position_from-zero (λ other. other == place) places))
      (first_there (λ other. other == place) 0 places class place (place_at class source at) (is_own place)))

-- an object of a module that is known can be described
can_describe : {Fault : Type 0} (embedding : Embedding Fault) (s : State) (all : LiveObjects (List ℕ)) (object : Plain (List ℕ)) → IsObject (known_of embedding s.modules) all object
    → IsSome (described embedding object s)
can_describe embedding s all (Script owner place fields) (is_script h) =
    some_mapped (λ (c : Class). (dotted owner c.name, Fields (shown_fields c fields))) (class_named embedding owner place s)
    (ap (λ (o : Option Module). is_some (option_and_then (class_placed place) o)) h.known
    ∙ ap (λ (p : ℕ). is_some (class_placed p h.tree)) h.is
    ∙ class_there h.tree h.class h.source h.at)
can_describe embedding s all (Array of elements) h = refl
can_describe embedding s all (Host kind state) h = refl

-- counts

handles_to-cons : (n : ℕ) (w : Word) (ws : List Word) → handles_to n (w ∷ ws) ≡ cond (is_handle_to n w) 1 0 + handles_to n ws
handles_to-cons n w ws = sum_by-cons (λ x. cond (is_handle_to n x) 1 0) w ws

one_word : (n : ℕ) (w : Word) → times n (handles (w ∷ [])) ≡ cond (is_handle_to n w) 1 0
one_word n (words.Bool b) = refl
one_word n (words.Int i) = refl
one_word n (words.Uint i) = refl
one_word n (words.Int64 i) = refl
one_word n (words.Uint64 i) = refl
one_word n words.Null = refl
one_word n (words.Object m) = times_one n m

-- an object is held as often as words are handles to it
times_handles : (n : ℕ) (ws : List Word) → times n (handles ws) ≡ handles_to n ws
times_handles n [] = refl
times_handles n (w ∷ ws) = omega (arith, times_word n w ws, one_word n w, handles_to-cons n w ws, times_handles n ws)

module _ {B : Type 0} (G : Ghosts B) (names : SlotNames) where
  fields_shown : (n : ℕ) (objects : List (ℕ × Living B)) → fields_to n (objects_shown G names objects) ≡ fields_holding n objects
  fields_shown n [] = refl
  fields_shown n (e ∷ objects) =
      let body = (e.1).body in
      let one = ap (handles_to n) (words_shown G names body) in
      let seen = sum_by-cons (λ (object : Plain (List ℕ)). handles_to n (fields_of object)) (body_shown G names body) (values_of (objects_shown G names objects)) in
      let held = sum_by-cons (λ (object : Living B). handles_to n (words_of object.body)) e.1 (values_of objects) in
      omega (arith, one, seen, held, fields_shown n objects)

  object_shown : (o : Option (Living B)) → option_map (λ (object : Living B). body_shown G names object.body) o ≡ option_map (body_shown G names) (option_map (λ (object : Living B). object.body) o)
  object_shown None = refl
  object_shown (Some object) = refl

  -- an object of the table is one of the objects that it shows
  body_at : (number : ℕ) (table : Table B) → object_at number (objects_shown G names table.objects) ≡ option_map (body_shown G names) (body_of number table)
  body_at number table = shown_at G names number table.objects ∙ object_shown (object_at number table.objects)

module _ {Fault : Type 0} (embedding : Embedding Fault) (ms : List LoadedModule) (consistent : AreConsistent embedding ms) {B : Type 0} (G : Ghosts B) (names : SlotNames) (seq : ℕ) (table : Table B) where
  abbrev state : State
  state = record {
    modules = modules_seen ms;
    objects = objects_shown G names table.objects;
    services = map G.state table.services;
    last = table.last;
    seq = seq;
  }

  trees_are : (owner : List ℕ) (ms : List LoadedModule) → AllByRecursion (IsReadFromSource embedding) ms → option_and_then (tree_of embedding) (find (has_name owner) (modules_seen ms)) ≡ tree_named owner ms
  trees_are owner [] read = refl
  trees_are owner (m ∷ ms) read = by (has_name owner (loaded_seen m)) (trees_are owner ms read.1)
    where
      by : (b : Bool) → option_and_then (tree_of embedding) (find (has_name owner) (modules_seen ms)) ≡ tree_named owner ms
          → option_and_then (tree_of embedding) (cond b (Some (loaded_seen m)) (find (has_name owner) (modules_seen ms)))
          ≡ option_map (λ (s : LoadedModule). module_of s.tree) (cond b (Some m) (find (λ (s : LoadedModule). has_name owner (loaded_seen s)) ms))
      by true rest = ap tree_in read.0
      by false rest = rest

  described_is : (object : Plain (List ℕ)) → described embedding object state ≡ described_in embedding.name_of_kind ms object
  described_is (Script owner place fields) =
      ap (λ (o : Option Module). option_map (λ (c : Class). (dotted owner c.name, Fields (shown_fields c fields))) (option_and_then (class_placed place) o)) (trees_are owner ms consistent.read)
  described_is (Array of elements) = refl
  described_is (Host kind bytes) = refl

  abbrev shown_by : ℕ → Option (List ℕ × ObjectContents) → TaskResult Fault
  shown_by number found = require_some found NoObject (λ of. Ok (Show (shown embedding number state of)))

  abbrev asked_by : ℕ → Option (Plain (List ℕ)) → TaskResult Fault
  asked_by number o = require_some o NoObject (λ object. shown_by number (described embedding object state))

  -- none lives by the number
  pub no_object : (number : ℕ) → body_of number table ≡ None → task_of embedding (Object number) state ≡ Err NoObject
  no_object number none = ap (asked_by number) (body_at G names number table ∙ ap (option_map (body_shown G names)) none)

  asked_of : (number : ℕ) (body : Body B) → body_of number table ≡ Some body → task_of embedding (Object number) state ≡ shown_by number (described_in embedding.name_of_kind ms (body_shown G names body))
  asked_of number body at = ap (asked_by number) (body_at G names number table ∙ ap (option_map (body_shown G names)) at) ∙ ap (shown_by number) (described_is (body_shown G names body))

  -- its class is in no module
  pub no_class : (number : ℕ) (body : Body B) → body_of number table ≡ Some body → described_in embedding.name_of_kind ms (body_shown G names body) ≡ None
      → task_of embedding (Object number) state ≡ Err NoObject
  no_class number body at none = asked_of number body at ∙ ap (shown_by number) none

  counted : (number : ℕ) → HoldsRoots table (handles (globals_of (modules_seen ms))) → plain.count_of number (globals_of (modules_seen ms)) state.objects ≡ count_of number table
  counted number held = omega (arith, held number, times_handles number (globals_of (modules_seen ms)), fields_shown G names number table.objects)

  -- it is shown with the count of the table
  pub shown_there : (number : ℕ) (body : Body B) (of : List ℕ × ObjectContents) → body_of number table ≡ Some body → described_in embedding.name_of_kind ms (body_shown G names body) ≡ Some of
      → HoldsRoots table (handles (globals_of (modules_seen ms)))
      → task_of embedding (Object number) state ≡ Ok (Show (record { number = number; type_name = of.0; count = count_of number table; contents = of.1 }))
  shown_there number body of at is held =
      asked_of number body at ∙ ap (shown_by number) is
      ∙ (λ i. Ok (Show (record { number = number; type_name = of.0; count = counted number held i; contents = of.1 })))

  takes_some : (takes : Fault → Type 0) (number : ℕ) (found : Option (List ℕ × ObjectContents)) → IsSome found → TakesMemoryToFind takes (shown_by number found)
  takes_some takes number (Some of) some = tt
  takes_some takes number None some = absurd (cc)

  -- to show it takes memory
  pub takes_memory : (takes : Fault → Type 0) (number : ℕ) (body : Body B) → body_of number table ≡ Some body → AreObjects (known_of embedding (modules_seen ms)) state.objects
      → TakesMemoryToFind takes (task_of embedding (Object number) state)
  takes_memory takes number body at living =
      let there = body_at G names number table ∙ ap (option_map (body_shown G names)) at in
      subst (λ (r : TaskResult Fault). TakesMemoryToFind takes r) (sym (ap (asked_by number) there))
      (takes_some takes number (described embedding (body_shown G names body) state)
      (can_describe embedding state state.objects (body_shown G names body) (living.each number (body_shown G names body) there)))
