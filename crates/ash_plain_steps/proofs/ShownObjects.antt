-- Objects as replies show them, by what is found.
use Rattle.std.proofs.Common.{◌≡◌, ℕ, Bool, true, false, cond, List, [], ◌∷◌, map, Option, Some, None, Ok, Err, refl, sym, ◌∙◌, ap, subst, nat_eq, arith}
use Rattle.std.specs.Prelude.{slice_get, position, option_map, is_some}
use Rattle.std.specs.Borrow.{Bor}
use Rattle.std.specs.Slice.{IsItemAt}
use Rattle.std.specs.List.{AllByRecursion, find}
use Rattle.std.specs.Option.{option_and_then}
use Rattle.std.specs.Str.{bytes_eq}
use Rattle.std.proofs.lemmas.Bool.Decides.{nat_tests}
use Rattle.std.proofs.lemmas.Option.{slice_get-map, slice_get_past}
use Rattle.std.proofs.lemmas.Slice.Eq.{bytes_eq-Decides}
use Rattle.ash_host.specs.declared.word.Word.{Word}
use Rattle.ash_host.specs.Objects.{Plain, Script, Array, Host, object_at}
use Rattle.ash_typed.specs.Modules.{Class, Module, module_of}
use Rattle.ash_meaning.specs.Classes.{dotted, places_of_classes, class_of}
use Rattle.ash_requests.specs.Requests.{Object, NoObject, ObjectContents, Fields}
use Rattle.ash_requests.specs.States.{Embedding, has_name}
use Rattle.ash_requests.specs.Tasks.{TaskResult, Show, require_some, tree_in, tree_of, class_placed, shown_fields, described, shown, task_of}
use Rattle.ash_plain_steps.specs.declared.state.LoadedModule.{LoadedModule}
use Rattle.ash_plain_steps.specs.declared.state.PlainState.{PlainState}
use Rattle.ash_plain_steps.specs.StateViews.{loaded_seen, modules_seen, state_seen}
use Rattle.ash_plain_steps.specs.Consistency.{IsReadFromSource, AreConsistent}
use Rattle.ash_plain_steps.specs.TaskViews.{tree_named, class_in, class_of_object, described_in}
use Rattle.ash_requests.specs.TaskResults.{TakesMemoryToFind}
use Rattle.ash_plain_steps.proofs.Given.{got_item}

-- what `get` gives, as the definitions see it
pub got_seen : {A B : Type 0} (f : A → B) (xs : List A) (i : ℕ) (r : Option (Bor A)) → IsItemAt xs i r → option_map (λ (x : Bor A). f x.now) r ≡ slice_get (map f xs) i
got_seen f xs i None item = sym (slice_get-map f xs i ∙ ap (option_map f) (slice_get_past xs i item.3))
got_seen f xs i (Some x) item = ap (option_map f) (sym (got_item xs i x.now item.3.0 item.3.1)) ∙ sym (slice_get-map f xs i)

-- classes

same_test : (a b : ℕ) → nat_eq a b ≡ nat_eq b a
same_test a b = grind (arith, nat_tests)

-- the class that an object is of in this tree, as the code finds it
abbrev pub class_from : List ℕ → Plain (List ℕ) → Module → Option Class
class_from owner object tree = option_and_then (λ class. slice_get tree.classes class) (class_of (record { name = owner; tree = tree }) object)

placed_is : (place : ℕ) (o : Option Module) → option_and_then (class_placed place) o ≡ option_and_then (λ (tree : Module). option_and_then (λ class. slice_get tree.classes class) (position (nat_eq place) (places_of_classes tree))) o
placed_is place (Some tree) = λ i. option_and_then (λ class. slice_get tree.classes class) (position (λ other. same_test other place i) (places_of_classes tree))
placed_is place None = refl

none_from : {A B : Type 0} (o : Option A) → None ≡ option_and_then (λ (x : A). let none : Option B = None in none) o
none_from (Some x) = refl
none_from None = refl

-- the class of an object, in the module of this name, by the typed tree of that
pub class_by : (owner : List ℕ) (ms : List LoadedModule) (object : Plain (List ℕ)) → class_of_object owner ms object ≡ option_and_then (class_from owner object) (tree_named owner ms)
class_by owner ms (Script other place fields) = by (bytes_eq other owner)
  where
    by : (b : Bool) → cond b (class_in owner place ms) None ≡ option_and_then (λ (tree : Module). option_and_then (λ class. slice_get tree.classes class) (cond b (position (nat_eq place) (places_of_classes tree)) None)) (tree_named owner ms)
    by true = placed_is place (tree_named owner ms)
    by false = none_from (tree_named owner ms)
class_by owner ms (Array of elements) = none_from (tree_named owner ms)
class_by owner ms (Host kind bytes) = none_from (tree_named owner ms)

pub in_no_module : (owner : List ℕ) (ms : List LoadedModule) (object : Plain (List ℕ)) → None ≡ tree_named owner ms → None ≡ class_of_object owner ms object
in_no_module owner ms object e = ap (option_and_then (class_from owner object)) e ∙ sym (class_by owner ms object)

pub in_tree : (owner : List ℕ) (ms : List LoadedModule) (object : Plain (List ℕ)) (tree : Module) (found : Option ℕ) → Some tree ≡ tree_named owner ms → found ≡ class_of (record { name = owner; tree = tree }) object → option_and_then (λ class. slice_get tree.classes class) found ≡ class_of_object owner ms object
in_tree owner ms object tree found e is =
    ap (option_and_then (λ class. slice_get tree.classes class)) is
    ∙ ap (option_and_then (class_from owner object)) e
    ∙ sym (class_by owner ms object)

-- what an object of a class is shown as, where the class is found by the name of its module

mapped : {A B : Type 0} (f : A → B) (o : Option A) → is_some (option_map f o) ≡ is_some o
mapped f (Some x) = refl
mapped f None = refl

class_there : (b : Bool) (o : Option Class) (c : Class) → Some c ≡ cond b o None → o ≡ Some c
class_there true o c e = sym e
class_there false o c e = absurd (cc)

module _ (kind_name : ℕ → List ℕ) (owner name : List ℕ) (place : ℕ) (fields : List Word) (ms : List LoadedModule) (same : name ≡ owner) where
  class_found : (c : Class) → Some c ≡ class_of_object name ms (Script owner place fields) → class_in owner place ms ≡ Some c
  class_found c e = ap (λ (n : List ℕ). class_in n place ms) (sym same) ∙ class_there (bytes_eq owner name) (class_in name place ms) c e

  pub script_seen : (c : Class) (d : List ℕ × ObjectContents) → Some c ≡ class_of_object name ms (Script owner place fields) → d ≡ (dotted name c.name, Fields (shown_fields c fields)) → Some d ≡ described_in kind_name ms (Script owner place fields)
  script_seen c d e is =
      ap (λ (x : List ℕ × ObjectContents). Some x) (is ∙ ap (λ (n : List ℕ). (dotted n c.name, Fields (shown_fields c fields))) same)
      ∙ ap (option_map (λ (c : Class). (dotted owner c.name, Fields (shown_fields c fields)))) (sym (class_found c e))

  pub script_takes : (c : Class) → Some c ≡ class_of_object name ms (Script owner place fields) → is_some (described_in kind_name ms (Script owner place fields)) ≡ true
  script_takes c e =
      mapped (λ (c : Class). (dotted owner c.name, Fields (shown_fields c fields))) (class_in owner place ms)
      ∙ ap (λ (o : Option Class). is_some o) (class_found c e)

  pub script_absent : None ≡ class_of_object name ms (Script owner place fields) → None ≡ described_in kind_name ms (Script owner place fields)
  script_absent e =
      ap (option_map (λ (c : Class). (dotted owner c.name, Fields (shown_fields c fields))))
      (e
      ∙ ap (λ (b : Bool). cond b (class_in name place ms) None) ((bytes_eq-Decides owner name).1 (sym same))
      ∙ ap (λ (n : List ℕ). class_in n place ms) same)

-- the definitions have the same trees

trees_are : {Fault : Type 0} (embedding : Embedding Fault) (owner : List ℕ) (ms : List LoadedModule) → AllByRecursion (IsReadFromSource embedding) ms → option_and_then (tree_of embedding) (find (has_name owner) (modules_seen ms)) ≡ tree_named owner ms
trees_are embedding owner [] h = refl
trees_are embedding owner (m ∷ ms) h = by (has_name owner (loaded_seen m)) (trees_are embedding owner ms h.1)
  where
    by : (b : Bool) → option_and_then (tree_of embedding) (find (has_name owner) (modules_seen ms)) ≡ tree_named owner ms → option_and_then (tree_of embedding) (cond b (Some (loaded_seen m)) (find (has_name owner) (modules_seen ms))) ≡ option_map (λ (s : LoadedModule). module_of s.tree) (cond b (Some m) (find (λ (s : LoadedModule). has_name owner (loaded_seen s)) ms))
    by true rest = ap tree_in h.0
    by false rest = rest

module _ {Fault : Type 0} (embedding : Embedding Fault) (s : PlainState) where
  described_is : (object : Plain (List ℕ)) → AreConsistent embedding s.modules.items → described embedding object (state_seen s) ≡ described_in embedding.name_of_kind s.modules.items object
  described_is (Script owner place fields) known = ap (λ (o : Option Module). option_map (λ (c : Class). (dotted owner c.name, Fields (shown_fields c fields))) (option_and_then (class_placed place) o)) (trees_are embedding owner s.modules.items known.read)
  described_is (Array of elements) known = refl
  described_is (Host kind bytes) known = refl

  -- requests

  abbrev shown_from : ℕ → Option (List ℕ × ObjectContents) → TaskResult Fault
  shown_from number found = require_some found NoObject (λ of. Ok (Show (shown embedding number (state_seen s) of)))

  pub shown_nowhere : (number : ℕ) → None ≡ object_at number s.objects → task_of embedding (Object number) (state_seen s) ≡ Err NoObject
  shown_nowhere number e = ap (λ (o : Option (Plain (List ℕ))). require_some o NoObject (λ object. shown_from number (described embedding object (state_seen s)))) (sym e)

  shown_by : (number : ℕ) (object : Plain (List ℕ)) (found : Option (List ℕ × ObjectContents)) → AreConsistent embedding s.modules.items → Some object ≡ object_at number s.objects → found ≡ described_in embedding.name_of_kind s.modules.items object → task_of embedding (Object number) (state_seen s) ≡ shown_from number found
  shown_by number object found known e is =
      ap (λ (o : Option (Plain (List ℕ))). require_some o NoObject (λ object. shown_from number (described embedding object (state_seen s)))) (sym e)
      ∙ ap (shown_from number) (described_is object known ∙ sym is)

  pub shown_by_no_class : (number : ℕ) (object : Plain (List ℕ)) → AreConsistent embedding s.modules.items → Some object ≡ object_at number s.objects → None ≡ described_in embedding.name_of_kind s.modules.items object → task_of embedding (Object number) (state_seen s) ≡ Err NoObject
  shown_by_no_class number object known e is = shown_by number object None known e is

  pub shown_there : (number : ℕ) (object : Plain (List ℕ)) (of : List ℕ × ObjectContents) → AreConsistent embedding s.modules.items → Some object ≡ object_at number s.objects → Some of ≡ described_in embedding.name_of_kind s.modules.items object → task_of embedding (Object number) (state_seen s) ≡ Ok (Show (shown embedding number (state_seen s) of))
  shown_there number object of known e is = shown_by number object (Some of) known e is

  shows : (takes : Fault → Type 0) (number : ℕ) (found : Option (List ℕ × ObjectContents)) → is_some found ≡ true → TakesMemoryToFind takes (shown_from number found)
  shows takes number (Some of) e = tt
  shows takes number None e = absurd (cc)

  -- An object that can be shown takes memory.
  pub shown_takes : (takes : Fault → Type 0) (number : ℕ) (object : Plain (List ℕ)) → AreConsistent embedding s.modules.items → Some object ≡ object_at number s.objects → is_some (described_in embedding.name_of_kind s.modules.items object) ≡ true → TakesMemoryToFind takes (task_of embedding (Object number) (state_seen s))
  shown_takes takes number object known e is =
      subst (λ (r : TaskResult Fault). TakesMemoryToFind takes r) (sym (shown_by number object (described_in embedding.name_of_kind s.modules.items object) known e refl))
      (shows takes number (described_in embedding.name_of_kind s.modules.items object) is)
