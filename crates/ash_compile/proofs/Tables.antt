-- Calls by an interface ask the tables of code what the meaning asks the module.
use Rattle.std.proofs.Common.{◌≡◌, ℕ, ◌+◌, ◌<◌, List, [], ◌∷◌, map, length, get_or, Bool, true, false, not, cond}
use Rattle.std.proofs.Common.{refl, sym, ap, ◌∙◌, arith}
use Rattle.std.specs.Prelude.{Option, Some, None, option_map, slice_get, position, find, nat_eq, nat_lt}
use Rattle.std.specs.List.{position_or_len}
use Rattle.std.specs.Option.{option_and_then}
use Rattle.std.specs.Str.{bytes_eq}
use Rattle.std.proofs.lemmas.List.{length-map, ext_get_or}
use Rattle.std.proofs.lemmas.List.FromFn.{get_or-map-range_with_len, length-map-range_with_len}
use Rattle.std.proofs.lemmas.Option.{slice_get-map, get_or_from_slice_get}
use Rattle.ash_host.specs.Objects.{Plain, Script, Array, Host, object_at}
use Rattle.ash_typed.specs.Modules.{Implementation, Class, Module}
use Rattle.ash_meaning.specs.Activity.{Activity}
use Rattle.ash_meaning.specs.Classes.{Method, class_of, place_of_class, places_of_classes, implemented}
use Rattle.ash_meaning.specs.Classes.{implementation_in as listed_in}
use Rattle.ash_soundness.proofs.Parts.{there_from}
use Rattle.ash_code.specs.declared.code.ClassCode.{ClassCode}
use Rattle.ash_code.specs.declared.code.ImplementationCode.{ImplementationCode}
use Rattle.ash_code.specs.Performing.{Setting, classes_of}
use Rattle.ash_code.specs.Steps.{class_in, implementation_in, method_of}
use Rattle.ash_compile.specs.Layout.{index_of}
use Rattle.ash_compile.specs.Callees.{implementation_of, implementation_at, HasClasses}
use Rattle.ash_compile.specs.Callees.{has_implementations}

-- lists that are mapped

first_mapped : {X Y : Type 0} (f : X → Y) (p : Y → Bool) (xs : List X)
    → position_or_len p (map f xs) ≡ position_or_len (λ (x : X). p (f x)) xs
first_mapped f p [] = refl
first_mapped f p (x ∷ xs) = ap (λ (n : ℕ). cond (not (p (f x))) (1 + n) 0) (first_mapped f p xs)

position_mapped : {X Y : Type 0} (f : X → Y) (p : Y → Bool) (xs : List X)
    → position p (map f xs) ≡ position (λ (x : X). p (f x)) xs
position_mapped f p xs =
    ap (λ (n : ℕ). cond (nat_lt n (length (map f xs))) (Some n) None) (first_mapped f p xs)
    ∙ ap (λ (n : ℕ). cond (nat_lt (position_or_len (λ x. p (f x)) xs) n)
    (Some (position_or_len (λ x. p (f x)) xs)) None)
    (length-map xs f)

found_first : {X Y : Type 0} (f : X → Y) (b : Bool) (x : X) (o : Option X)
    → option_map f (cond b (Some x) o) ≡ cond b (Some (f x)) (option_map f o)
found_first f true x o = refl
found_first f false x o = refl

find_mapped : {X Y : Type 0} (f : X → Y) (p : Y → Bool) (xs : List X)
    → option_map f (find (λ (x : X). p (f x)) xs) ≡ find p (map f xs)
find_mapped f p [] = refl
find_mapped {X} {Y} f p (x ∷ xs) =
    found_first f (p (f x)) x (find (λ x. p (f x)) xs)
    ∙ ap (λ (o : Option Y). cond (p (f x)) (Some (f x)) o) (find_mapped f p xs)

module _ (s : Setting) (m : Module) (has : HasClasses s m) where
  -- places

  place_there : (i : ℕ) → i < length m.classes → get_or (map (λ (c : ClassCode). c.place) (classes_of s)) i 0
      ≡ place_of_class m i
  place_there i within =
      let (k, at) = there_from m.classes i within in
      let code = has.each i k at in
      get_or_from_slice_get (map (λ (c : ClassCode). c.place) (classes_of s)) i (code.0).place 0
      (slice_get-map (λ (c : ClassCode). c.place) (classes_of s) i
      ∙ ap (λ (o : Option ClassCode). option_map (λ (c : ClassCode). c.place) o) code.1)
      ∙ (code.2).place

  pub places_are : map (λ (c : ClassCode). c.place) (classes_of s) ≡ places_of_classes m
  places_are =
      let size = length-map (classes_of s) (λ (c : ClassCode). c.place) in
      ext_get_or 0 (map (λ (c : ClassCode). c.place) (classes_of s)) (places_of_classes m)
      (size ∙ has.count ∙ sym (length-map-range_with_len (place_of_class m) 0 (length m.classes)))
      (λ i within.
      let inside : i < length m.classes = omega (arith, size, has.count, within) in
      place_there i inside
      ∙ sym (get_or-map-range_with_len (place_of_class m) 0 (length m.classes) i i 0 inside (omega arith)))

  -- the class of an object
  pub class_same : (name : List ℕ) (o : Plain (List ℕ))
      → class_in name (classes_of s) o ≡ class_of (record { name = name; tree = m }) o
  class_same name (Script owner place fields) =
      ap (λ (o : Option ℕ). cond (bytes_eq owner name) o None)
      (sym (position_mapped (λ (c : ClassCode). c.place) (nat_eq place) (classes_of s))
      ∙ ap (λ (places : List ℕ). position (nat_eq place) places) places_are)
  class_same name (Array of elements) = refl
  class_same name (Host kind state) = refl

  class_there : (name : List ℕ) (o : Option (Plain (List ℕ)))
      → option_and_then (class_in name (classes_of s)) o ≡ option_and_then
      (class_of (record { name = name; tree = m })) o
  class_there name None = refl
  class_there name (Some o) = class_same name o

  -- the methods of a class for those of an interface

  pub listed : (interface class : ℕ) (k : Class) → slice_get m.classes class ≡ Some k → has_implementations k ≡ true
      → option_map implementation_of (implementation_in (classes_of s) interface class)
      ≡ option_map (implementation_at m class) (listed_in m class interface)
  listed interface class k at named =
      let code = has.each class k at in
      let test : Implementation → Bool = λ i. nat_eq i.interface interface in
      ap (λ (o : Option ClassCode). option_map implementation_of (option_and_then
      (λ (c : ClassCode). find (λ (i : ImplementationCode). nat_eq i.interface interface) (c.interfaces).items) o))
      code.1
      ∙ find_mapped implementation_of test ((code.0).interfaces).items
      ∙ ap (λ (is : List Implementation). find test is) ((code.2).interfaces named)
      ∙ sym (find_mapped (implementation_at m class) test k.interfaces)
      ∙ ap (λ (o : Option Class). option_map (implementation_at m class)
      (option_and_then (λ (c : Class). find test c.interfaces) o))
      (sym at)

  method_listed : (method class : ℕ) (o : Option ImplementationCode) (i : Option Implementation)
      → option_map implementation_of o ≡ option_map (implementation_at m class) i
      → option_and_then (λ (x : ImplementationCode). slice_get (x.methods).items method) o
      ≡ option_map (λ (own : ℕ). index_of m (Method class own))
      (option_and_then (λ (x : Implementation). slice_get x.methods method) i)
  method_listed method class None None same = refl
  method_listed method class None (Some i) same = absurd (cc)
  method_listed method class (Some code) None same = absurd (cc)
  method_listed method class (Some code) (Some i) same =
      ap (λ (o : Option Implementation). option_and_then (λ (x : Implementation). slice_get x.methods method) o) same
      ∙ slice_get-map (λ (own : ℕ). index_of m (Method class own)) i.methods method

  -- The function that an interface's method runs, of an object, is that of the method which the class has for it.
  pub finds_method : (name : List ℕ) (interface method number class own : ℕ) (k : Class) (a : Activity)
      → option_and_then (class_of (record { name = name; tree = m })) (object_at number (a.world).objects) ≡ Some class
      → slice_get m.classes class ≡ Some k
      → has_implementations k ≡ true
      → implemented m interface method class ≡ Some own
      → method_of name (classes_of s) interface method number a ≡ Some (index_of m (Method class own))
  finds_method name interface method number class own k a is at named has_own =
      ap (λ (o : Option ℕ). option_and_then
      (λ (x : ℕ). option_and_then (λ (i : ImplementationCode). slice_get (i.methods).items method)
      (implementation_in (classes_of s) interface x)) o) (class_there name (object_at number (a.world).objects) ∙ is)
      ∙ method_listed method class (implementation_in (classes_of s) interface class) (listed_in m class interface)
      (listed interface class k at named)
      ∙ ap (λ (o : Option ℕ). option_map (λ (x : ℕ). index_of m (Method class x)) o) has_own
