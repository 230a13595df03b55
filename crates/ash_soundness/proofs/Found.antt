-- What a sound module names is there: what is called, and how a class implements an interface that it lists.
use Rattle.std.proofs.Common.{◌≡◌, ◌<◌, ◌+◌, ℕ, zero, suc, Bool, true, false, cond, List, [], ◌∷◌, length, map, refl, sym, ap, ◌∙◌, subst, slice_get, nat_eq, option_map, arith, find, position, if◌then◌else◌}
use Rattle.std.specs.Prelude.{Option, Some, None, Contains, IsSome, is_some}
use Rattle.std.specs.List.{AllZip, position_from}
use Rattle.std.specs.Option.{option_and_then}
use Rattle.std.proofs.lemmas.Bool.Decides.{nat_tests}
use Rattle.std.proofs.lemmas.Iterator.Adapters.{position_from-zero}
use Rattle.std.proofs.lemmas.List.FromFn.{get_or-map-range_with_len, length-map-range_with_len}
use Rattle.std.proofs.lemmas.Option.{same_Some, slice_get-map, slice_get_within, slice_get-get_or}
use Rattle.ash_host.specs.Objects.{Plain, Script, Array, Host, LiveObjects, object_at}
use Rattle.ash_host.proofs.RecordLaws.{bytes_decide}
use Rattle.ash_typed.specs.Modules.{Function, Signature, Implementation, Class}
use Rattle.ash_typed.specs.Signatures.{ClassTypes, signature_of, signature_of_class, place_of_interface}
use Rattle.ash_typed.specs.SoundModules as sound
use Rattle.ash_meaning.specs.Classes.{place_of_class, places_of_classes, class_of, implementation_in, implemented, FreeFunction, Method, Construction, entry_of_function, entry_of_method, entry_of_construction, entry_of}
use Rattle.ash_soundness.specs.WellFormed.{Context, IsContext, declared, Shape, OfClass, shape_of, shape_at, IsOfClass, ListsInterface}
use Rattle.ash_soundness.proofs.Values.{none_in}
use Rattle.ash_soundness.proofs.Places.{one_class}
use Rattle.ash_soundness.proofs.Arrays.{object_with}
use Rattle.ash_soundness.proofs.Entries.{mapped, chained, class_found, implementation_found, zip_at}

-- what is looked for

pub some_from : {A : Type 0} (o : Option A) → IsSome o → (x : A) × (o ≡ Some x)
some_from None h = absurd (cc)
some_from (Some x) h = (x, refl)

or_later : {A : Type 0} (b : Bool) (x : A) (o : Option A) → IsSome o → IsSome (cond b (Some x) o)
or_later true x o h = refl
or_later false x o h = h

pub some_mapped : {A B : Type 0} (f : A → B) (o : Option A) → IsSome o → IsSome (option_map f o)
some_mapped f None h = absurd (cc)
some_mapped f (Some x) h = refl

module _ {A : Type 0} (p : A → Bool) where
  position_from_there : (k : ℕ) (xs : List A) (i : ℕ) (x : A) → slice_get xs i ≡ Some x → p x ≡ true → IsSome (position_from p k xs)
  position_from_there k [] i x at passes = absurd (cc)
  position_from_there k (y ∷ ys) zero x at passes = ap (λ (b : Bool). is_some (cond b (Some k) (position_from p (k + 1) ys))) (ap p (same_Some y x at) ∙ passes)
  position_from_there k (y ∷ ys) (suc i) x at passes = or_later (p y) k (position_from p (k + 1) ys) (position_from_there (k + 1) ys i x at passes)

  position_there : (xs : List A) (i : ℕ) (x : A) → slice_get xs i ≡ Some x → p x ≡ true → IsSome (position p xs)
  position_there xs i x at passes = subst (λ (o : Option ℕ). IsSome o) (sym (position_from-zero p xs)) (position_from_there 0 xs i x at passes)

same_test : (m n : ℕ) → m ≡ n → nat_eq m n ≡ true
same_test m n e = grind (arith, nat_tests)

listed_there : (interface : ℕ) (is : List Implementation) → Contains (map place_of_interface is) interface → IsSome (find (λ (i : Implementation). nat_eq i.interface interface) is)
listed_there interface [] within = absurd (none_in interface within)
listed_there interface (i ∷ is) (zero, l, e) = ap (λ (b : Bool). is_some (cond b (Some i) (find (λ (j : Implementation). nat_eq j.interface interface) is))) (same_test i.interface interface e)
listed_there interface (i ∷ is) (suc k, l, e) = or_later (nat_eq i.interface interface) i (find (λ (j : Implementation). nat_eq j.interface interface) is) (listed_there interface is (k, omega arith, e))

zip_there : {A B : Type 0} (R : A → B → Type 0) (xs : List A) (ys : List B) (k : ℕ) (x : A) → AllZip R xs ys → slice_get xs k ≡ Some x → (y : B) × (slice_get ys k ≡ Some y)
zip_there R [] ys k x h at = absurd (cc)
zip_there R (z ∷ xs) [] k x h at = absurd h
zip_there R (z ∷ xs) (y ∷ ys) zero x h at = (y, refl)
zip_there R (z ∷ xs) (y ∷ ys) (suc k) x h at = zip_there R xs ys k x h.1 at

same_owner : {owner other : List ℕ} {place at : ℕ} → OfClass owner place ≡ OfClass other at → owner ≡ other
same_owner e = cc

same_place : {owner other : List ℕ} {place at : ℕ} → OfClass owner place ≡ OfClass other at → place ≡ at
same_place e = cc

module _ (c : Context) where
  -- what is called

  pub function_there : (place : ℕ) (s : Signature) → slice_get (declared c).functions place ≡ Some s → IsSome (entry_of (c.program).tree (FreeFunction place))
  function_there place s at =
      let (f, here, same) = mapped signature_of (slice_get ((c.program).tree).functions place) s (sym (slice_get-map signature_of ((c.program).tree).functions place) ∙ at) in
      ap (λ (o : Option Function). is_some (option_map entry_of_function o)) here

  class_listed : (class : ℕ) (cs : ClassTypes) → slice_get (declared c).classes class ≡ Some cs → (k : Class) × (slice_get ((c.program).tree).classes class ≡ Some k) × (signature_of_class k ≡ cs)
  class_listed class cs at = mapped signature_of_class (slice_get ((c.program).tree).classes class) cs (sym (slice_get-map signature_of_class ((c.program).tree).classes class) ∙ at)

  pub class_there : (class : ℕ) (cs : ClassTypes) → slice_get (declared c).classes class ≡ Some cs → IsSome (slice_get ((c.program).tree).classes class)
  class_there class cs at = ap is_some (class_listed class cs at).1

  pub construction_there : (class : ℕ) (cs : ClassTypes) → slice_get (declared c).classes class ≡ Some cs → IsSome (entry_of (c.program).tree (Construction class))
  construction_there class cs at = ap (λ (o : Option Class). is_some (option_map entry_of_construction o)) (class_listed class cs at).1

  own_there : (class own : ℕ) (k : Class) (f : Function) → slice_get ((c.program).tree).classes class ≡ Some k → slice_get k.methods own ≡ Some f → IsSome (entry_of (c.program).tree (Method class own))
  own_there class own k f at here =
      ap (λ (o : Option Class). is_some (option_and_then (λ (x : Class). option_map (entry_of_method x) (slice_get x.methods own)) o)) at
      ∙ ap (λ (o : Option Function). is_some (option_map (entry_of_method k) o)) here

  pub method_there : (class method : ℕ) (cs : ClassTypes) (s : Signature) → slice_get (declared c).classes class ≡ Some cs → slice_get cs.methods method ≡ Some s → IsSome (entry_of (c.program).tree (Method class method))
  method_there class method cs s at here =
      let (k, at_k, of_k) = class_listed class cs at in
      let listed : slice_get (map signature_of k.methods) method ≡ Some s = subst (λ (x : ClassTypes). slice_get x.methods method ≡ Some s) (sym of_k) here in
      let (f, at_f, same) = mapped signature_of (slice_get k.methods method) s (sym (slice_get-map signature_of k.methods method) ∙ listed) in
      own_there class method k f at_k at_f

module _ {c : Context} (context : IsContext c) where
  -- the class of an object

  place_there : (class : ℕ) (k : Class) → slice_get ((c.program).tree).classes class ≡ Some k → slice_get (places_of_classes (c.program).tree) class ≡ Some (place_of_class (c.program).tree class)
  place_there class k at =
      let m = (c.program).tree in
      let within : class < length m.classes = slice_get_within m.classes class k at in
      let zero_more : 0 + class ≡ class = omega arith in
      slice_get-get_or (places_of_classes m) class 0 (omega (arith, within, length-map-range_with_len (place_of_class m) 0 (length m.classes)))
      ∙ ap Some (get_or-map-range_with_len (place_of_class m) 0 (length m.classes) class class 0 within zero_more)

  class_seen : (o : Plain (List ℕ)) (class : ℕ) → IsOfClass c.program class (shape_of o) → class_of c.program o ≡ Some class
  class_seen (Script owner place fields) class i =
      let m = (c.program).tree in
      let (other, found) = some_from (position (nat_eq place) (places_of_classes m)) (position_there (nat_eq place) (places_of_classes m) class (place_of_class m class) (place_there class i.source i.at) (same_test place (place_of_class m class) (same_place i.is))) in
      let chosen : class_of c.program (Script owner place fields) ≡ Some other = ap (λ (b : Bool). if b then position (nat_eq place) (places_of_classes m) else None) ((bytes_decide owner (c.program).name).1 (same_owner i.is)) ∙ found in
      let j = class_found context (Script owner place fields) other chosen in
      let one : other ≡ class = one_class m other class (sym (same_place j.is) ∙ same_place i.is) in
      chosen ∙ ap Some one
  class_seen (Array of elements) class i = absurd (let is = i.is in cc)
  class_seen (Host kind state) class i = absurd (let is = i.is in cc)

  pub class_at_seen : (number : ℕ) (all : LiveObjects (List ℕ)) (shape : Shape) (class : ℕ) → shape_at number all ≡ Some shape → IsOfClass c.program class shape → option_and_then (class_of c.program) (object_at number all) ≡ Some class
  class_at_seen number all shape class at i =
      let (o, there, is) = object_with number all shape at in
      ap (option_and_then (class_of c.program)) there ∙ class_seen o class (subst (IsOfClass c.program class) (sym is) i)

  -- methods of interfaces

  implementation_there : (interface : ℕ) {shape : Shape} (i : ListsInterface c.program interface shape) → IsSome (implementation_in (c.program).tree i.class interface)
  implementation_there interface i =
      ap (λ (o : Option Class). is_some (option_and_then (λ (k : Class). find (λ (x : Implementation). nat_eq x.interface interface) k.interfaces) o)) (i.of).at
      ∙ listed_there interface ((i.of).source).interfaces i.lists

  pub implemented_there : (interface method : ℕ) (all : List Signature) (s : Signature) → slice_get (declared c).interfaces interface ≡ Some all → slice_get all method ≡ Some s → {shape : Shape} (i : ListsInterface c.program interface shape) → IsSome (implemented (c.program).tree interface method i.class)
  implemented_there interface method all s at_all at_s i =
      let (x, found) = some_from (implementation_in (c.program).tree i.class interface) (implementation_there interface i) in
      let (k, at_k, same, within, (others, at_others, zipped)) = implementation_found context i.class interface x found in
      let one : others ≡ all = same_Some others all (sym at_others ∙ ap (slice_get (declared c).interfaces) same ∙ at_all) in
      let (own, at_own) = zip_there (sound.ImplementsDeclared k.methods) others x.methods method s zipped (subst (λ (l : List Signature). slice_get l method ≡ Some s) (sym one) at_s) in
      ap (λ (o : Option Implementation). is_some (option_and_then (λ (y : Implementation). slice_get y.methods method) o)) found ∙ ap is_some at_own

  pub through_there : (interface method class own : ℕ) → implemented (c.program).tree interface method class ≡ Some own → IsSome (entry_of (c.program).tree (Method class own))
  through_there interface method class own found =
      let (x, found_x, at_own) = chained (λ (y : Implementation). slice_get y.methods method) (implementation_in (c.program).tree class interface) own found in
      let (k, at_k, same, within, (others, at_others, zipped)) = implementation_found context class interface x found_x in
      let (s, at_s, (f, at_f, signature)) = zip_at (sound.ImplementsDeclared k.methods) others x.methods method own zipped at_own in
      own_there c class own k f at_k at_f
