-- The classes of the objects that have the class or the interface with an index as a type.
use Rattle.std.proofs.Common.{◌≡◌, ◌<◌, ◌+◌, ℕ, zero, suc, true, false, List, [], ◌∷◌, length, map, refl, sym, ap, ◌∙◌, subst, inl, inr, nat_eq, slice_get, get_or, arith}
use Rattle.std.specs.Prelude.{Option, Some, None, Contains, option_map}
use Rattle.std.specs.List.{list_any, range_with_len}
use Rattle.std.specs.Option.{option_map_or}
use Rattle.std.proofs.lemmas.Bool.{eqb-true, eq-eqb}
use Rattle.std.proofs.lemmas.Option.{same_Some, slice_get-map, slice_get_within}
use Rattle.std.proofs.lemmas.List.Elements.{Contains-get_or}
use Rattle.std.proofs.lemmas.List.FromFn.{length-range_with_len, get_or-range_with_len}
use Rattle.ash_host.proofs.Membership.{or_cases, or_first, or_second}
use Rattle.ash_typed.specs.Modules.{Implementation, Class, Module}
use Rattle.ash_typed.specs.Signatures as signatures
use Rattle.ash_typed.specs.Signatures.{HostSignatures, ModuleSignatures, signatures_of, signature_of_class, methods_of_interface}
use Rattle.ash_typed.specs.SoundModules.{IsSound, IsSoundClass, AreSoundClasses, IsImplementation}
use Rattle.ash_typed.specs.References.{Lists}
use Rattle.ash_meaning.specs.Classes.{place_of_class, place_of_interface}
use Rattle.ash_soundness.proofs.Values.{none_in, first_in, later_in}
use Rattle.ash_soundness.proofs.Named.{in_filter, from_filter, rec_of}
use Rattle.ash_soundness.proofs.Entries.{mapped}
use Rattle.ash_soundness.proofs.Parts.{there_from}
use Rattle.ash_soundness.proofs.Places.{one_class, class_or_interface, one_interface}
use Rattle.ash_soundness.proofs.SourceOrder.{in_source_order}
use Rattle.ash_object_ranks.specs.ObjectRanks.{lists_at, is_type_of, classes_at}

-- the classes of a sound module are sound
sound_from : (s : ModuleSignatures) (start k class : ℕ) (cs : List Class) (source : Class) → class ≡ start + k → AreSoundClasses s start cs → slice_get cs k ≡ Some source → IsSoundClass s class source
sound_from s start k class [] source level h at = absurd (cc)
sound_from s start zero class (c ∷ cs) source level h at =
    let here : start ≡ class = omega arith in
    subst (λ (n : ℕ). IsSoundClass s n source) here (subst (IsSoundClass s start) (same_Some c source at) h.0)
sound_from s start (suc k) class (c ∷ cs) source level h at = sound_from s (start + 1) k class cs source (omega arith) h.1 at

pub index_within : (m k : ℕ) → k < m → Contains (range_with_len 0 m) k
index_within m k lt =
    let long : length (range_with_len 0 m) ≡ m = length-range_with_len 0 m in
    let same : get_or (range_with_len 0 m) k 0 ≡ k = omega (arith, get_or-range_with_len 0 m k 0 lt) in
    subst (Contains (range_with_len 0 m)) same (Contains-get_or (range_with_len 0 m) k 0 (omega arith))

-- interfaces that are listed, by their indexes

listed_from : (m : Module) (index : ℕ) (is : List Implementation) → list_any (λ (i : Implementation). nat_eq index (place_of_interface m i.interface)) is ≡ true → (i : Implementation) × Contains is i × (index ≡ place_of_interface m i.interface)
listed_from m index [] e = absurd (cc)
listed_from m index (i ∷ is) e =
    elim (or_cases (nat_eq index (place_of_interface m i.interface)) (list_any (λ (j : Implementation). nat_eq index (place_of_interface m j.interface)) is) e) [
      | inl here ↦ (i, first_in i is, eqb-true index (place_of_interface m i.interface) here)
      | inr later ↦ let (j, at, same) = listed_from m index is later in (j, later_in i j is at, same)
    ]

listed_at : (m : Module) (k : ℕ) (is : List Implementation) → Contains (map signatures.place_of_interface is) k → list_any (λ (i : Implementation). nat_eq (place_of_interface m k) (place_of_interface m i.interface)) is ≡ true
listed_at m k [] within = absurd (none_in k within)
listed_at m k (i ∷ is) (zero, l, e) =
    or_first (nat_eq (place_of_interface m k) (place_of_interface m i.interface)) (list_any (λ (j : Implementation). nat_eq (place_of_interface m k) (place_of_interface m j.interface)) is) (eq-eqb (place_of_interface m k) (place_of_interface m i.interface) (ap (place_of_interface m) (sym e)))
listed_at m k (i ∷ is) (suc n, l, e) =
    or_second (nat_eq (place_of_interface m k) (place_of_interface m i.interface)) (list_any (λ (j : Implementation). nat_eq (place_of_interface m k) (place_of_interface m j.interface)) is) (listed_at m k is (n, omega arith, e))

in_map : (is : List Implementation) (i : Implementation) → Contains is i → Contains (map signatures.place_of_interface is) i.interface
in_map [] i within = absurd (none_in i within)
in_map (j ∷ is) i (zero, l, e) = (0, omega arith, ap signatures.place_of_interface e)
in_map (j ∷ is) i (suc k, l, e) = later_in j.interface i.interface (map signatures.place_of_interface is) (in_map is i (k, omega arith, e))

-- what a class lists is what its signature lists
pub lists_by : (host : HostSignatures) (m : Module) (class k : ℕ) (source : Class) → slice_get m.classes class ≡ Some source → Contains (map signatures.place_of_interface source.interfaces) k → Lists (signatures_of host m) class k
lists_by host m class k source at within = (signature_of_class source, slice_get-map signature_of_class m.classes class ∙ ap (option_map signature_of_class) at, within)

-- an index has its own class, and those that list its own interface

pub own_class : (m : Module) (class : ℕ) → is_type_of m (place_of_class m class) class ≡ true
own_class m class = or_first (nat_eq (place_of_class m class) (place_of_class m class)) (option_map_or (lists_at m (place_of_class m class)) (slice_get m.classes class) false) (eq-eqb (place_of_class m class) (place_of_class m class) refl)

pub own_interface : (m : Module) (class k : ℕ) (source : Class) → slice_get m.classes class ≡ Some source → Contains (map signatures.place_of_interface source.interfaces) k → is_type_of m (place_of_interface m k) class ≡ true
own_interface m class k source at within =
    or_second (nat_eq (place_of_interface m k) (place_of_class m class)) (option_map_or (lists_at m (place_of_interface m k)) (slice_get m.classes class) false)
    (ap (λ (o : Option Class). option_map_or (lists_at m (place_of_interface m k)) o false) at ∙ listed_at m k source.interfaces within)

pub in_classes : (m : Module) (index class : ℕ) (source : Class) → slice_get m.classes class ≡ Some source → is_type_of m index class ≡ true → Contains (classes_at m index) class
in_classes m index class source at passes = in_filter (is_type_of m index) (range_with_len 0 (length m.classes)) class (index_within (length m.classes) class (slice_get_within m.classes class source at)) passes

pub from_classes : (m : Module) (index class : ℕ) → Contains (classes_at m index) class → is_type_of m index class ≡ true
from_classes m index class within = (from_filter (is_type_of m index) (range_with_len 0 (length m.classes)) class within).1

module _ {host : HostSignatures} {m : Module} (sound : IsSound host m) where
  -- an interface that is listed is there
  interface_there : (class : ℕ) (source : Class) (i : Implementation) → slice_get m.classes class ≡ Some source → Contains source.interfaces i → i.interface < length m.interfaces
  interface_there class source i at within =
      let is_class : IsSoundClass (signatures_of host m) class source = sound_from (signatures_of host m) 0 class class m.classes source (omega arith) sound.classes at in
      let (declared, there, each) = rec_of (IsImplementation (signatures_of host m) source.methods) source.interfaces is_class.interfaces i within in
      let (j, at_j, same) = mapped methods_of_interface (slice_get m.interfaces i.interface) declared (sym (slice_get-map methods_of_interface m.interfaces i.interface) ∙ there) in
      slice_get_within m.interfaces i.interface j at_j

  -- a class that lists the interface with this index
  record ListsAt (index class : ℕ) : Type 0 where
    source : Class
    at : slice_get m.classes class ≡ Some source
    listed : Implementation
    within : Contains source.interfaces listed
    same : index ≡ place_of_interface m listed.interface

  lists_from : (index class : ℕ) (o : Option Class) → slice_get m.classes class ≡ o → option_map_or (lists_at m index) o false ≡ true → ListsAt index class
  lists_from index class None at e = absurd (cc)
  lists_from index class (Some source) at e =
      let (i, within, same) = listed_from m index source.interfaces e in
      record { source = source; at = at; listed = i; within = within; same = same }

  -- the index of a class has no other class
  pub class_only : (class other : ℕ) → is_type_of m (place_of_class m class) other ≡ true → other ≡ class
  class_only class other e =
      elim (or_cases (nat_eq (place_of_class m class) (place_of_class m other)) (option_map_or (lists_at m (place_of_class m class)) (slice_get m.classes other) false) e) [
        | inl here ↦ one_class m other class (sym (eqb-true (place_of_class m class) (place_of_class m other) here))
        | inr lists ↦
            let l = lists_from (place_of_class m class) other (slice_get m.classes other) refl lists in
            let (i, at_i) = there_from m.interfaces (l.listed).interface (interface_there other l.source l.listed l.at l.within) in
            absurd (class_or_interface m (in_source_order sound) class (l.listed).interface i at_i l.same)
      ]

  -- and that of an interface none but those that list it
  pub interface_only : (k class : ℕ) → k < length m.interfaces → is_type_of m (place_of_interface m k) class ≡ true → Lists (signatures_of host m) class k
  interface_only k class inside e =
      let (own, at_own) = there_from m.interfaces k inside in
      elim (or_cases (nat_eq (place_of_interface m k) (place_of_class m class)) (option_map_or (lists_at m (place_of_interface m k)) (slice_get m.classes class) false) e) [
        | inl here ↦ absurd (class_or_interface m (in_source_order sound) class k own at_own (sym (eqb-true (place_of_interface m k) (place_of_class m class) here)))
        | inr lists ↦
            let l = lists_from (place_of_interface m k) class (slice_get m.classes class) refl lists in
            let (i, at_i) = there_from m.interfaces (l.listed).interface (interface_there class l.source l.listed l.at l.within) in
            let one : (l.listed).interface ≡ k = sym (one_interface m (in_source_order sound) k (l.listed).interface own i at_own at_i l.same) in
            lists_by host m class k l.source l.at (subst (Contains (map signatures.place_of_interface (l.source).interfaces)) one (in_map (l.source).interfaces l.listed l.within))
      ]
