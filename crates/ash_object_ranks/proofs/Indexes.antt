-- Each class and each interface has an index of its own.
use Rattle.std.proofs.Common.{◌≡◌, ◌<◌, ◌≤◌, ◌+◌, ℕ, Bool, true, false, cond, List, [], ◌∷◌, length, ap, nat_le, arith}
use Rattle.std.specs.Prelude.{Option, count_by}
use Rattle.std.specs.Option.{option_map_or}
use Rattle.std.proofs.lemmas.List.Sums.{sum_by-cons}
use Rattle.ash_typed.specs.Modules.{Interface, Module}
use Rattle.ash_typed.specs.Signatures.{HostSignatures, signatures_of}
use Rattle.ash_typed.specs.SoundModules.{IsSound, IsSoundInterface}
use Rattle.ash_meaning.specs.Classes.{place_of_interface}
use Rattle.ash_soundness.proofs.Parts.{there_from}
use Rattle.ash_soundness.proofs.Hosts.{rec_at}
use Rattle.ash_soundness.proofs.Places.{one_class, class_or_interface, one_interface}
use Rattle.ash_soundness.proofs.SourceOrder.{in_source_order}
use Rattle.ash_object_ranks.specs.IndexLaws.{ClassesDiffer, InterfacesDiffer, ClassesAreNoInterfaces, AreBelow}

pub classes_differ : (m : Module) → ClassesDiffer m
classes_differ m one other same = one_class m one other same

counted_within : (p : Interface → Bool) (is : List Interface) → count_by p is ≤ length is
counted_within p [] = omega arith
counted_within p (i ∷ is) =
    let more = sum_by-cons (λ (x : Interface). cond {A = ℕ} (p x) 1 0) i is in
    let one : cond {A = ℕ} (p i) 1 0 ≤ 1 = at_most_one (p i) in
    omega (arith, more, one, counted_within p is)
  where
    at_most_one : (b : Bool) → cond {A = ℕ} b 1 0 ≤ 1
    at_most_one true = omega arith
    at_most_one false = omega arith

module _ {host : HostSignatures} {m : Module} (sound : IsSound host m) where
  pub interfaces_differ : InterfacesDiffer m
  interfaces_differ one other within inside same =
      let (i, at) = there_from m.interfaces one within in
      let (j, there) = there_from m.interfaces other inside in
      one_interface m (in_source_order sound) one other i j at there same

  pub classes_are_no_interfaces : ClassesAreNoInterfaces m
  classes_are_no_interfaces class interface within same =
      let (i, at) = there_from m.interfaces interface within in
      class_or_interface m (in_source_order sound) class interface i at same

  pub are_below : AreBelow m
  are_below = record {
    classes = λ class within. let few = counted_within (λ (i : Interface). nat_le i.classes_before class) m.interfaces in omega (arith, few, within);
    interfaces = λ interface within. below interface within;
  }
    where
      below : (interface : ℕ) → interface < length m.interfaces → place_of_interface m interface < length m.classes + length m.interfaces
      below interface within =
          let (i, at) = there_from m.interfaces interface within in
          let is = rec_at (IsSoundInterface (signatures_of host m) (length m.classes)) m.interfaces interface i sound.interfaces at in
          let here : place_of_interface m interface ≡ interface + i.classes_before = ap (λ (o : Option Interface). interface + option_map_or (λ (x : Interface). x.classes_before) o 0) at in
          let before : i.classes_before ≤ length m.classes = is.before in
          omega (arith, here, before, within)
