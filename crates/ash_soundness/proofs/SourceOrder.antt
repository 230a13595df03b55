-- A sound module has its interfaces in the order of the source.
use Rattle.std.proofs.Common.{◌≡◌, ◌≤◌, ℕ, zero, suc, List, [], ◌∷◌, Some, slice_get, subst, arith}
use Rattle.std.proofs.lemmas.Option.{same_Some}
use Rattle.ash_typed.specs.Modules.{Interface, Module}
use Rattle.ash_typed.specs.Signatures.{HostSignatures}
use Rattle.ash_typed.specs.SoundModules.{AreInOrder, IsSound}

-- No interface has more classes before it than a later one, so that each class and each interface has a place of its
-- own in the source.
abbrev pub IsInSourceOrder : Module → Type 0
IsInSourceOrder m =
    (earlier later : ℕ) (i j : Interface)
    → earlier ≤ later
    → slice_get m.interfaces earlier ≡ Some i
    → slice_get m.interfaces later ≡ Some j
    → i.classes_before ≤ j.classes_before

-- each has at least as many classes before it as the first may have
at_least : (least : ℕ) (is : List Interface) → AreInOrder least is → (k : ℕ) (i : Interface) → slice_get is k ≡ Some i → least ≤ i.classes_before
at_least least [] h k i at = absurd (cc)
at_least least (x ∷ is) h zero i at = subst (λ (y : Interface). least ≤ y.classes_before) (same_Some x i at) h.0
at_least least (x ∷ is) h (suc k) i at =
    let first : least ≤ x.classes_before = h.0 in
    let later : x.classes_before ≤ i.classes_before = at_least x.classes_before is h.1 k i at in
    omega arith

rises : (least : ℕ) (is : List Interface) → AreInOrder least is → (earlier later : ℕ) (i j : Interface) → earlier ≤ later → slice_get is earlier ≡ Some i → slice_get is later ≡ Some j → i.classes_before ≤ j.classes_before
rises least [] h earlier later i j le here there = absurd (cc)
rises least (x ∷ is) h zero later i j le here there =
    subst (λ (y : Interface). y.classes_before ≤ j.classes_before) (same_Some x i here) (at_least x.classes_before (x ∷ is) (omega arith, h.1) later j there)
rises least (x ∷ is) h (suc earlier) zero i j le here there = absurd (omega arith)
rises least (x ∷ is) h (suc earlier) (suc later) i j le here there = rises x.classes_before is h.1 earlier later i j (omega arith) here there

pub in_source_order : {host : HostSignatures} {m : Module} → IsSound host m → IsInSourceOrder m
in_source_order {m = m} sound earlier later i j le here there = rises 0 m.interfaces sound.interfaces_in_order earlier later i j le here there
