-- What two files that were opened hold.
use Rattle.std.proofs.Common.{◌≡◌, inl, inr, ℕ, ◌-◌, Bool, true, false, not, nat_eq, IsTrue, List, length, Result}
use Rattle.std.proofs.Common.{MatchResult, sym, ◌∙◌, subst, arith}
use Rattle.std.proofs.lemmas.Bool.{cases_eq, eq-eqb, ne_eqb}
use Rattle.std.proofs.lemmas.Result.{MatchResult-weaker}
use Rattle.ash_disk.specs.Device.{Device, IsDurable}
use Rattle.ash_journal.specs.declared.other_state.OtherState.{OtherState}
use Rattle.ash_journal.specs.declared.other_state.OtherState.TheVariants.{Shut, Older, Stray}
use Rattle.ash_journal.specs.declared.error.OpenFault.{OpenFault}
use Rattle.ash_journal.specs.declared.error.OpenFault.TheVariants.{DeviceFailed, NoGeneration, Damaged, NoMemory}
use Rattle.ash_journal.specs.declared.two_files.Choice.{Choice}
use Rattle.ash_journal.specs.declared.one_file.CurrentFile.{CurrentFile}
use Rattle.ash_journal.specs.declared.record.Record.{Record}
use Rattle.ash_journal.specs.OtherState.{first_of, second_of, OtherIs}
use Rattle.ash_journal.specs.Current.{IsOlder, Represent}
use Rattle.ash_journal.specs.Journal.{EndIs, FilesAre}
use Rattle.ash_journal.specs.Layout.{HasMark}
use Rattle.ash_journal.specs.Opening.{ChoiceIs, ContentsAre, FaultIs}
use Rattle.ash_journal.specs.Reading.{IsFileRead, IsFileFault, bodies_of}
use Rattle.ash_journal.proofs.LayoutLaws.{length-committed_bytes}
use Rattle.ash_journal.proofs.InstallLaws.{aside_closed_or_older}
use Rattle.ash_journal.proofs.SettleLaws.{represent_turned}
use Rattle.ash_journal.proofs.FilesLaws.{found_represented}

pub other_closed_or_older : (other_state : OtherState) (g : ℕ) (file : List ℕ) → OtherIs other_state g file
    → IsOlder g file
other_closed_or_older Shut g file is = aside_closed_or_older g file (inl is)
other_closed_or_older Older g file is = inr is
other_closed_or_older Stray g file is = inl is.0

cut_first : (g : ℕ) (fault : OpenFault) (x y : List ℕ) → HasMark g x → IsOlder g y → IsFileFault fault x
    → FaultIs fault x y
cut_first g DeviceFailed x y marked older cut = tt
cut_first g NoMemory x y marked older cut = inl (g, marked, older)
cut_first g NoGeneration x y marked older cut = absurd cut
cut_first g (Damaged at) x y marked older cut = inr (inl (g, marked, older, cut))

cut_second : (g : ℕ) (fault : OpenFault) (x y : List ℕ) → HasMark g y → IsOlder g x → IsFileFault fault y
    → FaultIs fault x y
cut_second g DeviceFailed x y marked older cut = tt
cut_second g NoMemory x y marked older cut = inr (g, marked, older)
cut_second g NoGeneration x y marked older cut = absurd cut
cut_second g (Damaged at) x y marked older cut = inr (inr (g, marked, older, cut))

-- the first of two files was read as the current one
pub chosen_first : (choice : Choice) (r : Result CurrentFile OpenFault) (x y : List ℕ) → choice.swapped ≡ false
    → ChoiceIs choice x y
    → (HasMark choice.generation x
    → MatchResult r
    (λ current_file.
    IsFileRead choice.generation current_file.image.items current_file.tail.records.items current_file.tail.end
    current_file.tail.gate x)
    (λ fault. IsFileFault fault x)) → MatchResult r
    (λ current_file. ContentsAre choice current_file x y) (λ fault. FaultIs fault x y)
chosen_first choice r x y swapped is read =
    let marked = subst (λ (s : Bool). HasMark choice.generation (first_of s x y)) swapped is.0 in
    let other = subst (λ (s : Bool). OtherIs choice.other_state choice.generation (second_of s x y)) swapped is.1 in
    MatchResult-weaker r (read marked)
    (λ current_file whole. (
      subst (λ (s : Bool).
          IsFileRead choice.generation current_file.image.items current_file.tail.records.items current_file.tail.end
          current_file.tail.gate (first_of s x y)) (sym swapped) whole,
      is.1,
    ))
    (λ fault cut.
    cut_first choice.generation fault x y marked
    (other_closed_or_older choice.other_state choice.generation y other) cut)

-- or the second
pub chosen_second : (choice : Choice) (r : Result CurrentFile OpenFault) (x y : List ℕ) → choice.swapped ≡ true
    → ChoiceIs choice x y
    → (HasMark choice.generation y
    → MatchResult r
    (λ current_file.
    IsFileRead choice.generation current_file.image.items current_file.tail.records.items current_file.tail.end
    current_file.tail.gate y)
    (λ fault. IsFileFault fault y)) → MatchResult r
    (λ current_file. ContentsAre choice current_file x y) (λ fault. FaultIs fault x y)
chosen_second choice r x y swapped is read =
    let marked = subst (λ (s : Bool). HasMark choice.generation (first_of s x y)) swapped is.0 in
    let other = subst (λ (s : Bool). OtherIs choice.other_state choice.generation (second_of s x y)) swapped is.1 in
    MatchResult-weaker r (read marked)
    (λ current_file whole. (
      subst (λ (s : Bool).
          IsFileRead choice.generation current_file.image.items current_file.tail.records.items current_file.tail.end
          current_file.tail.gate (first_of s x y)) (sym swapped) whole,
      is.1,
    ))
    (λ fault cut.
    cut_second choice.generation fault x y marked
    (other_closed_or_older choice.other_state choice.generation x other) cut)

stray_is : (gate : ℕ) → EndIs (not (nat_eq gate 0)) gate
stray_is gate = elim (cases_eq gate 0) [
  | inl shut ↦ subst (λ (s : Bool). EndIs (not s) gate) (sym (eq-eqb gate 0 shut)) shut
  | inr other ↦ subst (λ (s : Bool). EndIs (not s) gate) (sym (ne_eqb gate 0 other)) other
]

module _ {D : Type 0} (device : Device D) where
  files_read : (c o : D) (x y : List ℕ) (other_state : OtherState) (g end gate size : ℕ) (image : List ℕ)
      (found : List Record) → IsTrue (device.honest c) → IsTrue (device.honest o) → device.seen c ≡ x
      → device.seen o ≡ y → IsDurable device c → IsDurable device o → IsFileRead g image found end gate x
      → OtherIs other_state g y → size ≡ end - 21 - length image
      → FilesAre device g end size (not (nat_eq gate 0)) other_state c o image (bodies_of found)
  files_read c o x y other_state g end gate size image found honest_c honest_o seen_c seen_o only_c only_o read other
      size_is = record {
        current_honest = honest_c;
        other_honest = honest_o;
        gate = gate;
        after = read.0.after;
        shut = read.1;
        bytes = seen_c ∙ read.0.bytes;
        fits = read.0.fits;
        end_is = read.0.end_is;
        size_is = omega (arith, size_is, read.0.end_is, length-committed_bytes g image (bodies_of found));
        gate_is = stray_is gate;
        other_is = subst (λ (l : List ℕ). OtherIs other_state g l) (sym seen_o) other;
        current_durable = only_c;
        other_durable = only_o;
      }

  pub open_files : (swapped : Bool) (a b : D) (x y : List ℕ) (other_state : OtherState) (g end gate size : ℕ)
      (image : List ℕ) (found : List Record) → IsTrue (device.honest a) → IsTrue (device.honest b) → device.seen a ≡ x
      → device.seen b ≡ y → IsDurable device a → IsDurable device b
      → IsFileRead g image found end gate (first_of swapped x y) → OtherIs other_state g (second_of swapped x y)
      → size ≡ end - 21 - length image
      → FilesAre device g end size (not (nat_eq gate 0)) other_state (first_of swapped a b) (second_of swapped a b)
      image (bodies_of found)
  open_files false a b x y other_state g end gate size image found honest_a honest_b seen_a seen_b only_a only_b read
      other size_is =
      files_read a b x y other_state g end gate size image found honest_a honest_b seen_a seen_b only_a only_b read
      other size_is
  open_files true a b x y other_state g end gate size image found honest_a honest_b seen_a seen_b only_a only_b read
      other size_is =
      files_read b a y x other_state g end gate size image found honest_b honest_a seen_b seen_a only_b only_a read
      other size_is

-- two disks that were placed by which is current are the first and the second
pub placed : {D : Type 0} (swapped : Bool) (first second current other : D) → current ≡ first_of swapped first second
    → other ≡ second_of swapped first second
    → (first_of swapped current other ≡ first) × (second_of swapped current other ≡ second)
placed false first second current other current_is other_is = (current_is, other_is)
placed true first second current other current_is other_is = (other_is, current_is)

-- the files as they were read represent what was found
pub open_represented : {D : Type 0} (device : Device D) (swapped : Bool) (a b : D) (x y : List ℕ)
    (other_state : OtherState) (g end gate size : ℕ) (image : List ℕ) (bodies : List (List ℕ)) (stray : Bool)
    → device.seen a ≡ x → device.seen b ≡ y
    → FilesAre device g end size stray other_state (first_of swapped a b) (second_of swapped a b) image bodies
    → Represent (image, bodies) x y
open_represented device false a b x y other_state g end gate size image bodies stray seen_a seen_b files =
    subst (λ (l : List ℕ). Represent (image, bodies) l y) seen_a
    (subst (λ (l : List ℕ). Represent (image, bodies) (device.seen a) l) seen_b
    (found_represented device g end size stray other_state a b image bodies files
    (other_closed_or_older other_state g (device.seen b) files.other_is)))
open_represented device true a b x y other_state g end gate size image bodies stray seen_a seen_b files =
    subst (λ (l : List ℕ). Represent (image, bodies) l y) seen_a
    (subst (λ (l : List ℕ). Represent (image, bodies) (device.seen a) l) seen_b
    (represent_turned (image, bodies) (device.seen b) (device.seen a)
    (found_represented device g end size stray other_state b a image bodies files
    (other_closed_or_older other_state g (device.seen a) files.other_is))))
