-- What is read of one file.
use Rattle.std.proofs.Common.{◌≡◌, ◌≢◌, ◌⊎◌, inl, inr, ℕ, ◌<◌, ◌≤◌, ◌^◌, Bool, true, false, List, [], ◌∷◌, ◌++◌, length, take, drop}
use Rattle.std.proofs.Common.{get_or, refl, sym, ◌∙◌, ap, arith, length-append, take-append-drop}
use Rattle.std.proofs.lemmas.List.{length-take-le, take_at, take-append-le, take-take}
use Rattle.ash_disk.specs.Device.{Device}
use Rattle.ash_journal.specs.OtherState.{first_of, second_of}
use Rattle.ash_journal.specs.declared.error.OpenFault.TheVariants.{Damaged}
use Rattle.ash_journal.specs.Layout.{mark, committed_bytes, IsFile, IsClosed, HasMark, LacksMark, IsDamagedAt}
use Rattle.ash_journal.specs.Opening.{FaultIs}
use Rattle.ash_journal.specs.Journal.{HoldsBeforeRepair, first_disk, second_disk}
use Rattle.ash_journal.specs.declared.journal.Journal.{Journal}
use Rattle.ash_journal.proofs.LayoutLaws.{solid_mark, solid_split, length-mark, mark_open}
use Rattle.ash_inspect.specs.Files.{IsMarkedBehind, BeginsWith}

-- ---- a mark

-- the bytes after the first are those of a mark, and others may follow
pub marked : (g : ℕ) (file : List ℕ) → 17 ≤ length file → take 16 (drop 1 file) ≡ mark g → IsMarkedBehind g file
marked g [] long is = absurd (omega arith)
marked g (gate ∷ rest) long is =
    (gate, drop 16 rest, ap (λ (l : List ℕ). gate ∷ l) (sym (take-append-drop 16 rest) ∙ ap (λ (l : List ℕ). l ++ drop 16 rest) is))

pub mark_taken : (g : ℕ) (file : List ℕ) → IsMarkedBehind g file → take 16 (drop 1 file) ≡ mark g
mark_taken g file is =
    ap (λ (l : List ℕ). take 16 (drop 1 l)) is.2 ∙ take_at (mark g) is.1 16 (length-mark g)

pub mark_long : (g : ℕ) (file : List ℕ) → IsMarkedBehind g file → 17 ≤ length file
mark_long g file is = omega (arith, ap length is.2, length-append (mark g) is.1, length-mark g)

pub mark_of_open : (g : ℕ) (file : List ℕ) → g < 2 ^ 64 → get_or file 0 0 ≡ 1 → IsMarkedBehind g file → HasMark g file
mark_of_open g file fits gate is = record {
  rest = is.1;
  bytes = is.2 ∙ ap (λ (b : ℕ). b ∷ (mark g ++ is.1)) (sym (ap (λ (l : List ℕ). get_or l 0 0) is.2) ∙ gate);
  numbered = fits;
}

pub unmarked : (file : List ℕ) → 2 ≤ length file → get_or file 0 0 ≡ 1
    → ((g : ℕ) → g < 2 ^ 64 → IsMarkedBehind g file → ⊥) → LacksMark file
unmarked [] long gate none = absurd (omega arith)
unmarked (x ∷ []) long gate none = absurd (omega arith)
unmarked (x ∷ y ∷ rest) long gate none = (gate, λ g has. none g has.numbered (1, has.rest, has.bytes))

pub closed_short : (file : List ℕ) → length file < 2 → IsClosed file
closed_short [] short = tt
closed_short (x ∷ []) short = tt
closed_short (x ∷ y ∷ rest) short = absurd (omega arith)

pub closed_gate : (file : List ℕ) → get_or file 0 0 ≢ 1 → IsClosed file
closed_gate [] gate = tt
closed_gate (x ∷ []) gate = tt
closed_gate (x ∷ y ∷ rest) gate = gate

-- ---- an empty file beside it

is_not_empty : (x : ℕ) (xs : List ℕ) → [] ≡ x ∷ xs → ⊥
is_not_empty x xs is = absurd (omega (arith, ap length is))

no_mark : (g : ℕ) → HasMark g [] → ⊥
no_mark g has = mark_open g [] has

-- the file that is read is the current one
pub read_file : {D : Type 0} (device : Device D) (j : Journal D) (file image : List ℕ) (bodies : List (List ℕ))
    → device.seen (first_disk j) ≡ file → device.seen (second_disk j) ≡ [] → HoldsBeforeRepair device j image bodies
    → IsFile j.generation image bodies file
read_file device j file image bodies first second holds = record {
  gate = holds.gate;
  after = holds.after;
  shut = holds.shut;
  bytes = sym (seen_current j.swapped first second) ∙ holds.bytes;
  fits = holds.fits;
}
  where
    seen_current : (swapped : Bool) → device.seen (first_of swapped j.current j.other) ≡ file
        → device.seen (second_of swapped j.current j.other) ≡ [] → device.seen j.current ≡ file
    seen_current false first second = first
    seen_current true first second =
        absurd (is_not_empty _ _ (sym second ∙ holds.bytes ∙ solid_split j.generation image bodies (holds.gate ∷ holds.after)))

-- the damage is that of the file
pub damage_alone : (at : ℕ) (file : List ℕ) → FaultIs (Damaged at) file [] → (LacksMark file × (at ≡ 0)) ⊎ IsDamagedAt at file
damage_alone at file (inl (inl lacks, zero_at)) = inl (lacks, zero_at)
damage_alone at file (inl (inr (inl lacks), zero_at)) = absurd lacks.0
damage_alone at file (inl (inr (inr both), zero_at)) = absurd (no_mark both.0 both.2)
damage_alone at file (inr (inl cut)) = inr cut.3
damage_alone at file (inr (inr cut)) = absurd (no_mark cut.0 cut.1)

-- ---- a file that is cut short

pub whole_begins : (g : ℕ) (image : List ℕ) (bodies : List (List ℕ)) (file : List ℕ) → IsFile g image bodies file
    → BeginsWith g image bodies file
whole_begins g image bodies file is = record { fits = is.fits; rest = is.gate ∷ is.after; bytes = is.bytes }

-- what is read of the bytes before an offset, with a shut gate after them, is what the file begins with
pub front_begins : (at g : ℕ) (image : List ℕ) (bodies : List (List ℕ)) (file : List ℕ)
    → at ≤ length file → IsFile g image bodies (take at file ++ 0 ∷ []) → BeginsWith g image bodies file
front_begins at g image bodies file within is =
    let solid = committed_bytes g image bodies in
    let n = length solid in
    let front = take at file in
    let short : n ≤ length front =
    omega (arith, ap length is.bytes, length-append front (0 ∷ []), length-append solid (is.gate ∷ is.after)) in
    let parts : solid ≡ take n file =
    sym (take_at solid (is.gate ∷ is.after) n refl) ∙ ap (λ (l : List ℕ). take n l) (sym is.bytes)
    ∙ take-append-le n front (0 ∷ []) short ∙ take-take n at file (omega (arith, short, length-take-le at file within)) in
    record {
      fits = is.fits;
      rest = drop n file;
      bytes = sym (take-append-drop n file) ∙ ap (λ (l : List ℕ). l ++ drop n file) (sym parts);
    }

-- what begins as a generation has its mark
pub begins_marked : (g : ℕ) (image : List ℕ) (bodies : List (List ℕ)) (file : List ℕ) → BeginsWith g image bodies file
    → HasMark g file
begins_marked g image bodies file is = solid_mark g image bodies is.rest file is.fits.numbered is.bytes
