-- What a file holds before, while and after a gate is written.
use Rattle.std.proofs.Common.{◌≡◌, inl, inr, ℕ, ◌+◌, ◌<◌, ◌≤◌, List, [], ◌∷◌, ◌++◌, length, take, drop, refl, sym, ◌∙◌, ap, subst}
use Rattle.std.proofs.Common.{arith, append_assoc, length-append, length-take, length-drop, Result, Ok, Err, OnOk, Bool, true, false}
use Rattle.ash_disk.specs.Device.{Device, IsDurable, HoldsThroughout}
use Rattle.ash_disk.specs.DiskImage.{after_write, Torn, TornFrom, LeavesOnly, torn_not}
use Rattle.ash_disk.specs.Moments.{HoldsDuring}
use Rattle.ash_disk.proofs.MomentLaws.{at_start, weaker}
use Rattle.ash_disk.proofs.TornLaws.{prefix_stays, byte_torn, written_after, torn_from_only}
use Rattle.ash_journal.specs.OtherState.{first_of, second_of}
use Rattle.ash_journal.specs.Writes.{IsSplit, WritesByte, WhileShut, WhileCommitted, IsUnused, AreUnused, repaired}
use Rattle.ash_journal.specs.Layout.{IsShut}

pub within : (prefix suffix : List ℕ) (at : ℕ) (file : List ℕ) → length prefix ≡ at → file ≡ prefix ++ suffix
    → at ≤ length file
within prefix suffix at file long is = omega (arith, ap length is, length-append prefix suffix)

pub within_next : (prefix suffix : List ℕ) (at : ℕ) (file : List ℕ) → length prefix ≡ at → file ≡ prefix ++ 0 ∷ suffix
    → at + 1 ≤ length file
within_next prefix suffix at file long is = omega (arith, ap length is, length-append prefix (0 ∷ suffix))

-- A write that begins within a file ends within it afterwards.
pub write_reaches : (file new bytes : List ℕ) (at : ℕ) → at ≤ length file → new ≡ after_write file at bytes
    → at + length bytes ≤ length new
write_reaches file new bytes at fits is =
    omega (
      arith,
      fits,
      ap length is,
      length-append (take at file ++ bytes) (drop (at + length bytes) file),
      length-append (take at file) bytes,
      length-take at file,
    )

-- A file has a first byte once its first gate was written over, or if it had one before.
pub after_repair : (stray : Bool) (old new : ℕ) → (stray ≡ true → 0 < new) → old ≤ new → (stray ≡ false → 0 < old)
    → 0 < new
after_repair true old new there longer before = there refl
after_repair false old new there longer before = omega (arith, longer, before refl)

-- 0 is over the gate
pub shut_written : (prefix suffix : List ℕ) (at : ℕ) → length prefix ≡ at
    → after_write (prefix ++ suffix) at (0 ∷ []) ≡ prefix ++ 0 ∷ drop 1 suffix
shut_written prefix suffix at long =
    written_after prefix suffix (0 ∷ []) at (sym long) ∙ append_assoc prefix (0 ∷ []) (drop 1 suffix)

one_or_none : (prefix rest new : List ℕ) → length rest ≤ 1 → new ≡ prefix ++ rest → WhileShut prefix [] new
one_or_none prefix [] new short is = inl is
one_or_none prefix (b ∷ []) new short is = inr (b, is)
one_or_none prefix (b ∷ c ∷ rest) new short is = absurd (omega arith)

-- any byte may be in its place
pub shut_torn : (prefix suffix : List ℕ) (at : ℕ) → length prefix ≡ at → (new : List ℕ)
    → Torn at 1 (prefix ++ suffix) new → WhileShut prefix suffix new
shut_torn prefix [] at long new torn =
    let stays : new ≡ prefix ++ drop (length prefix) new = prefix_stays prefix [] at 1 new (omega arith) torn in
    one_or_none prefix (drop (length prefix) new) new
    (omega (arith, torn.no_longer, length-append prefix [], length-drop (length prefix) new)) stays
shut_torn prefix (b ∷ rest) at long new torn = inr (byte_torn prefix b rest at new (sym long) torn)

-- The bytes are after a gate that stays 0.
pub bytes_written : (prefix bytes suffix : List ℕ) (gate at : ℕ) → length prefix ≡ gate → at ≡ gate + 1
    → after_write (prefix ++ 0 ∷ suffix) at bytes ≡ prefix ++ 0 ∷ (bytes ++ drop (length bytes) suffix)
bytes_written prefix bytes suffix gate at long at_is =
    ap (λ (l : List ℕ). after_write l at bytes) (sym (append_assoc prefix (0 ∷ []) suffix))
    ∙ written_after (prefix ++ 0 ∷ []) suffix bytes at (omega (arith, long, at_is, length-append prefix (0 ∷ [])))
    ∙ append_assoc (prefix ++ 0 ∷ []) bytes (drop (length bytes) suffix)
    ∙ append_assoc prefix (0 ∷ []) (bytes ++ drop (length bytes) suffix)

pub bytes_torn : (prefix bytes suffix : List ℕ) (gate at : ℕ) → length prefix ≡ gate → at ≡ gate + 1 → (new : List ℕ)
    → Torn at (length bytes) (prefix ++ 0 ∷ suffix) new → WhileCommitted prefix bytes suffix new
bytes_torn prefix bytes suffix gate at long at_is new torn =
    let stays = prefix_stays (prefix ++ 0 ∷ []) suffix at (length bytes) new
    (omega (arith, long, at_is, length-append prefix (0 ∷ [])))
    (subst (λ (l : List ℕ). Torn at (length bytes) l new) (sym (append_assoc prefix (0 ∷ []) suffix)) torn) in
    inl (
      drop (length (prefix ++ 0 ∷ [])) new,
      stays
          ∙ append_assoc prefix (0 ∷ []) (drop (length (prefix ++ 0 ∷ [])) new),
    )

-- and then any byte may be in the gate's place, before them
pub gate_torn : (prefix bytes suffix : List ℕ) (gate : ℕ) → length prefix ≡ gate → (new : List ℕ)
    → Torn gate 1 (prefix ++ 0 ∷ (bytes ++ drop (length bytes) suffix)) new → WhileCommitted prefix bytes suffix new
gate_torn prefix bytes suffix gate long new torn =
    inr (byte_torn prefix 0 (bytes ++ drop (length bytes) suffix) gate new (sym long) torn)

-- a write to a file that is all on the device
pub while_written : (start end : ℕ) (before after : ℕ → List ℕ → Type 0) (file split : List ℕ) (at n : ℕ)
    (P : List ℕ → Type 0) → LeavesOnly file (before start) → file ≡ split → ((new : List ℕ) → Torn at n split new → P new)
    → HoldsDuring start end before after (TornFrom at n (before start)) → HoldsDuring start end before after P
while_written start end before after file split at n P only is so call =
    weaker start end before after (TornFrom at n (before start)) P
    (λ image from.
    so image (subst
    (λ (l : List ℕ). Torn at n l image) is (torn_from_only file (before start) at n image only from))) call

-- what two clauses of a call that succeeded give together
pub on_ok_both : {T E P Q S : Type 0} (r : Result T E) → (P → Q → S) → OnOk r P → OnOk r Q → OnOk r S
on_ok_both (Ok x) so p q = so p q
on_ok_both (Err e) so p q = tt

-- a gate that is shut where it was not stray is shut in any case
pub repaired_shut : (stray : Bool) (file : List ℕ) → (stray ≡ false → IsShut file)
    → repaired stray file ≡ 0 ∷ drop 1 file
repaired_shut true file shut = refl
repaired_shut false [] shut = absurd (shut refl)
repaired_shut false (gate ∷ rest) shut = ap (λ (g : ℕ). g ∷ rest) (shut refl)

-- A write over the first byte of a file that is not shut leaves at most one byte, where there was no more.
pub torn_idle : (images : List ℕ → Type 0) (seen : List ℕ) → images seen → (IsShut seen → ⊥) → AreUnused images
    → (image : List ℕ) → TornFrom 0 1 images image → IsUnused image
torn_idle images seen left not_shut (inl tiny) image (old, old_left, torn) = let was : length old ≤ 1 =
    tiny old old_left in inl (omega (arith, was, torn.no_longer))
torn_idle images seen left not_shut (inr shut) image torn = absurd (not_shut (shut seen left))

-- ---- the bytes that are written

-- of a file that is all on the device, where nothing is written
pub none_written : {D : Type 0} (device : Device D) (at : ℕ) (disk : D) → IsDurable device disk
    → WritesByte device at disk disk
none_written device at disk durable = record {
  seen = torn_not at 1 (device.seen disk);
  moments = at_start (device.clock disk) (device.leaves disk) (Torn at 1 (device.seen disk)) (λ image left.
      subst (λ (l : List ℕ). Torn at 1 (device.seen disk) l) (sym (durable image left))
      (torn_not at 1 (device.seen disk)));
}

-- the same of a disk whose file is in two parts
pub unwritten : {D : Type 0} (device : Device D) (at : ℕ) (disk : D) (prefix suffix : List ℕ)
    → IsSplit device disk at prefix suffix → WritesByte device at disk disk
unwritten device at disk prefix suffix split = none_written device at disk split.durable

-- where one byte is
pub one_written : {D : Type 0} (device : Device D) (at : ℕ) (old new : D) → IsDurable device old
    → Torn at 1 (device.seen old) (device.seen new)
    → HoldsThroughout device old new (TornFrom at 1 (device.leaves old (device.clock old))) → WritesByte device at old new
one_written device at old new durable seen moments = record {
  seen = seen;
  moments = weaker (device.clock old) (device.clock new) (device.leaves old) (device.leaves new)
      (TornFrom at 1 (device.leaves old (device.clock old))) (Torn at 1 (device.seen old))
      (λ image from. torn_from_only (device.seen old) (device.leaves old (device.clock old)) at 1 image durable from)
      moments;
}

-- of the current disk and the other, by which was handed over first
pub both_written : {D : Type 0} (device : Device D) (swapped : Bool) (end : ℕ) (current current' other other' : D)
    → WritesByte device end current current' → WritesByte device 0 other other'
    → WritesByte device (first_of swapped end 0) (first_of swapped current other) (first_of swapped current' other')
    × WritesByte device (second_of swapped end 0) (second_of swapped current other) (second_of swapped current' other')
both_written device false end current current' other other' one two = (one, two)
both_written device true end current current' other other' one two = (two, one)
