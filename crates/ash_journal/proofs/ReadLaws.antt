-- What bytes that were read say of a file.
use Rattle.std.proofs.Common.{◌≡◌, ◌⊎◌, inl, inr, ℕ, ◌+◌, ◌-◌, ◌<◌, ◌≤◌, ◌^◌, Bool, true, false, not, IsTrue, List, [], ◌∷◌}
use Rattle.std.proofs.Common.{◌++◌, length, take, drop, get_or, refl, sym, ◌∙◌, ap, subst, arith, append_assoc}
use Rattle.std.proofs.Common.{length-append, length-drop, take-append-drop}
use Rattle.std.proofs.lemmas.Bool.{false≢true, not-false, cases_lt}
use Rattle.std.proofs.lemmas.List.{take_at, drop_at, take_all, get_or-drop, drop-drop, map_push}
use Rattle.std.proofs.lemmas.Slice.Eq.{bytes_eq-Decides}
use Rattle.std.specs.Str.{bytes_eq}
use Rattle.byteorder.specs.Endian.{little_number}
use Rattle.ash_journal.specs.Layout.{prefix_size, magic, eight_bytes, four_bytes, mark, block, records, committed_bytes, FieldsFit, IsOpen}
use Rattle.ash_journal.specs.Layout.{length_limit, IsShut, IsDamaged, IsDamagedAt, HasMark, LacksMark}
use Rattle.ash_disk.specs.DiskImage.{bytes_at}
use Rattle.ash_disk.specs.Device.{Device, IsOnlyRead, HoldsThroughout}
use Rattle.ash_journal.specs.Writes.{IsUnused, AreUnused, WasUnused, WhileStarted, WhileCreated}
use Rattle.ash_disk.proofs.MomentLaws.{at_end, goes_on, weaker}
use Rattle.ash_journal.specs.declared.record.Record.{Record}
use Rattle.ash_journal.specs.Reading.{IsFileBlock, IsReadTo, AreAt, bodies_of}
use Rattle.ash_journal.proofs.LayoutLaws.{AreBytes, eight_round_trip, length-mark, length-block, length-committed_bytes}
use Rattle.ash_journal.proofs.LayoutLaws.{records-nil, records-cons, committed_bytes-push, solid_no_records}
use Rattle.ash_journal.proofs.InstallLaws.{fits_push, grown}

-- ---- tests of bytes

pub differ : (xs ys : List ℕ) (r : Bool) → r ≡ not (bytes_eq xs ys) → r ≡ true → xs ≡ ys → ⊥
differ xs ys r is differs same =
    let equal : bytes_eq xs ys ≡ true = (bytes_eq-Decides xs ys).1 same in
    false≢true (sym (ap not equal) ∙ sym is ∙ differs)

pub same_bytes : (xs ys : List ℕ) (r : Bool) → r ≡ not (bytes_eq xs ys) → r ≡ false → xs ≡ ys
same_bytes xs ys r is equal = (bytes_eq-Decides xs ys).0 (not-false (bytes_eq xs ys) (sym is ∙ equal))

-- ---- a mark

pub magic_is : magic ≡ 65 ∷ 83 ∷ 72 ∷ 79 ∷ 83 ∷ 84 ∷ 48 ∷ 49 ∷ []
unfolding magic
magic_is = refl

pub mark_magic : (g : ℕ) → take 8 (mark g) ≡ magic
unfolding mark magic
mark_magic g = take_at magic (eight_bytes g) 8 refl

are_bytes-drop : (n : ℕ) (bytes : List ℕ) → AreBytes bytes → AreBytes (drop n bytes)
are_bytes-drop n bytes fits i = subst (λ (b : ℕ). b < 256) (sym (get_or-drop n bytes i 0)) (fits (n + i))

pub mark_read : (bytes : List ℕ) (n : ℕ) → length bytes ≡ 16 → AreBytes bytes → take 8 bytes ≡ magic
    → n ≡ little_number 8 (drop 8 bytes) → bytes ≡ mark n
unfolding mark
mark_read bytes n long fits is_magic is_number =
    sym (take-append-drop 8 bytes) ∙ ap (λ (l : List ℕ). l ++ drop 8 bytes) is_magic
    ∙ ap (λ (l : List ℕ). magic ++ l)
    (sym (eight_round_trip (drop 8 bytes) (omega (arith, long, length-drop 8 bytes)) (are_bytes-drop 8 bytes fits))
    ∙ ap eight_bytes (sym is_number))

-- ---- the first bytes of a file

pub marked_prefix : (file prefix : List ℕ) (g : ℕ) → prefix ≡ take prefix_size file → get_or prefix 0 0 ≡ 1 → 2 ≤ length prefix
    → take (length prefix - 1) (drop 1 prefix) ≡ mark g → g < 2 ^ 64 → HasMark g file
marked_prefix file [] g is gate long marked fits = absurd (omega arith)
marked_prefix file (first ∷ rest) g is gate long marked fits = record {
  rest = drop prefix_size file;
  bytes = sym (take-append-drop prefix_size file)
      ∙ ap (λ (l : List ℕ). l ++ drop prefix_size file)
      (sym is ∙ ap (λ (b : ℕ). b ∷ rest) gate
      ∙ ap (λ (l : List ℕ). 1 ∷ l) (sym (take_all (length (first ∷ rest) - 1) rest (omega arith)) ∙ marked));
  numbered = fits;
}

open_prefix : (file prefix : List ℕ) → prefix ≡ take prefix_size file → get_or prefix 0 0 ≡ 1 → 2 ≤ length prefix → IsOpen file
open_prefix [] prefix is gate long = absurd (omega (arith, ap length is, long))
open_prefix (x ∷ []) prefix is gate long = absurd (omega (arith, ap length is, long))
open_prefix (x ∷ y ∷ rest) prefix is gate long = sym (ap (λ (l : List ℕ). get_or l 0 0) is) ∙ gate

pub unmarked_prefix : (file prefix : List ℕ) → prefix ≡ take prefix_size file → get_or prefix 0 0 ≡ 1 → 2 ≤ length prefix
    → ((g : ℕ) → g < 2 ^ 64 → take (length prefix - 1) (drop 1 prefix) ≡ mark g → ⊥) → LacksMark file
unmarked_prefix file prefix is gate long none =
    (open_prefix file prefix is gate long, λ g marked. none g marked.numbered (prefix_is g marked))
  where
    prefix_is : (g : ℕ) → HasMark g file → take (length prefix - 1) (drop 1 prefix) ≡ mark g
    prefix_is g marked =
        let whole : prefix ≡ 1 ∷ mark g =
        is ∙ ap (λ (l : List ℕ). take prefix_size l) marked.bytes
        ∙ ap (λ (l : List ℕ). 1 ∷ l) (take_at (mark g) marked.rest 16 (length-mark g)) in
        ap (λ (l : List ℕ). take (length l - 1) (drop 1 l)) whole
        ∙ take_all (length (1 ∷ mark g) - 1) (mark g) (omega (arith, length-mark g))

-- ---- a block

size_prefix : (seen : List ℕ) (at n : ℕ) → four_bytes n ≡ bytes_at seen at 4
    → drop at seen ≡ four_bytes n ++ drop 4 (drop at seen)
size_prefix seen at n is =
    sym (take-append-drop 4 (drop at seen)) ∙ ap (λ (l : List ℕ). l ++ drop 4 (drop at seen)) (sym is)

pub damaged_block : (seen : List ℕ) (at n : ℕ) → n < 2 ^ 32 → four_bytes n ≡ bytes_at seen at 4
    → (length_limit ≤ n) ⊎ (length seen - at - 4 ≤ n) → IsDamaged (drop at seen)
damaged_block seen at n fits is (inl long) =
    inr (n, drop 4 (drop at seen), fits, size_prefix seen at n is, inl long)
damaged_block seen at n fits is (inr short) =
    inr (
      n,
      drop 4 (drop at seen),
      fits,
      size_prefix seen at n is,
      inr (omega (arith, short, length-drop 4 (drop at seen), length-drop at seen)),
    )

pub whole_block : (seen : List ℕ) (at n : ℕ) (bytes body : List ℕ) (gate : ℕ) → n < length_limit
    → four_bytes n ≡ bytes_at seen at 4 → bytes ≡ bytes_at seen (at + 4) (n + 1) → length bytes ≡ n + 1
    → bytes ≡ body ++ gate ∷ [] → IsFileBlock body gate (drop at seen)
unfolding block
whole_block seen at n bytes body gate fits is read long parts =
    let body_long : length body ≡ n = omega (arith, long, ap length parts, length-append body (gate ∷ [])) in
    let more = drop (n + 1) (drop (at + 4) seen) in
    let suffix : drop 4 (drop at seen) ≡ body ++ gate ∷ more =
    drop-drop 4 at seen ∙ sym (take-append-drop (n + 1) (drop (at + 4) seen))
    ∙ ap (λ (l : List ℕ). l ++ more) (sym read ∙ parts) ∙ append_assoc body (gate ∷ []) more in (
      omega (arith, body_long, fits),
      more,
      size_prefix seen at n is ∙ ap (λ (m : ℕ). four_bytes m ++ drop 4 (drop at seen)) (sym body_long)
          ∙ ap (λ (l : List ℕ). four_bytes (length body) ++ l) suffix
          ∙ sym (append_assoc (four_bytes (length body)) body (gate ∷ more)),
    )

-- ---- records

-- how far a run of records reaches from an offset on
placed_push : (at : ℕ) (found : List Record) (r : Record) → AreAt at found
    → r.gate ≡ at + length (records (bodies_of found)) → AreAt at (found ++ r ∷ [])
placed_push at [] r placed gate = (omega (arith, gate, ap length records-nil), tt)
placed_push at (first ∷ found) r placed gate = (
  placed.0,
  placed_push (at + 5 + length first.body.items) found r placed.1
      (omega (
        arith,
        gate,
        ap length (records-cons first.body.items (bodies_of found)),
        length-append (block first.body.items) (records (bodies_of found)),
        length-block first.body.items,
      )),
)

pub read_start : (g : ℕ) (image rest file : List ℕ) (found : List Record) (at gate : ℕ) → found ≡ []
    → FieldsFit g image []
    → file ≡ committed_bytes g image [] ++ gate ∷ rest → at ≡ length (committed_bytes g image []) → IsReadTo g image found at gate file
read_start g image rest file found at gate none fits is at_is =
    subst (λ (f : List Record). IsReadTo g image f at gate file) (sym none)
    (record { after = rest; bytes = is; fits = fits; end_is = at_is; placed = tt })

after_gate : (prefix suffix file : List ℕ) (at gate : ℕ) → file ≡ prefix ++ gate ∷ suffix → at ≡ length prefix
    → drop (at + 1) file ≡ suffix
after_gate prefix suffix file at gate is at_is =
    ap (λ (l : List ℕ). drop (at + 1) l) (is ∙ sym (append_assoc prefix (gate ∷ []) suffix))
    ∙ drop_at (prefix ++ gate ∷ []) suffix (at + 1) (omega (arith, at_is, length-append prefix (gate ∷ [])))

-- an open gate with nothing whole after it
pub read_damaged : (g : ℕ) (image file : List ℕ) (found : List Record) (at gate : ℕ) → gate ≡ 1
    → IsReadTo g image found at gate file → IsDamaged (drop (at + 1) file) → IsDamagedAt at file
read_damaged g image file found at gate is_open so_far cut =
    inr (
      g,
      image,
      bodies_of found,
      so_far.after,
      so_far.fits,
      so_far.bytes ∙ ap (λ (b : ℕ). committed_bytes g image (bodies_of found) ++ b ∷ so_far.after) is_open,
      subst IsDamaged (after_gate (committed_bytes g image (bodies_of found)) so_far.after file at gate so_far.bytes so_far.end_is)
          cut,
      so_far.end_is,
    )

-- one record more
pub read_more : (g : ℕ) (image file : List ℕ) (found : List Record) (r : Record) (at gate next end : ℕ) → gate ≡ 1
    → IsReadTo g image found at gate file → IsFileBlock r.body.items next (drop (at + 1) file) → r.gate ≡ at
    → end ≡ at + (5 + length r.body.items) → IsReadTo g image (found ++ r ∷ []) end next file
read_more g image file found r at gate next end is_open so_far is_block gate_is end_is = record {
  after = is_block.1;
  bytes = so_far.bytes ∙ ap (λ (b : ℕ). prefix ++ b ∷ so_far.after) is_open
      ∙ ap (λ (l : List ℕ). prefix ++ 1 ∷ l)
      (sym (after_gate prefix so_far.after file at gate so_far.bytes so_far.end_is) ∙ is_block.2)
      ∙ grown g image (bodies_of found) r.body.items (next ∷ is_block.1)
      ∙ ap (λ (bs : List (List ℕ)). committed_bytes g image bs ++ next ∷ is_block.1) (sym pushed);
  fits = subst
      (λ (bs : List (List ℕ)). FieldsFit g image bs) (sym pushed)
      (fits_push g image (bodies_of found) r.body.items so_far.fits is_block.0);
  end_is = omega (
    arith,
    end_is,
    so_far.end_is,
    ap length (ap (committed_bytes g image) pushed ∙ committed_bytes-push g image (bodies_of found) r.body.items),
    length-append prefix (1 ∷ block r.body.items),
    length-block r.body.items,
  );
  placed = placed_push (21 + length image) found r so_far.placed
      (omega (arith, gate_is, so_far.end_is, length-committed_bytes g image (bodies_of found)));
}
  where
    prefix : List ℕ
    prefix = committed_bytes g image (bodies_of found)

    pushed : bodies_of (found ++ r ∷ []) ≡ bodies_of found ++ r.body.items ∷ []
    pushed = map_push (λ (q : Record). q.body.items) found r

-- ---- a generation

after_mark : (g : ℕ) (file : List ℕ) (marked : HasMark g file) → drop prefix_size file ≡ marked.rest
after_mark g file marked =
    ap (λ (l : List ℕ). drop prefix_size l) marked.bytes ∙ drop_at (1 ∷ mark g) marked.rest prefix_size (omega (arith, length-mark g))

pub damaged_image : (g : ℕ) (file : List ℕ) → HasMark g file → IsDamaged (drop prefix_size file) → IsDamagedAt 0 file
damaged_image g file marked cut = inl (g, marked.rest, marked.bytes, subst IsDamaged (after_mark g file marked) cut, refl)

-- the image after a mark, and the first gate after it
pub image_read : (g : ℕ) (file image : List ℕ) (gate : ℕ) → HasMark g file → IsFileBlock image gate (drop prefix_size file)
    → FieldsFit g image [] × (rest : List ℕ) × (file ≡ committed_bytes g image [] ++ gate ∷ rest)
image_read g file image gate marked is_block = (
  record { numbered = marked.numbered; image_short = is_block.0; bodies_short = tt },
  is_block.1,
  marked.bytes ∙ ap (λ (l : List ℕ). 1 ∷ (mark g ++ l)) (sym (after_mark g file marked) ∙ is_block.2)
      ∙ sym (solid_no_records g image (gate ∷ is_block.1)),
)

pub length-no_records : (g : ℕ) (image : List ℕ) → length (committed_bytes g image []) ≡ 21 + length image
length-no_records g image = omega (arith, length-committed_bytes g image [], ap length records-nil)

-- ---- files that were idle before

fewer_idle : (more images : List ℕ → Type 0) → AreUnused more → ((image : List ℕ) → images image → more image)
    → AreUnused images
fewer_idle more images (inl tiny) all = inl (λ image left. tiny image (all image left))
fewer_idle more images (inr shut) all = inr (λ image left. shut image (all image left))

-- disks that were only read are as idle as they were
pub read_idle : {D : Type 0} (device : Device D) (a b : D) → IsTrue (device.honest a) → IsOnlyRead device a b
    → AreUnused (device.leaves a (device.clock a)) → AreUnused (device.leaves b (device.clock b))
read_idle device a b is read idle =
    fewer_idle (device.leaves a (device.clock a)) (device.leaves b (device.clock b)) idle
    (at_end (device.clock a) (device.clock b) (device.leaves a) (device.leaves b) (device.leaves a (device.clock a))
    (read.moments is))

-- and a disk that has rested has done so still when it was looked at
pub rested_read : {D : Type 0} (device : Device D) (since : ℕ) (a b : D) → IsTrue (device.honest a)
    → IsOnlyRead device a b → WasUnused device since a → WasUnused device since b
rested_read device since a b is read rested = record {
  began = omega (arith, rested.began, (read.moments is).later);
  idle = λ time from to. elim (cases_lt (device.clock a) time) [
    | inl late ↦
        fewer_idle (device.leaves a (device.clock a)) (device.leaves b time)
        (rested.idle (device.clock a) rested.began (omega arith)) (λ image left.
        (read.moments is).each time image (omega (arith, late)) to left)
    | inr early ↦
        fewer_idle (device.leaves a time) (device.leaves b time) (rested.idle time from early) (λ image left.
        (read.moments is).no_more time image early left)
  ];
}

one_idle : (images : List ℕ → Type 0) → AreUnused images → (image : List ℕ) → images image → IsUnused image
one_idle images (inl tiny) image left = inl (tiny image left)
one_idle images (inr shut) image left = inr (shut image left)

-- what is left since a disk began to rest, through calls that leave images with P
pub since_rested : {D : Type 0} (device : Device D) (since : ℕ) (a b : D) (P : List ℕ → Type 0)
    → WasUnused device since a → ((image : List ℕ) → IsUnused image → P image) → HoldsThroughout device a b P
    → (time : ℕ) (image : List ℕ) → since ≤ time → time ≤ device.clock b → device.leaves b time image → P image
since_rested device since a b P rested so call time image from to left = elim (cases_lt (device.clock a) time) [
  | inl late ↦ call.each time image (omega (arith, late)) to left
  | inr early ↦
      so image (one_idle (device.leaves a time) (rested.idle time from early) image
      (call.no_more time image early left))
]

-- reading, and then what leaves images with P
pub idle_throughout : {D : Type 0} (device : Device D) (a b c : D) (P : List ℕ → Type 0) → IsTrue (device.honest a)
    → IsOnlyRead device a b → AreUnused (device.leaves a (device.clock a)) → ((image : List ℕ) → IsUnused image → P image)
    → HoldsThroughout device b c P → HoldsThroughout device a c P
idle_throughout device a b c P is read idle so call =
    goes_on (device.clock a) (device.clock b) (device.clock c) (device.leaves a) (device.leaves b) (device.leaves c) P
    (weaker (device.clock a) (device.clock b) (device.leaves a) (device.leaves b) (device.leaves a (device.clock a)) P
    (λ image left. so image (one_idle (device.leaves a (device.clock a)) idle image left)) (read.moments is)) call

pub started_created : (image file left : List ℕ) → WhileStarted (mark 1 ++ (block image ++ 0 ∷ [])) file left
    → WhileCreated image left
started_created image file left (inl idle) = inl idle
started_created image file left (inr (inl rests)) = inl (inr (subst IsShut (sym rests.1) refl))
started_created image file left (inr (inr whole)) =
    let rest = drop (length (mark 1 ++ (block image ++ 0 ∷ []))) (drop 1 file) in
    inr (
      whole.0,
      rest,
      whole.1
          ∙ ap (λ (l : List ℕ). whole.0 ∷ l)
          (append_assoc (mark 1) (block image ++ 0 ∷ []) rest
          ∙ ap (λ (l : List ℕ). mark 1 ++ l) (append_assoc (block image) (0 ∷ []) rest)),
    )
