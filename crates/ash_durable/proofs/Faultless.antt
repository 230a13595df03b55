-- Files that represent contents have none of a journal's faults.
use Rattle.std.proofs.Common.{◌≡◌, ◌≢◌, ◌⊎◌, inl, inr, ℕ, ◌<◌, ◌^◌, List, [], ◌∷◌, ◌++◌, length, sym, ◌∙◌, ap, arith}
use Rattle.std.proofs.Common.{⊎_elim, append_assoc, length-append}
use Rattle.ash_journal.specs.Current.{Contents, IsOlder, IsCurrent, Represent}
use Rattle.ash_journal.specs.Layout.{four_bytes, mark, block, records, committed_bytes, AreShort, IsFile, IsClosed}
use Rattle.ash_journal.specs.Layout.{length_limit, IsDamaged}
use Rattle.ash_journal.specs.Layout.{LacksMark, IsDamagedAt}
use Rattle.ash_journal.specs.Opening.{IsUnsound, IsDamagedCurrent, HasCurrent}
use Rattle.ash_journal.proofs.LayoutLaws.{length-four, four_read, same_parts, length-mark, block_same, records-nil}
use Rattle.ash_journal.proofs.LayoutLaws.{records-cons, same_mark, file_mark, open_closed, mark_closed}
use Rattle.ash_journal.proofs.SettleLaws.{mark_less}

-- ---- bytes

abbrev head_or : List ℕ → ℕ
head_or [] = 0
head_or (x ∷ xs) = x

abbrev tail_of : List ℕ → List ℕ
tail_of [] = []
tail_of (x ∷ xs) = xs

records_split : (body : List ℕ) (bodies : List (List ℕ)) (rest : List ℕ)
    → records (body ∷ bodies) ++ rest ≡ 1 ∷ (block body ++ (records bodies ++ rest))
records_split body bodies rest =
    ap (λ (l : List ℕ). l ++ rest) (records-cons body bodies)
    ∙ ap (λ (l : List ℕ). 1 ∷ l) (append_assoc (block body) (records bodies) rest)

solid_split : (generation : ℕ) (image : List ℕ) (bodies : List (List ℕ)) (rest : List ℕ)
    → committed_bytes generation image bodies ++ rest
    ≡ 1 ∷ (mark generation ++ (block image ++ (records bodies ++ rest)))
unfolding committed_bytes
solid_split generation image bodies rest =
    ap (λ (l : List ℕ). 1 ∷ l) (append_assoc (mark generation) (block image ++ records bodies) rest
    ∙ ap (λ (l : List ℕ). mark generation ++ l) (append_assoc (block image) (records bodies) rest))

gate_left : (before following : List ℕ) (gate : ℕ) → 0 < length (before ++ gate ∷ following)
gate_left before following gate = omega (arith, length-append before (gate ∷ following))

-- a length below the limit, what it is of, and something after that are not damaged
not_cut : (body more rest : List ℕ) → length body < length_limit → 0 < length more → rest ≡ block body ++ more
    → IsDamaged rest
    → ⊥
unfolding block
not_cut body more rest short some is (inl tiny) =
    omega (
      arith,
      ap length is,
      length-append (four_bytes (length body) ++ body) more,
      length-append (four_bytes (length body)) body,
      length-four (length body),
      tiny,
    )
not_cut body more rest short some is (inr (n, left, fits, rest_is, bad)) =
    let plain : four_bytes n ++ left ≡ four_bytes (length body) ++ (body ++ more) = sym rest_is ∙ is
    ∙ append_assoc (four_bytes (length body)) body more in
    let parts = same_parts (four_bytes n) (four_bytes (length body)) left (body ++ more)
    (length-four n ∙ sym (length-four (length body))) plain in
    let read_back = rw parts.0 at (four_read n [] fits) in
    let same : n ≡ length body = sym read_back ∙ four_read (length body) [] (omega (arith, short)) in
    ⊎_elim (λ long. omega (arith, same, short, long))
    (λ few. omega (arith, ap length parts.1, length-append body more, few, same, some)) bad

-- Records up to a gate that is not open are no records up to one that is, with something damaged after it.
records_not_cut : (bodies others : List (List ℕ)) (gate : ℕ) (rest following : List ℕ) → AreShort bodies
    → AreShort others → gate ≢ 1 → records bodies ++ 1 ∷ rest ≡ records others ++ gate ∷ following → IsDamaged rest → ⊥
records_not_cut [] [] gate rest following short_b short_o shut is cut =
    let plain : 1 ∷ rest ≡ gate ∷ following = sym (ap (λ (r : List ℕ). r ++ 1 ∷ rest) records-nil) ∙ is
    ∙ ap (λ (r : List ℕ). r ++ gate ∷ following) records-nil in
    shut (sym (ap head_or plain))
records_not_cut [] (other ∷ others) gate rest following short_b short_o shut is cut =
    let plain : 1 ∷ rest ≡ 1 ∷ (block other ++ (records others ++ gate ∷ following)) =
    sym (ap (λ (r : List ℕ). r ++ 1 ∷ rest) records-nil) ∙ is ∙ records_split other others (gate ∷ following) in
    not_cut other (records others ++ gate ∷ following) rest short_o.0 (gate_left (records others) following gate)
    (ap tail_of plain) cut
records_not_cut (body ∷ bodies) [] gate rest following short_b short_o shut is cut =
    let plain : 1 ∷ (block body ++ (records bodies ++ 1 ∷ rest)) ≡ gate ∷ following =
    sym (records_split body bodies (1 ∷ rest)) ∙ is ∙ ap (λ (r : List ℕ). r ++ gate ∷ following) records-nil in
    shut (sym (ap head_or plain))
records_not_cut (body ∷ bodies) (other ∷ others) gate rest following short_b short_o shut is cut =
    let plain : 1 ∷ (block body ++ (records bodies ++ 1 ∷ rest))
    ≡ 1 ∷ (block other ++ (records others ++ gate ∷ following)) = sym (records_split body bodies (1 ∷ rest)) ∙ is
    ∙ records_split other others (gate ∷ following) in
    let one = block_same body other (records bodies ++ 1 ∷ rest) (records others ++ gate ∷ following)
    short_b.0 short_o.0 (ap tail_of plain) in
    records_not_cut bodies others gate rest following short_b.1 short_o.1 shut one.1 cut

-- a whole file is not damaged
file_not_cut : (g : ℕ) (image : List ℕ) (bodies : List (List ℕ)) (file : List ℕ) (at : ℕ) → IsFile g image bodies file
    → IsDamagedAt at file → ⊥
file_not_cut g image bodies file at whole (inl (h, rest, bytes, cut, at_is)) =
    let more = records bodies ++ whole.gate ∷ whole.after in
    let plain : 1 ∷ (mark h ++ rest) ≡ 1 ∷ (mark g ++ (block image ++ more)) = sym bytes ∙ whole.bytes
    ∙ solid_split g image bodies (whole.gate ∷ whole.after) in
    let parts = same_parts (mark h) (mark g) rest (block image ++ more) (length-mark h ∙ sym (length-mark g))
    (ap tail_of plain) in
    not_cut image more rest whole.fits.image_short (gate_left (records bodies) whole.after whole.gate) parts.1 cut
file_not_cut g image bodies file at whole (inr (h, other, others, rest, fits, bytes, cut, at_is)) =
    let one = block other ++ (records others ++ 1 ∷ rest) in
    let two = block image ++ (records bodies ++ whole.gate ∷ whole.after) in
    let plain : 1 ∷ (mark h ++ one) ≡ 1 ∷ (mark g ++ two) = sym (solid_split h other others (1 ∷ rest)) ∙ sym bytes
    ∙ whole.bytes ∙ solid_split g image bodies (whole.gate ∷ whole.after) in
    let parts = same_parts (mark h) (mark g) one two (length-mark h ∙ sym (length-mark g)) (ap tail_of plain) in
    let images = block_same other image (records others ++ 1 ∷ rest) (records bodies ++ whole.gate ∷ whole.after)
    fits.image_short whole.fits.image_short parts.1 in
    records_not_cut others bodies whole.gate rest whole.after fits.bodies_short whole.fits.bodies_short whole.shut
    images.1 cut

-- ---- two files, of which the first is current

after_marked : (g : ℕ) (file : List ℕ) → IsOlder g file → LacksMark file → ⊥
after_marked g file (inl closed) lacks = open_closed file lacks.0 closed
after_marked g file (inr older) lacks = lacks.1 older.0 older.1

current_sound : (g : ℕ) (image : List ℕ) (bodies : List (List ℕ)) (x y : List ℕ) → IsCurrent g image bodies x y
    → IsUnsound x y → ⊥
current_sound g image bodies x y current (inl lacks) = lacks.1 g (file_mark g image bodies x current.file)
current_sound g image bodies x y current (inr (inl lacks)) = after_marked g y current.older lacks
current_sound g image bodies x y current (inr (inr both)) =
    let same : both.0 ≡ g = same_mark both.0 g x both.1 (file_mark g image bodies x current.file) in
    let under : both.0 < g = mark_less both.0 g y both.2 current.older in
    omega (arith, same, under)

current_whole : (g : ℕ) (image : List ℕ) (bodies : List (List ℕ)) (x y : List ℕ) (at : ℕ) → IsCurrent g image bodies x y
    → IsDamagedCurrent at x y ⊎ IsDamagedCurrent at y x → ⊥
current_whole g image bodies x y at current (inl cut) = file_not_cut g image bodies x at current.file cut.3
current_whole g image bodies x y at current (inr cut) =
    let above : g < cut.0 = mark_less g cut.0 x (file_mark g image bodies x current.file) cut.2 in
    let under : cut.0 < g = mark_less cut.0 g y cut.1 current.older in
    omega (arith, above, under)

-- ---- two files that represent contents

unsound_turned : (x y : List ℕ) → IsUnsound x y → IsUnsound y x
unsound_turned x y (inl lacks) = inr (inl lacks)
unsound_turned x y (inr (inl lacks)) = inl lacks
unsound_turned x y (inr (inr both)) = inr (inr (both.0, both.2, both.1))

cut_turned : (x y : List ℕ) (at : ℕ) → IsDamagedCurrent at x y ⊎ IsDamagedCurrent at y x → IsDamagedCurrent at y x
    ⊎ IsDamagedCurrent at x y
cut_turned x y at (inl cut) = inr cut
cut_turned x y at (inr cut) = inl cut

pub represent_open : (contents : Contents) (x y : List ℕ) → Represent contents x y → IsClosed x × IsClosed y → ⊥
represent_open contents x y (inl one) closed =
    mark_closed one.0 x (file_mark one.0 contents.0 contents.1 x one.1.file) closed.0
represent_open contents x y (inr one) closed =
    mark_closed one.0 y (file_mark one.0 contents.0 contents.1 y one.1.file) closed.1

pub represent_sound : (contents : Contents) (x y : List ℕ) → Represent contents x y → IsUnsound x y → ⊥
represent_sound contents x y (inl one) unsound = current_sound one.0 contents.0 contents.1 x y one.1 unsound
represent_sound contents x y (inr one) unsound =
    current_sound one.0 contents.0 contents.1 y x one.1 (unsound_turned x y unsound)

pub represent_whole : (contents : Contents) (x y : List ℕ) (at : ℕ) → Represent contents x y → IsDamagedCurrent at x y
    ⊎ IsDamagedCurrent at y x → ⊥
represent_whole contents x y at (inl one) cut = current_whole one.0 contents.0 contents.1 x y at one.1 cut
represent_whole contents x y at (inr one) cut =
    current_whole one.0 contents.0 contents.1 y x at one.1 (cut_turned x y at cut)

-- one of them is current
pub represent_current : (contents : Contents) (x y : List ℕ) → Represent contents x y → HasCurrent x y
represent_current contents x y (inl one) = inl (one.0, file_mark one.0 contents.0 contents.1 x one.1.file, one.1.older)
represent_current contents x y (inr one) = inr (one.0, file_mark one.0 contents.0 contents.1 y one.1.file, one.1.older)
