-- A file is written in one way alone.
use Rattle.std.proofs.Common.{◌≡◌, ◌≢◌, ℕ, zero, suc, ◌+◌, ◌*◌, ◌/◌, ◌%◌, ◌<◌, ◌^◌, List, [], ◌∷◌, ◌++◌, length, take}
use Rattle.std.proofs.Common.{drop, get_or, refl, sym, ◌∙◌, ap, subst, arith, append_assoc, length-append}
use Rattle.std.proofs.Math.Nat.{div-div-eq-div-mul, pow-succ'}
use Rattle.std.proofs.lemmas.List.{take_at, drop_at, append_cancel_left, append-nil}
use Rattle.std.specs.Int.{byte_at, bytes_low_first}
use Rattle.byteorder.specs.Endian.{little_from, little_number}
use Rattle.byteorder.specs.Numbers.{little_from-cons, little_number-reads_back}
use Rattle.ash_journal.specs.Layout.{magic, four_bytes, eight_bytes, mark, block, records, committed_bytes, AreShort, FieldsFit}
use Rattle.ash_journal.specs.Layout.{length_limit, IsFile, IsOpen, IsClosed, HasMark}

-- ---- numbers

pub length-four : (n : ℕ) → length (four_bytes n) ≡ 4
unfolding four_bytes
length-four n = refl

length-eight : (n : ℕ) → length (eight_bytes n) ≡ 8
unfolding eight_bytes
length-eight n = refl

pub four_read : (n : ℕ) (rest : List ℕ) → n < 2 ^ 32 → little_number 4 (four_bytes n ++ rest) ≡ n
unfolding four_bytes
four_read n rest fits = little_number-reads_back 4 n rest (omega (arith, fits))

pub eight_read : (n : ℕ) (rest : List ℕ) → n < 2 ^ 64 → little_number 8 (eight_bytes n ++ rest) ≡ n
unfolding eight_bytes
eight_read n rest fits = little_number-reads_back 8 n rest (omega (arith, fits))

-- what was read is written as the bytes that it was read from
abbrev pub AreBytes : List ℕ → Type 0
AreBytes bytes = (i : ℕ) → get_or bytes i 0 < 256

byte_at-shift : (i x : ℕ) → byte_at (suc i) x ≡ byte_at i (x / 256)
byte_at-shift zero x = refl
byte_at-shift (suc i) x =
    let shift : x / 256 ^ suc (suc i) ≡ x / 256 / 256 ^ suc i =
    ap (λ (p : ℕ). x / p) (pow-succ' 256 (suc i)) ∙ sym (div-div-eq-div-mul x 256 (256 ^ suc i)) in
    ap (λ (y : ℕ). y % 256) shift

bytes_low_first-shift : (i n x : ℕ) → bytes_low_first (suc i) n x ≡ bytes_low_first i n (x / 256)
bytes_low_first-shift i zero x = refl
bytes_low_first-shift i (suc n) x = rw (byte_at-shift i x, bytes_low_first-shift (suc i) n x) refl

bytes_round_trip : (n : ℕ) (bytes : List ℕ) → length bytes ≡ n → AreBytes bytes
    → bytes_low_first 0 n (little_from 0 n bytes) ≡ bytes
bytes_round_trip zero [] len fits = refl
bytes_round_trip zero (b ∷ bytes) len fits = absurd (omega arith)
bytes_round_trip (suc n) [] len fits = absurd (omega arith)
bytes_round_trip (suc n) (b ∷ bytes) len fits =
    let high = little_from 0 n bytes in
    let x = b + 256 * high in
    let small : b < 256 = fits 0 in
    let is : little_from 0 (suc n) (b ∷ bytes) ≡ x = ap (λ (h : ℕ). b + 256 * h) (little_from-cons 0 n b bytes) in
    let low : x % 256 ≡ b = omega arith in
    let rest : x / 256 ≡ high = omega arith in
    let more : bytes_low_first 1 n x ≡ bytes =
    bytes_low_first-shift 0 n x ∙ ap (bytes_low_first 0 n) rest
    ∙ bytes_round_trip n bytes (omega arith) (λ i. fits (suc i)) in
    ap (bytes_low_first 0 (suc n)) is ∙ ap (λ (c : ℕ). c ∷ bytes_low_first 1 n x) low
    ∙ ap (λ (cs : List ℕ). b ∷ cs) more

pub four_round_trip : (bytes : List ℕ) → length bytes ≡ 4 → AreBytes bytes → four_bytes (little_number 4 bytes) ≡ bytes
unfolding four_bytes
four_round_trip bytes long fits = bytes_round_trip 4 bytes long fits

pub eight_round_trip : (bytes : List ℕ) → length bytes ≡ 8 → AreBytes bytes
    → eight_bytes (little_number 8 bytes) ≡ bytes
unfolding eight_bytes
eight_round_trip bytes long fits = bytes_round_trip 8 bytes long fits

-- ---- parts

-- two lists of which the first parts are as long
pub same_parts : (a b s t : List ℕ) → length a ≡ length b → a ++ s ≡ b ++ t → (a ≡ b) × (s ≡ t)
same_parts a b s t long is =
    let prefix : a ≡ b =
    sym (take_at a s (length b) long) ∙ ap (λ (l : List ℕ). take (length b) l) is ∙ take_at b t (length b) refl in
    let rest : s ≡ t =
    sym (drop_at a s (length b) long) ∙ ap (λ (l : List ℕ). drop (length b) l) is ∙ drop_at b t (length b) refl in
    (prefix, rest)

length-magic : length magic ≡ 8
unfolding magic
length-magic = refl

pub length-mark : (generation : ℕ) → length (mark generation) ≡ 16
unfolding mark
length-mark generation =
    omega (arith, length-append magic (eight_bytes generation), length-magic, length-eight generation)

pub mark_same : (g h : ℕ) (s t : List ℕ) → g < 2 ^ 64 → h < 2 ^ 64 → mark g ++ s ≡ mark h ++ t → (g ≡ h) × (s ≡ t)
unfolding mark
mark_same g h s t g_fits h_fits is =
    let parts = same_parts (mark g) (mark h) s t (length-mark g ∙ sym (length-mark h)) is in
    let numbers : eight_bytes g ≡ eight_bytes h = append_cancel_left magic (eight_bytes g) (eight_bytes h) parts.0 in
    let same : g ≡ h =
    sym (eight_read g [] g_fits) ∙ ap (λ (l : List ℕ). little_number 8 (l ++ [])) numbers
    ∙ eight_read h [] h_fits in
    (same, parts.1)

pub length-block : (body : List ℕ) → length (block body) ≡ 4 + length body
unfolding block
length-block body = omega (arith, length-append (four_bytes (length body)) body, length-four (length body))

pub block_same : (b c s t : List ℕ) → length b < length_limit → length c < length_limit → block b ++ s ≡ block c ++ t
    → (b ≡ c) × (s ≡ t)
unfolding block
block_same b c s t b_fits c_fits is =
    let long_b = length b in
    let long_c = length c in
    let is' : four_bytes (length b) ++ (b ++ s) ≡ four_bytes (length c) ++ (c ++ t) =
    sym (append_assoc (four_bytes (length b)) b s) ∙ is ∙ append_assoc (four_bytes (length c)) c t in
    let parts = same_parts (four_bytes (length b)) (four_bytes (length c)) (b ++ s) (c ++ t)
    (length-four (length b) ∙ sym (length-four (length c))) is' in
    let same : length b ≡ length c =
    sym (four_read (length b) [] (omega (arith, b_fits))) ∙ ap (λ (l : List ℕ). little_number 4 (l ++ [])) parts.0
    ∙ four_read (length c) [] (omega (arith, c_fits)) in
    same_parts b c s t same parts.1

-- a generation has as many bytes after its first gate as its image and 21
pub length-generation : (generation : ℕ) (image bytes : List ℕ) → bytes ≡ mark generation ++ (block image ++ 0 ∷ [])
    → length bytes ≡ 21 + length image
length-generation generation image bytes is =
    ap length is ∙ omega (
      arith,
      length-append (mark generation) (block image ++ 0 ∷ []),
      length-mark generation,
      length-append (block image) (0 ∷ []),
      length-block image,
    )

-- ---- records

pub records-nil : records [] ≡ []
unfolding records
records-nil = refl

pub records-cons : (body : List ℕ) (bodies : List (List ℕ))
    → records (body ∷ bodies) ≡ 1 ∷ (block body ++ records bodies)
unfolding records
records-cons body bodies = refl

records_split : (body : List ℕ) (bodies : List (List ℕ)) (rest : List ℕ)
    → records (body ∷ bodies) ++ rest ≡ 1 ∷ (block body ++ (records bodies ++ rest))
records_split body bodies rest =
    ap (λ (l : List ℕ). l ++ rest) (records-cons body bodies)
    ∙ ap (λ (l : List ℕ). 1 ∷ l) (append_assoc (block body) (records bodies) rest)

abbrev head_or : List ℕ → ℕ
head_or [] = 0
head_or (x ∷ xs) = x

abbrev tail_of : List ℕ → List ℕ
tail_of [] = []
tail_of (x ∷ xs) = xs

same_heads : (x y : ℕ) (s t : List ℕ) → x ∷ s ≡ y ∷ t → (x ≡ y) × (s ≡ t)
same_heads x y s t is = (ap head_or is, ap tail_of is)

pub records_same : (bodies others : List (List ℕ)) (k l : ℕ) (s t : List ℕ) → AreShort bodies → AreShort others → k ≢ 1
    → l ≢ 1 → records bodies ++ k ∷ s ≡ records others ++ l ∷ t → (bodies ≡ others) × (k ≡ l) × (s ≡ t)
records_same [] [] k l s t short_b short_o shut_k shut_l is =
    let plain : k ∷ s ≡ l ∷ t =
    sym (ap (λ (r : List ℕ). r ++ k ∷ s) records-nil) ∙ is ∙ ap (λ (r : List ℕ). r ++ l ∷ t) records-nil in
    (refl, (same_heads k l s t plain).0, (same_heads k l s t plain).1)
records_same [] (other ∷ others) k l s t short_b short_o shut_k shut_l is =
    let plain : k ∷ s ≡ 1 ∷ (block other ++ (records others ++ l ∷ t)) =
    sym (ap (λ (r : List ℕ). r ++ k ∷ s) records-nil) ∙ is ∙ records_split other others (l ∷ t) in
    absurd (shut_k (same_heads k 1 s (block other ++ (records others ++ l ∷ t)) plain).0)
records_same (body ∷ bodies) [] k l s t short_b short_o shut_k shut_l is =
    let plain : l ∷ t ≡ 1 ∷ (block body ++ (records bodies ++ k ∷ s)) =
    sym (ap (λ (r : List ℕ). r ++ l ∷ t) records-nil) ∙ sym is ∙ records_split body bodies (k ∷ s) in
    absurd (shut_l (same_heads l 1 t (block body ++ (records bodies ++ k ∷ s)) plain).0)
records_same (body ∷ bodies) (other ∷ others) k l s t short_b short_o shut_k shut_l is =
    let plain : 1 ∷ (block body ++ (records bodies ++ k ∷ s)) ≡ 1 ∷ (block other ++ (records others ++ l ∷ t)) =
    sym (records_split body bodies (k ∷ s)) ∙ is ∙ records_split other others (l ∷ t) in
    let one = block_same body other (records bodies ++ k ∷ s) (records others ++ l ∷ t) short_b.0 short_o.0
    (ap tail_of plain) in
    let more = records_same bodies others k l s t short_b.1 short_o.1 shut_k shut_l one.1 in
    (ap (λ (b : List ℕ). b ∷ bodies) one.0 ∙ ap (λ (bs : List (List ℕ)). other ∷ bs) more.0, more.1, more.2)

pub records-push : (bodies : List (List ℕ)) (body : List ℕ)
    → records (bodies ++ body ∷ []) ≡ records bodies ++ 1 ∷ block body
records-push [] body =
    records-cons body [] ∙ ap (λ (r : List ℕ). 1 ∷ (block body ++ r)) records-nil
    ∙ ap (λ (r : List ℕ). 1 ∷ r) (append-nil (block body))
    ∙ sym (ap (λ (r : List ℕ). r ++ 1 ∷ block body) records-nil)
records-push (first ∷ bodies) body =
    records-cons first (bodies ++ body ∷ []) ∙ ap (λ (r : List ℕ). 1 ∷ (block first ++ r)) (records-push bodies body)
    ∙ sym (records_split first bodies (1 ∷ block body))

-- ---- files

pub solid_split : (generation : ℕ) (image : List ℕ) (bodies : List (List ℕ)) (rest : List ℕ)
    → committed_bytes generation image bodies ++ rest ≡ 1 ∷ (mark generation ++ (block image ++ (records bodies ++ rest)))
unfolding committed_bytes
solid_split generation image bodies rest =
    ap (λ (l : List ℕ). 1 ∷ l)
    (append_assoc (mark generation) (block image ++ records bodies) rest
    ∙ ap (λ (l : List ℕ). mark generation ++ l) (append_assoc (block image) (records bodies) rest))

pub length-committed_bytes : (generation : ℕ) (image : List ℕ) (bodies : List (List ℕ))
    → length (committed_bytes generation image bodies) ≡ 21 + length image + length (records bodies)
unfolding committed_bytes
length-committed_bytes generation image bodies =
    omega (
      arith,
      length-append (mark generation) (block image ++ records bodies),
      length-mark generation,
      length-append (block image) (records bodies),
      length-block image,
    )

pub committed_bytes-push : (generation : ℕ) (image : List ℕ) (bodies : List (List ℕ)) (body : List ℕ)
    → committed_bytes generation image (bodies ++ body ∷ []) ≡ committed_bytes generation image bodies ++ 1 ∷ block body
unfolding committed_bytes
committed_bytes-push generation image bodies body =
    ap (λ (r : List ℕ). 1 ∷ (mark generation ++ (block image ++ r))) (records-push bodies body)
    ∙ sym (solid_split generation image bodies (1 ∷ block body))

pub record SameFile (g h : ℕ) (image other : List ℕ) (bodies others : List (List ℕ)) (k l : ℕ)
    (s t : List ℕ) : Type 0 where
  pub generations : g ≡ h
  pub images : image ≡ other
  pub bodies_same : bodies ≡ others
  pub gates : k ≡ l
  pub after : s ≡ t

pub same_file : (g h : ℕ) (image other : List ℕ) (bodies others : List (List ℕ)) (k l : ℕ) (s t : List ℕ)
    → FieldsFit g image bodies → FieldsFit h other others → k ≢ 1 → l ≢ 1
    → committed_bytes g image bodies ++ k ∷ s ≡ committed_bytes h other others ++ l ∷ t → SameFile g h image other bodies others k l s t
same_file g h image other bodies others k l s t fits_g fits_h shut_k shut_l is =
    let plain : 1 ∷ (mark g ++ (block image ++ (records bodies ++ k ∷ s)))
    ≡ 1 ∷ (mark h ++ (block other ++ (records others ++ l ∷ t))) =
    sym (solid_split g image bodies (k ∷ s)) ∙ is ∙ solid_split h other others (l ∷ t) in
    let marks = mark_same g h (block image ++ (records bodies ++ k ∷ s)) (block other ++ (records others ++ l ∷ t))
    fits_g.numbered fits_h.numbered (ap tail_of plain) in
    let images =
    block_same image other (records bodies ++ k ∷ s) (records others ++ l ∷ t) fits_g.image_short fits_h.image_short
    marks.1 in
    let rest = records_same bodies others k l s t fits_g.bodies_short fits_h.bodies_short shut_k shut_l images.1 in
    record { generations = marks.0; images = images.0; bodies_same = rest.0; gates = rest.1; after = rest.2 }

-- ---- marks

pub same_mark : (g h : ℕ) (file : List ℕ) → HasMark g file → HasMark h file → g ≡ h
same_mark g h file one other =
    (mark_same g h one.rest other.rest one.numbered other.numbered (ap tail_of (sym one.bytes ∙ other.bytes))).0

pub solid_mark : (generation : ℕ) (image : List ℕ) (bodies : List (List ℕ)) (rest file : List ℕ) → generation < 2 ^ 64
    → file ≡ committed_bytes generation image bodies ++ rest → HasMark generation file
solid_mark generation image bodies rest file fits is =
    record {
      rest = block image ++ (records bodies ++ rest);
      bytes = is ∙ solid_split generation image bodies rest;
      numbered = fits;
    }

pub file_mark : (generation : ℕ) (image : List ℕ) (bodies : List (List ℕ)) (file : List ℕ)
    → IsFile generation image bodies file → HasMark generation file
file_mark generation image bodies file is =
    solid_mark generation image bodies (is.gate ∷ is.after) file is.fits.numbered is.bytes

-- an open file is not closed
pub open_closed : (file : List ℕ) → IsOpen file → IsClosed file → ⊥
open_closed [] is_open closed = is_open
open_closed (gate ∷ []) is_open closed = is_open
open_closed (gate ∷ second ∷ rest) is_open closed = closed is_open

long_open : (rest file : List ℕ) → 0 < length rest → file ≡ 1 ∷ rest → IsOpen file
long_open [] file long is = absurd (omega arith)
long_open (second ∷ rest) file long is = subst IsOpen (sym is) refl

pub mark_open : (generation : ℕ) (file : List ℕ) → HasMark generation file → IsOpen file
mark_open generation file marked =
    long_open (mark generation ++ marked.rest) file
    (omega (arith, length-append (mark generation) marked.rest, length-mark generation)) marked.bytes

pub mark_closed : (generation : ℕ) (file : List ℕ) → HasMark generation file → IsClosed file → ⊥
mark_closed generation file marked closed = open_closed file (mark_open generation file marked) closed

-- a generation without records
pub solid_no_records : (generation : ℕ) (image rest : List ℕ)
    → committed_bytes generation image [] ++ rest ≡ 1 ∷ (mark generation ++ (block image ++ rest))
solid_no_records generation image rest =
    solid_split generation image [] rest
    ∙ ap (λ (r : List ℕ). 1 ∷ (mark generation ++ (block image ++ (r ++ rest)))) records-nil
