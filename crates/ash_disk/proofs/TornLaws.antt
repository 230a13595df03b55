-- What a torn write may leave of a file, and what a whole one leaves, by the parts of the file.
use Rattle.std.proofs.Common.{◌≡◌, inl, inr, ℕ, ◌+◌, ◌<◌, ◌≤◌, max, List, [], ◌∷◌, ◌++◌, length, get_or, take, drop}
use Rattle.std.proofs.Common.{refl, sym, ◌∙◌, ap, subst, arith, append_assoc, length-append, length-drop, length-take}
use Rattle.std.proofs.Common.{take-append-drop}
use Rattle.std.proofs.lemmas.List.{take_at, drop_at, same_lists, places, get_or-take, get_or_default, drop-drop}
use Rattle.ash_disk.specs.DiskImage.{bytes_at, after_write, Torn, TornFrom, LeavesOnly}

-- Two parts make the whole.
pub parts : (n : ℕ) (file : List ℕ) → file ≡ take n file ++ drop n file
parts n file = sym (take-append-drop n file)

-- What is before the range stays.
pub prefix_stays : (prefix after : List ℕ) (at n : ℕ) (new : List ℕ) → length prefix ≤ at
    → Torn at n (prefix ++ after) new → new ≡ prefix ++ drop (length prefix) new
prefix_stays prefix after at n new before torn =
    parts (length prefix) new ∙ ap (λ (l : List ℕ). l ++ drop (length prefix) new) same
  where
    long : length prefix ≤ length new
    long = omega (arith, torn.no_shorter, length-append prefix after)

    same_length : length (take (length prefix) new) ≡ length prefix
    same_length = omega (arith, long, length-take (length prefix) new)

    each : (k d : ℕ) → k < length (take (length prefix) new) → get_or (take (length prefix) new) k d ≡ get_or prefix k d
    each k d within =
        let near : k < length prefix = omega (arith, within, same_length) in
        let in_old : k < length (prefix ++ after) = omega (arith, near, length-append prefix after) in
        let in_new : k < length new = omega (arith, near, long) in
        let stays : get_or new k 0 ≡ get_or (prefix ++ after) k 0 = torn.outside k in_old (inl (omega arith)) in
        get_or-take (length prefix) new k d near
        ∙ get_or_default new k d 0 in_new
        ∙ stays
        ∙ get_or_default (prefix ++ after) k 0 d in_old
        ∙ search (arith, places)

    same : take (length prefix) new ≡ prefix
    same = same_lists (take (length prefix) new) prefix same_length each

-- What is after the range stays, and what the range leaves there is as long as it was.
pub part_torn : (prefix middle suffix : List ℕ) (at n : ℕ) (new : List ℕ) → at ≡ length prefix → n ≡ length middle
    → Torn at n (prefix ++ middle ++ suffix) new
    → (torn : List ℕ) × (length torn ≡ length middle) × (new ≡ prefix ++ torn ++ suffix)
part_torn prefix middle suffix at n new at_is n_is torn = (
  take (length middle) rest,
  omega (arith, length-take (length middle) rest, rest_length),
  whole ∙ ap (λ (l : List ℕ). prefix ++ l)
      (parts (length middle) rest ∙ ap (λ (l : List ℕ). take (length middle) rest ++ l) suffix_same)
      ∙ sym (append_assoc prefix (take (length middle) rest) suffix),
)
  where
    rest : List ℕ
    rest = drop (length prefix) new

    total : ℕ
    total = length prefix + length middle + length suffix

    old_length : length (prefix ++ middle ++ suffix) ≡ length prefix + length middle + length suffix
    old_length = omega (arith, length-append (prefix ++ middle) suffix, length-append prefix middle)

    new_length : length new ≡ length prefix + length middle + length suffix
    new_length = omega (arith, old_length, torn.no_shorter, torn.no_longer)

    rest_length : length rest ≡ length middle + length suffix
    rest_length = omega (arith, new_length, length-drop (length prefix) new)

    whole : new ≡ prefix ++ rest
    whole =
        prefix_stays prefix (middle ++ suffix) at n new (omega arith)
        (subst (λ (l : List ℕ). Torn at n l new) (append_assoc prefix middle suffix) torn)

    each : (k d : ℕ) → k < length (drop (length middle) rest)
        → get_or (drop (length middle) rest) k d ≡ get_or suffix k d
    each k d within =
        let near : k < length suffix = omega (arith, within, rest_length, length-drop (length middle) rest) in
        let place : ℕ = length prefix + length middle + k in
        let in_old : length prefix + length middle + k < length (prefix ++ middle ++ suffix) =
        omega (arith, near, old_length) in
        let in_new : length prefix + length middle + k < length new = omega (arith, near, new_length) in
        let stays : get_or new (length prefix + length middle + k) 0
        ≡ get_or (prefix ++ middle ++ suffix) (length prefix + length middle + k) 0 =
        torn.outside (length prefix + length middle + k) in_old (inr (omega arith)) in
        let after : get_or (drop (length middle) rest) k d ≡ get_or new (length prefix + length middle + k) d =
        search (arith, places) in
        let old_after : get_or (prefix ++ middle ++ suffix) (length prefix + length middle + k) d ≡ get_or suffix k d =
        search (arith, places) in
        after ∙ get_or_default new (length prefix + length middle + k) d 0 in_new ∙ stays
        ∙ get_or_default (prefix ++ middle ++ suffix) (length prefix + length middle + k) 0 d in_old ∙ old_after

    suffix_same : drop (length middle) rest ≡ suffix
    suffix_same =
        same_lists (drop (length middle) rest) suffix
        (omega (arith, rest_length, length-drop (length middle) rest)) each

-- A torn write of one byte changes that byte and no other.
pub byte_torn : (prefix : List ℕ) (byte : ℕ) (suffix : List ℕ) (at : ℕ) (new : List ℕ) → at ≡ length prefix
    → Torn at 1 (prefix ++ byte ∷ suffix) new → (torn : ℕ) × (new ≡ prefix ++ torn ∷ suffix)
byte_torn prefix byte suffix at new at_is torn = one parted.0 parted.1 parted.2
  where
    parted : (bytes : List ℕ) × (length bytes ≡ 1) × (new ≡ prefix ++ bytes ++ suffix)
    parted =
        part_torn prefix (byte ∷ []) suffix at 1 new at_is refl
        (subst (λ (l : List ℕ). Torn at 1 l new) (sym (append_assoc prefix (byte ∷ []) suffix)) torn)

    one : (bytes : List ℕ) → length bytes ≡ 1 → new ≡ prefix ++ bytes ++ suffix
        → (torn : ℕ) × (new ≡ prefix ++ torn ∷ suffix)
    one [] long is = absurd (omega arith)
    one (b ∷ []) long is = (b, is ∙ append_assoc prefix (b ∷ []) suffix)
    one (b ∷ c ∷ bytes) long is = absurd (omega arith)

-- What a whole write leaves after a prefix that it does not touch.
pub written_after : (prefix after bytes : List ℕ) (at : ℕ) → at ≡ length prefix
    → after_write (prefix ++ after) at bytes ≡ prefix ++ bytes ++ drop (length bytes) after
written_after prefix after bytes at at_is =
    ap (λ (l : List ℕ). l ++ bytes ++ drop (at + length bytes) (prefix ++ after)) (take_at prefix after at (sym at_is))
    ∙ ap (λ (l : List ℕ). prefix ++ bytes ++ l)
    (sym (drop-drop (length bytes) at (prefix ++ after))
    ∙ ap (λ (l : List ℕ). drop (length bytes) l) (drop_at prefix after at (sym at_is)))

-- One byte written in its place.
pub byte_written : (prefix : List ℕ) (old new : ℕ) (suffix : List ℕ) (at : ℕ) → at ≡ length prefix
    → after_write (prefix ++ old ∷ suffix) at (new ∷ []) ≡ prefix ++ new ∷ suffix
byte_written prefix old new suffix at at_is =
    written_after prefix (old ∷ suffix) (new ∷ []) at at_is ∙ append_assoc prefix (new ∷ []) suffix

-- How long a file is after a write that begins within it.
pub length-after_write : (at : ℕ) (old bytes : List ℕ) → at ≤ length old
    → length (after_write old at bytes) ≡ max (length old) (at + length bytes)
length-after_write at old bytes within =
    omega (
      arith,
      length-append (take at old ++ bytes) (drop (at + length bytes) old),
      length-append (take at old) bytes,
      length-take at old,
      length-drop (at + length bytes) old,
    )

-- What a read gives of a part.
pub part_read : (prefix middle suffix : List ℕ) (at n : ℕ) → at ≡ length prefix → n ≡ length middle
    → bytes_at (prefix ++ middle ++ suffix) at n ≡ middle
part_read prefix middle suffix at n at_is n_is =
    ap (λ (l : List ℕ). take n l)
    (ap (λ (l : List ℕ). drop at l) (append_assoc prefix middle suffix)
    ∙ drop_at prefix (middle ++ suffix) at (sym at_is))
    ∙ take_at middle suffix n (sym n_is)

-- After a sync the file as it was read is all that a write can tear.
pub torn_from_only : (file : List ℕ) (images : List ℕ → Type 0) (at n : ℕ) (new : List ℕ) → LeavesOnly file images
    → TornFrom at n images new → Torn at n file new
torn_from_only file images at n new only from = subst (λ (old : List ℕ). Torn at n old new) (only from.0 from.1) from.2
