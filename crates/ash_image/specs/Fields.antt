-- Fields of a format: how each is spelled, and how it is read from a prefix of bytes.
use Rattle.std.specs.Prelude.{◌≡◌, ℕ, zero, suc, ◌==◌, nat_lt, Bool, if◌then◌else◌, List, [], ◌∷◌, ◌++◌, length, take}
use Rattle.std.specs.Prelude.{drop, Option, Some, None, Result, Ok, Err}
use Rattle.std.specs.List.{flat_map}
use Rattle.byteorder.specs.Endian.{little_bytes, little_number}
use Rattle.ash_image.specs.declared.fields.ReadError.{ReadError}
use Rattle.ash_image.specs.declared.fields.ReadError.TheVariants as reasons

-- ---- spelling

-- a number in so many bytes, the lowest first
abbrev pub number : ℕ → ℕ → List ℕ
number size value = little_bytes size value

-- a length in so many bytes, and that many bytes
abbrev pub text : ℕ → List ℕ → List ℕ
text size bytes = number size (length bytes) ++ bytes

-- a count in so many bytes, and that many items
abbrev pub items : {A : Type 0} → ℕ → (A → List ℕ) → List A → List ℕ
items size spell values = number size (length values) ++ flat_map spell values

-- ---- reading: a prefix, and the bytes after it

-- what follows a step that gave something
infixl 10 ◌>>=◌
abbrev pub ◌>>=◌ : {A B : Type 0} → Option A → (A → Option B) → Option B
(Some x) >>= f = f x
None >>= f = None

-- what was read, seen as something else
abbrev pub as_at : {A B : Type 0} → (A → B) → (List ℕ → Option (A × List ℕ)) → List ℕ → Option (B × List ℕ)
as_at view read bytes = read bytes >>= λ x. Some (view x.0, x.1)

-- what was read, where it passes a test
abbrev pub checked_at : {A : Type 0} → (A → Bool) → (List ℕ → Option (A × List ℕ)) → List ℕ → Option (A × List ℕ)
checked_at test read bytes = read bytes >>= λ x. if test x.0 then Some x else None

-- one thing after the other
abbrev pub pair_at : {A B : Type 0} → (List ℕ → Option (A × List ℕ)) → (List ℕ → Option (B × List ℕ)) → List ℕ
    → Option ((A × B) × List ℕ)
pair_at first second bytes = first bytes >>= λ x. second x.1 >>= λ y. Some ((x.0, y.0), y.1)

-- one thing, and then what depends on it
abbrev pub then_at : {A B : Type 0} → (List ℕ → Option (A × List ℕ)) → (A → List ℕ → Option (B × List ℕ)) → List ℕ
    → Option ((A × B) × List ℕ)
then_at first second bytes = first bytes >>= λ x. second x.0 x.1 >>= λ y. Some ((x.0, y.0), y.1)

-- a number in so many bytes
abbrev pub number_at : ℕ → List ℕ → Option (ℕ × List ℕ)
number_at size bytes = if nat_lt (length bytes)
    size then None else Some (little_number size (take size bytes), drop size bytes)

-- so many bytes
abbrev pub prefix_at : ℕ → List ℕ → Option (List ℕ × List ℕ)
prefix_at count bytes = if nat_lt (length bytes) count then None else Some (take count bytes, drop count bytes)

-- a length in so many bytes, and that many bytes
abbrev pub text_at : ℕ → List ℕ → Option (List ℕ × List ℕ)
text_at size bytes = number_at size bytes >>= λ count. prefix_at count.0 count.1

-- a tag of one byte, and what the cases read after it
abbrev pub tagged_at : {A : Type 0} → (ℕ → List ℕ → Option (A × List ℕ)) → List ℕ → Option (A × List ℕ)
tagged_at cases bytes = number_at 1 bytes >>= λ tag. cases tag.0 tag.1

-- so many items, one after the other
unfoldable pub times_at : {A : Type 0} → (List ℕ → Option (A × List ℕ)) → ℕ → List ℕ → Option (List A × List ℕ)
times_at read zero bytes = Some ([], bytes)
times_at read (suc count) bytes = read bytes >>= λ first. times_at read count first.1 >>= λ others.
    Some (first.0 ∷ others.0, others.1)

-- a count, read in some way, and that many items
abbrev pub items_at : {A : Type 0} → (List ℕ → Option (ℕ × List ℕ)) → (List ℕ → Option (A × List ℕ)) → List ℕ
    → Option (List A × List ℕ)
items_at count read bytes = count bytes >>= λ x. times_at read x.0 x.1

-- what the whole of the bytes is
abbrev pub whole : {A : Type 0} → (List ℕ → Option (A × List ℕ)) → List ℕ → Option A
whole read bytes = read bytes >>= λ x. if length x.1 == 0 then Some x.0 else None

-- ---- what the code answers

-- Nothing was read because memory ran out, or because there is nothing to read.
abbrev pub HasNoField : {A : Type 0} → ReadError → Option A → Type 0
HasNoField reasons.NoMemory read = Unit {0}
HasNoField reasons.Damaged read = read ≡ None

-- What the code returned, seen by a view, is what reading gives, unless memory was refused.
abbrev pub ReturnsField : {X A : Type 0} → (X → A) → Result X ReadError → Option A → Type 0
ReturnsField view (Ok x) read = read ≡ Some (view x)
ReturnsField view (Err reason) read = HasNoField reason read
