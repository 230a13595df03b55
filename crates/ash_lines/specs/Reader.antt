-- A reader as a source of bytes.
use Rattle.std.specs.Prelude.{◌≡◌, ℕ, ◌+◌, ◌^◌, true, List, [], ◌∷◌, ◌++◌, length, Option, Some, None, is_some, refl, ⊤}
use Rattle.std.specs.Prelude.{if◌then◌else◌, nat_le}
use Rattle.std.specs.Option.{option_to_list}
use Rattle.std.specs.Io.Buffered.{reader_buffer, reader_remaining}
use Rattle.std.specs.Io.KnownBytes.{Consumes, Keeps, IsAtEnd, prepend_known}
use Rattle.std.proofs.Common.{sym, ap, ◌∙◌, append_assoc, arith, length-append}
use Rattle.ash_lines.specs.Source.{Feed, IsFeed}
use Rattle.ash_lines.specs.declared.reader.Reader.{Reader}
use Rattle.ash_lines.specs.declared.reader.ByteRead.{ByteRead}
use Rattle.ash_lines.specs.declared.reader.ByteRead.TheVariants as byte_reads

-- What reading a byte did to the reader's bytes, where they are known.
abbrev pub ReadsByte : Option (List ℕ) → ByteRead → Option (List ℕ) → Type 0
ReadsByte old (byte_reads.Byte byte) new = Consumes old new (byte ∷ [])
ReadsByte old byte_reads.End new = Keeps old new × IsAtEnd new
ReadsByte old byte_reads.Failed new = ⊤

-- the bytes that are left, where they are known
abbrev pub left_of : {R : Type 0} → (R → Option (List ℕ)) → Reader R → Option (List ℕ)
left_of remaining s = prepend_known (option_to_list s.extra) (reader_remaining remaining s.reader)

-- the most bytes that are read in one run
abbrev pub max_input_bytes : ℕ
max_input_bytes = 2 ^ 40

-- how many bytes may still be read: none once one came past the allowance
abbrev pub allowance_of : {R : Type 0} → Reader R → ℕ
allowance_of s = if is_some s.extra then 0 else s.allowance

-- the bytes in the buffer, if so many may still be read
abbrev pub ready_of : {R : Type 0} → Reader R → List ℕ
ready_of s = if nat_le (length (reader_buffer s.reader)) (allowance_of s) then reader_buffer s.reader else []

-- What reading a byte did to those that are in the buffer: the first of them was read.
abbrev pub TakesBuffered : List ℕ → ByteRead → List ℕ → Type 0
TakesBuffered [] result after = ⊤
TakesBuffered (byte ∷ more) result after = (result ≡ byte_reads.Byte byte) × (after ≡ more)

abbrev pub reader_feed : {R : Type 0} → (R → Option (List ℕ)) → Feed (Reader R)
reader_feed remaining = record {
  reads = λ s bytes t. Consumes (left_of remaining s) (left_of remaining t) bytes
      × (length bytes + allowance_of t ≡ allowance_of s) × (t.failed ≡ s.failed);
  fails = λ s t. t.failed ≡ true;
  ended = λ s. IsAtEnd (left_of remaining s);
  unread = λ s. is_some s.extra ≡ true;
  allowance = λ s. allowance_of s;
  ready = λ s. ready_of s;
}

consumes-nothing : (known : Option (List ℕ)) → Consumes known known []
consumes-nothing None = tt
consumes-nothing (Some bytes) = refl

consumes-onward : (first second third : Option (List ℕ)) (bytes more : List ℕ) → Consumes first second bytes
    → Consumes second third more → Consumes first third (bytes ++ more)
consumes-onward None second third bytes more h k = tt
consumes-onward (Some xs) None third bytes more h k = absurd h
consumes-onward (Some xs) (Some ys) None bytes more h k = absurd k
consumes-onward (Some xs) (Some ys) (Some zs) bytes more h k =
    h ∙ (ap (λ (x : List ℕ). bytes ++ x) k ∙ sym (append_assoc bytes more zs))

pub reader_is_feed : {R : Type 0} (remaining : R → Option (List ℕ)) → IsFeed (reader_feed remaining)
reader_is_feed remaining = record {
  nothing = λ s. (consumes-nothing (left_of remaining s), omega arith, refl);
  onward = λ s t u first more h k. (
    consumes-onward (left_of remaining s) (left_of remaining t) (left_of remaining u) first more h.0 k.0,
    omega (arith, length-append first more, h.1, k.1),
    k.2 ∙ h.2,
  );
  counted = λ s t bytes h. h.1;
}
