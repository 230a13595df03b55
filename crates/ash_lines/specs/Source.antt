-- What a source of bytes gives.
use Rattle.std.specs.Prelude.{◌≡◌, ℕ, ◌+◌, List, [], ◌∷◌, ◌++◌, length, codes, Result, Ok, Err, Option, Some, None}
use Rattle.ash_lines.specs.declared.source.ReadFault.{ReadFault}
use Rattle.ash_lines.specs.declared.source.ReadFault.TheVariants.{TooLong, Failed}

-- what a source does between two moments, and what is left of it at one
pub record Feed (S : Type 0) : Type 1 where
  -- these bytes were read
  pub reads : S → List ℕ → S → Type 0
  -- a read failed
  pub fails : S → S → Type 0
  -- no byte is left
  pub ended : S → Type 0
  -- a byte is left
  pub unread : S → Type 0
  -- so many bytes may still be read
  pub allowance : S → ℕ
  -- these bytes come next, without waiting for them
  pub ready : S → List ℕ

-- Reading goes on from moment to moment, and each byte is taken from the allowance.
pub record IsFeed {S : Type 0} (feed : Feed S) : Type 0 where
  pub nothing : (s : S) → feed.reads s [] s
  pub onward : (s t u : S) (first then : List ℕ) → feed.reads s first t → feed.reads t then u
      → feed.reads s (first ++ then) u
  pub counted : (s t : S) (bytes : List ℕ) → feed.reads s bytes t → length bytes + feed.allowance t ≡ feed.allowance s

-- Bytes were read, and then this fault came: a byte past the allowance, or a read that failed.
abbrev pub Faults : {S : Type 0} → Feed S → S → List ℕ → ReadFault → S → Type 0
Faults feed old bytes TooLong new = feed.reads old bytes new × (feed.allowance new ≡ 0) × feed.unread new
Faults {S} feed old bytes Failed new = (last : S) × feed.reads old bytes last × feed.fails last new

-- One byte was read, or the end was.
abbrev pub ReadsNext : {S : Type 0} → Feed S → S → Result (Option ℕ) ReadFault → S → Type 0
ReadsNext feed old (Ok None) new = feed.reads old [] new × feed.ended new
ReadsNext feed old (Ok (Some byte)) new = feed.reads old (byte ∷ []) new
ReadsNext feed old (Err fault) new = Faults feed old [] fault new

-- What a read gives if these bytes are ready before it: the first of them, and the others are ready after it.
abbrev pub ReadyComesNext : List ℕ → Result (Option ℕ) ReadFault → List ℕ → Type 0
ReadyComesNext [] result after = Unit {0}
ReadyComesNext (byte ∷ more) result after = (result ≡ Ok (Some byte)) × (after ≡ more)

-- the code by which a fault is reported
abbrev pub read_code : ReadFault → List ℕ
read_code TooLong = codes "604 TooLong"
read_code Failed = codes "605 Read"
