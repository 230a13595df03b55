-- What is read of a line.
use Rattle.std.specs.Prelude.{◌≡◌, ◌<◌, ◌≤◌, ℕ, ◌+◌, ◌==◌, not, Bool, true, List, [], ◌∷◌, ◌++◌, length, take, Result}
use Rattle.std.specs.Prelude.{Ok, Err}
use Rattle.std.specs.List.{list_all}
use Rattle.ash_lex.specs.Tokens.{max_source_bytes}
use Rattle.ash_lines.specs.Source.{Feed, Faults}
use Rattle.ash_lines.specs.Lines.{max_line_bytes}
use Rattle.ash_lines.specs.declared.source.ReadFault.{ReadFault}
use Rattle.ash_lines.specs.declared.bytes.BytesRead.{BytesRead}
use Rattle.ash_lines.specs.declared.bytes.BytesRead.TheVariants as bytes_read
use Rattle.ash_lines.specs.declared.line.LineRest.{LineRest}
use Rattle.ash_lines.specs.declared.line.LineRest.TheVariants as rests
use Rattle.ash_lines.specs.declared.line.LineRead.{LineRead}
use Rattle.ash_lines.specs.declared.line.LineRead.TheVariants as line

-- whether none of these bytes is a line feed
unfoldable pub is_line : List ℕ → Bool
is_line bytes = list_all (λ byte. not (byte == 10)) bytes

-- Bytes of a line, with no line feed, were read.
pub record ReadsLinePart {S : Type 0} (feed : Feed S) (old : S) (bytes : List ℕ) (new : S) : Type 0 where
  pub took : feed.reads old bytes new
  pub line : is_line bytes ≡ true

-- A line was read, up to and past its line feed.
pub record ReadsWholeLine {S : Type 0} (feed : Feed S) (old : S) (bytes : List ℕ) (new : S) : Type 0 where
  pub took : feed.reads old (bytes ++ 10 ∷ []) new
  pub line : is_line bytes ≡ true

-- A fault came within a line.
pub record FaultsInLine {S : Type 0} (feed : Feed S) (old : S) (fault : ReadFault) (new : S) : Type 0 where
  pub bytes : List ℕ
  pub faults : Faults feed old bytes fault new
  pub line : is_line bytes ≡ true

-- What came before a line feed was nothing, or some bytes; or the end came first.
abbrev pub Skips : {S : Type 0} → Feed S → S → Result LineRest ReadFault → S → Type 0
Skips feed old (Ok rests.Empty) new = ReadsWholeLine feed old [] new
Skips feed old (Ok rests.Bytes) new = (bytes : List ℕ) × ReadsWholeLine feed old bytes new × (0 < length bytes)
Skips feed old (Ok rests.Cut) new = (bytes : List ℕ) × ReadsLinePart feed old bytes new × feed.ended new
Skips feed old (Err fault) new = FaultsInLine feed old fault new

-- How reading a line ended, and what the buffer has of it.
abbrev pub ReadsLine : {S : Type 0} → Feed S → S → Result LineRead ReadFault → List ℕ → S → Type 0
ReadsLine feed old (Ok line.Whole) buffer new = ReadsWholeLine feed old buffer new × (length buffer ≤ max_line_bytes)
ReadsLine feed old (Ok line.TooLong) buffer new =
    (bytes : List ℕ) × ReadsWholeLine feed old bytes new × (max_line_bytes < length bytes)
ReadsLine feed old (Ok line.End) buffer new = feed.reads old [] new × feed.ended new
ReadsLine feed old (Ok line.Cut) buffer new =
    (bytes : List ℕ) × ReadsLinePart feed old bytes new × (0 < length bytes) × feed.ended new
ReadsLine feed old (Err fault) buffer new = FaultsInLine feed old fault new

-- How reading a line that is too long ends, by what skipping the rest of it did.
abbrev pub IsLong : Result LineRest ReadFault → Result LineRead ReadFault → Type 0
IsLong (Ok rests.Cut) (Ok line.Cut) = Unit {0}
IsLong (Ok rests.Empty) (Ok line.TooLong) = Unit {0}
IsLong (Ok rests.Bytes) (Ok line.TooLong) = Unit {0}
IsLong (Err fault) (Err other) = fault ≡ other
IsLong _ _ = ⊥

-- the most bytes that are stored of a source: one more than a source may have, by which it is seen to be too long
abbrev pub max_prefix_bytes : ℕ
max_prefix_bytes = max_source_bytes + 1

-- what is stored of a source
unfoldable pub source_prefix : List ℕ → List ℕ
source_prefix source = take max_prefix_bytes source

-- Whether so many bytes came before the end, and what was stored of them.
abbrev pub ReadsBytes : {S : Type 0} → Feed S → S → Result BytesRead ReadFault → ℕ → List ℕ → S → Type 0
ReadsBytes feed old (Ok bytes_read.All) count prefix new =
    (bytes : List ℕ) × feed.reads old bytes new × (length bytes ≡ count) × (prefix ≡ source_prefix bytes)
ReadsBytes feed old (Ok bytes_read.Cut) count prefix new =
    (bytes : List ℕ) × feed.reads old bytes new × (length bytes < count) × feed.ended new
    × (prefix ≡ source_prefix bytes)
ReadsBytes feed old (Err fault) count prefix new =
    (bytes : List ℕ) × Faults feed old bytes fault new × (length bytes < count)
