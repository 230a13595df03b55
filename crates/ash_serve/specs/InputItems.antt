-- What is read of the input: its lines, its commands, or other items of which it consists.
use Rattle.std.specs.Prelude.{◌≡◌, ℕ, true, List, [], ◌++◌, Result, Ok, Err}
use Rattle.ash_requests.specs.Requests.{Load}
use Rattle.ash_lines.specs.Source.{Feed, Faults}
use Rattle.ash_lines.specs.Reading.{source_prefix}
use Rattle.ash_lines.specs.Lines.{HostRequest, BadRequest, RequestLine, BatchLine, Next, Cut, Whole, is_unfinished}
use Rattle.ash_lines.specs.Lines.{next_line, lines_at}
use Rattle.ash_serve.specs.declared.fault.RunFault.{RunFault}
use Rattle.ash_serve.specs.declared.fault.RunFault.TheVariants as faults
use Rattle.ash_serve.specs.declared.buffers.SourceRead.{SourceRead}
use Rattle.ash_serve.specs.declared.buffers.SourceRead.TheVariants as source_reads

-- The input begins with this item, however it goes on after these bytes.
abbrev pub BeginsWith : {Item : Type 0} → (List ℕ → Next Item) → List ℕ → Item → Type 0
BeginsWith next bytes item = (more : List ℕ) → next (bytes ++ more) ≡ Whole item more

-- An item of the input was read.
pub record ReadsItem {S Item : Type 0} (next : List ℕ → Next Item) (feed : Feed S) (old : S) (item : Item) (new : S)
    : Type 0 where
  pub bytes : List ℕ
  pub spells : BeginsWith next bytes item
  pub took : feed.reads old bytes new

-- Reading stopped before an item was whole: the input ended inside it, or a fault of the source came.
abbrev pub StopsInside : {S Item : Type 0} → (List ℕ → Next Item) → Feed S → S → RunFault → S → Type 0
StopsInside next feed old faults.Truncated new =
    (rest : List ℕ) × feed.reads old rest new × feed.ended new × (next rest ≡ Cut)
StopsInside next feed old (faults.Read fault) new =
    (rest : List ℕ) × Faults feed old rest fault new × (is_unfinished (next rest) ≡ true)
StopsInside next feed old faults.Write new = ⊥
StopsInside next feed old faults.NoMemory new = ⊥

-- What was read of a load under a name, whose line came first: its source, of which the prefix is stored, and the end of
-- its line.
abbrev pub ReadsSource : {S : Type 0} → Feed S → S → List ℕ → Result SourceRead RunFault → List ℕ → S → Type 0
ReadsSource feed start name (Ok source_reads.Whole) prefix new =
    (source : List ℕ) × ReadsItem next_line feed start (RequestLine (HostRequest (Load name source))) new
    × (prefix ≡ source_prefix source)
ReadsSource feed start name (Ok source_reads.Unended) prefix new =
    ReadsItem next_line feed start (RequestLine BadRequest) new
ReadsSource feed start name (Err fault) prefix new = StopsInside next_line feed start fault new

-- nothing follows what the input begins with
abbrev pub IsLast : {Item : Type 0} → Next Item → Type 0
IsLast (Whole item more) = more ≡ []
IsLast _ = Unit {0}

-- These bytes are a batch or the beginning of one: its first line is there, and nothing that follows the batch.
pub record BeginsBatch (bytes : List ℕ) : Type 0 where
  pub count : ℕ
  pub more : List ℕ
  pub header : next_line bytes ≡ Whole (BatchLine count) more
  pub last : IsLast (lines_at count more)
