-- What was read of a line, with its source, by what its parts are.
use Rattle.std.proofs.Common.{◌≡◌, ◌<◌, ◌≤◌, ℕ, true, List, [], ◌∷◌, ◌++◌, length, sym, ap, arith, Ok}
use Rattle.ash_lines.specs.Source.{Feed, IsFeed, Faults}
use Rattle.ash_lines.specs.Reading.{ReadsLinePart, ReadsWholeLine, FaultsInLine, source_prefix}
use Rattle.ash_lines.specs.Lines.{Line, BadRequest, LineTooLong, RequestLine, BatchLine, parse_line, Complete}
use Rattle.ash_lines.specs.Lines.{LoadHeader, BatchHeader, next_line, is_unfinished, max_line_bytes}
use Rattle.ash_serve.specs.InputItems.{ReadsItem, StopsInside, ReadsSource}
use Rattle.ash_lines.specs.declared.source.ReadFault.{ReadFault}
use Rattle.ash_serve.specs.declared.fault.RunFault.{RunFault}
use Rattle.ash_serve.specs.declared.fault.RunFault.TheVariants as faults
use Rattle.ash_serve.specs.declared.buffers.SourceRead.TheVariants as source_reads
use Rattle.ash_lines.proofs.SourceLemmas.{faults_after}
use Rattle.ash_serve.proofs.NextLemmas.{next-cut, unfinished-line, spells-long, spells-line, spells-header, spells-load}
use Rattle.ash_serve.proofs.NextLemmas.{spells-unended, cut-source, cut-unended}

-- a fault in a line that is unfinished
faulted : {S : Type 0} (feed : Feed S) (s t : S) (fault : ReadFault) (r : RunFault) (rest : List ℕ) → r ≡ faults.Read fault → Faults feed s rest fault t → is_unfinished (next_line rest) ≡ true → StopsInside next_line feed s r t
faulted feed s t fault r rest e f u = rw e (rest, f, u)

pub line_fault : {S : Type 0} (feed : Feed S) (s t : S) (fault : ReadFault) (r : RunFault) → r ≡ faults.Read fault → FaultsInLine feed s fault t → StopsInside next_line feed s r t
line_fault feed s t fault r e f = faulted feed s t fault r f.bytes e f.faults (unfinished-line f.bytes f.line)

pub line_cut : {S : Type 0} (feed : Feed S) (s t : S) → ((bytes : List ℕ) × ReadsLinePart feed s bytes t × (0 < length bytes) × feed.ended t) → StopsInside next_line feed s faults.Truncated t
line_cut feed s t w = (w.0, w.1.took, w.3, next-cut w.0 w.2 w.1.line)

pub line_long : {S : Type 0} (feed : Feed S) (s t : S) → ((bytes : List ℕ) × ReadsWholeLine feed s bytes t × (max_line_bytes < length bytes)) → ReadsItem next_line feed s (RequestLine LineTooLong) t
line_long feed s t w = record { bytes = w.0 ++ 10 ∷ []; spells = spells-long w.0 w.1.line w.2; took = w.1.took }

-- a request that is all in its line
pub line_whole : {S : Type 0} (feed : Feed S) (s t : S) (line : List ℕ) (request : Line) → ReadsWholeLine feed s line t → length line ≤ max_line_bytes → Complete request ≡ parse_line line → ReadsItem next_line feed s (RequestLine request) t
line_whole feed s t line request w l e = record { bytes = line ++ 10 ∷ []; spells = spells-line line request w.line l (sym e); took = w.took }

-- the line before a batch
pub line_header : {S : Type 0} (feed : Feed S) (s t : S) (line : List ℕ) (count : ℕ) → ReadsWholeLine feed s line t → length line ≤ max_line_bytes → BatchHeader count ≡ parse_line line → ReadsItem next_line feed s (BatchLine count) t
line_header feed s t line count w l e = record { bytes = line ++ 10 ∷ []; spells = spells-header line count w.line l (sym e); took = w.took }

-- a source after its line

pub source_fault : {S : Type 0} (feed : Feed S) → IsFeed feed → (s t u : S) (line name : List ℕ) (count : ℕ) (fault : ReadFault) (r : RunFault) → ReadsWholeLine feed s line t → length line ≤ max_line_bytes → parse_line line ≡ LoadHeader name count → r ≡ faults.Read fault → ((bytes : List ℕ) × Faults feed t bytes fault u × (length bytes < count)) → StopsInside next_line feed s r u
source_fault feed is s t u line name count fault r w l e q f =
    faulted feed s u fault r _ q (faults_after feed is s t u (line ++ 10 ∷ []) f.0 fault w.took f.1) (ap is_unfinished (cut-source line name f.0 count w.line l e (omega (arith, f.2))))

pub source_cut : {S : Type 0} (feed : Feed S) → IsFeed feed → (s t u : S) (line name : List ℕ) (count : ℕ) → ReadsWholeLine feed s line t → length line ≤ max_line_bytes → parse_line line ≡ LoadHeader name count → ((bytes : List ℕ) × feed.reads t bytes u × (length bytes < count) × feed.ended u) → StopsInside next_line feed s faults.Truncated u
source_cut feed is s t u line name count w l e f =
    (_, is.onward s t u (line ++ 10 ∷ []) f.0 w.took f.1, f.3, cut-source line name f.0 count w.line l e (omega (arith, f.2)))

pub source_line_fault : {S : Type 0} (feed : Feed S) → IsFeed feed → (s t m u : S) (line name prefix : List ℕ) (count : ℕ) (fault : ReadFault) (r : RunFault) → ReadsWholeLine feed s line t → length line ≤ max_line_bytes → parse_line line ≡ LoadHeader name count → r ≡ faults.Read fault → ((bytes : List ℕ) × feed.reads t bytes m × (length bytes ≡ count) × (prefix ≡ source_prefix bytes)) → FaultsInLine feed m fault u → StopsInside next_line feed s r u
source_line_fault feed is s t m u line name prefix count fault r w l e q b f =
    faulted feed s u fault r _ q
    (faults_after feed is s t u (line ++ 10 ∷ []) (b.0 ++ f.bytes) fault w.took (faults_after feed is t m u b.0 f.bytes fault b.1 f.faults))
    (ap is_unfinished (cut-unended line name b.0 f.bytes count w.line l e b.2 f.line))

pub source_line_cut : {S : Type 0} (feed : Feed S) → IsFeed feed → (s t m u : S) (line name prefix : List ℕ) (count : ℕ) → ReadsWholeLine feed s line t → length line ≤ max_line_bytes → parse_line line ≡ LoadHeader name count → ((bytes : List ℕ) × feed.reads t bytes m × (length bytes ≡ count) × (prefix ≡ source_prefix bytes)) → ((bytes : List ℕ) × ReadsLinePart feed m bytes u × feed.ended u) → StopsInside next_line feed s faults.Truncated u
source_line_cut feed is s t m u line name prefix count w l e b f =
    (_, is.onward s t u (line ++ 10 ∷ []) (b.0 ++ f.0) w.took (is.onward t m u b.0 f.0 b.1 f.1.took), f.2, cut-unended line name b.0 f.0 count w.line l e b.2 f.1.line)

pub source_unended : {S : Type 0} (feed : Feed S) → IsFeed feed → (s t m u : S) (line name prefix : List ℕ) (count : ℕ) → ReadsWholeLine feed s line t → length line ≤ max_line_bytes → parse_line line ≡ LoadHeader name count → ((bytes : List ℕ) × feed.reads t bytes m × (length bytes ≡ count) × (prefix ≡ source_prefix bytes)) → ((bytes : List ℕ) × ReadsWholeLine feed m bytes u × (0 < length bytes)) → ReadsItem next_line feed s (RequestLine BadRequest) u
source_unended feed is s t m u line name prefix count w l e b f = record {
  bytes = (line ++ 10 ∷ []) ++ (b.0 ++ (f.0 ++ 10 ∷ []));
  spells = spells-unended line name b.0 f.0 count w.line l e b.2 f.1.line f.2;
  took = is.onward s t u (line ++ 10 ∷ []) (b.0 ++ (f.0 ++ 10 ∷ [])) w.took (is.onward t m u b.0 (f.0 ++ 10 ∷ []) b.1 f.1.took);
}

-- a source and the end of its line
pub source_whole : {S : Type 0} (feed : Feed S) → IsFeed feed → (s t m u : S) (line name prefix : List ℕ) (count : ℕ) → ReadsWholeLine feed s line t → length line ≤ max_line_bytes → parse_line line ≡ LoadHeader name count → ((bytes : List ℕ) × feed.reads t bytes m × (length bytes ≡ count) × (prefix ≡ source_prefix bytes)) → ReadsWholeLine feed m [] u → ReadsSource feed s name (Ok source_reads.Whole) prefix u
source_whole feed is s t m u line name prefix count w l e b f = (
  b.0,
  record {
    bytes = (line ++ 10 ∷ []) ++ (b.0 ++ 10 ∷ []);
    spells = spells-load line name b.0 count w.line l e b.2;
    took = is.onward s t u (line ++ 10 ∷ []) (b.0 ++ 10 ∷ []) w.took (is.onward t m u b.0 (10 ∷ []) b.1 f.took);
  },
  b.3,
)
