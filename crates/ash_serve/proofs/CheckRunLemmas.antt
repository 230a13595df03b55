-- Checking a script: from what was read and written to what that says of the whole check.
use Rattle.std.proofs.Common.{◌≡◌, ◌<◌, ◌≤◌, ◌⊎◌, ℕ, List, [], ◌++◌, length, refl, sym, ap, ◌∙◌, subst, arith}
use Rattle.std.proofs.Common.{Option, Some, None, Ok, Err, Result, inl, inr, ⊎_elim}
use Rattle.std.proofs.lemmas.List.{append-nil, take_all, take_at}
use Rattle.std.specs.Io.KnownBytes.{Consumes, IsAtEnd, Appends, Keeps}
use Rattle.ash_registry.specs.AcceptedRegistrations.{Registration}
use Rattle.ash_sources.specs.SourceFaults.{SourceFault}
use Rattle.ash_lines.specs.Source.{Feed}
use Rattle.ash_lines.specs.Reading.{max_prefix_bytes, source_prefix, ReadsBytes}
use Rattle.ash_serve.specs.CheckRun.{verdict_line, verdict_on, verdict_status, ending_of, Judges, WritesVerdict}
use Rattle.ash_serve.specs.CheckRun.{ScriptStreams, ReadsScript, ChecksScript, IsScriptOf, ChecksFile, EndsCheck}
use Rattle.ash_serve.specs.CheckRun.{KnownCheck, check_state, streams_with}
use Rattle.ash_serve.specs.Program.{ending_status, end_of}
use Rattle.ash_lines.specs.Reader.{left_of, allowance_of, max_input_bytes, reader_feed}
use Rattle.ash_lines.specs.Writer.{writer_outlet}
use Rattle.ash_lines.specs.declared.reader.Reader.{Reader}
use Rattle.ash_lines.specs.declared.writer.Writer.{Writer}
use Rattle.ash_lines.specs.declared.bytes.BytesRead.{BytesRead}
use Rattle.ash_lines.specs.declared.bytes.BytesRead.TheVariants as bytes_read
use Rattle.ash_lines.specs.declared.source.ReadFault.{ReadFault}
use Rattle.ash_lines.specs.declared.source.ReadFault.TheVariants as read_faults
use Rattle.ash_serve.specs.declared.fault.RunFault.TheVariants as faults
use Rattle.ash_serve.specs.declared.program.ending.Ending.{Ending}
use Rattle.ash_serve.specs.declared.program.fault.ProgramFault.{ProgramFault}
use Rattle.ash_serve.specs.declared.program.fault.ProgramFault.TheVariants as program

-- so few bytes are all stored
prefix-whole : (bytes : List ℕ) → length bytes ≤ max_prefix_bytes → source_prefix bytes ≡ bytes
unfolding source_prefix
prefix-whole bytes h = take_all max_prefix_bytes bytes h

prefix-exact : (start rest : List ℕ) → length start ≡ max_prefix_bytes → source_prefix (start ++ rest) ≡ start
unfolding source_prefix
prefix-exact start rest e = take_at start rest max_prefix_bytes e

-- Over a source and a sink.

-- what is stored of 65,537 bytes, or of fewer where the source ends, is the script
pub script_read : {S : Type 0} (feed : Feed S) (s t : S) (came : BytesRead) (prefix : List ℕ) → ReadsBytes feed s (Ok came) max_prefix_bytes prefix t → ReadsScript feed s prefix t
script_read feed s t bytes_read.All prefix h = subst (λ (x : List ℕ). ReadsScript feed s x t) (sym (h.3 ∙ prefix-whole h.0 (omega (arith, h.2)))) (h.1, inl h.2)
script_read feed s t bytes_read.Cut prefix h = subst (λ (x : List ℕ). ReadsScript feed s x t) (sym (h.4 ∙ prefix-whole h.0 (omega (arith, h.2)))) (h.1, inr (h.2, h.3))

-- a read failed before that
pub script_unread : {S K : Type 0} (streams : ScriptStreams S K) (registered : List Registration) (s t : S) (k : K) (fault : ReadFault) (prefix : List ℕ) → ReadsBytes streams.feed s (Err fault) max_prefix_bytes prefix t → ChecksScript streams registered (check_state s k) (Err (program.Run (faults.Read fault))) (check_state t k)
script_unread streams registered s t k fault prefix h = (h.0, h.2, h.1, refl)

-- there was no memory to judge it
pub script_unjudged : {S K : Type 0} (streams : ScriptStreams S K) (registered : List Registration) (s t : S) (k : K) (script : List ℕ) (fault : ProgramFault) → ReadsScript streams.feed s script t → Judges registered script (Err fault) → ChecksScript streams registered (check_state s k) (Err fault) (check_state t k)
script_unjudged streams registered s t k script program.NoMemory h j = (inr (script, h, j), refl)
script_unjudged streams registered s t k script program.Usage h j = absurd j
script_unjudged streams registered s t k script (program.Registry fault) h j = absurd j
script_unjudged streams registered s t k script (program.Store fault) h j = absurd j
script_unjudged streams registered s t k script (program.Run fault) h j = absurd j

-- the script was read, and the verdict on it was written
pub script_reported : {S K : Type 0} (streams : ScriptStreams S K) (registered : List Registration) (s t : S) (k o : K) (script : List ℕ) (verdict : Option SourceFault) (r : Result Ending ProgramFault) → ReadsScript streams.feed s script t → verdict ≡ verdict_on registered script → WritesVerdict streams.outlet k verdict r o → ChecksScript streams registered (check_state s k) r (check_state t o)
script_reported streams registered s t k o script verdict (Ok ending) h e w = (script, h, subst (λ (x : Option SourceFault). WritesVerdict streams.outlet k x (Ok ending) o) e w)
script_reported streams registered s t k o script verdict (Err (program.Run faults.Write)) h e w = (script, h, subst (λ (x : Option SourceFault). WritesVerdict streams.outlet k x (Err (program.Run faults.Write)) o) e w)
script_reported streams registered s t k o script verdict (Err (program.Run faults.Truncated)) h e w = absurd w
script_reported streams registered s t k o script verdict (Err (program.Run (faults.Read fault))) h e w = absurd w
script_reported streams registered s t k o script verdict (Err (program.Run faults.NoMemory)) h e w = absurd w
script_reported streams registered s t k o script verdict (Err program.Usage) h e w = absurd w
script_reported streams registered s t k o script verdict (Err program.NoMemory) h e w = absurd w
script_reported streams registered s t k o script verdict (Err (program.Registry fault)) h e w = absurd w
script_reported streams registered s t k o script verdict (Err (program.Store fault)) h e w = absurd w

-- Over a reader and a writer.

script_of : (file left : Option (List ℕ)) (script : List ℕ) → Consumes file left script → (length script ≡ max_prefix_bytes) ⊎ ((length script < max_prefix_bytes) × IsAtEnd left) → IsScriptOf file script
script_of None left script h r = tt
script_of (Some xs) None script h r = absurd h
script_of (Some xs) (Some ys) script h r =
    ⊎_elim
    (λ (full : length script ≡ max_prefix_bytes). sym (ap source_prefix h ∙ prefix-exact script ys full))
    (λ (e : (length script < max_prefix_bytes) × (ys ≡ [])).
    let all : xs ≡ script = h ∙ (ap (λ (y : List ℕ). script ++ y) e.1 ∙ append-nil script) in
    sym (ap source_prefix all ∙ prefix-whole script (omega (arith, e.0))))
    r

keeps-same : {W : Type 0} (contents : W → Option (List ℕ)) (k o : Writer W) → o ≡ k → Keeps (contents k.writer.now) (contents o.writer.now)
keeps-same contents k o e = subst (λ (y : Writer _). Keeps (contents k.writer.now) (contents y.writer.now)) (sym e) (keeps (contents k.writer.now))
  where
    keeps : (known : Option (List ℕ)) → Keeps known known
    keeps None = tt
    keeps (Some xs) = refl

file-checked : {R W : Type 0} (remaining : R → Option (List ℕ)) (contents : W → Option (List ℕ)) (registered : List Registration) (s t : Reader R) (k o : Writer W) (file : Option (List ℕ)) (r : Result Ending ProgramFault) → left_of remaining s ≡ file → allowance_of s ≡ max_input_bytes → k.buffer.items ≡ [] → ChecksScript (streams_with (reader_feed remaining) (writer_outlet contents)) registered (check_state s k) r (check_state t o) → ChecksFile registered (check_state file (contents k.writer.now)) r (contents o.writer.now)
file-checked remaining contents registered s t k o file (Ok ending) e a b w = (
  w.0,
  script_of file (left_of remaining t) w.0 (subst (λ (y : Option (List ℕ)). Consumes y (left_of remaining t) w.0) e w.1.0.0) w.1.1,
  w.2.0,
  subst (λ (y : List ℕ). Appends (contents k.writer.now) (contents o.writer.now) (y ++ verdict_line (verdict_on registered w.0))) b w.2.1.written.0,
)
file-checked remaining contents registered s t k o file (Err (program.Run faults.Write)) e a b w = (
  w.0,
  script_of file (left_of remaining t) w.0 (subst (λ (y : Option (List ℕ)). Consumes y (left_of remaining t) w.0) e w.1.0.0) w.1.1,
  w.2.out,
  w.2.lost,
  w.2.broke.0,
  subst (λ (y : List ℕ). y ++ verdict_line (verdict_on registered w.0) ≡ w.2.out ++ w.2.lost) b w.2.whole,
)
file-checked remaining contents registered s t k o file (Err (program.Run (faults.Read read_faults.Failed))) e a b w = keeps-same contents k o w.3
file-checked remaining contents registered s t k o file (Err (program.Run (faults.Read read_faults.TooLong))) e a b w = absurd (omega (arith, w.1, w.2.0.1, w.2.1, a))
file-checked remaining contents registered s t k o file (Err (program.Run faults.Truncated)) e a b w = absurd w
file-checked remaining contents registered s t k o file (Err (program.Run faults.NoMemory)) e a b w = absurd w
file-checked remaining contents registered s t k o file (Err program.Usage) e a b w = absurd w
file-checked remaining contents registered s t k o file (Err program.NoMemory) e a b w = keeps-same contents k o w.1
file-checked remaining contents registered s t k o file (Err (program.Registry fault)) e a b w = absurd w
file-checked remaining contents registered s t k o file (Err (program.Store fault)) e a b w = absurd w

-- the sink writes into the writer that it was made with
checked-name : {R W : Type 0} (remaining : R → Option (List ℕ)) (contents : W → Option (List ℕ)) (registered : List Registration) (s t : Reader R) (k o : Writer W) (r : Result Ending ProgramFault) → ChecksScript (streams_with (reader_feed remaining) (writer_outlet contents)) registered (check_state s k) r (check_state t o) → o.writer.ghost_name ≡ k.writer.ghost_name
checked-name remaining contents registered s t k o (Ok ending) w = w.2.1.written.1
checked-name remaining contents registered s t k o (Err (program.Run faults.Write)) w = w.2.broke.1
checked-name remaining contents registered s t k o (Err (program.Run (faults.Read fault))) w = ap (λ (y : Writer _). y.writer.ghost_name) w.3
checked-name remaining contents registered s t k o (Err (program.Run faults.Truncated)) w = absurd w
checked-name remaining contents registered s t k o (Err (program.Run faults.NoMemory)) w = absurd w
checked-name remaining contents registered s t k o (Err program.Usage) w = absurd w
checked-name remaining contents registered s t k o (Err program.NoMemory) w = ap (λ (y : Writer _). y.writer.ghost_name) w.1
checked-name remaining contents registered s t k o (Err (program.Registry fault)) w = absurd w
checked-name remaining contents registered s t k o (Err (program.Store fault)) w = absurd w

-- the script was checked, where x is what the writer ends as
pub file_checked : {R W : Type 0} (remaining : R → Option (List ℕ)) (contents : W → Option (List ℕ)) (registered : List Registration) (s t : Reader R) (k o : Writer W) (file : Option (List ℕ)) (r : Result Ending ProgramFault) (before x : W) → left_of remaining s ≡ file → allowance_of s ≡ max_input_bytes → k.buffer.items ≡ [] → k.writer.now ≡ before → (o.writer.ghost_name ≡ k.writer.ghost_name → x ≡ o.writer.now) → ChecksScript (streams_with (reader_feed remaining) (writer_outlet contents)) registered (check_state s k) r (check_state t o) → ChecksFile registered (check_state file (contents before)) r (contents x)
file_checked remaining contents registered s t k o file r before x e a b n f w =
    let checked = file-checked remaining contents registered s t k o file r e a b w in
    subst (λ (y : _). ChecksFile registered (check_state file (contents y)) r (contents x)) n
    (subst (λ (y : _). ChecksFile registered (check_state file (contents k.writer.now)) r (contents y)) (sym (f (checked-name remaining contents registered s t k o r w))) checked)

-- The program ends by the verdict.

status-verdict : (verdict : Option SourceFault) → ending_status (ending_of verdict) ≡ verdict_status verdict
status-verdict None = refl
status-verdict (Some fault) = refl

pub ends_check : (registered : List Registration) (before : KnownCheck) (output : Option (List ℕ)) (r : Result Ending ProgramFault) → ChecksFile registered before r output → EndsCheck registered before (end_of r) output
ends_check registered before output (Ok ending) h = (h.0, h.1, ap ending_status h.2 ∙ status-verdict (verdict_on registered h.0), h.3)
ends_check registered before output (Err (program.Run faults.Write)) h = (h.0, h.1, refl, h.2, h.3, h.4, h.5)
ends_check registered before output (Err (program.Run (faults.Read read_faults.Failed))) h = (refl, h)
ends_check registered before output (Err (program.Run (faults.Read read_faults.TooLong))) h = absurd h
ends_check registered before output (Err (program.Run faults.Truncated)) h = absurd h
ends_check registered before output (Err (program.Run faults.NoMemory)) h = absurd h
ends_check registered before output (Err program.Usage) h = absurd h
ends_check registered before output (Err program.NoMemory) h = (refl, h)
ends_check registered before output (Err (program.Registry fault)) h = absurd h
ends_check registered before output (Err (program.Store fault)) h = absurd h
