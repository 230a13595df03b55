-- What reading a command and handling it did.
use Rattle.std.proofs.Common.{◌≡◌, ℕ, List, [], ◌++◌, length, map, refl, sym, ap, ◌∙◌, subst, append_assoc, Ok, Err}
use Rattle.std.proofs.Common.{Result}
use Rattle.std.specs.declared.vec.Vec.{Vec}
use Rattle.std.specs.declared.alloc.Global.{Global as Memory}
use Rattle.std.proofs.lemmas.List.{append-nil}
use Rattle.ash_durable.specs.Batches.{BatchRequest}
use Rattle.ash_durable.specs.BatchViews.{batch_result_seen}
use Rattle.ash_lines.specs.Source.{IsFeed}
use Rattle.ash_lines.specs.Lines.{Line, RequestLine, BatchLine, Single, Batch, next_line, lines_at, is_unfinished}
use Rattle.ash_lines.specs.ReplyText.{line_reply_of}
use Rattle.ash_lines.specs.declared.reply.LineReply as code
use Rattle.ash_lines.proofs.SourceLemmas.{faults_after}
use Rattle.ash_requests.specs.declared.refusal.Refusal as refusal
use Rattle.ash_sources.specs.declared.fault.SourceFault as code_fault
use Rattle.ash_durable.specs.declared.batch.BatchReply as batch
use Rattle.ash_serve.specs.BatchLines.{batch_request, prefix_of, ReadsBatch}
use Rattle.ash_serve.specs.InputItems.{ReadsItem, StopsInside, IsLast}
use Rattle.ash_serve.specs.Serving.{Handling, HandlesCommand, RepliesToLine, BatchDependsOnPrefix, request_state}
use Rattle.ash_serve.specs.declared.fault.RunFault.{RunFault}
use Rattle.ash_serve.specs.declared.fault.RunFault.TheVariants as faults
use Rattle.ash_serve.specs.declared.reply.CommandReply.TheVariants as code_replies
use Rattle.ash_serve.proofs.CommandLemmas.{command-cut, command-unfinished, command-single, batch-cut, batch-whole}

-- reading stopped inside the line of a command
pub command_stopped : {S H : Type 0} (handling : Handling S H) (s t : S) (h : H) (r : RunFault) → StopsInside next_line handling.feed s r t → HandlesCommand handling (request_state s h) (Err r) (request_state t h)
command_stopped handling s t h faults.Truncated w = ((w.0, w.1, w.2, command-cut w.0 w.3), refl)
command_stopped handling s t h (faults.Read fault) w = ((w.0, w.1, command-unfinished w.0 w.2), refl)
command_stopped handling s t h faults.Write w = absurd w
command_stopped handling s t h faults.NoMemory w = absurd w

-- a request line by itself
pub line_replied : {S H : Type 0} (handling : Handling S H) (s t : S) (h k : H) (line : Line) (reply : code.LineReply) → ReadsItem next_line handling.feed s (RequestLine line) t → RepliesToLine handling.host.handles h line (line_reply_of reply) k → HandlesCommand handling (request_state s h) (Ok (code_replies.Single reply)) (request_state t k)
line_replied handling s t h k line reply w a = (Single line, record { bytes = w.bytes; spells = λ more. command-single (w.bytes ++ more) more line (w.spells more); took = w.took; handled = a })

-- ---- a batch, after its first line

pub batch_stopped : {S H : Type 0} (handling : Handling S H) → IsFeed handling.feed → (s t u : S) (h : H) (count : ℕ) (r : RunFault) → ReadsItem next_line handling.feed s (BatchLine count) t → StopsInside (lines_at count) handling.feed t r u → HandlesCommand handling (request_state s h) (Err r) (request_state u h)
batch_stopped handling is s t u h count faults.Truncated w f =
    ((w.bytes ++ f.0, is.onward s t u w.bytes f.0 w.took f.1, f.2, batch-cut (w.bytes ++ f.0) f.0 count (w.spells f.0) (ap is_unfinished f.3)), refl)
batch_stopped handling is s t u h count (faults.Read fault) w f =
    ((w.bytes ++ f.0, faults_after handling.feed is s t u w.bytes f.0 fault w.took f.1, ap is_unfinished (batch-cut (w.bytes ++ f.0) f.0 count (w.spells f.0) f.2)), refl)
batch_stopped handling is s t u h count faults.Write w f = absurd f
batch_stopped handling is s t u h count faults.NoMemory w f = absurd f

-- memory was refused
pub batch_refused : {S H : Type 0} (handling : Handling S H) → IsFeed handling.feed → (s t u : S) (h : H) (count : ℕ) → ReadsItem next_line handling.feed s (BatchLine count) t → ((rest : List ℕ) × handling.feed.reads t rest u × IsLast (lines_at count rest)) → HandlesCommand handling (request_state s h) (Err faults.NoMemory) (request_state u h)
batch_refused handling is s t u h count w f = (
  w.bytes ++ f.0,
  is.onward s t u w.bytes f.0 w.took f.1,
  record { count = count; more = f.0; header = w.spells f.0; last = f.2 },
  refl,
)

-- memory was refused once its lines were read
pub batch_unasked : {S H : Type 0} (handling : Handling S H) → IsFeed handling.feed → (s t u : S) (h : H) (count : ℕ) (lines : List Line) → ReadsItem next_line handling.feed s (BatchLine count) t → ReadsItem (lines_at count) handling.feed t lines u → HandlesCommand handling (request_state s h) (Err faults.NoMemory) (request_state u h)
batch_unasked handling is s t u h count lines w f =
    batch_refused handling is s t u h count w
    (f.bytes, f.took, rw (ap (lines_at count) (sym (append-nil f.bytes)) ∙ f.spells []) refl)

-- by what reading its lines did
pub batch_failed : {S H : Type 0} (handling : Handling S H) → IsFeed handling.feed → (s t u : S) (h : H) (count : ℕ) (r : RunFault) → ReadsItem next_line handling.feed s (BatchLine count) t → ReadsBatch handling.feed count t (Err r) u → HandlesCommand handling (request_state s h) (Err r) (request_state u h)
batch_failed handling is s t u h count faults.Truncated w f = batch_stopped handling is s t u h count faults.Truncated w f
batch_failed handling is s t u h count (faults.Read fault) w f = batch_stopped handling is s t u h count (faults.Read fault) w f
batch_failed handling is s t u h count faults.Write w f = absurd f
batch_failed handling is s t u h count faults.NoMemory w f = batch_refused handling is s t u h count w f

-- the prefixes of its requests were handled
pub batch_replied : {S H : Type 0} (handling : Handling S H) → IsFeed handling.feed → BatchDependsOnPrefix handling.host.handles_batch → (s t u : S) (h k : H) (count : ℕ) (lines : List Line) (asked : List BatchRequest) (result : Result (Vec batch.BatchReply Memory) (refusal.Refusal code_fault.SourceFault)) → ReadsItem next_line handling.feed s (BatchLine count) t → ReadsItem (lines_at count) handling.feed t lines u → length lines ≡ count → asked ≡ map prefix_of (map batch_request lines) → handling.host.handles_batch asked h (batch_result_seen result) k → HandlesCommand handling (request_state s h) (Ok (code_replies.Batch count result)) (request_state u k)
batch_replied handling is depends s t u h k count lines asked result w f n e a = (
  Batch lines,
  record {
    bytes = w.bytes ++ f.bytes;
    spells = λ more. batch-whole ((w.bytes ++ f.bytes) ++ more) (f.bytes ++ more) more count lines (ap next_line (append_assoc w.bytes f.bytes more) ∙ w.spells (f.bytes ++ more)) (f.spells more);
    took = is.onward s t u w.bytes f.bytes w.took f.took;
    handled = (sym n, depends (map batch_request lines) h k (batch_result_seen result) (subst (λ (x : List BatchRequest). handling.host.handles_batch x h (batch_result_seen result) k) e a));
  },
)
