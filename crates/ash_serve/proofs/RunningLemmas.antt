-- A run over a reader and a writer, from the run over their source and sink.
use Rattle.std.proofs.Common.{◌≡◌, ◌<◌, ◌≤◌, ◌+◌, length-append, ℕ, true, is_some, length, List, [], ◌∷◌, ◌++◌, refl, sym, ap, ◌∙◌, subst}
use Rattle.std.proofs.Common.{arith, append_assoc, Option, Some, None, Ok, Err, Result, inl, inr, ⊎_elim, ◌⊎◌}
use Rattle.std.proofs.lemmas.List.{append-nil}
use Rattle.std.specs.Option.{option_to_list}
use Rattle.std.specs.Io.Buffered.{reader_remaining}
use Rattle.std.specs.Io.KnownBytes.{Appends, Keeps, Consumes, IsAtEnd, prepend_known}
use Rattle.ash_requests.specs.Requests.{Request, Reply}
use Rattle.ash_sources.specs.SourceFaults.{SourceFault}
use Rattle.ash_durable.specs.Batches.{BatchRequest, BatchResult}
use Rattle.ash_lines.specs.Lines.{Line, HostRequest, Quit, BadRequest, LineTooLong, Command, Single, Batch, ConsistsOf, next}
use Rattle.ash_lines.specs.ReplyText.{LineReply, HostReply, QuitReply, BadRequestReply, LineTooLongReply}
use Rattle.ash_serve.specs.CommandReplies.{CommandReply, SingleReply, BatchReplied, command_text, replies_text}
use Rattle.ash_serve.specs.Serving.{RequestRelation, BatchRelation, HostRelation, Serving, RunState, RepliesToLine, RepliesTo}
use Rattle.ash_serve.specs.Serving.{RepliesToAll, Log, Serves}
use Rattle.ash_serve.specs.Serving.{EndsBetweenRequests, Quits, run_state, serving_with}
use Rattle.ash_serve.specs.StreamRuns.{Run, KnownState, RunEnds, ReadsPrefix, ReadsProperPrefix, ReadsAll, GoOn}
use Rattle.ash_serve.specs.StreamRuns.{EndsWithQuit, LosesLittle, last_text, max_buffered_bytes}
use Rattle.ash_lines.specs.Reader.{left_of, allowance_of, max_input_bytes, reader_feed, reader_is_feed}
use Rattle.ash_lines.specs.Writer.{writer_outlet, writer_is_outlet}
use Rattle.ash_lines.specs.declared.reader.Reader.{Reader}
use Rattle.ash_lines.specs.declared.writer.Writer.{Writer}
use Rattle.ash_lines.specs.declared.source.ReadFault.TheVariants as read_faults
use Rattle.ash_serve.specs.declared.fault.RunFault.{RunFault}
use Rattle.ash_serve.specs.declared.fault.RunFault.TheVariants as faults
use Rattle.ash_lines.specs.Sink.{Outlet, IsOutlet, Accepts, WritesAll, FailsPartway}
use Rattle.ash_lines.proofs.SinkLemmas.{accepts-flushes}
use Rattle.ash_serve.proofs.CommandLemmas.{consists-more}
use Rattle.ash_serve.proofs.ServingLemmas.{log-more, replies-more, text-more, all-accepted, next-nil}

reads_prefix : (input left : Option (List ℕ)) (read : List ℕ) → Consumes input left read → ReadsPrefix input read
reads_prefix None left read h = tt
reads_prefix (Some xs) None read h = absurd h
reads_prefix (Some xs) (Some ys) read h = (ys, h)

reads_all : (input left : Option (List ℕ)) (read : List ℕ) → Consumes input left read → IsAtEnd left → ReadsAll input read
reads_all None left read h e = tt
reads_all (Some xs) None read h e = absurd h
reads_all (Some xs) (Some ys) read h e = h ∙ (ap (λ (y : List ℕ). read ++ y) e ∙ append-nil read)

-- a byte is left, where it is known what is left
abbrev HasMore : Option (List ℕ) → Type 0
HasMore None = Unit {0}
HasMore (Some bytes) = 0 < length bytes

reads_proper_prefix : (input left : Option (List ℕ)) (read : List ℕ) → Consumes input left read → HasMore left → ReadsProperPrefix input read
reads_proper_prefix None left read h m = tt
reads_proper_prefix (Some xs) None read h m = absurd h
reads_proper_prefix (Some xs) (Some ys) read h m = (ys, h, m)

has-more : (extra : Option ℕ) (known : Option (List ℕ)) → is_some extra ≡ true → HasMore (prepend_known (option_to_list extra) known)
has-more None known e = cc
has-more (Some byte) None e = tt
has-more (Some byte) (Some bytes) e = omega arith

pub keeps_all : (known : Option (List ℕ)) → Keeps known known
keeps_all None = tt
keeps_all (Some xs) = refl

-- a run over a reader and a writer
abbrev pub serving-over : {R W H : Type 0} → (R → Option (List ℕ)) → (W → Option (List ℕ)) → HostRelation H → Serving (Reader R) (Writer W) H
serving-over remaining contents host = serving_with (reader_feed remaining) (writer_outlet contents) host

-- the run so far, and bytes that were read after it
abbrev run-of : {R W H : Type 0} (remaining : R → Option (List ℕ)) (contents : W → Option (List ℕ)) (host : HostRelation H) (before last : RunState (Reader R) (Writer W) H) (t : Reader R) (rest : List ℕ) → allowance_of before.input ≡ max_input_bytes → Log (serving-over remaining contents host) before last → (reader_feed remaining).reads last.input rest t → Run host before.host last.host
run-of remaining contents host before last t rest a log took =
    let whole = (reader_is_feed remaining).onward before.input last.input t log.read rest log.took took in
    record {
      read = log.read ++ rest;
      commands = log.commands;
      rest = rest;
      replies = log.replies;
      consists = log.consists rest;
      handled = log.handled;
      bounded = omega (arith, whole.1, a);
    }

-- the same with nothing after it
abbrev run-nil : {R W H : Type 0} (remaining : R → Option (List ℕ)) (contents : W → Option (List ℕ)) (host : HostRelation H) (before last : RunState (Reader R) (Writer W) H) → allowance_of before.input ≡ max_input_bytes → Log (serving-over remaining contents host) before last → Run host before.host last.host
run-nil remaining contents host before last a log = record {
  read = log.read;
  commands = log.commands;
  rest = [];
  replies = log.replies;
  consists = subst (λ (x : List ℕ). ConsistsOf x log.commands []) (append-nil log.read) (log.consists []);
  handled = log.handled;
  bounded = omega (arith, log.took.1, a);
}

-- bytes that a writer took went out, if nothing was buffered before, nor is afterwards
all-out : {W : Type 0} (contents : W → Option (List ℕ)) (s t : Writer W) (bytes : List ℕ) → s.buffer.items ≡ [] → t.buffer.items ≡ [] → Accepts (writer_outlet contents) s bytes t → Appends (contents s.writer.now) (contents t.writer.now) bytes
all-out contents s t bytes n m h =
    let e : bytes ≡ h.out = ap (λ (y : List ℕ). y ++ bytes) (sym n) ∙ (h.whole ∙ (ap (λ (y : List ℕ). h.out ++ y) m ∙ append-nil h.out)) in
    subst (λ (y : List ℕ). Appends (contents s.writer.now) (contents t.writer.now) y) (sym e) h.written.0

-- all that was buffered went out
flushed : {K : Type 0} (outlet : Outlet K) → IsOutlet outlet → (s t u : K) (bytes : List ℕ) → Accepts outlet s bytes t → WritesAll outlet t [] u → Accepts outlet s bytes u
flushed outlet io s t u bytes h k = all-accepted outlet s u bytes (accepts-flushes outlet io s t u bytes (Ok tt) h k)

all-flushed : {R W H : Type 0} (remaining : R → Option (List ℕ)) (contents : W → Option (List ℕ)) (host : HostRelation H) (before last : RunState (Reader R) (Writer W) H) (t : Writer W) → before.output.buffer.items ≡ [] → (log : Log (serving-over remaining contents host) before last) → WritesAll (writer_outlet contents) last.output [] t → Appends (contents before.output.writer.now) (contents t.writer.now) (replies_text log.replies)
all-flushed remaining contents host before last t n log x =
    all-out contents before.output t (replies_text log.replies) n x.empty (flushed (writer_outlet contents) (writer_is_outlet contents) before.output last.output t (replies_text log.replies) log.written x)

last-more : (replies : List CommandReply) (reply : CommandReply) → last_text (replies ++ reply ∷ []) ≡ command_text reply
last-more [] reply = refl
last-more (first ∷ []) reply = refl
last-more (first ∷ other ∷ replies) reply = last-more (other ∷ replies) reply

-- no more is lost than what is buffered and what was being written
lost-within : {K : Type 0} (outlet : Outlet K) (s t u : K) (bytes more : List ℕ) (room : ℕ) → outlet.buffered s ≡ [] → outlet.room s ≡ room → Accepts outlet s bytes t → (x : FailsPartway outlet t more u) → length x.lost ≤ room + length more
lost-within outlet s t u bytes more room n r h x =
    let start : length (outlet.buffered s) ≤ outlet.room s = rw n (omega arith) in
    let fits = h.room.within start in
    let all = ap length x.whole in
    omega (arith, fits, all, length-append (outlet.buffered t) more, length-append x.out x.lost, h.room.same, r)

-- a prefix of the replies so far and of what was being written went out
part-out : {R W H : Type 0} (remaining : R → Option (List ℕ)) (contents : W → Option (List ℕ)) (host : HostRelation H) (before last : RunState (Reader R) (Writer W) H) (t : Writer W) (bytes : List ℕ) → before.output.buffer.items ≡ [] → before.output.room ≡ max_buffered_bytes → (log : Log (serving-over remaining contents host) before last) → FailsPartway (writer_outlet contents) last.output bytes t → (out : List ℕ) × (lost : List ℕ) × (replies_text log.replies ++ bytes ≡ out ++ lost) × (length lost ≤ max_buffered_bytes + length bytes) × Appends (contents before.output.writer.now) (contents t.writer.now) out
part-out remaining contents host before last t bytes n room log x =
    let s = before.output in
    let u = last.output in
    let text = replies_text log.replies in
    let whole : s.buffer.items ++ (text ++ bytes) ≡ (log.written.out ++ x.out) ++ x.lost =
    sym (append_assoc s.buffer.items text bytes) ∙ (ap (λ (y : List ℕ). y ++ bytes) log.written.whole ∙ (append_assoc log.written.out u.buffer.items bytes ∙ (ap (λ (y : List ℕ). log.written.out ++ y) x.whole ∙ sym (append_assoc log.written.out x.out x.lost)))) in (
      log.written.out ++ x.out,
      x.lost,
      ap (λ (y : List ℕ). y ++ (text ++ bytes)) (sym n) ∙ whole,
      lost-within (writer_outlet contents) s u t text bytes max_buffered_bytes n room log.written x,
      ((writer_is_outlet contents).broken s u t log.written.out x.out log.written.written x.broke).0,
    )

little : (replies : List CommandReply) (lost : List ℕ) → length lost ≤ max_buffered_bytes + length {A = ℕ} [] → LosesLittle replies lost
little replies lost h = omega (arith, h)

pub run_ends : {R W H : Type 0} (remaining : R → Option (List ℕ)) (contents : W → Option (List ℕ)) (host : HostRelation H) (before after : RunState (Reader R) (Writer W) H) (input : Option (List ℕ)) (r : Result (Unit {0}) RunFault) → left_of remaining before.input ≡ input → allowance_of before.input ≡ max_input_bytes → before.output.buffer.items ≡ [] → before.output.room ≡ max_buffered_bytes → Serves (serving-over remaining contents host) before r after → RunEnds host (run_state input (contents before.output.writer.now) before.host) r (contents after.output.writer.now) after.host
run_ends {H = H} remaining contents host before after input (Ok x) e a n room w =
    let last = w.0 in let log = w.1.log in
    ⊎_elim
    (λ (over : EndsBetweenRequests (serving-over remaining contents host) last after).
    let whole = (reader_is_feed remaining).onward before.input last.input after.input log.read [] log.took over.took in
    let from : Consumes input (left_of remaining after.input) log.read = subst (λ (y : Option (List ℕ)). Consumes y (left_of remaining after.input) log.read) e (subst (λ (y : List ℕ). Consumes (left_of remaining before.input) (left_of remaining after.input) y) (append-nil log.read) whole.0) in
    let run = run-nil remaining contents host before last a log in
    let all : (run : Run host before.host last.host) × ReadsPrefix input run.read × Appends (contents before.output.writer.now) (contents after.output.writer.now) (replies_text run.replies) × (run.rest ≡ []) × ((ReadsAll input run.read × GoOn run.commands) ⊎ EndsWithQuit run.commands)
    = (run, reads_prefix input (left_of remaining after.input) log.read from, all-flushed remaining contents host before last after.output n log over.flushed, refl, inl (reads_all input (left_of remaining after.input) log.read from over.ended, w.1.on)) in
    subst (λ (y : H). (run : Run host before.host y) × ReadsPrefix input run.read × Appends (contents before.output.writer.now) (contents after.output.writer.now) (replies_text run.replies) × (run.rest ≡ []) × ((ReadsAll input run.read × GoOn run.commands) ⊎ EndsWithQuit run.commands)) (sym over.host_same) all)
    (λ (left : Quits (serving-over remaining contents host) last after).
    let accepted = all-accepted (writer_outlet contents) last.output after.output (command_text (SingleReply QuitReply)) left.written in
    let more = log-more (serving-over remaining contents host) (reader_is_feed remaining) (writer_is_outlet contents) before last after (Single Quit) (SingleReply QuitReply) log left.handled accepted in (
      run-nil remaining contents host before after a more,
      reads_prefix input (left_of remaining after.input) more.read (subst (λ (y : Option (List ℕ)). Consumes y (left_of remaining after.input) more.read) e more.took.0),
      all-out contents before.output after.output (replies_text more.replies) n left.written.empty more.written,
      refl,
      inr (log.commands, refl, w.1.on),
    ))
    w.2
run_ends remaining contents host before after input (Err faults.Truncated) e a n room w =
    let last = w.0 in let log = w.1.log in let cut = w.2 in
    let whole = (reader_is_feed remaining).onward before.input last.input after.input log.read cut.rest log.took cut.took in
    let from : Consumes input (left_of remaining after.input) (log.read ++ cut.rest) = subst (λ (y : Option (List ℕ)). Consumes y (left_of remaining after.input) (log.read ++ cut.rest)) e whole.0 in
    let wrote = all-flushed remaining contents host before last after.output n log cut.flushed in
    rw cut.host_same (run-of remaining contents host before last after.input cut.rest a log cut.took, reads_all input (left_of remaining after.input) (log.read ++ cut.rest) from cut.ended, wrote, cut.cut, w.1.on)
run_ends remaining contents host before after input (Err (faults.Read read_faults.TooLong)) e a n room w =
    let last = w.0 in let log = w.1.log in let f = w.2 in
    let whole = (reader_is_feed remaining).onward before.input last.input after.input log.read f.rest log.took f.faults.0 in
    let from : Consumes input (left_of remaining after.input) (log.read ++ f.rest) = subst (λ (y : Option (List ℕ)). Consumes y (left_of remaining after.input) (log.read ++ f.rest)) e whole.0 in
    let wrote = all-flushed remaining contents host before last after.output n log f.flushed in
    rw f.host_same (run-of remaining contents host before last after.input f.rest a log f.faults.0, reads_proper_prefix input (left_of remaining after.input) (log.read ++ f.rest) from (has-more after.input.extra (reader_remaining remaining after.input.reader) f.faults.2), wrote, f.unfinished, omega (arith, whole.1, a, f.faults.1), w.1.on)
run_ends remaining contents host before after input (Err (faults.Read read_faults.Failed)) e a n room w =
    let last = w.0 in let log = w.1.log in let f = w.2 in let end = f.faults.0 in
    let whole = (reader_is_feed remaining).onward before.input last.input end log.read f.rest log.took f.faults.1 in
    let from : Consumes input (left_of remaining end) (log.read ++ f.rest) = subst (λ (y : Option (List ℕ)). Consumes y (left_of remaining end) (log.read ++ f.rest)) e whole.0 in
    let wrote = all-flushed remaining contents host before last after.output n log f.flushed in
    rw f.host_same (run-of remaining contents host before last end f.rest a log f.faults.1, reads_prefix input (left_of remaining end) (log.read ++ f.rest) from, wrote, f.unfinished, w.1.on)
run_ends remaining contents host before after input (Err faults.Write) e a n room (last, gone, inl f) =
    let log = gone.log in let served = f.handled in
    let whole = (reader_is_feed remaining).onward before.input last.input after.input log.read served.bytes log.took served.took in
    let part = part-out remaining contents host before last after.output (command_text f.reply) n room log f.failed in (
      record {
        read = log.read ++ served.bytes;
        commands = log.commands ++ f.command ∷ [];
        rest = [];
        replies = log.replies ++ f.reply ∷ [];
        consists = subst (λ (y : List ℕ). ConsistsOf y (log.commands ++ f.command ∷ []) []) (sym (append_assoc log.read served.bytes []) ∙ append-nil (log.read ++ served.bytes))
            (consists-more next log.commands (log.read ++ (served.bytes ++ [])) (served.bytes ++ []) [] f.command (log.consists (served.bytes ++ [])) (served.spells []));
        handled = replies-more host log.commands log.replies before.host last.host after.host f.command f.reply log.handled served.handled;
        bounded = omega (arith, whole.1, a);
      },
      reads_prefix input (left_of remaining after.input) (log.read ++ served.bytes) (subst (λ (y : Option (List ℕ)). Consumes y (left_of remaining after.input) (log.read ++ served.bytes)) e whole.0),
      inl next-nil,
      part.0,
      part.1,
      text-more log.replies f.reply ∙ part.2,
      subst (λ (text : List ℕ). length part.1 ≤ max_buffered_bytes + length text) (sym (last-more log.replies f.reply)) part.3,
      part.4,
      inr (log.commands, f.command, refl, gone.on),
    )
run_ends remaining contents host before after input (Err faults.Write) e a n room (last, gone, inr f) =
    let log = gone.log in
    let whole = (reader_is_feed remaining).onward before.input last.input f.reached log.read f.rest log.took f.took in
    let from = subst (λ (y : Option (List ℕ)). Consumes y (left_of remaining f.reached) (log.read ++ f.rest)) e whole.0 in
    let part = part-out remaining contents host before last after.output [] n room log f.failed in
    rw f.host_same (
      run-of remaining contents host before last f.reached f.rest a log f.took,
      reads_prefix input (left_of remaining f.reached) (log.read ++ f.rest) from,
      f.unhandled,
      part.0,
      part.1,
      sym (append-nil (replies_text log.replies)) ∙ part.2,
      little log.replies part.1 part.3,
      part.4,
      inl gone.on,
    )
run_ends remaining contents host before after input (Err faults.NoMemory) e a n room (inl same) =
    inl (same.host_same, subst (λ (y : Writer _). Keeps (contents before.output.writer.now) (contents y.writer.now)) (sym same.output_same) (keeps_all (contents before.output.writer.now)))
run_ends remaining contents host before after input (Err faults.NoMemory) e a n room (inr (last, gone, f)) =
    let log = gone.log in
    let whole = (reader_is_feed remaining).onward before.input last.input after.input log.read f.rest log.took f.took in
    let from : Consumes input (left_of remaining after.input) (log.read ++ f.rest) = subst (λ (y : Option (List ℕ)). Consumes y (left_of remaining after.input) (log.read ++ f.rest)) e whole.0 in
    let wrote = all-flushed remaining contents host before last after.output n log f.flushed in
    rw f.host_same (inr (run-of remaining contents host before last after.input f.rest a log f.took, reads_prefix input (left_of remaining after.input) (log.read ++ f.rest) from, wrote, f.batch, gone.on))

-- a run writes to the same writer to its end
pub serves_name : {R W H : Type 0} (remaining : R → Option (List ℕ)) (contents : W → Option (List ℕ)) (host : HostRelation H) (before after : RunState (Reader R) (Writer W) H) (r : Result (Unit {0}) RunFault) → Serves (serving-over remaining contents host) before r after → after.output.writer.ghost_name ≡ before.output.writer.ghost_name
serves_name remaining contents host before after (Ok x) w =
    ⊎_elim
    (λ (over : EndsBetweenRequests (serving-over remaining contents host) w.0 after). over.flushed.written.1 ∙ w.1.log.written.written.1)
    (λ (left : Quits (serving-over remaining contents host) w.0 after). left.written.written.1 ∙ w.1.log.written.written.1)
    w.2
serves_name remaining contents host before after (Err faults.Truncated) w = w.2.flushed.written.1 ∙ w.1.log.written.written.1
serves_name remaining contents host before after (Err (faults.Read fault)) w = w.2.flushed.written.1 ∙ w.1.log.written.written.1
serves_name remaining contents host before after (Err faults.Write) (last, gone, inl f) = f.failed.broke.1 ∙ gone.log.written.written.1
serves_name remaining contents host before after (Err faults.Write) (last, gone, inr f) = f.failed.broke.1 ∙ gone.log.written.written.1
serves_name remaining contents host before after (Err faults.NoMemory) (inl same) = ap (λ (y : Writer _). y.writer.ghost_name) same.output_same
serves_name remaining contents host before after (Err faults.NoMemory) (inr (last, gone, f)) = f.flushed.written.1 ∙ gone.log.written.written.1

-- the run, where the writer is lent as `old` and ends as `new`
pub run_writes : {R W H : Type 0} (remaining : R → Option (List ℕ)) (contents : W → Option (List ℕ)) (host : HostRelation H) (before after : RunState (Reader R) (Writer W) H) (input : Option (List ℕ)) (r : Result (Unit {0}) RunFault) (old new : W) → left_of remaining before.input ≡ input → allowance_of before.input ≡ max_input_bytes → before.output.buffer.items ≡ [] → before.output.room ≡ max_buffered_bytes → before.output.writer.now ≡ old → (after.output.writer.ghost_name ≡ before.output.writer.ghost_name → new ≡ after.output.writer.now) → Serves (serving-over remaining contents host) before r after → RunEnds host (run_state input (contents old) before.host) r (contents new) after.host
run_writes remaining contents host before after input r old new e a n room b f w =
    let ends = run_ends remaining contents host before after input r e a n room w in
    subst (λ (y : _). RunEnds host (run_state input (contents y) before.host) r (contents new) after.host) b
    (subst (λ (y : _). RunEnds host (run_state input (contents before.output.writer.now) before.host) r (contents y) after.host) (sym (f (serves_name remaining contents host before after r w))) ends)

-- what each request and each batch preserves, a run preserves

-- What holds of a host before a request holds of it afterwards.
abbrev pub Preserves : {H : Type 0} → RequestRelation H → (H → Type 0) → Type 0
Preserves {H} handles holds =
    (request : Request) (old new : H) (reply : Reply SourceFault)
    → handles request old reply new → holds old → holds new

-- So it does of a batch.
abbrev pub BatchPreserves : {H : Type 0} → BatchRelation H → (H → Type 0) → Type 0
BatchPreserves {H} handles_batch holds =
    (requests : List BatchRequest) (old new : H) (result : BatchResult)
    → handles_batch requests old result new → holds old → holds new

line-preserves : {H : Type 0} (handles : RequestRelation H) (holds : H → Type 0) → Preserves handles holds → (line : Line) (line_reply : LineReply) (old new : H) → RepliesToLine handles old line line_reply new → holds old → holds new
line-preserves handles holds is (HostRequest request) (HostReply reply) old new a h = is request old new reply a h
line-preserves handles holds is (HostRequest request) QuitReply old new a h = absurd a
line-preserves handles holds is (HostRequest request) BadRequestReply old new a h = absurd a
line-preserves handles holds is (HostRequest request) LineTooLongReply old new a h = absurd a
line-preserves handles holds is Quit QuitReply old new a h = subst holds (sym a) h
line-preserves handles holds is Quit (HostReply reply) old new a h = absurd a
line-preserves handles holds is Quit BadRequestReply old new a h = absurd a
line-preserves handles holds is Quit LineTooLongReply old new a h = absurd a
line-preserves handles holds is BadRequest BadRequestReply old new a h = subst holds (sym a) h
line-preserves handles holds is BadRequest (HostReply reply) old new a h = absurd a
line-preserves handles holds is BadRequest QuitReply old new a h = absurd a
line-preserves handles holds is BadRequest LineTooLongReply old new a h = absurd a
line-preserves handles holds is LineTooLong LineTooLongReply old new a h = subst holds (sym a) h
line-preserves handles holds is LineTooLong (HostReply reply) old new a h = absurd a
line-preserves handles holds is LineTooLong QuitReply old new a h = absurd a
line-preserves handles holds is LineTooLong BadRequestReply old new a h = absurd a

command-preserves : {H : Type 0} (host : HostRelation H) (holds : H → Type 0) → Preserves host.handles holds → BatchPreserves host.handles_batch holds → (command : Command) (reply : CommandReply) (old new : H) → RepliesTo host old command reply new → holds old → holds new
command-preserves host holds is batch (Single line) (SingleReply reply) old new a h = line-preserves host.handles holds is line reply old new a h
command-preserves host holds is batch (Batch lines) (BatchReplied count result) old new a h = batch _ old new result a.1 h
command-preserves host holds is batch (Single line) (BatchReplied count result) old new a h = absurd a
command-preserves host holds is batch (Batch lines) (SingleReply reply) old new a h = absurd a

all-keep : {H : Type 0} (host : HostRelation H) (holds : H → Type 0) → Preserves host.handles holds → BatchPreserves host.handles_batch holds → (commands : List Command) (replies : List CommandReply) (old new : H) → RepliesToAll host old commands replies new → holds old → holds new
all-keep host holds is batch [] [] old new a h = subst holds (sym a) h
all-keep host holds is batch [] (reply ∷ replies) old new a h = absurd a
all-keep host holds is batch (command ∷ commands) [] old new a h = absurd a
all-keep host holds is batch (command ∷ commands) (reply ∷ replies) old new a h =
    all-keep host holds is batch commands replies a.0 new a.2 (command-preserves host holds is batch command reply old a.0 a.1 h)

pub run_keeps : {H : Type 0} (relation : HostRelation H) (holds : H → Type 0) → Preserves relation.handles holds → BatchPreserves relation.handles_batch holds → (before : KnownState H) (r : Result (Unit {0}) RunFault) (output : Option (List ℕ)) (host : H) → RunEnds relation before r output host → holds before.host → holds host
run_keeps relation holds is batch before (Ok x) output host w h = all-keep relation holds is batch w.0.commands w.0.replies before.host host w.0.handled h
run_keeps relation holds is batch before (Err faults.Truncated) output host w h = all-keep relation holds is batch w.0.commands w.0.replies before.host host w.0.handled h
run_keeps relation holds is batch before (Err (faults.Read read_faults.TooLong)) output host w h = all-keep relation holds is batch w.0.commands w.0.replies before.host host w.0.handled h
run_keeps relation holds is batch before (Err (faults.Read read_faults.Failed)) output host w h = all-keep relation holds is batch w.0.commands w.0.replies before.host host w.0.handled h
run_keeps relation holds is batch before (Err faults.Write) output host w h = all-keep relation holds is batch w.0.commands w.0.replies before.host host w.0.handled h
run_keeps relation holds is batch before (Err faults.NoMemory) output host (inl w) h = subst holds (sym w.0) h
run_keeps relation holds is batch before (Err faults.NoMemory) output host (inr w) h = all-keep relation holds is batch w.0.commands w.0.replies before.host host w.0.handled h
