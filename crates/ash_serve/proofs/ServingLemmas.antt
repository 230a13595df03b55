-- A run, request by request.
use Rattle.std.proofs.Common.{◌≡◌, ◌<◌, ℕ, true, false, List, [], ◌∷◌, ◌++◌, length, refl, sym, ap, ◌∙◌, subst, arith}
use Rattle.std.proofs.Common.{append_assoc, Option, Some, None, Result, Ok, Err, inl, inr}
use Rattle.std.proofs.lemmas.List.{append-nil}
use Rattle.std.specs.List.{AllByRecursion}
use Rattle.std.specs.Prelude.{OnOk}
use Rattle.ash_lines.specs.Source.{Feed, Faults, IsFeed}
use Rattle.ash_lines.specs.Sink.{Outlet, IsOutlet, Accepts, WritesAll, FailsPartway, Writes, Flushes}
use Rattle.ash_lines.specs.declared.sink.WriteFault.{WriteFault}
use Rattle.ash_lines.proofs.SinkLemmas.{accepts-nil, accepts-then, accepts-fails, accepts-flushes}
use Rattle.ash_lines.specs.declared.source.ReadFault.{ReadFault}
use Rattle.ash_lines.specs.declared.source.ReadFault.TheVariants.{TooLong, Failed}
use Rattle.ash_lines.specs.Lines.{HostRequest, Quit, BadRequest, LineTooLong, Command, Single, Batch, ContinuesRun, next}
use Rattle.ash_lines.specs.Lines.{next_line, ConsistsOf, is_unfinished}
use Rattle.ash_lines.specs.ReplyText.{HostReply, QuitReply, BadRequestReply, LineTooLongReply}
use Rattle.ash_serve.specs.InputItems.{BeginsWith}
use Rattle.ash_serve.specs.CommandReplies.{CommandReply, SingleReply, BatchReplied, command_reply_of, command_text}
use Rattle.ash_serve.specs.CommandReplies.{replies_text}
use Rattle.ash_serve.specs.Serving.{HostRelation, Handling, RequestState, Serving, RunState, handling_with, handling_of}
use Rattle.ash_serve.specs.Serving.{without_output, HandlesNext, HandledCommand, RepliesTo, RepliesToAll, Log}
use Rattle.ash_serve.specs.Serving.{OngoingLog, Turn, Turns, IsPrompt, Serves, EndsByFault, FlushFails, Quits, Closes, ends_run}
use Rattle.ash_serve.specs.Serving.{BatchRelation, RequestRelation, relations}
use Rattle.ash_serve.specs.declared.fault.RunFault.{RunFault}
use Rattle.ash_serve.specs.declared.fault.RunFault.TheVariants as faults
use Rattle.ash_serve.specs.declared.reply.CommandReply as code
use Rattle.ash_serve.proofs.CommandLemmas.{consists-more}

-- by another name of the budget
pub by_budget : {S H : Type 0} (feed : Feed S) (handles : ℕ → RequestRelation H) (handles_batch : ℕ → BatchRelation H) (b budget : ℕ) (before after : RequestState S H) (r : Result (Option code.CommandReply) RunFault) → b ≡ budget → HandlesNext (handling_with feed (relations handles handles_batch b)) before r after → HandlesNext (handling_with feed (relations handles handles_batch budget)) before r after
by_budget feed handles handles_batch b budget before after r e w = subst (λ (x : ℕ). HandlesNext (handling_with feed (relations handles handles_batch x)) before r after) e w

-- how a run ends, by what reading and handling the next command did

fault_ends : {S K H : Type 0} (serving : Serving S K H) (before after : RunState S K H) (fault : RunFault) → WritesAll serving.outlet before.output [] after.output → HandlesNext (handling_of serving) (without_output before) (Err fault) (without_output after) → EndsByFault serving before fault after
fault_ends serving before after faults.Truncated x w = record { rest = w.0.0; cut = w.0.3; took = w.0.1; ended = w.0.2; flushed = x; host_same = w.1 }
fault_ends serving before after (faults.Read fault) x w = record { rest = w.0.0; unfinished = w.0.2; faults = w.0.1; flushed = x; host_same = w.1 }
fault_ends serving before after faults.Write x w = absurd w.0
fault_ends serving before after faults.NoMemory x w = record { rest = w.0; batch = w.2; took = w.1; flushed = x; host_same = w.3 }

-- what was read before a read failed
faulty_flush : {S K H : Type 0} (serving : Serving S K H) (before after : RunState S K H) (rest : List ℕ) (fault : ReadFault) → is_unfinished (next rest) ≡ true → Faults serving.feed before.input rest fault after.input → FailsPartway serving.outlet before.output [] after.output → after.host ≡ before.host → FlushFails serving before after
faulty_flush serving before after rest TooLong u w x e = record { rest = rest; unhandled = inl u; reached = after.input; took = w.0; failed = x; host_same = e }
faulty_flush serving before after rest Failed u w x e = record { rest = rest; unhandled = inl u; reached = w.0; took = w.1; failed = x; host_same = e }

fault_flush : {S K H : Type 0} (serving : Serving S K H) (before after : RunState S K H) (fault : RunFault) → FailsPartway serving.outlet before.output [] after.output → HandlesNext (handling_of serving) (without_output before) (Err fault) (without_output after) → FlushFails serving before after
fault_flush serving before after faults.Truncated x w = record { rest = w.0.0; unhandled = inl (ap is_unfinished w.0.3); reached = after.input; took = w.0.1; failed = x; host_same = w.1 }
fault_flush serving before after (faults.Read fault) x w = faulty_flush serving before after w.0.0 fault w.0.2 w.0.1 x w.1
fault_flush serving before after faults.Write x w = absurd w.0
fault_flush serving before after faults.NoMemory x w = record { rest = w.0; unhandled = inr w.2; reached = after.input; took = w.1; failed = x; host_same = w.3 }

-- the reply that ends a run is that to `quit`
quit_replied : {S H : Type 0} (handling : Handling S H) (before after : RequestState S H) (command : Command) (reply : CommandReply) → ends_run reply ≡ true → HandledCommand handling before command reply after → (reply ≡ SingleReply QuitReply) × HandledCommand handling before (Single Quit) (SingleReply QuitReply) after
quit_replied handling before after (Single Quit) (SingleReply QuitReply) e w = (refl, w)
quit_replied handling before after (Single (HostRequest request)) (SingleReply QuitReply) e w = absurd w.handled
quit_replied handling before after (Single BadRequest) (SingleReply QuitReply) e w = absurd w.handled
quit_replied handling before after (Single LineTooLong) (SingleReply QuitReply) e w = absurd w.handled
quit_replied handling before after (Batch lines) (SingleReply QuitReply) e w = absurd w.handled
quit_replied handling before after command (SingleReply (HostReply reply)) e w = absurd (let q : false ≡ true = e in cc)
quit_replied handling before after command (SingleReply BadRequestReply) e w = absurd (let q : false ≡ true = e in cc)
quit_replied handling before after command (SingleReply LineTooLongReply) e w = absurd (let q : false ≡ true = e in cc)
quit_replied handling before after command (BatchReplied count result) e w = absurd (let q : false ≡ true = e in cc)

pub quit_ends : {S K H : Type 0} (serving : Serving S K H) (before after : RunState S K H) (reply : code.CommandReply) → ends_run (command_reply_of reply) ≡ true → HandlesNext (handling_of serving) (without_output before) (Ok (Some reply)) (without_output after) → WritesAll serving.outlet before.output (command_text (command_reply_of reply)) after.output → Quits serving before after
quit_ends serving before after reply e w x =
    let q = quit_replied (handling_of serving) (without_output before) (without_output after) w.0 (command_reply_of reply) e w.1 in
    record { handled = q.1; written = subst (λ (y : CommandReply). WritesAll serving.outlet before.output (command_text y) after.output) q.0 x }

-- after any other reply it goes on
pub goes_on : {H : Type 0} (host : HostRelation H) (old new : H) (command : Command) (reply : CommandReply) → ends_run reply ≡ false → RepliesTo host old command reply new → ContinuesRun command
goes_on host old new (Single (HostRequest request)) reply e a = tt
goes_on host old new (Single BadRequest) reply e a = tt
goes_on host old new (Single LineTooLong) reply e a = tt
goes_on host old new (Batch lines) reply e a = tt
goes_on host old new (Single Quit) (SingleReply (HostReply reply)) e a = absurd a
goes_on host old new (Single Quit) (SingleReply QuitReply) e a = absurd (let q : true ≡ false = e in cc)
goes_on host old new (Single Quit) (SingleReply BadRequestReply) e a = absurd a
goes_on host old new (Single Quit) (SingleReply LineTooLongReply) e a = absurd a
goes_on host old new (Single Quit) (BatchReplied count result) e a = absurd a

-- a command is some bytes

pub next-nil : is_unfinished (next []) ≡ true
unfolding next next_line
next-nil = refl

pub spells-some : (bytes : List ℕ) (command : Command) → BeginsWith next bytes command → 0 < length bytes
spells-some [] command h = let e = sym next-nil ∙ ap is_unfinished (h []) in absurd (let q : true ≡ false = e in cc)
spells-some (byte ∷ bytes) command h = omega arith

-- one more command

pub replies-more : {H : Type 0} (host : HostRelation H) (commands : List Command) (replies : List CommandReply) (old middle new : H) (command : Command) (reply : CommandReply) → RepliesToAll host old commands replies middle → RepliesTo host middle command reply new → RepliesToAll host old (commands ++ command ∷ []) (replies ++ reply ∷ []) new
replies-more {H = H} host [] [] old middle new command reply h a = (new, subst (λ (x : H). RepliesTo host x command reply new) h a, refl)
replies-more host [] (other ∷ replies) old middle new command reply h a = absurd h
replies-more host (first ∷ commands) [] old middle new command reply h a = absurd h
replies-more host (first ∷ commands) (other ∷ replies) old middle new command reply h a = (h.0, h.1, replies-more host commands replies h.0 middle new command reply h.2 a)

pub text-more : (replies : List CommandReply) (reply : CommandReply) → replies_text (replies ++ reply ∷ []) ≡ replies_text replies ++ command_text reply
text-more [] reply = append-nil (command_text reply)
text-more (other ∷ replies) reply = ap (λ (x : List ℕ). command_text other ++ x) (text-more replies reply) ∙ sym (append_assoc (command_text other) (replies_text replies) (command_text reply))

abbrev pub log-nil : {S K H : Type 0} (serving : Serving S K H) → IsFeed serving.feed → IsOutlet serving.outlet → (state : RunState S K H) → Log serving state state
log-nil serving is io state = record { read = []; commands = []; replies = []; took = is.nothing state.input; consists = λ more. refl; handled = refl; written = accepts-nil serving.outlet io state.output }

abbrev pub log-more : {S K H : Type 0} (serving : Serving S K H) → IsFeed serving.feed → IsOutlet serving.outlet → (before last after : RunState S K H) (command : Command) (reply : CommandReply) → Log serving before last → HandledCommand (handling_of serving) (without_output last) command reply (without_output after) → Accepts serving.outlet last.output (command_text reply) after.output → Log serving before after
log-more serving is io before last after command reply log served x = record {
  read = log.read ++ served.bytes;
  commands = log.commands ++ command ∷ [];
  replies = log.replies ++ reply ∷ [];
  took = is.onward before.input last.input after.input log.read served.bytes log.took served.took;
  consists = λ more. subst (λ (y : List ℕ). ConsistsOf y (log.commands ++ command ∷ []) more) (sym (append_assoc log.read served.bytes more))
      (consists-more next log.commands (log.read ++ (served.bytes ++ more)) (served.bytes ++ more) more command (log.consists (served.bytes ++ more)) (served.spells more));
  handled = replies-more serving.host log.commands log.replies before.host last.host after.host command reply log.handled served.handled;
  written = subst (λ (y : List ℕ). Accepts serving.outlet before.output y after.output) (sym (text-more log.replies reply))
      (accepts-then serving.outlet io before.output last.output after.output (replies_text log.replies) (command_text reply) log.written x);
}

-- one more command after which the run goes on

all-more : (commands : List Command) (command : Command) → AllByRecursion ContinuesRun commands → ContinuesRun command → AllByRecursion ContinuesRun (commands ++ command ∷ [])
all-more [] command h on = (on, tt)
all-more (first ∷ commands) command h on = (h.0, all-more commands command h.1 on)

turns-more : {S K H : Type 0} (serving : Serving S K H) (before last after : RunState S K H) (commands : List Command) (replies : List CommandReply) (command : Command) (reply : CommandReply) → Turns serving before commands replies last → Turn serving last command reply after → Turns serving before (commands ++ command ∷ []) (replies ++ reply ∷ []) after
turns-more {S} {K} {H} serving before last after [] [] command reply h turn = (after, subst (λ (x : RunState S K H). Turn serving x command reply after) h turn, refl)
turns-more serving before last after [] (other ∷ replies) command reply h turn = absurd h
turns-more serving before last after (first ∷ commands) [] command reply h turn = absurd h
turns-more serving before last after (first ∷ commands) (other ∷ replies) command reply h turn = (h.0, h.1, turns-more serving h.0 last after commands replies command reply h.2 turn)

pub ongoing-nil : {S K H : Type 0} (serving : Serving S K H) → IsFeed serving.feed → IsOutlet serving.outlet → (state : RunState S K H) → OngoingLog serving state state
ongoing-nil serving is io state = record { log = log-nil serving is io state; on = tt; turns = refl }

pub ongoing-more : {S K H : Type 0} (serving : Serving S K H) → IsFeed serving.feed → IsOutlet serving.outlet → (before last after : RunState S K H) (command : Command) (reply : CommandReply) → OngoingLog serving before last → HandledCommand (handling_of serving) (without_output last) command reply (without_output after) → Accepts serving.outlet last.output (command_text reply) after.output → IsPrompt serving.feed serving.outlet after.input after.output → ContinuesRun command → OngoingLog serving before after
ongoing-more serving is io before last after command reply gone served x prompt on = record {
  log = log-more serving is io before last after command reply gone.log served x;
  on = all-more gone.log.commands command gone.on on;
  turns = turns-more serving before last after gone.log.commands gone.log.replies command reply gone.turns (record { handled = served; written = x; prompt = prompt });
}

-- a command takes from the allowance
pub served-falls : {S H : Type 0} (handling : Handling S H) → IsFeed handling.feed → (before after : RequestState S H) (command : Command) (reply : CommandReply) → HandledCommand handling before command reply after → handling.feed.allowance after.input < handling.feed.allowance before.input
served-falls handling is before after command reply w = let c = is.counted before.input after.input w.bytes w.took in let n = spells-some w.bytes command w.spells in omega (arith, c, n)

-- the end of a run by a fault
serves_fault : {S K H : Type 0} (serving : Serving S K H) (before last after : RunState S K H) (fault : RunFault) → OngoingLog serving before last → EndsByFault serving last fault after → Serves serving before (Err fault) after
serves_fault serving before last after faults.Truncated log w = (last, log, w)
serves_fault serving before last after (faults.Read fault) log w = (last, log, w)
serves_fault serving before last after faults.Write log w = (last, log, w)
serves_fault serving before last after faults.NoMemory log w = inr (last, log, w)

-- a reply that could not be written
pub serves_reply : {S K H : Type 0} (serving : Serving S K H) (before last after : RunState S K H) (reply : code.CommandReply) → OngoingLog serving before last → HandlesNext (handling_of serving) (without_output last) (Ok (Some reply)) (without_output after) → FailsPartway serving.outlet last.output (command_text (command_reply_of reply)) after.output → Serves serving before (Err faults.Write) after
serves_reply serving before last after reply log w x = (last, log, inl (record { command = w.0; reply = command_reply_of reply; handled = w.1; failed = x }))

-- the end of the input
pub serves_input : {S K H : Type 0} (serving : Serving S K H) (before last after : RunState S K H) (r : Result (Unit {0}) RunFault) → OngoingLog serving before last → HandlesNext (handling_of serving) (without_output last) (Ok None) (without_output after) → Closes serving.outlet last.output (Ok tt) r after.output → Serves serving before r after
serves_input serving before last after r log w (inl x) = rw x.1 (last, log, inl (record { took = w.0; ended = w.1; flushed = x.0; host_same = w.2 }))
serves_input serving before last after r log w (inr x) = rw x.1 (last, log, inr (record { rest = []; unhandled = inl next-nil; reached = after.input; took = w.0; failed = x.0; host_same = w.2 }))

-- a fault of the input
pub serves_input_fault : {S K H : Type 0} (serving : Serving S K H) (before last after : RunState S K H) (fault : RunFault) (r : Result (Unit {0}) RunFault) → OngoingLog serving before last → HandlesNext (handling_of serving) (without_output last) (Err fault) (without_output after) → Closes serving.outlet last.output (Err fault) r after.output → Serves serving before r after
serves_input_fault serving before last after fault r log w (inl x) = rw x.1 (serves_fault serving before last after fault log (fault_ends serving last after fault x.0 w))
serves_input_fault serving before last after fault r log w (inr x) = rw x.1 (last, log, inr (fault_flush serving last after fault x.0 w))

-- written, and then a flush failed
accepts-then-fails : {K : Type 0} (outlet : Outlet K) → IsOutlet outlet → (s t u : K) (bytes : List ℕ) → Accepts outlet s bytes t → FailsPartway outlet t [] u → FailsPartway outlet s bytes u
accepts-then-fails outlet io s t u bytes h k = subst (λ (y : List ℕ). FailsPartway outlet s y u) (append-nil bytes) (accepts-fails outlet io s t u bytes [] h k)

-- the reply to `quit`
pub serves_quit : {S K H : Type 0} (serving : Serving S K H) → IsOutlet serving.outlet → (before last after : RunState S K H) (middle : K) (reply : code.CommandReply) (r : Result (Unit {0}) RunFault) → OngoingLog serving before last → ends_run (command_reply_of reply) ≡ true → HandlesNext (handling_of serving) (without_output last) (Ok (Some reply)) (without_output after) → Accepts serving.outlet last.output (command_text (command_reply_of reply)) middle → Closes serving.outlet middle (Ok tt) r after.output → Serves serving before r after
serves_quit serving io before last after middle reply r log e w x (inl y) = rw y.1 (last, log, inr (quit_ends serving last after reply e w (accepts-flushes serving.outlet io last.output middle after.output (command_text (command_reply_of reply)) (Ok tt) x y.0)))
serves_quit serving io before last after middle reply r log e w x (inr y) = rw y.1 (serves_reply serving before last after reply log w (accepts-then-fails serving.outlet io last.output middle after.output (command_text (command_reply_of reply)) x y.0))

-- bytes and all before them went out
pub all-accepted : {K : Type 0} (outlet : Outlet K) (s t : K) (bytes : List ℕ) → WritesAll outlet s bytes t → Accepts outlet s bytes t
all-accepted outlet s t bytes w =
    record { out = outlet.buffered s ++ bytes; written = w.written; whole = sym (ap (λ (y : List ℕ). (outlet.buffered s ++ bytes) ++ y) w.empty ∙ append-nil (outlet.buffered s ++ bytes)); room = record { same = w.room_same; within = λ h. rw w.empty (omega arith) } }

-- written, and then flushed
pub writes-flushes : {K : Type 0} (outlet : Outlet K) → IsOutlet outlet → (s t u : K) (bytes : List ℕ) (r : Result (Unit {0}) WriteFault) → Accepts outlet s bytes t → Flushes outlet t r u → Writes outlet s bytes r u
writes-flushes outlet io s t u bytes (Ok x) h k = all-accepted outlet s u bytes (accepts-flushes outlet io s t u bytes (Ok x) h k)
writes-flushes outlet io s t u bytes (Err x) h k = accepts-then-fails outlet io s t u bytes h k

-- nothing waits once all is flushed
pub flush_prompts : {S K : Type 0} (feed : Feed S) (outlet : Outlet K) (input : S) (s t : K) (r : Result (Unit {0}) WriteFault) → Flushes outlet s r t → OnOk r (IsPrompt feed outlet input t)
flush_prompts feed outlet input s t (Ok x) h = inl h.empty
flush_prompts feed outlet input s t (Err x) h = tt
