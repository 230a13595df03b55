-- Commands that a host over two disks replied to in turn are a run of the definition, up to the first failure, and part
-- of a life of its store.
use Rattle.std.proofs.Common.{◌≡◌, ℕ, List, [], ◌∷◌, subst}
use Rattle.std.specs.Bool.{IsTrue}
use Rattle.ash_disk.specs.Device.{Device}
use Rattle.ash_host.specs.declared.host_object.HostObject.{Ghosts}
use Rattle.ash_durable.specs.Batches.{HandlesCalls}
use Rattle.ash_durable.specs.Hosting.{Hosted}
use Rattle.ash_durable.specs.KeptAnswers.{KeepsAnswers}
use Rattle.ash_durable.specs.Lives.{LivesOn}
use Rattle.ash_durable.specs.RequestRuns.{RunsToFailure}
use Rattle.ash_durable.proofs.KeptAnswers.{keeps_answers}
use Rattle.ash_durable.proofs.LivesOn.{lives_on}
use Rattle.ash_durable.proofs.Running.{runs_to_failure}
use Rattle.ash_lines.specs.Lines.{HostRequest, Quit, BadRequest, LineTooLong, Command, Single, Batch}
use Rattle.ash_lines.specs.ReplyText.{HostReply, QuitReply, BadRequestReply, LineTooLongReply}
use Rattle.ash_serve.specs.CommandReplies.{CommandReply, SingleReply, BatchReplied}
use Rattle.ash_serve.specs.HostCalls.{hosting, host_calls, host_results}
use Rattle.ash_serve.specs.Serving.{RepliesToAll}

-- a line that asks nothing of the host leaves it as it is
left_alone : {D B : Type 0} (device : Device D) (G : Ghosts B) (budget : ℕ) (old between new : Hosted D B) (commands : List Command) (replies : List CommandReply) → between ≡ old → HandlesCalls device G budget between (host_calls commands) (host_results replies) new → HandlesCalls device G budget old (host_calls commands) (host_results replies) new
left_alone {D} {B} device G budget old between new commands replies same h = subst (λ (host : Hosted D B). HandlesCalls device G budget host (host_calls commands) (host_results replies) new) same h

handles_all : {D B : Type 0} (device : Device D) (G : Ghosts B) (budget : ℕ) (old : Hosted D B) (commands : List Command) (replies : List CommandReply) (new : Hosted D B) → RepliesToAll (hosting device G budget) old commands replies new → HandlesCalls device G budget old (host_calls commands) (host_results replies) new
handles_all device G budget old [] [] new h = h
handles_all device G budget old (Single (HostRequest request) ∷ commands) (SingleReply (HostReply reply) ∷ replies) new h = (h.0, h.1, handles_all device G budget h.0 commands replies new h.2)
handles_all device G budget old (Batch lines ∷ commands) (BatchReplied count result ∷ replies) new h = (h.0, h.1.1, handles_all device G budget h.0 commands replies new h.2)
handles_all device G budget old (Single Quit ∷ commands) (SingleReply QuitReply ∷ replies) new h = left_alone device G budget old h.0 new commands replies h.1 (handles_all device G budget h.0 commands replies new h.2)
handles_all device G budget old (Single BadRequest ∷ commands) (SingleReply BadRequestReply ∷ replies) new h = left_alone device G budget old h.0 new commands replies h.1 (handles_all device G budget h.0 commands replies new h.2)
handles_all device G budget old (Single LineTooLong ∷ commands) (SingleReply LineTooLongReply ∷ replies) new h = left_alone device G budget old h.0 new commands replies h.1 (handles_all device G budget h.0 commands replies new h.2)
handles_all device G budget old [] (reply ∷ replies) new h = absurd h
handles_all device G budget old (command ∷ commands) [] new h = absurd h
handles_all device G budget old (command ∷ commands) (reply ∷ replies) new h = absurd h.1

pub replies_run : {D B : Type 0} (device : Device D) (G : Ghosts B) (budget : ℕ) (old : Hosted D B) (commands : List Command) (replies : List CommandReply) (new : Hosted D B) → RepliesToAll (hosting device G budget) old commands replies new → RunsToFailure device G budget old (host_calls commands) (host_results replies) new
replies_run device G budget old commands replies new h = runs_to_failure device G budget old (host_calls commands) (host_results replies) new (handles_all device G budget old commands replies new h)

pub replies_live : {D B : Type 0} (device : Device D) (G : Ghosts B) (budget : ℕ) (old : Hosted D B) (commands : List Command) (replies : List CommandReply) (new : Hosted D B) → RepliesToAll (hosting device G budget) old commands replies new → LivesOn device G budget old (host_calls commands) (host_results replies) new
replies_live device G budget old commands replies new h = lives_on device G budget old (host_calls commands) (host_results replies) new (handles_all device G budget old commands replies new h)

pub replies_kept : {D B : Type 0} (device : Device D) (G : Ghosts B) (stays : (disk : D) → IsTrue (device.honest disk) → device.leaves disk (device.clock disk) (device.seen disk)) (budget : ℕ) (old : Hosted D B) (commands : List Command) (replies : List CommandReply) (new : Hosted D B) → RepliesToAll (hosting device G budget) old commands replies new → KeepsAnswers device G budget old (host_calls commands) (host_results replies) new
replies_kept device G stays budget old commands replies new h = keeps_answers device G stays budget old (host_calls commands) (host_results replies) new (handles_all device G budget old commands replies new h)
