-- What a host over two disks is asked by commands, and what it gives.
use Rattle.std.specs.Prelude.{ℕ, List, [], ◌∷◌, map}
use Rattle.ash_disk.specs.Device.{Device}
use Rattle.ash_host.specs.declared.host_object.HostObject.{Ghosts}
use Rattle.ash_durable.specs.Batches.{HandlesBatch, HostCall, SingleCall, BatchCall, HostResult, SingleResult, BatchGiven}
use Rattle.ash_durable.specs.Hosting.{Hosted, Handles}
use Rattle.ash_lines.specs.Lines.{Command, Single, Batch, HostRequest}
use Rattle.ash_lines.specs.ReplyText.{HostReply}
use Rattle.ash_serve.specs.BatchLines.{batch_request}
use Rattle.ash_serve.specs.CommandReplies.{CommandReply, SingleReply, BatchReplied}
use Rattle.ash_serve.specs.Serving.{HostRelation, relations}

-- what such a host may do with requests and batches, within a budget
abbrev pub hosting : {D B : Type 0} → Device D → Ghosts B → ℕ → HostRelation (Hosted D B)
hosting device G budget = relations (Handles device G) (HandlesBatch device G) budget

-- the calls of a host for commands
abbrev pub host_calls : List Command → List HostCall
host_calls [] = []
host_calls (Single (HostRequest request) ∷ commands) = SingleCall request ∷ host_calls commands
host_calls (Single _ ∷ commands) = host_calls commands
host_calls (Batch lines ∷ commands) = BatchCall (map batch_request lines) ∷ host_calls commands

-- what a host gives, among the replies to commands
abbrev pub host_results : List CommandReply → List HostResult
host_results [] = []
host_results (SingleReply (HostReply reply) ∷ replies) = SingleResult reply ∷ host_results replies
host_results (SingleReply _ ∷ replies) = host_results replies
host_results (BatchReplied count result ∷ replies) = BatchGiven result ∷ host_results replies
