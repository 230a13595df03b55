-- What statements about requests may take as given: how sources are read, and what hosts answer.
use Rattle.std.specs.Prelude.{◌≡◌, ℕ, List, [], Ok}
use Rattle.ash_host.specs.declared.host_object.HostObject.{Ghosts}
use Rattle.ash_typed.specs.Modules.{Module}
use Rattle.ash_typed.specs.Signatures.{HostSignatures}
use Rattle.ash_typed.specs.SoundModules.{IsSound}
use Rattle.ash_meaning.specs.Answers.{Answerers, HostsFit}
use Rattle.ash_requests.specs.States.{State, Hosts, Embedding, world_of}

-- Each source that has a typed tree has one that is sound where the host offers this.
abbrev pub ReadsSound : {Fault : Type 0} → HostSignatures → Embedding Fault → Type 0
ReadsSound host embedding = (source : List ℕ) (tree : Module) → embedding.read source ≡ Ok tree → IsSound host tree

-- What hosts will answer is allowed by those that answer, and no state of theirs is longer than it may be.
abbrev pub HostsAnswer : {B : Type 0} → Ghosts B → Answerers B → State → Hosts → Type 0
HostsAnswer host answerers state hosts = HostsFit host answerers (world_of [] [] state hosts)
