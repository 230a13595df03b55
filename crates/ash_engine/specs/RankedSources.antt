-- That the classes of what is read have ranks.
use Rattle.std.specs.Prelude.{◌≡◌, ℕ, List, Ok}
use Rattle.ash_typed.specs.Modules.{Module}
use Rattle.ash_typed.specs.References.{AreRanks}
use Rattle.ash_typed.specs.Signatures.{HostSignatures, signatures_of}
use Rattle.ash_requests.specs.States.{Embedding}

-- Each source that has a typed tree has one whose classes have ranks where the host offers this.
abbrev pub ReadsRanked : {Fault : Type 0} → HostSignatures → Embedding Fault → Type 0
ReadsRanked host embedding = (source : List ℕ) (tree : Module) → embedding.read source ≡ Ok tree
    → (ranks : List ℕ) × AreRanks (signatures_of host tree) ranks
