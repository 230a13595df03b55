-- Modules that are read have ranks.
use Rattle.std.proofs.Common.{◌≡◌, ℕ, List, [], refl, ap, ◌∙◌, subst, find}
use Rattle.std.specs.Prelude.{Option, Some, None, Result, Ok, Err}
use Rattle.std.specs.Option.{option_and_then}
use Rattle.std.proofs.lemmas.Option.{same_Some}
use Rattle.ash_typed.specs.Modules.{Module}
use Rattle.ash_typed.specs.References.{AreRanks}
use Rattle.ash_typed.specs.Signatures.{HostSignatures, signatures_of}
use Rattle.ash_requests.specs.States.{LoadedModule, Embedding, has_name}
use Rattle.ash_requests.specs.Tasks.{tree_in, tree_of}
use Rattle.ash_requests.specs.Premises.{ReadsSound}
use Rattle.ash_soundness.specs.WellFormedStates.{known_of}
use Rattle.ash_soundness.proofs.Entries.{chained}
use Rattle.ash_object_ranks.specs.ObjectRanks.{ClassRanks, AreSound, HaveRanks}
use Rattle.ash_engine.specs.RankedSources.{ReadsRanked}

module _ {Fault : Type 0} (embedding : Embedding Fault) (host : HostSignatures) where
  read_from : (r : Result Module Fault) (tree : Module) → tree_in r ≡ Some tree → r ≡ Ok tree
  read_from (Ok t) tree e = let same : t ≡ tree = cc in ap (λ (x : Module). Ok x) same
  read_from (Err fault) tree e = absurd (cc)

  -- what is known is what some source is read as
  known_read : (ms : List LoadedModule) (name : List ℕ) (tree : Module) → known_of embedding ms name ≡ Some tree → (source : List ℕ) × (embedding.read source ≡ Ok tree)
  known_read ms name tree known =
      let found = chained (tree_of embedding) (find (has_name name) ms) tree known in
      ((found.0).source, read_from (embedding.read (found.0).source) tree found.2)

  pub known_sound : ReadsSound host embedding → (ms : List LoadedModule) → AreSound host (known_of embedding ms)
  known_sound sound ms name tree known = let read = known_read ms name tree known in sound read.0 tree read.1

  abbrev Ranked : Option Module → Type 0
  Ranked o = (tree : Module) → o ≡ Some tree → (ranks : List ℕ) × AreRanks (signatures_of host tree) ranks

  ranks_in : (o : Option Module) → Ranked o → List ℕ
  ranks_in None each = []
  ranks_in (Some tree) each = (each tree refl).0

  are_ranks : (o : Option Module) (each : Ranked o) (tree : Module) → o ≡ Some tree → AreRanks (signatures_of host tree) (ranks_in o each)
  unfolding ranks_in
  are_ranks None each tree e = absurd (cc)
  are_ranks (Some t) each tree e = subst (λ (x : Module). AreRanks (signatures_of host x) (each t refl).0) (same_Some t tree e) (each t refl).1

  -- ranks of the classes of modules that are known
  pub class_ranks : ReadsRanked host embedding → List LoadedModule → ClassRanks
  class_ranks ranked ms name = ranks_in (known_of embedding ms name) (λ tree known. let read = known_read ms name tree known in ranked read.0 tree read.1)

  pub known_ranked : (ranked : ReadsRanked host embedding) (ms : List LoadedModule) → HaveRanks host (known_of embedding ms) (class_ranks ranked ms)
  unfolding class_ranks
  known_ranked ranked ms name tree known = are_ranks (known_of embedding ms name) (λ tree known. let read = known_read ms name tree known in ranked read.0 tree read.1) tree known
