-- The classes of each source that is read have ranks.
use Rattle.std.proofs.Common.{◌≡◌, ◌↔◌, ◌<◌, ℕ, List, true, length, slice_get}
use Rattle.std.specs.Prelude.{Some, Ok}
use Rattle.std.proofs.lemmas.Option.{slice_get_within}
use Rattle.ash_registry.specs.AcceptedRegistrations.{Registration}
use Rattle.ash_class_cycles.specs.ClassReferences.{DeclaredClassRefers, classes_of}
use Rattle.ash_class_cycles.specs.ReportedCycle.{refers_at}
use Rattle.ash_class_cycles.proofs.CycleLaws.{same_acyclic, same_ranks}
use Rattle.ash_class_cycles.proofs.CycleSearches.{refers_at-Decides}
use Rattle.ash_class_cycles.proofs.RankLaws.{typed_ranks}
use Rattle.ash_tree.specs.Tree.{Class}
use Rattle.ash_sources.proofs.TypedSourceLaws.{typed_rules}
use Rattle.ash_states.specs.HostStates.{embedding_for, offered_to}
use Rattle.ash_engine.specs.RankedSources.{ReadsRanked}
use Rattle.ash_engine.proofs.RanksExist.{ranks_exist}

module _ (classes : List Class) where
  refer : (from to : ℕ) → (refers_at classes from to ≡ true) ↔ DeclaredClassRefers classes from to
  refer from to = ((refers_at-Decides classes from to).0, (refers_at-Decides classes from to).1)

  refer_back : (from to : ℕ) → DeclaredClassRefers classes from to ↔ (refers_at classes from to ≡ true)
  refer_back from to = ((refer from to).1, (refer from to).0)

  within : (from to : ℕ) → refers_at classes from to ≡ true → (from < length classes) × (to < length classes)
  within from to refers =
      let (other, at, there) = (refer from to).0 refers in
      let (one, here, holds) = there in
      (slice_get_within classes from one here, slice_get_within classes to other at)

pub read_ranked : (registered : List Registration) → ReadsRanked (offered_to registered) (embedding_for registered)
read_ranked registered source tree e =
    let typed = typed_rules registered source tree e in
    let classes : List Class = classes_of typed.items in
    let acyclic = same_acyclic (DeclaredClassRefers classes) (λ from to. refers_at classes from to ≡ true) (refer_back classes) typed.acyclic in
    let (ranks, along) = ranks_exist (refers_at classes) (length classes) (within classes) acyclic in
    let declared = same_ranks (λ from to. refers_at classes from to ≡ true) (DeclaredClassRefers classes) (length classes) ranks (refer classes) along in
    (ranks, typed_ranks registered typed.items tree typed.by_rules ranks declared)
