-- The setting in which the code of a module runs.
use Rattle.std.proofs.Common.{◌≡◌, ℕ, List, [], length, refl, sym, ap, ◌∙◌, subst, slice_get, nat_eq, true, arith}
use Rattle.std.specs.Prelude.{Option, Some, None, codes}
use Rattle.std.specs.List.{AllByRecursion, IsDistinct}
use Rattle.std.specs.Option.{option_map_or}
use Rattle.std.proofs.lemmas.Option.{slice_get_past}
use Rattle.ash_typed.specs.Modules.{Module}
use Rattle.ash_meaning.specs.Classes.{Entry}
use Rattle.ash_soundness.specs.WellFormed.{Context, Known}
use Rattle.ash_object_ranks.specs.ObjectRanks.{ClassRanks, AreSound, HaveRanks, rank_at, rank_limit}
use Rattle.ash_object_ranks.proofs.Ranked.{objects_have_ranks}
use Rattle.ash_object_ranks.specs.ShownTables.{SlotNames}
use Rattle.ash_run_steps.specs.RunStates.{Names}
use Rattle.ash_run_steps.specs.Ranks.{rank_test}
use Rattle.ash_run_steps.proofs.RankTests.{ranks_pass}
use Rattle.ash_code.specs.declared.code.CodeParts.{CodeParts}
use Rattle.ash_code.specs.CompiledCode.{entries_of, IsCodeOf, IsSetFor}
use Rattle.ash_code.specs.Performing.{Setting}
use Rattle.ash_engine.specs.TableTasks.{entry_name}

-- the names of modules and functions
abbrev pub names_for : SlotNames → Module → Names
names_for modules tree = record { modules = modules; functions = entry_name tree }

abbrev pub setting : (code : CodeParts) (modules : SlotNames) (tree : Module) (known : Known) (ranks : ClassRanks)
    → ((slot : ℕ) → modules slot ≡ modules code.module → slot ≡ code.module) → Setting
setting code modules tree known ranks alone = record { code = code; names = names_for modules tree; alone = alone; test = rank_test known ranks }

pub is_set : (code : CodeParts) (modules : SlotNames) (c : Context) (ranks : ClassRanks)
    (alone : (slot : ℕ) → modules slot ≡ modules code.module → slot ≡ code.module) → modules code.module ≡ (c.program).name
    → IsCodeOf code c → AreSound c.host c.modules → HaveRanks c.host c.modules ranks
    → IsSetFor code c (setting code modules (c.program).tree c.modules ranks alone)
is_set code modules c ranks alone name is sound ranked = record {
  code = refl;
  owner = name;
  functions = λ index e at. ap (λ (o : Option Entry). option_map_or (λ (x : Entry). x.name) o (codes "(init)")) at;
  init = ap (λ (o : Option Entry). option_map_or (λ (x : Entry). x.name) o (codes "(init)"))
      (ap (slice_get (entries_of (c.program).tree)) is.count ∙ slice_get_past (entries_of (c.program).tree) (length (entries_of (c.program).tree)) (omega arith));
  ranked = λ env envs a well. ranks_pass (rank_at c.modules ranks (a.world).objects) rank_limit (a.world).objects (objects_have_ranks sound ranked (well.world).living);
}
