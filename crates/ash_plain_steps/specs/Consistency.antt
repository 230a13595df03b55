-- What is known of the modules that a state has.
use Rattle.std.specs.Prelude.{◌≡◌, ℕ, List, [], ◌∷◌, Ok}
use Rattle.std.specs.List.{AllByRecursion, insert}
use Rattle.std.specs.declared.cmp.Ordering.TheVariants.{Less}
use Rattle.ash_typed.specs.Modules.{module_of}
use Rattle.ash_requests.specs.States.{LoadedModule, Embedding, compare_names}
use Rattle.ash_plain_steps.specs.declared.state.LoadedModule as code_module
use Rattle.ash_plain_steps.specs.StateViews.{modules_seen}

-- these modules come after a name
abbrev pub ModulesComeAfter : List ℕ → List LoadedModule → Type 0
ModulesComeAfter name ms = AllByRecursion (λ (m : LoadedModule). compare_names name m.name ≡ Less) ms

-- each module comes before all that follow it: names ascend, and no two are one
abbrev pub ModulesAscend : List LoadedModule → Type 0
ModulesAscend [] = Unit {0}
ModulesAscend (m ∷ ms) = ModulesComeAfter m.name ms × ModulesAscend ms

-- the typed tree of a module is what its source is read as
abbrev pub IsReadFromSource : {Fault : Type 0} → Embedding Fault → code_module.LoadedModule → Type 0
IsReadFromSource embedding m = embedding.read m.source.items ≡ Ok (module_of m.tree)

-- The modules ascend by their names, and the typed tree of each is what its source is read as.
pub record AreConsistent {Fault : Type 0} (embedding : Embedding Fault)
    (ms : List code_module.LoadedModule) : Type 0 where
  pub ascending : ModulesAscend (modules_seen ms)
  pub read : AllByRecursion (IsReadFromSource embedding) ms

-- the modules with one more, at some place
abbrev pub IsModuleInserted : code_module.LoadedModule → List code_module.LoadedModule → List code_module.LoadedModule
    → Type 0
IsModuleInserted loaded old new = (place : ℕ) × (new ≡ insert old place loaded)
