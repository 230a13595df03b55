-- What holds of a script that is accepted, by its typed tree alone.
use Rattle.std.proofs.Common.{◌≡◌, ℕ, List, length, Ok}
use Rattle.ash_registrations.specs.Registrations.{Registration}
use Rattle.ash_tree.specs.Tree.{Item}
use Rattle.ash_typed.specs.Modules.{Module}
use Rattle.ash_type_rules.specs.ItemRules.{check_module}
use Rattle.ash_type_rules.specs.Nesting.{ItemsDeclareInBlocks}
use Rattle.ash_type_rules.proofs.ModuleLaws.{check_module-exact}
use Rattle.ash_type_rules.proofs.SoundnessModules.{module_sound}
use Rattle.ash_class_cycles.specs.ClassReferences.{DeclaredClassRefers, classes_of}
use Rattle.ash_class_cycles.specs.Paths.{AreRanksAlong}
use Rattle.ash_class_cycles.proofs.RankLaws.{typed_ranks}
use Rattle.ash_check.specs.CheckedModules.{IsChecked}

-- what is typed is sound, and ranks of the written classes are ranks of the typed ones
pub is_checked : (registrations : List Registration) (items : List Item) (typed : Module) (ranks : List ℕ) → ItemsDeclareInBlocks items → check_module registrations items ≡ Ok typed → AreRanksAlong (DeclaredClassRefers (classes_of items)) (length (classes_of items)) ranks → IsChecked registrations typed ranks
is_checked registrations items typed ranks nested walked are =
    let by_rules = (check_module-exact registrations items typed).0 walked in
    record {
      sound = module_sound registrations items typed nested by_rules;
      ranked = typed_ranks registrations items typed by_rules ranks are;
    }
