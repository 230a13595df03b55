-- What a source is typed as: the typed tree of its script, or the fault for which it has none.
--
-- A source that is checked to be a script has the typed tree that the rules of typing give the script. Any other source
-- has the fault that checking it comes to.
use Rattle.std.specs.Prelude.{ℕ, List, Result, Ok, Err}
use Rattle.ash_lex.specs.Tokens.{Lexeme}
use Rattle.ash_tree.specs.Tree.{Item}
use Rattle.ash_tree.specs.Grammar.{Derives}
use Rattle.ash_registry.specs.AcceptedRegistrations.{Registration}
use Rattle.ash_type_rules.specs.TypedModules.{IsTyped}
use Rattle.ash_typed.specs.Modules.{Module}
use Rattle.ash_class_cycles.specs.ClassReferences.{DeclaredClassRefers, classes_of}
use Rattle.ash_class_cycles.specs.Paths.{Reaches}
use Rattle.ash_check.specs.ScriptFaults.{ScriptFault}
use Rattle.ash_check.specs.Checks.{checked}
use Rattle.ash_sources.specs.Lexing.{Lexes}
use Rattle.ash_sources.specs.CheckedSource.{SourceResult, tokens_in, checked_source}
use Rattle.ash_sources.specs.SourceFaults.{SourceFault, Checked}

-- the typed tree of a source, or a fault
abbrev pub TypedResult : Type 0
TypedResult = Result Module SourceFault

-- The source has tokens, the grammar derives a script from them, the rules give it this typed tree, and no class
-- reaches itself.
pub record IsTypedSource (registered : List Registration) (source : List ℕ) (typed : Module) : Type 0 where
  pub tokens : List Lexeme
  pub lexed : Lexes source (Ok tokens)
  pub items : List Item
  pub derived : Derives 0 (tokens_in tokens) items
  pub by_rules : IsTyped registered items typed
  pub acyclic : (class : ℕ) → Reaches (DeclaredClassRefers (classes_of items)) class class → ⊥

-- The same as a function: that it gives the typed tree where the source has one, and else the fault that checking comes
-- to, is proved of it.

abbrev pub typed_or_fault : Result Module ScriptFault → TypedResult
typed_or_fault (Ok typed) = Ok typed
typed_or_fault (Err fault) = Err (Checked fault)

-- what a script is typed as
abbrev pub check_items : List Registration → List Item → TypedResult
check_items registered items = typed_or_fault (checked registered items)

abbrev pub typed_if_checked : List Registration → SourceResult → TypedResult
typed_if_checked registered (Ok items) = check_items registered items
typed_if_checked registered (Err fault) = Err fault

unfoldable pub typed_source : List Registration → List ℕ → TypedResult
typed_source registered source = typed_if_checked registered (checked_source registered source)
