-- What checking a source comes to: the items of its script, or the fault for which it is none that is typed.
--
-- A source that has no tokens has the fault of that, and one whose tokens are no script has their first fault. A script
-- is accepted exactly where the rules of typing give it a typed module and no class reaches itself by what its fields
-- hold. One that the rules give none has the first fault of the walk, and one with such a class the cycle that is
-- reported.
use Rattle.std.specs.Prelude.{◌≡◌, ◌-◌, ℕ, List, length, map, Option, Some, None, Result, Ok, Err}
use Rattle.std.specs.List.{slice_get}
use Rattle.ash_lex.specs.Tokens.{Meaning, Lexeme}
use Rattle.ash_lex.specs.declared.faults.LexFault.{LexFault}
use Rattle.ash_tree.specs.declared.tree.places.Position.{Position}
use Rattle.ash_tree.specs.GrammarTokens.{Tokens}
use Rattle.ash_tree.specs.Tree.{Item}
use Rattle.ash_tree.specs.Grammar.{Derives}
use Rattle.ash_parse.specs.declared.faults.ParseFault.{ParseFault}
use Rattle.ash_parse.specs.Readers.{Halt, ParseResult}
use Rattle.ash_parse.specs.ItemReader.{module_at}
use Rattle.ash_parse.specs.ParseFaults.{fault_of}
use Rattle.ash_parse.specs.FirstFault.{FirstParseFault}
use Rattle.ash_registry.specs.AcceptedRegistrations.{Registration}
use Rattle.ash_type_rules.specs.declared.fault.Fault.{Fault}
use Rattle.ash_type_rules.specs.ItemRules.{check_module}
use Rattle.ash_type_rules.specs.TypedModules.{IsTyped}
use Rattle.ash_typed.specs.Modules.{Module}
use Rattle.ash_class_cycles.specs.ClassReferences.{DeclaredClassRefers, classes_of}
use Rattle.ash_class_cycles.specs.Paths.{IsReportedCycle, Reaches}
use Rattle.ash_check.specs.ScriptFaults.{ScriptFault, Broken, Cyclic}
use Rattle.ash_check.specs.Checks.{checked, names_of_cycle}
use Rattle.ash_sources.specs.Lexing.{Lexes}
use Rattle.ash_sources.specs.Scanning.{lexed}
use Rattle.ash_sources.specs.SourceFaults.{SourceFault, Lexical, Syntactic, Checked}

-- the items of a script that is typed, or a fault
abbrev pub SourceResult : Type 0
SourceResult = Result (List Item) SourceFault

-- tokens as the grammar sees them

abbrev pub seen : Lexeme → Meaning × Position
seen t = (t.meaning, record { at = t.from; line = t.line })

abbrev pub tokens_in : List Lexeme → Tokens
tokens_in tokens = map seen tokens

abbrev pub end_by : Option Lexeme → ℕ
end_by None = 0
end_by (Some t) = t.to

-- where the last of the tokens ends
abbrev pub end_in : List Lexeme → ℕ
end_in tokens = end_by (slice_get tokens (length tokens - 1))

-- the tokens are no script, and this is their first fault by the grammar
pub record IsNoScript (tokens : List Lexeme) (fault : ParseFault) : Type 0 where
  pub halt : Halt
  pub first : FirstParseFault (tokens_in tokens) halt
  pub reported : fault ≡ fault_of (end_in tokens) halt

-- The tokens are those of a script with these items: the rules of typing give it a typed module, and no class reaches
-- itself.
pub record IsTypedScript (registered : List Registration) (tokens : List Lexeme) (items : List Item) : Type 0 where
  pub derived : Derives 0 (tokens_in tokens) items
  pub typed : Module
  pub by_rules : IsTyped registered items typed
  pub acyclic : (class : ℕ) → Reaches (DeclaredClassRefers (classes_of items)) class class → ⊥

-- The tokens are those of a script that breaks a rule of typing: this is the first fault, in the order in which a
-- script is walked.
pub record IsUntypedScript (registered : List Registration) (tokens : List Lexeme) (fault : Fault) : Type 0 where
  pub items : List Item
  pub derived : Derives 0 (tokens_in tokens) items
  pub first : check_module registered items ≡ Err fault

-- The tokens are those of a script to which the rules give a typed module, and a class reaches itself: these are the
-- names of the one cycle that is reported.
pub record IsCyclicScript (registered : List Registration) (tokens : List Lexeme) (names : List (List ℕ)) : Type 0 where
  pub items : List Item
  pub derived : Derives 0 (tokens_in tokens) items
  pub typed : Module
  pub by_rules : IsTyped registered items typed
  pub first : ℕ
  pub others : List ℕ
  pub cycle : IsReportedCycle (DeclaredClassRefers (classes_of items)) first others
  pub reported : names ≡ names_of_cycle (classes_of items) (first, others)

-- the tokens are those of no script that is typed, and this is why
abbrev pub HasFault : List Registration → List Lexeme → SourceFault → Type 0
HasFault registered tokens (Lexical fault) = ⊥
HasFault registered tokens (Syntactic fault) = IsNoScript tokens fault
HasFault registered tokens (Checked (Broken fault)) = IsUntypedScript registered tokens fault
HasFault registered tokens (Checked (Cyclic names)) = IsCyclicScript registered tokens names

-- what checking the tokens of a source comes to
abbrev pub ChecksTokens : List Registration → List Lexeme → SourceResult → Type 0
ChecksTokens registered tokens (Ok items) = IsTypedScript registered tokens items
ChecksTokens registered tokens (Err fault) = HasFault registered tokens fault

-- what checking a source comes to, with these registrations
pub data Checks (registered : List Registration) (source : List ℕ) (outcome : SourceResult) : Type 0 where
  no_tokens : (fault : LexFault) → outcome ≡ Err (Lexical fault) → Lexes source (Err fault)
      → Checks registered source outcome
  has_tokens : (tokens : List Lexeme) → Lexes source (Ok tokens) → ChecksTokens registered tokens outcome
      → Checks registered source outcome

-- A source is accepted where it has tokens, the grammar derives a script from them, the rules give that a typed module
-- and no class reaches itself.
pub record IsAccepted (registered : List Registration) (source : List ℕ) : Type 0 where
  pub tokens : List Lexeme
  pub lexed : Lexes source (Ok tokens)
  pub items : List Item
  pub script : IsTypedScript registered tokens items

-- a source with tokens from which the grammar derives a script, to which the rules give a typed module, and some class
-- reaches itself
pub record HasCycle (registered : List Registration) (source : List ℕ) : Type 0 where
  pub tokens : List Lexeme
  pub lexed : Lexes source (Ok tokens)
  pub items : List Item
  pub derived : Derives 0 (tokens_in tokens) items
  pub typed : Module
  pub by_rules : IsTyped registered items typed
  pub class : ℕ
  pub cycle : Reaches (DeclaredClassRefers (classes_of items)) class class

-- the fault of such a source: the cycle that is reported
pub record ReportsCycle (registered : List Registration) (source : List ℕ) (fault : SourceFault) : Type 0 where
  pub tokens : List Lexeme
  pub lexed : Lexes source (Ok tokens)
  pub names : List (List ℕ)
  pub reported : fault ≡ Checked (Cyclic names)
  pub script : IsCyclicScript registered tokens names

-- The same as a function: that it gives what checking the source comes to is proved of it.

abbrev pub unless_fault : List Item → Result Module ScriptFault → SourceResult
unless_fault items (Ok typed) = Ok items
unless_fault items (Err fault) = Err (Checked fault)

abbrev pub items_checked : List Registration → List Item → SourceResult
items_checked registered items = unless_fault items (checked registered items)

abbrev pub script_checked : List Registration → List Lexeme → ParseResult (List Item) → SourceResult
script_checked registered tokens (Ok script) = items_checked registered script.0
script_checked registered tokens (Err halt) = Err (Syntactic (fault_of (end_in tokens) halt))

unfoldable pub tokens_checked : List Registration → List Lexeme → SourceResult
tokens_checked registered tokens = script_checked registered tokens (module_at (tokens_in tokens))

abbrev pub checked_on : List Registration → Result (List Lexeme) LexFault → SourceResult
checked_on registered (Ok tokens) = tokens_checked registered tokens
checked_on registered (Err fault) = Err (Lexical fault)

unfoldable pub checked_source : List Registration → List ℕ → SourceResult
checked_source registered source = checked_on registered (lexed source)
