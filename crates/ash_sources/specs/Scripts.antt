-- The script that a source spells, or why it spells none. What is registered has no part in it.
use Rattle.std.specs.Prelude.{ℕ, List, Ok, Err}
use Rattle.ash_lex.specs.Tokens.{Lexeme}
use Rattle.ash_tree.specs.Tree.{Item}
use Rattle.ash_tree.specs.Grammar.{Derives}
use Rattle.ash_parse.specs.declared.faults.ParseFault.{ParseFault}
use Rattle.ash_sources.specs.Lexing.{Lexes}
use Rattle.ash_sources.specs.CheckedSource.{tokens_in, IsNoScript}
use Rattle.ash_sources.specs.SourceFaults.{SourceFault, Lexical, Syntactic}

-- the source has tokens, from which the grammar derives these items
pub record SpellsScript (source : List ℕ) (items : List Item) : Type 0 where
  pub tokens : List Lexeme
  pub lexed : Lexes source (Ok tokens)
  pub derived : Derives 0 (tokens_in tokens) items

-- the tokens are no script, and this is why
abbrev pub HasNoItems : List Lexeme → SourceFault → Type 0
HasNoItems tokens (Syntactic fault) = IsNoScript tokens fault
HasNoItems tokens _ = ⊥

-- the source has tokens that are no script, of which this is the first fault
pub record SpellsNoScript (source : List ℕ) (fault : ParseFault) : Type 0 where
  pub tokens : List Lexeme
  pub lexed : Lexes source (Ok tokens)
  pub first : IsNoScript tokens fault

-- the source has no tokens, or tokens that are no script, and this is why
abbrev pub HasNoScript : List ℕ → SourceFault → Type 0
HasNoScript source (Lexical fault) = Lexes source (Err fault)
HasNoScript source (Syntactic fault) = SpellsNoScript source fault
HasNoScript source _ = ⊥
