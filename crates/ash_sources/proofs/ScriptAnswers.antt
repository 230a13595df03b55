-- What the code answers of a source is the script that it spells, or the fault for which it spells none.
use Rattle.std.proofs.Common.{◌≡◌, ℕ, List, Result, Ok, Err, IfOk, IfErr, ◌∙◌, ap, subst}
use Rattle.ash_lex.specs.Tokens.{Lexeme, lexemes}
use Rattle.ash_lex.specs.declared.tokens.Token.{Token}
use Rattle.ash_lex.specs.declared.faults.LexFault.{LexFault}
use Rattle.ash_lex.specs.declared.faults.LexFault.TheVariants as lex_faults
use Rattle.ash_tree.specs.Tree.{Item}
use Rattle.ash_tree.specs.GrammarTokens.{Tokens, tokens_of}
use Rattle.ash_tree.specs.Grammar.{Derives}
use Rattle.ash_tree.specs.TreeViews.{module_of as items_of}
use Rattle.ash_tree.specs.declared.tree.items.Module as script
use Rattle.ash_parse.specs.declared.faults.ParseFault.{ParseFault}
use Rattle.ash_parse.specs.declared.faults.ParseFault.TheVariants as parse_faults
use Rattle.ash_parse.specs.Readers.{Halt}
use Rattle.ash_parse.specs.ParseFaults.{end_of, fault_of as fault_at}
use Rattle.ash_parse.specs.FirstFault.{FirstParseFault as FirstSyntaxFault, ReportsFirst}
use Rattle.ash_sources.specs.CheckedSource.{tokens_in, IsNoScript}
use Rattle.ash_sources.specs.Lexing.{IsText, Lexes, LexesNothing}
use Rattle.ash_sources.specs.Scripts.{HasNoItems, SpellsScript, HasNoScript}
use Rattle.ash_sources.specs.declared.fault.SourceError.{SourceError}
use Rattle.ash_sources.specs.declared.fault.SourceError.TheVariants as errors
use Rattle.ash_sources.specs.SourceFaults.{SourceFault, Lexical, Syntactic, Checked, fault_of}
use Rattle.ash_sources.specs.SourceFaults.{lexical_error, syntactic_error, RefusesWhere}
use Rattle.ash_sources.proofs.CheckedSourceLaws.{seen_tokens, seen_end}

-- what the parser answers

pub items_derived : (ts : List Token) (items : List Item) → Derives 0 (tokens_of ts) items
    → Derives 0 (tokens_in (lexemes ts)) items
items_derived ts items d = subst (λ (l : Tokens). Derives 0 l items) (seen_tokens ts) d

halt_is : (ts : List Token) (fault : ParseFault) (halt : Halt) → FirstSyntaxFault (tokens_of ts) halt
    → fault ≡ fault_at (end_of ts) halt → IsNoScript (lexemes ts) fault
halt_is ts fault halt first reported =
    record {
      halt = halt;
      first = subst (λ (l : Tokens). FirstSyntaxFault l halt) (seen_tokens ts) first;
      reported = reported ∙ ap (λ n. fault_at n halt) (seen_end ts);
    }

pub fault_read : (ts : List Token) (fault : ParseFault) → ReportsFirst FirstSyntaxFault ts fault
    → RefusesWhere (HasNoItems (lexemes ts)) (Unit {0}) (syntactic_error fault)
fault_read ts parse_faults.NoMemory h = tt
fault_read ts (parse_faults.Unexpected at) h = halt_is ts (parse_faults.Unexpected at) h.0 h.2 h.1
fault_read ts (parse_faults.Unsupported word at) h = halt_is ts (parse_faults.Unsupported word at) h.0 h.2 h.1
fault_read ts (parse_faults.TooDeep at) h = halt_is ts (parse_faults.TooDeep at) h.0 h.2 h.1

-- what the code answers of a source

pub tokens_refused : (source : List ℕ) (fault : LexFault) → LexesNothing source fault
    → RefusesWhere (HasNoScript source) (IsText source) (lexical_error fault)
tokens_refused source (lex_faults.BadCharacter at) h = h
tokens_refused source (lex_faults.UnclosedComment at) h = h
tokens_refused source (lex_faults.NumberTooLarge at) h = h
tokens_refused source lex_faults.SourceTooLong h = h
tokens_refused source lex_faults.NoMemory h = h

pub script_spelled : (source : List ℕ) (ts : List Lexeme) → Lexes source (Ok ts)
    → (r : Result script.Module SourceError) → IfOk r (λ found. Derives 0 (tokens_in ts) (items_of found))
    → IfOk r (λ found. SpellsScript source (items_of found))
script_spelled source ts h (Ok found) d = record { tokens = ts; lexed = h; derived = d }
script_spelled source ts h (Err error) d = tt

no_script : (source : List ℕ) (ts : List Lexeme) → Lexes source (Ok ts) → (fault : SourceFault) → HasNoItems ts fault
    → HasNoScript source fault
no_script source ts h (Lexical fault) none = absurd none
no_script source ts h (Syntactic fault) none = record { tokens = ts; lexed = h; first = none }
no_script source ts h (Checked fault) none = absurd none

no_script_by : (source : List ℕ) (ts : List Lexeme) → Lexes source (Ok ts) → (error : SourceError)
    → RefusesWhere (HasNoItems ts) (Unit {0}) error → RefusesWhere (HasNoScript source) (IsText source) error
no_script_by source ts h (errors.Fault fault) none = no_script source ts h (fault_of fault) none
no_script_by source ts h errors.NoMemory none = h.0

pub script_unspelled : (source : List ℕ) (ts : List Lexeme) → Lexes source (Ok ts)
    → (r : Result script.Module SourceError) → IfErr r (RefusesWhere (HasNoItems ts) (Unit {0}))
    → IfErr r (RefusesWhere (HasNoScript source) (IsText source))
script_unspelled source ts h (Ok found) none = tt
script_unspelled source ts h (Err error) none = no_script_by source ts h error none
