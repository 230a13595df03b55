-- The function that checks a source says exactly what the relation says.
use Rattle.std.proofs.Common.{◌≡◌, ◌↔◌, ℕ, ◌-◌, List, [], ◌∷◌, length, Option, Some, None, option_map}
use Rattle.std.proofs.Common.{Result, Ok, Err, refl, sym, ◌∙◌, ap, subst}
use Rattle.std.specs.List.{slice_get}
use Rattle.std.proofs.lemmas.List.{length-map}
use Rattle.std.proofs.lemmas.Option.{slice_get-map}
use Rattle.ash_lex.specs.Tokens.{Lexeme, FirstLexFault, lexeme_of, lexemes}
use Rattle.ash_lex.specs.declared.tokens.Token.{Token}
use Rattle.ash_lex.specs.declared.faults.LexFault.{LexFault}
use Rattle.ash_lex.specs.declared.faults.LexFault.TheVariants as faults
use Rattle.ash_tree.specs.Tree.{Item}
use Rattle.ash_tree.specs.GrammarTokens.{Tokens, tokens_of, placed}
use Rattle.ash_tree.specs.Grammar.{Derives}
use Rattle.ash_parse.specs.declared.faults.ParseFault.{ParseFault}
use Rattle.ash_parse.specs.Readers.{ParseResult}
use Rattle.ash_parse.specs.ItemReader.{module_at}
use Rattle.ash_parse.specs.ParseFaults.{end_of}
use Rattle.ash_parse.specs.ParseFaults as parse_spec
use Rattle.ash_parse.proofs.ItemComplete.{module_read as parsed_again}
use Rattle.ash_parse.proofs.WholeModules.{module_derived}
use Rattle.ash_parse.proofs.FirstFaults.{module_stops_first, first_is_stop}
use Rattle.ash_registry.specs.AcceptedRegistrations.{Registration}
use Rattle.ash_type_rules.specs.declared.fault.Fault.{Fault}
use Rattle.ash_typed.specs.Modules.{Module as Typed}
use Rattle.ash_class_cycles.specs.ClassReferences.{classes_of}
use Rattle.ash_check.specs.ScriptFaults.{ScriptFault, Broken, Cyclic}
use Rattle.ash_check.specs.Checks.{checked, names_of_cycle}
use Rattle.ash_check.proofs.ExactLaws.{accepted_is, cycle_is, broken_is}
use Rattle.ash_sources.specs.Lexing.{IsText, Lexes}
use Rattle.ash_sources.specs.Scanning.{scan, lexed}
use Rattle.ash_sources.specs.CheckedSource.{SourceResult, tokens_in, end_by, end_in, IsNoScript}
use Rattle.ash_sources.specs.CheckedSource.{IsTypedScript, IsUntypedScript, IsCyclicScript, HasFault, ChecksTokens}
use Rattle.ash_sources.specs.CheckedSource.{Checks, no_tokens, has_tokens, unless_fault, items_checked}
use Rattle.ash_sources.specs.CheckedSource.{script_checked, tokens_checked, checked_on, checked_source}
use Rattle.ash_sources.specs.SourceFaults.{SourceFault, Lexical, Syntactic, Checked}
use Rattle.ash_sources.specs.SourceFaults.{MayTakeMemory, TakesMemoryFor}
use Rattle.ash_sources.proofs.LexingLaws.{lexed-is, lexed-only, of_text}
use Rattle.ash_sources.proofs.ScanLaws.{IsScan, scan-is}

-- the code's tokens as the grammar sees them

pub seen_tokens : (ts : List Token) → tokens_of ts ≡ tokens_in (lexemes ts)
seen_tokens [] = refl
seen_tokens (t ∷ ts) = ap (λ (l : Tokens). placed t ∷ l) (seen_tokens ts)

seen_last : (o : Option Token) → parse_spec.end_by o ≡ end_by (option_map lexeme_of o)
seen_last None = refl
seen_last (Some t) = refl

pub seen_end : (ts : List Token) → end_of ts ≡ end_in (lexemes ts)
seen_end ts = rw (length-map ts lexeme_of, slice_get-map lexeme_of ts (length ts - 1))
    (seen_last (slice_get ts (length ts - 1)))

-- what checking tokens comes to

items_is : (registered : List Registration) (tokens : List Lexeme) (items : List Item) → Derives 0 (tokens_in tokens) items
    → (r : Result Typed ScriptFault) → checked registered items ≡ r → ChecksTokens registered tokens (unless_fault items r)
items_is registered tokens items derived (Ok typed) e =
    let h = (accepted_is registered items typed).0 e in
    record { derived = derived; typed = typed; by_rules = h.0; acyclic = h.1 }
items_is registered tokens items derived (Err (Broken fault)) e =
    record { items = items; derived = derived; first = (broken_is registered items fault).0 e }
items_is registered tokens items derived (Err (Cyclic names)) e =
    let h = (cycle_is registered items names).0 e in
    record {
      items = items;
      derived = derived;
      typed = h.0;
      by_rules = h.3;
      first = h.1;
      others = h.2;
      cycle = h.4;
      reported = h.5;
    }

script_is : (registered : List Registration) (tokens : List Lexeme) (o : ParseResult (List Item)) → module_at (tokens_in tokens) ≡ o
    → ChecksTokens registered tokens (script_checked registered tokens o)
script_is registered tokens (Ok script) e =
    items_is registered tokens script.0 (module_derived (tokens_in tokens) script.0 script.1 e)
    (checked registered script.0) refl
script_is registered tokens (Err halt) e =
    record { halt = halt; first = module_stops_first (tokens_in tokens) halt e; reported = refl }

tokens_is : (registered : List Registration) (tokens : List Lexeme)
    → ChecksTokens registered tokens (tokens_checked registered tokens)
unfolding tokens_checked
tokens_is registered tokens = script_is registered tokens (module_at (tokens_in tokens)) refl

-- and to nothing else

pub parsed : (registered : List Registration) (tokens : List Lexeme) (items : List Item) → Derives 0 (tokens_in tokens) items
    → tokens_checked registered tokens ≡ items_checked registered items
unfolding tokens_checked
parsed registered tokens items derived = ap (script_checked registered tokens)
    (parsed_again (tokens_in tokens) items derived)

typed_only : (registered : List Registration) (tokens : List Lexeme) (items : List Item) → IsTypedScript registered tokens items
    → tokens_checked registered tokens ≡ Ok items
typed_only registered tokens items h = parsed registered tokens items h.derived
    ∙ ap (unless_fault items) ((accepted_is registered items h.typed).1 (h.by_rules, h.acyclic))

pub stopped : (registered : List Registration) (tokens : List Lexeme) (fault : ParseFault) → IsNoScript tokens fault
    → tokens_checked registered tokens ≡ Err (Syntactic fault)
unfolding tokens_checked
stopped registered tokens fault h = ap (script_checked registered tokens)
    (first_is_stop (tokens_in tokens) h.halt h.first) ∙ ap (λ (f : ParseFault). Err (Syntactic f)) (sym h.reported)

untyped_only : (registered : List Registration) (tokens : List Lexeme) (fault : Fault)
    → IsUntypedScript registered tokens fault → tokens_checked registered tokens ≡ Err (Checked (Broken fault))
untyped_only registered tokens fault h = parsed registered tokens h.items h.derived
    ∙ ap (unless_fault h.items) ((broken_is registered h.items fault).1 h.first)

cyclic_only : (registered : List Registration) (tokens : List Lexeme) (names : List (List ℕ))
    → IsCyclicScript registered tokens names → tokens_checked registered tokens ≡ Err (Checked (Cyclic names))
cyclic_only registered tokens names h =
    let found = (cycle_is registered h.items (names_of_cycle (classes_of h.items) (h.first, h.others))).1
    (h.typed, h.first, h.others, h.by_rules, h.cycle, refl) in
    parsed registered tokens h.items h.derived ∙ ap (unless_fault h.items) found
    ∙ ap (λ (ns : List (List ℕ)). Err (Checked (Cyclic ns))) (sym h.reported)

fault_only : (registered : List Registration) (tokens : List Lexeme) (fault : SourceFault)
    → HasFault registered tokens fault → tokens_checked registered tokens ≡ Err fault
fault_only registered tokens (Lexical fault) h = absurd h
fault_only registered tokens (Syntactic fault) h = stopped registered tokens fault h
fault_only registered tokens (Checked (Broken fault)) h = untyped_only registered tokens fault h
fault_only registered tokens (Checked (Cyclic names)) h = cyclic_only registered tokens names h

tokens_only : (registered : List Registration) (tokens : List Lexeme) (outcome : SourceResult)
    → ChecksTokens registered tokens outcome → tokens_checked registered tokens ≡ outcome
tokens_only registered tokens (Ok items) h = typed_only registered tokens items h
tokens_only registered tokens (Err fault) h = fault_only registered tokens fault h

-- what checking a source comes to

checked_on-is : (registered : List Registration) (source : List ℕ) (l : Result (List Lexeme) LexFault) → Lexes source l
    → Checks registered source (checked_on registered l)
checked_on-is registered source (Ok ts) h = has_tokens ts h (tokens_is registered ts)
checked_on-is registered source (Err fault) h = no_tokens fault refl h

pub checked_source-is : (registered : List Registration) (source : List ℕ)
    → Checks registered source (checked_source registered source)
unfolding checked_source
checked_source-is registered source = checked_on-is registered source (lexed source) (lexed-is source)

pub checked_source-only : (registered : List Registration) (source : List ℕ) (outcome : SourceResult)
    → Checks registered source outcome → checked_source registered source ≡ outcome
unfolding checked_source
checked_source-only registered source outcome (no_tokens fault e h) =
    ap (checked_on registered) (lexed-only source (Err fault) h) ∙ sym e
checked_source-only registered source outcome (has_tokens ts h checks) =
    ap (checked_on registered) (lexed-only source (Ok ts) h) ∙ tokens_only registered ts outcome checks

pub checked_source-exact : (registered : List Registration) (source : List ℕ) (outcome : SourceResult)
    → (checked_source registered source ≡ outcome) ↔ Checks registered source outcome
checked_source-exact registered source outcome = (
  λ e. subst (Checks registered source) e (checked_source-is registered source),
  checked_source-only registered source outcome,
)

-- a source with tokens is checked as they are
pub of_tokens : (registered : List Registration) (source : List ℕ) (ts : List Lexeme) → Lexes source (Ok ts)
    → checked_source registered source ≡ tokens_checked registered ts
unfolding checked_source
of_tokens registered source ts h = ap (checked_on registered) (lexed-only source (Ok ts) h)

-- and one without has the fault for which it has none
pub of_no_tokens : (registered : List Registration) (source : List ℕ) (fault : LexFault) → Lexes source (Err fault)
    → checked_source registered source ≡ Err (Lexical fault)
of_no_tokens registered source fault h =
    checked_source-only registered source (Err (Lexical fault)) (no_tokens fault refl h)

-- a text takes memory to check

takes_fault : (source : List ℕ) (fault : LexFault) → FirstLexFault source fault → MayTakeMemory (Lexical fault)
takes_fault source (faults.BadCharacter at) h = tt
takes_fault source (faults.UnclosedComment at) h = tt
takes_fault source (faults.NumberTooLarge at) h = tt
takes_fault source faults.SourceTooLong h = absurd h.5
takes_fault source faults.NoMemory h = absurd h.5

pub takes_items : (items : List Item) (r : Result Typed ScriptFault) → TakesMemoryFor (unless_fault items r)
takes_items items (Ok typed) = tt
takes_items items (Err fault) = tt

takes_script : (registered : List Registration) (tokens : List Lexeme) (o : ParseResult (List Item))
    → TakesMemoryFor (script_checked registered tokens o)
takes_script registered tokens (Ok script) = takes_items script.0 (checked registered script.0)
takes_script registered tokens (Err halt) = tt

takes_tokens : (registered : List Registration) (tokens : List Lexeme)
    → TakesMemoryFor (tokens_checked registered tokens)
unfolding tokens_checked
takes_tokens registered tokens = takes_script registered tokens (module_at (tokens_in tokens))

takes_scanned : (registered : List Registration) (source : List ℕ) (r : Result (List Lexeme) LexFault) → IsScan source r
    → TakesMemoryFor (checked_on registered r)
takes_scanned registered source (Ok ts) h = takes_tokens registered ts
takes_scanned registered source (Err fault) h = takes_fault source fault h

pub takes_text : (registered : List Registration) (source : List ℕ) → IsText source
    → TakesMemoryFor (checked_source registered source)
unfolding checked_source
takes_text registered source text = subst (λ l. TakesMemoryFor (checked_on registered l))
    (sym (of_text source text)) (takes_scanned registered source (scan source) (scan-is source))
