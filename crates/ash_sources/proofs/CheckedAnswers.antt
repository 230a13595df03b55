-- What the code answers of a source is what the function that checks it says, and what the rules say.
use Rattle.std.proofs.Common.{◌≡◌, ℕ, List, Result, Ok, Err, refl, sym, ◌∙◌, ap, subst}
use Rattle.ash_tree.specs.Tree.{Item}
use Rattle.ash_registry.specs.AcceptedRegistrations.{Registration}
use Rattle.ash_typed.specs.Modules.{Module as Typed}
use Rattle.ash_check.specs.declared.faults.ScriptError.{ScriptError}
use Rattle.ash_check.specs.declared.faults.ScriptError.TheVariants as script_errors
use Rattle.ash_class_cycles.specs.ClassReferences.{classes_of}
use Rattle.ash_check.specs.ScriptFaults.{ScriptFault, Cyclic}
use Rattle.ash_check.specs.Checks.{checked, names_of_cycle, ReportsFault}
use Rattle.ash_check.proofs.ExactLaws.{cyclic_is, cycle_is}
use Rattle.ash_sources.specs.Lexing.{IsText}
use Rattle.ash_sources.specs.Scripts.{SpellsScript, HasNoScript}
use Rattle.ash_sources.specs.CheckedSource.{SourceResult, IsCyclicScript, ChecksTokens, Checks, no_tokens, has_tokens}
use Rattle.ash_sources.specs.CheckedSource.{IsAccepted, HasCycle, ReportsCycle, unless_fault, items_checked}
use Rattle.ash_sources.specs.CheckedSource.{checked_source}
use Rattle.ash_sources.specs.declared.fault.SourceError.{SourceError}
use Rattle.ash_sources.specs.declared.fault.SourceError.TheVariants as errors
use Rattle.ash_sources.specs.SourceFaults.{SourceFault, Lexical, Syntactic, Checked, fault_of}
use Rattle.ash_sources.specs.SourceFaults.{checked_error, RefusesSource, RefusesWhere, IfFault}
use Rattle.ash_sources.proofs.CheckedSourceLaws.{parsed, stopped, checked_source-is, checked_source-only}
use Rattle.ash_sources.proofs.CheckedSourceLaws.{of_tokens, of_no_tokens, takes_items, takes_text}

-- a source that spells a script is checked as the script is
pub spelled_checked : (registered : List Registration) (source : List ℕ) (items : List Item) → SpellsScript source items
    → checked_source registered source ≡ items_checked registered items
spelled_checked registered source items h = of_tokens registered source h.tokens h.lexed
    ∙ parsed registered h.tokens items h.derived

-- and one that spells none has the fault of that
pub unspelled_checked : (registered : List Registration) (source : List ℕ) (fault : SourceFault)
    → HasNoScript source fault → checked_source registered source ≡ Err fault
unspelled_checked registered source (Lexical fault) h = of_no_tokens registered source fault h
unspelled_checked registered source (Syntactic fault) h = of_tokens registered source h.tokens h.lexed
    ∙ stopped registered h.tokens fault h.first
unspelled_checked registered source (Checked fault) h = absurd h

pub source_refused : (registered : List Registration) (source : List ℕ) (error : SourceError)
    → RefusesWhere (HasNoScript source) (IsText source) error → RefusesSource (checked_source registered source) error
source_refused registered source (errors.Fault fault) h = unspelled_checked registered source (fault_of fault) h
source_refused registered source errors.NoMemory h = takes_text registered source h

-- what the check of types answers

reports_as : (items : List Item) (answer : Result Typed ScriptFault) (error : ScriptError) → ReportsFault answer error
    → RefusesSource (unless_fault items answer) (checked_error error)
reports_as items answer (script_errors.Fault fault) h = ap (unless_fault items) h
reports_as items answer script_errors.NoMemory h = takes_items items answer

pub items_unchecked : (registered : List Registration) (items : List Item) (error : ScriptError)
    → ReportsFault (checked registered items) error
    → RefusesSource (items_checked registered items) (checked_error error)
items_unchecked registered items error h = reports_as items (checked registered items) error h

-- what is accepted, and what is refused for a cycle, by the rules

accepted_by : (registered : List Registration) (source : List ℕ) (items : List Item) (outcome : SourceResult)
    → outcome ≡ Ok items → Checks registered source outcome → IsAccepted registered source
accepted_by registered source items outcome is (no_tokens fault e h) = absurd (cc)
accepted_by registered source items outcome is (has_tokens tokens h checks) =
    record { tokens = tokens; lexed = h; items = items; script = subst (ChecksTokens registered tokens) is checks }

pub found_accepted : (registered : List Registration) (source : List ℕ) (items : List Item)
    → checked_source registered source ≡ Ok items → IsAccepted registered source
found_accepted registered source items is =
    accepted_by registered source items (checked_source registered source) is (checked_source-is registered source)

checked_accepted : (registered : List Registration) (source : List ℕ) (h : IsAccepted registered source)
    → checked_source registered source ≡ Ok h.items
checked_accepted registered source h = checked_source-only registered source (Ok h.items)
    (has_tokens h.tokens h.lexed h.script)

-- nothing but memory is in the way of what is accepted
pub accepted_only : (registered : List Registration) (source : List ℕ) (error : SourceError)
    → RefusesSource (checked_source registered source) error → IsAccepted registered source → error ≡ errors.NoMemory
accepted_only registered source (errors.Fault fault) h a =
    absurd (let found : checked_source registered source ≡ Ok a.items = checked_accepted registered source a in cc)
accepted_only registered source errors.NoMemory h a = refl

cycle_by : (registered : List Registration) (source : List ℕ) (names : List (List ℕ)) (outcome : SourceResult)
    → outcome ≡ Err (Checked (Cyclic names)) → Checks registered source outcome
    → ReportsCycle registered source (Checked (Cyclic names))
cycle_by registered source names outcome is (no_tokens fault e h) = absurd (cc)
cycle_by registered source names outcome is (has_tokens tokens h checks) =
    record {
      tokens = tokens;
      lexed = h;
      names = names;
      reported = refl;
      script = subst (ChecksTokens registered tokens) is checks;
    }

cycle_is_reported : (registered : List Registration) (source : List ℕ) (fault : SourceFault)
    → checked_source registered source ≡ Err fault → (names : List (List ℕ)) → fault ≡ Checked (Cyclic names)
    → ReportsCycle registered source fault
cycle_is_reported registered source fault h names is =
    subst (ReportsCycle registered source) (sym is)
    (cycle_by registered source names (checked_source registered source) (h ∙ ap (λ (f : SourceFault). Err f) is)
    (checked_source-is registered source))

-- a cycle is answered where there is one, and it is the one that is reported
pub cycle_reported : (registered : List Registration) (source : List ℕ) (error : SourceError)
    → RefusesSource (checked_source registered source) error
    → IfFault (λ fault. (names : List (List ℕ)) → fault ≡ Checked (Cyclic names) → ReportsCycle registered source fault)
    error
cycle_reported registered source (errors.Fault fault) h = cycle_is_reported registered source (fault_of fault) h
cycle_reported registered source errors.NoMemory h = tt

-- the fault of a source with a cycle
checked_cycle : (registered : List Registration) (source : List ℕ) → HasCycle registered source → (fault : SourceFault)
    × (checked_source registered source ≡ Err fault) × ReportsCycle registered source fault
checked_cycle registered source h =
    let found = (cyclic_is registered h.items).1 (h.typed, h.class, h.by_rules, h.cycle) in
    let k = (cycle_is registered h.items found.0).0 found.1 in
    let names = names_of_cycle (classes_of h.items) (k.1, k.2) in
    let script : IsCyclicScript registered h.tokens names =
    record {
      items = h.items;
      derived = h.derived;
      typed = k.0;
      by_rules = k.3;
      first = k.1;
      others = k.2;
      cycle = k.4;
      reported = refl;
    } in (
      Checked (Cyclic names),
      checked_source-only registered source (Err (Checked (Cyclic names))) (has_tokens h.tokens h.lexed script),
      record { tokens = h.tokens; lexed = h.lexed; names = names; reported = refl; script = script },
    )

-- such a source is not accepted
pub cycle_not_found : (registered : List Registration) (source : List ℕ) (items : List Item)
    → checked_source registered source ≡ Ok items → HasCycle registered source → ⊥
cycle_not_found registered source items is h =
    let k = checked_cycle registered source h in
    let refused : checked_source registered source ≡ Err k.0 = k.1 in
    cc

pub cycle_only : (registered : List Registration) (source : List ℕ) (error : SourceError)
    → RefusesSource (checked_source registered source) error → HasCycle registered source
    → IfFault (ReportsCycle registered source) error
cycle_only registered source (errors.Fault fault) h c =
    let k = checked_cycle registered source c in
    let refused : checked_source registered source ≡ Err k.0 = k.1 in
    let same : k.0 ≡ fault_of fault = cc in
    subst (ReportsCycle registered source) same k.2
cycle_only registered source errors.NoMemory h c = tt
