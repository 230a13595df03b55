-- What a source is typed as is what the rules say, and what the code answers.
use Rattle.std.proofs.Common.{◌≡◌, ◌↔◌, ℕ, List, Result, Ok, Err, refl, sym, ◌∙◌, ap}
use Rattle.ash_tree.specs.Tree.{Item}
use Rattle.ash_registry.specs.AcceptedRegistrations.{Registration}
use Rattle.ash_typed.specs.Modules.{Module as Typed}
use Rattle.ash_typed.specs.SoundModules.{IsSound}
use Rattle.ash_type_rules.specs.Offered.{offered}
use Rattle.ash_type_rules.proofs.SoundnessModules.{module_sound}
use Rattle.ash_type_rules.proofs.SoundnessNesting.{derived_proper}
use Rattle.ash_check.specs.declared.faults.ScriptError.{ScriptError}
use Rattle.ash_check.specs.declared.faults.ScriptError.TheVariants as script_errors
use Rattle.ash_check.specs.ScriptFaults.{ScriptFault}
use Rattle.ash_check.specs.Checks.{checked, ReportsFault}
use Rattle.ash_check.proofs.ExactLaws.{accepted_is}
use Rattle.ash_sources.specs.Lexing.{IsText}
use Rattle.ash_sources.specs.CheckedSource.{SourceResult, Checks, no_tokens, has_tokens, unless_fault, checked_source}
use Rattle.ash_sources.specs.Scripts.{SpellsScript, HasNoScript}
use Rattle.ash_sources.specs.TypedSource.{IsTypedSource, typed_or_fault, check_items}
use Rattle.ash_sources.specs.TypedSource.{typed_if_checked, typed_source}
use Rattle.ash_sources.specs.SourceFaults.{SourceFault, checked_error, TakesMemoryFor, RefusesSource}
use Rattle.ash_sources.proofs.CheckedSourceLaws.{checked_source-is, takes_text}
use Rattle.ash_sources.proofs.CheckedAnswers.{spelled_checked, unspelled_checked}

-- what the check of types answers

takes_items : (answer : Result Typed ScriptFault) → TakesMemoryFor (typed_or_fault answer)
takes_items (Ok typed) = tt
takes_items (Err fault) = tt

reports_as : (answer : Result Typed ScriptFault) (error : ScriptError) → ReportsFault answer error
    → RefusesSource (typed_or_fault answer) (checked_error error)
reports_as answer (script_errors.Fault fault) h = ap typed_or_fault h
reports_as answer script_errors.NoMemory h = takes_items answer

pub items_untyped : (registered : List Registration) (items : List Item) (error : ScriptError)
    → ReportsFault (checked registered items) error
    → RefusesSource (check_items registered items) (checked_error error)
items_untyped registered items error h = reports_as (checked registered items) error h

-- a source that spells a script is typed as the script is

typed_by : (registered : List Registration) (items : List Item) (r : Result Typed ScriptFault) → checked registered items ≡ r
    → typed_if_checked registered (unless_fault items r) ≡ check_items registered items
typed_by registered items (Ok typed) e = refl
typed_by registered items (Err fault) e = sym (ap typed_or_fault e)

pub typed_where_spelled : (registered : List Registration) (source : List ℕ) (items : List Item) → SpellsScript source items
    → typed_source registered source ≡ check_items registered items
unfolding typed_source
typed_where_spelled registered source items h = ap (typed_if_checked registered) (spelled_checked registered source items h)
    ∙ typed_by registered items (checked registered items) refl

-- and one that spells none has the fault of that
pub refused_where_unspelled : (registered : List Registration) (source : List ℕ) (fault : SourceFault)
    → HasNoScript source fault → typed_source registered source ≡ Err fault
unfolding typed_source
refused_where_unspelled registered source fault h =
    ap (typed_if_checked registered) (unspelled_checked registered source fault h)

-- what a source is typed as, by the rules

pub typed_by_rules : (registered : List Registration) (source : List ℕ) (typed : Typed) → IsTypedSource registered source typed
    → typed_source registered source ≡ Ok typed
typed_by_rules registered source typed h =
    let spelled : SpellsScript source h.items = record { tokens = h.tokens; lexed = h.lexed; derived = h.derived } in
    typed_where_spelled registered source h.items spelled
    ∙ ap typed_or_fault ((accepted_is registered h.items typed).1 (h.by_rules, h.acyclic))

ok_of : (r : Result Typed ScriptFault) (typed : Typed) → typed_or_fault r ≡ Ok typed → r ≡ Ok typed
ok_of (Ok other) typed e = cc
ok_of (Err fault) typed e = absurd (cc)

by_outcome : (registered : List Registration) (source : List ℕ) (typed : Typed) (outcome : SourceResult)
    → Checks registered source outcome → typed_if_checked registered outcome ≡ Ok typed
    → IsTypedSource registered source typed
by_outcome registered source typed (Err fault) h e = absurd (cc)
by_outcome registered source typed (Ok items) (no_tokens fault other h) e = absurd (cc)
by_outcome registered source typed (Ok items) (has_tokens tokens h script) e =
    let is = (accepted_is registered items typed).0 (ok_of (checked registered items) typed e) in
    record {
      tokens = tokens;
      lexed = h;
      items = items;
      derived = script.derived;
      by_rules = is.0;
      acyclic = is.1;
    }

pub typed_rules : (registered : List Registration) (source : List ℕ) (typed : Typed)
    → typed_source registered source ≡ Ok typed → IsTypedSource registered source typed
unfolding typed_source
typed_rules registered source typed e = by_outcome registered source typed (checked_source registered source)
    (checked_source-is registered source) e

pub typed_exact : (registered : List Registration) (source : List ℕ) (typed : Typed)
    → (typed_source registered source ≡ Ok typed) ↔ IsTypedSource registered source typed
typed_exact registered source typed = (typed_rules registered source typed, typed_by_rules registered source typed)

pub typed_sound : (registered : List Registration) (source : List ℕ) (typed : Typed)
    → typed_source registered source ≡ Ok typed → IsSound (offered registered) typed
typed_sound registered source typed e =
    let h = typed_rules registered source typed e in
    module_sound registered h.items typed (derived_proper h.derived) h.by_rules

-- which fault a source has

refused_by : (registered : List Registration) (source : List ℕ) (fault : SourceFault) (outcome : SourceResult)
    → Checks registered source outcome → typed_if_checked registered outcome ≡ Err fault → outcome ≡ Err fault
refused_by registered source fault (Err other) h e = cc
refused_by registered source fault (Ok items) (no_tokens other is h) e = absurd (cc)
refused_by registered source fault (Ok items) (has_tokens tokens h script) e =
    let is : checked registered items ≡ Ok script.typed =
    (accepted_is registered items script.typed).1 (script.by_rules, script.acyclic) in
    absurd (let typed : check_items registered items ≡ Ok script.typed = ap typed_or_fault is in cc)

typed_refused : (registered : List Registration) (source : List ℕ) (fault : SourceFault)
    → typed_source registered source ≡ Err fault → checked_source registered source ≡ Err fault
unfolding typed_source
typed_refused registered source fault e = refused_by registered source fault (checked_source registered source)
    (checked_source-is registered source) e

checked_refused : (registered : List Registration) (source : List ℕ) (fault : SourceFault)
    → checked_source registered source ≡ Err fault → typed_source registered source ≡ Err fault
unfolding typed_source
checked_refused registered source fault e = ap (typed_if_checked registered) e

pub refused_exact : (registered : List Registration) (source : List ℕ) (fault : SourceFault)
    → (typed_source registered source ≡ Err fault) ↔ (checked_source registered source ≡ Err fault)
refused_exact registered source fault =
    (typed_refused registered source fault, checked_refused registered source fault)

-- a text takes memory to type

takes_checked : (registered : List Registration) (outcome : SourceResult) → TakesMemoryFor outcome
    → TakesMemoryFor (typed_if_checked registered outcome)
takes_checked registered (Ok items) h = takes_items (checked registered items)
takes_checked registered (Err fault) h = h

pub takes_memory_to_type : (registered : List Registration) (source : List ℕ) → IsText source
    → TakesMemoryFor (typed_source registered source)
unfolding typed_source
takes_memory_to_type registered source text =
    takes_checked registered (checked_source registered source) (takes_text registered source text)
