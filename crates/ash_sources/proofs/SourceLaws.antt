-- What the code answers of a source is what the source is typed as.
use Rattle.std.proofs.Common.{◌≡◌, ℕ, List, Result, Ok, Err, IfOk}
use Rattle.ash_registry.specs.AcceptedRegistrations.{Registration}
use Rattle.ash_typed.specs.declared.tree.items.Module as code_tree
use Rattle.ash_typed.specs.Modules.{module_of}
use Rattle.ash_typed.specs.SoundModules.{IsSound}
use Rattle.ash_type_rules.specs.Offered.{offered}
use Rattle.ash_requests.specs.Premises.{ReadsSound}
use Rattle.ash_requests.specs.SourceViews.{TakesMemoryToRead}
use Rattle.ash_sources.specs.Lexing.{IsText}
use Rattle.ash_sources.specs.Scripts.{HasNoScript}
use Rattle.ash_sources.specs.TypedSource.{TypedResult, typed_source}
use Rattle.ash_sources.specs.Sources.{embedding_of}
use Rattle.ash_sources.specs.declared.fault.SourceError.{SourceError}
use Rattle.ash_sources.specs.declared.fault.SourceError.TheVariants as errors
use Rattle.ash_sources.specs.SourceFaults.{fault_of, MayTakeMemory, TakesMemoryFor, RefusesSource, RefusesWhere}
use Rattle.ash_sources.proofs.TypedSourceLaws.{refused_where_unspelled, typed_sound, takes_memory_to_type}

-- a source that spells no script
pub source_unread : (registered : List Registration) (source : List ℕ) (error : SourceError)
    → RefusesWhere (HasNoScript source) (IsText source) error → RefusesSource (typed_source registered source) error
source_unread registered source (errors.Fault fault) h = refused_where_unspelled registered source (fault_of fault) h
source_unread registered source errors.NoMemory h = takes_memory_to_type registered source h

-- that memory was refused, as steps say it

takes_as : (r : TypedResult) → TakesMemoryFor r → TakesMemoryToRead MayTakeMemory r
takes_as (Ok typed) h = h
takes_as (Err fault) h = h

pub memory_refused : (registered : List Registration) (source : List ℕ) → TakesMemoryFor (typed_source registered source)
    → TakesMemoryToRead MayTakeMemory (typed_source registered source)
memory_refused registered source h = takes_as (typed_source registered source) h

-- what is read is sound

pub read_sound : (registered : List Registration) → ReadsSound (offered registered) (embedding_of registered)
read_sound registered source tree e = typed_sound registered source tree e

pub sound_if : (registered : List Registration) (source : List ℕ) (r : Result code_tree.Module SourceError)
    → IfOk r (λ found. typed_source registered source ≡ Ok (module_of found))
    → IfOk r (λ found. IsSound (offered registered) (module_of found))
sound_if registered source (Ok found) e = typed_sound registered source (module_of found) e
sound_if registered source (Err error) e = tt
