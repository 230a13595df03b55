-- How the sources of modules are read, by what is registered.
use Rattle.std.specs.Prelude.{List}
use Rattle.ash_registry.specs.AcceptedRegistrations.{Registration}
use Rattle.ash_registry.specs.RegistryViews.{registered}
use Rattle.ash_type_rules.specs.Environment.{name_of_kind}
use Rattle.ash_requests.specs.States.{Embedding}
use Rattle.ash_sources.specs.declared.sources.Sources as code
use Rattle.ash_sources.specs.SourceFaults.{SourceFault}
use Rattle.ash_sources.specs.TypedSource.{typed_source}

-- what is registered where the code reads sources
abbrev pub registered_for : code.Sources → List Registration
registered_for sources = registered sources.registry.now

-- what requests see of this: a source is read as what it is typed as
abbrev pub embedding_of : List Registration → Embedding SourceFault
embedding_of registrations = record { read = typed_source registrations; name_of_kind = name_of_kind registrations }
