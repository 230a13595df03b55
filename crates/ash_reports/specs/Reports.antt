-- These definitions say what a report is about.
use Rattle.std.specs.Prelude.{◌≡◌, ℕ, List, Option, Some, None, Err}
use Rattle.ash_registry.specs.AcceptedRegistrations.{Registration}
use Rattle.ash_sources.specs.CheckedSource.{IsAccepted, checked_source}
use Rattle.ash_sources.specs.SourceFaults.{fault_of}
use Rattle.ash_sources.specs.declared.fault.SourceFault.{SourceFault}
use Rattle.ash_reports.specs.declared.report.Report.{Report}

-- A source is accepted if there is no fault. Else the fault is its first.
abbrev pub HasVerdict : List Registration → List ℕ → Option SourceFault → Type 0
HasVerdict registered source None = IsAccepted registered source
HasVerdict registered source (Some fault) = checked_source registered source ≡ Err (fault_of fault)

-- A source is accepted if there is no report on it. Else the report is on its first fault.
abbrev pub HasReport : List Registration → List ℕ → Option Report → Type 0
HasReport registered source None = IsAccepted registered source
HasReport registered source (Some report) = checked_source registered source ≡ Err (fault_of report.fault)
