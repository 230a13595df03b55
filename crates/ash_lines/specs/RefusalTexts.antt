-- The text of refusals.
use Rattle.std.specs.Prelude.{ℕ, List, [], ◌++◌, codes, decimal, Result, Ok, Err}
use Rattle.std.specs.List.{flat_map}
use Rattle.ash_parse.specs.ParseFaults.{part_text}
use Rattle.ash_requests.specs.Requests.{Refusal}
use Rattle.ash_requests.specs.RefusalCodes.{code_of}
use Rattle.ash_sources.specs.SourceFaults.{SourceFault}
use Rattle.ash_sources.specs.SourceFaults as sources
use Rattle.ash_lines.specs.FaultDetails.{Details, Nothing, At, WordAt, Names, source_details}

-- names, with a blank before each
abbrev pub names_text : List (List ℕ) → List ℕ
names_text names = flat_map (λ name. codes " " ++ name) names

abbrev pub details_text : Details → List ℕ
details_text Nothing = []
details_text (At at) = codes " " ++ decimal at
details_text (WordAt word at) = codes " " ++ (part_text word ++ (codes " " ++ decimal at))
details_text (Names names) = names_text names

-- that a request is refused, with the number and the name of the refusal
abbrev pub label_text : List ℕ → List ℕ
label_text code = codes "refused " ++ code

-- a refusal by its number and its name, and what it reports of a source
abbrev pub refused_text : List ℕ → Details → List ℕ
refused_text code details = label_text code ++ details_text details

-- the refusal of a source
abbrev pub fault_text : SourceFault → List ℕ
fault_text fault = refused_text (sources.code_of fault) (source_details fault)

-- a refusal by its code, or that of a source
abbrev pub coded_text : Result (List ℕ) SourceFault → List ℕ
coded_text (Ok code) = label_text code
coded_text (Err fault) = fault_text fault

-- the refusal of a request; that of a source is the refusal of the source
abbrev pub refusal_text : Refusal SourceFault → List ℕ
refusal_text refusal = coded_text (code_of refusal)
