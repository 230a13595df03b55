-- A small module that meets the premises of the laws.
use Rattle.std.specs.Prelude.{[], Ok}
use Rattle.ash_typed.specs.Signatures.{HostSignatures}
use Rattle.ash_requests.specs.States.{Embedding}
use Rattle.ash_requests.specs.StepExamples.{adding, name_of_kind}

-- a host that offers nothing
abbrev pub no_host : HostSignatures
no_host = record {
  kinds = [];
  factories = λ kind. [];
  methods = λ kind id. [];
  properties = λ kind id. [];
  functions = λ service id. [];
}

-- a program that reads each source as one module: `int n = 2; int f(int k) { n += k; return n; }`
abbrev pub read_adding : Embedding (Unit {0})
read_adding = record { read = λ source. Ok adding; name_of_kind = name_of_kind }
