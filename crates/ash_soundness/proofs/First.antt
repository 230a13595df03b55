-- The state before any request is well-formed.
use Rattle.std.proofs.Common.{ℕ, List, [], arith}
use Rattle.std.specs.List.{AllByRecursion}
use Rattle.ash_host.specs.Objects.{Plain, Lives}
use Rattle.ash_typed.specs.Signatures.{HostSignatures}
use Rattle.ash_soundness.specs.WellFormed.{IsState}
use Rattle.ash_requests.specs.States.{Embedding, empty}
use Rattle.ash_soundness.specs.WellFormedStates.{IsWellFormedState}

none_lives : (number : ℕ) → Lives {A = Plain (List ℕ)} [] number → ⊥
none_lives number h = cc

pub empty_well : {Fault : Type 0} (embedding : Embedding Fault) (host : HostSignatures) (services : List (List ℕ)) → AllByRecursion IsState services → IsWellFormedState embedding host (empty services)
empty_well embedding host services fits = record {
  ascending = tt;
  valid = tt;
  few_modules = omega arith;
  loaded = tt;
  numbered = record { in_order = λ k less. absurd (omega arith); given = λ number lives. absurd (none_lives number lives) };
  last = omega arith;
  few = omega arith;
  living = record { each = λ number object at. absurd (cc) };
  offered = record { each = λ number kind at. absurd (cc) };
  services = fits;
  seq = omega arith;
  reached = λ number lives. absurd (none_lives number lives);
}
