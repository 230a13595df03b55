-- What the code answers as one outcome is answered as an equal one.
use Rattle.std.proofs.Common.{◌≡◌, Result, Ok, IfOk, IfErr, sym, subst}
use Rattle.ash_sources.specs.declared.fault.SourceError.{SourceError}
use Rattle.ash_sources.specs.SourceFaults.{SourceFault, RefusesSource}

pub found_as : {X A : Type 0} (view : X → A) (to from : Result A SourceFault) → to ≡ from → (r : Result X SourceError)
    → IfOk r (λ x. from ≡ Ok (view x)) → IfOk r (λ x. to ≡ Ok (view x))
found_as {X} {A} view to from e r h =
    subst (λ (outcome : Result A SourceFault). IfOk r (λ (x : X). outcome ≡ Ok (view x))) (sym e) h

pub refused_as : {X A : Type 0} (to from : Result A SourceFault) → to ≡ from → (r : Result X SourceError)
    → IfErr r (RefusesSource from) → IfErr r (RefusesSource to)
refused_as {X} {A} to from e r h =
    subst (λ (outcome : Result A SourceFault). IfErr r (RefusesSource outcome)) (sym e) h
