use Rattle.std.proofs.Common.{◌≡◌, ℕ, List, ◌∷◌, ◌<◌, ◌^◌, length, ◌++◌, sym, ap, subst, ◌∙◌, arith}
use Rattle.ash_image.specs.Fields.{number}
use Rattle.ash_image.specs.Delta.{delta, delta_tag}
use Rattle.ash_image.specs.DeltaViews.{delta_in}
use Rattle.ash_image.specs.declared.version.Version.TheVariants.{Two}
use Rattle.ash_image.proofs.DeltaLengths.{delta_short}
use Rattle.ash_image.proofs.delta.write_delta_body.Goals as goal

pub returns-clause-written : goal.returns-clause-written
returns-clause-written c =
    let d = delta_in c.args.parts in
    let written = c.in_ok-write_delta_into.ensures.value ∙ ap (λ (bytes : List ℕ). bytes ++ delta d) c.in_ok-write_u8.ensures.written
    ∙ ap (λ (bytes : List ℕ). (bytes ++ number 1 2) ++ delta d) c.in_ok-body.ensures.items in
    (c.requires.fits, written)

pub returns-clause-short : goal.returns-clause-short
returns-clause-short c = λ few.
    let d = delta_in c.args.parts in
    let written = c.in_ok-write_delta_into.ensures.value ∙ ap (λ (bytes : List ℕ). bytes ++ delta d) c.in_ok-write_u8.ensures.written
    ∙ ap (λ (bytes : List ℕ). (bytes ++ number 1 2) ++ delta d) c.in_ok-body.ensures.items in
    let short : length (delta_tag ∷ delta d) < 2 ^ 28 = omega (arith, delta_short Two d c.requires.fits few) in
    subst (λ (bytes : List ℕ). length bytes < 2 ^ 28) (sym written) short
