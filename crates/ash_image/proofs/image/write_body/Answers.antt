use Rattle.std.proofs.Common.{◌≡◌, ℕ, List, ◌∷◌, ◌<◌, ◌^◌, length, ◌++◌, sym, ap, subst, ◌∙◌, refl, arith}
use Rattle.ash_image.specs.Fields.{number}
use Rattle.ash_image.specs.Image.{image_of}
use Rattle.ash_image.specs.Rules.{image_tag}
use Rattle.ash_image.specs.SnapshotViews.{snapshot_in}
use Rattle.ash_image.specs.declared.version.Version.TheVariants.{Two}
use Rattle.ash_image.proofs.ImageLengths.{image_short}
use Rattle.ash_image.proofs.image.write_body.Goals as goal

pub returns-clause-written : goal.returns-clause-written
returns-clause-written c =
    let s = snapshot_in c.args.state in
    c.in_ok-write_image_into.ensures.value ∙ ap (λ (bytes : List ℕ). bytes ++ image_of s) c.in_ok-write_u8.ensures.written
    ∙ ap (λ (bytes : List ℕ). (bytes ++ number 1 1) ++ image_of s) c.in_ok-body.ensures.items

pub returns-clause-read : goal.returns-clause-read
returns-clause-read c = λ keeps.
    let s = snapshot_in c.args.state in
    let written = c.in_ok-write_image_into.ensures.value ∙ ap (λ (bytes : List ℕ). bytes ++ image_of s) c.in_ok-write_u8.ensures.written
    ∙ ap (λ (bytes : List ℕ). (bytes ++ number 1 1) ++ image_of s) c.in_ok-body.ensures.items in
    (image_of s, written, ((c.requires.fits, refl), keeps))

pub returns-clause-short : goal.returns-clause-short
returns-clause-short c =
    let s = snapshot_in c.args.state in
    let written = c.in_ok-write_image_into.ensures.value ∙ ap (λ (bytes : List ℕ). bytes ++ image_of s) c.in_ok-write_u8.ensures.written
    ∙ ap (λ (bytes : List ℕ). (bytes ++ number 1 1) ++ image_of s) c.in_ok-body.ensures.items in
    let short : length (image_tag ∷ image_of s) < 2 ^ 28 = omega (arith, image_short Two s c.requires.fits) in
    subst (λ (bytes : List ℕ). length bytes < 2 ^ 28) (sym written) short
