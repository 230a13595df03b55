use Rattle.std.proofs.Common.{sym, ◌∙◌, arith}
use Rattle.ash_image.specs.SnapshotViews.{image_read}
use Rattle.ash_image.proofs.ImageLaws.{is_spelled, is_read}
use Rattle.ash_image.proofs.image.read_spelling.Goals as goal

pub returns-in-Ok-clause-found : goal.returns-in-Ok-clause-found
returns-in-Ok-clause-found c = is_spelled c.args.bytes.now (image_read c.in-Ok.stored)
    (λ i. omega (arith, c.type_inv.bytes i)) c.in-Ok.ensures.read

pub returns-in-Ok-clause-only : goal.returns-in-Ok-clause-only
returns-in-Ok-clause-only c = λ version s h. sym c.in-Ok.ensures.read ∙ is_read c.args.bytes.now version s h

pub returns-in-Err-Damaged-clause-only : goal.returns-in-Err-Damaged-clause-only
returns-in-Err-Damaged-clause-only c =
    let none = rw c.in-Err-Damaged.field-0-is at c.in-Err-Damaged.ensures.read in
    λ version s h. sym none ∙ is_read c.args.bytes.now version s h
