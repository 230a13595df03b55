use Rattle.std.proofs.Common.{sym, ◌∙◌, arith}
use Rattle.ash_image.specs.DeltaViews.{delta_of}
use Rattle.ash_image.proofs.DeltaLaws.{is_delta, is_delta_read}
use Rattle.ash_image.proofs.delta.read_delta.Goals as goal

pub returns-in-Ok-clause-found : goal.returns-in-Ok-clause-found
returns-in-Ok-clause-found c = is_delta c.args.version c.args.bytes.now (delta_of c.in-Ok.delta)
    (λ i. omega (arith, c.type_inv.bytes i)) c.in-Ok.ensures.read

pub returns-in-Ok-clause-only : goal.returns-in-Ok-clause-only
returns-in-Ok-clause-only c = λ d h. sym c.in-Ok.ensures.read ∙ is_delta_read c.args.version c.args.bytes.now d h

pub returns-in-Err-Damaged-clause-only : goal.returns-in-Err-Damaged-clause-only
returns-in-Err-Damaged-clause-only c =
    let none = rw c.in-Err-Damaged.field-0-is at c.in-Err-Damaged.ensures.read in
    λ d h. sym none ∙ is_delta_read c.args.version c.args.bytes.now d h
