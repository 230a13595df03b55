use Rattle.std.proofs.Common.{sym, ◌∙◌, arith}
use Rattle.ash_image.specs.Deltas.{deltas_of}
use Rattle.ash_image.proofs.DeltasLaws.{are_deltas, are_deltas_read}
use Rattle.ash_image.proofs.deltas.read_deltas.Goals as goal

pub returns-in-Ok-clause-found : goal.returns-in-Ok-clause-found
returns-in-Ok-clause-found c = are_deltas c.args.bytes.now (deltas_of c.in-Ok.deltas.items)
    (λ i. omega (arith, c.type_inv.bytes i)) c.in-Ok.ensures.read

pub returns-in-Ok-clause-only : goal.returns-in-Ok-clause-only
returns-in-Ok-clause-only c = λ ds h. sym c.in-Ok.ensures.read ∙ are_deltas_read c.args.bytes.now ds h

pub returns-in-Err-Damaged-clause-only : goal.returns-in-Err-Damaged-clause-only
returns-in-Err-Damaged-clause-only c =
    let none = rw c.in-Err-Damaged.field-0-is at c.in-Err-Damaged.ensures.read in
    λ ds h. sym none ∙ are_deltas_read c.args.bytes.now ds h
