use Rattle.ash_bench.proofs.images.restored.Goals as goal

-- what was read has a shape
pub restore-requires : goal.restore-requires
restore-requires c =
    let is = rw c.in-Some.is at c.in_ok-stored.ensures.found in
    record { shaped = (c.in-Some.stored.version, is.0.0, is.1) }
