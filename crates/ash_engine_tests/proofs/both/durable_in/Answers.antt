use Rattle.ash_engine_tests.proofs.both.durable_in.Goals as goal

-- what was read has a shape
pub restored-requires : goal.restored-requires
restored-requires c =
    let is = rw c.in-Some.is at c.in_ok-stored.ensures.found in
    record { shaped = (c.in-Some.stored.version, is.0.0, is.1) }
