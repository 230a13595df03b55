use Rattle.std.proofs.Common.{arith}
use Rattle.ash_compile.proofs.Emission.{keeps_on, put_keeps, put_one}
use Rattle.ash_compile.proofs.EmittedParts.{keeps_same}
use Rattle.ash_compile.proofs.builder.CodeBuilder.test_places.Goals as goal

pub loop-case-init : goal.loop-case-init
loop-case-init c = (keeps_same c.args.self.now, omega arith)

pub loop-case-preserved : goal.loop-case-preserved
loop-case-preserved c = (
  keeps_on c.args.self.now c.loop-case.self c.put.new.self c.loop-case.invariant.0
      (put_keeps c.loop-case.self c.put.new.self c.args.slot _ c.in_ok-put.ensures.puts),
  omega (
    arith,
    c.loop-case.invariant.1,
    put_one c.loop-case.self c.put.new.self c.args.slot _ c.in_ok-put.ensures.puts,
  ),
)
