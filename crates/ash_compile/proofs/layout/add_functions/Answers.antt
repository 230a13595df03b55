use Rattle.std.proofs.Common.{◌+◌, drop, map, arith}
use Rattle.ash_typed.specs.Modules.{function_of}
use Rattle.ash_compile.specs.Layout.{count_of_parameters}
use Rattle.ash_compile.proofs.Listings.{rest_here, rest_none}
use Rattle.ash_compile.proofs.Layouts.{counted_more, counted_to_end}
use Rattle.ash_compile.proofs.layout.add_functions.Goals as goal

pub loop-function-preserved : goal.loop-function-preserved
loop-function-preserved c =
    let l = c.loop-function in
    let item = c.function-item.result in
    let functions = c.args.functions.now in
    counted_more count_of_parameters (function_of item) (map function_of (drop l.function-index functions))
    (map function_of (drop (l.function-index + 1) functions)) l.counts.items _ c.len.result _
    (rest_here function_of functions l.function-index item c.loop-function-test.true c.function-item.is)
    (omega (arith, c.len.ensures, item.parameters.ok.0)) c.in_ok-push.ensures.items l.invariant

pub returns : goal.returns
returns c =
    let l = c.loop-function in
    record {
      added = counted_to_end count_of_parameters _ l.counts.items _
          (rest_none function_of c.args.functions.now l.function-index c.loop-function-test.false) l.invariant;
    }
