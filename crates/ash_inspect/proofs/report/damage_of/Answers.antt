use Rattle.std.proofs.Common.{arith}
use Rattle.ash_inspect.proofs.report.damage_of.Goals as goal

pub returns-in-None : goal.returns-in-None
returns-in-None c = record {
  sound = λ none. record {
    state = c.in-Some.state;
    is_found = c.in-Some.is;
    all = omega arith;
    to_the_end = c.in-None.is;
  };
  found = tt;
}

pub returns-then-state-len-clause-found : goal.returns-then-state-len-clause-found
returns-then-state-len-clause-found c = (c.in-Some.state, c.in-Some.is, omega (arith, c.if-state-len.true))
