use Rattle.ash_compile.specs.EmittedStatements.{EndsBody}
use Rattle.ash_compile.proofs.Emitted.{if_ok}
use Rattle.ash_compile.proofs.builder.CodeBuilder.body_end.Goals as goal

pub returns-then-has_no_continue : goal.returns-then-has_no_continue
returns-then-has_no_continue c = record {
  ends = EndsBody.none c.lead_all.ensures.leads (c.has_no_continue.ensures.none c.if-has_no_continue.true);
}

pub returns : goal.returns
returns c = record {
  ends = if_ok c.landing.result (λ u lands. EndsBody.lands lands) c.landing.ensures.lands;
}
