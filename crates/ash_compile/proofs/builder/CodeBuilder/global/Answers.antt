use Rattle.std.proofs.Common.{ap, option_map}
use Rattle.ash_typed.specs.BodyViews.{value_of}
use Rattle.ash_typed.specs.TypedTreeViews.{expr_of}
use Rattle.ash_compile.proofs.Emitted.{if_ok}
use Rattle.ash_compile.proofs.EmittedGlobals.{global_without, global_with}
use Rattle.ash_compile.proofs.builder.CodeBuilder.global.Goals as goal

pub returns-in-None : goal.returns-in-None
returns-in-None c = record {
  emits = global_without c.args.self.now c.args.place (value_of c.args.global.now)
      (ap (option_map expr_of) c.in-None.is);
}

pub returns-in_ok-put-in-Some : goal.returns-in_ok-put-in-Some
returns-in_ok-put-in-Some c = record {
  emits = if_ok c.put-in-Some.result
      (λ u puts. global_with c.args.self.now c.put-in-Some.new.self c.args.place (value_of c.args.global.now)
      (expr_of c.in-Some.value) (ap (option_map expr_of) c.in-Some.is) (record {
        mid = c.expression.new.self;
        last = c.put.new.self;
        value = c.in_ok-expression-in-Some.ensures.emits;
        stores = c.in_ok-put-in-Some.ensures.puts;
        ends = puts;
      }))
      c.put-in-Some.ensures.puts;
}
