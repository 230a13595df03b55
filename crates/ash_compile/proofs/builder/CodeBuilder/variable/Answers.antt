use Rattle.std.proofs.Common.{rules, ◌≡◌, IfOk, ℕ, ◌+◌, refl, sym, ap, ◌∙◌, subst}
use Rattle.ash_code.specs.declared.instruction.Instruction.TheVariants as i
use Rattle.ash_compile.specs.Emission.{Puts}
use Rattle.ash_compile.proofs.Emitted.{if_ok}
use Rattle.ash_compile.proofs.Emitted as emitted
use Rattle.ash_compile.proofs.builder.CodeBuilder.variable.Goals as goal

pub returns-in-Local : goal.returns-in-Local
returns-in-Local c = record {
  emits = rw c.in-Local.is (if_ok c.put.result
      (λ u puts. emitted.a_local c.args.self.now c.put.new.self c.in-Local.from c.in-Local.of c.args.slot c.read_local.result c.read_local.ensures.read puts)
      c.put.ensures.puts);
}

pub returns-in-Global : goal.returns-in-Global
returns-in-Global c = record {
  emits = rw c.in-Global.is (if_ok c.put-in-Global.result
      (λ u puts. emitted.global c.args.self.now c.put-in-Global.new.self c.in-Global.place c.args.slot c.in-Global.of puts)
      c.put-in-Global.ensures.puts);
}
