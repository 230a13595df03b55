use Rattle.std.proofs.Common.{ℕ, subst}
use Rattle.ash_code.specs.declared.instruction.Instruction.TheVariants as i
use Rattle.ash_compile.specs.Emission.{Puts}
use Rattle.ash_compile.proofs.Emitted.{if_ok}
use Rattle.ash_compile.proofs.EmittedCalls as emitted
use Rattle.ash_compile.proofs.builder.CodeBuilder.method.Goals as goal

pub returns-in-Script : goal.returns-in-Script
returns-in-Script c = record {
  emits = rw c.in-Script.is (if_ok c.class_method.result
      (λ u emits start mid e ps es first second long. emits start mid c.in-Script.result e ps es first second)
      c.class_method.ensures.emits);
}

pub returns-in-Interface : goal.returns-in-Interface
returns-in-Interface c = record {
  emits = rw c.in-Interface.is (if_ok c.put_and_move.result
      (λ u puts start mid e ps es first second long.
      emitted.through start mid c.args.self.now puts.0 c.put_and_move.new.self c.in-Interface.interface
      c.in-Interface.method _ e ps es c.args.slot first second
      (subst (λ (n : ℕ). Puts c.args.self.now puts.0 n
      (i.CallInterface c.in-Interface.interface c.in-Interface.method c.args.slot n)) c.requires.next puts.1)
      (subst (λ (n : ℕ). Puts puts.0 c.put_and_move.new.self c.args.slot (i.Move n c.args.slot))
      c.requires.next puts.2))
      c.put_and_move.ensures.puts);
}

pub returns-in-Host : goal.returns-in-Host
returns-in-Host c = record {
  emits = rw c.in-Host.is (if_ok c.put_and_move-in-Host.result
      (λ u puts start mid e ps es first second long.
      emitted.host_method start mid c.args.self.now puts.0 c.put_and_move-in-Host.new.self c.in-Host.id
      c.in-Host.result e ps es
      c.args.slot c.args.count first second long
      (subst (λ (n : ℕ). Puts c.args.self.now puts.0 n
      (i.CallHost c.args.slot c.in-Host.id c.in-Host.result n c.args.count)) c.requires.next puts.1)
      (subst (λ (n : ℕ). Puts puts.0 c.put_and_move-in-Host.new.self c.args.slot (i.Move n c.args.slot))
      c.requires.next puts.2))
      c.put_and_move-in-Host.ensures.puts);
}

pub returns-in-Array : goal.returns-in-Array
returns-in-Array c = record {
  emits = rw c.in-Array.is (if_ok c.array_method.result
      (λ u emits start mid e ps es first second long. emits start mid e ps es first second)
      c.array_method.ensures.emits);
}
