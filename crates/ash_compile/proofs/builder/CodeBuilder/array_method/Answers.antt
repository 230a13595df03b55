use Rattle.std.proofs.Common.{ℕ, subst}
use Rattle.ash_code.specs.declared.instruction.Instruction.TheVariants as i
use Rattle.ash_typed.specs.declared.tree.operations.ArrayMethod.TheVariants as methods
use Rattle.ash_compile.specs.Emission.{Puts}
use Rattle.ash_compile.proofs.Emitted.{if_ok}
use Rattle.ash_compile.proofs.EmittedCalls as emitted
use Rattle.ash_compile.proofs.builder.CodeBuilder.array_method.Goals as goal

pub returns-in-Length : goal.returns-in-Length
returns-in-Length c = record {
  emits = rw c.in-Length.is (if_ok c.put.result
      (λ u puts start mid e ps es first second.
      emitted.array_method start mid c.args.self.now c.put.new.self methods.Length e ps es c.args.slot first second
      puts)
      c.put.ensures.puts);
}

pub returns-in-IsEmpty : goal.returns-in-IsEmpty
returns-in-IsEmpty c = record {
  emits = rw c.in-IsEmpty.is (if_ok c.put-in-IsEmpty.result
      (λ u puts start mid e ps es first second.
      emitted.array_method start mid c.args.self.now c.put-in-IsEmpty.new.self methods.IsEmpty e ps es c.args.slot
      first second puts)
      c.put-in-IsEmpty.ensures.puts);
}

pub returns-in-Resize : goal.returns-in-Resize
returns-in-Resize c = record {
  emits = rw c.in-Resize.is (if_ok c.put-in-Resize.result
      (λ u puts start mid e ps es first second.
      emitted.array_method start mid c.args.self.now c.put-in-Resize.new.self methods.Resize e ps es c.args.slot first
      second
      (subst (λ (n : ℕ). Puts c.args.self.now c.put-in-Resize.new.self c.args.slot
      (i.Resize c.args.slot n c.args.slot)) c.requires.next puts))
      c.put-in-Resize.ensures.puts);
}

pub returns-in-InsertLast : goal.returns-in-InsertLast
returns-in-InsertLast c = record {
  emits = rw c.in-InsertLast.is (if_ok c.put-in-InsertLast.result
      (λ u puts start mid e ps es first second.
      emitted.array_method start mid c.args.self.now c.put-in-InsertLast.new.self methods.InsertLast e ps es
      c.args.slot first second
      (subst (λ (n : ℕ). Puts c.args.self.now c.put-in-InsertLast.new.self c.args.slot
      (i.InsertLast c.args.slot n c.args.slot)) c.requires.next puts))
      c.put-in-InsertLast.ensures.puts);
}

pub returns-in-RemoveLast : goal.returns-in-RemoveLast
returns-in-RemoveLast c = record {
  emits = rw c.in-RemoveLast.is (if_ok c.put-in-RemoveLast.result
      (λ u puts start mid e ps es first second.
      emitted.array_method start mid c.args.self.now c.put-in-RemoveLast.new.self methods.RemoveLast e ps es
      c.args.slot first second puts)
      c.put-in-RemoveLast.ensures.puts);
}
