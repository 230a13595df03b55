use Rattle.std.proofs.Common.{rules, ◌≡◌, IfOk, ℕ, ◌+◌, refl, sym, ap, ◌∙◌, subst}
use Rattle.ash_code.specs.declared.instruction.Instruction.{Instruction}
use Rattle.ash_code.specs.declared.instruction.Instruction.TheVariants as i
use Rattle.ash_compile.specs.Emission.{Puts}
use Rattle.ash_compile.specs.Conversions.{Converts}
use Rattle.ash_compile.specs.Places.{reading, writing, slot_of_old, slot_of_new, EmitsPlace}
use Rattle.ash_compile.proofs.Emitted.{if_ok}
use Rattle.ash_compile.proofs.EmittedUpdates as emitted
use Rattle.ash_compile.proofs.builder.CodeBuilder.update.Goals as goal

pub returns : goal.returns
returns c = record {
  emits = if_ok c.put-3.result
      (λ u puts start mid place e first second.
      emitted.update start mid c.args.self.now c.put.new.self c.convert.new.self c.put-2.new.self c.convert-2.new.self
      c.put-3.new.self
      place c.args.of c.args.calculation e c.args.spot c.args.slot first second
      (subst (λ (k : ℕ). Puts c.args.self.now c.put.new.self k (reading c.args.spot k)) c.requires.next
      (subst (λ (j : Instruction). Puts c.args.self.now c.put.new.self c.args.left j) c.reading.ensures.reads
      c.in_ok-put.ensures.puts))
      (subst (λ (k : ℕ). Converts c.put.new.self c.convert.new.self c.args.of c.args.calculation.of k) c.requires.next
      c.in_ok-convert.ensures.converts)
      (subst (λ (k : ℕ). Puts c.convert.new.self c.put-2.new.self c.args.slot
      (i.Calculate c.args.calculation k c.args.slot c.args.slot)) c.requires.next c.in_ok-put-2.ensures.puts)
      c.in_ok-convert-2.ensures.converts
      (subst (λ (j : Instruction). Puts c.convert-2.new.self c.put-3.new.self c.args.slot j) c.writing.ensures.writes puts))
      c.put-3.ensures.puts;
}
