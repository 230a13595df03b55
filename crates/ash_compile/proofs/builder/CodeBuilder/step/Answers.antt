use Rattle.std.proofs.Common.{ℕ, ◌+◌, ap, ◌∙◌}
use Rattle.ash_code.specs.declared.instruction.Instruction.TheVariants as i
use Rattle.ash_compile.specs.Places.{reading, writing, slot_of_old, slot_of_new}
use Rattle.ash_compile.proofs.Emitted.{if_ok}
use Rattle.ash_compile.proofs.EmittedUpdates as emitted
use Rattle.ash_compile.proofs.builder.CodeBuilder.step.Goals as goal

pub returns : goal.returns
returns c =
    let old_is = c.slot_of_old-old.ensures.slot ∙ ap (slot_of_old c.args.step c.args.slot) c.requires.next in
    let new_is = c.slot_of_new-new.ensures.slot ∙ ap (slot_of_new c.args.step c.args.slot) c.requires.next in
    let old = slot_of_old c.args.step c.args.slot (c.args.slot + 1) in
    let new = slot_of_new c.args.step c.args.slot (c.args.slot + 1) in
    record {
      emits = if_ok c.put-3.result
          (λ u puts start place first.
          emitted.count start c.args.self.now c.put.new.self c.put-2.new.self c.put-3.new.self place c.args.of
          c.args.step
          c.args.spot c.args.slot first
          (emitted.put_as c.args.self.now c.put.new.self c.args.other (c.args.slot + 1) c.reading.result
          (reading c.args.spot old) c.requires.next (c.reading.ensures.reads ∙ ap (reading c.args.spot) old_is)
          c.in_ok-put.ensures.puts)
          (emitted.put_as c.put.new.self c.put-2.new.self c.args.other (c.args.slot + 1)
          (i.Count c.args.step c.args.of c.slot_of_old-old.result c.slot_of_new-new.result)
          (i.Count c.args.step c.args.of old new) c.requires.next
          (ap (λ (k : ℕ). i.Count c.args.step c.args.of k c.slot_of_new-new.result) old_is
          ∙ ap (λ (k : ℕ). i.Count c.args.step c.args.of old k) new_is)
          c.in_ok-put-2.ensures.puts)
          (emitted.put_as c.put-2.new.self c.put-3.new.self c.args.other (c.args.slot + 1) c.writing.result
          (writing c.args.spot new) c.requires.next (c.writing.ensures.writes ∙ ap (writing c.args.spot) new_is) puts))
          c.put-3.ensures.puts;
    }
