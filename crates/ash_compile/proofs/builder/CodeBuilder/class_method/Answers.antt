use Rattle.std.proofs.Common.{◌≡◌, ◌≤◌, ◌<◌, ℕ, length, subst}
use Rattle.ash_typed.specs.Modules.{Module}
use Rattle.ash_meaning.specs.Classes.{Method}
use Rattle.ash_code.specs.declared.instruction.Instruction.TheVariants as i
use Rattle.ash_compile.specs.declared.layout.Layout.{Layout}
use Rattle.ash_compile.specs.Layout.{IsLayout, index_of}
use Rattle.ash_compile.specs.Emission.{Puts}
use Rattle.ash_compile.specs.ValidCode.{counts_of}
use Rattle.ash_compile.proofs.Emitted.{if_ok}
use Rattle.ash_compile.proofs.EmittedCalls as emitted
use Rattle.ash_compile.proofs.builder.CodeBuilder.class_method.Goals as goal

pub returns-in-Some : goal.returns-in-Some
returns-in-Some c =
    let function = c.in-Some.function in
    record {
      emits = if_ok c.put_and_move.result
          (λ u puts start mid gives e ps es first second.
          emitted.method start mid c.args.self.now puts.0 c.put_and_move.new.self c.args.class c.args.method
          function gives
          e ps es c.args.slot first second
          (subst (λ (l : Layout). (number : ℕ) (m : Module) → IsLayout number m l → c.args.class < length m.classes
          → function ≡ index_of m (Method c.args.class c.args.method)) c.layout.ensures.layout c.in-Some.ensures.place)
          (subst (λ (n : ℕ). Puts c.args.self.now puts.0 n (i.CallMethod function c.args.slot n)) c.requires.next
          puts.1)
          (subst (λ (n : ℕ). Puts puts.0 c.put_and_move.new.self c.args.slot (i.Move n c.args.slot)) c.requires.next
          puts.2))
          c.put_and_move.ensures.puts;
    }

pub returns-in-None : goal.returns-in-None
returns-in-None c = record {
  emits = λ start mid gives e ps es first second.
      emitted.no_method start mid c.args.self.now c.args.class c.args.method gives e ps es c.args.slot first second
      (subst (λ (l : Layout). (number : ℕ) (m : Module) → IsLayout number m l → c.args.class < length m.classes
      → length (counts_of l) ≤ index_of m (Method c.args.class c.args.method)) c.layout.ensures.layout
      c.in-None.ensures.none);
}
