use Rattle.ash_compile.proofs.Emitted.{if_ok}
use Rattle.ash_compile.proofs.EmittedCalls as emitted
use Rattle.ash_compile.proofs.ValidJumps.{if_both}
use Rattle.ash_compile.proofs.builder.CodeBuilder.call.Goals as goal

pub returns-in-Function : goal.returns-in-Function
returns-in-Function c = record {
  emits = rw c.in-Function.is (if_both c.enter.result c.enter.ensures.keeps c.enter.ensures.puts
      (λ u keeps puts start ps es first long.
      emitted.function_if start c.args.self.now c.enter.new.self c.in-Function.function _ ps es c.args.slot first keeps
      puts));
}

pub returns-in-Service : goal.returns-in-Service
returns-in-Service c = record {
  emits = rw c.in-Service.is (if_ok c.put.result
      (λ u puts start ps es first long.
      emitted.service start c.args.self.now c.put.new.self c.in-Service.service c.in-Service.id
      c.in-Service.result ps es
      c.args.slot c.args.count first long puts)
      c.put.ensures.puts);
}

pub returns-in-Class : goal.returns-in-Class
returns-in-Class c = record {
  emits = rw c.in-Class.is (if_both c.enter-in-Class.result c.enter-in-Class.ensures.keeps
      c.enter-in-Class.ensures.puts
      (λ u keeps puts start ps es first long.
      emitted.construction_if start c.args.self.now c.enter-in-Class.new.self c.in-Class.class ps es c.args.slot first
      keeps puts));
}

pub returns-in-Host : goal.returns-in-Host
returns-in-Host c = record {
  emits = rw c.in-Host.is (if_ok c.put-in-Host.result
      (λ u puts start ps es first long.
      emitted.host start c.args.self.now c.put-in-Host.new.self c.in-Host.kind ps es c.args.slot c.args.count first
      long puts)
      c.put-in-Host.ensures.puts);
}

pub returns-in-Array : goal.returns-in-Array
returns-in-Array c = record {
  emits = rw c.in-Array.is c.construct_array.ensures.emits;
}
