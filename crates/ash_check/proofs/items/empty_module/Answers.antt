use Rattle.std.proofs.Common.{map}
use Rattle.ash_typed.specs.Modules.{interface_of, class_of, function_of, variables_of}
use Rattle.ash_check.proofs.items.empty_module.Goals as goal

pub returns : goal.returns
returns c = record {
  empty = λ k. record {
    interfaces = map interface_of (c.in_ok-with_capacity.ensures.items k);
    classes = map class_of (c.in_ok-with_capacity-2.ensures.items k);
    functions = map function_of (c.in_ok-with_capacity-3.ensures.items k);
    globals = map variables_of (c.new.ensures.items k);
  };
}
