use Rattle.std.proofs.Common.{◌∙◌, ◌++◌, List, ℕ, map, flat_map, ap}
use Rattle.ash_typed.specs.declared.tree.items.Function as function
use Rattle.ash_typed.specs.declared.tree.items.Class as class
use Rattle.ash_typed.specs.Modules.{class_of, function_of}
use Rattle.ash_compile.specs.Layout.{count_of_parameters, count_of_constructor, counts_of_methods}
use Rattle.ash_compile.proofs.layout.parameter_counts.Goals as goal

pub returns : goal.returns
returns c =
    let functions = λ (fs : List function.Function). map count_of_parameters (map function_of fs) in
    let constructions = λ (cs : List class.Class). map count_of_constructor (map class_of cs) in
    let methods = λ (cs : List class.Class). flat_map counts_of_methods (map class_of cs) in
    record {
      counts = c.in_ok-add_methods.ensures.added
          ∙ ap (λ (ns : List ℕ). ns ++ methods c.deref-3.result.now)
          (c.in_ok-add_constructions.ensures.added
          ∙ ap (λ (ns : List ℕ). ns ++ constructions c.deref-2.result.now)
          (c.in_ok-add_functions.ensures.added
          ∙ ap (λ (ns : List ℕ). ns ++ functions c.deref.result.now) c.new-counts.ensures.items))
          ∙ ap (λ (fs : List function.Function). functions fs ++ constructions c.deref-2.result.now
          ++ methods c.deref-3.result.now) c.deref.ensures.value
          ∙ ap (λ (cs : List class.Class). functions c.args.tree.now.functions.items ++ constructions cs
          ++ methods c.deref-3.result.now) c.deref-2.ensures.value
          ∙ ap (λ (cs : List class.Class). functions c.args.tree.now.functions.items
          ++ constructions c.args.tree.now.classes.items ++ methods cs) c.deref-3.ensures.value;
    }
