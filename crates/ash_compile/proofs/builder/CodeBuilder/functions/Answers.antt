use Rattle.std.proofs.Common.{◌∙◌, ◌++◌, [], List, map, flat_map, sym, subst}
use Rattle.std.specs.List.{AllZip}
use Rattle.ash_typed.specs.declared.tree.items.Function as function
use Rattle.ash_typed.specs.declared.tree.items.Class as class
use Rattle.ash_typed.specs.Modules.{class_of, function_of}
use Rattle.ash_code.specs.declared.code.FunctionCode.{FunctionCode}
use Rattle.ash_compile.specs.declared.layout.Layout.{Layout}
use Rattle.ash_compile.specs.EmittedFrames.{frame_of_function, frame_of_construction, methods_of, IsFrameCode}
use Rattle.ash_compile.proofs.builder.CodeBuilder.functions.Goals as goal

pub returns : goal.returns
returns c =
    let layout = c.args.self.now.layout in
    let tree = c.args.tree.now in
    let first = map frame_of_function (map function_of c.deref.result.now) in
    let second = first ++ map frame_of_construction (map class_of c.deref-2.result.now) in
    let third = flat_map methods_of (map class_of c.deref-3.result.now) in
    let none = subst (λ (fs : List FunctionCode). AllZip (IsFrameCode layout) [] fs)
    (sym c.new-codes.ensures.items) tt in
    let one = c.in_ok-add_functions.ensures.added [] none in
    let two = subst (λ (l : Layout). AllZip (IsFrameCode l) first c.add_functions.new.codes.items
    → AllZip (IsFrameCode l) second c.add_constructions.new.codes.items) c.in_ok-add_functions.ensures.layout
    (c.in_ok-add_constructions.ensures.added first) one in
    let three = subst (λ (l : Layout). AllZip (IsFrameCode l) second c.add_constructions.new.codes.items
    → AllZip (IsFrameCode l) (second ++ third) c.add_all_methods.new.codes.items)
    (c.in_ok-add_constructions.ensures.layout ∙ c.in_ok-add_functions.ensures.layout)
    (c.in_ok-add_all_methods.ensures.added second) two in
    record {
      functions = subst (λ (fs : List function.Function). AllZip (IsFrameCode layout)
          (map frame_of_function (map function_of fs) ++ map frame_of_construction (map class_of tree.classes.items)
          ++ flat_map methods_of (map class_of tree.classes.items)) c.add_all_methods.new.codes.items)
          c.deref.ensures.value
          (subst (λ (cs : List class.Class). AllZip (IsFrameCode layout)
          (first ++ map frame_of_construction (map class_of cs) ++ flat_map methods_of
          (map class_of tree.classes.items))
          c.add_all_methods.new.codes.items) c.deref-2.ensures.value
          (subst (λ (cs : List class.Class). AllZip (IsFrameCode layout)
          (second ++ flat_map methods_of (map class_of cs)) c.add_all_methods.new.codes.items)
          c.deref-3.ensures.value three));
      layout = c.in_ok-add_all_methods.ensures.layout ∙ c.in_ok-add_constructions.ensures.layout
          ∙ c.in_ok-add_functions.ensures.layout;
    }
