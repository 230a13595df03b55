use Rattle.std.proofs.Common.{sym, refl, ap, ◌∙◌, map, length, option_map, arith}
use Rattle.std.specs.Prelude.{Option}
use Rattle.std.specs.Option.{option_map_or}
use Rattle.ash_typed.specs.declared.tree.items.Function as function
use Rattle.ash_typed.specs.StatementTree.{no_stmt}
use Rattle.ash_typed.specs.BodyViews.{value_of, body_of}
use Rattle.ash_typed.specs.Modules.{Function, class_of, function_of}
use Rattle.ash_typed.specs.Signatures.{parameters_of}
use Rattle.ash_compile.specs.EmittedFrames.{frame_of_construction}
use Rattle.ash_compile.proofs.Emitted.{if_ok}
use Rattle.ash_compile.proofs.builder.CodeBuilder.construction.Goals as goal

pub returns-in-Some-clause-construction : goal.returns-in-Some-clause-construction
returns-in-Some-clause-construction c =
    let class = c.args.class.now in
    if_ok c.frame.result (λ code any. any (frame_of_construction (class_of class))
    (ap (λ (o : Option function.Function). option_map_or (λ (f : Function). f.line)
    (option_map function_of o) class.line)
    c.in-Some.is)
    (sym (ap (map value_of) c.deref.ensures.value))
    (ap (λ (o : Option function.Function). option_map_or (λ (f : Function). f.body) (option_map function_of o) no_stmt)
    c.in-Some.is ∙ sym (ap body_of c.deref-in-Some.ensures.value))
    (ap (λ (o : Option function.Function). length (parameters_of (option_map function_of o))) c.in-Some.is
    ∙ omega (arith, c.len.ensures, c.in-Some.constructor.parameters.ok.0))
    refl) c.frame.ensures.code

pub returns-in-None-clause-construction : goal.returns-in-None-clause-construction
returns-in-None-clause-construction c =
    let class = c.args.class.now in
    if_ok c.frame-in-None.result (λ code any. any (frame_of_construction (class_of class))
    (ap (λ (o : Option function.Function). option_map_or (λ (f : Function). f.line)
    (option_map function_of o) class.line)
    c.in-None.is)
    (sym (ap (map value_of) c.deref-in-None.ensures.value))
    (ap (λ (o : Option function.Function). option_map_or (λ (f : Function). f.body) (option_map function_of o) no_stmt)
    c.in-None.is)
    (ap (λ (o : Option function.Function). length (parameters_of (option_map function_of o))) c.in-None.is)
    refl) c.frame-in-None.ensures.code
