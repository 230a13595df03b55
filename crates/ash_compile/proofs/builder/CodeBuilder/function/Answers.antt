use Rattle.std.proofs.Common.{sym, refl, ap, arith}
use Rattle.ash_typed.specs.BodyViews.{body_of}
use Rattle.ash_typed.specs.Modules.{function_of}
use Rattle.ash_compile.specs.EmittedFrames.{frame_of_function, frame_of_method}
use Rattle.ash_compile.proofs.Emitted.{if_ok}
use Rattle.ash_compile.proofs.builder.CodeBuilder.function.Goals as goal

pub returns-clause-function : goal.returns-clause-function
returns-clause-function c =
    if_ok c.frame.result (λ code any. any (frame_of_function (function_of c.args.function.now)) refl refl
    (sym (ap body_of c.deref.ensures.value)) (omega (arith, c.len.ensures, c.args.function.now.parameters.ok.0)) refl)
    c.frame.ensures.code

pub returns-clause-method : goal.returns-clause-method
returns-clause-method c =
    if_ok c.frame.result (λ code any class. any (frame_of_method class (function_of c.args.function.now)) refl refl
    (sym (ap body_of c.deref.ensures.value)) (omega (arith, c.len.ensures, c.args.function.now.parameters.ok.0)) refl)
    c.frame.ensures.code
