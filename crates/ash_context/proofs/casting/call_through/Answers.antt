use Rattle.std.proofs.Common.{sym, subst}
use Rattle.ash_host.specs.declared.word.Word.TheVariants as words
use Rattle.ash_run_steps.specs.Becoming.{Comes}
use Rattle.ash_run_steps.specs.ClassPlaces.{IsAlone}
use Rattle.ash_code.specs.declared.code.CodeParts.{CodeParts}
use Rattle.ash_code.specs.Performing.{call, own_name, classes_of}
use Rattle.ash_code.specs.Steps.{found, method_of}
use Rattle.ash_context.specs.Positions.{control_of, came_to}
use Rattle.ash_context.proofs.Puts.{after_ok, after_err}
use Rattle.ash_context.proofs.casting.call_through.Goals as goal

pub returns-in-Ok : goal.returns-in-Ok
returns-in-Ok g c =
    let a = c.args in
    let old = a.state.now in
    let at = control_of a.at old.frames in
    let new = c.call_with.new.state in
    let r = c.method_of.result in
    record {
      called = λ s same.
          let alone : IsAlone s.names a.code.now.module = subst (λ (code : CodeParts). IsAlone s.names code.module) same s.alone in
          after_ok g.B.HostObject s.names (found (method_of (own_name s) (classes_of s) a.interface a.method a.number)) (λ function. call s function (words.Object a.number) a.first at) old old new r c.in-Ok.function (came_to c.call_with.result new.frames) c.in-Ok.is
          (subst (λ (code : CodeParts). Comes g.B.HostObject s.names (found (method_of ((s.names).modules code.module) (code.classes).items a.interface a.method a.number)) old r old) (sym same) (c.method_of.ensures.method s.names alone))
          (c.call_with.ensures.called s same);
    }

pub returns-in-Err : goal.returns-in-Err
returns-in-Err g c =
    let a = c.args in
    let old = a.state.now in
    let at = control_of a.at old.frames in
    let r = c.method_of.result in
    record {
      called = λ s same.
          let alone : IsAlone s.names a.code.now.module = subst (λ (code : CodeParts). IsAlone s.names code.module) same s.alone in
          after_err g.B.HostObject s.names (found (method_of (own_name s) (classes_of s) a.interface a.method a.number)) (λ function. call s function (words.Object a.number) a.first at) old old r c.in-Err.stop c.in-Err.is
          (subst (λ (code : CodeParts). Comes g.B.HostObject s.names (found (method_of ((s.names).modules code.module) (code.classes).items a.interface a.method a.number)) old r old) (sym same) (c.method_of.ensures.method s.names alone));
    }
