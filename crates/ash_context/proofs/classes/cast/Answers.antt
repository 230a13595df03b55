use Rattle.ash_context.proofs.ClassSteps.{cast_null}
use Rattle.ash_context.proofs.classes.cast.Goals as goal

pub returns-in-Object : goal.returns-in-Object
returns-in-Object g c = record { cast = λ names alone. rw c.in-Object.is (c.cast_object.ensures.cast names alone) }

pub returns-in_default : goal.returns-in_default
returns-in_default g c =
    let a = c.args in
    let code = a.code.now in
    record {
      cast = λ names alone. cast_null g.B.HostObject names (names.modules code.module) (code.classes).items a.to a.word a.state.now c.in_default.not-Object;
    }
