use Rattle.std.proofs.Common.{◌≡◌, ◌∙◌, List, ap, sym}
use Rattle.std.specs.Prelude.{Some, None}
use Rattle.ash_code.specs.declared.code.ClassCode.{ClassCode}
use Rattle.ash_context.specs.ObjectClasses.{method_at}
use Rattle.ash_context.proofs.ClassSteps.{method_gives, method_lacks}
use Rattle.ash_context.proofs.classes.method_of.Goals as goal

pub returns-in-Some-clause-method : goal.returns-in-Some-clause-method
returns-in-Some-clause-method g c =
    let a = c.args in
    let code = a.code.now in
    let place = c.class_place-place.result in
    let is : method_at (code.classes).items a.interface a.method place ≡ Some c.in-Some.function
    = sym (c.method_at.ensures.method ∙ ap (λ (classes : List ClassCode). method_at classes a.interface a.method place) c.deref.ensures.value) ∙ c.in-Some.is in
    λ names alone. method_gives g.B.HostObject names (names.modules code.module) (code.classes).items a.number a.state.now place (c.class_place-place.ensures.place names alone) a.interface a.method c.in-Some.function is

pub returns-in-None-clause-method : goal.returns-in-None-clause-method
returns-in-None-clause-method g c =
    let a = c.args in
    let code = a.code.now in
    let place = c.class_place-place.result in
    let is : method_at (code.classes).items a.interface a.method place ≡ None
    = sym (c.method_at.ensures.method ∙ ap (λ (classes : List ClassCode). method_at classes a.interface a.method place) c.deref.ensures.value) ∙ c.in-None.is in
    λ names alone. method_lacks g.B.HostObject names (names.modules code.module) (code.classes).items a.number a.state.now place (c.class_place-place.ensures.place names alone) a.interface a.method is
