use Rattle.std.proofs.Common.{◌≡◌, ◌∙◌, List, true, false, ap, sym, rules}
use Rattle.ash_code.specs.declared.code.ClassCode.{ClassCode}
use Rattle.ash_context.specs.ObjectClasses.{is_at}
use Rattle.ash_context.proofs.ClassSteps.{cast_gives}
use Rattle.ash_context.proofs.classes.cast_object.Goals as goal

pub returns-then-is_at : goal.returns-then-is_at
returns-then-is_at g c =
    let a = c.args in
    let code = a.code.now in
    let place = c.class_place-place.result in
    let yes : c.is_at.result ≡ true = search rules in
    let is : is_at (code.classes).items a.to place ≡ true = sym (c.is_at.ensures.of ∙ ap (λ (classes : List ClassCode). is_at classes a.to place) c.deref.ensures.value) ∙ yes in
    record {
      cast = λ names alone. cast_gives g.B.HostObject names (names.modules code.module) (code.classes).items a.number a.state.now place (c.class_place-place.ensures.place names alone) a.to true is;
    }

pub returns-else-is_at : goal.returns-else-is_at
returns-else-is_at g c =
    let a = c.args in
    let code = a.code.now in
    let place = c.class_place-place.result in
    let no : c.is_at.result ≡ false = search rules in
    let is : is_at (code.classes).items a.to place ≡ false = sym (c.is_at.ensures.of ∙ ap (λ (classes : List ClassCode). is_at classes a.to place) c.deref.ensures.value) ∙ no in
    record {
      cast = λ names alone. cast_gives g.B.HostObject names (names.modules code.module) (code.classes).items a.number a.state.now place (c.class_place-place.ensures.place names alone) a.to false is;
    }
