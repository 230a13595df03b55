use Rattle.std.proofs.Common.{◌≡◌, List, ℕ, sym, ap, ◌∙◌, subst}
use Rattle.std.specs.Prelude.{IfOk, string_bytes}
use Rattle.ash_typed.specs.declared.tree.items.Class as class
use Rattle.ash_meaning.specs.Classes.{dotted}
use Rattle.ash_engine.proofs.EntryNames.{construction_here, behind_constructions}
use Rattle.ash_engine.proofs.names.member_name.Goals as goal

pub returns-then-place-classes : goal.returns-then-place-classes
returns-then-place-classes c =
    let is = construction_here c.args.classes.now c.args.place c.index-classes-place.result c.if-place-classes.true c.index-classes-place.is in
    let same = (λ i. dotted (c.as_str-name.ensures.value i) (c.as_str-name.ensures.value i)) ∙ ap (λ (x : class.Class). dotted (string_bytes x.name) (string_bytes x.name)) (sym c.index-classes-place.is) ∙ is in
    record { name = subst (λ (x : List ℕ). IfOk c.dotted.result (λ name. string_bytes name ≡ x)) same c.dotted.ensures.value }

pub returns : goal.returns
returns c =
    let same = behind_constructions c.args.classes.now c.args.place c.if-place-classes.false in
    record { name = subst (λ (x : List ℕ). IfOk c.method_name.result (λ name. string_bytes name ≡ x)) same c.method_name.ensures.name }
