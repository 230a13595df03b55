use Rattle.std.proofs.Common.{◌≡◌, ◌++◌, ◌+◌, ◌∙◌, ℕ, get_or, map, drop, ap, sym, string_bytes, Bor}
use Rattle.ash_tree.specs.declared.tree.items.Class as code_class
use Rattle.ash_tree.specs.TreeViews.{class_of}
use Rattle.ash_class_cycles.specs.ClassReferences.{borrowed_classes}
use Rattle.ash_class_cycles.proofs.ReferenceLaws.{borrowed_at}
use Rattle.ash_check.specs.Checks.{name_at}
use Rattle.ash_check.proofs.CheckLaws.{name_is, one_more_name}
use Rattle.ash_check.proofs.checks.class_names_at.Goals as goal

pub loop-place-preserved : goal.loop-place-preserved
loop-place-preserved c =
    let classes = borrowed_classes c.args.classes.now in
    let i : ℕ = c.loop-place.place-index in
    let place : ℕ = get_or c.args.places.now i 0 in
    let within = c.requires.within i 0 c.loop-place-test.true in
    let at = borrowed_at c.args.classes.now place c.index-classes-place.result within c.index-classes-place.is in
    let name : string_bytes c.in_ok-clone.field-0 ≡ name_at classes place = c.in_ok-clone.ensures.cases ∙ ap (λ (x : Bor code_class.Class). string_bytes x.now.name) (sym c.index-classes-place.is) ∙ sym (name_is classes place (class_of c.index-classes-place.result.now) at) in
    ap (λ names. map string_bytes names ++ map (name_at classes) (drop (i + 1) c.args.places.now)) c.in_ok-push.ensures.items ∙ one_more_name classes c.loop-place.names.items c.in_ok-clone.field-0 c.args.places.now i 0 c.loop-place-test.true name ∙ c.loop-place.invariant
