use Rattle.std.proofs.Common.{◌+◌, [], ◌∷◌, map, drop, refl, sym, ap, ◌∙◌}
use Rattle.std.proofs.lemmas.List.{map-append}
use Rattle.ash_check_names.specs.NameIndex.{texts}
use Rattle.ash_check_names.proofs.Rows.{further, whole}
use Rattle.ash_check_names.proofs.name_index.class_names.Goals as goal

pub loop-class-preserved : goal.loop-class-preserved
loop-class-preserved c =
    let row = c.loop-class.names.items in
    let new = c.class-item.result in
    further (map (λ x. x.name.now)) c.args.all.now c.loop-class.class-index (texts row) new (new.name.now ∷ []) (texts c.push.new.self.items) c.loop-class-test.true
    (ap (λ x. x.name.now ∷ map (λ y. y.name.now) (drop (c.loop-class.class-index + 1) c.args.all.now)) (sym c.class-item.is)) (ap texts c.in_ok-push.ensures.items ∙ map-append (λ name. name.now) row (new.name ∷ [])) c.loop-class.invariant

pub returns : goal.returns
returns c = record { value = whole (map (λ x. x.name.now)) c.args.all.now c.loop-class.class-index (texts c.loop-class.names.items) c.loop-class-test.false refl c.loop-class.invariant }
