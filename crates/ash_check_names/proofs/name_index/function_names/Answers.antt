use Rattle.std.proofs.Common.{◌+◌, [], ◌∷◌, map, drop, refl, sym, ap, ◌∙◌}
use Rattle.std.proofs.lemmas.List.{map-append}
use Rattle.ash_check_names.specs.NameIndex.{texts}
use Rattle.ash_check_names.proofs.Rows.{further, whole}
use Rattle.ash_check_names.proofs.name_index.function_names.Goals as goal

pub loop-function-preserved : goal.loop-function-preserved
loop-function-preserved c =
    let row = c.loop-function.names.items in
    let new = c.function-item.result in
    further (map (λ x. x.name.now)) c.args.all.now c.loop-function.function-index (texts row) new (new.name.now ∷ []) (texts c.push.new.self.items) c.loop-function-test.true
    (ap (λ x. x.name.now ∷ map (λ y. y.name.now) (drop (c.loop-function.function-index + 1) c.args.all.now)) (sym c.function-item.is)) (ap texts c.in_ok-push.ensures.items ∙ map-append (λ name. name.now) row (new.name ∷ [])) c.loop-function.invariant

pub returns : goal.returns
returns c = record { value = whole (map (λ x. x.name.now)) c.args.all.now c.loop-function.function-index (texts c.loop-function.names.items) c.loop-function-test.false refl c.loop-function.invariant }
