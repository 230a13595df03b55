use Rattle.std.proofs.Common.{◌+◌, [], ◌∷◌, map, drop, refl, sym, ap, ◌∙◌}
use Rattle.std.proofs.lemmas.List.{map-append}
use Rattle.ash_check_names.specs.NameIndex.{texts}
use Rattle.ash_check_names.proofs.Rows.{further, whole}
use Rattle.ash_check_names.proofs.name_index.interface_names.Goals as goal

pub loop-interface-preserved : goal.loop-interface-preserved
loop-interface-preserved c =
    let row = c.loop-interface.names.items in
    let new = c.interface-item.result in
    further (map (λ x. x.name.now)) c.args.all.now c.loop-interface.interface-index (texts row) new (new.name.now ∷ []) (texts c.push.new.self.items) c.loop-interface-test.true
    (ap (λ x. x.name.now ∷ map (λ y. y.name.now) (drop (c.loop-interface.interface-index + 1) c.args.all.now)) (sym c.interface-item.is)) (ap texts c.in_ok-push.ensures.items ∙ map-append (λ name. name.now) row (new.name ∷ [])) c.loop-interface.invariant

pub returns : goal.returns
returns c = record { value = whole (map (λ x. x.name.now)) c.args.all.now c.loop-interface.interface-index (texts c.loop-interface.names.items) c.loop-interface-test.false refl c.loop-interface.invariant }
