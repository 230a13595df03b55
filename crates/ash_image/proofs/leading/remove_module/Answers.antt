use Rattle.std.proofs.lemmas.Map.Text.{btree_map_updates_text}
use Rattle.ash_image.proofs.ModuleLaws.{removed_is}
use Rattle.ash_image.proofs.leading.remove_module.Goals as goal

pub returns : goal.returns
returns c =
    let sets = btree_map_updates_text c.args.name.now c.args.modules.now c.remove.new.self _ c.remove.ensures.updates in
    record { led = removed_is c.args.name.now c.args.modules.now c.remove.new.self sets }
