use Rattle.std.proofs.Common.{string_bytes}
use Rattle.std.proofs.lemmas.Map.Text.{btree_map_updates_text}
use Rattle.ash_image.proofs.ModuleLaws.{added_is}
use Rattle.ash_image.proofs.leading.add_module.Goals as goal

pub returns : goal.returns
returns c =
    let name = string_bytes c.args.added.name in
    let sets = btree_map_updates_text name c.args.modules.now c.insert.new.self _ c.in_ok-insert.ensures.updates in
    record { led = added_is c.args.added c.args.modules.now c.insert.new.self sets }
