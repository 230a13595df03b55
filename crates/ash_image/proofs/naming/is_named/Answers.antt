use Rattle.std.proofs.Common.{◌≡◌, string_bytes}
use Rattle.std.proofs.lemmas.Map.Text.{is_eq-slice_cmp}
use Rattle.ash_image.proofs.ModuleLaws.{same_either_way}
use Rattle.ash_image.proofs.naming.is_named.Goals as goal

pub returns : goal.returns
returns c =
    let key = string_bytes c.args.key.now in
    let name = c.args.name.now in
    let one = is_eq-slice_cmp name key in
    let other = is_eq-slice_cmp key name in
    let turned = same_either_way name key in
    let same : c.as_str.result.now ≡ key = cc in
    record { value = cc }
