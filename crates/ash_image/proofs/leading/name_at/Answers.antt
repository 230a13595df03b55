use Rattle.std.proofs.Common.{◌≡◌, ◌∙◌, ap, map, string_bytes, [], List}
use Rattle.std.specs.Prelude.{slice_get}
use Rattle.std.specs.BTreeMap.{keys}
use Rattle.std.specs.Option.{unwrap_or}
use Rattle.std.specs.declared.alloc.Global.{Global}
use Rattle.std.specs.declared.string.String.{String}
use Rattle.ash_image.proofs.ModuleLaws.{name_is}
use Rattle.ash_image.proofs.leading.name_at.Goals as goal

pub loop-name-init : goal.loop-name-init
loop-name-init c =
    let same : c.into_iter-name-iterator.result ≡ keys c.args.modules.now = cc in
    ap (λ (ks : List (String Global)). unwrap_or (slice_get (map string_bytes ks) c.args.index) []) same
    ∙ name_is c.args.modules.now c.args.index
