use Rattle.std.proofs.Common.{◌≡◌, map, string_bytes, []}
use Rattle.std.specs.Prelude.{slice_get}
use Rattle.std.specs.Option.{unwrap_or}
use Rattle.ash_image.specs.Leading.{name_there}
use Rattle.ash_image.specs.NamedViews.{modules_seen}
use Rattle.ash_image.proofs.leading.name_at.Given as goal

-- the name that is left to be passed over so often
abbrev pub invariant-loop-name : goal.invariant-loop-name
invariant-loop-name l = unwrap_or (slice_get (map string_bytes l.name-iterator) l.left) []
    ≡ name_there (modules_seen l.modules) l.index
