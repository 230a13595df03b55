use Rattle.std.proofs.Common.{◌≡◌, drop}
use Rattle.std.specs.List.{list_all}
use Rattle.ash_image.specs.Image.{is_name_part}
use Rattle.ash_image.proofs.names.all_name_parts.Given as goal

abbrev pub invariant-loop-byte : goal.invariant-loop-byte
invariant-loop-byte l = list_all is_name_part (drop l.byte-index l.bytes) ≡ list_all is_name_part l.bytes
