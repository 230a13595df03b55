use Rattle.std.proofs.Common.{◌∙◌, ap}
use Rattle.ash_journal.specs.Layout.{four_bytes}
use Rattle.ash_journal.proofs.LayoutLaws.{four_round_trip}
use Rattle.ash_journal.proofs.one_file.size_of.Goals as goal

pub returns : goal.returns
returns c = record { value = ap four_bytes c.read_u32.ensures ∙ four_round_trip c.args.bytes.now c.requires.length (λ i. (c.type_inv.bytes i).fits) }
