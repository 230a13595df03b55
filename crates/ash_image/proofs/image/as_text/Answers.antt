use Rattle.std.proofs.Common.{rules, refl, arith}
use Rattle.ash_image.proofs.Texts.{no_text, some_text}
use Rattle.ash_image.proofs.image.as_text.Goals as goal

pub returns-in_default : goal.returns-in_default
returns-in_default c = record { field = rw (no_text c.args.bytes.now c.in_default.ensures.cases.0) refl }

pub returns : goal.returns
returns c = record { field = rw (some_text c.args.bytes.now (omega arith) c.in-Ok.ensures.cases.1) (search rules) }
