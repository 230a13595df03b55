use Rattle.std.proofs.Common.{◌≡◌, true, arith}
use Rattle.ash_image.specs.Image.{is_module_name}
use Rattle.ash_image.proofs.NameLaws.{name_utf8}
use Rattle.ash_image.proofs.modules.as_name.Goals as goal

pub returns-in_default : goal.returns-in_default
returns-in_default c = record {
  field =
      let h : is_module_name c.args.bytes.now ≡ true = grind arith in
      absurd (c.in_default.ensures.cases.0 (name_utf8 c.args.bytes.now h));
}
