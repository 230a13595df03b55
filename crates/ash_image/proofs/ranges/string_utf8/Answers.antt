use Rattle.std.proofs.Common.{◌≡◌, ℕ, List, string_bytes, subst}
use Rattle.std.specs.Str.{IsUtf8}
use Rattle.ash_image.proofs.ranges.string_utf8.Goals as goal

pub returns : goal.returns
returns c =
    let same : c.as_str.result.now ≡ string_bytes c.args.text.now = cc in
    record { utf8 = subst (λ (bytes : List ℕ). IsUtf8 bytes) same c.text_utf8.ensures.utf8 }
