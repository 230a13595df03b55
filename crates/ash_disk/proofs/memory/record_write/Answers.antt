use Rattle.std.proofs.Common.{◌≡◌, ◌∙◌, [], ◌∷◌, ◌++◌, List, ap, rules}
use Rattle.ash_disk.specs.declared.call.Call.{Call}
use Rattle.ash_disk.specs.declared.call.Call.TheVariants.{Write}
use Rattle.ash_disk.proofs.memory.record_write.Goals as goal

pub returns-clause-recorded : goal.returns-clause-recorded
returns-clause-recorded c =
    let same : c.in_ok-to_vec.field-0.items ≡ c.args.bytes.now = search rules in
    let pushed = rw c.unwrap.ensures at c.push.ensures.items in (
      c.in_ok-to_vec.field-0,
      same,
      pushed ∙ ap (λ (l : List Call). l ++ Write c.args.at c.in_ok-to_vec.field-0 ∷ []) c.reserve.ensures.items,
    )
