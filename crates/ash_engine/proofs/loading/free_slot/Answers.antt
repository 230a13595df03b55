use Rattle.std.proofs.Common.{rules, ◌≡◌, false, sym, ◌∙◌}
use Rattle.ash_engine.proofs.FreeSlots.{not_used}
use Rattle.ash_engine.proofs.loading.free_slot.Goals as goal

pub returns-then-not-is_used : goal.returns-then-not-is_used
returns-then-not-is_used c =
    let fails : c.is_used.result ≡ false = search rules in
    record { free = not_used c.loop-slot.slot c.args.compiled.now (sym c.is_used.ensures.used ∙ fails) }
