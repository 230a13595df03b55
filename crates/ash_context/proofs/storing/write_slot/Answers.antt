use Rattle.std.proofs.Common.{List, refl, ap, sym, arith}
use Rattle.ash_host.specs.declared.word.Word.{Word}
use Rattle.ash_run_steps.specs.Stacks.{with_slots}
use Rattle.ash_context.proofs.Puts.{set_beyond}
use Rattle.ash_context.proofs.storing.write_slot.Goals as goal

pub returns-else-slot-slot_count : goal.returns-else-slot-slot_count
returns-else-slot-slot_count g c =
    let old = c.args.state.now in
    let f = (old.frames).frame in
    record {
      same = λ names rest. refl;
      written = sym (ap (λ (ws : List Word). record old { frames = record old.frames { frame = with_slots ws f } }) (set_beyond f.slots c.args.slot c.args.word (omega arith)));
    }
