use Rattle.std.proofs.lemmas.List.Elements.{All-same, All-push}
use Rattle.ash_bench.specs.Uses.{HasField, MayBeHeld}
use Rattle.ash_bench.proofs.objects.turns.Goals as goal

pub loop-call-preserved : goal.loop-call-preserved
loop-call-preserved c =
    let table = c.args.objects.now in
    let slots = c.loop-call.slots.items in
    let one = c.in_ok-push.ensures.items in
    record {
      fields = All-same (HasField table) _ _ one (All-push (HasField table) slots c.in-Some.slot c.loop-call.invariant.fields c.in-Some.ensures.field);
      held = All-same (MayBeHeld table) _ _ one (All-push (MayBeHeld table) slots c.in-Some.slot c.loop-call.invariant.held c.in-Some.ensures.held);
    }
