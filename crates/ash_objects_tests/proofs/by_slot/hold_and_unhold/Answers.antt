use Rattle.ash_objects_tests.proofs.Holds.{some_hold}
use Rattle.ash_objects_tests.proofs.by_slot.hold_and_unhold.Goals as goal

pub unhold-requires : goal.unhold-requires
unhold-requires c = record {
  held = let lives = c.lives.ensures.lives c.if-not-lives.false in
      rw c.hold.ensures.held (some_hold c.args.number c.args.objects.now lives);
}
