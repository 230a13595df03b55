use Rattle.ash_engine.proofs.Others.{AreOthersBelow}
use Rattle.ash_engine.proofs.changes.places_of_others.Given as goal

abbrev pub invariant-loop-place : goal.invariant-loop-place
invariant-loop-place l = AreOthersBelow l.before l.after l.place l.places.items
