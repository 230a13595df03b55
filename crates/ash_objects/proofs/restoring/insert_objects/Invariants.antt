use Rattle.std.proofs.Common.{vec_len}
use Rattle.ash_objects.specs.Listing.{AreListed}
use Rattle.ash_objects.proofs.Putting.{PutState}
use Rattle.ash_objects.proofs.restoring.insert_objects.Given as goal

abbrev pub invariant-loop-object : goal.invariant-loop-object
invariant-loop-object g l = record {
  state : PutState l.initial.objects.items l.initial.boxes.items l.objects.items l.boxes.items l.store.objects;
  listed : AreListed l.store.objects l.marks;
}

-- each turn takes one of them
abbrev pub decreases-loop-object : goal.decreases-loop-object
decreases-loop-object g l = vec_len l.objects
