use Rattle.std.proofs.Common.{rules}
use Rattle.ash_objects.proofs.Listed.{listed_none}
use Rattle.ash_objects.proofs.objects.Objects.new.Goals as goal

pub invariant_of-result : goal.invariant_of-result
invariant_of-result g c = record {
  table = search rules;
  listed = listed_none c.new.result.objects _ c.new.ensures.objects;
}
