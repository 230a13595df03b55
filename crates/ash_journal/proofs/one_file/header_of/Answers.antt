use Rattle.ash_journal.proofs.ReadLaws.{marked_prefix, unmarked_prefix}
use Rattle.ash_journal.proofs.one_file.header_of.Goals as goal

pub returns-in-Some : goal.returns-in-Some
returns-in-Some c = record {
  value =
      λ file is.
      marked_prefix file c.args.prefix.now c.in-Some.generation is c.if-prefix-ne1.false c.if-prefix-lt2.false
      c.in-Some.ensures.value.1 c.in-Some.ensures.value.0;
}

pub returns-in-None : goal.returns-in-None
returns-in-None c = record {
  value =
      λ file is.
      unmarked_prefix file c.args.prefix.now is c.if-prefix-ne1.false c.if-prefix-lt2.false c.in-None.ensures.value;
}
