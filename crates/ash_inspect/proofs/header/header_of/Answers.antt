use Rattle.ash_inspect.proofs.FileLaws.{unmarked}
use Rattle.ash_inspect.proofs.header.header_of.Goals as goal

pub returns-in-None : goal.returns-in-None
returns-in-None c = record {
  value = unmarked c.args.file.now c.if-file-lt2.false c.if-file-ne1.false c.in-None.ensures.value;
}
