use Rattle.std.proofs.Common.{arith}
use Rattle.ash_inspect.proofs.FileLaws.{mark_long}
use Rattle.ash_inspect.proofs.header.marked_behind.Goals as goal

pub returns-then-file-lt-PREFIX_SIZE : goal.returns-then-file-lt-PREFIX_SIZE
returns-then-file-lt-PREFIX_SIZE c = record {
  value = λ g fits is. omega (arith, mark_long g c.args.file.now is, c.if-file-lt-PREFIX_SIZE.true);
}
