-- The code by which a lexical fault is reported.
use Rattle.std.specs.Prelude.{ℕ, List, codes}
use Rattle.ash_lex.specs.declared.faults.LexFault.{LexFault}
use Rattle.ash_lex.specs.declared.faults.LexFault.TheVariants as faults

-- the number and the name of a fault
abbrev pub code_of : LexFault → List ℕ
code_of (faults.BadCharacter at) = codes "101 BadCharacter"
code_of (faults.UnclosedComment at) = codes "102 UnclosedComment"
code_of (faults.NumberTooLarge at) = codes "103 NumberTooLarge"
code_of faults.SourceTooLong = codes "107 SourceTooLong"
code_of faults.NoMemory = codes "509 NoMemory"
