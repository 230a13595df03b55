-- The code by which a broken rule is reported.
use Rattle.std.specs.Prelude.{ℕ, List, codes}
use Rattle.ash_type_rules.specs.declared.fault.Rule.{Rule}
use Rattle.ash_type_rules.specs.declared.fault.Rule.TheVariants as rules

-- the number and the name of a rule
abbrev pub code_of : Rule → List ℕ
code_of rules.UnknownName = codes "301 UnknownName"
code_of rules.UnknownType = codes "302 UnknownType"
code_of rules.NameTaken = codes "303 NameTaken"
code_of rules.TypeMismatch = codes "304 TypeMismatch"
code_of rules.WrongArgumentCount = codes "305 WrongArgumentCount"
code_of rules.NotAssignable = codes "306 NotAssignable"
code_of rules.NoReturn = codes "307 NoReturn"
code_of rules.Misplaced = codes "308 Misplaced"
code_of rules.NoFactory = codes "310 NoFactory"
code_of rules.TooMany = codes "311 TooMany"
code_of rules.ConstantOutOfRange = codes "312 ConstantOutOfRange"
code_of rules.DuplicateCase = codes "313 DuplicateCase"
