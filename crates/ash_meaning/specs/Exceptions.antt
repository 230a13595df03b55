-- The numbers and the names of exceptions.
use Rattle.std.specs.Prelude.{ℕ, List, codes}
use Rattle.ash_meaning.specs.declared.exception.Exception.{Exception}
use Rattle.ash_meaning.specs.declared.exception.Exception.TheVariants as exceptions

abbrev pub number_of : Exception → ℕ
number_of exceptions.NullPointerAccess = 1
number_of exceptions.DivideByZero = 2
number_of exceptions.DivideOverflow = 3
number_of exceptions.StackOverflow = 4
number_of exceptions.PoolEmpty = 5
number_of exceptions.ObjectLimit = 6
number_of exceptions.BadHostAnswer = 7
number_of (exceptions.Raised code) = 8
number_of exceptions.NumbersSpent = 9
number_of exceptions.IndexOutOfBounds = 10
number_of exceptions.ArrayLimit = 11

abbrev pub name_of : Exception → List ℕ
name_of exceptions.NullPointerAccess = codes "NullPointerAccess"
name_of exceptions.DivideByZero = codes "DivideByZero"
name_of exceptions.DivideOverflow = codes "DivideOverflow"
name_of exceptions.StackOverflow = codes "StackOverflow"
name_of exceptions.PoolEmpty = codes "PoolEmpty"
name_of exceptions.ObjectLimit = codes "ObjectLimit"
name_of exceptions.BadHostAnswer = codes "BadHostAnswer"
name_of (exceptions.Raised code) = codes "Raised"
name_of exceptions.NumbersSpent = codes "NumbersSpent"
name_of exceptions.IndexOutOfBounds = codes "IndexOutOfBounds"
name_of exceptions.ArrayLimit = codes "ArrayLimit"
