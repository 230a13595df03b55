use Rattle.std.proofs.Common.{drop}
use Rattle.ash_check_names.specs.NameIndex.{texts}
use Rattle.ash_check_names.proofs.IndexLaws.{ArePlacesFrom}
use Rattle.ash_check_names.proofs.name_index.name_index_of.Given as goal

-- the names from here on have their places
abbrev pub invariant-loop-place : goal.invariant-loop-place
invariant-loop-place l = ArePlacesFrom l.place l.places (texts (drop l.place l.names))
