use Rattle.std.proofs.Common.{◌≡◌, ◌++◌, map, drop}
use Rattle.std.specs.Prelude.{string_bytes}
use Rattle.ash_class_cycles.specs.ClassReferences.{borrowed_classes}
use Rattle.ash_check.specs.Checks.{name_at}
use Rattle.ash_check.proofs.checks.class_names_at.Given as goal

-- the names so far, with those of the places that are left
abbrev pub invariant-loop-place : goal.invariant-loop-place
invariant-loop-place l = map string_bytes l.names.items ++ map (name_at (borrowed_classes l.classes)) (drop l.place-index l.places) ≡ map (name_at (borrowed_classes l.classes)) l.places
