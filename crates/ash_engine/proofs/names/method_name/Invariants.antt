use Rattle.std.proofs.Common.{◌≡◌, drop, slice_get}
use Rattle.ash_engine.proofs.EntryNames.{methods_of}
use Rattle.ash_engine.proofs.names.method_name.Given as goal

-- what is left of the place is the place in what is left
abbrev pub invariant-loop-class : goal.invariant-loop-class
invariant-loop-class l = slice_get (methods_of (drop l.class-index l.classes)) l.rest ≡ slice_get (methods_of l.classes) l.place
