use Rattle.std.proofs.Common.{◌≡◌, None, map, take}
use Rattle.ash_type_rules.specs.Environment.{last_named}
use Rattle.ash_check_names.specs.EnvironmentViews.{binding_of}
use Rattle.ash_check_names.proofs.lookup.last_binding.Given as goal

-- none of the bindings after this one has the name
abbrev pub invariant-loop-i : goal.invariant-loop-i
invariant-loop-i l = last_named l.name 0 None (map binding_of (take l.i l.all)) ≡ last_named l.name 0 None (map binding_of l.all)
