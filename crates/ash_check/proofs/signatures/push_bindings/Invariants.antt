use Rattle.std.proofs.Common.{◌≡◌, ◌++◌, map, drop}
use Rattle.ash_tree.specs.TreeViews.{decl_of}
use Rattle.ash_type_rules.specs.ModuleDeclarations.{declared}
use Rattle.ash_check_names.specs.EnvironmentViews.{binding_of}
use Rattle.ash_check.proofs.signatures.push_bindings.Given as goal

abbrev pub invariant-loop-decl : goal.invariant-loop-decl
invariant-loop-decl l = map binding_of l.variables.items ++ map (declared l.of) (map decl_of (drop l.decl-index l.vars.decls.items)) ≡ map binding_of l.initial.variables.items ++ map (declared l.of) (map decl_of l.vars.decls.items)
