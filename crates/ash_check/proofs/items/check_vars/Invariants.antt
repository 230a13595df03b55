use Rattle.std.proofs.Common.{◌≡◌, map, drop}
use Rattle.ash_tree.specs.TreeViews.{decl_of}
use Rattle.ash_type_rules.specs.ItemRules.{check_decls}
use Rattle.ash_check_names.specs.EnvironmentViews.{environment_of}
use Rattle.ash_check.specs.WalkViews.{names_of, row_of}
use Rattle.ash_check.proofs.items.check_vars.Given as goal

-- the outcome of what is left is that of the whole
abbrev pub invariant-loop-decl : goal.invariant-loop-decl
invariant-loop-decl l = check_decls (environment_of l.env) l.written.at l.written.of (row_of (names_of l.names) l.variables) (map decl_of (drop l.decl-index l.vars.decls.items)) ≡ check_decls (environment_of l.env) l.written.at l.written.of (row_of (names_of l.initial.names) l.initial.variables) (map decl_of l.vars.decls.items)
