use Rattle.std.proofs.Common.{◌≡◌, ◌++◌, map, drop}
use Rattle.ash_tree.specs.TreeViews.{decl_of}
use Rattle.ash_type_rules.specs.ModuleDeclarations.{declared}
use Rattle.ash_type_rules.specs.StatementRules as definition
use Rattle.ash_check_statements.specs.StatementViews.{locals_of, scope_of, values_of}
use Rattle.ash_check_statements.proofs.StatementLaws.{values_after}
use Rattle.ash_check_statements.proofs.locals.check_local_decls.Given as goal

-- the results so far, with those of the rest, are those of the whole; and so are the locals
abbrev pub invariant-loop-decl : goal.invariant-loop-decl
invariant-loop-decl l =
    (values_after (values_of l.values) (definition.check_decls (scope_of l.scope (locals_of l.locals)) l.written.at l.written.of (map decl_of (drop l.decl-index l.decls))) ≡ definition.check_decls (scope_of l.scope (locals_of l.initial.locals)) l.written.at l.written.of (map decl_of l.decls))
    × (locals_of l.locals ++ map (declared l.written.of) (map decl_of (drop l.decl-index l.decls)) ≡ locals_of l.initial.locals ++ map (declared l.written.of) (map decl_of l.decls))
