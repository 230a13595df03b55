-- The structs of the walk over statements and variables, as the definitions of typing see them.
use Rattle.std.specs.Prelude.{List, Option, map, option_map}
use Rattle.std.specs.declared.vec.Vec.{Vec}
use Rattle.std.specs.declared.alloc.Global.{Global}
use Rattle.ash_registrations.specs.Registered.{registered}
use Rattle.ash_typed.specs.declared.tree.expressions.Expr as expr_code
use Rattle.ash_typed.specs.declared.tree.statements.Stmt as stmt_code
use Rattle.ash_typed.specs.declared.tree.statements.Case as case_code
use Rattle.ash_typed.specs.declared.tree.statements.Initialization as initialization_code
use Rattle.ash_typed.specs.TypedTree.{Expr}
use Rattle.ash_typed.specs.TypedTreeViews.{expr_of}
use Rattle.ash_typed.specs.StatementTree.{Initialization, Stmts, Cases, cases}
use Rattle.ash_typed.specs.BodyViews.{value_of, case_of, body_of}
use Rattle.ash_type_rules.specs.Environment.{Declared}
use Rattle.ash_type_rules.specs.ExpressionRules.{TypedExpr}
use Rattle.ash_type_rules.specs.Scopes.{Scope}
use Rattle.ash_check_names.specs.declared.signatures.Binding as binding
use Rattle.ash_check_expressions.specs.declared.typed_expr.TypedExpr as typed_expr
use Rattle.ash_check_names.specs.EnvironmentViews.{binding_of, signatures_of}
use Rattle.ash_check_expressions.specs.TypedExprViews.{typed_of}
use Rattle.ash_check_statements.specs.declared.scopes.Scope as scope

abbrev pub locals_of : Vec binding.Binding Global → List Declared
locals_of locals = map binding_of locals.items

-- what a statement sees, with these locals
abbrev pub scope_of : scope.Scope → List Declared → Scope
scope_of s locals = record {
  env = record {
    declarations = signatures_of s.signatures.now;
    registered = registered s.registry.now;
    this = s.this;
    locals = locals;
  };
  first = s.block_start;
  result = s.result;
  in_loop = s.in_loop;
  in_switch = s.in_switch;
}

abbrev pub values_of : Vec initialization_code.Initialization Global → List Initialization
values_of values = map value_of values.items

abbrev pub stmts_in : Vec stmt_code.Stmt Global → Stmts
stmts_in body = body_of body.items

abbrev pub cases_in : Vec case_code.Case Global → Cases
cases_in labels = cases (map case_of labels.items)

abbrev pub optional_typed_of : Option typed_expr.TypedExpr → Option TypedExpr
optional_typed_of t = option_map typed_of t

-- the initial value of a variable, where it has one
abbrev pub optional_expr : Option expr_code.Expr → Option Expr
optional_expr value = option_map expr_of value
