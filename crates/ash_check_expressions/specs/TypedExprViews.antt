-- The structs of the walk over an expression, as the definitions of typing see them.
use Rattle.std.specs.Prelude.{List, Bool, true, false, Option, map, option_map}
use Rattle.std.specs.declared.vec.Vec.{Vec}
use Rattle.std.specs.declared.alloc.Global.{Global}
use Rattle.ash_typed.specs.declared.tree.expressions.Expr as expr_code
use Rattle.ash_typed.specs.TypedTree.{Exprs, exprs}
use Rattle.ash_typed.specs.TypedTreeViews.{expr_of}
use Rattle.ash_type_rules.specs.Environment.{Invoked}
use Rattle.ash_type_rules.specs.ExpressionRules.{TypedExpr, UnifiedOperands}
use Rattle.ash_check_names.specs.declared.callees.MethodCallee as method_callee
use Rattle.ash_check_names.specs.EnvironmentViews.{method_callee_of}
use Rattle.ash_check_expressions.specs.declared.typed_expr.TypedExpr as typed_expr
use Rattle.ash_check_expressions.specs.declared.forms.AssignmentSide.{AssignmentSide}
use Rattle.ash_check_expressions.specs.declared.forms.AssignmentSide.TheVariants as sides
use Rattle.ash_check_expressions.specs.declared.operators.UnifiedOperands as unified

abbrev pub typed_of : typed_expr.TypedExpr → TypedExpr
typed_of t = record { at = t.at; ty = t.ty; form = t.form; tree = expr_of t.tree }

-- whether an expression is left of `=`
abbrev pub is_target : AssignmentSide → Bool
is_target sides.Target = true
is_target sides.Value = false

abbrev pub unified_of : unified.UnifiedOperands → UnifiedOperands
unified_of m = record { left = typed_of m.left; operands = m.operands; right = expr_of m.right }

abbrev pub optional_method_callee : Option method_callee.MethodCallee → Option Invoked
optional_method_callee m = option_map method_callee_of m

abbrev pub arguments_of : Vec expr_code.Expr Global → Exprs
arguments_of es = exprs (map expr_of es.items)

abbrev pub all_typed_of : Vec typed_expr.TypedExpr Global → List TypedExpr
all_typed_of ts = map typed_of ts.items
