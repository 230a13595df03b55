use Rattle.ash_check_names.specs.EnvironmentViews.{environment_of}
use Rattle.ash_check_expressions.specs.TypedExprViews.{is_target}
use Rattle.ash_check_expressions.proofs.Nodes.{typed_call, typed_new_array, typed_postfix, typed_binary, typed_method}
use Rattle.ash_check_expressions.proofs.expressions.+expressions.Goals as goal

pub check_expr-returns-in-Call : goal.check_expr-returns-in-Call
check_expr-returns-in-Call t c =
    record { typed_as_defined = typed_call (environment_of c.args.env.now) (is_target c.args.side) c.args.source.now _ c.in-Call.name c.in-Call.arguments _ _ c.check_call.result c.deref.ensures c.in-Call.is c.as_str-in-Call.ensures.value c.deref-in-Call.ensures.value c.check_call.ensures.agrees }

pub check_expr-returns-in-NewArray : goal.check_expr-returns-in-NewArray
check_expr-returns-in-NewArray t c =
    record { typed_as_defined = typed_new_array (environment_of c.args.env.now) (is_target c.args.side) c.args.source.now _ c.in-NewArray.of c.in-NewArray.arguments _ _ c.check_new_array.result c.deref.ensures c.in-NewArray.is c.deref-in-NewArray.ensures c.deref-in-NewArray-2.ensures.value c.check_new_array.ensures.agrees }

pub check_expr-returns-in-Postfix : goal.check_expr-returns-in-Postfix
check_expr-returns-in-Postfix t c =
    record { typed_as_defined = typed_postfix (environment_of c.args.env.now) (is_target c.args.side) c.args.source.now _ c.in-Postfix.operand c.in-Postfix.suffixes _ c.check_postfix.result c.deref.ensures c.in-Postfix.is c.deref-in-Postfix.ensures.value c.check_postfix.ensures.agrees }

pub check_expr-returns-in-Binary : goal.check_expr-returns-in-Binary
check_expr-returns-in-Binary t c =
    record { typed_as_defined = typed_binary (environment_of c.args.env.now) (is_target c.args.side) c.args.source.now _ c.in-Binary.first c.in-Binary.links _ c.check_binary.result c.deref.ensures c.in-Binary.is c.deref-in-Binary.ensures.value c.check_binary.ensures.agrees }

pub check_suffix-returns-in-Method : goal.check_suffix-returns-in-Method
check_suffix-returns-in-Method t c = record {
  agrees =
      typed_method (environment_of c.args.env.now) c.args.base c.args.suffix.now c.in-Method.place c.in-Method.name c.in-Method.arguments _ _ c.check_method_call.result c.in-Method.is c.as_str-in-Method.ensures.value c.deref.ensures.value c.check_method_call.ensures.agrees;
}
