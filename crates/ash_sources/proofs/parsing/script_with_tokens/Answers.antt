use Rattle.std.proofs.lemmas.Result.{err_from_is_err_and}
use Rattle.ash_tree.specs.TreeViews.{module_of as items_of}
use Rattle.ash_sources.proofs.ScriptAnswers.{items_derived, fault_read}
use Rattle.ash_sources.proofs.parsing.script_with_tokens.Goals as goal

pub returns-clause-derived : goal.returns-clause-derived
returns-clause-derived c = items_derived c.args.tokens.now (items_of c.in_ok-parse_module.field-0)
    c.in_ok-parse_module.ensures.derived

pub returns-in_err-parse_module-clause-refused : goal.returns-in_err-parse_module-clause-refused
returns-in_err-parse_module-clause-refused c =
    let p = err_from_is_err_and c.from_residual.result c.from_residual.ensures.1 in
    rw (p.1, p.2) (fault_read c.args.tokens.now _ c.in_err-parse_module.ensures.first)
