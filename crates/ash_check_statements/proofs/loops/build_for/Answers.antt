use Rattle.std.proofs.Common.{ap, Bool}
use Rattle.std.proofs.lemmas.Result.{err_from_is_err_and}
use Rattle.ash_type_rules.specs.TypingResult.{TypingResult, ◌>>=◌}
use Rattle.ash_typed.specs.StatementTree.{Stmt}
use Rattle.ash_type_rules.specs.StatementRules as definition
use Rattle.ash_check_names.specs.declared.error.CheckError.{CheckError}
use Rattle.ash_check_names.specs.declared.error.CheckError.TheVariants as errors
use Rattle.ash_check_names.specs.Agreement.{FailsWith}
use Rattle.ash_check_statements.proofs.loops.build_for.Goals as goal

fails_first : (error : CheckError) (first : TypingResult Bool) (rest : Bool → TypingResult Stmt) → FailsWith error first → FailsWith error (first >>= rest)
fails_first (errors.Fault f) first rest h = ap (λ x. x >>= rest) h
fails_first errors.NoMemory first rest h = tt

pub returns-in_err-check_optional_bool : goal.returns-in_err-check_optional_bool
unfolding definition.check_for
returns-in_err-check_optional_bool c = record {
  agrees =
      let p = err_from_is_err_and c.from_residual.result c.from_residual.ensures.1 in
      rw (p.1, p.2) (fails_first c.in_err-check_optional_bool.field-0.0 _ _ c.in_err-check_optional_bool.ensures.agrees);
}
