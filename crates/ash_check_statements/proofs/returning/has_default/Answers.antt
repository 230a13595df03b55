use Rattle.std.proofs.Common.{◌≡◌, ◌∙◌, ap, sym, map}
use Rattle.ash_type_rules.specs.Returning as definition
use Rattle.ash_check_statements.proofs.ReturnLaws.{labels_at, here, later}
use Rattle.ash_check_statements.proofs.returning.has_default.Goals as goal

pub returns-then-is_default : goal.returns-then-is_default
returns-then-is_default c = record {
  value =
      here _ _ (sym c.is_default.ensures.value ∙ c.if-is_default.true) ∙ sym (ap definition.has_default (labels_at c.args.labels.now c.loop-case.case-index c.case-item.result c.loop-case-test.true c.case-item.is)) ∙ c.loop-case.invariant;
}

pub loop-case-preserved : goal.loop-case-preserved
loop-case-preserved c = later _ _ (sym c.is_default.ensures.value ∙ c.if-is_default.false) ∙ sym (ap definition.has_default (labels_at c.args.labels.now c.loop-case.case-index c.case-item.result c.loop-case-test.true c.case-item.is)) ∙ c.loop-case.invariant
