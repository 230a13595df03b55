use Rattle.std.proofs.Common.{◌≡◌, ◌∙◌, ap, sym, subst, [], ◌∷◌, ◌++◌, IfOk, List}
use Rattle.ash_typed.specs.declared.tree.expressions.ExprKind as kind_code
use Rattle.ash_typed.specs.declared.tree.expressions.Operand as operand_code
use Rattle.ash_typed.specs.Flat.{first_in, operands_in, first_of, operands_of}
use Rattle.ash_typed.proofs.FlatLaws.{operands_in-other, first_in-other}
use Rattle.ash_typed.proofs.nodes.operate.Goals as goal

pub returns-in_default-clause-same_first : goal.returns-in_default-clause-same_first
returns-in_default-clause-same_first c =
    subst (λ (k : kind_code.ExprKind). IfOk c.first_operator.result (λ e. first_of e ≡ k))
    (sym (first_in-other _ c.in_default.not-Chain) ∙ ap first_in c.into_inner.ensures)
    c.first_operator.ensures.same_first

pub returns-in_default-clause-one_chain : goal.returns-in_default-clause-one_chain
returns-in_default-clause-one_chain c =
    subst
    (λ (os : List operand_code.Operand). IfOk c.first_operator.result (λ e. operands_of e ≡ os ++ c.args.next ∷ []))
    (sym (operands_in-other _ c.in_default.not-Chain) ∙ ap operands_in c.into_inner.ensures)
    c.first_operator.ensures.one_operator
