use Rattle.std.proofs.Common.{◌≡◌, ◌∙◌, ap, sym, subst, [], ◌∷◌, ◌++◌, IfOk, List}
use Rattle.ash_typed.specs.declared.tree.expressions.ExprKind as kind_code
use Rattle.ash_typed.specs.declared.tree.expressions.Link as link_code
use Rattle.ash_typed.specs.Flat.{base_in, links_in, base_of, links_of}
use Rattle.ash_typed.proofs.FlatLaws.{links_in-other, base_in-other}
use Rattle.ash_typed.proofs.nodes.link.Goals as goal

pub returns-in_default-clause-same_base : goal.returns-in_default-clause-same_base
returns-in_default-clause-same_base c =
    subst (λ (k : kind_code.ExprKind). IfOk c.first_link.result (λ e. base_of e ≡ k))
    (sym (base_in-other _ c.in_default.not-Path) ∙ ap base_in c.into_inner.ensures) c.first_link.ensures.same_base

pub returns-in_default-clause-one_path : goal.returns-in_default-clause-one_path
returns-in_default-clause-one_path c =
    subst
    (λ (ls : List link_code.Link). IfOk c.first_link.result (λ e. links_of e ≡ ls ++ c.args.next ∷ []))
    (sym (links_in-other _ c.in_default.not-Path) ∙ ap links_in c.into_inner.ensures) c.first_link.ensures.one_link
