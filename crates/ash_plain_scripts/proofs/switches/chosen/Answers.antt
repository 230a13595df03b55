use denote.Param.Weighed.{most}
use Rattle.std.proofs.Common.{◌≡◌, ◌≤◌, List, subst, sym, arith, rules}
use Rattle.std.specs.Prelude.{is_none}
use Rattle.std.proofs.lemmas.Bool.Decides.{nat_tests}
use Rattle.ash_typed.specs.declared.tree.statements.Case as case_code
use Rattle.ash_typed.specs.declared.tree.statements.Case.{size-Case}
use Rattle.ash_meaning.specs.StatementMeaning.{is_constant}
use Rattle.ash_walked_phrases.specs.WalkedPhrases.{from_case}
use Rattle.ash_walked_phrases.proofs.Labels.{chosen_first, chosen_default, from_most}
use Rattle.ash_plain_scripts.proofs.switches.chosen.Goals as goal

pub returns-then-is_empty-clause-labels : goal.returns-then-is_empty-clause-labels
returns-then-is_empty-clause-labels c =
    λ calls depth. chosen_default calls depth c.args.number c.args.all.now c.from_constant-found.result.now c.from_default.result.now (search rules) (grind (arith, nat_tests)) c.from_default.ensures.value

pub returns-else-is_empty-clause-labels : goal.returns-else-is_empty-clause-labels
returns-else-is_empty-clause-labels c =
    λ calls depth. chosen_first calls depth c.args.number c.args.all.now c.from_constant-found.result.now (search rules) (grind (arith, nat_tests))

pub returns-then-is_empty-clause-smaller : goal.returns-then-is_empty-clause-smaller
returns-then-is_empty-clause-smaller c =
    subst (λ (cs : List case_code.Case). most size-Case cs ≤ most size-Case c.args.all.now) (sym c.from_default.ensures.value) (from_most is_none c.args.all.now)

pub returns-else-is_empty-clause-smaller : goal.returns-else-is_empty-clause-smaller
returns-else-is_empty-clause-smaller c =
    let e : c.from_constant-found.result.now ≡ from_case (is_constant c.args.number) c.args.all.now = search rules in
    subst (λ (cs : List case_code.Case). most size-Case cs ≤ most size-Case c.args.all.now) (sym e) (from_most (is_constant c.args.number) c.args.all.now)
