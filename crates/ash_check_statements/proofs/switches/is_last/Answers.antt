use Rattle.std.proofs.Common.{◌≡◌, ℕ, zero, suc, ◌+◌, ◌≤◌, List, [], ◌∷◌, length, drop, map, refl, sym, arith, nat_eq}
use Rattle.ash_tree.specs.declared.tree.statements.Case as code_case
use Rattle.ash_tree.specs.Tree.{cases}
use Rattle.ash_tree.specs.TreeViews.{case_of}
use Rattle.ash_type_rules.specs.Labels.{is_last}
use Rattle.ash_check_statements.proofs.switches.is_last.Goals as goal

ends : (xs : List code_case.Case) (n : ℕ) → n ≤ length xs → is_last (cases (map case_of (drop n xs))) ≡ nat_eq n (length xs)
ends [] zero h = refl
ends [] (suc n) h = absurd (omega (arith, h))
ends (x ∷ xs) zero h = grind arith
ends (x ∷ xs) (suc n) h = let e : is_last (cases (map case_of (drop n xs))) ≡ nat_eq n (length xs) = ends xs n (omega (arith, h)) in grind (arith, e)

pub returns : goal.returns
returns c = record { none_after = sym (ends c.args.labels.now (c.args.i + 1) (omega (arith, c.requires.within))) }
