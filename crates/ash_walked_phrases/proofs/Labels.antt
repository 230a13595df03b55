-- The label of a `switch` that the code goes to is the one that the definitions go to.
use Rattle.std.proofs.Common.{◌≡◌, ◌<◌, ◌≤◌, ◌+◌, ℕ, ℤ, get_or, drop, Bool, true, false, cond, List, [], ◌∷◌, Option, length, refl, sym, ap, ◌∙◌, map, rules, arith, Vec, Global}
use Rattle.std.specs.Prelude.{is_none}
use Rattle.std.proofs.lemmas.List.{drop_more}
use denote.Param.Weighed.{most}
use Rattle.ash_tree.specs.declared.tree.statements.Label.{Label}
use Rattle.ash_typed.specs.declared.tree.statements.StmtKind.TheViews as views
use Rattle.ash_typed.specs.declared.tree.statements.Stmt as stmt_code
use Rattle.ash_typed.specs.declared.tree.statements.Case as case_code
use Rattle.ash_typed.specs.StatementTree.{Case, labelled, stmts}
use Rattle.ash_typed.specs.BodyViews.{stmt_of, case_of, body_of}
use Rattle.ash_typed.proofs.StatementRows.{stmts_of-row}
use Rattle.ash_meaning.specs.Activity.{Activity}
use Rattle.ash_meaning.specs.Runs.{onward}
use Rattle.ash_meaning.specs.CallMeaning.{Calls}
use Rattle.ash_meaning.specs.StatementMeaning.{Labelled, case_run, from_label, is_constant, or_else, chosen, statements, go_on}
use Rattle.ash_walked_phrases.specs.WalkedPhrases.{constant_in, from_case, labels_seen, fall_run}

case_made : (l : Label) (body : Vec stmt_code.Stmt Global) → case_of (case_code.roll-Case (record { label = l; body = body })) ≡ labelled l (stmts (map stmt_of body.items))
case_made l body = search (rules, views.the_lemmas, stmts_of-row)

pub case_is : (c : case_code.Case) → case_of c ≡ labelled (case_code.out-Case c).label (stmts (map stmt_of (case_code.out-Case c).body.items))
case_is c = ap case_of (sym (case_code.roll-out-Case c)) ∙ case_made (case_code.out-Case c).label (case_code.out-Case c).body

one_more : (c : case_code.Case) (cs left : List case_code.Case) (b : Bool) → most case_code.size-Case left ≤ most case_code.size-Case cs → most case_code.size-Case (cond b (c ∷ cs) left) ≤ most case_code.size-Case (c ∷ cs)
one_more c cs left true h = omega arith
one_more c cs left false h = omega (arith, h)

-- what is left from a label on is no deeper
pub from_most : (test : Option ℤ → Bool) (cs : List case_code.Case) → most case_code.size-Case (from_case test cs) ≤ most case_code.size-Case cs
from_most test [] = omega arith
from_most test (c ∷ cs) = one_more c cs (from_case test cs) (test (constant_in c)) (from_most test cs)

module _ (calls : Calls) (depth : ℕ) where
  constant_is : (c : case_code.Case) → (case_run calls depth (case_of c)).constant ≡ constant_in c
  constant_is c = ap (λ (x : Case). (case_run calls depth x).constant) (case_is c)

  either : (b : Bool) (xs ys : List case_code.Case) → labels_seen calls depth (cond b xs ys) ≡ cond b (labels_seen calls depth xs) (labels_seen calls depth ys)
  either true xs ys = refl
  either false xs ys = refl

  pub labels_from : (test : Option ℤ → Bool) (cs : List case_code.Case) → labels_seen calls depth (from_case test cs) ≡ from_label test (labels_seen calls depth cs)
  labels_from test [] = refl
  labels_from test (c ∷ cs) =
      either (test (constant_in c)) (c ∷ cs) (from_case test cs)
      ∙ ap (λ (ls : List Labelled). cond (test (constant_in c)) (labels_seen calls depth (c ∷ cs)) ls) (labels_from test cs)
      ∙ ap (λ (b : Bool). cond b (labels_seen calls depth (c ∷ cs)) (from_label test (labels_seen calls depth cs))) (sym (ap test (constant_is c)))

  found_first : (found : List case_code.Case) (others : List Labelled) → 0 < length found → labels_seen calls depth found ≡ or_else (labels_seen calls depth found) others
  found_first [] others h = absurd (omega arith)
  found_first (c ∷ cs) others h = refl

  found_none : (found : List case_code.Case) (others : List Labelled) → length found ≡ 0 → others ≡ or_else (labels_seen calls depth found) others
  found_none [] others h = refl
  found_none (c ∷ cs) others h = absurd (omega arith)

  pub chosen_first : (number : ℤ) (all found : List case_code.Case) → found ≡ from_case (is_constant number) all → 0 < length found → labels_seen calls depth found ≡ chosen number (labels_seen calls depth all)
  chosen_first number all found is some =
      found_first found (from_label is_none (labels_seen calls depth all)) some
      ∙ ap (λ (ls : List Labelled). or_else ls (from_label is_none (labels_seen calls depth all))) (ap (labels_seen calls depth) is ∙ labels_from (is_constant number) all)

  pub chosen_default : (number : ℤ) (all found left : List case_code.Case) → found ≡ from_case (is_constant number) all → length found ≡ 0 → left ≡ from_case is_none all → labels_seen calls depth left ≡ chosen number (labels_seen calls depth all)
  chosen_default number all found left is none default =
      ap (labels_seen calls depth) default ∙ labels_from is_none all
      ∙ found_none found (from_label is_none (labels_seen calls depth all)) none
      ∙ ap (λ (ls : List Labelled). or_else ls (from_label is_none (labels_seen calls depth all))) (ap (labels_seen calls depth) is ∙ labels_from (is_constant number) all)

  pub goes_on_found : (number : ℤ) (c : case_code.Case) (found all : List case_code.Case) → from_case (is_constant number) all ≡ c ∷ found → labels_seen calls depth (c ∷ found) ≡ chosen number (labels_seen calls depth all)
  goes_on_found number c found all is = chosen_first number all (c ∷ found) (sym is) (omega arith)

  pub goes_on_default : (number : ℤ) (all : List case_code.Case) → from_case (is_constant number) all ≡ [] → labels_seen calls depth (from_case is_none all) ≡ chosen number (labels_seen calls depth all)
  goes_on_default number all is = chosen_default number all [] (from_case is_none all) (sym is) refl refl

  -- one label, and those after it

  pub falls_on : (c : case_code.Case) (cs : List case_code.Case) (a : Activity) → fall_run calls depth (c ∷ cs) a ≡ onward (statements calls depth (body_of (case_code.out-Case c).body.items) a) (go_on (fall_run calls depth cs))
  falls_on c cs a = ap (λ (k : Case). onward ((case_run calls depth k).run a) (go_on (fall_run calls depth cs))) (case_is c)

  pub fall_step : (cs : List case_code.Case) (i : ℕ) (x : case_code.Case) (a : Activity) → i < length cs → x ≡ get_or cs i x → fall_run calls depth (drop i cs) a ≡ onward (statements calls depth (body_of (case_code.out-Case x).body.items) a) (go_on (fall_run calls depth (drop (i + 1) cs)))
  fall_step cs i x a low is =
      ap (λ (l : List case_code.Case). fall_run calls depth l a) (drop_more cs i x low ∙ ap (λ (y : case_code.Case). y ∷ drop (i + 1) cs) (sym is))
      ∙ falls_on x (drop (i + 1) cs) a
