-- What is walked part by part comes to what its tree means.
use Rattle.std.specs.Prelude.{◌≡◌, ℕ, suc, ℤ, List, [], ◌∷◌, ◌++◌, is_none}
use Rattle.ash_host.specs.declared.word.Word.{Word}
use Rattle.ash_typed.specs.declared.tree.expressions.Expr as expr_code
use Rattle.ash_typed.specs.declared.tree.expressions.Link as link_code
use Rattle.ash_typed.specs.declared.tree.expressions.Operand as operand_code
use Rattle.ash_typed.specs.declared.tree.operations.Lazy.{Lazy}
use Rattle.ash_typed.specs.declared.tree.statements.Case as case_code
use Rattle.ash_typed.specs.TypedTree.{Expr, Exprs, no_expr, expr}
use Rattle.ash_typed.specs.TypedTreeViews.{all_chained, all_linked, all_lazies}
use Rattle.ash_typed.specs.BodyViews.{body_of}
use Rattle.ash_meaning.specs.Activity.{Activity}
use Rattle.ash_meaning.specs.Runs.{Run, give, ◌>>=◌, ◌>>◌, out_of_ticks}
use Rattle.ash_meaning.specs.Frames.{tick}
use Rattle.ash_meaning.specs.CallMeaning.{Calls}
use Rattle.ash_meaning.specs.ExpressionMeaning.{expression, arguments}
use Rattle.ash_meaning.specs.StatementMeaning.{Flow, Turn, turn, turns, go_on, chosen, statements, is_constant}
use Rattle.ash_walked_phrases.specs.WalkedPhrases.{chain_run, path_run, lazy_run, arguments_after}
use Rattle.ash_walked_phrases.specs.WalkedPhrases.{labels_seen, from_case, fall_run, turn_run, next_turn, left_or}

-- From each activity two runs come to the same.
abbrev pub ComeToTheSame : {A : Type 0} → Run A → Run A → Type 0
ComeToTheSame one other = (activity : Activity) → one activity ≡ other activity

-- Runs are put together in either grouping, a value alone before or after a run changes nothing, and runs that come to
-- the same may stand for each other.
pub record RunsCompose {A B C : Type 0} (first : Run A) (next : A → Run B) (last : B → Run C) : Type 0 where
  pub grouped : ComeToTheSame (first >>= next >>= last) (first >>= (λ value. next value >>= last))
  pub given_after : ComeToTheSame (first >>= give) first
  pub given_before : (value : A) → ComeToTheSame (give value >>= next) (next value)
  pub same_first : (other : Run A) → ComeToTheSame first other → ComeToTheSame (first >>= next) (other >>= next)
  pub same_next : (other : A → Run B) → ((value : A) → ComeToTheSame (next value) (other value))
      → ComeToTheSame (first >>= next) (first >>= other)

-- Chains of operators, paths and lazy operands are walked from their first expression on.
pub record ExpressionsAreWalked (calls : Calls) (first : Expr) : Type 0 where
  pub chains : (os : List operand_code.Operand)
      → ComeToTheSame (expression calls (all_chained first os)) (chain_run calls first os)
  pub paths : (ls : List link_code.Link)
      → ComeToTheSame (expression calls (all_linked first ls)) (path_run calls first ls)
  pub lazies : (op : Lazy) (xs : List expr_code.Expr)
      → ComeToTheSame (expression calls (all_lazies op first xs)) (lazy_run calls op first xs)

-- Arguments are walked one by one: none are done at first, then one more at a time, up to the last.
pub record ArgumentsAreWalked (calls : Calls) : Type 0 where
  pub begin : (es : Exprs) → ComeToTheSame (arguments calls es) (arguments_after calls [] es)
  pub one : (done : List Word) (e : Expr) (es : Exprs)
      → ComeToTheSame (arguments_after calls done (expr e es))
      (expression calls e >>= (λ word. arguments_after calls (done ++ word ∷ []) es))
  pub end : (done : List Word) → ComeToTheSame (arguments_after calls done no_expr) (give done)

-- Turns of a loop are walked one by one: the loop is left after one, or the next one follows.
pub record TurnsAreWalked (t : Turn) : Type 0 where
  pub first : (next : Run Flow) → ComeToTheSame (turn t next) (turn_run t >>= left_or next)
  pub one : (depth : ℕ) → ComeToTheSame (turns (suc depth) t) (next_turn t >>= left_or (turns depth t))
  pub end : ComeToTheSame (turns 0 t) (tick t.line >> out_of_ticks)

-- The labels that the code goes on from are those that the definitions choose, and they are fallen through one by one.
pub record LabelsAreWalked (calls : Calls) (depth : ℕ) : Type 0 where
  pub found : (number : ℤ) (c : case_code.Case) (found all : List case_code.Case)
      → from_case (is_constant number) all ≡ c ∷ found
      → labels_seen calls depth (c ∷ found) ≡ chosen number (labels_seen calls depth all)
  pub default : (number : ℤ) (all : List case_code.Case)
      → from_case (is_constant number) all ≡ []
      → labels_seen calls depth (from_case is_none all) ≡ chosen number (labels_seen calls depth all)
  pub one : (c : case_code.Case) (cs : List case_code.Case)
      → ComeToTheSame (fall_run calls depth (c ∷ cs))
      (statements calls depth (body_of (case_code.out-Case c).body.items) >>= go_on (fall_run calls depth cs))
