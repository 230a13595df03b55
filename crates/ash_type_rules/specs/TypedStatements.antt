-- The rules of typing of statements (AngelScript manual, "Statements"), one case for each, where every type that is
-- named is known. A rule says when a statement has a typed tree, and which; it says neither in which order its parts
-- are walked nor what is reported where it does not hold.
--
-- `IsTypedStmt scope s t`: in this scope the statement `s` has the typed tree `t`.
use Rattle.std.specs.Prelude.{◌≡◌, List, [], ◌∷◌, ◌++◌, Bool, true, false, ◌||◌, Option, Some, None, map}
use Rattle.std.specs.List.{list_any}
use Rattle.ash_tree.specs.declared.tree.places.Position as place
use Rattle.ash_tree.specs.declared.tree.statements.Label.{Label}
use Rattle.ash_tree.specs.declared.tree.statements.Label.TheVariants as labels
use Rattle.ash_tree.specs.Tree as written
use Rattle.ash_integers.specs.declared.int_type.IntType.{IntType}
use Rattle.ash_type_rules.specs.declared.types.Ty.{Ty}
use Rattle.ash_type_rules.specs.declared.types.Ty.TheVariants as ty
use Rattle.ash_type_rules.specs.Coercions.{fits}
use Rattle.ash_typed.specs.declared.tree.statements.Test.TheVariants.{First, Last}
use Rattle.ash_typed.specs.TypedTree.{Expr}
use Rattle.ash_typed.specs.StatementTree.{Initialization, Stmt, Empty, Declare, Evaluate, Block, If, no_branch, branch}
use Rattle.ash_typed.specs.StatementTree.{Head, no_head, declared_head, evaluated_head, Repeat, For, repeated, Switch}
use Rattle.ash_typed.specs.StatementTree.{Break, Continue, Return, Stmts, no_stmt, stmt, labelled, Cases, no_case}
use Rattle.ash_typed.specs.StatementTree.{next_case}
use Rattle.ash_type_rules.specs.Environment.{Environment}
use Rattle.ash_type_rules.specs.ModuleDeclarations.{declared, ty_in}
use Rattle.ash_type_rules.specs.Terms.{Term, converted_to}
use Rattle.ash_type_rules.specs.Typing.{IsKnown, IsKnownType, IsVariableType, HasType, AllHaveType, IsDeclaredType}
use Rattle.ash_type_rules.specs.Returning.{is_default}
use Rattle.ash_type_rules.specs.Labels.{holds_label, is_same_constant, is_last}
use Rattle.ash_type_rules.specs.Scopes.{Scope, block_of, loop_of, switch_of, with_variables, after, is_taken}

-- The types of a scope are known.
pub record IsKnownScope (scope : Scope) : Type 0 where
  pub env : IsKnown scope.env
  pub result : IsKnownType scope.result

-- Variables of a type are each seen from the end of their own on, and none of their names is taken in the block.
pub data AreTypedDeclarations : Scope → Ty → List written.Decl → List Initialization → Type 0 where
  none_declared : {scope : Scope} {of : Ty} → AreTypedDeclarations scope of [] []
  and_declared : {scope : Scope} {of : Ty} {d : written.Decl} {ds : List written.Decl} {value : Initialization}
      {values : List Initialization}
      → is_taken scope d.name ≡ false
      → IsDeclaredType scope.env of d value
      → AreTypedDeclarations (with_variables scope (declared of d ∷ [])) of ds values
      → AreTypedDeclarations scope of (d ∷ ds) (value ∷ values)

-- A condition is of type `bool`.
pub data IsTypedCondition : Environment → written.Expr → Expr → Type 0 where
  condition : {env : Environment} {e : written.Expr} {t : Term}
      → HasType env false e t
      → t.ty ≡ ty.Bool
      → IsTypedCondition env e t.tree

-- The head of a `for` may have no condition.
pub data MayBeTypedCondition : Environment → Option written.Expr → Option Expr → Type 0 where
  endless : {env : Environment} → MayBeTypedCondition env None None
  until : {env : Environment} {e : written.Expr} {tree : Expr}
      → IsTypedCondition env e tree
      → MayBeTypedCondition env (Some e) (Some tree)

-- The head of a `for` is nothing, variables or an expression.
pub data IsTypedHead : Scope → written.Stmt → Head → Type 0 where
  head_is_empty : {scope : Scope} {p : place.Position} → IsTypedHead scope (written.Empty p) no_head
  head_declares : {scope : Scope} {p : place.Position} {v : written.Vars} {values : List Initialization}
      → IsVariableType (ty_in scope.env v.of)
      → AreTypedDeclarations scope (ty_in scope.env v.of) v.decls values
      → IsTypedHead scope (written.Declare p v) (declared_head values)
  head_evaluates : {scope : Scope} {p : place.Position} {e : written.Expr} {t : Term}
      → HasType scope.env false e t
      → IsTypedHead scope (written.Evaluate p e) (evaluated_head t.tree)

-- The label of a `case` has a constant of the type, which no label before it has; `default` is the last label.
pub data IsTypedLabel : IntType → List Label → Bool → Label → Type 0 where
  constant : {k : IntType} {before : List Label} {last : Bool} {l : Label}
      → is_default l ≡ false
      → holds_label k l ≡ true
      → list_any (is_same_constant l) before ≡ false
      → IsTypedLabel k before last l
  otherwise : {k : IntType} {before : List Label} → IsTypedLabel k before true labels.Default

abbrev pub tree_of_term : Term → Expr
tree_of_term t = t.tree

mutual
  pub data IsTypedStmt : Scope → written.Stmt → Stmt → Type 0 where
    -- ;
    empty : {scope : Scope} {p : place.Position} → IsTypedStmt scope (written.Empty p) (Empty p.line)
    -- T x, y = e;
    declare : {scope : Scope} {p : place.Position} {v : written.Vars} {values : List Initialization}
        → IsVariableType (ty_in scope.env v.of)
        → AreTypedDeclarations scope (ty_in scope.env v.of) v.decls values
        → IsTypedStmt scope (written.Declare p v) (Declare p.line values)
    -- e;
    evaluate : {scope : Scope} {p : place.Position} {e : written.Expr} {t : Term}
        → HasType scope.env false e t
        → IsTypedStmt scope (written.Evaluate p e) (Evaluate p.line t.tree)
    -- { s .. }
    block : {scope : Scope} {p : place.Position} {ss : written.Stmts} {ts : Stmts}
        → AreTypedStmts (block_of scope) ss ts
        → IsTypedStmt scope (written.Block p ss) (Block p.line ts)
    -- if (c) s
    if_only : {scope : Scope} {p : place.Position} {c : written.Expr} {s : written.Stmt} {tree : Expr} {t : Stmt}
        → IsTypedCondition scope.env c tree
        → IsTypedStmt scope s t
        → IsTypedStmt scope (written.If p c s) (If p.line tree t no_branch)
    -- if (c) s else r
    if_else : {scope : Scope} {p : place.Position} {c : written.Expr} {s r : written.Stmt} {tree : Expr} {t u : Stmt}
        → IsTypedCondition scope.env c tree
        → IsTypedStmt scope s t
        → IsTypedStmt scope r u
        → IsTypedStmt scope (written.IfElse p c s r) (If p.line tree t (branch u))
    -- while (c) s
    while_loop : {scope : Scope} {p : place.Position} {c : written.Expr} {s : written.Stmt} {tree : Expr} {t : Stmt}
        → IsTypedCondition scope.env c tree
        → IsTypedStmt (loop_of scope) s t
        → IsTypedStmt scope (written.While p c s) (Repeat p.line (repeated First (Some tree) [] t))
    -- do s while (c);
    do_loop : {scope : Scope} {p : place.Position} {c : written.Expr} {s : written.Stmt} {tree : Expr} {t : Stmt}
        → IsTypedStmt (loop_of scope) s t
        → IsTypedCondition scope.env c tree
        → IsTypedStmt scope (written.DoWhile p s c) (Repeat p.line (repeated Last (Some tree) [] t))
    -- for (f c; e ..) s: what f declares is seen by the others
    for_loop : {scope : Scope} {p : place.Position} {f s : written.Stmt} {c : Option written.Expr}
        {es : List written.Expr} {h : Head} {t : Stmt} {tree : Option Expr} {ts : List Term}
        → IsTypedHead (block_of scope) f h
        → MayBeTypedCondition (after (block_of scope) f).env c tree
        → AllHaveType (after (block_of scope) f).env (written.exprs es) ts
        → IsTypedStmt (loop_of (after (block_of scope) f)) s t
        → IsTypedStmt scope (written.For p f c es s) (For p.line h (repeated First tree (map tree_of_term ts) t))
    -- switch (e) { case .. }
    switch : {scope : Scope} {p : place.Position} {e : written.Expr} {cs : written.Cases} {t : Term} {k : IntType}
        {rows : Cases}
        → HasType scope.env false e t
        → t.ty ≡ ty.Integer k
        → AreTypedCases (switch_of scope) k [] cs rows
        → IsTypedStmt scope (written.Switch p e cs) (Switch p.line k t.tree rows)
    -- break; in a loop or a switch
    break_out : {scope : Scope} {p : place.Position}
        → (scope.in_loop || scope.in_switch) ≡ true
        → IsTypedStmt scope (written.Break p) (Break p.line)
    -- continue; in a loop
    continue_on : {scope : Scope} {p : place.Position}
        → scope.in_loop ≡ true
        → IsTypedStmt scope (written.Continue p) (Continue p.line)
    -- return; and return e;
    return_nothing : {scope : Scope} {p : place.Position}
        → scope.result ≡ ty.Void
        → IsTypedStmt scope (written.Return p None) (Return p.line None)
    return_value : {scope : Scope} {p : place.Position} {e : written.Expr} {t : Term}
        → HasType scope.env false e t
        → fits scope.env.declarations.classes scope.result t.ty ≡ true
        → IsTypedStmt scope (written.Return p (Some e)) (Return p.line (Some (converted_to scope.result t)))

  -- Statements each see the variables of those before them.
  pub data AreTypedStmts : Scope → written.Stmts → Stmts → Type 0 where
    no_more_stmts : {scope : Scope} → AreTypedStmts scope written.no_stmt no_stmt
    more_stmts : {scope : Scope} {s : written.Stmt} {ss : written.Stmts} {t : Stmt} {ts : Stmts}
        → IsTypedStmt scope s t
        → AreTypedStmts (after scope s) ss ts
        → AreTypedStmts scope (written.stmt s ss) (stmt t ts)

  -- Labels come after those before them, with the statements after each.
  pub data AreTypedCases : Scope → IntType → List Label → written.Cases → Cases → Type 0 where
    no_more_cases : {scope : Scope} {k : IntType} {before : List Label}
        → AreTypedCases scope k before written.no_case no_case
    more_cases : {scope : Scope} {k : IntType} {before : List Label} {p : place.Position} {l : Label}
        {ss : written.Stmts} {cs : written.Cases} {ts : Stmts} {rows : Cases}
        → IsTypedLabel k before (is_last cs) l
        → AreTypedStmts scope ss ts
        → AreTypedCases scope k (before ++ l ∷ []) cs rows
        → AreTypedCases scope k before (written.next_case (written.labelled p l ss) cs) (next_case (labelled l ts) rows)
