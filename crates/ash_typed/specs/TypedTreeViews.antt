-- These definitions say what the code's typed trees represent.
use Rattle.std.specs.Prelude.{List, [], ◌∷◌}
use Rattle.ash_typed.specs.declared.tree.expressions.Expr as code
use Rattle.ash_typed.specs.declared.tree.expressions.ExprKind as kind_code
use Rattle.ash_typed.specs.declared.tree.expressions.ExprKind.TheVariants as kinds
use Rattle.ash_typed.specs.declared.tree.expressions.Place as place
use Rattle.ash_typed.specs.declared.tree.expressions.Place.TheVariants as places
use Rattle.ash_typed.specs.declared.tree.expressions.Link as link
use Rattle.ash_typed.specs.declared.tree.expressions.Link.TheVariants as links
use Rattle.ash_typed.specs.declared.tree.expressions.Operand as operand
use Rattle.ash_typed.specs.declared.tree.operations.Lazy.{Lazy}
use Rattle.ash_typed.specs.TypedTree.{Expr, Number, Truth, Null, This, Read, Invoke, Convert, Cast, Alter, Operate}
use Rattle.ash_typed.specs.TypedTree.{Lazily}
use Rattle.ash_typed.specs.TypedTree.{Conditional, Assign, Update, Count, Call, Place, Stored, Held, Indexed, Exprs}
use Rattle.ash_typed.specs.TypedTree.{no_expr}
use Rattle.ash_typed.specs.TypedTree.{expr, converted}

-- `expr_in k` is the expression that one of the code's of this kind represents, `place_of p` is the place that the code's
-- represents, and the definitions after them are what the code's lists make of an expression.
abbrev mutual
  pub expr_in : kind_code.ExprKind → Expr
  expr_in (kinds.Number int_type value) = Number int_type value
  expr_in (kinds.Bool b) = Truth b
  expr_in kinds.Null = Null
  expr_in (kinds.This class) = This class
  expr_in (kinds.Variable v) = Read (Stored v)
  expr_in (kinds.Path' a base shape row) = linked_by (expr_in base) row
  expr_in (kinds.Convert' conversion a value) = Convert conversion (expr_in value)
  expr_in (kinds.Cast' to a e) = Cast to (expr_in e)
  expr_in (kinds.Change' change a e) = Alter change (expr_in e)
  expr_in (kinds.Chain' a first shape row) = chained_by (expr_in first) row
  expr_in (kinds.Lazy' op a first shape row) = lazies_by op (expr_in first) row
  expr_in (kinds.Conditional' a c b t d e) = Conditional (expr_in c) (expr_in t) (expr_in e)
  expr_in (kinds.Assign' p a value) = Assign (place_of p) (expr_in value)
  expr_in (kinds.Update' p of calculation a value) = Update (place_of p) of calculation (expr_in value)
  expr_in (kinds.Step p of step) = Count (place_of p) of step
  expr_in (kinds.Call' target parameters shape row) = Call target parameters.items (exprs_of row)

  pub place_of : place.Place → Place
  place_of (places.Variable v) = Stored v
  place_of (places.Member' a object member) = Held (expr_in object) member
  place_of (places.Element' a array b index of) = Indexed (expr_in array) (expr_in index) of

  pub linked_by : {n : _} → Expr → kind_code.Row_of-Link n → Expr
  linked_by e kind_code.end_of-Link = e
  linked_by e (kind_code.more_of-Link l rest) = linked_by (linked e l) rest

  pub linked : Expr → link.Link → Expr
  linked e (links.Member member) = Read (Held e member)
  linked e (links.Index' a index of) = Read (Indexed e (expr_in index) of)
  linked e (links.Invoke' method parameters shape row) = Invoke e method parameters.items (exprs_of row)

  pub chained_by : {n : _} → Expr → kind_code.Row_of-Operand n → Expr
  chained_by e kind_code.end_of-Operand = e
  chained_by e (kind_code.more_of-Operand before operation a value rest) =
      chained_by (Operate operation (converted before e) (expr_in value)) rest

  pub lazies_by : {n : _} → Lazy → Expr → kind_code.Row_of-Expr n → Expr
  lazies_by op e kind_code.end_of-Expr = e
  lazies_by op e (kind_code.more_of-Expr a x rest) = lazies_by op (Lazily op e (expr_in x)) rest

  pub exprs_of : {n : _} → kind_code.Row_of-Expr n → Exprs
  exprs_of kind_code.end_of-Expr = no_expr
  exprs_of (kind_code.more_of-Expr a e rest) = expr (expr_in e) (exprs_of rest)

-- `expr_of e` is the expression that the code's represents.
abbrev pub expr_of : code.Expr → Expr
expr_of e = expr_in e.kind.value

-- `chained e o` is an operator with its right operand, after its left operand.
abbrev pub chained : Expr → operand.Operand → Expr
chained e o = Operate o.operation (converted o.before e) (expr_of o.value)

-- `all_linked e ls` has the links of a vector after an expression.
abbrev pub all_linked : Expr → List link.Link → Expr
all_linked e [] = e
all_linked e (l ∷ ls) = all_linked (linked e l) ls

-- `all_chained e os` has the operators of a vector after an expression.
abbrev pub all_chained : Expr → List operand.Operand → Expr
all_chained e [] = e
all_chained e (o ∷ os) = all_chained (chained e o) os

-- `all_lazies op e xs` has the operands of a vector after an expression.
abbrev pub all_lazies : Lazy → Expr → List code.Expr → Expr
all_lazies op e [] = e
all_lazies op e (x ∷ xs) = all_lazies op (Lazily op e (expr_of x)) xs
