-- These definitions say how chains of operators, paths and rows of lazy operands lie in memory: each is one node,
-- however long it is, so that a tree is no deeper where a sum is long.
use Rattle.std.specs.Prelude.{List, []}
use Rattle.ash_typed.specs.declared.tree.expressions.Expr as code
use Rattle.ash_typed.specs.declared.tree.expressions.ExprKind as kind_code
use Rattle.ash_typed.specs.declared.tree.expressions.ExprKind.TheVariants as kinds
use Rattle.ash_typed.specs.declared.tree.expressions.Link as link
use Rattle.ash_typed.specs.declared.tree.expressions.Operand as operand
use Rattle.ash_typed.specs.declared.tree.operations.Lazy.{Lazy}
use Rattle.ash_typed.specs.declared.tree.operations.Lazy.TheVariants as lazies

-- An expression of a kind begins where its path begins, or at itself.
abbrev pub base_in : kind_code.ExprKind → kind_code.ExprKind
base_in (kinds.Path' a base shape row) = base
base_in k = k

-- An expression of a kind has the links of its path, or none.
abbrev pub links_in : kind_code.ExprKind → List link.Link
links_in (kinds.Path' a base shape row) = kind_code.items-the_row-Link _ row
links_in k = []

-- An expression of a kind begins with the first operand of its chain, or with itself.
abbrev pub first_in : kind_code.ExprKind → kind_code.ExprKind
first_in (kinds.Chain' a first shape row) = first
first_in k = k

-- An expression of a kind has the operators of its chain, or none.
abbrev pub operands_in : kind_code.ExprKind → List operand.Operand
operands_in (kinds.Chain' a first shape row) = kind_code.items-the_row-Operand _ row
operands_in k = []

-- An expression of a kind has the operands after its first, where it is of this lazy operator, or none.
abbrev pub others_in : Lazy → kind_code.ExprKind → List code.Expr
others_in lazies.And (kinds.Lazy' lazies.And a first shape row) = kind_code.items-the_row-Expr _ row
others_in lazies.Or (kinds.Lazy' lazies.Or a first shape row) = kind_code.items-the_row-Expr _ row
others_in op k = []

-- A path begins at its base; what is no path begins at itself.
abbrev pub base_of : code.Expr → kind_code.ExprKind
base_of e = base_in e.kind.value

-- A path has these links; what is no path has none.
abbrev pub links_of : code.Expr → List link.Link
links_of e = links_in e.kind.value

-- A chain begins with its first operand; what is no chain begins with itself.
abbrev pub first_of : code.Expr → kind_code.ExprKind
first_of e = first_in e.kind.value

-- A chain has these operators; what is no chain has none.
abbrev pub operands_of : code.Expr → List operand.Operand
operands_of e = operands_in e.kind.value

-- An expression of a lazy operator has these operands after its first; what is no such expression has none.
abbrev pub others_of : Lazy → code.Expr → List code.Expr
others_of op e = others_in op e.kind.value
