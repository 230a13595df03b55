-- The lists of a node, read from their rows in memory or from the lists of a `Vec`.
use Rattle.std.proofs.Common.{◌≡◌, ap, refl, rules, map, List, [], ◌∷◌, length, ◌<◌, arith, string_bytes}
use Rattle.std.specs.declared.boxed.Box.{Box}
use Rattle.std.specs.declared.vec.Vec.{Vec}
use Rattle.std.specs.declared.string.String.{String}
use Rattle.std.specs.declared.alloc.Global.{Global}
use Rattle.ash_tree.specs.declared.tree.places.Position.{Position}
use Rattle.ash_tree.specs.declared.tree.expressions.ExprKind.{Row_of-Expr, end_of-Expr, more_of-Expr}
use Rattle.ash_tree.specs.declared.tree.expressions.ExprKind.{items-the_row-Expr, Row_of-Suffix, end_of-Suffix}
use Rattle.ash_tree.specs.declared.tree.expressions.ExprKind.{more_of-Suffix, items-the_row-Suffix, Row_of-Link}
use Rattle.ash_tree.specs.declared.tree.expressions.ExprKind.{end_of-Link, more_of-Link, items-the_row-Link}
use Rattle.ash_tree.specs.declared.tree.types.Element as code_element
use Rattle.ash_tree.specs.declared.tree.types.TypeKind as type_kind
use Rattle.ash_tree.specs.declared.tree.types.TypeKind.TheVariants as type_cases
use Rattle.ash_tree.specs.declared.tree.expressions.ExprKind as code_kind
use Rattle.ash_tree.specs.declared.tree.expressions.ExprKind.TheVariants as kind_cases
use Rattle.ash_tree.specs.declared.tree.expressions.ExprKind.TheViews as kinds
use Rattle.ash_tree.specs.declared.tree.expressions.Expr as code_expr
use Rattle.ash_tree.specs.declared.tree.expressions.Suffix as code_suffix
use Rattle.ash_tree.specs.declared.tree.expressions.Link as code_link
use Rattle.ash_tree.specs.declared.tree.statements.StmtKind.{Row_of-Stmt, end_of-Stmt, more_of-Stmt, items-the_row-Stmt}
use Rattle.ash_tree.specs.declared.tree.statements.StmtKind.{Row_of-Case, end_of-Case, more_of-Case, items-the_row-Case}
use Rattle.ash_tree.specs.declared.tree.statements.StmtKind.TheViews as stmt_views
use Rattle.ash_tree.specs.declared.tree.statements.Stmt as code_stmt
use Rattle.ash_tree.specs.declared.tree.statements.Case as code_case
use Rattle.ash_tree.specs.Tree.{Block, Switch, stmt, stmts, next_case, cases, Expr, Call, NewArray, Method, Binary}
use Rattle.ash_tree.specs.Tree.{Postfix, Suffix, OperatorLink, expr, exprs, suffix, suffixes, link, links, chained}
use Rattle.ash_tree.specs.Tree.{suffixed, place_of, place_of_type}
use Rattle.ash_tree.specs.TreeViews.{element_of, type_at, expr_at, expr_of, exprs_of, suffix_of, suffixes_of, links_of}
use Rattle.ash_tree.specs.TreeViews.{operation_of, stmt_at, stmt_of, stmts_of, case_of, cases_of}

pub exprs_of-row : {n : _} (row : Row_of-Expr n) → exprs_of row ≡ exprs (map expr_of (items-the_row-Expr n row))
exprs_of-row end_of-Expr = refl
exprs_of-row (more_of-Expr p a k rest) = ap (expr (expr_at p k)) (exprs_of-row rest)

pub suffixes_of-row : {n : _} (row : Row_of-Suffix n)
    → suffixes_of row ≡ suffixes (map suffix_of (items-the_row-Suffix n row))
suffixes_of-row end_of-Suffix = refl
suffixes_of-row (more_of-Suffix s rest) = ap (suffix (suffix_of s)) (suffixes_of-row rest)

pub links_of-row : {n : _} (row : Row_of-Link n) → links_of row ≡ links (map operation_of (items-the_row-Link n row))
links_of-row end_of-Link = refl
links_of-row (more_of-Link o p a k rest) = ap (link o (expr_at p k)) (links_of-row rest)

pub call_is : (p : Position) (name : String Global) (es : Vec code_expr.Expr Global)
    → expr_at p (kinds.Call name es) ≡ Call p (string_bytes name) (exprs (map expr_of es.items))
call_is p name es = search (rules, kinds.the_lemmas, exprs_of-row)

pub new_array_is : (p : Position) (of : Box code_element.Element Global) (es : Vec code_expr.Expr Global)
    → expr_at p (kinds.NewArray of es) ≡ NewArray p (element_of of.value) (exprs (map expr_of es.items))
new_array_is p of es = search (rules, kinds.the_lemmas, exprs_of-row)

pub method_is : (p : Position) (name : String Global) (es : Vec code_expr.Expr Global)
    → suffix_of (kinds.Method p name es) ≡ Method p (string_bytes name) (exprs (map expr_of es.items))
method_is p name es = search (rules, kinds.the_lemmas, exprs_of-row)

pub binary_is : (p : Position) (first : code_expr.Expr) (ls : Vec code_link.Link Global)
    → expr_at p (kinds.Binary first ls) ≡ Binary p (expr_of first) (links (map operation_of ls.items))
binary_is p first ls = search (rules, kinds.the_lemmas, links_of-row)

pub postfix_is : (p : Position) (operand : code_expr.Expr) (ss : Vec code_suffix.Suffix Global)
    → expr_at p (kinds.Postfix operand ss) ≡ Postfix p (expr_of operand) (suffixes (map suffix_of ss.items))
postfix_is p operand ss = search (rules, kinds.the_lemmas, suffixes_of-row)

-- an operand with something after it is a node of its own
pub chained-some : (first : Expr) (more : List OperatorLink) → 0 < length more
    → chained first more ≡ Binary (place_of first) first (links more)
chained-some first [] h = absurd (omega arith)
chained-some first (x ∷ more) h = refl

pub suffixed-some : (operand : Expr) (more : List Suffix) → 0 < length more
    → suffixed operand more ≡ Postfix (place_of operand) operand (suffixes more)
suffixed-some operand [] h = absurd (omega arith)
suffixed-some operand (x ∷ more) h = refl

pub stmts_of-row : {n : _} (row : Row_of-Stmt n) → stmts_of row ≡ stmts (map stmt_of (items-the_row-Stmt n row))
stmts_of-row end_of-Stmt = refl
stmts_of-row (more_of-Stmt p a k rest) = ap (stmt (stmt_at p k)) (stmts_of-row rest)

pub cases_of-row : {n : _} (row : Row_of-Case n) → cases_of row ≡ cases (map case_of (items-the_row-Case n row))
cases_of-row end_of-Case = refl
cases_of-row (more_of-Case c rest) = ap (next_case (case_of c)) (cases_of-row rest)

pub block_is : (p : Position) (ss : Vec code_stmt.Stmt Global)
    → stmt_at p (stmt_views.Block ss) ≡ Block p (stmts (map stmt_of ss.items))
block_is p ss = search (rules, stmt_views.the_lemmas, stmts_of-row)

pub switch_is : (p : Position) (e : code_expr.Expr) (cs : Vec code_case.Case Global)
    → stmt_at p (stmt_views.Switch e cs) ≡ Switch p (expr_of e) (cases (map case_of cs.items))
switch_is p e cs = search (rules, stmt_views.the_lemmas, cases_of-row)

-- an expression is at the place that it has
pub place_is : (p : Position) (k : code_kind.ExprKind) → place_of (expr_at p k) ≡ p
place_is p (kind_cases.Number n) = refl
place_is p (kind_cases.Bool b) = refl
place_is p kind_cases.Null = refl
place_is p kind_cases.This = refl
place_is p (kind_cases.Name t) = refl
place_is p (kind_cases.Call' t shape es) = refl
place_is p (kind_cases.Brackets' q a k) = refl
place_is p (kind_cases.Convert' t q a k) = refl
place_is p (kind_cases.NewArray' t shape es) = refl
place_is p (kind_cases.Cast' t q a k) = refl
place_is p (kind_cases.Postfix' q a k shape ss) = refl
place_is p (kind_cases.Unary' o q a k) = refl
place_is p (kind_cases.Binary' q a k shape ls) = refl
place_is p (kind_cases.Conditional' q a k r b l s c m) = refl
place_is p (kind_cases.Assign' q a k o r b l) = refl

pub type_place_is : (p : Position) (k : type_kind.TypeKind) → place_of_type (type_at p k) ≡ p
type_place_is p (type_cases.Primitive k) = refl
type_place_is p (type_cases.Object t) = refl
type_place_is p (type_cases.Handle t) = refl
type_place_is p (type_cases.Array e) = refl
type_place_is p (type_cases.ArrayHandle e) = refl
