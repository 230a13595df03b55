-- The lists of a node, read from their rows in memory or from the lists of a `Vec`.
use Rattle.std.proofs.Common.{◌≡◌, ◌∙◌, ap, refl, rules, IfOk, Result, Ok, Err, box_value, map, List, [], ◌∷◌, ◌++◌, None, ◌<◌, length, arith}
use Rattle.std.specs.declared.vec.Vec.{Vec}
use Rattle.std.specs.declared.alloc.Global.{Global}
use Rattle.ash_typed.specs.declared.tree.expressions.Expr as code
use Rattle.ash_typed.specs.declared.tree.expressions.ExprKind as kind_code
use Rattle.ash_typed.specs.declared.tree.expressions.ExprKind.TheViews as views
use Rattle.ash_typed.specs.declared.tree.expressions.ExprKind.{Row_of-Expr, end_of-Expr, more_of-Expr}
use Rattle.ash_typed.specs.declared.tree.expressions.ExprKind.{items-the_row-Expr, Row_of-Link, end_of-Link}
use Rattle.ash_typed.specs.declared.tree.expressions.ExprKind.{more_of-Link, items-the_row-Link, Row_of-Operand}
use Rattle.ash_typed.specs.declared.tree.expressions.ExprKind.{end_of-Operand, more_of-Operand, items-the_row-Operand}
use Rattle.ash_typed.specs.declared.tree.expressions.Link as link
use Rattle.ash_typed.specs.declared.tree.expressions.Operand as operand
use Rattle.ash_typed.specs.declared.types.VarType.{VarType}
use Rattle.ash_typed.specs.declared.tree.operations.Lazy.{Lazy}
use Rattle.ash_typed.specs.declared.tree.operations.CallTarget.{CallTarget}
use Rattle.ash_typed.specs.declared.tree.operations.Method.{Method}
use Rattle.ash_typed.specs.TypedTree.{Expr, Call, Invoke, expr, exprs, converted, Operate, Lazily, place_in}
use Rattle.ash_typed.specs.TypedTreeViews.{expr_in, expr_of, exprs_of, linked, linked_by, chained, chained_by, lazies_by, all_linked}
use Rattle.ash_typed.specs.TypedTreeViews.{all_chained, all_lazies}

pub exprs_of-row : {n : _} (row : Row_of-Expr n) → exprs_of row ≡ exprs (map expr_of (items-the_row-Expr n row))
exprs_of-row end_of-Expr = refl
exprs_of-row (more_of-Expr a e rest) = ap (expr (expr_in e)) (exprs_of-row rest)

pub linked_by-row : {n : _} (e : Expr) (row : Row_of-Link n) → linked_by e row ≡ all_linked e (items-the_row-Link n row)
linked_by-row e end_of-Link = refl
linked_by-row e (more_of-Link l rest) = linked_by-row (linked e l) rest

pub chained_by-row : {n : _} (e : Expr) (row : Row_of-Operand n)
    → chained_by e row ≡ all_chained e (items-the_row-Operand n row)
chained_by-row e end_of-Operand = refl
chained_by-row e (more_of-Operand before operation a value rest) =
    chained_by-row (Operate operation (converted before e) (expr_in value)) rest

pub lazies_by-row : {n : _} (op : Lazy) (e : Expr) (row : Row_of-Expr n)
    → lazies_by op e row ≡ all_lazies op e (items-the_row-Expr n row)
lazies_by-row op e end_of-Expr = refl
lazies_by-row op e (more_of-Expr a x rest) = lazies_by-row op (Lazily op e (expr_in x)) rest

-- an expression of this kind is what its kind is
pub of_kind : {E : Type 0} (k : kind_code.ExprKind) (of : Expr) (r : Result code.Expr E)
    → IfOk r (λ (e : code.Expr). box_value e.kind ≡ k) → expr_in k ≡ of → IfOk r (λ (e : code.Expr). expr_of e ≡ of)
of_kind k of (Ok e) is seen = ap expr_in is ∙ seen
of_kind k of (Err why) h seen = h

pub call_is : (target : CallTarget) (ps : Vec VarType Global) (es : Vec code.Expr Global)
    → expr_in (views.Call target ps es) ≡ Call target ps.items (exprs (map expr_of es.items))
call_is target ps es = search (rules, views.the_lemmas, exprs_of-row)

pub invoke_is : (e : Expr) (method : Method) (ps : Vec VarType Global) (es : Vec code.Expr Global)
    → linked e (views.Invoke method ps es) ≡ Invoke e method ps.items (exprs (map expr_of es.items))
invoke_is e method ps es = search (rules, views.the_lemmas, exprs_of-row)

pub path_is : (base : code.Expr) (ls : Vec link.Link Global)
    → expr_in (views.Path base ls) ≡ all_linked (expr_of base) ls.items
path_is base ls = search (rules, views.the_lemmas, linked_by-row)

pub chain_is : (first : code.Expr) (os : Vec operand.Operand Global)
    → expr_in (views.Chain first os) ≡ all_chained (expr_of first) os.items
chain_is first os = search (rules, views.the_lemmas, chained_by-row)

pub lazy_is : (op : Lazy) (first : code.Expr) (es : Vec code.Expr Global)
    → expr_in (views.Lazy op first es) ≡ all_lazies op (expr_of first) es.items
lazy_is op first es = search (rules, views.the_lemmas, lazies_by-row)

pub all_lazies_append : (op : Lazy) (e : Expr) (es : List code.Expr) (x : code.Expr)
    → all_lazies op e (es ++ x ∷ []) ≡ Lazily op (all_lazies op e es) (expr_of x)
all_lazies_append op e [] x = refl
all_lazies_append op e (y ∷ es) x = all_lazies_append op (Lazily op e (expr_of y)) es x

pub all_linked_append : (e : Expr) (ls : List link.Link) (l : link.Link)
    → all_linked e (ls ++ l ∷ []) ≡ linked (all_linked e ls) l
all_linked_append e [] l = refl
all_linked_append e (x ∷ ls) l = all_linked_append (linked e x) ls l

pub all_chained_append : (e : Expr) (os : List operand.Operand) (o : operand.Operand)
    → all_chained e (os ++ o ∷ []) ≡ chained (all_chained e os) o
all_chained_append e [] o = refl
all_chained_append e (x ∷ os) o = all_chained_append (chained e x) os o

after_chained : (e : Expr) (os : List operand.Operand) → place_in e ≡ None → place_in (all_chained e os) ≡ None
after_chained e [] h = h
after_chained e (o ∷ os) h = after_chained (chained e o) os refl

pub no_place_chained : (e : Expr) (os : List operand.Operand) → 0 < length os → place_in (all_chained e os) ≡ None
no_place_chained e [] h = absurd (omega arith)
no_place_chained e (o ∷ os) h = after_chained (chained e o) os refl

after_lazies : (op : Lazy) (e : Expr) (es : List code.Expr) → place_in e ≡ None → place_in (all_lazies op e es) ≡ None
after_lazies op e [] h = h
after_lazies op e (x ∷ es) h = after_lazies op (Lazily op e (expr_of x)) es refl

pub no_place_lazies : (op : Lazy) (e : Expr) (es : List code.Expr) → 0 < length es
    → place_in (all_lazies op e es) ≡ None
no_place_lazies op e [] h = absurd (omega arith)
no_place_lazies op e (x ∷ es) h = after_lazies op (Lazily op e (expr_of x)) es refl
