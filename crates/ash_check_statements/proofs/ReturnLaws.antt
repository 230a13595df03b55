-- Labels and branches of written statements, and what is after the last label.
use Rattle.std.proofs.lemmas.Option.{none-some, same_Some}
use Rattle.std.proofs.Common.{ℕ, zero, suc, ◌+◌, ◌-◌, ◌<◌, length, Some, slice_get, get_or, drop, drop-cons, add-one}
use Rattle.std.proofs.Common.{arith, ◌≡◌, List, [], ◌∷◌, map, Bool, true, false, ◌||◌, refl, sym, ap, ◌∙◌, Vec}
use Rattle.std.proofs.Common.{Global, rules}
use Rattle.ash_tree.specs.declared.tree.places.Position.{Position}
use Rattle.ash_tree.specs.declared.tree.statements.Label.{Label}
use Rattle.ash_tree.specs.declared.tree.statements.StmtKind.TheViews as stmt_views
use Rattle.ash_tree.specs.declared.tree.statements.Stmt as code_stmt
use Rattle.ash_tree.specs.declared.tree.statements.Case as code_case
use Rattle.ash_tree.specs.declared.tree.expressions.Expr as code_expr
use Rattle.ash_tree.specs.Tree.{If, IfElse, labelled, next_case, stmts, cases}
use Rattle.ash_tree.specs.TreeViews.{stmt_at, stmt_of, case_of, expr_of}
use Rattle.ash_tree.proofs.Rows.{stmts_of-row}
use Rattle.ash_type_rules.specs.Returning.{any_returns, last_returns, case_returns}

pub if_is : (p : Position) (c : code_expr.Expr) (s : code_stmt.Stmt) → stmt_at p (stmt_views.If c s) ≡ If p (expr_of c) (stmt_of s)
if_is p c s = search (rules, stmt_views.the_lemmas)

pub if_else_is : (p : Position) (c : code_expr.Expr) (s t : code_stmt.Stmt) → stmt_at p (stmt_views.IfElse c s t) ≡ IfElse p (expr_of c) (stmt_of s) (stmt_of t)
if_else_is p c s t = search (rules, stmt_views.the_lemmas)

-- labels

case_made : (p : Position) (l : Label) (body : Vec code_stmt.Stmt Global) → case_of (code_case.roll-Case (record { place = p; label = l; body = body })) ≡ labelled p l (stmts (map stmt_of body.items))
case_made p l body = search (rules, stmt_views.the_lemmas, stmts_of-row)

pub case_is : (c : code_case.Case) → case_of c ≡ labelled (code_case.out-Case c).place (code_case.out-Case c).label (stmts (map stmt_of (code_case.out-Case c).body.items))
case_is c = ap case_of (sym (code_case.roll-out-Case c)) ∙ case_made (code_case.out-Case c).place (code_case.out-Case c).label (code_case.out-Case c).body

pub begins_at : (labels : List code_case.Case) (i : ℕ) (x : code_case.Case) → i < length labels → x ≡ get_or labels i x → drop i labels ≡ x ∷ drop (i + 1) labels
begins_at labels i x within is = drop-cons labels i x within ∙ ap (λ y. y ∷ drop (suc i) labels) (sym is) ∙ ap (λ m. x ∷ drop m labels) (sym (add-one i))

pub labels_at : (labels : List code_case.Case) (i : ℕ) (x : code_case.Case) → i < length labels → x ≡ get_or labels i x → cases (map case_of (drop i labels)) ≡ next_case (labelled (code_case.out-Case x).place (code_case.out-Case x).label (stmts (map stmt_of (code_case.out-Case x).body.items))) (cases (map case_of (drop (i + 1) labels)))
labels_at labels i x within is = ap (λ xs. cases (map case_of xs)) (begins_at labels i x within is) ∙ ap (λ c. next_case c (cases (map case_of (drop (i + 1) labels)))) (case_is x)

-- one of several, or another

pub here : (a b : Bool) → a ≡ true → true ≡ (a || b)
here true b h = refl
here false b h = cc

pub later : (a b : Bool) → a ≡ false → b ≡ (a || b)
later true b h = cc
later false b h = refl

-- the last label

last_at : (xs : List code_case.Case) (i : ℕ) (x : code_case.Case) → i + 1 ≡ length xs → Some x ≡ slice_get xs i → last_returns (cases (map case_of xs)) ≡ case_returns (case_of x)
last_at [] i x e h = absurd (none-some x (sym h))
last_at (y ∷ []) zero x e h = ap (λ c. case_returns (case_of c)) (sym (same_Some x y h))
last_at (y ∷ []) (suc i) x e h = absurd (none-some x (sym h))
last_at (y ∷ z ∷ zs) zero x e h = absurd (omega (arith, e))
last_at (y ∷ z ∷ zs) (suc i) x e h = last_at (z ∷ zs) i x (omega (arith, e)) h

some_last : (xs : List code_case.Case) (x : code_case.Case) → Some x ≡ slice_get xs (length xs - 1) → length xs - 1 + 1 ≡ length xs
some_last [] x h = absurd (none-some x (sym h))
some_last (y ∷ ys) x h = omega arith

pub last_is : (xs : List code_case.Case) (x : code_case.Case) → Some x ≡ slice_get xs (length xs - 1) → last_returns (cases (map case_of xs)) ≡ any_returns (stmts (map stmt_of (code_case.out-Case x).body.items))
last_is xs x h = last_at xs (length xs - 1) x (some_last xs x h) h ∙ ap case_returns (case_is x)
