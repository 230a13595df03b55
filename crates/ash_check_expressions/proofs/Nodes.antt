-- Expressions with lists, typed.
use Rattle.std.proofs.Common.{◌≡◌, Bool, false, List, ℕ, Result, map, sym, ap, subst, ◌∙◌, string_bytes}
use Rattle.std.specs.declared.boxed.Box.{Box}
use Rattle.std.specs.declared.vec.Vec.{Vec}
use Rattle.std.specs.declared.string.String.{String}
use Rattle.std.specs.declared.alloc.Global.{Global}
use Rattle.ash_tree.specs.declared.tree.places.Position.{Position}
use Rattle.ash_tree.specs.declared.tree.types.Element as code_element
use Rattle.ash_tree.specs.declared.tree.expressions.ExprKind as code_kind
use Rattle.ash_tree.specs.declared.tree.expressions.ExprKind.TheViews as kinds
use Rattle.ash_tree.specs.declared.tree.expressions.Expr as code_expr
use Rattle.ash_tree.specs.declared.tree.expressions.Suffix as code_suffix
use Rattle.ash_tree.specs.declared.tree.expressions.Link as code_link
use Rattle.ash_tree.specs.Tree as written
use Rattle.ash_tree.specs.TreeViews.{element_of, expr_at, expr_of, suffix_of, operation_of}
use Rattle.ash_tree.proofs.Rows.{call_is, new_array_is, method_is, binary_is, postfix_is}
use Rattle.ash_type_rules.specs.TypingResult.{◌>>=◌}
use Rattle.ash_type_rules.specs.Environment.{Environment}
use Rattle.ash_type_rules.specs.ExpressionRules.{check_expr, check_exprs, check_call, check_array, check_invocation, check_links}
use Rattle.ash_type_rules.specs.ExpressionRules.{check_suffixes, check_suffix}
use Rattle.ash_check_expressions.specs.declared.typed_expr.TypedExpr as code_typed_expr
use Rattle.ash_check_names.specs.declared.error.CheckError.{CheckError}
use Rattle.ash_check_names.specs.Agreement.{Agrees}
use Rattle.ash_check_expressions.specs.TypedExprViews.{typed_of}

pub typed_call : (env : Environment) (left : Bool) (source : code_expr.Expr) (kind : code_kind.ExprKind) (name : String Global) (es : Vec code_expr.Expr Global) (text : List ℕ) (items : List code_expr.Expr) (outcome : Result code_typed_expr.TypedExpr CheckError) → kind ≡ source.kind.value → kind ≡ kinds.Call name es → text ≡ string_bytes name → items ≡ es.items → Agrees typed_of outcome (check_call env source.place.at text (check_exprs env (written.exprs (map expr_of items)))) → Agrees typed_of outcome (check_expr env left (expr_of source))
typed_call env left source kind name es text items outcome k is t i h =
    let whole : expr_of source ≡ written.Call source.place (string_bytes name) (written.exprs (map expr_of es.items)) = ap (expr_at source.place) (sym k ∙ is) ∙ call_is source.place name es in
    let P : written.Expr → Type 0 = λ x. Agrees typed_of outcome (check_expr env left x) in
    let Q : List ℕ → Type 0 = λ x. Agrees typed_of outcome (check_call env source.place.at x (check_exprs env (written.exprs (map expr_of items)))) in
    let R : List code_expr.Expr → Type 0 = λ x. Agrees typed_of outcome (check_call env source.place.at (string_bytes name) (check_exprs env (written.exprs (map expr_of x)))) in
    subst P (sym whole) (subst R i (subst Q t h))

pub typed_new_array : (env : Environment) (left : Bool) (source : code_expr.Expr) (kind : code_kind.ExprKind) (of : Box code_element.Element Global) (es : Vec code_expr.Expr Global) (element : code_element.Element) (items : List code_expr.Expr) (outcome : Result code_typed_expr.TypedExpr CheckError) → kind ≡ source.kind.value → kind ≡ kinds.NewArray of es → element ≡ of.value → items ≡ es.items → Agrees typed_of outcome (check_array env source.place.at (element_of element) (check_exprs env (written.exprs (map expr_of items)))) → Agrees typed_of outcome (check_expr env left (expr_of source))
typed_new_array env left source kind of es element items outcome k is f i h =
    let whole : expr_of source ≡ written.NewArray source.place (element_of of.value) (written.exprs (map expr_of es.items)) = ap (expr_at source.place) (sym k ∙ is) ∙ new_array_is source.place of es in
    let P : written.Expr → Type 0 = λ x. Agrees typed_of outcome (check_expr env left x) in
    let Q : code_element.Element → Type 0 = λ x. Agrees typed_of outcome (check_array env source.place.at (element_of x) (check_exprs env (written.exprs (map expr_of items)))) in
    let R : List code_expr.Expr → Type 0 = λ x. Agrees typed_of outcome (check_array env source.place.at (element_of of.value) (check_exprs env (written.exprs (map expr_of x)))) in
    subst P (sym whole) (subst R i (subst Q f h))

pub typed_postfix : (env : Environment) (left : Bool) (source : code_expr.Expr) (kind : code_kind.ExprKind) (operand : code_expr.Expr) (ss : Vec code_suffix.Suffix Global) (items : List code_suffix.Suffix) (outcome : Result code_typed_expr.TypedExpr CheckError) → kind ≡ source.kind.value → kind ≡ kinds.Postfix operand ss → items ≡ ss.items → Agrees typed_of outcome (check_expr env false (expr_of operand) >>= λ t. check_suffixes env t (written.suffixes (map suffix_of items))) → Agrees typed_of outcome (check_expr env left (expr_of source))
typed_postfix env left source kind operand ss items outcome k is i h =
    let whole : expr_of source ≡ written.Postfix source.place (expr_of operand) (written.suffixes (map suffix_of ss.items)) = ap (expr_at source.place) (sym k ∙ is) ∙ postfix_is source.place operand ss in
    let P : written.Expr → Type 0 = λ x. Agrees typed_of outcome (check_expr env left x) in
    let R : List code_suffix.Suffix → Type 0 = λ x. Agrees typed_of outcome (check_expr env false (expr_of operand) >>= λ t. check_suffixes env t (written.suffixes (map suffix_of x))) in
    subst P (sym whole) (subst R i h)

pub typed_binary : (env : Environment) (left : Bool) (source : code_expr.Expr) (kind : code_kind.ExprKind) (operand : code_expr.Expr) (ls : Vec code_link.Link Global) (items : List code_link.Link) (outcome : Result code_typed_expr.TypedExpr CheckError) → kind ≡ source.kind.value → kind ≡ kinds.Binary operand ls → items ≡ ls.items → Agrees typed_of outcome (check_expr env false (expr_of operand) >>= λ t. check_links env t (written.links (map operation_of items))) → Agrees typed_of outcome (check_expr env left (expr_of source))
typed_binary env left source kind operand ls items outcome k is i h =
    let whole : expr_of source ≡ written.Binary source.place (expr_of operand) (written.links (map operation_of ls.items)) = ap (expr_at source.place) (sym k ∙ is) ∙ binary_is source.place operand ls in
    let P : written.Expr → Type 0 = λ x. Agrees typed_of outcome (check_expr env left x) in
    let R : List code_link.Link → Type 0 = λ x. Agrees typed_of outcome (check_expr env false (expr_of operand) >>= λ t. check_links env t (written.links (map operation_of x))) in
    subst P (sym whole) (subst R i h)

pub typed_method : (env : Environment) (base : code_typed_expr.TypedExpr) (s : code_suffix.Suffix) (p : Position) (name : String Global) (es : Vec code_expr.Expr Global) (text : List ℕ) (items : List code_expr.Expr) (outcome : Result code_typed_expr.TypedExpr CheckError) → s ≡ kinds.Method p name es → text ≡ string_bytes name → items ≡ es.items → Agrees typed_of outcome (check_invocation env (typed_of base) p.at text (check_exprs env (written.exprs (map expr_of items)))) → Agrees typed_of outcome (check_suffix env (typed_of base) (suffix_of s))
typed_method env base s p name es text items outcome is t i h =
    let whole : suffix_of s ≡ written.Method p (string_bytes name) (written.exprs (map expr_of es.items)) = ap suffix_of is ∙ method_is p name es in
    let P : written.Suffix → Type 0 = λ x. Agrees typed_of outcome (check_suffix env (typed_of base) x) in
    let Q : List ℕ → Type 0 = λ x. Agrees typed_of outcome (check_invocation env (typed_of base) p.at x (check_exprs env (written.exprs (map expr_of items)))) in
    let R : List code_expr.Expr → Type 0 = λ x. Agrees typed_of outcome (check_invocation env (typed_of base) p.at (string_bytes name) (check_exprs env (written.exprs (map expr_of x)))) in
    subst P (sym whole) (subst R i (subst Q t h))
