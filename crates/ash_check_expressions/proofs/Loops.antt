-- The results before a turn of a loop, with those of the rest.
use Rattle.std.proofs.Common.{◌≡◌, ◌≤◌, false, List, [], ◌∷◌, ◌++◌, length, map, Option, Some, None, Ok, Err, refl, sym}
use Rattle.std.proofs.Common.{ap, ◌∙◌, append_assoc, append-nil, arith}
use Rattle.ash_tree.specs.Tree as written
use Rattle.ash_type_rules.specs.declared.fault.Fault.{Fault}
use Rattle.ash_type_rules.specs.declared.types.Ty.{Ty}
use Rattle.ash_typed.specs.declared.tree.expressions.Expr as code
use Rattle.ash_type_rules.specs.TypingResult.{TypingResult, ◌>>=◌}
use Rattle.ash_typed.specs.TypedTree.{Expr, Exprs, no_expr, expr, exprs}
use Rattle.ash_typed.specs.TypedTreeViews.{expr_of}
use Rattle.ash_type_rules.specs.Environment.{Environment, ClassSignature}
use Rattle.ash_type_rules.specs.ExpressionRules.{TypedExpr, coerced_for_assignment, all_coerced, check_expr, check_exprs}
use Rattle.ash_check_names.specs.declared.error.CheckError.{CheckError}
use Rattle.ash_check_names.specs.declared.error.CheckError.TheVariants as errors
use Rattle.ash_check_names.specs.Agreement.{FailsWith}
use Rattle.ash_check_names.specs.EnvironmentViews.{first_and_rest}

-- arguments that are converted to the types of their parameters

abbrev pub before : List Expr → Exprs → Exprs
before [] es = es
before (e ∷ done) es = expr e (before done es)

before-none : (done : List Expr) → before done no_expr ≡ exprs done
before-none [] = refl
before-none (e ∷ done) = ap (expr e) (before-none done)

before-push : (done : List Expr) (e : Expr) (es : Exprs) → before done (expr e es) ≡ before (done ++ e ∷ []) es
before-push [] e es = refl
before-push (x ∷ done) e es = ap (expr x) (before-push done e es)

bind_same : {A : Type 0} (r : TypingResult A) → (r >>= λ x. Ok x) ≡ r
bind_same (Ok x) = refl
bind_same (Err f) = refl

no_first : (p : Ty) (ps : List Ty) → ◌≡◌ {A = Option (Ty × List Ty)} (Some (p, ps)) None → ⊥
no_first p ps h = cc

same_split : (q : Ty) (ps : List Ty) (p : Ty) (qs : List Ty) → ◌≡◌ {A = Option (Ty × List Ty)} (Some (q, ps)) (Some (p, qs)) → ◌≡◌ {A = Ty × List Ty} (q, ps) (p, qs)
same_split q ps p qs h = cc

split_is : (ps : List Ty) (p : Ty) (qs : List Ty) → first_and_rest ps ≡ Some (p, qs) → ps ≡ p ∷ qs
split_is [] p qs h = absurd (no_first p qs (sym h))
split_is (q ∷ ps) p qs h = ap (λ (x : Ty × List Ty). x.0 ∷ x.1) (same_split q ps p qs h)

push_more : (done : List Expr) (e : Expr) (r : TypingResult Exprs) → ((r >>= λ es. Ok (expr e es)) >>= λ es. Ok (before done es)) ≡ (r >>= λ es. Ok (before (done ++ e ∷ []) es))
push_more done e (Ok es) = ap Ok (before-push done e es)
push_more done e (Err f) = refl

map_push : (es : List code.Expr) (e : code.Expr) → map expr_of (es ++ e ∷ []) ≡ map expr_of es ++ expr_of e ∷ []
map_push [] e = refl
map_push (x ∷ es) e = ap (λ r. expr_of x ∷ r) (map_push es e)

abbrev pub coerced_after : List ClassSignature → List Expr → List Ty → List TypedExpr → TypingResult Exprs
coerced_after classes done ps ts = all_coerced classes ps ts >>= λ es. Ok (before done es)

-- the outcome of one argument, and then of those after it
abbrev first_then : List ClassSignature → List Expr → List Ty → List TypedExpr → TypingResult Expr → TypingResult Exprs
first_then classes done ps ts r = (r >>= λ e. all_coerced classes ps ts >>= λ es. Ok (expr e es)) >>= λ es. Ok (before done es)

module _ (classes : List ClassSignature) where
  pub none_before : (ps : List Ty) (ts : List TypedExpr) → coerced_after classes [] ps ts ≡ all_coerced classes ps ts
  none_before ps ts = bind_same (all_coerced classes ps ts)

  pub no_argument : (done : List Expr) (ps : List Ty) (ts : List TypedExpr) → length ts ≤ 0 → coerced_after classes done ps ts ≡ Ok (exprs done)
  no_argument done [] [] h = ap Ok (before-none done)
  no_argument done (p ∷ ps) [] h = ap Ok (before-none done)
  no_argument done ps (t ∷ ts) h = absurd (omega arith)

  pub no_parameter : (done : List Expr) (ps : List Ty) (ts : List TypedExpr) → first_and_rest ps ≡ None → coerced_after classes done ps ts ≡ Ok (exprs done)
  no_parameter done [] ts h = ap Ok (before-none done)
  no_parameter done (p ∷ ps) ts h = absurd (no_first p ps h)

  one_more : (done : List Expr) (ps : List Ty) (ts : List TypedExpr) (p : Ty) (qs : List Ty) (t : TypedExpr) (us : List TypedExpr) → first_and_rest ps ≡ Some (p, qs) → ts ≡ t ∷ us → coerced_after classes done ps ts ≡ first_then classes done qs us (coerced_for_assignment classes p t)
  one_more done ps ts p qs t us h k = ap (λ x. coerced_after classes done x ts) (split_is ps p qs h) ∙ ap (λ x. coerced_after classes done (p ∷ qs) x) k

  pub stops : (done : List Expr) (ps : List Ty) (ts : List TypedExpr) (p : Ty) (qs : List Ty) (t : TypedExpr) (us : List TypedExpr) (e : CheckError) (whole : TypingResult Exprs) → first_and_rest ps ≡ Some (p, qs) → ts ≡ t ∷ us → FailsWith e (coerced_for_assignment classes p t) → coerced_after classes done ps ts ≡ whole → FailsWith e whole
  stops done ps ts p qs t us (errors.Fault f) whole h k broken so = sym so ∙ one_more done ps ts p qs t us h k ∙ ap (first_then classes done qs us) broken
  stops done ps ts p qs t us errors.NoMemory whole h k broken so = tt

  pub goes_on : (done : List code.Expr) (e : code.Expr) (new : List code.Expr) (ps : List Ty) (ts : List TypedExpr) (p : Ty) (qs : List Ty) (t : TypedExpr) (us : List TypedExpr) (whole : TypingResult Exprs) → new ≡ done ++ e ∷ [] → first_and_rest ps ≡ Some (p, qs) → ts ≡ t ∷ us → coerced_for_assignment classes p t ≡ Ok (expr_of e) → coerced_after classes (map expr_of done) ps ts ≡ whole → coerced_after classes (map expr_of new) qs us ≡ whole
  goes_on done e new ps ts p qs t us whole same h k fine so =
      ap (λ x. coerced_after classes x qs us) (ap (map expr_of) same ∙ map_push done e)
      ∙ sym (push_more (map expr_of done) (expr_of e) (all_coerced classes qs us))
      ∙ sym (ap (first_then classes (map expr_of done) qs us) fine)
      ∙ sym (one_more (map expr_of done) ps ts p qs t us h k)
      ∙ so

-- arguments that are typed

abbrev pub typed_after : List TypedExpr → TypingResult (List TypedExpr) → TypingResult (List TypedExpr)
typed_after done r = r >>= λ ts. Ok (done ++ ts)

pub after_none : (r : TypingResult (List TypedExpr)) → typed_after [] r ≡ r
after_none (Ok ts) = refl
after_none (Err f) = refl

pub after_all : (done : List TypedExpr) → typed_after done (Ok []) ≡ Ok done
after_all done = ap Ok (append-nil done)

after_one_more : (done : List TypedExpr) (t : TypedExpr) (r : TypingResult (List TypedExpr)) → typed_after done (r >>= λ ts. Ok (t ∷ ts)) ≡ typed_after (done ++ t ∷ []) r
after_one_more done t (Ok ts) = ap Ok (sym (append_assoc done (t ∷ []) ts))
after_one_more done t (Err f) = refl

pub typed_next : (env : Environment) (done : List TypedExpr) (e : written.Expr) (es : written.Exprs) (t : TypedExpr) → check_expr env false e ≡ Ok t → typed_after done (check_exprs env (written.expr e es)) ≡ typed_after (done ++ t ∷ []) (check_exprs env es)
typed_next env done e es t h =
    ap (λ r. typed_after done (r >>= λ x. check_exprs env es >>= λ ts. Ok (x ∷ ts))) h ∙ after_one_more done t (check_exprs env es)

pub typed_ends : (env : Environment) (done : List TypedExpr) (e : written.Expr) (es : written.Exprs) (f : Fault) → check_expr env false e ≡ Err f → typed_after done (check_exprs env (written.expr e es)) ≡ Err f
typed_ends env done e es f h = ap (λ r. typed_after done (r >>= λ x. check_exprs env es >>= λ ts. Ok (x ∷ ts))) h
