-- The rules type what the walk types: operators.
use Rattle.std.proofs.Common.{◌≡◌, ℕ, Bool, true, false, Option, Some, None, Ok, refl, sym, ap, ◌∙◌, subst}
use Rattle.ash_tree.specs.declared.tree.places.Position as place
use Rattle.ash_tree.specs.declared.tree.operators.UnaryOp.{UnaryOp}
use Rattle.ash_tree.specs.declared.tree.operators.UnaryOp.TheVariants as unary
use Rattle.ash_tree.specs.declared.tree.operators.BinaryOp.{BinaryOp}
use Rattle.ash_tree.specs.Tree as written
use Rattle.ash_integers.specs.declared.int_type.IntType.{IntType}
use Rattle.ash_type_rules.specs.declared.types.Ty.{Ty}
use Rattle.ash_type_rules.specs.declared.types.Ty.TheVariants as ty
use Rattle.ash_type_rules.specs.declared.forms.OperatorClass.{OperatorClass}
use Rattle.ash_typed.specs.declared.tree.operations.Change.TheVariants as changes
use Rattle.ash_typed.specs.declared.tree.operations.Operands.{Operands}
use Rattle.ash_typed.specs.declared.tree.operations.IncrementOp.{IncrementOp}
use Rattle.ash_typed.specs.declared.tree.operations.IncrementOp.TheVariants as steps
use Rattle.ash_type_rules.specs.TypingResult.{◌>>=◌}
use Rattle.ash_type_rules.specs.TypeRules.{signed, common, operator_class_of, operator_result, common_operands, assumed_type}
use Rattle.ash_typed.specs.TypedTree.{Expr, Alter, Conditional, Count, Place}
use Rattle.ash_type_rules.specs.Environment.{Environment}
use Rattle.ash_type_rules.specs.ExpressionRules.{TypedExpr, UnifiedOperands, check_expr, check_links, coerced, operate}
use Rattle.ash_type_rules.specs.ExpressionRules.{operated as joined, unify_operands}
use Rattle.ash_type_rules.specs.ExpressionRules.{unified_as, unified_by, counted, altered, unary_at, integer_of, bool_of}
use Rattle.ash_type_rules.specs.ExpressionRules.{handle_of}
use Rattle.ash_type_rules.specs.ExpressionRules.{handle_at, choice, chosen, term_at, integer_at, placed, term_of}
use Rattle.ash_type_rules.specs.Typing.{IsKnown, is_known, HasType, LinksHaveType, plus, minus, complement, not, increment}
use Rattle.ash_type_rules.specs.Typing.{decrement, handle, handle_written, conditional, operated, AreUnified, left_of, right_of}
use Rattle.ash_type_rules.proofs.TypingWords.{no_fault, same_ok, bind_ok, unconverted, adapted_is, known_assumed, right_is}
use Rattle.ash_type_rules.proofs.TypingKnown.{known_type, operator_result_known, adapted_known}
use Rattle.ash_type_rules.specs.Terms.{applied, assignable, handle_form, Term, term, adapted_to, right_by}
use Rattle.ash_type_rules.proofs.TypingSoundCalls.{Sound, at_ok, bool_ok, integer_ok, object_ok}

-- operators before an operand

pub counted_ok : (at : ℕ) (step : IncrementOp) (u : TypedExpr) (found : Option Place) (r : TypedExpr) → is_known u.ty ≡ true
    → counted at step u found ≡ Ok r
    → (target : Place) × (found ≡ Some target)
    × ((k : IntType) × (u.ty ≡ ty.Integer k) × (term_at at (ty.Integer k) (Count target k step) ≡ r))
unfolding counted
counted_ok at step u None r known h = absurd (no_fault _ r h)
counted_ok at step u (Some target) r known h =
    let k = bind_ok (integer_of u.at u.ty) (λ k. Ok (term_at at (ty.Integer k) (Count target k step))) r h in (
      target,
      refl,
      (k.0, integer_ok u.at u.ty k.0 known k.1, same_ok (term_at at (ty.Integer k.0) (Count target k.0 step)) r k.2),
    )

handle_sound : (env : Environment) (left : Bool) (p : place.Position) (e : written.Expr) (u r : TypedExpr)
    → HasType env false e (term_of u) → is_known u.ty ≡ true → handle_at left p.at u ≡ Ok r
    → HasType env left (written.Unary p unary.Handle e) (term_of r)
handle_sound env true p e u r d known h =
    at_ok (λ r. HasType env true (written.Unary p unary.Handle e) (term_of r))
    (record { at = p.at; ty = u.ty; form = handle_form u.form; tree = u.tree }) r h (handle_written d)
handle_sound env false p e u r d known h =
    let t = bind_ok (handle_of u.at u.ty) (λ t. Ok (term_at p.at t u.tree)) r h in
    let o = object_ok u.at u.ty t.0 known t.1 in
    at_ok (λ r. HasType env false (written.Unary p unary.Handle e) (term_of r)) (term_at p.at t.0 u.tree) r t.2
    (rw (← o.2) (handle d o.1))

pub unary_sound : (env : Environment) (left : Bool) (p : place.Position) (op : UnaryOp) (e : written.Expr) (u r : TypedExpr)
    → HasType env false e (term_of u) → is_known u.ty ≡ true → unary_at left p.at op u ≡ Ok r
    → HasType env left (written.Unary p op e) (term_of r)
unfolding unary_at
unary_sound env left p unary.Plus e u r d known h =
    let k = bind_ok (integer_of u.at u.ty) (λ k. Ok (integer_at p.at k u)) r h in
    let is = integer_ok u.at u.ty k.0 known k.1 in
    at_ok (λ r. HasType env left (written.Unary p unary.Plus e) (term_of r)) (integer_at p.at k.0 u) r k.2
    (rw (unconverted k.0 (term_of u) is) (plus d is))
unary_sound env left p unary.Minus e u r d known h =
    let k = bind_ok (integer_of u.at u.ty) (λ k. Ok (altered p.at (signed k) (changes.Negate (signed k)) u)) r h in
    at_ok (λ r. HasType env left (written.Unary p unary.Minus e) (term_of r))
    (altered p.at (signed k.0) (changes.Negate (signed k.0)) u) r k.2 (minus d (integer_ok u.at u.ty k.0 known k.1))
unary_sound env left p unary.BitNot e u r d known h =
    let k = bind_ok (integer_of u.at u.ty) (λ k. Ok (altered p.at k (changes.Complement k) u)) r h in
    let is = integer_ok u.at u.ty k.0 known k.1 in
    at_ok (λ r. HasType env left (written.Unary p unary.BitNot e) (term_of r))
    (altered p.at k.0 (changes.Complement k.0) u) r k.2 (rw (unconverted k.0 (term_of u) is) (complement d is))
unary_sound env left p unary.Not e u r d known h =
    let b = bind_ok (bool_of u.at u.ty) (λ yes. Ok (term_at p.at ty.Bool (Alter changes.Not u.tree))) r h in
    at_ok (λ r. HasType env left (written.Unary p unary.Not e) (term_of r))
    (term_at p.at ty.Bool (Alter changes.Not u.tree)) r b.2 (not d (bool_ok u.at u.ty b.0 known b.1))
unary_sound env left p unary.Increment e u r d known h =
    let c = counted_ok p.at steps.Increment u (assignable u.form u.tree) r known h in
    subst (λ r. HasType env left (written.Unary p unary.Increment e) (term_of r)) ((c.2).2) (increment d c.1 ((c.2).1))
unary_sound env left p unary.Decrement e u r d known h =
    let c = counted_ok p.at steps.Decrement u (assignable u.form u.tree) r known h in
    subst (λ r. HasType env left (written.Unary p unary.Decrement e) (term_of r)) ((c.2).2) (decrement d c.1 ((c.2).1))
unary_sound env left p unary.Handle e u r d known h = handle_sound env left p e u r d known h

-- operators between two operands

unified_as_ok : (s : OperatorClass) (x y : TypedExpr) (found : Option Operands) (m : UnifiedOperands)
    → unified_as s x y found ≡ Ok m
    → (o : Operands) × (found ≡ Some o) × (record { left = x; operands = o; right = right_by s o (term_of y) } ≡ m)
unified_as_ok s x y None m h = absurd (no_fault _ m h)
unified_as_ok s x y (Some o) m h = (o, refl, same_ok _ m h)

unified_by_ok : (s : OperatorClass) (t u : Term) (a b : ℕ) (m : UnifiedOperands) → is_known t.ty ≡ true
    → is_known u.ty ≡ true
    → unified_by s (placed a t) (placed b u) ≡ Ok m
    → (o : Operands) × (common_operands s t.ty u.ty ≡ Some o)
    × (record { left = placed a t; operands = o; right = right_by s o u } ≡ m)
unified_by_ok s t u a b m known as_value h =
    let as_known : common_operands s (assumed_type s u.ty t.ty) (assumed_type s t.ty u.ty) ≡ common_operands s t.ty u.ty =
    rw (known_assumed s u.ty t.ty known, known_assumed s t.ty u.ty as_value) refl in
    let f = unified_as_ok s (placed a t) (placed b u) (common_operands s t.ty u.ty) m
    (subst (λ found. unified_as s (placed a t) (placed b u) found ≡ Ok m) as_known h) in (
      f.0,
      f.1,
      subst
          (λ (x : Expr). ◌≡◌ {A = UnifiedOperands} (record { left = placed a t; operands = f.0; right = x }) m) (right_is s f.0 b u)
          f.2,
    )

pub unified_ok : (op : BinaryOp) (t u : TypedExpr) (m : UnifiedOperands) → is_known t.ty ≡ true → is_known u.ty ≡ true
    → unify_operands op t u ≡ Ok m
    → (o : Operands) × AreUnified op (term_of t) (term_of u) o
    × (record {
      left = placed t.at (adapted_to (operator_class_of op) (term_of u) (term_of t));
      operands = o;
      right = right_of op o (term_of t) (term_of u);
    } ≡ m)
unfolding unify_operands
unified_ok op t u m known as_value h =
    unified_by_ok (operator_class_of op) (adapted_to (operator_class_of op) (term_of u) (term_of t))
    (adapted_to (operator_class_of op) (term_of t) (term_of u)) t.at u.at m
    (adapted_known (operator_class_of op) (term_of u) (term_of t) known)
    (adapted_known (operator_class_of op) (term_of t) (term_of u) as_value)
    (rw (adapted_is (operator_class_of op) (term_of u) (term_of t) t.at, adapted_is (operator_class_of op) (term_of t) (term_of u) u.at) at
    h)

operate_ok : (op : BinaryOp) (t u r : TypedExpr) → is_known t.ty ≡ true → is_known u.ty ≡ true → operate op t u ≡ Ok r
    → (o : Operands) × AreUnified op (term_of t) (term_of u) o
    × (term (operator_result (operator_class_of op) o)
    (applied op o (left_of op o (term_of t) (term_of u)) (right_of op o (term_of t) (term_of u))) ≡ term_of r)
unfolding operate
operate_ok op t u r known as_value h =
    let m = bind_ok (unify_operands op t u) (λ m. Ok (joined op m)) r h in
    let f = unified_ok op t u m.0 known as_value m.1 in
    (f.0, f.1, ap (λ m. term_of (joined op m)) f.2 ∙ ap term_of (same_ok (joined op m.0) r m.2))

linked_by : {env : Environment} {t u v w : Term} {op : BinaryOp} {e : written.Expr} {ls : written.Links} {o : Operands}
    → HasType env false e u → AreUnified op t u o
    → term (operator_result (operator_class_of op) o) (applied op o (left_of op o t u) (right_of op o t u)) ≡ v
    → LinksHaveType env v ls w
    → LinksHaveType env t (written.link op e ls) w
linked_by {env} {w = w} {ls = ls} d m is rest =
    operated d m (subst (λ (v : Term). LinksHaveType env v ls w) (sym is) rest)

pub one_link : (env : Environment) (t : TypedExpr) (op : BinaryOp) (e : written.Expr) (ls : written.Links) (r : TypedExpr)
    → IsKnown env → is_known t.ty ≡ true → Sound env false e
    → ((v : TypedExpr) → is_known v.ty ≡ true → check_links env v ls ≡ Ok r → LinksHaveType env (term_of v) ls (term_of r))
    → check_links env t (written.link op e ls) ≡ Ok r → LinksHaveType env (term_of t) (written.link op e ls) (term_of r)
one_link env t op e ls r known as_value sound rest h =
    let u = bind_ok (check_expr env false e) (λ operand. operate op t operand >>= λ both. check_links env both ls) r h in
    let both = bind_ok (operate op t u.0) (λ both. check_links env both ls) r u.2 in
    let d = sound u.0 u.1 in
    let o = operate_ok op t u.0 both.0 as_value (known_type d known) both.1 in
    let still = subst (λ (v : Term). is_known v.ty ≡ true) o.2 (operator_result_known (operator_class_of op) o.0) in
    linked_by d o.1 o.2 (rest both.0 still both.2)

-- `c ? a : b`

chosen_ok : (c a b : TypedExpr) (found : Option Ty) (r : TypedExpr) → chosen c a b found ≡ Ok r
    → (of : Ty) × (found ≡ Some of) × (term_at c.at of (Conditional c.tree (coerced of a) (coerced of b)) ≡ r)
chosen_ok c a b None r h = absurd (no_fault _ r h)
chosen_ok c a b (Some of) r h = (of, refl, same_ok _ r h)

pub conditional_sound : (env : Environment) (left : Bool) (p : place.Position) (c a b : written.Expr) (t x y r : TypedExpr)
    → HasType env false c (term_of t) → HasType env false a (term_of x) → HasType env false b (term_of y)
    → is_known t.ty ≡ true → choice t x y ≡ Ok r → HasType env left (written.Conditional p c a b) (term_of r)
unfolding choice
conditional_sound env left p c a b t x y r d f g known h =
    let yes = bind_ok (bool_of t.at t.ty) (λ yes. chosen t x y (common x.ty y.ty)) r h in
    let k = chosen_ok t x y (common x.ty y.ty) r yes.2 in
    subst (λ r. HasType env left (written.Conditional p c a b) (term_of r)) k.2
    (conditional d (bool_ok t.at t.ty yes.0 known yes.1) f g k.1)
