-- What the walk types has that type by the rules, where all types are known.
use Rattle.std.proofs.Common.{◌≡◌, ℕ, List, [], ◌∷◌, map, Bool, true, false, cond, Option, Some, None, Ok, refl, sym}
use Rattle.std.proofs.Common.{subst}
use Rattle.ash_tree.specs.declared.tree.places.Position as place
use Rattle.ash_tree.specs.declared.tree.operators.AssignOp.{AssignOp}
use Rattle.ash_tree.specs.declared.tree.operators.AssignOp.TheVariants as assigns
use Rattle.ash_tree.specs.Tree as written
use Rattle.ash_type_rules.specs.declared.fault.Rule.TheVariants as rules
use Rattle.ash_typed.specs.declared.types.ObjectType.{ObjectType}
use Rattle.ash_type_rules.specs.declared.types.Ty.{Ty}
use Rattle.ash_type_rules.specs.declared.types.Ty.TheVariants as ty
use Rattle.ash_typed.specs.declared.tree.operations.ObjectMember.{ObjectMember}
use Rattle.ash_typed.specs.declared.tree.operations.Calculator.{Calculator}
use Rattle.ash_typed.specs.declared.tree.operations.Operands.{Operands}
use Rattle.ash_typed.specs.declared.tree.operations.Operands.TheVariants as operands
use Rattle.ash_typed.specs.declared.tree.operations.IncrementOp.TheVariants as steps
use Rattle.ash_type_rules.specs.TypingResult.{TypingResult, ◌>>=◌, broken}
use Rattle.ash_type_rules.specs.TypeRules.{var_type, object_of, binary_of, integers_in}
use Rattle.ash_typed.specs.TypedTree.{Truth, Null, Read, Invoke, Assign, Update, Place, Held}
use Rattle.ash_type_rules.specs.ModuleDeclarations.{object_named}
use Rattle.ash_type_rules.specs.Environment.{Environment, ClassSignature, Invoked, variable_in, member_in, method_in}
use Rattle.ash_type_rules.specs.ExpressionRules.{TypedExpr, UnifiedOperands, check_expr, check_exprs, check_links, check_suffixes}
use Rattle.ash_type_rules.specs.ExpressionRules.{check_suffix}
use Rattle.ash_type_rules.specs.ExpressionRules.{check_invocation, arguments_at, coerced_for_assignment, unify_operands}
use Rattle.ash_type_rules.specs.ExpressionRules.{unary_at, integer_of, convert_at}
use Rattle.ash_type_rules.specs.ExpressionRules.{choice, assigned, assigned_to, stored, updated, is_assign, field_of, member_at}
use Rattle.ash_type_rules.specs.ExpressionRules.{method_of, invoked, invoked_at, term_at, read_at, indexed, cast_type, cast_at}
use Rattle.ash_type_rules.specs.ExpressionRules.{placed, term_of}
use Rattle.ash_type_rules.specs.Typing.{IsKnown, is_known, HasType, AllHaveType, LinksHaveType, SuffixesHaveType}
use Rattle.ash_type_rules.specs.Typing.{SuffixHasType, number, truth, null, postfix, binary, assign, update, none_left}
use Rattle.ash_type_rules.specs.Typing.{each, no_more, no_suffixes, suffixed, field, method, index, increment_after}
use Rattle.ash_type_rules.specs.Typing.{decrement_after, AreUnified, right_of}
use Rattle.ash_type_rules.proofs.TypingWords.{no_fault, same_ok, bind_ok, calculated_integers}
use Rattle.ash_type_rules.proofs.TypingKnown.{known_type, suffix_known}
use Rattle.ash_type_rules.proofs.TypingComplete.{terms}
use Rattle.ash_type_rules.specs.Terms.{operator_of, is_stored, assignable, term, number_term}
use Rattle.ash_type_rules.proofs.TypingSoundCalls.{AllSound, Sound, arguments_ok, array_sound, at_ok, brackets_sound}
use Rattle.ash_type_rules.proofs.TypingSoundCalls.{call_sound, cast_sound, cast_type_ok, convert_sound}
use Rattle.ash_type_rules.proofs.TypingSoundCalls.{coerced_for_assignment_ok, index_ok}
use Rattle.ash_type_rules.proofs.TypingSoundCalls.{integer_ok, name_sound, this_sound}
use Rattle.ash_type_rules.proofs.TypingSoundOperators.{conditional_sound, counted_ok, unified_ok, one_link, unary_sound}

-- assignments

assigned_ok : (classes : List ClassSignature) (t u : TypedExpr) (op : AssignOp) (found : Option Place) (r : TypedExpr)
    → assigned_to classes t op u found ≡ Ok r
    → (target : Place) × (found ≡ Some target)
    × ((is_stored t.form t.ty ≡ true) × (stored classes t.at t.ty target (operator_of op) u ≡ Ok r))
assigned_ok classes t u op None r h = absurd (no_fault _ r h)
assigned_ok classes t u op (Some target) r h = go (is_stored t.form t.ty) refl h
  where
    go : (b : Bool) → is_stored t.form t.ty ≡ b
        → cond b (stored classes t.at t.ty target (operator_of op) u) (broken rules.NotAssignable t.at) ≡ Ok r
        → (s : Place) × (Some target ≡ Some s)
        × ((is_stored t.form t.ty ≡ true) × (stored classes t.at t.ty s (operator_of op) u ≡ Ok r))
    go true e h = (target, refl, (e, h))
    go false e h = absurd (no_fault _ r h)

plain_sound : (env : Environment) (left : Bool) (p : place.Position) (e v : written.Expr) (t u r : TypedExpr)
    → HasType env true e (term_of t) → HasType env false v (term_of u)
    → assigned env.declarations.classes t assigns.Assign u ≡ Ok r
    → HasType env left (written.Assign p e assigns.Assign v) (term_of r)
unfolding assigned stored
plain_sound env left p e v t u r d f h =
    let a = assigned_ok env.declarations.classes t u assigns.Assign (assignable t.form t.tree) r h in
    let tree = bind_ok (coerced_for_assignment env.declarations.classes t.ty u) (λ e. Ok (term_at t.at t.ty (Assign a.0 e))) r ((a.2).1) in
    let fit = coerced_for_assignment_ok env.declarations.classes t.ty u tree.0 tree.1 in
    at_ok (λ r. HasType env left (written.Assign p e assigns.Assign v) (term_of r)) (term_at t.at t.ty (Assign a.0 tree.0))
    r tree.2 (rw (← fit.1) (assign d a.1 ((a.2).0) f fit.0))

update_sound : (env : Environment) (left : Bool) (p : place.Position) (op : AssignOp) (c : Calculator) (e v : written.Expr)
    (t u r : TypedExpr) → operator_of op ≡ Some c → HasType env false e (term_of t) → HasType env false v (term_of u)
    → is_known t.ty ≡ true → is_known u.ty ≡ true → assigned env.declarations.classes t op u ≡ Ok r
    → HasType env left (written.Assign p e op v) (term_of r)
unfolding assigned stored
update_sound env left p op c e v t u r is d f known as_value h =
    let a = assigned_ok env.declarations.classes t u op (assignable t.form t.tree) r h in
    let whole : updated t.at t.ty a.0 c u ≡ Ok r =
    subst (λ q. stored env.declarations.classes t.at t.ty a.0 q u ≡ Ok r) is ((a.2).1) in
    let m = bind_ok (unify_operands (binary_of c) (term_at t.at t.ty Null) u)
    (λ m. integer_of t.at t.ty
    >>= λ k. Ok (term_at t.at (ty.Integer k)
    (Update a.0 k (record { operator = c; of = integers_in m.operands }) m.right))) r whole in
    let k = bind_ok (integer_of t.at t.ty)
    (λ k. Ok (term_at t.at (ty.Integer k)
    (Update a.0 k (record { operator = c; of = integers_in (m.0).operands }) (m.0).right))) r m.2 in
    let i = integer_ok t.at t.ty k.0 known k.1 in
    let n = unified_ok (binary_of c) (term_at t.at t.ty Null) u m.0 known as_value m.1 in
    let integers : n.0 ≡ operands.Integers (integers_in n.0) = calculated_integers c _ _ n.0 n.1 in
    let rule = update is d a.1 ((a.2).0) i f
    (subst (λ (o : Operands). AreUnified (binary_of c) (term t.ty Null) (term_of u) o) integers n.1) in
    let back = subst
    (λ (o : Operands).
    HasType env left (written.Assign p e op v)
    (term t.ty (Update a.0 k.0 (record { operator = c; of = integers_in n.0 })
    (right_of (binary_of c) o (term t.ty Null) (term_of u))))) (sym integers) rule in
    let kind = subst
    (λ of. HasType env left (written.Assign p e op v)
    (term of (Update a.0 k.0 (record { operator = c; of = integers_in n.0 })
    (right_of (binary_of c) n.0 (term t.ty Null) (term_of u))))) i back in
    let all = subst
    (λ (m : UnifiedOperands).
    HasType env left (written.Assign p e op v)
    (term (ty.Integer k.0) (Update a.0 k.0 (record { operator = c; of = integers_in m.operands }) m.right))) n.2
    kind in
    at_ok (λ r. HasType env left (written.Assign p e op v) (term_of r))
    (term_at t.at (ty.Integer k.0)
    (Update a.0 k.0 (record { operator = c; of = integers_in (m.0).operands }) (m.0).right)) r k.2 all

assign_sound : (env : Environment) (left : Bool) (p : place.Position) (op : AssignOp) (e v : written.Expr) (t u r : TypedExpr)
    → HasType env (is_assign op) e (term_of t) → HasType env false v (term_of u) → is_known t.ty ≡ true
    → is_known u.ty ≡ true → assigned env.declarations.classes t op u ≡ Ok r
    → HasType env left (written.Assign p e op v) (term_of r)
assign_sound env left p assigns.Assign e v t u r d f known as_value h = plain_sound env left p e v t u r d f h
assign_sound env left p _ e v t u r d f known as_value h =
    update_sound env left p _ _ e v t u r refl d f known as_value h

-- suffixes

member_ok : (t : TypedExpr) (at : ℕ) (found : Option (ObjectMember × Ty)) (r : TypedExpr) → member_at t at found ≡ Ok r
    → (m : ObjectMember × Ty) × (found ≡ Some m) × (read_at t.at m.1 (Read (Held t.tree m.0)) ≡ r)
member_ok t at None r h = absurd (no_fault _ r h)
member_ok t at (Some m) r h = (m, refl, same_ok _ r h)

field_ok : (env : Environment) (t : TypedExpr) (of : Ty) (at : ℕ) (text : List ℕ) (r : TypedExpr) → is_known of ≡ true
    → field_of env t of at text ≡ Ok r
    → (o : ObjectType) × (object_of of ≡ Some o)
    × ((m : ObjectMember × Ty) × (member_in env o text ≡ Some m) × (read_at t.at m.1 (Read (Held t.tree m.0)) ≡ r))
unfolding field_of
field_ok env t (ty.Object o) at text r known h = (o, refl, member_ok t at (member_in env o text) r h)
field_ok env t (ty.Handle o) at text r known h = (o, refl, member_ok t at (member_in env o text) r h)
field_ok env t ty.Unknown at text r known h = cc
field_ok env t _ at text r known h = absurd (no_fault _ r h)

invoked_ok : (at : ℕ) (found : Option Invoked) (m : Option Invoked) → invoked_at at found ≡ Ok m
    → (i : Invoked) × (found ≡ Some i) × (Some i ≡ m)
invoked_ok at None m h = absurd (no_fault _ m h)
invoked_ok at (Some i) m h = (i, refl, same_ok _ m h)

method_ok : (env : Environment) (t : TypedExpr) (of : Ty) (at : ℕ) (text : List ℕ) (m : Option Invoked) → is_known of ≡ true
    → method_of env t of at text ≡ Ok m
    → (o : ObjectType) × (object_of of ≡ Some o) × ((i : Invoked) × (method_in env o text ≡ Some i) × (Some i ≡ m))
unfolding method_of
method_ok env t (ty.Object o) at text m known h = (o, refl, invoked_ok at (method_in env o text) m h)
method_ok env t (ty.Handle o) at text m known h = (o, refl, invoked_ok at (method_in env o text) m h)
method_ok env t ty.Unknown at text m known h = cc
method_ok env t _ at text m known h = absurd (no_fault _ m h)

method_sound : (env : Environment) (t : TypedExpr) (p : place.Position) (text : List ℕ) (es : written.Exprs) (r : TypedExpr)
    → is_known t.ty ≡ true → AllSound env es → check_invocation env t p.at text (check_exprs env es) ≡ Ok r
    → SuffixHasType env (term_of t) (written.Method p text es) (term_of r)
unfolding invoked
method_sound env t p text es r known all h =
    let m = bind_ok (method_of env t t.ty p.at text)
    (λ m. check_exprs env es >>= λ ts. invoked env.declarations.classes t p.at ts m) r h in
    let i = method_ok env t t.ty p.at text m.0 known m.1 in
    let a = bind_ok (check_exprs env es) (λ ts. invoked env.declarations.classes t p.at ts m.0) r m.2 in
    let found = (i.2).0 in
    let called : invoked env.declarations.classes t p.at a.0 (Some found) ≡ Ok r =
    subst (λ m. invoked env.declarations.classes t p.at a.0 m ≡ Ok r) (sym ((i.2).2)) a.2 in
    let b = bind_ok (arguments_at env.declarations.classes p.at found.parameters a.0)
    (λ es. Ok (term_at t.at found.result (Invoke t.tree found.method (map var_type found.parameters) es))) r called in
    at_ok (λ r. SuffixHasType env (term_of t) (written.Method p text es) (term_of r))
    (term_at t.at found.result (Invoke t.tree found.method (map var_type found.parameters) b.0)) r b.2
    (method i.1 ((i.2).1) (all a.0 a.1) (arguments_ok env.declarations.classes p.at found.parameters a.0 b.0 b.1))

-- the walk

-- an expression that is walked first
walked : (env : Environment) (left : Bool) (e : written.Expr) (f : TypedExpr → TypingResult TypedExpr) (r : TypedExpr) (Q : Type 0)
    → IsKnown env → Sound env left e → (check_expr env left e >>= f) ≡ Ok r
    → ((u : TypedExpr) → HasType env left e (term_of u) → is_known u.ty ≡ true → f u ≡ Ok r → Q) → Q
walked env left e f r Q known sound h go =
    let u = bind_ok (check_expr env left e) f r h in
    let d = sound u.0 u.1 in
    go u.0 d (known_type d known) u.2

mutual
  pub sound : (env : Environment) → IsKnown env → (left : Bool) (e : written.Expr) → Sound env left e
  sound env known left (written.Number p n) r h =
      at_ok (λ r. HasType env left (written.Number p n) (term_of r)) (placed p.at (number_term n)) r h number
  sound env known left (written.Truth p b) r h =
      at_ok (λ r. HasType env left (written.Truth p b) (term_of r)) (term_at p.at ty.Bool (Truth b)) r h truth
  sound env known left (written.Null p) r h =
      at_ok (λ r. HasType env left (written.Null p) (term_of r)) (term_at p.at ty.Null Null) r h null
  sound env known left (written.This p) r h = this_sound env left p env.this r refl h
  sound env known left (written.Name p text) r h = name_sound env left p text (variable_in env text) r refl h
  sound env known left (written.Call p text es) r h = call_sound env left p text es r (all_sound env known es) h
  sound env known left (written.Brackets p e) r h = brackets_sound env left p e r (sound env known false e) h
  sound env known left (written.Convert p to e) r h =
      walked env false e
      (λ t. convert_at p.at to t) r (HasType env left (written.Convert p to e) (term_of r)) known
      (sound env known false e) h (λ u d k g. convert_sound env left p to e u r d k g)
  sound env known left (written.NewArray p of es) r h = array_sound env left p of es r (all_sound env known es) h
  sound env known left (written.Cast p to e) r h =
      let o = bind_ok (cast_type to.place.at (object_named env.registered env.declarations to.name))
      (λ o. check_expr env false e >>= λ t. cast_at p.at o t) r h in
      let c = cast_type_ok to.place.at (object_named env.registered env.declarations to.name) o.0 o.1 in
      walked env false e
      (λ t. cast_at p.at o.0 t) r (HasType env left (written.Cast p to e) (term_of r)) known
      (sound env known false e) o.2 (λ u d k g. cast_sound env left p to e o.0 u r c.0 c.1 d k g)
  sound env known left (written.Postfix p e ss) r h =
      walked env false e
      (λ t. check_suffixes env t ss) r (HasType env left (written.Postfix p e ss) (term_of r)) known
      (sound env known false e) h (λ u d k g. postfix d (suffixes_sound env known ss u r k g))
  sound env known left (written.Unary p op e) r h =
      walked env false e
      (λ t. unary_at left p.at op t) r (HasType env left (written.Unary p op e) (term_of r)) known
      (sound env known false e) h (λ u d k g. unary_sound env left p op e u r d k g)
  sound env known left (written.Binary p e ls) r h =
      walked env false e
      (λ t. check_links env t ls) r (HasType env left (written.Binary p e ls) (term_of r)) known
      (sound env known false e) h (λ u d k g. binary d (links_sound env known ls u r k g))
  sound env known left (written.Conditional p c a b) r h =
      let Q : Type 0 = HasType env left (written.Conditional p c a b) (term_of r) in
      walked env false c
      (λ t. check_expr env false a >>= λ x. check_expr env false b >>= λ y. choice t x y) r Q known (sound env known false c)
      h (λ t d k g.
      walked env false a (λ x. check_expr env false b >>= λ y. choice t x y) r Q known (sound env known false a) g
      (λ x f l i.
      walked env false b (λ y. choice t x y) r Q known (sound env known false b) i (λ y j m n.
      conditional_sound env left p c a b t x y r d f j k n)))
  sound env known left (written.Assign p e op v) r h =
      let Q : Type 0 = HasType env left (written.Assign p e op v) (term_of r) in
      walked env (is_assign op) e
      (λ target. check_expr env false v >>= λ value. assigned env.declarations.classes target op value) r Q known
      (sound env known (is_assign op) e) h (λ t d k g.
      walked env false v
      (λ value. assigned env.declarations.classes t op value) r Q known (sound env known false v) g (λ u f l i.
      assign_sound env left p op e v t u r d f k l i))

  pub all_sound : (env : Environment) → IsKnown env → (es : written.Exprs) → AllSound env es
  all_sound env known written.no_expr us h = at_ok (λ us. AllHaveType env written.no_expr (terms us)) [] us h none_left
  all_sound env known (written.expr e es) us h =
      let t = bind_ok (check_expr env false e) (λ t. check_exprs env es >>= λ ts. Ok (t ∷ ts)) us h in
      let ts = bind_ok (check_exprs env es) (λ ts. Ok (t.0 ∷ ts)) us t.2 in
      at_ok (λ us. AllHaveType env (written.expr e es) (terms us)) (t.0 ∷ ts.0) us ts.2
      (each (sound env known false e t.0 t.1) (all_sound env known es ts.0 ts.1))

  links_sound : (env : Environment) → IsKnown env → (ls : written.Links) (t r : TypedExpr) → is_known t.ty ≡ true
      → check_links env t ls ≡ Ok r → LinksHaveType env (term_of t) ls (term_of r)
  links_sound env known written.no_link t r as_value h =
      at_ok (λ r. LinksHaveType env (term_of t) written.no_link (term_of r)) t r h no_more
  links_sound env known (written.link op e ls) t r as_value h =
      one_link env t op e ls r known as_value (sound env known false e) (λ v k g. links_sound env known ls v r k g) h

  suffixes_sound : (env : Environment) → IsKnown env → (ss : written.Suffixes) (t r : TypedExpr) → is_known t.ty ≡ true
      → check_suffixes env t ss ≡ Ok r → SuffixesHaveType env (term_of t) ss (term_of r)
  suffixes_sound env known written.no_suffix t r as_value h =
      at_ok (λ r. SuffixesHaveType env (term_of t) written.no_suffix (term_of r)) t r h no_suffixes
  suffixes_sound env known (written.suffix s ss) t r as_value h =
      let next = bind_ok (check_suffix env t s) (λ next. check_suffixes env next ss) r h in
      let d = suffix_sound env known s t next.0 as_value next.1 in
      suffixed d (suffixes_sound env known ss next.0 r (suffix_known d known) next.2)

  suffix_sound : (env : Environment) → IsKnown env → (s : written.Suffix) (t r : TypedExpr) → is_known t.ty ≡ true
      → check_suffix env t s ≡ Ok r → SuffixHasType env (term_of t) s (term_of r)
  suffix_sound env known (written.Field p text) t r as_value h =
      let f = field_ok env t t.ty p.at text r as_value h in
      subst (λ r. SuffixHasType env (term_of t) (written.Field p text) (term_of r)) (((f.2).2)) (field f.1 ((f.2).1))
  suffix_sound env known (written.Method p text es) t r as_value h =
      method_sound env t p text es r as_value (all_sound env known es) h
  suffix_sound env known (written.Index e) t r as_value h =
      walked env false e
      (λ i. indexed t t.ty i) r (SuffixHasType env (term_of t) (written.Index e) (term_of r)) known
      (sound env known false e) h (λ u d k g. let x = index_ok t u t.ty r as_value k g in
      subst (λ r. SuffixHasType env (term_of t) (written.Index e) (term_of r)) ((x.2).2) (index x.1 d ((x.2).1)))
  suffix_sound env known written.Increment t r as_value h =
      let c = counted_ok t.at steps.IncrementAfter t (assignable t.form t.tree) r as_value h in
      subst (λ r. SuffixHasType env (term_of t) written.Increment (term_of r)) ((c.2).2) (increment_after c.1 ((c.2).1))
  suffix_sound env known written.Decrement t r as_value h =
      let c = counted_ok t.at steps.DecrementAfter t (assignable t.form t.tree) r as_value h in
      subst (λ r. SuffixHasType env (term_of t) written.Decrement (term_of r)) ((c.2).2) (decrement_after c.1 ((c.2).1))
