-- What has a type by the rules is typed by the walk.
use Rattle.std.proofs.lemmas.Option.{none-some, same_Some}
use Rattle.std.proofs.lemmas.Bool.{eq-eqb}
use Rattle.std.proofs.lemmas.List.{length-map}
use Rattle.std.proofs.Common.{◌≡◌, ℕ, suc, List, [], ◌∷◌, map, length, Bool, true, false, Some, Ok, refl, ap, ◌∙◌}
use Rattle.ash_tree.specs.declared.tree.types.Primitive.{Primitive}
use Rattle.ash_tree.specs.declared.tree.operators.UnaryOp.TheVariants as unary
use Rattle.ash_tree.specs.declared.tree.operators.BinaryOp.{BinaryOp}
use Rattle.ash_tree.specs.declared.tree.operators.AssignOp.{AssignOp}
use Rattle.ash_tree.specs.declared.tree.operators.AssignOp.TheVariants as assigns
use Rattle.ash_tree.specs.Tree as written
use Rattle.ash_integers.specs.declared.int_type.IntType.TheVariants as ints
use Rattle.ash_typed.specs.declared.types.Element.{Element}
use Rattle.ash_typed.specs.declared.types.ObjectType.TheVariants as objects
use Rattle.ash_typed.specs.declared.tree.operations.CallTarget.TheVariants as targets
use Rattle.ash_integers.specs.declared.int_type.IntType.{IntType}
use Rattle.ash_typed.specs.declared.types.ObjectType.{ObjectType}
use Rattle.ash_type_rules.specs.declared.types.Ty.{Ty}
use Rattle.ash_type_rules.specs.declared.types.Ty.TheVariants as ty
use Rattle.ash_type_rules.specs.declared.forms.Form.{Form}
use Rattle.ash_typed.specs.declared.tree.operations.Change.TheVariants as changes
use Rattle.ash_typed.specs.declared.tree.operations.ObjectMember.{ObjectMember}
use Rattle.ash_typed.specs.declared.tree.operations.Calculator.{Calculator}
use Rattle.ash_typed.specs.declared.tree.operations.Operands.{Operands}
use Rattle.ash_typed.specs.declared.tree.operations.Operands.TheVariants as operands
use Rattle.ash_typed.specs.declared.tree.operations.IncrementOp.{IncrementOp}
use Rattle.ash_typed.specs.declared.tree.operations.IncrementOp.TheVariants as steps
use Rattle.ash_type_rules.specs.TypeRules.{var_type, signed, common, object_of, ty_of, ty_of_element, operator_class_of}
use Rattle.ash_type_rules.specs.TypeRules.{operator_result}
use Rattle.ash_type_rules.specs.TypeRules.{binary_of}
use Rattle.ash_typed.specs.TypedTree.{Expr, Exprs, Null, Read, Invoke, Cast, Alter, Conditional, Assign, Update, Count, Call}
use Rattle.ash_typed.specs.TypedTree.{Place, Held, Indexed, no_expr, expr}
use Rattle.ash_type_rules.specs.Coercions.{fits}
use Rattle.ash_type_rules.specs.ModuleDeclarations.{element_named}
use Rattle.ash_type_rules.specs.Environment.{Environment, ClassSignature, Callee, Invoked, callee_in, member_in, method_in}
use Rattle.ash_type_rules.specs.ExpressionRules.{TypedExpr, check_expr, check_exprs, check_links, check_suffixes, check_suffix, check_call}
use Rattle.ash_type_rules.specs.ExpressionRules.{check_invocation, called, arguments_at, all_coerced, coerced_for_assignment}
use Rattle.ash_type_rules.specs.ExpressionRules.{operate, counted}
use Rattle.ash_type_rules.specs.ExpressionRules.{unary_at, convert_at, choice, assigned, stored, is_assign, field_of, method_of}
use Rattle.ash_type_rules.specs.ExpressionRules.{invoked, term_at, read_at, indexed, check_array, cast_type, cast_at, placed}
use Rattle.ash_type_rules.specs.ExpressionRules.{all_placed, term_of, first_at}
use Rattle.ash_type_rules.specs.Typing.{HasType, AllHaveType, LinksHaveType, SuffixesHaveType, SuffixHasType, AreTypedArguments}
use Rattle.ash_type_rules.specs.Typing.{no_arguments, argument, IsCastType, to_class, to_interface, number, truth, null}
use Rattle.ash_type_rules.specs.Typing.{this, name, call, brackets, to_integer, to_bool, new_array, cast, postfix, plus}
use Rattle.ash_type_rules.specs.Typing.{minus, complement, not, increment, decrement, handle, handle_written, binary}
use Rattle.ash_type_rules.specs.Typing.{conditional, assign, update, none_left, each, no_more, operated, no_suffixes}
use Rattle.ash_type_rules.specs.Typing.{suffixed, field, method, index, increment_after, decrement_after, AreUnified, left_of}
use Rattle.ash_type_rules.specs.Typing.{right_of}
use Rattle.ash_type_rules.proofs.TypingWords.{same_integer_type, unified_is}
use Rattle.ash_type_rules.specs.Terms.{operator_of, is_stored, applied, call_of, assignable, handle_form, array_parameters}
use Rattle.ash_type_rules.specs.Terms.{Term, term, read_term, converted_to}

-- arguments

length_is : {classes : List ClassSignature} {parameters : List Ty} {ts : List Term} {trees : Exprs}
    → AreTypedArguments classes parameters ts trees → length parameters ≡ length ts
length_is no_arguments = refl
length_is (argument h rest) = ap suc (length_is rest)

pub coerced_for_assignment_is : (classes : List ClassSignature) (of : Ty) (at : ℕ) (t : Term) → fits classes of t.ty ≡ true
    → coerced_for_assignment classes of (placed at t) ≡ Ok (converted_to of t)
unfolding coerced_for_assignment
coerced_for_assignment_is classes of at t h = rw h refl

abbrev pub terms : List TypedExpr → List Term
terms = map term_of

out_first : {classes : List ClassSignature} {of : Ty} {t : Term} {parameters : List Ty} {ts : List Term} {trees : Exprs}
    → AreTypedArguments classes (of ∷ parameters) (t ∷ ts) trees
    → (fits classes of t.ty ≡ true)
    × ((rest : Exprs) × AreTypedArguments classes parameters ts rest × (expr (converted_to of t) rest ≡ trees))
out_first (argument h rest) = (h, (_, rest, refl))

out_none : {classes : List ClassSignature} {trees : Exprs} → AreTypedArguments classes [] [] trees → no_expr ≡ trees
out_none no_arguments = refl

all_coerced_is : (classes : List ClassSignature) (parameters : List Ty) (us : List TypedExpr) (trees : Exprs)
    → AreTypedArguments classes parameters (terms us) trees → all_coerced classes parameters us ≡ Ok trees
all_coerced_is classes [] [] trees h = ap Ok (out_none h)
all_coerced_is classes [] (u ∷ us) trees h = elim h [ ]
all_coerced_is classes (of ∷ parameters) [] trees h = elim h [ ]
all_coerced_is classes (of ∷ parameters) (u ∷ us) trees h =
    let o = out_first h in
    rw (coerced_for_assignment_is classes of u.at (term_of u) o.0, all_coerced_is classes parameters us (o.1).0 (o.1).1, (o.1).2) refl

pub arguments_is : (classes : List ClassSignature) (at : ℕ) (parameters : List Ty) (us : List TypedExpr) (trees : Exprs)
    → AreTypedArguments classes parameters (terms us) trees → arguments_at classes at parameters us ≡ Ok trees
unfolding arguments_at
arguments_is classes at parameters us trees h =
    rw (eq-eqb (length parameters) (length us) (length_is h ∙ length-map us term_of))
    (all_coerced_is classes parameters us trees h)

-- phrases

call_is : (env : Environment) (at : ℕ) (text : List ℕ) (es : written.Exprs) (callee : Callee) (parameters : List Ty)
    (us : List TypedExpr) (trees : Exprs) → callee_in env text ≡ Some callee → callee.parameters ≡ Some parameters
    → check_exprs env es ≡ Ok us → AreTypedArguments env.declarations.classes parameters (terms us) trees
    → check_call env at text (check_exprs env es)
    ≡ Ok (term_at at callee.result (call_of callee.target (map var_type parameters) trees))
unfolding called
call_is env at text es callee parameters us trees c p e a =
    rw (c, e, p, arguments_is env.declarations.classes at parameters us trees a) refl

integer_is : (env : Environment) (e : written.Expr) (at : ℕ) (to : Primitive) (t : Term) (j k : IntType)
    → ty_of to ≡ ty.Integer k → t.ty ≡ ty.Integer j
    → convert_at at to (placed (first_at e) t) ≡ Ok (placed at (term (ty.Integer k) (converted_to (ty.Integer k) t)))
unfolding convert_at
integer_is env e at to t j k h i = rw (h, i) refl

bool_is : (at b : ℕ) (to : Primitive) (t : Term) → ty_of to ≡ ty.Bool → t.ty ≡ ty.Bool
    → convert_at at to (placed b t) ≡ Ok (placed at (term ty.Bool t.tree))
unfolding convert_at
bool_is at b to t h i = rw (h, i) refl

plus_is : (left : Bool) (at b : ℕ) (t : Term) (k : IntType) → t.ty ≡ ty.Integer k
    → unary_at left at unary.Plus (placed b t) ≡ Ok (placed at (term (ty.Integer k) t.tree))
unfolding unary_at
plus_is left at b t k h = rw (h, same_integer_type k) refl

minus_is : (left : Bool) (at b : ℕ) (t : Term) (k : IntType) → t.ty ≡ ty.Integer k
    → unary_at left at unary.Minus (placed b t)
    ≡ Ok (placed at
    (term (ty.Integer (signed k)) (Alter (changes.Negate (signed k)) (converted_to (ty.Integer (signed k)) t))))
unfolding unary_at
minus_is left at b t k h = rw h refl

complement_is : (left : Bool) (at b : ℕ) (t : Term) (k : IntType) → t.ty ≡ ty.Integer k
    → unary_at left at unary.BitNot (placed b t)
    ≡ Ok (placed at (term (ty.Integer k) (Alter (changes.Complement k) t.tree)))
unfolding unary_at
complement_is left at b t k h = rw (h, same_integer_type k) refl

not_is : (left : Bool) (at b : ℕ) (t : Term) → t.ty ≡ ty.Bool
    → unary_at left at unary.Not (placed b t) ≡ Ok (placed at (term ty.Bool (Alter changes.Not t.tree)))
unfolding unary_at
not_is left at b t h = rw h refl

counted_is : (at b : ℕ) (step : IncrementOp) (t : Term) (target : Place) (k : IntType) → assignable t.form t.tree ≡ Some target
    → t.ty ≡ ty.Integer k
    → counted at step (placed b t) (assignable t.form t.tree)
    ≡ Ok (placed at (term (ty.Integer k) (Count target k step)))
unfolding counted
counted_is at b step t target k h i = rw (h, i) refl

increment_is : (left : Bool) (at b : ℕ) (t : Term) (target : Place) (k : IntType)
    → assignable t.form t.tree ≡ Some target → t.ty ≡ ty.Integer k
    → unary_at left at unary.Increment (placed b t)
    ≡ Ok (placed at (term (ty.Integer k) (Count target k steps.Increment)))
unfolding unary_at
increment_is left at b t target k h i = counted_is at b steps.Increment t target k h i

decrement_is : (left : Bool) (at b : ℕ) (t : Term) (target : Place) (k : IntType)
    → assignable t.form t.tree ≡ Some target → t.ty ≡ ty.Integer k
    → unary_at left at unary.Decrement (placed b t)
    ≡ Ok (placed at (term (ty.Integer k) (Count target k steps.Decrement)))
unfolding unary_at
decrement_is left at b t target k h i = counted_is at b steps.Decrement t target k h i

handle_is : (at b : ℕ) (of : Ty) (a : Form) (tree : Expr) (o : ObjectType) → object_of of ≡ Some o
    → unary_at false at unary.Handle (record { at = b; ty = of; form = a; tree = tree })
    ≡ Ok (placed at (term (ty.Handle o) tree))
unfolding unary_at
handle_is at b (ty.Object p) a tree o h = rw (same_Some p o h) refl
handle_is at b (ty.Handle p) a tree o h = rw (same_Some p o h) refl
handle_is at b _ a tree o h = absurd (none-some o h)

handle_written_is : (at b : ℕ) (t : Term)
    → unary_at true at unary.Handle (placed b t)
    ≡ Ok (placed at (record { ty = t.ty; form = handle_form t.form; tree = t.tree }))
unfolding unary_at
handle_written_is at b t = refl

operate_is : (op : BinaryOp) (t u : Term) (o : Operands) (a b : ℕ) → AreUnified op t u o
    → operate op (placed a t) (placed b u)
    ≡ Ok (placed a (term (operator_result (operator_class_of op) o) (applied op o (left_of op o t u) (right_of op o t u))))
unfolding operate
operate_is op t u o a b h = rw (unified_is op t u o a b h) refl

choice_is : (t x y : Term) (a b c : ℕ) (of : Ty) → t.ty ≡ ty.Bool → common x.ty y.ty ≡ Some of
    → choice (placed a t) (placed b x) (placed c y)
    ≡ Ok (placed a (term of (Conditional t.tree (converted_to of x) (converted_to of y))))
unfolding choice
choice_is t x y a b c of h i = rw (h, i) refl

assign_is : (classes : List ClassSignature) (t u : Term) (a b : ℕ) (target : Place) → assignable t.form t.tree ≡ Some target
    → is_stored t.form t.ty ≡ true → fits classes t.ty u.ty ≡ true
    → assigned classes (placed a t) assigns.Assign (placed b u)
    ≡ Ok (placed a (term t.ty (Assign target (converted_to t.ty u))))
unfolding assigned stored
assign_is classes t u a b target p s h = rw (p, s, coerced_for_assignment_is classes t.ty b u h) refl

update_is : (classes : List ClassSignature) (op : AssignOp) (c : Calculator) (t u : Term) (a b : ℕ) (target : Place)
    (j k : IntType)
    → operator_of op ≡ Some c → assignable t.form t.tree ≡ Some target → is_stored t.form t.ty ≡ true
    → t.ty ≡ ty.Integer k → AreUnified (binary_of c) (term t.ty Null) u (operands.Integers j)
    → assigned classes (placed a t) op (placed b u)
    ≡ Ok (placed a
    (term t.ty (Update target k (record { operator = c; of = j })
    (right_of (binary_of c) (operands.Integers j) (term t.ty Null) u))))
unfolding assigned stored
update_is classes op c t u a b target j k e p s i m =
    rw (p, s, e, unified_is (binary_of c) (term t.ty Null) u (operands.Integers j) a b m, i) refl

updates : (op : AssignOp) (operator : Calculator) → operator_of op ≡ Some operator → is_assign op ≡ false
updates assigns.Assign operator h = absurd (none-some operator h)
updates _ operator h = refl

object_field : (env : Environment) (at : ℕ) (t : TypedExpr) (of : Ty) (text : List ℕ) (o : ObjectType) (found : ObjectMember × Ty)
    → object_of of ≡ Some o → member_in env o text ≡ Some found
    → field_of env t of at text ≡ Ok (read_at t.at found.1 (Read (Held t.tree found.0)))
unfolding field_of
object_field env at t (ty.Object p) text o found h m = rw (same_Some p o h, m) refl
object_field env at t (ty.Handle p) text o found h m = rw (same_Some p o h, m) refl
object_field env at t _ text o found h m = absurd (none-some o h)

object_method : (env : Environment) (at : ℕ) (t : TypedExpr) (of : Ty) (text : List ℕ) (o : ObjectType) (m : Invoked)
    → object_of of ≡ Some o → method_in env o text ≡ Some m → method_of env t of at text ≡ Ok (Some m)
unfolding method_of
object_method env at t (ty.Object p) text o m h i = rw (same_Some p o h, i) refl
object_method env at t (ty.Handle p) text o m h i = rw (same_Some p o h, i) refl
object_method env at t _ text o m h i = absurd (none-some o h)

method_is : (env : Environment) (at b : ℕ) (t : Term) (text : List ℕ) (es : written.Exprs) (o : ObjectType)
    (m : Invoked) (us : List TypedExpr) (trees : Exprs) → object_of t.ty ≡ Some o → method_in env o text ≡ Some m
    → check_exprs env es ≡ Ok us → AreTypedArguments env.declarations.classes m.parameters (terms us) trees
    → check_invocation env (placed b t) at text (check_exprs env es)
    ≡ Ok (placed b (term m.result (Invoke t.tree m.method (map var_type m.parameters) trees)))
unfolding invoked
method_is env at b t text es o m us trees h i e a =
    rw (
      object_method env at (placed b t) t.ty text o m h i,
      e,
      arguments_is env.declarations.classes at m.parameters us trees a,
    ) refl

-- arrays and handles

array_is : (env : Environment) (at : ℕ) (of : written.Element) (es : written.Exprs) (elements : Element)
    (us : List TypedExpr) (count : ℕ) (trees : Exprs) → element_named env.registered env.declarations of ≡ Some elements
    → check_exprs env es ≡ Ok us → length us ≡ count
    → AreTypedArguments env.declarations.classes (array_parameters count) (terms us) trees
    → check_array env at of (check_exprs env es)
    ≡ Ok (term_at at (ty.Handle (objects.Array elements))
    (Call (targets.Array elements) (map var_type (array_parameters count)) trees))
unfolding called
array_is env at of es elements us count trees n e c a =
    rw (n, e, c, arguments_is env.declarations.classes at (array_parameters count) us trees a) refl

cast_type_is : {o : ObjectType} (at : ℕ) → IsCastType o → cast_type at (Some o) ≡ Ok o
cast_type_is at to_class = refl
cast_type_is at to_interface = refl

cast_is : (at b : ℕ) (to : ObjectType) (of : Ty) (a : Form) (tree : Expr) (o : ObjectType) → object_of of ≡ Some o
    → cast_at at to (record { at = b; ty = of; form = a; tree = tree })
    ≡ Ok (placed at (term (ty.Handle to) (Cast to tree)))
unfolding cast_at
cast_is at b to (ty.Object p) a tree o h = refl
cast_is at b to (ty.Handle p) a tree o h = refl
cast_is at b to _ a tree o h = absurd (none-some o h)

index_is : (at b : ℕ) (t u : Term) (of : Ty) (elements : Element) (k : IntType)
    → object_of of ≡ Some (objects.Array elements) → u.ty ≡ ty.Integer k
    → indexed (placed at t) of (placed b u)
    ≡ Ok (placed at
    (read_term (ty_of_element elements) (Read (Indexed t.tree (converted_to (ty.Integer ints.Uint) u) elements))))
unfolding indexed
index_is at b t u (ty.Object p) elements k h i = rw (same_Some p (objects.Array elements) h, i) refl
index_is at b t u (ty.Handle p) elements k h i = rw (same_Some p (objects.Array elements) h, i) refl
index_is at b t u _ elements k h i = absurd (none-some (objects.Array elements) h)

pub placed_count : {env : Environment} {es : written.Exprs} {ts : List Term} → AllHaveType env es ts
    → length (all_placed es ts) ≡ length ts
placed_count none_left = refl
placed_count (each h rest) = ap suc (placed_count rest)

pub all_terms : {env : Environment} {es : written.Exprs} {ts : List Term} → AllHaveType env es ts
    → terms (all_placed es ts) ≡ ts
all_terms none_left = refl
all_terms (each {t = t} h rest) = ap (t ∷◌) (all_terms rest)

mutual
  pub complete : {env : Environment} {left : Bool} {e : written.Expr} {t : Term} → HasType env left e t
      → check_expr env left e ≡ Ok (placed (first_at e) t)
  complete number = refl
  complete truth = refl
  complete null = refl
  complete (this h) = rw h refl
  complete (name h) = rw h refl
  complete {env}
      (call {p = p} {text = text} {es = es} {callee = callee} {parameters = parameters} {ts = ts} {trees = trees} c q
      all args) = call_is env p.at text es callee parameters (all_placed es ts) trees c q (all_complete all)
      (rw (all_terms all) args)
  complete (brackets h) = rw (complete h) refl
  complete {env} {left} (to_integer {p = p} {to = to} {e = e} {t = t} {j = j} {k = k} h i l) =
      rw (complete h) (integer_is env e p.at to t j k i l)
  complete (to_bool {p = p} {to = to} {e = e} {t = t} h i l) = rw (complete h) (bool_is p.at (first_at e) to t i l)
  complete {env} (new_array {p = p} {of = of} {es = es} {elements = elements} {ts = ts} {trees = trees} n all args) =
      array_is env p.at of es elements (all_placed es ts) (length ts) trees n (all_complete all) (placed_count all)
      (rw (all_terms all) args)
  complete (cast {p = p} {to = to} {e = e} {t = t} {o = o} {from = from} n c h i) =
      rw (n, cast_type_is to.place.at c, complete h) (cast_is p.at (first_at e) o t.ty t.form t.tree from i)
  complete (postfix {e = e} h ss) = rw (complete h) (suffixes_complete ss (first_at e))
  complete {left = left} (plus {p = p} {e = e} {t = t} {k = k} h i) =
      rw (complete h) (plus_is left p.at (first_at e) t k i)
  complete {left = left} (minus {p = p} {e = e} {t = t} {k = k} h i) =
      rw (complete h) (minus_is left p.at (first_at e) t k i)
  complete {left = left} (complement {p = p} {e = e} {t = t} {k = k} h i) =
      rw (complete h) (complement_is left p.at (first_at e) t k i)
  complete {left = left} (not {p = p} {e = e} {t = t} h i) = rw (complete h) (not_is left p.at (first_at e) t i)
  complete {left = left} (increment {p = p} {e = e} {t = t} {at = at} {k = k} h i l) =
      rw (complete h) (increment_is left p.at (first_at e) t at k i l)
  complete {left = left} (decrement {p = p} {e = e} {t = t} {at = at} {k = k} h i l) =
      rw (complete h) (decrement_is left p.at (first_at e) t at k i l)
  complete (handle {p = p} {e = e} {t = t} {o = o} h i) =
      rw (complete h) (handle_is p.at (first_at e) t.ty t.form t.tree o i)
  complete (handle_written {p = p} {e = e} {t = t} h) = rw (complete h) (handle_written_is p.at (first_at e) t)
  complete (binary {e = e} h ls) = rw (complete h) (links_complete ls (first_at e))
  complete (conditional {c = c} {a = a} {b = b} {t = t} {x = x} {y = y} {of = of} h i k l m) =
      rw (complete h, complete k, complete l) (choice_is t x y (first_at c) (first_at a) (first_at b) of i m)
  complete {env} (assign {e = e} {v = v} {t = t} {u = u} {at = at} h i s k l) =
      rw (complete h, complete k) (assign_is env.declarations.classes t u (first_at e) (first_at v) at i s l)
  complete {env} (update {op = op} {c = c} {e = e} {v = v} {t = t} {u = u} {at = at} {j = j} {k = k} f h i s l m n) =
      rw (updates op c f, complete h, complete m)
      (update_is env.declarations.classes op c t u (first_at e) (first_at v) at j k f i s l n)

  pub all_complete : {env : Environment} {es : written.Exprs} {ts : List Term} → AllHaveType env es ts
      → check_exprs env es ≡ Ok (all_placed es ts)
  all_complete none_left = refl
  all_complete (each h rest) = rw (complete h, all_complete rest) refl

  pub links_complete : {env : Environment} {t : Term} {ls : written.Links} {u : Term} → LinksHaveType env t ls u
      → (at : ℕ) → check_links env (placed at t) ls ≡ Ok (placed at u)
  links_complete no_more at = refl
  links_complete (operated {op = op} {e = e} {t = t} {u = u} {o = o} h m rest) at =
      rw (complete h, operate_is op t u o at (first_at e) m) (links_complete rest at)

  pub suffixes_complete : {env : Environment} {t : Term} {ss : written.Suffixes} {u : Term}
      → SuffixesHaveType env t ss u → (at : ℕ) → check_suffixes env (placed at t) ss ≡ Ok (placed at u)
  suffixes_complete no_suffixes at = refl
  suffixes_complete (suffixed h rest) at = rw (suffix_complete h at) (suffixes_complete rest at)

  pub suffix_complete : {env : Environment} {t : Term} {s : written.Suffix} {u : Term} → SuffixHasType env t s u
      → (at : ℕ) → check_suffix env (placed at t) s ≡ Ok (placed at u)
  suffix_complete {env} (field {p = p} {text = text} {t = t} {o = o} {found = found} h i) at =
      object_field env p.at (placed at t) t.ty text o found h i
  suffix_complete {env}
      (method {p = p} {text = text} {es = es} {t = t} {o = o} {m = m} {ts = ts} {trees = trees} h i all args) at =
      method_is env p.at at t text es o m (all_placed es ts) trees h i (all_complete all) (rw (all_terms all) args)
  suffix_complete (index {e = e} {t = t} {u = u} {elements = elements} {k = k} h d i) at =
      rw (complete d) (index_is at (first_at e) t u t.ty elements k h i)
  suffix_complete (increment_after {t = t} {at = place} {k = k} h i) at =
      counted_is at at steps.IncrementAfter t place k h i
  suffix_complete (decrement_after {t = t} {at = place} {k = k} h i) at =
      counted_is at at steps.DecrementAfter t place k h i
