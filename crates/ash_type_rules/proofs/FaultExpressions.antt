-- The walk over an expression answers a fault at a token, where the rule is broken.
use Rattle.std.proofs.Common.{◌≡◌, ℕ, suc, ◌+◌, arith, List, Bool, false, Option, Some, None, Ok, ◌∙◌, refl, ap, subst}
use Rattle.std.proofs.Common.{length, nat_eq}
use Rattle.std.specs.Prelude.{find}
use Rattle.std.specs.Option.{option_and_then, option_map, option_or}
use Rattle.ash_registrations.specs.Registrations as host
use Rattle.ash_lex.specs.Tokens.{name, number, reserved}
use Rattle.ash_lex.specs.declared.words.ReservedWord.TheVariants as words
use Rattle.ash_tree.specs.Tree as written
use Rattle.ash_tree.specs.declared.tree.places.Position as place
use Rattle.ash_tree.specs.declared.tree.operators.AssignOp.{AssignOp}
use Rattle.ash_typed.specs.declared.types.Element.{Element}
use Rattle.ash_typed.specs.declared.types.Element.TheVariants as elements
use Rattle.ash_typed.specs.declared.types.ObjectType.{ObjectType}
use Rattle.ash_typed.specs.declared.types.ObjectType.TheVariants as objects
use Rattle.ash_type_rules.specs.declared.fault.Rule.TheVariants as rules
use Rattle.ash_type_rules.specs.declared.types.Ty.{Ty}
use Rattle.ash_type_rules.specs.declared.types.Ty.TheVariants as ty
use Rattle.ash_typed.specs.declared.tree.operations.ObjectMember.{ObjectMember}
use Rattle.ash_typed.specs.declared.tree.operations.IncrementOp.TheVariants as steps
use Rattle.ash_type_rules.specs.TypeRules.{object_of, ty_of_element}
use Rattle.ash_type_rules.specs.ModuleDeclarations.{host_object, object_named, element_named, element_by}
use Rattle.ash_type_rules.specs.Environment as head
use Rattle.ash_type_rules.specs.Environment.{Environment, first_from, is_class, is_interface_named, ClassSignature, Invoked}
use Rattle.ash_type_rules.specs.Environment.{variable_in, member_in, method_in, array_built}
use Rattle.ash_type_rules.specs.Terms.{assignable, operator_of, array_parameters}
use Rattle.ash_type_rules.specs.ExpressionRules.{TypedExpr, is_assign, member_at, field_of, invoked_at, method_of, invoked}
use Rattle.ash_type_rules.specs.ExpressionRules.{check_invocation, index_in, indexed_at, indexed_object, indexed, at_element}
use Rattle.ash_type_rules.specs.ExpressionRules.{known_element, check_array, cast_type, cast_at, check_expr, check_exprs, check_links}
use Rattle.ash_type_rules.specs.ExpressionRules.{check_suffixes, check_suffix}
use Rattle.ash_type_rules.proofs.FaultTokens.{HasToken, HasStart, ElementIn, ExprIn, ExprsIn, LinksIn, SuffixesIn, SuffixIn}
use Rattle.ash_type_rules.specs.Phrases as phrases
use Rattle.ash_type_rules.specs.Mismatches as mismatches
use Rattle.ash_type_rules.specs.Mismatches.{may_be_integer, may_be_object, is_array_object, may_be_array, is_cast_type}
use Rattle.ash_type_rules.specs.FaultMeaning as meaning
use Rattle.ash_type_rules.specs.FaultMeaning.{argument_count}
use Rattle.ash_type_rules.proofs.FaultAnswers.{Script, OccursIn, Wrong, Mismatch, same_named, Answers, fine, faulty, Fine}
use Rattle.ash_type_rules.proofs.FaultAnswers.{At, mismatch, bind, bind_by, type_named, unnamed}
use Rattle.ash_type_rules.proofs.FaultPhrases.{sees}
use Rattle.ash_type_rules.proofs.FaultOperations.{AllAt, ListAt, Unassigned, arguments_in, assigned_in, call_in}
use Rattle.ash_type_rules.proofs.FaultOperations.{called_with_in, choice_in, convert_in, counted_in, handle_in, integer_in}
use Rattle.ash_type_rules.proofs.FaultOperations.{known_in, operate_in, this_in, unary_in}

-- suffixes

-- a field and a method after what is typed so
abbrev pub AtField : Script → Environment → TypedExpr → place.Position → List ℕ → written.Suffixes → Type 0
AtField script env t p text ss = OccursIn script (phrases.Suffixes env t (written.suffix (written.Field p text) ss))

abbrev pub AtMethod : Script → Environment → TypedExpr → place.Position → List ℕ → written.Exprs → written.Suffixes → Type 0
AtMethod script env t p text es ss =
    OccursIn script (phrases.Suffixes env t (written.suffix (written.Method p text es) ss))

member_at_in : (script : Script) (env : Environment) (t : TypedExpr) (p : place.Position) (text : List ℕ)
    (ss : written.Suffixes) (o : ObjectType) (found : Option (ObjectMember × Ty)) → HasToken script.tokens (name text) p.at
    → HasStart script.tokens t.at → AtField script env t p text ss → object_of t.ty ≡ Some o
    → member_in env o text ≡ found → At script (member_at t p.at found)
member_at_in script env t p text ss o None h k r q e = faulty (name text, h, refl, meaning.no_member r q e)
member_at_in script env t p text ss o (Some found) h k r q e = fine k

field_in : (script : Script) (env : Environment) (t : TypedExpr) (of : Ty) (p : place.Position) (text : List ℕ)
    (ss : written.Suffixes) → HasToken script.tokens (name text) p.at → HasStart script.tokens t.at
    → AtField script env t p text ss → t.ty ≡ of → At script (field_of env t of p.at text)
unfolding field_of
field_in script env t (ty.Object o) p text ss h k r q =
    member_at_in script env t p text ss o (member_in env o text) h k r (ap object_of q) refl
field_in script env t (ty.Handle o) p text ss h k r q =
    member_at_in script env t p text ss o (member_in env o text) h k r (ap object_of q) refl
field_in script env t ty.Unknown p text ss h k r q = fine k
field_in script env t _ p text ss h k r q = mismatch k (mismatches.no_object r refl (ap may_be_object q))

-- a method that is known is one of the object
abbrev pub IsInvoked : Environment → TypedExpr → List ℕ → Option Invoked → Type 0
IsInvoked env t text None = Unit {0}
IsInvoked env t text (Some m) = (o : ObjectType) × (object_of t.ty ≡ Some o) × (method_in env o text ≡ Some m)

invoked_at_in : (script : Script) (env : Environment) (t : TypedExpr) (p : place.Position) (text : List ℕ) (es : written.Exprs)
    (ss : written.Suffixes) (o : ObjectType) (found : Option Invoked) → HasToken script.tokens (name text) p.at
    → AtMethod script env t p text es ss → object_of t.ty ≡ Some o → method_in env o text ≡ found
    → Answers script (IsInvoked env t text) (invoked_at p.at found)
invoked_at_in script env t p text es ss o None h r q e = faulty (name text, h, refl, meaning.no_method r q e)
invoked_at_in script env t p text es ss o (Some m) h r q e = fine (o, q, e)

method_of_in : (script : Script) (env : Environment) (t : TypedExpr) (of : Ty) (p : place.Position) (text : List ℕ)
    (es : written.Exprs) (ss : written.Suffixes) → HasToken script.tokens (name text) p.at → HasStart script.tokens t.at
    → AtMethod script env t p text es ss → t.ty ≡ of
    → Answers script (IsInvoked env t text) (method_of env t of p.at text)
unfolding method_of
method_of_in script env t (ty.Object o) p text es ss h k r q =
    invoked_at_in script env t p text es ss o (method_in env o text) h r (ap object_of q) refl
method_of_in script env t (ty.Handle o) p text es ss h k r q =
    invoked_at_in script env t p text es ss o (method_in env o text) h r (ap object_of q) refl
method_of_in script env t ty.Unknown p text es ss h k r q = fine tt
method_of_in script env t _ p text es ss h k r q = mismatch k (mismatches.no_object r refl (ap may_be_object q))

invoked_in : (script : Script) (env : Environment) (t : TypedExpr) (p : place.Position) (text : List ℕ) (es : written.Exprs)
    (ss : written.Suffixes) (ts : List TypedExpr) (m : Option Invoked) → HasToken script.tokens (name text) p.at
    → HasStart script.tokens t.at → AtMethod script env t p text es ss → AllAt script.tokens ts
    → length ts ≡ argument_count es → check_exprs env es ≡ Ok ts → IsInvoked env t text m
    → At script (invoked env.declarations.classes t p.at ts m)
unfolding invoked
invoked_in script env t p text es ss ts None h k r all c a q = fine k
invoked_in script env t p text es ss ts (Some m) h k r all c a q =
    bind (arguments_in script env.declarations.classes p.at (name text) m.parameters ts h refl all
    (λ b. meaning.method_count r q.1 q.2 (subst (λ n. nat_eq (length m.parameters) n ≡ false) c b))
    (λ at b. mismatches.of_method r q.1 q.2 a b))
    (λ trees u. fine k)

invocation_in : (script : Script) (env : Environment) (t : TypedExpr) (p : place.Position) (text : List ℕ) (es : written.Exprs)
    (ss : written.Suffixes) → HasToken script.tokens (name text) p.at → HasStart script.tokens t.at
    → AtMethod script env t p text es ss → ListAt script (argument_count es) (check_exprs env es)
    → At script (check_invocation env t p.at text (check_exprs env es))
invocation_in script env t p text es ss h k r all =
    bind (method_of_in script env t t.ty p text es ss h k r refl) (λ m q. bind_by all (λ ts a each.
    invoked_in script env t p text es ss ts m h k r each.0 each.1 a q))

-- arrays and handles

-- no type of objects that has a name is one of arrays

no_element : (a : Option (ℕ × head.ClassSignature)) (b : Option (ℕ × head.InterfaceSignature)) (c : Option host.Registration)
    → option_and_then element_by
    (option_or (option_map (λ (found : ℕ × head.ClassSignature). objects.Class found.0) a)
    (option_or (option_map (λ (found : ℕ × head.InterfaceSignature). objects.Interface found.0) b)
    (option_and_then host_object c))) ≡ None → option_or (option_map
    (λ (found : ℕ × head.ClassSignature). objects.Class found.0) a)
    (option_or (option_map (λ (found : ℕ × head.InterfaceSignature). objects.Interface found.0) b)
    (option_and_then host_object c)) ≡ None
no_element (Some a) b c h = absurd (cc)
no_element None (Some b) c h = absurd (cc)
no_element None None (Some (host.TypeRegistration text kind)) h = absurd (cc)
no_element None None (Some (host.FactoryRegistration of ps)) h = refl
no_element None None (Some (host.MethodRegistration of id operation)) h = refl
no_element None None (Some (host.PropertyRegistration of id value text)) h = refl
no_element None None (Some (host.ServiceRegistration kind)) h = refl
no_element None None (Some (host.FunctionRegistration service id operation)) h = refl
no_element None None None h = refl

pub element_unnamed : (env : Environment) (text : List ℕ) → option_and_then element_by (type_named env text) ≡ None
    → type_named env text ≡ None
unfolding object_named
element_unnamed env text h =
    no_element (first_from (is_class text) 0 env.declarations.classes)
    (first_from (is_interface_named text) 0 env.declarations.interfaces) (find (host.takes_name text) env.registered) h

element_by_in : (script : Script) (env : Environment) (at : ℕ) (text : List ℕ) (found : Option Element)
    → HasToken script.tokens (name text) at → option_and_then element_by (type_named env text) ≡ found
    → (type_named env text ≡ None → Wrong script rules.UnknownType at (name text))
    → Fine script (known_element at found)
element_by_in script env at text None h e w = faulty (name text, h, refl, w (element_unnamed env text e))
element_by_in script env at text (Some x) h e w = fine tt

known_element_in : (script : Script) (env : Environment) (p : place.Position) (of : written.Element) (es : written.Exprs)
    → ElementIn script.tokens of → OccursIn script (phrases.Expression env (written.NewArray p of es))
    → Fine script (known_element (at_element of) (element_named env.registered env.declarations of))
unfolding element_named
known_element_in script env p (written.PrimElement at k) es h r = fine tt
known_element_in script env p (written.HandleElement at text) es h r =
    element_by_in script env at.at text (option_and_then element_by (type_named env text)) h refl (λ n.
    meaning.no_element_type r (unnamed script env text (sees r) n))

array_in : (script : Script) (env : Environment) (p : place.Position) (of : written.Element) (es : written.Exprs)
    → HasToken script.tokens (reserved words.Array) p.at → ElementIn script.tokens of
    → OccursIn script (phrases.Expression env (written.NewArray p of es))
    → ListAt script (argument_count es) (check_exprs env es) → At script (check_array env p.at of (check_exprs env es))
array_in script env p of es h e r k =
    bind (known_element_in script env p of es e r) (λ x u. bind_by k (λ ts a all.
    called_with_in script env.declarations.classes p.at (reserved words.Array) (array_built x (length ts)) ts
    (array_parameters (length ts)) h refl refl all.0
    (λ b. meaning.array_count r (subst (λ n. nat_eq (length (array_parameters n)) n ≡ false) all.1 b))
    (λ at b. mismatches.of_array r a b)))

cast_type_in : (script : Script) (env : Environment) (at : ℕ) (text : List ℕ) (found : Option ObjectType)
    → HasToken script.tokens (name text) at → (found ≡ None → Wrong script rules.UnknownType at (name text))
    → ((o : ObjectType) → found ≡ Some o → is_cast_type o ≡ false → Mismatch script at)
    → Fine script (cast_type at found)
cast_type_in script env at text None h w z = faulty (name text, h, refl, w refl)
cast_type_in script env at text (Some (objects.Class class)) h w z = fine tt
cast_type_in script env at text (Some (objects.Interface interface)) h w z = fine tt
cast_type_in script env at text (Some (objects.Host kind)) h w z =
    mismatch (name text, h, refl) (z (objects.Host kind) refl refl)
cast_type_in script env at text (Some (objects.Array e)) h w z =
    mismatch (name text, h, refl) (z (objects.Array e) refl refl)

cast_in : (script : Script) (at : ℕ) (to : ObjectType) (t : TypedExpr) → HasStart script.tokens at
    → HasStart script.tokens t.at → (may_be_object t.ty ≡ false → Mismatch script t.at) → At script (cast_at at to t)
unfolding cast_at
cast_in script at to t h k z = bind (handle_in script t.at t.ty k z) (λ of u. fine h)

index_at_in : (script : Script) (i : TypedExpr) → HasStart script.tokens i.at
    → (may_be_integer i.ty ≡ false → Mismatch script i.at) → Fine script (index_in i)
index_at_in script i h z = bind (integer_in script i.at i.ty h z) (λ int_type u. fine tt)

indexed_at_in : (script : Script) (t i : TypedExpr) (of : Ty) (e : Element) → HasStart script.tokens t.at
    → HasStart script.tokens i.at → (may_be_integer i.ty ≡ false → Mismatch script i.at)
    → At script (indexed_at t i of e)
indexed_at_in script t i of e h k z = bind (index_at_in script i k z) (λ index u. fine h)

indexed_object_in : (script : Script) (t i : TypedExpr) (o : ObjectType) → HasStart script.tokens t.at
    → HasStart script.tokens i.at → (may_be_integer i.ty ≡ false → Mismatch script i.at)
    → (is_array_object o ≡ false → Mismatch script t.at) → At script (indexed_object t i o)
indexed_object_in script t i (objects.Array e) h k y z = indexed_at_in script t i (ty_of_element e) e h k y
indexed_object_in script t i _ h k y z = mismatch h (z refl)

indexed_in : (script : Script) (t : TypedExpr) (of : Ty) (i : TypedExpr) → HasStart script.tokens t.at
    → HasStart script.tokens i.at → t.ty ≡ of → (may_be_integer i.ty ≡ false → Mismatch script i.at)
    → (may_be_array t.ty ≡ false → Mismatch script t.at) → At script (indexed t of i)
unfolding indexed
indexed_in script t (ty.Object o) i h k q y z = indexed_object_in script t i o h k y (λ b. z (ap may_be_array q ∙ b))
indexed_in script t (ty.Handle o) i h k q y z = indexed_object_in script t i o h k y (λ b. z (ap may_be_array q ∙ b))
indexed_in script t ty.Unknown i h k q y z = indexed_at_in script t i ty.Unknown elements.Bool h k y
indexed_in script t _ i h k q y z = mismatch h (z (ap may_be_array q))

-- the walk

one_more : (a b : ℕ) → a ≡ b → suc a ≡ b + 1
one_more a b h = omega (arith, h)

-- what is wrong with an assignment
unassigned : (script : Script) (env : Environment) (p : place.Position) (e : written.Expr) (op : AssignOp)
    (v : written.Expr) (t u : TypedExpr) → OccursIn script (phrases.Expression env (written.Assign p e op v))
    → check_expr env (is_assign op) e ≡ Ok t → check_expr env false v ≡ Ok u
    → Unassigned script env.declarations.classes t u (operator_of op)
unassigned script env p e op v t u r q w = record {
  unfit = λ o b. mismatches.assigned r q w o b;
  not_unified = λ by o at b. mismatches.updated r q w o b;
  uncounted = λ by o b. mismatches.updated_place r q o b;
}

mutual
  pub typed_in : (script : Script) (env : Environment) (left : Bool) (e : written.Expr) → ExprIn script.tokens e
      → OccursIn script (phrases.Expression env e) → At script (check_expr env left e)
  typed_in script env left (written.Number p n) h r = fine (number n, h, refl)
  typed_in script env left (written.Truth p b) h r = fine h
  typed_in script env left (written.Null p) h r = fine h
  typed_in script env left (written.This p) h r = this_in script env p env.this h r refl
  typed_in script env left (written.Name p text) h r = known_in script env p text (variable_in env text) h r refl
  typed_in script env left (written.Call p text es) h r =
      call_in script env p text es h.0 r (all_in script env es h.1 (phrases.call_arguments r))
  typed_in script env left (written.Brackets p e) h r =
      bind (typed_in script env false e h.1 (phrases.in_brackets r)) (λ t k. fine h.0)
  typed_in script env left (written.Convert p to e) h r =
      bind_by (typed_in script env false e h.1 (phrases.converted r)) (λ t q k. convert_in script p.at to t h.0 k (λ b.
      mismatches.converted r q b))
  typed_in script env left (written.NewArray p of es) h r =
      array_in script env p of es h.0 h.1 r (all_in script env es h.2 (phrases.array_arguments r))
  typed_in script env left (written.Cast p to e) h r =
      bind (cast_type_in script env to.place.at to.name (type_named env to.name) h.1
      (λ n. meaning.no_cast_type r (unnamed script env to.name (sees r) n))
      (λ o n b. mismatches.cast_to r (subst (λ found. found ≡ Some o) (same_named script env to.name (sees r)) n) b))
      (λ o u. bind_by (typed_in script env false e h.2 (phrases.cast r)) (λ t q k. cast_in script p.at o t h.0 k (λ b.
      mismatches.cast_from r q b)))
  typed_in script env left (written.Postfix p e ss) h r =
      bind_by (typed_in script env false e h.1 (phrases.before_suffixes r)) (λ t q k.
      suffixes_in script env t ss h.2 k (phrases.suffixes r q))
  typed_in script env left (written.Unary p op e) h r =
      bind_by (typed_in script env false e h.1 (phrases.operand r)) (λ t q k.
      unary_in script left p.at op t h.0 k (λ c n m. meaning.no_place r c q n) (λ b. mismatches.operand r q b))
  typed_in script env left (written.Binary p e ls) h r =
      bind_by (typed_in script env false e h.1 (phrases.first_operand r)) (λ t q k.
      links_in script env t ls h.2 k (phrases.links r q))
  typed_in script env left (written.Conditional p c a b) h r =
      bind_by (typed_in script env false c h.1 (phrases.condition r)) (λ t o k.
      bind_by (typed_in script env false a h.2 (phrases.chosen r)) (λ x q l.
      bind_by (typed_in script env false b h.3 (phrases.otherwise r)) (λ y w m.
      choice_in script t x y k l m (λ n. mismatches.choice_condition r o n) (λ n. mismatches.branches r q w n))))
  typed_in script env left (written.Assign p e op v) h r =
      bind_by (typed_in script env (is_assign op) e h.1 (phrases.target r)) (λ t q k.
      bind_by (typed_in script env false v h.2 (phrases.value r)) (λ u w l.
      assigned_in script env.declarations.classes t op u k l
      (λ b m. meaning.takes_none r q b) (unassigned script env p e op v t u r q w)))

  pub all_in : (script : Script) (env : Environment) (es : written.Exprs) → ExprsIn script.tokens es
      → OccursIn script (phrases.Arguments env es) → ListAt script (argument_count es) (check_exprs env es)
  all_in script env written.no_expr h r = fine (tt, refl)
  all_in script env (written.expr e es) h r =
      bind (typed_in script env false e h.0 (phrases.argument r)) (λ t k.
      bind (all_in script env es h.1 (phrases.other_arguments r)) (λ ts l.
      fine ((k, l.0), one_more (length ts) (argument_count es) l.1)))

  links_in : (script : Script) (env : Environment) (t : TypedExpr) (ls : written.Links) → LinksIn script.tokens ls
      → HasStart script.tokens t.at → OccursIn script (phrases.Links env t ls) → At script (check_links env t ls)
  links_in script env t written.no_link h k r = fine k
  links_in script env t (written.link op e ls) h k r =
      bind_by (typed_in script env false e h.0 (phrases.linked r)) (λ u q l.
      bind_by (operate_in script op t u k l (λ at b. mismatches.operands r q b)) (λ both w m.
      links_in script env both ls h.1 m (phrases.other_links r q w)))

  suffixes_in : (script : Script) (env : Environment) (t : TypedExpr) (ss : written.Suffixes) → SuffixesIn script.tokens ss
      → HasStart script.tokens t.at → OccursIn script (phrases.Suffixes env t ss) → At script (check_suffixes env t ss)
  suffixes_in script env t written.no_suffix h k r = fine k
  suffixes_in script env t (written.suffix s ss) h k r =
      bind_by (suffix_in script env t s ss h.0 k r) (λ next q l.
      suffixes_in script env next ss h.1 l (phrases.other_suffixes r q))

  suffix_in : (script : Script) (env : Environment) (t : TypedExpr) (s : written.Suffix) (ss : written.Suffixes)
      → SuffixIn script.tokens s → HasStart script.tokens t.at
      → OccursIn script (phrases.Suffixes env t (written.suffix s ss)) → At script (check_suffix env t s)
  suffix_in script env t (written.Field p text) ss h k r = field_in script env t t.ty p text ss h k r refl
  suffix_in script env t (written.Method p text es) ss h k r =
      invocation_in script env t p text es ss h.0 k r (all_in script env es h.1 (phrases.method_arguments r))
  suffix_in script env t (written.Index e) ss h k r =
      bind_by (typed_in script env false e h (phrases.index r)) (λ i q l.
      indexed_in script t t.ty i k l refl (λ b. mismatches.no_index r q b) (λ b. mismatches.no_array r b))
  suffix_in script env t written.Increment ss h k r =
      counted_in script t.at steps.IncrementAfter t (assignable t.form t.tree) k k
      (λ n m. meaning.no_place_before r refl n) (λ b. mismatches.operand_before r refl b)
  suffix_in script env t written.Decrement ss h k r =
      counted_in script t.at steps.DecrementAfter t (assignable t.form t.tree) k k
      (λ n m. meaning.no_place_before r refl n) (λ b. mismatches.operand_before r refl b)
