-- The fault of an operation or a call is at a token where its rule is broken.
use Rattle.std.proofs.Common.{◌≡◌, ℕ, List, [], ◌∷◌, Bool, true, false, Option, Some, None, Ok, refl, subst, length}
use Rattle.std.proofs.Common.{nat_eq}
use Rattle.std.specs.Prelude.{if◌then◌else◌}
use Rattle.std.specs.List.{AllByRecursion}
use Rattle.ash_lex.specs.Tokens.{Meaning, name, reserved}
use Rattle.ash_lex.specs.declared.words.ReservedWord.TheVariants as words
use Rattle.ash_tree.specs.Tree as written
use Rattle.ash_tree.specs.GrammarTokens.{Tokens}
use Rattle.ash_tree.specs.declared.tree.places.Position as place
use Rattle.ash_tree.specs.declared.tree.types.Primitive.{Primitive}
use Rattle.ash_tree.specs.declared.tree.operators.UnaryOp.{UnaryOp}
use Rattle.ash_tree.specs.declared.tree.operators.UnaryOp.TheVariants as unary
use Rattle.ash_tree.specs.declared.tree.operators.BinaryOp.{BinaryOp}
use Rattle.ash_tree.specs.declared.tree.operators.AssignOp.{AssignOp}
use Rattle.ash_type_rules.specs.declared.fault.Rule.TheVariants as rules
use Rattle.ash_type_rules.specs.declared.types.Ty.{Ty}
use Rattle.ash_type_rules.specs.declared.types.Ty.TheVariants as ty
use Rattle.ash_type_rules.specs.declared.forms.OperatorClass.{OperatorClass}
use Rattle.ash_type_rules.specs.declared.forms.Form.{Form}
use Rattle.ash_typed.specs.declared.tree.operations.Calculator.{Calculator}
use Rattle.ash_typed.specs.declared.tree.operations.Operands.{Operands}
use Rattle.ash_typed.specs.declared.tree.operations.IncrementOp.{IncrementOp}
use Rattle.ash_typed.specs.declared.tree.operations.IncrementOp.TheVariants as steps
use Rattle.ash_typed.specs.TypedTree.{Null, Place}
use Rattle.ash_type_rules.specs.TypingResult.{TypingResult, broken}
use Rattle.ash_type_rules.specs.TypeRules.{common, takes, assumed_type, common_operands, operator_class_of, binary_of, ty_of}
use Rattle.ash_type_rules.specs.Coercions.{fits}
use Rattle.ash_type_rules.specs.Environment.{Environment, ClassSignature, Known, Callee, variable_in, callee_in}
use Rattle.ash_type_rules.specs.Terms.{assignable, operator_of, is_stored}
use Rattle.ash_type_rules.specs.ExpressionRules.{TypedExpr, UnifiedOperands, term_at, coerced_for_assignment, integer_of, bool_of}
use Rattle.ash_type_rules.specs.ExpressionRules.{handle_of, adapted, unified_as, unify_operands}
use Rattle.ash_type_rules.specs.ExpressionRules.{operate, counted, handle_at, unary_at, converting, convert_at, is_void, chosen}
use Rattle.ash_type_rules.specs.ExpressionRules.{choice, updated, stored, assigned_to, assigned, all_coerced, arguments_at}
use Rattle.ash_type_rules.specs.ExpressionRules.{called, callee_at, known_at, this_at, check_call, check_exprs}
use Rattle.ash_type_rules.specs.FaultPlaces.{begins_call, begins_expression}
use Rattle.ash_type_rules.proofs.FaultTokens.{HasToken, HasStart}
use Rattle.ash_type_rules.specs.Phrases as phrases
use Rattle.ash_type_rules.specs.Mismatches as mismatches
use Rattle.ash_type_rules.specs.Mismatches.{may_be_integer, may_be_bool, may_be_object, takes_operand, converts, IsUnfit}
use Rattle.ash_type_rules.specs.FaultMeaning as meaning
use Rattle.ash_type_rules.specs.FaultMeaning.{argument_count, takes_value, counts}
use Rattle.ash_type_rules.proofs.FaultAnswers.{Script, OccursIn, Wrong, Mismatch, Answers, fine, faulty, Fine, At, mismatch}
use Rattle.ash_type_rules.proofs.FaultAnswers.{no_place, bind, bind_by, either, choose_start}

-- typed expressions, each at a token
abbrev pub AllAt : Tokens → List TypedExpr → Type 0
AllAt script ts = AllByRecursion (λ (t : TypedExpr). HasStart script t.at) ts

-- of so many arguments
abbrev pub ListAt : Script → ℕ → TypingResult (List TypedExpr) → Type 0
ListAt script count r = Answers script (λ (ts : List TypedExpr). AllAt script.tokens ts × (length ts ≡ count)) r

-- what an operand has to be

pub coerced_for_assignment_in : (script : Script) (classes : List ClassSignature) (of : Ty) (t : TypedExpr)
    → HasStart script.tokens t.at
    → (fits classes of t.ty ≡ false → Mismatch script t.at) → Fine script (coerced_for_assignment classes of t)
unfolding coerced_for_assignment
coerced_for_assignment_in script classes of t h w = either (fits classes of t.ty) (λ b. fine tt) (λ b. mismatch h (w b))

pub integer_in : (script : Script) (at : ℕ) (of : Ty) → HasStart script.tokens at
    → (may_be_integer of ≡ false → Mismatch script at) → Fine script (integer_of at of)
integer_in script at (ty.Integer k) h w = fine tt
integer_in script at ty.Unknown h w = fine tt
integer_in script at _ h w = mismatch h (w refl)

pub bool_in : (script : Script) (at : ℕ) (of : Ty) → HasStart script.tokens at
    → (may_be_bool of ≡ false → Mismatch script at) → Fine script (bool_of at of)
bool_in script at ty.Bool h w = fine tt
bool_in script at ty.Unknown h w = fine tt
bool_in script at _ h w = mismatch h (w refl)

pub handle_in : (script : Script) (at : ℕ) (of : Ty) → HasStart script.tokens at
    → (may_be_object of ≡ false → Mismatch script at) → Fine script (handle_of at of)
handle_in script at (ty.Object o) h w = fine tt
handle_in script at (ty.Handle o) h w = fine tt
handle_in script at ty.Unknown h w = fine tt
handle_in script at _ h w = mismatch h (w refl)

-- operators between two operands

adapted_in : (script : Tokens) (s : OperatorClass) (a : Form) (of : Ty) (t : TypedExpr) → HasStart script t.at
    → HasStart script (adapted s a of t).at
unfolding adapted
adapted_in script s a of t h = h

unified_as_in : (script : Script) (s : OperatorClass) (a b : TypedExpr) (o : Option Operands) → HasStart script.tokens a.at
    → HasStart script.tokens b.at → ((at : ℕ) → unified_as s a b o ≡ broken rules.TypeMismatch at → Mismatch script at)
    → Answers script (λ (m : UnifiedOperands). HasStart script.tokens m.left.at) (unified_as s a b o)
unified_as_in script s a b (Some o) h k w = fine h
unified_as_in script s a b None h k w =
    mismatch (choose_start script.tokens (takes s a.ty) b.at a.at k h) (w (if takes s a.ty then b.at else a.at) refl)

-- an operator does not take two operands
abbrev pub NotUnified : Script → BinaryOp → TypedExpr → TypedExpr → Type 0
NotUnified script op a b = (at : ℕ) → unify_operands op a b ≡ broken rules.TypeMismatch at → Mismatch script at

unified_in : (script : Script) (op : BinaryOp) (a b : TypedExpr) → HasStart script.tokens a.at → HasStart script.tokens b.at
    → NotUnified script op a b
    → Answers script (λ (m : UnifiedOperands). HasStart script.tokens m.left.at) (unify_operands op a b)
unfolding unify_operands
unified_in script op a b h k w =
    let s = operator_class_of op in
    let x = adapted s b.form b.ty a in
    let y = adapted s a.form a.ty b in
    unified_as_in script s x y (common_operands s (assumed_type s y.ty x.ty) (assumed_type s x.ty y.ty))
    (adapted_in script.tokens s b.form b.ty a h) (adapted_in script.tokens s a.form a.ty b k) w

pub operate_in : (script : Script) (op : BinaryOp) (a b : TypedExpr) → HasStart script.tokens a.at
    → HasStart script.tokens b.at
    → NotUnified script op a b → At script (operate op a b)
unfolding operate
operate_in script op a b h k w = bind (unified_in script op a b h k w) (λ m left. fine left)

-- operators before an operand

pub counted_in : (script : Script) (at : ℕ) (step : IncrementOp) (t : TypedExpr) (p : Option Place) → HasStart script.tokens at
    → HasStart script.tokens t.at → (p ≡ None → (m : Meaning) → Wrong script rules.NotAssignable t.at m)
    → (may_be_integer t.ty ≡ false → Mismatch script t.at) → At script (counted at step t p)
unfolding counted
counted_in script at step t None h k w z = no_place k (w refl)
counted_in script at step t (Some p) h k w z = bind (integer_in script t.at t.ty k z) (λ int_type u. fine h)

handle_at_in : (script : Script) (left : Bool) (at : ℕ) (t : TypedExpr) → HasStart script.tokens at
    → HasStart script.tokens t.at → (may_be_object t.ty ≡ false → Mismatch script t.at)
    → At script (handle_at left at t)
handle_at_in script true at t h k z = fine h
handle_at_in script false at t h k z = bind (handle_in script t.at t.ty k z) (λ of u. fine h)

pub unary_in : (script : Script) (left : Bool) (at : ℕ) (op : UnaryOp) (t : TypedExpr) → HasStart script.tokens at
    → HasStart script.tokens t.at
    → (counts op ≡ true → assignable t.form t.tree ≡ None → (m : Meaning) → Wrong script rules.NotAssignable t.at m)
    → (takes_operand op t.ty ≡ false → Mismatch script t.at) → At script (unary_at left at op t)
unfolding unary_at
unary_in script left at unary.Plus t h k w z = bind (integer_in script t.at t.ty k z) (λ int_type u. fine h)
unary_in script left at unary.Minus t h k w z = bind (integer_in script t.at t.ty k z) (λ int_type u. fine h)
unary_in script left at unary.BitNot t h k w z = bind (integer_in script t.at t.ty k z) (λ int_type u. fine h)
unary_in script left at unary.Not t h k w z = bind (bool_in script t.at t.ty k z) (λ b u. fine h)
unary_in script left at unary.Increment t h k w z =
    counted_in script at steps.Increment t (assignable t.form t.tree) h k (w refl) z
unary_in script left at unary.Decrement t h k w z =
    counted_in script at steps.Decrement t (assignable t.form t.tree) h k (w refl) z
unary_in script left at unary.Handle t h k w z = handle_at_in script left at t h k z

converting_in : (script : Script) (at : ℕ) (of : Ty) (t : TypedExpr) → HasStart script.tokens at
    → HasStart script.tokens t.at → (converts of t.ty ≡ false → Mismatch script t.at) → At script (converting at of t)
converting_in script at (ty.Integer j) t h k z = bind (integer_in script t.at t.ty k z) (λ int_type u. fine h)
converting_in script at _ t h k z = bind (bool_in script t.at t.ty k z) (λ b u. fine h)

pub convert_in : (script : Script) (at : ℕ) (to : Primitive) (t : TypedExpr) → HasStart script.tokens at
    → HasStart script.tokens t.at → (converts (ty_of to) t.ty ≡ false → Mismatch script t.at)
    → At script (convert_at at to t)
unfolding convert_at
convert_in script at to t h k z = converting_in script at (ty_of to) t h k z

-- choices and assignments

chosen_in : (script : Script) (c a b : TypedExpr) (of : Option Ty) → HasStart script.tokens c.at
    → HasStart script.tokens a.at → HasStart script.tokens b.at
    → (of ≡ None → Mismatch script (if is_void a.ty then a.at else b.at)) → At script (chosen c a b of)
chosen_in script c a b (Some of) h k l z = fine h
chosen_in script c a b None h k l z = mismatch (choose_start script.tokens (is_void a.ty) a.at b.at k l) (z refl)

pub choice_in : (script : Script) (c a b : TypedExpr) → HasStart script.tokens c.at → HasStart script.tokens a.at
    → HasStart script.tokens b.at → (may_be_bool c.ty ≡ false → Mismatch script c.at)
    → (common a.ty b.ty ≡ None → Mismatch script (if is_void a.ty then a.at else b.at)) → At script (choice c a b)
unfolding choice
choice_in script c a b h k l y z =
    bind (bool_in script c.at c.ty h y) (λ yes u. chosen_in script c a b (common a.ty b.ty) h k l z)

-- what is assigned to a typed place does not fit
pub record Unassigned (script : Script) (classes : List ClassSignature) (t v : TypedExpr) (c : Option Calculator) : Type 0 where
  pub unfit : c ≡ None → fits classes t.ty v.ty ≡ false → Mismatch script v.at
  pub not_unified : (by : Calculator) → c ≡ Some by → NotUnified script (binary_of by) (term_at t.at t.ty Null) v
  pub uncounted : (by : Calculator) → c ≡ Some by → may_be_integer t.ty ≡ false → Mismatch script t.at

updated_in : (script : Script) (at : ℕ) (of : Ty) (p : Place) (c : Calculator) (v : TypedExpr) → HasStart script.tokens at
    → HasStart script.tokens v.at → NotUnified script (binary_of c) (term_at at of Null) v
    → (may_be_integer of ≡ false → Mismatch script at) → At script (updated at of p c v)
updated_in script at of p c v h k y z =
    bind (unified_in script (binary_of c) (term_at at of Null) v h k y) (λ m left.
    bind (integer_in script at of h z) (λ int_type u. fine h))

stored_in : (script : Script) (classes : List ClassSignature) (t : TypedExpr) (p : Place) (c : Option Calculator) (v : TypedExpr)
    → HasStart script.tokens t.at → HasStart script.tokens v.at → Unassigned script classes t v c
    → At script (stored classes t.at t.ty p c v)
unfolding stored
stored_in script classes t p None v h k z =
    bind (coerced_for_assignment_in script classes t.ty v k (z.unfit refl)) (λ e u. fine h)
stored_in script classes t p (Some c) v h k z =
    updated_in script t.at t.ty p c v h k (z.not_unified c refl) (z.uncounted c refl)

assigned_to_in : (script : Script) (classes : List ClassSignature) (t : TypedExpr) (op : AssignOp) (v : TypedExpr) (p : Option Place)
    → HasStart script.tokens t.at → HasStart script.tokens v.at → assignable t.form t.tree ≡ p
    → (takes_value t ≡ false → (m : Meaning) → Wrong script rules.NotAssignable t.at m)
    → Unassigned script classes t v (operator_of op) → At script (assigned_to classes t op v p)
assigned_to_in script classes t op v None h k q w z = no_place h (w (rw q refl))
assigned_to_in script classes t op v (Some p) h k q w z =
    either (is_stored t.form t.ty) (λ b. stored_in script classes t p (operator_of op) v h k z)
    (λ b. no_place h (w (rw (q, b) refl)))

pub assigned_in : (script : Script) (classes : List ClassSignature) (t : TypedExpr) (op : AssignOp) (v : TypedExpr)
    → HasStart script.tokens t.at → HasStart script.tokens v.at
    → (takes_value t ≡ false → (m : Meaning) → Wrong script rules.NotAssignable t.at m)
    → Unassigned script classes t v (operator_of op) → At script (assigned classes t op v)
unfolding assigned
assigned_in script classes t op v h k w z = assigned_to_in script classes t op v (assignable t.form t.tree) h k refl w z

-- calls

-- an argument does not fit its parameter
abbrev pub Unfit : Script → List ClassSignature → List Ty → List TypedExpr → Type 0
Unfit script classes ps ts = (at : ℕ) → IsUnfit classes ps ts at → Mismatch script at

all_coerced_in : (script : Script) (classes : List ClassSignature) (ps : List Ty) (ts : List TypedExpr) → AllAt script.tokens ts
    → Unfit script classes ps ts → Fine script (all_coerced classes ps ts)
all_coerced_in script classes [] ts h z = fine tt
all_coerced_in script classes (p ∷ ps) [] h z = fine tt
all_coerced_in script classes (p ∷ ps) (t ∷ ts) h z =
    bind (coerced_for_assignment_in script classes p t h.0 (λ b. z t.at (mismatches.this_one b))) (λ e u.
    bind (all_coerced_in script classes ps ts h.1 (λ at b. z at (mismatches.later_one b))) (λ es v. fine tt))

-- another number than there are parameters
pub arguments_in : (script : Script) (classes : List ClassSignature) (at : ℕ) (m : Meaning) (ps : List Ty) (ts : List TypedExpr)
    → HasToken script.tokens m at → begins_call m ≡ true → AllAt script.tokens ts
    → (nat_eq (length ps) (length ts) ≡ false → Wrong script rules.WrongArgumentCount at m) → Unfit script classes ps ts
    → Fine script (arguments_at classes at ps ts)
unfolding arguments_at
arguments_in script classes at m ps ts h registrations k other z =
    either (nat_eq (length ps) (length ts)) (λ b. all_coerced_in script classes ps ts k z)
    (λ b. faulty (m, h, registrations, other b))

-- what is called takes these parameters
pub called_with_in : (script : Script) (classes : List ClassSignature) (at : ℕ) (m : Meaning) (callee : Callee) (ts : List TypedExpr)
    (ps : List Ty) → HasToken script.tokens m at → begins_call m ≡ true → begins_expression m ≡ true
    → AllAt script.tokens ts → (nat_eq (length ps) (length ts) ≡ false → Wrong script rules.WrongArgumentCount at m)
    → Unfit script classes ps ts → At script (called classes at callee ts (Some ps))
unfolding called
called_with_in script classes at m callee ts ps h registrations begins k other z =
    bind (arguments_in script classes at m ps ts h registrations k other z) (λ es u. fine (m, h, begins))

-- what is wrong with these arguments of what takes these parameters, where they are known
pub record Miscalls (script : Script) (classes : List ClassSignature) (at : ℕ) (m : Meaning) (ps : Option (List Ty))
    (ts : List TypedExpr) : Type 0 where
  pub none : ps ≡ None → Wrong script rules.NoFactory at m
  pub other : (parameters : List Ty) → ps ≡ Some parameters → nat_eq (length parameters) (length ts) ≡ false
      → Wrong script rules.WrongArgumentCount at m
  pub unfit : (parameters : List Ty) → ps ≡ Some parameters → Unfit script classes parameters ts

pub called_in : (script : Script) (classes : List ClassSignature) (at : ℕ) (text : List ℕ) (callee : Callee) (ts : List TypedExpr)
    (ps : Option (List Ty)) → HasToken script.tokens (name text) at → AllAt script.tokens ts
    → Miscalls script classes at (name text) ps ts → At script (called classes at callee ts ps)
unfolding called
called_in script classes at text callee ts None h k w = faulty (name text, h, refl, w.none refl)
called_in script classes at text callee ts (Some ps) h k w =
    called_with_in script classes at (name text) callee ts ps h refl refl k (w.other ps refl) (w.unfit ps refl)

callee_at_in : (script : Script) (env : Environment) (p : place.Position) (text : List ℕ) (es : written.Exprs)
    (found : Option Callee) → HasToken script.tokens (name text) p.at
    → OccursIn script (phrases.Expression env (written.Call p text es)) → callee_in env text ≡ found
    → Answers script (λ (callee : Callee). callee_in env text ≡ Some callee) (callee_at p.at found)
callee_at_in script env p text es None h r e = faulty (name text, h, refl, meaning.no_callee r e)
callee_at_in script env p text es (Some callee) h r e = fine e

miscalled : (script : Script) (env : Environment) (p : place.Position) (text : List ℕ) (es : written.Exprs)
    (callee : Callee) (ts : List TypedExpr) → OccursIn script (phrases.Expression env (written.Call p text es))
    → callee_in env text ≡ Some callee → length ts ≡ argument_count es → check_exprs env es ≡ Ok ts
    → Miscalls script env.declarations.classes p.at (name text) callee.parameters ts
miscalled script env p text es callee ts r e c a = record {
  none = λ n. meaning.call_factory r e n;
  other = λ ps q b. meaning.call_count r e q (subst (λ k. nat_eq (length ps) k ≡ false) c b);
  unfit = λ ps q at b. mismatches.of_call r e q a b;
}

pub call_in : (script : Script) (env : Environment) (p : place.Position) (text : List ℕ) (es : written.Exprs)
    → HasToken script.tokens (name text) p.at → OccursIn script (phrases.Expression env (written.Call p text es))
    → ListAt script (argument_count es) (check_exprs env es) → At script (check_call env p.at text (check_exprs env es))
call_in script env p text es h r k =
    bind (callee_at_in script env p text es (callee_in env text) h r refl) (λ callee e. bind_by k (λ ts a all.
    called_in script env.declarations.classes p.at text callee ts callee.parameters h all.0
    (miscalled script env p text es callee ts r e all.1 a)))

-- names

pub known_in : (script : Script) (env : Environment) (p : place.Position) (text : List ℕ) (found : Option Known)
    → HasToken script.tokens (name text) p.at → OccursIn script (phrases.Expression env (written.Name p text))
    → variable_in env text ≡ found → At script (known_at p.at found)
known_in script env p text None h r e = faulty (name text, h, refl, meaning.no_variable r e)
known_in script env p text (Some known) h r e = fine (name text, h, refl)

pub this_in : (script : Script) (env : Environment) (p : place.Position) (class : Option ℕ)
    → HasToken script.tokens (reserved words.This) p.at → OccursIn script (phrases.Expression env (written.This p))
    → env.this ≡ class → At script (this_at p.at class)
this_in script env p None h r e = faulty (reserved words.This, h, refl, meaning.no_object r e)
this_in script env p (Some class) h r e = fine (reserved words.This, h, refl)
