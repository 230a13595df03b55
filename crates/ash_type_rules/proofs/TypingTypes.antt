-- A typed tree says its type: that of the term which the rules give. What can be assigned has the tree of a read.
use Rattle.std.specs.Option.{option_map, option_or}
use Rattle.std.proofs.lemmas.Option.{none-some, same_Some}
use Rattle.std.proofs.Common.{◌≡◌, ℕ, List, Bool, true, false, cond, map, Some, None, IfSome, refl, sym, ap, subst, ◌∙◌}
use Rattle.ash_tree.specs.declared.tree.operators.BinaryOp.{BinaryOp}
use Rattle.ash_tree.specs.declared.tree.operators.BinaryOp.TheVariants as binary
use Rattle.ash_tree.specs.Tree as written
use Rattle.ash_integers.specs.declared.int_type.IntType.{IntType}
use Rattle.ash_integers.specs.declared.int_type.IntType.TheVariants as ints
use Rattle.ash_typed.specs.declared.types.ObjectType.{ObjectType}
use Rattle.ash_type_rules.specs.declared.types.Ty.{Ty}
use Rattle.ash_type_rules.specs.declared.types.Ty.TheVariants as ty
use Rattle.ash_typed.specs.declared.tree.operations.Variable.TheVariants as variables
use Rattle.ash_typed.specs.declared.tree.operations.ObjectMember.{ObjectMember}
use Rattle.ash_typed.specs.declared.tree.operations.Operands.{Operands}
use Rattle.ash_typed.specs.declared.tree.operations.Operands.TheVariants as operands
use Rattle.ash_type_rules.specs.declared.forms.OperatorClass.{OperatorClass}
use Rattle.ash_type_rules.specs.declared.forms.OperatorClass.TheVariants as operator_class
use Rattle.ash_typed.specs.TypedTree.{Expr, This, Read, Place, Stored, Held, place_in, converted}
use Rattle.ash_typed.specs.TypeOf.{type_of, type_of_place, value, value_of_result, as_value, chosen_type}
use Rattle.ash_typed.specs.declared.types.VarType.{VarType}
use Rattle.ash_typed.specs.declared.types.VarType.TheVariants as vars
use Rattle.ash_type_rules.specs.TypeRules.{var_type, value_type, is_same_integer_type, gives_object, common, object_of, common_integer_type}
use Rattle.ash_type_rules.specs.TypeRules.{operator_class_of, integers_in, common_operands, operator_result}
use Rattle.ash_type_rules.specs.Environment.{Environment, Declared, ClassSignature, Known, first_from, last_named, declares}
use Rattle.ash_type_rules.specs.Environment.{this_class, variable_in, callee_in, member_in, method_in, field_in, local_in}
use Rattle.ash_type_rules.specs.Environment.{own_field_in, global_in}
use Rattle.ash_type_rules.specs.declared.forms.Form.{Form}
use Rattle.ash_type_rules.specs.declared.forms.Form.TheVariants as form
use Rattle.ash_type_rules.specs.Terms.{conversion, applied, assignable, bracketed, handle_form, Term, converted_to}
use Rattle.ash_type_rules.specs.Typing.{IsKnown, IsVariableType, IsTypeOfResult, is_known, IsReadOfPlace, IsReadWherePlace, HasType}
use Rattle.ash_type_rules.specs.Typing.{LinksHaveType, SuffixesHaveType, SuffixHasType, number, truth, null, this, name}
use Rattle.ash_type_rules.specs.Typing.{call, brackets, to_integer, to_bool, new_array, cast, postfix, plus, minus}
use Rattle.ash_type_rules.specs.Typing.{complement, not, increment, decrement, handle, handle_written, binary as operators}
use Rattle.ash_type_rules.specs.Typing.{conditional, assign, update, no_more, operated, no_suffixes, suffixed, field}
use Rattle.ash_type_rules.specs.Typing.{method, index, increment_after, decrement_after}
use Rattle.ash_type_rules.proofs.TypingWords.{arithmetic_integers, shift_integers}
use Rattle.ash_type_rules.proofs.TypingKnown.{known_type, variable_known, callee_known, member_known, method_known, at_some}
use Rattle.ash_type_rules.proofs.TypingKnown.{if_map, if_or, if_any, if_all}
use Rattle.ash_type_rules.proofs.TypingCallees.{IsTyped, IsTypedCallee, IsTypedMember, IsTypedMethod, call_type}
use Rattle.ash_type_rules.proofs.TypingCallees.{callee_type, element_type, member_type, method_type, result_value}
use Rattle.ash_type_rules.proofs.TypingCallees.{variable_type, variable_value}

-- conversions

pub equal_integer_types : (j k : IntType) → is_same_integer_type j k ≡ true → j ≡ k
equal_integer_types ints.Int ints.Int h = refl
equal_integer_types ints.Int ints.Uint h = absurd (cc)
equal_integer_types ints.Int ints.Int64 h = absurd (cc)
equal_integer_types ints.Int ints.Uint64 h = absurd (cc)
equal_integer_types ints.Uint ints.Int h = absurd (cc)
equal_integer_types ints.Uint ints.Uint h = refl
equal_integer_types ints.Uint ints.Int64 h = absurd (cc)
equal_integer_types ints.Uint ints.Uint64 h = absurd (cc)
equal_integer_types ints.Int64 ints.Int h = absurd (cc)
equal_integer_types ints.Int64 ints.Uint h = absurd (cc)
equal_integer_types ints.Int64 ints.Int64 h = refl
equal_integer_types ints.Int64 ints.Uint64 h = absurd (cc)
equal_integer_types ints.Uint64 ints.Int h = absurd (cc)
equal_integer_types ints.Uint64 ints.Uint h = absurd (cc)
equal_integer_types ints.Uint64 ints.Int64 h = absurd (cc)
equal_integer_types ints.Uint64 ints.Uint64 h = refl

converted_if : (j k : IntType) (tree : Expr) (b : Bool) → is_same_integer_type j k ≡ b
    → type_of tree ≡ value (vars.Integer j)
    → type_of (converted (cond b None (Some (record { from = j; to = k }))) tree) ≡ value (vars.Integer k)
converted_if j k tree true h i = i ∙ ap (λ (x : IntType). value (vars.Integer x)) (equal_integer_types j k h)
converted_if j k tree false h i = refl

integer_converted : (k j : IntType) (tree : Expr) → type_of tree ≡ value (vars.Integer j)
    → type_of (converted (conversion (ty.Integer k) (ty.Integer j)) tree) ≡ value (vars.Integer k)
integer_converted k j tree h = converted_if j k tree (is_same_integer_type j k) refl h

converted_type : (k j : IntType) (t : Term) → type_of t.tree ≡ value_type t.ty → t.ty ≡ ty.Integer j
    → type_of (converted_to (ty.Integer k) t) ≡ value (vars.Integer k)
converted_type k j t h i = rw i (integer_converted k j t.tree (h ∙ ap value_type i))

-- places

place_type : (e : Expr) (at : Place) → place_in e ≡ Some at → type_of e ≡ value (as_value (type_of_place at))
place_type (Read p) at h = ap (λ (p : Place). value (as_value (type_of_place p))) (same_Some p at h)
place_type _ at h = absurd (none-some at h)

assigned_type : (f : Form) (e : Expr) (at : Place) → assignable f e ≡ Some at
    → type_of e ≡ value (as_value (type_of_place at))
assigned_type form.Place e at h = place_type e at h
assigned_type form.HandlePlace e at h = place_type e at h
assigned_type _ e at h = absurd (none-some at h)

-- operators

calculated_type : (s : OperatorClass) (o : Operands)
    → ((k : IntType) → operator_result s (operands.Integers k) ≡ ty.Integer k)
    → o ≡ operands.Integers (integers_in o) → value (vars.Integer (integers_in o)) ≡ value_type (operator_result s o)
calculated_type s o h e = ap value_type (sym (ap (operator_result s) e ∙ h (integers_in o)))

applied_type : (op : BinaryOp) (o : Operands) (a b : Expr) (x y : Ty)
    → common_operands (operator_class_of op) x y ≡ Some o
    → type_of (applied op o a b) ≡ value_type (operator_result (operator_class_of op) o)
applied_type binary.Multiply o a b x y h =
    calculated_type operator_class.Arithmetic o (λ k. refl) (arithmetic_integers x y o h)
applied_type binary.Divide o a b x y h =
    calculated_type operator_class.Arithmetic o (λ k. refl) (arithmetic_integers x y o h)
applied_type binary.Remainder o a b x y h =
    calculated_type operator_class.Arithmetic o (λ k. refl) (arithmetic_integers x y o h)
applied_type binary.Add o a b x y h =
    calculated_type operator_class.Arithmetic o (λ k. refl) (arithmetic_integers x y o h)
applied_type binary.Subtract o a b x y h =
    calculated_type operator_class.Arithmetic o (λ k. refl) (arithmetic_integers x y o h)
applied_type binary.ShiftLeft o a b x y h = calculated_type operator_class.Shift o (λ k. refl) (shift_integers x y o h)
applied_type binary.ShiftRight o a b x y h = calculated_type operator_class.Shift o (λ k. refl) (shift_integers x y o h)
applied_type binary.ShiftRightArithmetic o a b x y h =
    calculated_type operator_class.Shift o (λ k. refl) (shift_integers x y o h)
applied_type binary.BitAnd o a b x y h =
    calculated_type operator_class.Arithmetic o (λ k. refl) (arithmetic_integers x y o h)
applied_type binary.BitXor o a b x y h =
    calculated_type operator_class.Arithmetic o (λ k. refl) (arithmetic_integers x y o h)
applied_type binary.BitOr o a b x y h =
    calculated_type operator_class.Arithmetic o (λ k. refl) (arithmetic_integers x y o h)
applied_type binary.Less o a b x y h = refl
applied_type binary.LessOrEqual o a b x y h = refl
applied_type binary.Greater o a b x y h = refl
applied_type binary.GreaterOrEqual o a b x y h = refl
applied_type binary.Equal o a b x y h = refl
applied_type binary.NotEqual o a b x y h = refl
applied_type binary.Is o a b x y h = refl
applied_type binary.NotIs o a b x y h = refl
applied_type binary.Xor o a b x y h = refl
applied_type binary.And o a b x y h = refl
applied_type binary.Or o a b x y h = refl

pub value_type_of_object : (of : Ty) (o : ObjectType) → object_of of ≡ Some o → value_type of ≡ value (vars.Handle o)
value_type_of_object (ty.Object p) o h = ap (λ (x : ObjectType). value (vars.Handle x)) (same_Some p o h)
value_type_of_object (ty.Handle p) o h = ap (λ (x : ObjectType). value (vars.Handle x)) (same_Some p o h)
value_type_of_object _ o h = absurd (none-some o h)

-- branches

handle_chosen : (b : Bool) (o : ObjectType) (of : Ty) → cond b (Some (ty.Handle o)) None ≡ Some of → ty.Handle o ≡ of
handle_chosen true o of h = same_Some (ty.Handle o) of h
handle_chosen false o of h = absurd (none-some of h)

abbrev Chosen : Ty → Ty → Expr → Expr → Ty → Type 0
Chosen a b s t of =
    chosen_type (type_of (converted (conversion of a) s)) (type_of (converted (conversion of b) t)) ≡ value_type of

chosen_is : (a b of : Ty) (s t : Expr) → is_known a ≡ true → is_known b ≡ true → type_of s ≡ value_type a
    → type_of t ≡ value_type b → common a b ≡ Some of → Chosen a b s t of
chosen_is ty.Unknown b of s t h k i j c = absurd (cc)
chosen_is (ty.Object o) b of s t h k i j c =
    subst (Chosen (ty.Object o) b s t) (handle_chosen (gives_object o b) o of c) (rw i refl)
chosen_is (ty.Handle o) b of s t h k i j c =
    subst (Chosen (ty.Handle o) b s t) (handle_chosen (gives_object o b) o of c) (rw i refl)
chosen_is a ty.Unknown of s t h k i j c = absurd (cc)
chosen_is ty.Bool ty.Bool of s t h k i j c = subst (Chosen ty.Bool ty.Bool s t) (same_Some ty.Bool of c) (rw i refl)
chosen_is (ty.Integer m) (ty.Integer n) of s t h k i j c =
    subst (Chosen (ty.Integer m) (ty.Integer n) s t) (same_Some (ty.Integer (common_integer_type m n)) of c)
    (rw (integer_converted (common_integer_type m n) m s i) refl)
chosen_is ty.Null (ty.Object o) of s t h k i j c =
    subst (Chosen ty.Null (ty.Object o) s t) (same_Some (ty.Handle o) of c) (rw (i, j) refl)
chosen_is ty.Null (ty.Handle o) of s t h k i j c =
    subst (Chosen ty.Null (ty.Handle o) s t) (same_Some (ty.Handle o) of c) (rw (i, j) refl)
chosen_is a b of s t h k i j c = absurd (none-some of c)

-- expressions

mutual
  pub type_is : {env : Environment} {left : Bool} {e : written.Expr} {t : Term} → HasType env left e t → IsKnown env
      → type_of t.tree ≡ value_type t.ty
  type_is number known = refl
  type_is truth known = refl
  type_is null known = refl
  type_is (this h) known = refl
  type_is {env} (name {text = text} {known = found} h) known =
      at_some IsTyped (variable_in env text) found (variable_type env text) h
      ∙ variable_value found.1
      (at_some (λ found. IsVariableType found.1) (variable_in env text) found (variable_known env text known) h)
  type_is {env} (call {text = text} {callee = callee} {parameters = parameters} {trees = trees} c q all args) known =
      call_type callee.target (map var_type parameters) trees
      ∙ ap value_of_result (at_some IsTypedCallee (callee_in env text) callee (callee_type env text) c)
      ∙ result_value callee.result
      (at_some (λ callee. IsTypeOfResult callee.result) (callee_in env text) callee (callee_known env text known) c)
  type_is (brackets h) known = type_is h known
  type_is (to_integer {t = t} {j = j} {k = k} h i l) known = converted_type k j t (type_is h known) l
  type_is (to_bool h i l) known = type_is h known ∙ ap value_type l
  type_is (new_array e all args) known = refl
  type_is (cast n c h i) known = refl
  type_is (postfix h ss) known = suffixes_type ss known (type_is h known)
  type_is (plus h i) known = type_is h known ∙ ap value_type i
  type_is (minus h i) known = refl
  type_is (complement h i) known = refl
  type_is (not h i) known = refl
  type_is (increment h i l) known = refl
  type_is (decrement h i l) known = refl
  type_is (handle {t = t} {o = o} h i) known = type_is h known ∙ value_type_of_object t.ty o i
  type_is (handle_written h) known = type_is h known
  type_is (operators h ls) known = links_type ls known (type_is h known)
  type_is (conditional {x = x} {y = y} {of = of} h i k l m) known =
      chosen_is x.ty y.ty of x.tree y.tree (known_type k known) (known_type l known) (type_is k known) (type_is l known)
      m
  type_is (assign {t = t} {at = at} h i s k l) known = sym (assigned_type t.form t.tree at i) ∙ type_is h known
  type_is (update f h i s l m n) known = ap value_type (sym l)

  links_type : {env : Environment} {t : Term} {ls : written.Links} {u : Term} → LinksHaveType env t ls u → IsKnown env
      → type_of t.tree ≡ value_type t.ty → type_of u.tree ≡ value_type u.ty
  links_type no_more known h = h
  links_type (operated {op = op} {o = o} e m rest) known h = links_type rest known (applied_type op o _ _ _ _ m)

  suffixes_type : {env : Environment} {t : Term} {ss : written.Suffixes} {u : Term} → SuffixesHaveType env t ss u
      → IsKnown env → type_of t.tree ≡ value_type t.ty → type_of u.tree ≡ value_type u.ty
  suffixes_type no_suffixes known h = h
  suffixes_type (suffixed s rest) known h = suffixes_type rest known (suffix_type s known)

  suffix_type : {env : Environment} {t : Term} {s : written.Suffix} {u : Term} → SuffixHasType env t s u → IsKnown env
      → type_of u.tree ≡ value_type u.ty
  suffix_type {env} (field {text = text} {o = o} {found = found} h i) known =
      ap (λ (of : VarType). value (as_value of))
      (at_some IsTypedMember (member_in env o text) found (member_type env o text) i)
      ∙ variable_value found.1
      (at_some (λ found. IsVariableType found.1) (member_in env o text) found (member_known env o text known) i)
  suffix_type {env} (method {text = text} {o = o} {m = m} h i all args) known =
      ap value_of_result (at_some IsTypedMethod (method_in env o text) m (method_type env o text) i)
      ∙ result_value m.result
      (at_some (λ m. IsTypeOfResult m.result) (method_in env o text) m (method_known env o text known) i)
  suffix_type (index {elements = of} h d i) known = element_type of
  suffix_type (increment_after h i) known = refl
  suffix_type (decrement_after h i) known = refl

-- what can be assigned

abbrev IsReadTerm : Term → Type 0
IsReadTerm t = IsReadWherePlace t.form t.tree

abbrev IsReadName : Known → Type 0
IsReadName known = IsReadOfPlace known.0

variable_read : (env : Environment) (text : List ℕ) → IfSome (variable_in env text) IsReadName
unfolding variable_in
variable_read env text =
    let local = if_map IsReadName
    (λ (found : ℕ × Ty). (Read (Stored (variables.Local found.0 (var_type found.1))), found.1))
    (last_named text 0 None env.locals) (if_all (last_named text 0 None env.locals) (λ found. (_, refl))) in
    let own = if_any IsReadName
    (λ (c : ℕ × ClassSignature).
    option_map (λ (found : ObjectMember × Ty). (Read (Held (This c.0) found.0), found.1)) (field_in c.0 c.1 text))
    (this_class env)
    (λ c. if_map IsReadName
    (λ (found : ObjectMember × Ty). (Read (Held (This c.0) found.0), found.1)) (field_in c.0 c.1 text)
    (if_all (field_in c.0 c.1 text) (λ found. (_, refl)))) in
    let global =
    if_map IsReadName
    (λ (found : ℕ × Declared). (Read (Stored (variables.Global found.0 (var_type found.1.of))), found.1.of))
    (first_from (declares text) 0 env.declarations.globals)
    (if_all (first_from (declares text) 0 env.declarations.globals) (λ found. (_, refl))) in
    if_or IsReadName (local_in env.locals text) (option_or (own_field_in env text) (global_in env.declarations.globals text))
    local (if_or IsReadName (own_field_in env text) (global_in env.declarations.globals text) own global)

bracketed_read : (f : Form) (tree : Expr) → IsReadWherePlace f tree → IsReadWherePlace (bracketed f) tree
bracketed_read form.Place tree h = h
bracketed_read _ tree h = tt

handle_read : (f : Form) (tree : Expr) → IsReadWherePlace f tree → IsReadWherePlace (handle_form f) tree
handle_read form.Place tree h = h
handle_read _ tree h = tt

suffix_read : {env : Environment} {t : Term} {s : written.Suffix} {u : Term} → SuffixHasType env t s u → IsReadTerm u
suffix_read (field h i) = (_, refl)
suffix_read (method h i all args) = tt
suffix_read (index h d i) = (_, refl)
suffix_read (increment_after h i) = tt
suffix_read (decrement_after h i) = tt

suffixes_read : {env : Environment} {t : Term} {ss : written.Suffixes} {u : Term} → SuffixesHaveType env t ss u
    → IsReadTerm t → IsReadTerm u
suffixes_read no_suffixes h = h
suffixes_read (suffixed s rest) h = suffixes_read rest (suffix_read s)

links_read : {env : Environment} {t : Term} {ls : written.Links} {u : Term} → LinksHaveType env t ls u → IsReadTerm t
    → IsReadTerm u
links_read no_more h = h
links_read (operated e m rest) h = links_read rest tt

pub read_is : {env : Environment} {left : Bool} {e : written.Expr} {t : Term} → HasType env left e t → IsReadTerm t
read_is {env} (name {text = text} {known = found} h) =
    at_some IsReadName (variable_in env text) found (variable_read env text) h
read_is (brackets {t = t} h) = bracketed_read t.form t.tree (read_is h)
read_is (postfix h ss) = suffixes_read ss (read_is h)
read_is (handle_written {t = t} h) = handle_read t.form t.tree (read_is h)
read_is (operators h ls) = links_read ls (read_is h)
read_is _ = tt
