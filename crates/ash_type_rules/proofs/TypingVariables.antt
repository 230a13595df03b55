-- What variables begin with, by the rules and by the walk.
use Rattle.std.proofs.lemmas.List.{length-map}
use Rattle.std.proofs.Common.{◌≡◌, ℕ, List, [], ◌∷◌, map, length, true, false, Option, Some, None, Ok, refl, sym, ap}
use Rattle.std.proofs.Common.{◌∙◌, subst}
use Rattle.ash_tree.specs.Tree as written
use Rattle.ash_typed.specs.declared.types.ObjectType.{ObjectType}
use Rattle.ash_type_rules.specs.declared.types.Ty.{Ty}
use Rattle.ash_type_rules.specs.declared.types.Ty.TheVariants as ty
use Rattle.ash_type_rules.specs.TypeRules.{var_type, object_of}
use Rattle.ash_type_rules.specs.Coercions.{fits}
use Rattle.ash_typed.specs.TypedTree.{Expr, Exprs}
use Rattle.ash_type_rules.specs.Environment.{Environment, ClassSignature, Callee, construction}
use Rattle.ash_type_rules.specs.ExpressionRules.{TypedExpr, check_expr, check_exprs, coerced_for_assignment, called, placed, all_placed}
use Rattle.ash_type_rules.specs.ExpressionRules.{term_of, first_at}
use Rattle.ash_type_rules.specs.Declarations.{Initialization, constructed, begun, begun_with, begun_by, begun_by_one}
use Rattle.ash_type_rules.specs.Declarations.{stored_first, initialized, check_decl, built}
use Rattle.ash_type_rules.specs.Typing.{IsKnown, is_object, HasType, AllHaveType, each, AreTypedArguments, IsConstructed}
use Rattle.ash_type_rules.specs.Typing.{construct, IsTypedBeginning, empty, default, value, one, built_by, IsDeclaredType, declared}
use Rattle.ash_type_rules.proofs.TypingWords.{no_fault, same_ok, bind_ok}
use Rattle.ash_type_rules.proofs.TypingComplete.{terms, all_terms, placed_count, complete, all_complete}
use Rattle.ash_type_rules.proofs.TypingComplete.{coerced_for_assignment_is}
use Rattle.ash_type_rules.proofs.TypingComplete.{arguments_is}
use Rattle.ash_type_rules.proofs.TypingSoundCalls.{at_ok, coerced_for_assignment_ok, called_ok}
use Rattle.ash_type_rules.proofs.TypingSound.{sound, all_sound}
use Rattle.ash_type_rules.specs.Terms.{call_of, initialization, Term, converted_to}

-- what begins by the rules begins so in the walk

built_is : (env : Environment) (at : ℕ) (o : ObjectType) (us : List TypedExpr) (count : ℕ) (callee : Callee)
    (parameters : List Ty) (trees : Exprs) → construction env o count ≡ Some callee
    → callee.parameters ≡ Some parameters → AreTypedArguments env.declarations.classes parameters (terms us) trees
    → constructed env.declarations.classes at us (construction env o count)
    ≡ Ok (Some (call_of callee.target (map var_type parameters) trees))
unfolding constructed called
built_is env at o us count callee parameters trees c p a =
    rw (c, p, arguments_is env.declarations.classes at parameters us trees a) refl

constructed_is : (env : Environment) (at : ℕ) (o : ObjectType) (us : List TypedExpr) (count : ℕ) (ts : List Term)
    (tree : Expr) → terms us ≡ ts → length ts ≡ count → IsConstructed env o ts tree
    → constructed env.declarations.classes at us (construction env o count) ≡ Ok (Some tree)
constructed_is env at o us count ts tree e n
    (construct {callee = callee} {parameters = parameters} {trees = trees} c p a) =
    built_is env at o us count callee parameters trees (subst (λ count. construction env o count ≡ Some callee) n c) p
    (subst (λ ts. AreTypedArguments env.declarations.classes parameters ts trees) (sym e) a)

empty_is : (env : Environment) (at : ℕ) (of : Ty) → is_object of ≡ false → begun env at of ≡ Ok None
unfolding begun
empty_is env at (ty.Object o) h = cc
empty_is env at _ h = refl

stored_is : (classes : List ClassSignature) (of : Ty) (b : ℕ) (t : Term) → fits classes of t.ty ≡ true
    → stored_first classes of (placed b t) ≡ Ok (Some (converted_to of t))
stored_is classes of b t h = rw (coerced_for_assignment_is classes of b t h) refl

value_is : (classes : List ClassSignature) (at : ℕ) (of : Ty) (b : ℕ) (t : Term) → is_object of ≡ false
    → fits classes of t.ty ≡ true → begun_with classes at of (placed b t) ≡ Ok (Some (converted_to of t))
unfolding begun_with
value_is classes at (ty.Object o) b t h f = cc
value_is classes at of b t h f = stored_is classes of b t f

one_is : (env : Environment) (of_at at : ℕ) (of : Ty) (b : ℕ) (t : Term) → object_of of ≡ None
    → fits env.declarations.classes of t.ty ≡ true
    → begun_by env of_at at of (placed b t ∷ []) ≡ Ok (Some (converted_to of t))
unfolding begun_by begun_by_one
one_is env of_at at (ty.Object o) b t h f = cc
one_is env of_at at (ty.Handle o) b t h f = cc
one_is env of_at at of b t h f = stored_is env.declarations.classes of b t f

pub begins_complete : {env : Environment} {of : Ty} {i : written.Initializer} {begins : Option Expr}
    → IsTypedBeginning env of i begins → (of_at at : ℕ) → initialized env of_at at of i ≡ Ok begins
unfolding initialized begun begun_by
begins_complete {env} {of} (empty h) of_at at = empty_is env of_at of h
begins_complete {env} (default {o = o} {tree = tree} c) of_at at = constructed_is env of_at o [] 0 [] tree refl refl c
begins_complete {env} (value {of = of} {e = e} {t = t} h d f) of_at at =
    rw (complete d) (value_is env.declarations.classes at of (first_at e) t h f)
begins_complete {env} (one {of = of} {e = e} {t = t} h d f) of_at at =
    rw (complete d) (one_is env of_at at of (first_at e) t h f)
begins_complete {env} (built_by {o = o} {es = es} {ts = ts} {tree = tree} all c) of_at at =
    rw (all_complete all)
    (constructed_is env of_at o (all_placed (written.exprs es) ts) (length (all_placed (written.exprs es) ts)) ts tree
    (all_terms all) (sym (placed_count all)) c)

pub declared_complete : {env : Environment} {of : Ty} {d : written.Decl} {i : Initialization} → IsDeclaredType env of d i
    → (at : ℕ) → check_decl env at of d ≡ Ok i
unfolding check_decl
declared_complete (declared {d = d} h) at = rw (begins_complete h at d.place.at) refl

-- what begins so in the walk begins by the rules

constructed_ok : (env : Environment) (at : ℕ) (o : ObjectType) (us : List TypedExpr) (count : ℕ) (found : Option Callee)
    (begins : Option Expr) → count ≡ length (terms us) → construction env o count ≡ found
    → constructed env.declarations.classes at us found ≡ Ok begins
    → (tree : Expr) × IsConstructed env o (terms us) tree × (Some tree ≡ begins)
unfolding constructed
constructed_ok env at o us count None begins n e h = absurd (no_fault _ begins h)
constructed_ok env at o us count (Some callee) begins n e h =
    let t = bind_ok (called env.declarations.classes at callee us callee.parameters) (λ t. Ok (built t)) begins h in
    let c = called_ok env.declarations.classes at callee us callee.parameters t.0 t.1 in (
      call_of callee.target (map var_type c.0) ((c.2).0),
      construct (subst (λ count. construction env o count ≡ Some callee) n e) c.1 ((c.2).1),
      ap (λ (t : TypedExpr). built t) ((c.2).2) ∙ same_ok (built t.0) begins t.2,
    )

begun_sound : (env : Environment) (at : ℕ) (of : Ty) (begins : Option Expr) → begun env at of ≡ Ok begins
    → IsTypedBeginning env of written.Default begins
unfolding begun
begun_sound env at (ty.Object o) begins h =
    let c = constructed_ok env at o [] 0 (construction env o 0) begins refl refl h in
    subst (λ begins. IsTypedBeginning env (ty.Object o) written.Default begins) c.2 (default c.1)
begun_sound env at of begins h = at_ok (λ begins. IsTypedBeginning env of written.Default begins) None begins h (empty refl)

stored_ok : (classes : List ClassSignature) (of : Ty) (t : TypedExpr) (begins : Option Expr) → stored_first classes of t ≡ Ok begins
    → (fits classes of t.ty ≡ true) × (Some (converted_to of (term_of t)) ≡ begins)
stored_ok classes of t begins h =
    let e = bind_ok (coerced_for_assignment classes of t) (λ e. Ok (Some e)) begins h in
    let f = coerced_for_assignment_ok classes of t e.0 e.1 in
    (f.0, ap Some f.1 ∙ same_ok (Some e.0) begins e.2)

value_sound : (env : Environment) (at : ℕ) (of : Ty) (e : written.Expr) (t : TypedExpr) (begins : Option Expr)
    → HasType env false e (term_of t) → begun_with env.declarations.classes at of t ≡ Ok begins
    → IsTypedBeginning env of (written.Value e) begins
unfolding begun_with
value_sound env at (ty.Object o) e t begins d h = absurd (no_fault _ begins h)
value_sound env at of e t begins d h = let s = stored_ok env.declarations.classes of t begins h in
    subst (λ begins. IsTypedBeginning env of (written.Value e) begins) s.1 (value refl d s.0)

out_first : {env : Environment} {e : written.Expr} {t : Term} {es : written.Exprs}
    → AllHaveType env (written.expr e es) (t ∷ []) → HasType env false e t
out_first (each d rest) = d

no_terms_of_some : {env : Environment} {e : written.Expr} {es : written.Exprs} → AllHaveType env (written.expr e es) [] → ⊥
no_terms_of_some h = elim h [ ]

no_second : {env : Environment} {e f : written.Expr} {t : Term} {es : written.Exprs}
    → AllHaveType env (written.expr e (written.expr f es)) (t ∷ []) → ⊥
no_second (each d rest) = no_terms_of_some rest

alone_sound : (env : Environment) (of : Ty) (es : List written.Expr) (t : TypedExpr) (begins : Option Expr)
    → object_of of ≡ None → AllHaveType env (written.exprs es) (term_of t ∷ [])
    → stored_first env.declarations.classes of t ≡ Ok begins → IsTypedBeginning env of (written.Arguments es) begins
alone_sound env of [] t begins n all h = elim all [ ]
alone_sound env of (e ∷ []) t begins n all h = let s = stored_ok env.declarations.classes of t begins h in
    subst (λ begins. IsTypedBeginning env of (written.Arguments (e ∷ [])) begins) s.1 (one n (out_first all) s.0)
alone_sound env of (e ∷ f ∷ es) t begins n all h = absurd (no_second all)

one_sound : (env : Environment) (at : ℕ) (of : Ty) (es : List written.Expr) (us : List TypedExpr) (begins : Option Expr)
    → object_of of ≡ None → AllHaveType env (written.exprs es) (terms us)
    → begun_by_one env.declarations.classes at of us ≡ Ok begins → IsTypedBeginning env of (written.Arguments es) begins
unfolding begun_by_one
one_sound env at of es (t ∷ []) begins n all h = alone_sound env of es t begins n all h
one_sound env at of es _ begins n all h = absurd (no_fault _ begins h)

begun_by_sound : (env : Environment) (of_at at : ℕ) (of : Ty) (es : List written.Expr) (us : List TypedExpr)
    (begins : Option Expr) → AllHaveType env (written.exprs es) (terms us) → begun_by env of_at at of us ≡ Ok begins
    → IsTypedBeginning env of (written.Arguments es) begins
unfolding begun_by
begun_by_sound env of_at at (ty.Object o) es us begins all h =
    let c = constructed_ok env of_at o us (length us) (construction env o (length us)) begins
    (sym (length-map us term_of)) refl h in
    subst (λ begins. IsTypedBeginning env (ty.Object o) (written.Arguments es) begins) c.2 (built_by all c.1)
begun_by_sound env of_at at (ty.Handle o) es us begins all h = absurd (no_fault _ begins h)
begun_by_sound env of_at at of es us begins all h = one_sound env at of es us begins refl all h

pub begins_sound : (env : Environment) → IsKnown env
    → (of_at at : ℕ) (of : Ty) (i : written.Initializer) (begins : Option Expr)
    → initialized env of_at at of i ≡ Ok begins → IsTypedBeginning env of i begins
unfolding initialized
begins_sound env known of_at at of written.Default begins h = begun_sound env of_at of begins h
begins_sound env known of_at at of (written.Value e) begins h =
    let t = bind_ok (check_expr env false e) (λ t. begun_with env.declarations.classes at of t) begins h in
    value_sound env at of e t.0 begins (sound env known false e t.0 t.1) t.2
begins_sound env known of_at at of (written.Arguments es) begins h =
    let ts = bind_ok (check_exprs env (written.exprs es)) (λ ts. begun_by env of_at at of ts) begins h in
    begun_by_sound env of_at at of es ts.0 begins (all_sound env known (written.exprs es) ts.0 ts.1) ts.2

pub declared_sound : (env : Environment) → IsKnown env → (at : ℕ) (of : Ty) (d : written.Decl) (i : Initialization)
    → check_decl env at of d ≡ Ok i → IsDeclaredType env of d i
unfolding check_decl
declared_sound env known at of d i h =
    let begins =
    bind_ok (initialized env at d.place.at of d.initializer) (λ value. Ok (initialization d.name of value)) i h in
    at_ok (λ i. IsDeclaredType env of d i) (initialization d.name of begins.0) i begins.2
    (declared (begins_sound env known at d.place.at of d.initializer begins.0 begins.1))
