-- Variables of a module or of a class are typed exactly as the rules say, and take their names.
use Rattle.std.proofs.Common.{◌≡◌, ℕ, suc, List, [], ◌∷◌, ◌++◌, map, length, Option, Some, None, Ok, refl, sym, ◌∙◌, ap}
use Rattle.std.proofs.Common.{subst, arith}
use Rattle.std.specs.List.{AllZip}
use Rattle.std.proofs.lemmas.List.{append_assoc, append-nil}
use Rattle.ash_tree.specs.Tree as written
use Rattle.ash_tree.specs.declared.tree.types.Primitive.{Primitive}
use Rattle.ash_tree.specs.declared.tree.types.Primitive.TheVariants as primitives
use Rattle.ash_typed.specs.declared.types.ObjectType.{ObjectType}
use Rattle.ash_typed.specs.declared.types.ObjectType.TheVariants as objects
use Rattle.ash_type_rules.specs.declared.types.Ty.{Ty}
use Rattle.ash_type_rules.specs.declared.types.Ty.TheVariants as ty
use Rattle.ash_type_rules.specs.TypeRules.{ty_of}
use Rattle.ash_type_rules.specs.Environment.{Environment}
use Rattle.ash_type_rules.specs.ModuleDeclarations.{object_named, array_named, object_ty, handle_ty, ty_named, ty_in}
use Rattle.ash_type_rules.specs.Typing.{IsKnown, IsVariableType, IsDeclaredType}
use Rattle.ash_type_rules.specs.Declarations.{Initialization, at_type, known_ty, check_decl}
use Rattle.ash_typed.specs.Modules.{Variables}
use Rattle.ash_type_rules.specs.ItemRules.{Names, Row, placed, with_variable, check_decls, no_variables, check_vars}
use Rattle.ash_type_rules.specs.TypedModules.{AreTypedVariables}
use Rattle.ash_type_rules.proofs.Bindings.{no_err, ok_is, bind_ok, bind_is}
use Rattle.ash_type_rules.proofs.TakenNames.{Distinct, grown, grown-none, grown-then, CanTake, takes_none, takes_then}
use Rattle.ash_type_rules.proofs.TakenNames.{takes_first, takes_rest, placed_sound, placed_complete}
use Rattle.ash_type_rules.proofs.TypingVariables.{declared_sound, declared_complete}
use Rattle.ash_tree.specs.Items.{decl_name, names_of}

-- a type of variables

object_sound : (at : written.Named) (o : ObjectType) (of : Ty) → known_ty at (ty.Object o) ≡ Ok of
    → IsVariableType (ty.Object o) × (of ≡ ty.Object o)
unfolding known_ty
object_sound at (objects.Class c) of h = (refl, sym (ok_is _ of h))
object_sound at (objects.Interface i) of h = absurd (no_err _ of h)
object_sound at (objects.Host kind) of h = (refl, sym (ok_is _ of h))
object_sound at (objects.Array e) of h = (refl, sym (ok_is _ of h))

object_complete : (at : written.Named) (o : ObjectType) → IsVariableType (ty.Object o)
    → known_ty at (ty.Object o) ≡ Ok (ty.Object o)
unfolding known_ty
object_complete at (objects.Class c) h = refl
object_complete at (objects.Interface i) h = absurd (cc)
object_complete at (objects.Host kind) h = refl
object_complete at (objects.Array e) h = refl

pub known_complete : (at : written.Named) (t : Ty) → IsVariableType t → known_ty at t ≡ Ok t
unfolding known_ty
known_complete at ty.Unknown h = absurd (cc)
known_complete at ty.Void h = absurd (cc)
known_complete at ty.Bool h = refl
known_complete at (ty.Integer k) h = refl
known_complete at (ty.Object o) h = object_complete at o h
known_complete at (ty.Handle o) h = refl
known_complete at ty.Null h = absurd (cc)

-- a type that is written and taken is one of variables

primitive_sound : (at : written.Named) (p : Primitive) (of : Ty) → known_ty at (ty_of p) ≡ Ok of
    → IsVariableType (ty_of p) × (of ≡ ty_of p)
unfolding known_ty
primitive_sound at primitives.Bool of h = (refl, sym (ok_is _ of h))
primitive_sound at primitives.Int of h = (refl, sym (ok_is _ of h))
primitive_sound at primitives.Int64 of h = (refl, sym (ok_is _ of h))
primitive_sound at primitives.Uint of h = (refl, sym (ok_is _ of h))
primitive_sound at primitives.Uint64 of h = (refl, sym (ok_is _ of h))

some_object_sound : (at : written.Named) (o : Option ObjectType) (of : Ty) → known_ty at (object_ty o) ≡ Ok of
    → IsVariableType (object_ty o) × (of ≡ object_ty o)
unfolding known_ty
some_object_sound at None of h = absurd (no_err _ of h)
some_object_sound at (Some o) of h = object_sound at o of h

some_handle_sound : (at : written.Named) (o : Option ObjectType) (of : Ty) → known_ty at (handle_ty o) ≡ Ok of
    → IsVariableType (handle_ty o) × (of ≡ handle_ty o)
unfolding known_ty
some_handle_sound at None of h = absurd (no_err _ of h)
some_handle_sound at (Some o) of h = (refl, sym (ok_is _ of h))

pub known_sound : (env : Environment) (at of : written.Named) (t : Ty) → known_ty at (ty_in env of) ≡ Ok t
    → IsVariableType (ty_in env of) × (t ≡ ty_in env of)
unfolding ty_named
known_sound env at (written.Prim p k) t h = primitive_sound at k t h
known_sound env at (written.Object p name) t h =
    some_object_sound at (object_named env.registered env.declarations name) t h
known_sound env at (written.Handle p name) t h =
    some_handle_sound at (object_named env.registered env.declarations name) t h
known_sound env at (written.Array p of) t h = some_object_sound at (array_named env.registered env.declarations of) t h
known_sound env at (written.ArrayHandle p of) t h =
    some_handle_sound at (array_named env.registered env.declarations of) t h

-- more variables after those so far

abbrev row_with : Row → List (List ℕ) → ℕ → List Initialization → Row
row_with row names k values = record {
  names = grown row.names names k;
  variables = record { line = row.variables.line; values = row.variables.values ++ values };
}

abbrev row_of : ℕ → Names → List Initialization → Row
row_of line taken values = record { names = taken; variables = record { line = line; values = values } }

same_row : (line : ℕ) (n m : Names) (vs ws : List Initialization) → n ≡ m → vs ≡ ws
    → row_of line n vs ≡ row_of line m ws
same_row line n m vs ws h i = rw (h, i) refl

row_with-none : (row : Row) → row_with row [] 0 [] ≡ row
row_with-none row =
    same_row row.variables.line (grown row.names [] 0) row.names _ _ (grown-none row.names)
    (append-nil row.variables.values)

row_with-then : (row : Row) (x : List ℕ) (xs : List (List ℕ)) (k : ℕ) (v : Initialization) (vs : List Initialization)
    → row_with (row_with row (x ∷ []) 1 (v ∷ [])) xs k vs ≡ row_with row (x ∷ xs) (suc k) (v ∷ vs)
row_with-then row x xs k v vs =
    same_row row.variables.line _ (grown row.names (x ∷ xs) (suc k)) _ _
    (grown-then row.names (x ∷ []) xs 1 k (suc k) (omega arith)) (append_assoc row.variables.values (v ∷ []) vs)

-- variables of one type

record DeclsWalked (env : Environment) (of : Ty) (row : Row) (ds : List written.Decl) (after : Row) : Type 0 where
  can : CanTake row.names (map decl_name ds) (length ds)
  values : List Initialization
  each : AllZip (IsDeclaredType env of) ds values
  is : after ≡ row_with row (map decl_name ds) (length ds) values

decls_sound : (env : Environment) (at : ℕ) (of : Ty) → IsKnown env → IsVariableType of
    → (ds : List written.Decl) (row after : Row) → Distinct row.names.taken → check_decls env at of row ds ≡ Ok after
    → DeclsWalked env of row ds after
decls_sound env at of known known_of [] row after d h = record {
  can = takes_none row.names d;
  values = [];
  each = tt;
  is = sym (ok_is row after h) ∙ sym (row_with-none row);
}
decls_sound env at of known known_of (x ∷ ds) row after d h =
    let p = bind_ok (placed row.names x.place.at x.name) _ after h in
    let v = bind_ok (check_decl env at of x) _ after p.2 in
    let s = placed_sound row.names x.place.at x.name p.0 d p.1 in
    let next : Row = row_with row (x.name ∷ []) 1 (v.0 ∷ []) in
    let there : check_decls env at of next ds ≡ Ok after =
    subst (λ (n : Names).
    check_decls env at of (record { names = n; variables = with_variable row.variables v.0 }) ds ≡ Ok after) s.1
    v.2 in
    let go = decls_sound env at of known known_of ds next after s.0.distinct there in
    record {
      can = takes_then row.names (x.name ∷ []) (map decl_name ds) 1 (length ds) (suc (length ds)) (omega arith) s.0
          go.can;
      values = v.0 ∷ go.values;
      each = (declared_sound env known at of x v.0 v.1, go.each);
      is = go.is ∙ row_with-then row x.name (map decl_name ds) (length ds) v.0 go.values;
    }

decls_complete : (env : Environment) (at : ℕ) (of : Ty) → IsKnown env → IsVariableType of
    → (ds : List written.Decl) (values : List Initialization) (row : Row)
    → CanTake row.names (map decl_name ds) (length ds) → AllZip (IsDeclaredType env of) ds values
    → check_decls env at of row ds ≡ Ok (row_with row (map decl_name ds) (length ds) values)
decls_complete env at of known known_of [] [] row can each = ap (λ (r : Row). Ok r) (sym (row_with-none row))
decls_complete env at of known known_of [] (v ∷ vs) row can each = absurd each
decls_complete env at of known known_of (x ∷ ds) [] row can each = absurd each
decls_complete env at of known known_of (x ∷ ds) (v ∷ vs) row can each =
    let first = takes_first row.names (x.name ∷ []) (map decl_name ds) 1 (length ds) (suc (length ds)) (omega arith)
    can in
    let rest = takes_rest row.names (x.name ∷ []) (map decl_name ds) 1 (length ds) (suc (length ds)) (omega arith)
    can in
    bind_is (placed row.names x.place.at x.name) _ (grown row.names (x.name ∷ []) 1) _
    (placed_complete row.names x.place.at x.name first)
    (bind_is (check_decl env at of x) _ v _ (declared_complete each.0 at)
    (decls_complete env at of known known_of ds vs (row_with row (x.name ∷ []) 1 (v ∷ [])) rest each.1
    ∙ ap (λ (r : Row). Ok r) (row_with-then row x.name (map decl_name ds) (length ds) v vs)))

-- the variables of one declaration

pub record VarsWalked (env : Environment) (names : Names) (v : written.Vars) (after : Row) : Type 0 where
  pub can : CanTake names (names_of v) (length v.decls)
  pub taken : after.names ≡ grown names (names_of v) (length v.decls)
  pub typed : AreTypedVariables env v after.variables

begun : Names → written.Vars → Row
begun names v = record { names = names; variables = no_variables v.of }

pub vars_sound : (env : Environment) → IsKnown env → (names : Names) (v : written.Vars) (after : Row)
    → Distinct names.taken → check_vars env names v ≡ Ok after → VarsWalked env names v after
unfolding check_vars begun
vars_sound env known names v after d h =
    let k = bind_ok (known_ty v.of (ty_in env v.of)) _ after h in
    let s = known_sound env v.of v.of k.0 k.1 in
    let there : check_decls env (at_type v.of) (ty_in env v.of) (begun names v) v.decls ≡ Ok after =
    subst (λ (of : Ty). check_decls env (at_type v.of) of (begun names v) v.decls ≡ Ok after) s.1 k.2 in
    let go = decls_sound env (at_type v.of) (ty_in env v.of) known s.0 v.decls (begun names v) after d there in
    record {
      can = go.can;
      taken = ap (λ (r : Row). r.names) go.is;
      typed = record {
        variable = s.0;
        line = ap (λ (r : Row). r.variables.line) go.is;
        values = subst
            (λ (r : Row). AllZip (IsDeclaredType env (ty_in env v.of)) v.decls r.variables.values) (sym go.is) go.each;
      };
    }

pub vars_complete : (env : Environment) → IsKnown env → (names : Names) (v : written.Vars) (typed : Variables)
    → CanTake names (names_of v) (length v.decls) → AreTypedVariables env v typed
    → check_vars env names v ≡ Ok (record { names = grown names (names_of v) (length v.decls); variables = typed })
unfolding check_vars begun
vars_complete env known names v typed can are =
    let l = are.line in
    bind_is (known_ty v.of (ty_in env v.of)) _ (ty_in env v.of) _ (known_complete v.of (ty_in env v.of) are.variable)
    (decls_complete env (at_type v.of) (ty_in env v.of) known are.variable v.decls typed.values (begun names v) can
    are.values ∙ ap (λ (r : Row). Ok r) (rw (sym l) refl))
