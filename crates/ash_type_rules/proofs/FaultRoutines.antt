-- The fault of a name, a parameter or a function is at a token where its rule is broken.
use Rattle.std.proofs.Common.{◌≡◌, ℕ, ◌-◌, ◌∙◌, Bool, List, [], ◌∷◌, ◌++◌, Option, Some, None, Ok, nat_eq, inl, inr}
use Rattle.std.proofs.Common.{refl, ap}
use Rattle.std.specs.Prelude.{◌||◌, option_map}
use Rattle.std.specs.List.{AllByRecursion, list_any}
use Rattle.ash_lex.specs.Tokens.{Meaning, name, reserved}
use Rattle.ash_lex.specs.declared.words.ReservedWord.TheVariants as words
use Rattle.ash_tree.specs.Tree as written
use Rattle.ash_typed.specs.declared.types.ObjectType.{ObjectType}
use Rattle.ash_typed.specs.declared.types.ObjectType.TheVariants as objects
use Rattle.ash_type_rules.specs.declared.fault.Rule.TheVariants as rules
use Rattle.ash_type_rules.specs.declared.types.Ty.{Ty}
use Rattle.ash_type_rules.specs.declared.types.Ty.TheVariants as ty
use Rattle.ash_type_rules.specs.Environment.{Environment, Declared, declares, with_locals}
use Rattle.ash_type_rules.specs.ExpressionRules.{is_void}
use Rattle.ash_type_rules.specs.ModuleDeclarations.{ty_in}
use Rattle.ash_typed.specs.StatementTree.{Body}
use Rattle.ash_type_rules.specs.Scopes.{body_scope}
use Rattle.ash_type_rules.specs.StatementRules.{check_body}
use Rattle.ash_type_rules.specs.Returning.{returns_in}
use Rattle.ash_tree.specs.Items.{Routine}
use Rattle.ash_type_rules.specs.Declarations.{at_type, at_type_name, known_ty}
use Rattle.ash_type_rules.specs.ItemRules.{Names, is_taken, untaken, one_more, placed, passed_ty, check_result, Row}
use Rattle.ash_type_rules.specs.ItemRules.{with_variable, check_decls, no_variables, check_vars, check_parameters, returning}
use Rattle.ash_type_rules.specs.ItemRules.{check_routine, InterfaceMembers, check_signature, check_signatures, no_signatures}
use Rattle.ash_type_rules.specs.ItemRules.{check_interface}
use Rattle.ash_type_rules.proofs.FaultTokens.{HasToken, NamedIn, DeclIn, VarsIn, StmtsIn, ParameterIn, ResultIn, RoutineIn}
use Rattle.ash_type_rules.proofs.FaultTokens.{InterfaceMethodIn, InterfaceIn}
use Rattle.ash_type_rules.specs.Phrases as phrases
use Rattle.ash_type_rules.specs.Phrases.{Phrase, names_of_methods}
use Rattle.ash_type_rules.specs.FaultMeaning as meaning
use Rattle.ash_type_rules.specs.FaultMeaning.{Naming, named_by, counted_by, stored_use, passed, written_by}
use Rattle.ash_type_rules.proofs.FaultNames.{with_name, with_one, with_decls, names_after_signature}
use Rattle.ash_type_rules.proofs.TakenNames.{names_with, neither}
use Rattle.ash_type_rules.proofs.FaultAnswers.{Script, OccursIn, Wrong, Answers, fine, faulty, Fine, name_taken, bind}
use Rattle.ash_type_rules.proofs.FaultAnswers.{bind_by, bind_to, either, IsOf, Miswritten, miswritten}
use Rattle.ash_type_rules.proofs.FaultPhrases.{sees}
use Rattle.ash_type_rules.proofs.FaultVariables.{IsNamedAt, IsWrittenAt, named_at, written_at, variables_ty_in, decl_in}
use Rattle.ash_type_rules.proofs.FaultStatements.{stmts_in}

-- names

-- what a phrase declares, at its name
abbrev pub the_name : ℕ → List ℕ → Bool → Naming
the_name at text b = record { at = at; text = text; is_refused = b }

pub untaken_in : (script : Script) (names : Names) (at : ℕ) (text : List ℕ) (x : Phrase)
    → HasToken script.tokens (name text) at → OccursIn script x
    → named_by x ≡ Some (the_name at text (is_taken names text))
    → Answers script (λ (next : Names). next ≡ with_name names text) (untaken names at text)
unfolding untaken
untaken_in script names at text x h r e =
    either (is_taken names text) (λ b. name_taken (the_name at text (is_taken names text)) r e h b) (λ b. fine refl)

one_more_in : (script : Script) (names : Names) (at : ℕ) (text : List ℕ) (x : Phrase)
    → HasToken script.tokens (name text) at → OccursIn script x
    → counted_by x ≡ Some (the_name at text (nat_eq names.room 0))
    → Answers script (λ (next : Names). next ≡ names_with names names.taken (names.room - 1)) (one_more names at)
unfolding one_more
one_more_in script names at text x h r e =
    either (nat_eq names.room 0) (λ b. faulty (name text, h, refl, meaning.too_many r e b)) (λ b. fine refl)

pub placed_in : (script : Script) (names : Names) (at : ℕ) (text : List ℕ) (x : Phrase)
    → HasToken script.tokens (name text) at → OccursIn script x
    → named_by x ≡ Some (the_name at text (is_taken names text))
    → counted_by x ≡ Some (the_name at text (nat_eq names.room 0))
    → Answers script (λ (next : Names). next ≡ with_one names text) (placed names at text)
placed_in script names at text x h r e f =
    bind_to _ (untaken_in script names at text x h r e) (one_more_in script (with_name names text) at text x h r f)

-- types

passed_ty_in : (script : Script) (of : written.Named) (t : Ty) → IsNamedAt script t (at_type_name of)
    → IsWrittenAt script t (at_type of)
    → ((o : ObjectType) (m : Meaning) → t ≡ ty.Object o → Wrong script rules.Misplaced (at_type of) m)
    → Fine script (passed_ty of t)
unfolding passed_ty
passed_ty_in script of ty.Unknown n w m = faulty (name n.0, n.1, refl, n.2)
passed_ty_in script of (ty.Object (objects.Array e)) n (inl w) m =
    faulty (reserved words.Array, w, refl, m (objects.Array e) (reserved words.Array) refl)
passed_ty_in script of (ty.Object (objects.Array e)) n (inr w) m =
    faulty (name w.0, w.1, refl, m (objects.Array e) (name w.0) refl)
passed_ty_in script of (ty.Object (objects.Class c)) n w m =
    faulty (name w.0, w.1, refl, m (objects.Class c) (name w.0) refl)
passed_ty_in script of (ty.Object (objects.Interface i)) n w m =
    faulty (name w.0, w.1, refl, m (objects.Interface i) (name w.0) refl)
passed_ty_in script of (ty.Object (objects.Host kind)) n w m =
    faulty (name w.0, w.1, refl, m (objects.Host kind) (name w.0) refl)
passed_ty_in script of ty.Void n w m = fine tt
passed_ty_in script of ty.Bool n w m = fine tt
passed_ty_in script of (ty.Integer k) n w m = fine tt
passed_ty_in script of (ty.Handle o) n w m = fine tt
passed_ty_in script of ty.Null n w m = fine tt

passed_in : (script : Script) (env : Environment) (of : written.Named) → NamedIn script.tokens of
    → Miswritten script env (passed of) → Fine script (passed_ty of (ty_in env of))
passed_in script env of h w =
    passed_ty_in script of (ty_in env of) (named_at script env of h w.unknown) (written_at script env of h) (λ o m e.
    w.misplaced o m e refl)

pub result_in : (script : Script) (env : Environment) (x : Phrase) (of : Option written.Named)
    → ResultIn script.tokens of
    → IsOf script env → OccursIn script x → written_by x ≡ option_map passed of → Fine script (check_result env of)
result_in script env x None h see r e = fine tt
result_in script env x (Some of) h see r e = passed_in script env of h (miswritten script env x (passed of) see r e)

-- variables

decls_in : (script : Script) (env : Environment) (at : ℕ) (of : Ty) (row : Row) (ds : List written.Decl)
    → IsWrittenAt script of at → AllByRecursion (DeclIn script.tokens) ds
    → OccursIn script (phrases.Variables env at of row.names ds)
    → Answers script (λ (next : Row). next.names ≡ with_decls row.names ds) (check_decls env at of row ds)
decls_in script env at of row [] w h r = fine refl
decls_in script env at of row (d ∷ ds) w h r =
    bind_to _ (placed_in script row.names d.place.at d.name (phrases.Variables env at of row.names (d ∷ ds)) (h.0).0 r
    refl refl) (bind (decl_in script env at of d w h.0 (phrases.variable r)) (λ value v.
    decls_in script env at of
    (record { names = with_one row.names d.name; variables = with_variable row.variables value }) ds w h.1
    (phrases.other_variables r)))

-- where the variables of a type that is known are
pub vars_in : (script : Script) (env : Environment) (names : Names) (v : written.Vars) → VarsIn script.tokens v
    → Miswritten script env (stored_use v.of)
    → ((of : Ty) → known_ty v.of (ty_in env v.of) ≡ Ok of
    → OccursIn script (phrases.Variables env (at_type v.of) of names v.decls)) → Answers script
    (λ (row : Row). row.names ≡ with_decls names v.decls) (check_vars env names v)
unfolding check_vars
vars_in script env names v h w r =
    bind_by (variables_ty_in script env v.of h.0 w) (λ of e at.
    decls_in script env (at_type v.of) of (record { names = names; variables = no_variables v.of }) v.decls at h.1
    (r of e))

-- functions

parameters_in : (script : Script) (env : Environment) (before : List Declared) (ps : List written.Parameter)
    → AllByRecursion (ParameterIn script.tokens) ps → OccursIn script (phrases.Parameters env before ps)
    → Fine script (check_parameters env before ps)
parameters_in script env before [] h r = fine tt
parameters_in script env before (p ∷ ps) h r =
    bind_by (passed_in script env p.of (h.0).0
    (miswritten script env (phrases.Parameters env before (p ∷ ps)) (passed p.of) (sees r) r refl))
    (λ of e u. either (list_any (declares p.name) before)
    (λ b. name_taken (the_name p.place.at p.name (list_any (declares p.name) before)) r refl (h.0).1 b)
    (λ b. parameters_in script env (before ++ record { name = p.name; of = of } ∷ []) ps h.1
    (phrases.other_parameters r e)))

body_in : (script : Script) (env : Environment) (of : Ty) (body : List written.Stmt)
    → StmtsIn script.tokens (written.stmts body)
    → OccursIn script (phrases.Statements (body_scope env of) (written.stmts body))
    → Fine script (check_body env of body)
unfolding check_body
body_in script env of body h r = stmts_in script (body_scope env of) (written.stmts body) h r

returning_in : (script : Script) (env : Environment) (of : Ty) (c : Routine) (body : Body)
    → HasToken script.tokens (name c.name) c.place.at → OccursIn script (phrases.RoutinePhrase env of c)
    → Fine script (returning c.place.at of c.body body)
unfolding returning
returning_in script env of c body h r =
    either (is_void of || returns_in c.body) (λ b. fine tt)
    (λ b. neither (is_void of) (returns_in c.body) b (λ v n. faulty (name c.name, h, refl, meaning.no_return r v n)))

pub routine_in : (script : Script) (env : Environment) (of : Ty) (c : Routine)
    → RoutineIn script.tokens c.place c.name c.parameters c.body → OccursIn script (phrases.RoutinePhrase env of c)
    → Fine script (check_routine env of c)
unfolding check_routine
routine_in script env of c h r =
    bind_by (parameters_in script env [] c.parameters h.1 (phrases.parameters r)) (λ locals e u.
    bind (body_in script (with_locals env locals) of c.body h.2 (phrases.body r e)) (λ body v.
    bind (returning_in script env of c body h.0 r) (λ done w. fine tt)))

-- interfaces

signature_in : (script : Script) (env : Environment) (before : List written.InterfaceMethod) (ss : InterfaceMembers)
    (m : written.InterfaceMethod) (ms : List written.InterfaceMethod) → InterfaceMethodIn script.tokens m
    → ss.names ≡ names_of_methods before → OccursIn script (phrases.Methods env before (m ∷ ms))
    → Answers script
    (λ (next : InterfaceMembers). next.names ≡ names_of_methods (before ++ m ∷ [])) (check_signature env ss m)
unfolding check_signature
signature_in script env before ss m ms h n r =
    let x = phrases.Methods env before (m ∷ ms) in
    bind (result_in script env x m.result h.0 (sees r) r refl) (λ of u.
    bind_to _ (placed_in script ss.names m.place.at m.name x h.1 r (rw n refl) (rw n refl))
    (bind (parameters_in script env [] m.parameters h.2 (phrases.method_parameters r)) (λ parameters w.
    fine (ap (λ names. with_one names m.name) n ∙ names_after_signature before m))))

signatures_in : (script : Script) (env : Environment) (before : List written.InterfaceMethod) (ss : InterfaceMembers)
    (ms : List written.InterfaceMethod) → AllByRecursion (InterfaceMethodIn script.tokens) ms
    → ss.names ≡ names_of_methods before → OccursIn script (phrases.Methods env before ms)
    → Fine script (check_signatures env ss ms)
signatures_in script env before ss [] h n r = fine tt
signatures_in script env before ss (m ∷ ms) h n r =
    bind (signature_in script env before ss m ms h.0 n r) (λ next k.
    signatures_in script env (before ++ m ∷ []) next ms h.1 k (phrases.other_methods r))

pub interface_in : (script : Script) (env : Environment) (classes : ℕ) (i : written.Interface)
    → InterfaceIn script.tokens i
    → OccursIn script (phrases.Methods env [] i.methods) → Fine script (check_interface env classes i)
unfolding check_interface
interface_in script env classes i h r =
    bind (signatures_in script env [] no_signatures i.methods h.1 refl r) (λ ss u. fine tt)
