-- What the rules of typing type is a sound function, a sound interface and sound variables.
use Rattle.std.specs.List.{AllByRecursion, AllZip}
use Rattle.std.proofs.Common.{◌≡◌, ◌≤◌, ◌+◌, ◌⊎◌, inl, inr, ℕ, suc, length, List, [], ◌∷◌, map, true, false, Option}
use Rattle.std.proofs.Common.{Some, None, refl, sym, ap, subst, subst₂, ◌∙◌, arith}
use Rattle.ash_tree.specs.Tree as written
use Rattle.ash_typed.specs.declared.types.VarType.{VarType}
use Rattle.ash_typed.specs.ModuleLimits.{max_class_members}
use Rattle.ash_typed.specs.StatementTree.{Initialization}
use Rattle.ash_typed.specs.Modules as modules
use Rattle.ash_typed.specs.TypedReturning.{AnyReturns}
use Rattle.ash_typed.specs.Signatures as signatures
use Rattle.ash_typed.specs.SoundStatements as sound_statements
use Rattle.ash_typed.specs.SoundModules as sound
use Rattle.ash_typed.specs.SoundModules.{AreInOrder}
use Rattle.ash_type_rules.specs.declared.types.Ty.{Ty}
use Rattle.ash_type_rules.specs.declared.types.Ty.TheVariants as ty
use Rattle.ash_type_rules.specs.TypeRules.{var_type, result_type}
use Rattle.ash_type_rules.specs.Environment.{Environment, with_locals}
use Rattle.ash_type_rules.specs.ModuleDeclarations.{ty_in, result_in}
use Rattle.ash_type_rules.specs.Scopes.{body_scope}
use Rattle.ash_type_rules.specs.Typing.{IsKnown, IsKnownType, IsVariableType, IsKnownVariable, IsDeclaredType}
use Rattle.ash_type_rules.specs.TypedStatements.{IsKnownScope}
use Rattle.ash_type_rules.specs.Returning.{returns_in}
use Rattle.ash_type_rules.specs.TypedModules.{IsPassed, IsPassedParameter, type_of_parameter, parameter_of, IsTypedResult}
use Rattle.ash_type_rules.specs.TypedModules.{AreTypedVariables, AreFields, IsRoutine, IsTypedFunction, IsTypedSignature, IsTypedInterface}
use Rattle.ash_type_rules.specs.TypedModules.{AreTypedInterfaces}
use Rattle.ash_type_rules.specs.Nesting.{BodyDeclaresInBlocks, FunctionDeclaresInBlocks}
use Rattle.ash_type_rules.specs.Soundness.{seen_in}
use Rattle.ash_type_rules.proofs.TakenNames.{all_append}
use Rattle.ash_type_rules.proofs.TypingKnown.{variable_is_known}
use Rattle.ash_type_rules.proofs.TypedRoutines.{passed_known, passed_variable, types_of}
use Rattle.ash_type_rules.proofs.SoundnessVariables.{type_sound, declared_sound}
use Rattle.ash_type_rules.proofs.SoundnessStatements.{stmts_sound}
use Rattle.ash_type_rules.proofs.SoundnessReturning.{any_tree_returns}
use Rattle.ash_tree.specs.Items.{Routine, routine_of, classes_of, interfaces_of, classes_before}

-- parameters and results

passed_type : (s : signatures.ModuleSignatures) (of : Ty) → IsPassed of → signatures.IsTypeInModule s (var_type of)
    → signatures.IsPassedType s (var_type of)
passed_type s ty.Bool h v = signatures.passed_truth
passed_type s (ty.Integer k) h v = signatures.passed_integer
passed_type s (ty.Handle o) h (signatures.handle i) = signatures.passed_handle i
passed_type s (ty.Object o) h v = absurd (cc)
passed_type s ty.Null h v = absurd (cc)
passed_type s ty.Void h v = absurd (cc)
passed_type s ty.Unknown h v = absurd (cc)

named_passed : (env : Environment) (of : written.Named) → IsPassed (ty_in env of)
    → signatures.IsPassedType (seen_in env).signatures (var_type (ty_in env of))
named_passed env of h =
    passed_type (seen_in env).signatures (ty_in env of) h
    (type_sound env.registered env.declarations of (passed_variable (ty_in env of) h))

parameters_passed : (env : Environment) (ps : List written.Parameter) → AllByRecursion (IsPassedParameter env) ps
    → AllByRecursion (signatures.IsPassedType (seen_in env).signatures) (map (type_of_parameter env) ps)
parameters_passed env [] h = tt
parameters_passed env (p ∷ ps) h = (named_passed env p.of h.0, parameters_passed env ps h.1)

parameters_known : (env : Environment) (ps : List written.Parameter) → AllByRecursion (IsPassedParameter env) ps
    → AllByRecursion IsKnownVariable (map (parameter_of env) ps)
parameters_known env [] h = tt
parameters_known env (p ∷ ps) h = (passed_variable (ty_in env p.of) h.0, parameters_known env ps h.1)

some_result : (s : signatures.ModuleSignatures) (of : Ty) → IsPassed of → signatures.IsPassedType s (var_type of)
    → signatures.IsResultInModule s (result_type of)
some_result s ty.Void h v = tt
some_result s _ h v = v

result_passed : (env : Environment) (of : Option written.Named) → IsTypedResult env of
    → signatures.IsResultInModule (seen_in env).signatures (result_type (result_in env of))
result_passed env None h = tt
result_passed env (Some of) h = some_result (seen_in env).signatures (ty_in env of) h (named_passed env of h)

result_known : (env : Environment) (of : Option written.Named) → IsTypedResult env of → IsKnownType (result_in env of)
result_known env None h = refl
result_known env (Some of) h = passed_known (ty_in env of) h

-- functions

body_returns : (env : Environment) (of : Ty) (r : Routine) (t : modules.Function) → IsRoutine env of r t
    → (t.result ≡ None) ⊎ AnyReturns t.body
unfolding returns_in
body_returns env of r t is = go is.returns
  where
    go : (of ≡ ty.Void) ⊎ (returns_in r.body ≡ true) → (t.result ≡ None) ⊎ AnyReturns t.body
    go (inl e) = inl (is.result ∙ ap result_type e)
    go (inr e) = inr (any_tree_returns is.body e)

pub routine_sound : (env : Environment) (of : Ty) (r : Routine) (t : modules.Function) → IsKnown env → IsKnownType of
    → signatures.IsResultInModule (seen_in env).signatures (result_type of) → BodyDeclaresInBlocks r.body
    → IsRoutine env of r t → sound.IsSoundFunction (seen_in env) t
routine_sound env of r t known known_of result nest is =
    let locals = parameters_known env r.parameters is.passed in
    let scope : IsKnownScope (body_scope (with_locals env (map (parameter_of env) r.parameters)) of) = record {
      env = record {
        interfaces = known.interfaces;
        classes = known.classes;
        functions = known.functions;
        globals = known.globals;
        locals = locals;
      };
      result = known_of;
    } in
    record {
      parameters =
          subst (AllByRecursion (signatures.IsPassedType (seen_in env).signatures)) (sym is.parameters)
          (parameters_passed env r.parameters is.passed);
      result = subst (signatures.IsResultInModule (seen_in env).signatures) (sym is.result) result;
      body = subst₂
          (λ (locals : List VarType) (returned : Option VarType).
          sound_statements.AreSoundStmts
          (record {
            env = record { signatures = (seen_in env).signatures; this = env.this; locals = locals };
            result = returned;
            may_break = false;
            may_continue = false;
          }) t.body) (types_of env r.parameters ∙ sym is.parameters) (sym is.result) (stmts_sound is.body scope nest);
      returns = body_returns env of r t is;
    }

function_sound : (env : Environment) (f : written.Function) (t : modules.Function) → IsKnown env
    → FunctionDeclaresInBlocks f → IsTypedFunction env f t → sound.IsSoundFunction (seen_in env) t
function_sound env f t known nest is =
    routine_sound env (result_in env f.result) (routine_of f) t known (result_known env f.result is.passed)
    (result_passed env f.result is.passed) nest is.routine

pub functions_sound : (env : Environment) (fs : List written.Function) (ts : List modules.Function) → IsKnown env
    → AllByRecursion FunctionDeclaresInBlocks fs → AllZip (IsTypedFunction env) fs ts
    → AllByRecursion (sound.IsSoundFunction (seen_in env)) ts
functions_sound env fs [] known nest h = tt
functions_sound env [] (t ∷ ts) known nest h = absurd h
functions_sound env (f ∷ fs) (t ∷ ts) known nest h =
    (function_sound env f t known nest.0 h.0, functions_sound env fs ts known nest.1 h.1)

-- interfaces

pub zip_length : {A B : Type 0} (R : A → B → Type 0) (xs : List A) (ys : List B) → AllZip R xs ys
    → length ys ≡ length xs
zip_length R [] [] h = refl
zip_length R [] (y ∷ ys) h = absurd h
zip_length R (x ∷ xs) [] h = absurd h
zip_length R (x ∷ xs) (y ∷ ys) h = ap suc (zip_length R xs ys h.1)

signature_sound : (env : Environment) (m : written.InterfaceMethod) (t : modules.Signature) → IsTypedSignature env m t
    → sound.IsSoundSignature (seen_in env).signatures t
signature_sound env m t is = record {
  parameters =
      subst (AllByRecursion (signatures.IsPassedType (seen_in env).signatures)) (sym is.parameters)
      (parameters_passed env m.parameters is.passed);
  result = subst (signatures.IsResultInModule (seen_in env).signatures) (sym is.result)
      (result_passed env m.result is.passed_result);
}

signatures_sound : (env : Environment) (ms : List written.InterfaceMethod) (ts : List modules.Signature)
    → AllZip (IsTypedSignature env) ms ts → AllByRecursion (sound.IsSoundSignature (seen_in env).signatures) ts
signatures_sound env ms [] h = tt
signatures_sound env [] (t ∷ ts) h = absurd h
signatures_sound env (m ∷ ms) (t ∷ ts) h = (signature_sound env m t h.0, signatures_sound env ms ts h.1)

interface_sound : (env : Environment) (i : written.Interface) (n total : ℕ) (t : modules.Interface) → n ≤ total
    → IsTypedInterface env i n t → sound.IsSoundInterface (seen_in env).signatures total t
interface_sound env i n total t few is = record {
  before = subst (λ k. k ≤ total) (sym is.before) few;
  few = subst (λ k. k ≤ max_class_members) (sym (zip_length (IsTypedSignature env) i.methods t.methods is.methods)) is.few;
  methods = signatures_sound env i.methods t.methods is.methods;
}

pub interfaces_sound : (env : Environment) (is : List written.Interface) (ns : List ℕ) (total : ℕ)
    (ts : List modules.Interface) → AllByRecursion (λ n. n ≤ total) ns → AreTypedInterfaces env is ns ts
    → AllByRecursion (sound.IsSoundInterface (seen_in env).signatures total) ts
interfaces_sound env is ns total [] few h = tt
interfaces_sound env [] [] total (t ∷ ts) few h = absurd h
interfaces_sound env [] (n ∷ ns) total (t ∷ ts) few h = absurd h
interfaces_sound env (i ∷ is) [] total (t ∷ ts) few h = absurd h
interfaces_sound env (i ∷ is) (n ∷ ns) total (t ∷ ts) few h =
    (interface_sound env i n total t few.0 h.0, interfaces_sound env is ns total ts few.1 h.1)

pub interfaces_length : (env : Environment) (is : List written.Interface) (ns : List ℕ) (ts : List modules.Interface)
    → AreTypedInterfaces env is ns ts → length ts ≡ length is
interfaces_length env [] [] [] h = refl
interfaces_length env [] [] (t ∷ ts) h = absurd h
interfaces_length env [] (n ∷ ns) ts h = absurd h
interfaces_length env (i ∷ is) [] ts h = absurd h
interfaces_length env (i ∷ is) (n ∷ ns) [] h = absurd h
interfaces_length env (i ∷ is) (n ∷ ns) (t ∷ ts) h = ap suc (interfaces_length env is ns ts h.1)

-- no more classes are declared before an interface than there are
pub before_within : (count : ℕ) (is : List written.Item)
    → AllByRecursion (λ n. n ≤ count + length (classes_of is)) (classes_before count is)
before_within count [] = tt
before_within count (written.AnInterface i ∷ is) = (omega arith, before_within count is)
before_within count (written.AClass c ∷ is) =
    let same : count + 1 + length (classes_of is) ≡ count + suc (length (classes_of is)) = omega arith in
    subst (λ most. AllByRecursion (λ n. n ≤ most) (classes_before (count + 1) is)) same (before_within (count + 1) is)
before_within count (written.AFunction f ∷ is) = before_within count is
before_within count (written.AGlobal v ∷ is) = before_within count is

-- interfaces are in the order of the source
pub interfaces_in_order : (env : Environment) (least count : ℕ) (is : List written.Item) (ts : List modules.Interface)
    → least ≤ count → AreTypedInterfaces env (interfaces_of is) (classes_before count is) ts → AreInOrder least ts
interfaces_in_order env least count [] [] few h = tt
interfaces_in_order env least count [] (t ∷ ts) few h = absurd h
interfaces_in_order env least count (written.AnInterface i ∷ is) [] few h = absurd h
interfaces_in_order env least count (written.AnInterface i ∷ is) (t ∷ ts) few h =
    let same : count ≡ t.classes_before = sym h.0.before in
    (subst (λ n. least ≤ n) same few, subst (λ n. AreInOrder n ts) same (interfaces_in_order env count count is ts (omega arith) h.1))
interfaces_in_order env least count (written.AClass c ∷ is) ts few h =
    interfaces_in_order env least (count + 1) is ts (omega arith) h
interfaces_in_order env least count (written.AFunction f ∷ is) ts few h =
    interfaces_in_order env least count is ts few h
interfaces_in_order env least count (written.AGlobal v ∷ is) ts few h = interfaces_in_order env least count is ts few h

-- variables

initialized : (env : Environment) (of : Ty) (ds : List written.Decl) (vs : List Initialization) → IsKnown env
    → IsKnownType of → signatures.IsTypeInModule (seen_in env).signatures (var_type of)
    → AllZip (IsDeclaredType env of) ds vs → AllByRecursion (sound_statements.IsInitialized (seen_in env)) vs
initialized env of ds [] known k type h = tt
initialized env of [] (v ∷ vs) known k type h = absurd h
initialized env of (d ∷ ds) (v ∷ vs) known k type h =
    (declared_sound h.0 known k type, initialized env of ds vs known k type h.1)

vars_sound : (env : Environment) (v : written.Vars) (vs : List Initialization) → IsKnown env
    → IsVariableType (ty_in env v.of) → AllZip (IsDeclaredType env (ty_in env v.of)) v.decls vs
    → AllByRecursion (sound_statements.IsInitialized (seen_in env)) vs
vars_sound env v vs known is h =
    initialized env (ty_in env v.of) v.decls vs known (variable_is_known (ty_in env v.of) is)
    (type_sound env.registered env.declarations v.of is) h

pub fields_sound : (env : Environment) (vs : List written.Vars) (ts : List Initialization) → IsKnown env
    → AreFields env vs ts → AllByRecursion (sound_statements.IsInitialized (seen_in env)) ts
fields_sound env [] ts known h = subst (AllByRecursion (sound_statements.IsInitialized (seen_in env))) (sym h) tt
fields_sound env (v ∷ vs) ts known h =
    subst (AllByRecursion (sound_statements.IsInitialized (seen_in env))) (sym h.5)
    (all_append (sound_statements.IsInitialized (seen_in env)) h.0 h.1 (vars_sound env v h.0 known h.2 h.3)
    (fields_sound env vs h.1 known h.4))

pub globals_sound : (env : Environment) (vs : List written.Vars) (ts : List modules.Variables) → IsKnown env
    → AllZip (AreTypedVariables env) vs ts → AllByRecursion (sound.AreSoundVariables (seen_in env)) ts
globals_sound env vs [] known h = tt
globals_sound env [] (t ∷ ts) known h = absurd h
globals_sound env (v ∷ vs) (t ∷ ts) known h =
    (vars_sound env v t.values known h.0.variable h.0.values, globals_sound env vs ts known h.1)
