-- What the items of a typed module see is what the written ones saw.
use Rattle.std.specs.List.{AllZip}
use Rattle.std.proofs.Common.{◌≡◌, ◌+◌, ℕ, List, [], ◌∷◌, ◌++◌, map, Option, Some, None, refl, sym, ap, ap₂, ◌∙◌}
use Rattle.ash_registrations.specs.Registrations as host
use Rattle.ash_tree.specs.Tree as written
use Rattle.ash_typed.specs.declared.types.ObjectType.{ObjectType}
use Rattle.ash_typed.specs.StatementTree.{Initialization}
use Rattle.ash_typed.specs.Modules as modules
use Rattle.ash_typed.specs.Signatures as signatures
use Rattle.ash_type_rules.specs.declared.types.Ty.{Ty}
use Rattle.ash_type_rules.specs.TypeRules.{var_type, result_type}
use Rattle.ash_type_rules.specs.Environment.{Environment, ModuleDeclarations, inside, type_declared}
use Rattle.ash_type_rules.specs.ModuleDeclarations.{object_named, ty_named, result_named, declared, variables, parameter_ty}
use Rattle.ash_type_rules.specs.ModuleDeclarations.{function_declaration, signature_declaration, interface_declaration, class_declaration}
use Rattle.ash_type_rules.specs.ModuleDeclarations.{interface_place}
use Rattle.ash_type_rules.specs.ModuleDeclarations.{with_place, listed_in, names_in, declarations, ty_in, result_in}
use Rattle.ash_type_rules.specs.ModuleDeclarations.{all_variables}
use Rattle.ash_type_rules.specs.ModuleDeclarations.{constructed_by}
use Rattle.ash_tree.specs.Items.{classes_of, interfaces_of, classes_before, functions_of, globals_of, fields_of}
use Rattle.ash_tree.specs.Items.{methods_of, constructors_of}
use Rattle.ash_type_rules.specs.Typing.{IsDeclaredType, declared as is_declared}
use Rattle.ash_type_rules.specs.TypedModules.{type_of_parameter, AreTypedVariables, AreFields, IsTypedFunction, IsTypedSignature}
use Rattle.ash_type_rules.specs.TypedModules.{IsTypedInterface, AreTypedInterfaces, IsListed, HasConstructor, IsTypedClass, AreTypedClasses}
use Rattle.ash_type_rules.specs.TypedModules.{environment, IsTyped}
use Rattle.ash_type_rules.specs.Offered.{offered}
use Rattle.ash_type_rules.specs.Soundness.{signature_of, signatures_of_interface, signature_of_class, signatures_in}
use Rattle.ash_type_rules.proofs.NamedTypes.{same_type, same_object}
use Rattle.ash_type_rules.proofs.SoundnessVariables.{map-append}

-- lists

zip_same : {A B C : Type 0} (R : A → B → Type 0) (f : B → C) (g : A → C) → ((x : A) (y : B) → R x y → f y ≡ g x)
    → (xs : List A) (ys : List B) → AllZip R xs ys → map f ys ≡ map g xs
zip_same R f g one [] [] h = refl
zip_same R f g one [] (y ∷ ys) h = absurd h
zip_same R f g one (x ∷ xs) [] h = absurd h
zip_same R f g one (x ∷ xs) (y ∷ ys) h = ap₂ (λ z zs. z ∷ zs) (one x y h.0) (zip_same R f g one xs ys h.1)

map-map : {A B C : Type 0} (f : B → C) (g : A → B) (xs : List A) → map f (map g xs) ≡ map (λ x. f (g x)) xs
map-map f g [] = refl
map-map f g (x ∷ xs) = ap (λ ys. f (g x) ∷ ys) (map-map f g xs)

map-same : {A B : Type 0} (f g : A → B) → ((x : A) → f x ≡ g x) → (xs : List A) → map f xs ≡ map g xs
map-same f g one [] = refl
map-same f g one (x ∷ xs) = ap₂ (λ y ys. y ∷ ys) (one x) (map-same f g one xs)

-- what is written is looked up by these names as the environment does
pub record NamesAgree (env : Environment) (registrations : List host.Registration) (named : ModuleDeclarations) : Type 0 where
  pub types : (of : written.Named) → ty_in env of ≡ ty_named registrations named of
  pub names : (name : List ℕ) → object_named env.registered env.declarations name ≡ object_named registrations named name

within_class : {env : Environment} {registrations : List host.Registration} {named : ModuleDeclarations}
    → NamesAgree env registrations named → (place : ℕ)
    → NamesAgree (inside env place) registrations named
within_class agree place = record { types = agree.types; names = agree.names }

-- functions and signatures

same_result : {env : Environment} {registrations : List host.Registration} {named : ModuleDeclarations}
    → NamesAgree env registrations named
    → (of : Option written.Named) → result_in env of ≡ result_named registrations named of
same_result agree None = refl
same_result agree (Some of) = agree.types of

same_parameters : {env : Environment} {registrations : List host.Registration} {named : ModuleDeclarations}
    → NamesAgree env registrations named
    → (ps : List written.Parameter) → map (type_of_parameter env) ps ≡ map var_type (map (parameter_ty registrations named) ps)
same_parameters agree [] = refl
same_parameters agree (p ∷ ps) = ap₂ (λ of rest. var_type of ∷ rest) (agree.types p.of) (same_parameters agree ps)

same_function : {env : Environment} {registrations : List host.Registration} {named : ModuleDeclarations}
    → NamesAgree env registrations named
    → (f : written.Function) (t : modules.Function) → IsTypedFunction env f t
    → signatures.signature_of t ≡ signature_of (function_declaration registrations named f)
same_function agree f t is = λ i. record {
  name = is.routine.name i;
  result = (is.routine.result ∙ ap result_type (same_result agree f.result)) i;
  parameters = (is.routine.parameters ∙ same_parameters agree f.parameters) i;
}

same_signature : {env : Environment} {registrations : List host.Registration} {named : ModuleDeclarations}
    → NamesAgree env registrations named
    → (m : written.InterfaceMethod) (t : modules.Signature) → IsTypedSignature env m t
    → t ≡ signature_of (signature_declaration registrations named m)
same_signature agree m t is = λ i. record {
  name = is.name i;
  result = (is.result ∙ ap result_type (same_result agree m.result)) i;
  parameters = (is.parameters ∙ same_parameters agree m.parameters) i;
}

same_methods : {env : Environment} {registrations : List host.Registration} {named : ModuleDeclarations}
    → NamesAgree env registrations named
    → (fs : List written.Function) (ts : List modules.Function) → AllZip (IsTypedFunction env) fs ts
    → map signatures.signature_of ts ≡ map signature_of (map (function_declaration registrations named) fs)
same_methods {env} {registrations} {named} agree fs ts h =
    zip_same (IsTypedFunction env) signatures.signature_of
    (λ f. signature_of (function_declaration registrations named f)) (same_function agree) fs ts h
    ∙ sym (map-map signature_of (function_declaration registrations named) fs)

-- variables

same_variables : (env : Environment) (of : Ty) (ds : List written.Decl) (vs : List Initialization)
    → AllZip (IsDeclaredType env of) ds vs → map signatures.type_declared vs ≡ map type_declared (map (declared of) ds)
same_variables env of ds vs h =
    zip_same (IsDeclaredType env of) signatures.type_declared (λ d. type_declared (declared of d)) one ds vs h
    ∙ sym (map-map type_declared (declared of) ds)
  where
    one : (d : written.Decl) (v : Initialization) → IsDeclaredType env of d v
        → signatures.type_declared v ≡ type_declared (declared of d)
    one d v (is_declared i) = refl

same_decls : {env : Environment} {registrations : List host.Registration} {named : ModuleDeclarations}
    → NamesAgree env registrations named
    → (v : written.Vars) (vs : List Initialization) → AllZip (IsDeclaredType env (ty_in env v.of)) v.decls vs
    → map signatures.type_declared vs ≡ map type_declared (variables registrations named v)
same_decls {env} agree v vs h =
    same_variables env (ty_in env v.of) v.decls vs h
    ∙ ap (λ of. map type_declared (map (declared of) v.decls)) (agree.types v.of)

-- classes

same_fields : {env : Environment} {registrations : List host.Registration} {named : ModuleDeclarations}
    → NamesAgree env registrations named
    → (vs : List written.Vars) (ts : List Initialization) → AreFields env vs ts
    → map signatures.type_declared ts ≡ map type_declared (all_variables registrations named vs)
same_fields agree [] ts h = ap (map signatures.type_declared) h
same_fields {env} {registrations} {named} agree (v ∷ vs) ts h =
    ap (map signatures.type_declared) h.5 ∙ map-append signatures.type_declared h.0 h.1
    ∙ ap₂ (λ xs ys. xs ++ ys) (same_decls agree v h.0 h.3) (same_fields agree vs h.1 h.4)
    ∙ sym (map-append type_declared (variables registrations named v) (all_variables registrations named vs))

same_construction : {env : Environment} {registrations : List host.Registration} {named : ModuleDeclarations}
    → NamesAgree env registrations named
    → (class : List ℕ) (cs : List written.Constructor) (t : Option modules.Function) → HasConstructor env class cs t
    → signatures.parameters_of t ≡ map var_type (constructed_by registrations named cs)
same_construction agree class [] None h = refl
same_construction agree class [] (Some t) h = absurd h
same_construction agree class (c ∷ []) None h = absurd h
same_construction agree class (c ∷ []) (Some t) h = h.routine.parameters ∙ same_parameters agree c.parameters
same_construction agree class (c ∷ (d ∷ cs)) t h = absurd h

same_listed : {env : Environment} {registrations : List host.Registration} {named : ModuleDeclarations}
    → NamesAgree env registrations named
    → (place : ℕ) (ns : List written.TypeName) (is : List modules.Implementation) → AllZip (IsListed env place) ns is
    → map signatures.place_of_interface is ≡ listed_in registrations named ns
same_listed agree place [] [] h = refl
same_listed agree place [] (i ∷ is) h = absurd h
same_listed agree place (n ∷ ns) [] h = absurd h
same_listed {env} {registrations} {named} agree place (n ∷ ns) (i ∷ is) h =
    ap (λ places. i.interface ∷ places) (same_listed agree place ns is h.1)
    ∙ ap (λ (o : Option ObjectType). with_place (interface_place o) (listed_in registrations named ns))
    (sym h.0.interface ∙ agree.names n.name)

same_class : {env : Environment} {registrations : List host.Registration} {named : ModuleDeclarations}
    → NamesAgree env registrations named
    → (place : ℕ) (c : written.Class) (t : modules.Class) → IsTypedClass env place c t
    → signatures.signature_of_class t ≡ signature_of_class (class_declaration registrations named c)
same_class {env} {registrations} {named} agree place c t is =
    let inner = within_class agree place in
    let interfaces = same_listed agree place c.interfaces t.interfaces is.interfaces in
    let fields = same_fields inner (fields_of c.members) t.fields is.fields in
    let parameters = same_construction inner c.name (constructors_of c.members) t.constructor is.constructor in
    let methods = same_methods inner (methods_of c.members) t.methods is.methods in
    λ i. record { interfaces = interfaces i; fields = fields i; parameters = parameters i; methods = methods i }

-- modules

same_interface : {env : Environment} {registrations : List host.Registration} {named : ModuleDeclarations}
    → NamesAgree env registrations named
    → (i : written.Interface) (classes : ℕ) (t : modules.Interface) → IsTypedInterface env i classes t
    → signatures.methods_of_interface t ≡ signatures_of_interface (interface_declaration registrations named i)
same_interface {env} {registrations} {named} agree i classes t is =
    sym (map-itself t.methods)
    ∙ zip_same (IsTypedSignature env) (λ m. m)
    (λ m. signature_of (signature_declaration registrations named m)) (same_signature agree) i.methods t.methods is.methods
    ∙ sym (map-map signature_of (signature_declaration registrations named) i.methods)
  where
    map-itself : (ms : List modules.Signature) → map (λ (m : modules.Signature). m) ms ≡ ms
    map-itself [] = refl
    map-itself (m ∷ ms) = ap (λ rest. m ∷ rest) (map-itself ms)

same_interfaces : {env : Environment} {registrations : List host.Registration} {named : ModuleDeclarations}
    → NamesAgree env registrations named
    → (is : List written.Interface) (ns : List ℕ) (ts : List modules.Interface) → AreTypedInterfaces env is ns ts
    → map signatures.methods_of_interface ts ≡ map signatures_of_interface (map (interface_declaration registrations named) is)
same_interfaces agree [] [] [] h = refl
same_interfaces agree [] [] (t ∷ ts) h = absurd h
same_interfaces agree [] (n ∷ ns) ts h = absurd h
same_interfaces agree (i ∷ is) [] ts h = absurd h
same_interfaces agree (i ∷ is) (n ∷ ns) [] h = absurd h
same_interfaces agree (i ∷ is) (n ∷ ns) (t ∷ ts) h =
    ap₂ (λ x xs. x ∷ xs) (same_interface agree i n t h.0) (same_interfaces agree is ns ts h.1)

same_classes : {env : Environment} {registrations : List host.Registration} {named : ModuleDeclarations}
    → NamesAgree env registrations named
    → (place : ℕ) (cs : List written.Class) (ts : List modules.Class) → AreTypedClasses env place cs ts
    → map signatures.signature_of_class ts ≡ map signature_of_class (map (class_declaration registrations named) cs)
same_classes agree place [] [] h = refl
same_classes agree place [] (t ∷ ts) h = absurd h
same_classes agree place (c ∷ cs) [] h = absurd h
same_classes agree place (c ∷ cs) (t ∷ ts) h =
    ap₂ (λ x xs. x ∷ xs) (same_class agree place c t h.0) (same_classes agree (place + 1) cs ts h.1)

same_globals : {env : Environment} {registrations : List host.Registration} {named : ModuleDeclarations}
    → NamesAgree env registrations named
    → (vs : List written.Vars) (ts : List modules.Variables) → AllZip (AreTypedVariables env) vs ts
    → signatures.types_of_globals ts ≡ map type_declared (all_variables registrations named vs)
same_globals agree [] [] h = refl
same_globals agree [] (t ∷ ts) h = absurd h
same_globals agree (v ∷ vs) [] h = absurd h
same_globals {env} {registrations} {named} agree (v ∷ vs) (t ∷ ts) h =
    ap₂ (λ xs ys. xs ++ ys) (same_decls agree v t.values h.0.values) (same_globals agree vs ts h.1)
    ∙ sym (map-append type_declared (variables registrations named v) (all_variables registrations named vs))

-- what the items of a module see
pub same_signatures : (registrations : List host.Registration) (is : List written.Item) (m : modules.Module)
    → IsTyped registrations is m
    → signatures.signatures_of (offered registrations) m ≡ signatures_in registrations (declarations registrations is)
unfolding declarations
same_signatures registrations is m typed =
    let named = names_in is in
    let agree : NamesAgree (environment registrations is) registrations named =
    record { types = same_type registrations is; names = same_object registrations is } in
    let interfaces = same_interfaces agree (interfaces_of is) (classes_before 0 is) m.interfaces typed.interfaces in
    let classes = same_classes agree 0 (classes_of is) m.classes typed.classes in
    let functions = same_methods agree (functions_of is) m.functions typed.functions in
    let globals = same_globals agree (globals_of is) m.globals typed.globals in
    λ i. record {
      host = offered registrations;
      interfaces = interfaces i;
      classes = classes i;
      functions = functions i;
      globals = globals i;
    }
