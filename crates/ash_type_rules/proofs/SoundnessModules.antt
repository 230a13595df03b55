-- What the rules of typing type is a sound module, where the grammar derives it.
use Rattle.std.specs.List.{AllByRecursion, AllZip}
use Rattle.std.proofs.Common.{◌≡◌, ◌≤◌, ◌+◌, ℕ, suc, length, length-append, List, [], ◌∷◌, map, Some, slice_get, refl}
use Rattle.std.proofs.Common.{sym, ap, ap₂, subst, ◌∙◌, arith}
use Rattle.ash_registrations.specs.Registrations as host
use Rattle.ash_tree.specs.Tree as written
use Rattle.ash_typed.specs.ModuleLimits.{max_globals}
use Rattle.ash_typed.specs.Modules as modules
use Rattle.ash_typed.specs.Signatures as signatures
use Rattle.ash_typed.specs.SoundModules as sound
use Rattle.ash_type_rules.specs.Environment.{Environment}
use Rattle.ash_tree.specs.Items.{classes_of, interfaces_of, classes_before, functions_of, globals_of, variable_names}
use Rattle.ash_type_rules.specs.ModuleDeclarations.{declarations, ty_in}
use Rattle.ash_type_rules.specs.Typing.{IsDeclaredType}
use Rattle.ash_type_rules.specs.TypedModules.{AreTypedVariables, environment, IsTyped}
use Rattle.ash_type_rules.specs.Nesting.{ItemsDeclareInBlocks}
use Rattle.ash_type_rules.specs.Offered.{offered}
use Rattle.ash_type_rules.specs.Soundness.{signatures_in}
use Rattle.ash_type_rules.proofs.TypedClasses.{count_names}
use Rattle.ash_type_rules.proofs.ModuleLaws.{typed_known}
use Rattle.ash_type_rules.proofs.SoundnessLookUps.{mapped}
use Rattle.ash_type_rules.proofs.SoundnessSignatures.{same_signatures}
use Rattle.ash_type_rules.proofs.SoundnessItems.{functions_sound, interfaces_sound, interfaces_length, before_within}
use Rattle.ash_type_rules.proofs.SoundnessItems.{interfaces_in_order}
use Rattle.ash_type_rules.proofs.SoundnessItems.{globals_sound, zip_length}
use Rattle.ash_type_rules.proofs.SoundnessNaming.{functions_differ, globals_differ}
use Rattle.ash_type_rules.proofs.SoundnessClasses.{classes_sound, classes_length}

length-mapped : {A B : Type 0} (f : A → B) (xs : List A) → length (map f xs) ≡ length xs
length-mapped f [] = refl
length-mapped f (x ∷ xs) = ap suc (length-mapped f xs)

globals_length : (env : Environment) (vs : List written.Vars) (ts : List modules.Variables)
    → AllZip (AreTypedVariables env) vs ts → length (signatures.types_of_globals ts) ≡ length (variable_names vs)
globals_length env [] [] h = refl
globals_length env [] (t ∷ ts) h = absurd h
globals_length env (v ∷ vs) [] h = absurd h
globals_length env (v ∷ vs) (t ∷ ts) h =
    length-append (map signatures.type_declared t.values) (signatures.types_of_globals ts)
    ∙ ap₂ (λ a b. a + b)
    (length-mapped signatures.type_declared t.values
    ∙ zip_length (IsDeclaredType env (ty_in env v.of)) v.decls t.values h.0.values) (globals_length env vs ts h.1)
    ∙ sym (count_names v (variable_names vs))

pub module_sound : (registrations : List host.Registration) (is : List written.Item) (m : modules.Module)
    → ItemsDeclareInBlocks is
    → IsTyped registrations is m → sound.IsSound (offered registrations) m
module_sound registrations is m nest typed =
    let env = environment registrations is in
    let known = typed_known registrations is m typed in
    let same : signatures_in registrations (declarations registrations is) ≡ signatures.signatures_of (offered registrations) m =
    sym (same_signatures registrations is m typed) in
    let count = classes_length env 0 (classes_of is) m.classes typed.classes in
    let interfaces = interfaces_length env (interfaces_of is) (classes_before 0 is) m.interfaces typed.interfaces in
    let few = typed.few_types in
    let within = before_within 0 is in
    let most : 0 + length (classes_of is) ≡ length m.classes = omega arith in
    record {
      few_types = omega arith;
      few_globals =
          subst (λ n. n ≤ max_globals) (sym (globals_length env (globals_of is) m.globals typed.globals)) typed.few_globals;
      functions_differ = functions_differ env is m.functions typed.differ typed.functions;
      globals_differ = globals_differ env is m.globals typed.differ typed.globals;
      interfaces =
          subst (λ s. AllByRecursion (sound.IsSoundInterface s (length m.classes)) m.interfaces) same
          (interfaces_sound env (interfaces_of is) (classes_before 0 is) (length m.classes) m.interfaces
          (subst (λ k. AllByRecursion (λ n. n ≤ k) (classes_before 0 is)) most within) typed.interfaces);
      interfaces_in_order = interfaces_in_order env 0 0 is m.interfaces (omega arith) typed.interfaces;
      classes = subst
          (λ s. sound.AreSoundClasses s 0 m.classes) same
          (classes_sound env 0 (classes_of is) m.classes known (at m same) nest.classes typed.classes);
      functions = subst
          (λ s. AllByRecursion (sound.IsSoundFunction (sound.outside s)) m.functions) same
          (functions_sound env (functions_of is) m.functions known nest.functions typed.functions);
      globals = subst
          (λ s. AllByRecursion (sound.AreSoundVariables (sound.outside s)) m.globals) same
          (globals_sound env (globals_of is) m.globals known typed.globals);
    }
  where
    at : (m : modules.Module) → signatures_in registrations (declarations registrations is) ≡ signatures.signatures_of (offered registrations) m
        → (k : ℕ) (t : modules.Class) → slice_get m.classes k ≡ Some t
        → slice_get (signatures_in registrations (declarations registrations is)).classes (0 + k) ≡ Some (signatures.signature_of_class t)
    at m same k t h =
        let here : k ≡ 0 + k = omega arith in
        subst (λ n. slice_get (signatures_in registrations (declarations registrations is)).classes n ≡ Some (signatures.signature_of_class t))
        here
        (subst (λ (s : signatures.ModuleSignatures). slice_get s.classes k ≡ Some (signatures.signature_of_class t))
        (sym same) (mapped signatures.signature_of_class m.classes k t h))
