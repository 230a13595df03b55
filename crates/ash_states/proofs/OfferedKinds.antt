-- The kinds of the types that have a factory are those of which a host constructs objects.
use Rattle.std.proofs.Common.{◌≡◌, ◌||◌, ℕ, Bool, true, false, List, [], ◌∷◌, nat_eq, refl, sym, ap, ◌∙◌}
use Rattle.std.specs.Prelude.{Option, Some, None, Contains, find, filter_map, is_some, cond, if◌then◌else◌}
use Rattle.std.specs.List.{list_any, cons_option}
use Rattle.std.specs.Option.{option_and_then}
use Rattle.std.specs.Str.{bytes_eq}
use Rattle.ash_host.specs.Reach.{is_among}
use Rattle.ash_tree.specs.declared.tree.types.Primitive.{Primitive}
use Rattle.ash_registrations.specs.Registrations.{Registration, TypeRegistration, FactoryRegistration, MethodRegistration}
use Rattle.ash_registrations.specs.Registrations.{PropertyRegistration, ServiceRegistration, FunctionRegistration}
use Rattle.ash_registrations.specs.Registrations.{is_factory_of, constructed_kind}
use Rattle.ash_type_rules.specs.Offered.{parameters_of_factory, factory_at}
use Rattle.ash_soundness.proofs.Values.{none_in, first_in}
use Rattle.ash_admission.specs.Admission.{Constructs}
use Rattle.ash_states.specs.HostStates.{offered_to}

-- what the factory of a type takes, if there is one
abbrev factory_in : List ℕ → List Registration → Option (List Primitive)
factory_in name registrations = option_and_then parameters_of_factory (find (is_factory_of name) registrations)

found : (name : List ℕ) (rs : List Registration) → is_some (factory_in name rs) ≡ list_any (is_factory_of name) rs
found name [] = refl
found name (TypeRegistration other kind ∷ rs) = found name rs
found name (FactoryRegistration of parameters ∷ rs) =
    elim (bytes_eq name of) as (λ b. is_some (option_and_then parameters_of_factory
    (cond b (Some (FactoryRegistration of parameters)) (find (is_factory_of name) rs)))
    ≡ (b || list_any (is_factory_of name) rs)) [
      | true ↦ refl
      | false ↦ found name rs
    ]
found name (MethodRegistration of id operation ∷ rs) = found name rs
found name (PropertyRegistration of id value other ∷ rs) = found name rs
found name (ServiceRegistration kind ∷ rs) = found name rs
found name (FunctionRegistration service id operation ∷ rs) = found name rs

abbrev filled : {A : Type 0} → List A → Bool
filled [] = false
filled (x ∷ xs) = true

one_more : (l e : Bool) (f : Option (List Primitive)) (rest : List ℕ) (others : List (List Primitive)) (kind other : ℕ)
    → is_some f ≡ l → nat_eq kind other ≡ e → is_among rest kind ≡ filled others
    → is_among (cons_option (if l then Some other else None) rest) kind
    ≡ filled (cons_option (if e then f else None) others)
one_more true true (Some parameters) rest others kind other l e same = ap (λ (b : Bool). b || is_among rest kind) e
one_more true true None rest others kind other l e same = absurd (cc)
one_more false true (Some parameters) rest others kind other l e same = absurd (cc)
one_more false true None rest others kind other l e same = same
one_more true false f rest others kind other l e same = ap (λ (b : Bool). b || is_among rest kind) e ∙ same
one_more false false f rest others kind other l e same = same

module _ (registered : List Registration) (kind : ℕ) where
  same : (rs : List Registration) → is_among (filter_map (constructed_kind registered) rs) kind
      ≡ filled (filter_map (factory_at registered kind) rs)
  same [] = refl
  same (TypeRegistration name other ∷ rs) =
      one_more (list_any (is_factory_of name) registered) (nat_eq kind other) (factory_in name registered)
      (filter_map (constructed_kind registered) rs) (filter_map (factory_at registered kind) rs) kind other
      (found name registered) refl (same rs)
  same (FactoryRegistration of parameters ∷ rs) = same rs
  same (MethodRegistration of id operation ∷ rs) = same rs
  same (PropertyRegistration of id value other ∷ rs) = same rs
  same (ServiceRegistration other ∷ rs) = same rs
  same (FunctionRegistration service id operation ∷ rs) = same rs

has_first : {A : Type 0} (xs : List A) → filled xs ≡ true → (x : A) × Contains xs x
has_first [] h = absurd (cc)
has_first (x ∷ xs) h = (x, first_in x xs)

filled_by : {A : Type 0} (xs : List A) (x : A) → Contains xs x → filled xs ≡ true
filled_by [] x c = absurd (none_in x c)
filled_by (y ∷ ys) x c = refl

pub kinds_offered : (registered : List Registration)
    → Constructs (offered_to registered) (filter_map (constructed_kind registered) registered)
kinds_offered registered kind = (
  λ h. has_first (filter_map (factory_at registered kind) registered) (sym (same registered kind registered) ∙ h),
  λ o. same registered kind registered ∙ filled_by (filter_map (factory_at registered kind) registered) o.0 o.1,
)
