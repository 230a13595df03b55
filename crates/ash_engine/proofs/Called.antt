-- The services that events say are called.
use Rattle.std.proofs.Common.{◌≡◌, ◌<◌, ◌+◌, ◌++◌, ℕ, List, [], ◌∷◌, length, drop, get_or, append_assoc, refl, sym, ap, ◌∙◌, subst, ◌⊎◌, ⊎_elim, inl, inr, arith}
use Rattle.std.specs.Prelude.{◌↔◌, Contains, Option, Some, None}
use Rattle.std.specs.List.{filter_map, cons_option}
use Rattle.std.proofs.lemmas.Option.{same_Some}
use Rattle.std.proofs.lemmas.List.Elements.{Contains-append_cases, Contains-push_cases}
use Rattle.ash_host.specs.declared.event.Event.{Event}
use Rattle.ash_host.specs.declared.event.Event.TheVariants.{Drew, Called, Dropped}
use Rattle.ash_host.specs.declared.event.Target.TheVariants.{Object, Service}
use Rattle.ash_plain_steps.proofs.Drops.{at_place}
use Rattle.ash_soundness.proofs.Values.{first_in, later_in, none_in}
use Rattle.ash_change_laws.specs.UncalledServices.{IsCalled}
use Rattle.ash_engine.specs.NamedChanges.{service_called}

pub one_of : {A : Type 0} (x : A) (xs : List A) (y : A) → Contains (x ∷ xs) y → (x ≡ y) ⊎ Contains xs y
one_of x xs y h =
    ⊎_elim (λ one. ⊎_elim (λ none. absurd (none_in y none)) (λ e. inl e) (Contains-push_cases [] x y one)) (λ rest. inr rest)
    (Contains-append_cases (x ∷ []) xs y h)

-- an event says a call of a service at a place, if it does
says_call : (place : ℕ) (e : Event) → service_called e ≡ Some place → (function : ℕ) × (e ≡ Called (Service place) function)
says_call place (Drew number) is = absurd (cc)
says_call place (Dropped number) is = absurd (cc)
says_call place (Called (Object number) function) is = absurd (cc)
says_call place (Called (Service at) function) is = (function, ap (λ (p : ℕ). Called (Service p) function) (same_Some at place is))

listed : (place : ℕ) (o : Option ℕ) (places : List ℕ) → Contains (cons_option o places) place → (o ≡ Some place) ⊎ Contains places place
listed place None places h = inr h
listed place (Some at) places h = ⊎_elim (λ e. inl (ap (λ (p : ℕ). Some p) e)) (λ rest. inr rest) (one_of at places place h)

first_listed : (place : ℕ) (o : Option ℕ) (places : List ℕ) → o ≡ Some place → Contains (cons_option o places) place
first_listed place o places is = subst (λ (v : Option ℕ). Contains (cons_option v places) place) (sym is) (first_in place places)

later_listed : (place : ℕ) (o : Option ℕ) (places : List ℕ) → Contains places place → Contains (cons_option o places) place
later_listed place None places h = h
later_listed place (Some at) places h = later_in at place places h

called_from : (place : ℕ) (es : List Event) → Contains (filter_map service_called es) place → IsCalled place es
called_from place [] h = absurd (none_in place h)
called_from place (e ∷ es) h = ⊎_elim
    (λ is. let call = says_call place e is in (call.0, subst (λ (x : Event). Contains (x ∷ es) (Called (Service place) call.0)) (sym call.1) (first_in (Called (Service place) call.0) es)))
    (λ rest. let call = called_from place es rest in (call.0, later_in e (Called (Service place) call.0) es call.1))
    (listed place (service_called e) (filter_map service_called es) h)

called_listed : (place : ℕ) (es : List Event) (function : ℕ) → Contains es (Called (Service place) function)
    → Contains (filter_map service_called es) place
called_listed place [] function h = absurd (none_in (Called (Service place) function) h)
called_listed place (e ∷ es) function h = ⊎_elim
    (λ is. first_listed place (service_called e) (filter_map service_called es) (ap service_called is))
    (λ rest. later_listed place (service_called e) (filter_map service_called es) (called_listed place es function rest))
    (one_of e es (Called (Service place) function) h)

-- A service is among the calls exactly if it was called.
pub calls_are : (place : ℕ) (es : List Event) → Contains (filter_map service_called es) place ↔ IsCalled place es
calls_are place es = (called_from place es, λ called. called_listed place es called.0 called.1)

-- one more event is gone through
pub one_more : (places : List ℕ) (place i : ℕ) (es : List Event) (e : Event) → i < length es → e ≡ get_or es i e
    → service_called e ≡ Some place
    → (places ++ place ∷ []) ++ filter_map service_called (drop (i + 1) es) ≡ places ++ filter_map service_called (drop i es)
one_more places place i es e within is says =
    append_assoc places (place ∷ []) (filter_map service_called (drop (i + 1) es))
    ∙ ap (λ (o : Option ℕ). places ++ cons_option o (filter_map service_called (drop (i + 1) es))) (sym says)
    ∙ ap (λ (l : List Event). places ++ filter_map service_called l) (sym (at_place es i e within is))

pub one_passed : (places : List ℕ) (i : ℕ) (es : List Event) (e : Event) → i < length es → e ≡ get_or es i e
    → service_called e ≡ None
    → places ++ filter_map service_called (drop (i + 1) es) ≡ places ++ filter_map service_called (drop i es)
one_passed places i es e within is says =
    ap (λ (o : Option ℕ). places ++ cons_option o (filter_map service_called (drop (i + 1) es))) (sym says)
    ∙ ap (λ (l : List Event). places ++ filter_map service_called l) (sym (at_place es i e within is))
