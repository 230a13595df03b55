-- What the globals of all modules but one hold.
use Rattle.std.proofs.Common.{◌≡◌, ◌+◌, ℕ, zero, suc, List, [], ◌∷◌, ◌++◌, map, take, drop, refl, sym, ap, ◌∙◌, arith}
use Rattle.std.proofs.Common.{add-one}
use Rattle.std.specs.Prelude.{flat_map}
use Rattle.std.specs.List.{remove}
use Rattle.std.proofs.lemmas.List.{map-append}
use Rattle.std.proofs.lemmas.List.Elements.{filter_map-append}
use Rattle.std.proofs.lemmas.Grind.{flat_map-append}
use Rattle.ash_host.specs.Objects.{handle, handles}
use Rattle.ash_requests.specs.States.{LoadedModule, globals_of}
use Rattle.ash_plain_steps.specs.declared.state.LoadedModule as code_module
use Rattle.ash_plain_steps.specs.StateViews.{loaded_seen, modules_seen}

-- what is left of a list without the item at a place
parts_left : {A : Type 0} (xs : List A) (place : ℕ) → take place xs ++ drop (place + 1) xs ≡ remove xs place
parts_left [] zero = refl
parts_left {A} [] (suc place) = ap (λ (n : ℕ). drop {A = A} n []) (add-one (suc place))
parts_left (x ∷ xs) zero = refl
parts_left (x ∷ xs) (suc place) =
    let same : suc place + 1 ≡ suc (place + 1) = omega arith in
    ap (λ (n : ℕ). x ∷ (take place xs ++ drop n (x ∷ xs))) same ∙ ap (λ (l : List _). x ∷ l) (parts_left xs place)

-- what the globals of modules are handles to
abbrev pub held_by : List code_module.LoadedModule → List ℕ
held_by ms = handles (globals_of (modules_seen ms))

pub held_by_both : (ms ns : List code_module.LoadedModule) → held_by (ms ++ ns) ≡ held_by ms ++ held_by ns
held_by_both ms ns =
    ap (λ (l : List LoadedModule). handles (globals_of l)) (map-append loaded_seen ms ns)
    ∙ ap handles (flat_map-append (λ (m : LoadedModule). m.globals) (modules_seen ms) (modules_seen ns))
    ∙ filter_map-append handle (globals_of (modules_seen ms)) (globals_of (modules_seen ns))

pub held_beside : (ms : List code_module.LoadedModule) (place : ℕ)
    → held_by (take place ms) ++ held_by (drop (place + 1) ms) ≡ held_by (remove ms place)
held_beside ms place = sym (held_by_both (take place ms) (drop (place + 1) ms)) ∙ ap held_by (parts_left ms place)
