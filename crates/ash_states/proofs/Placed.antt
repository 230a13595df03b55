-- The index of a name, where the code finds it.
use Rattle.std.proofs.Common.{◌≡◌, ℕ, ◌+◌, Bool, not, cond, List, [], ◌∷◌, map, length, nat_lt, unwrap_or, Option, Some, None, refl, sym, ap, ◌∙◌}
use Rattle.std.specs.List.{position, position_or_len}
use Rattle.std.proofs.lemmas.List.{length-map}
use Rattle.ash_requests.specs.States.{has_name}
use Rattle.ash_plain_steps.specs.declared.state.LoadedModule as code_module
use Rattle.ash_plain_steps.specs.StateViews.{loaded_seen, modules_seen}
use Rattle.ash_states.specs.Indexes.{index_in}

first_mapped : {A B : Type 0} (f : A → B) (test : B → Bool) (xs : List A) → position_or_len test (map f xs) ≡ position_or_len (λ (x : A). test (f x)) xs
first_mapped f test [] = refl
first_mapped f test (x ∷ xs) = ap (λ (n : ℕ). cond (not (test (f x))) (1 + n) 0) (first_mapped f test xs)

position_mapped : {A B : Type 0} (f : A → B) (test : B → Bool) (xs : List A) → position test (map f xs) ≡ position (λ (x : A). test (f x)) xs
position_mapped {A} f test xs =
    ap (λ (n : ℕ). cond (nat_lt n (length (map f xs))) (Some n) None) (first_mapped f test xs)
    ∙ ap (λ (k : ℕ). cond (nat_lt (position_or_len (λ (x : A). test (f x)) xs) k) (Some (position_or_len (λ (x : A). test (f x)) xs)) None) (length-map xs f)

pub index_is : (ms : List code_module.LoadedModule) (name : List ℕ) → unwrap_or (position (λ (m : code_module.LoadedModule). has_name name (loaded_seen m)) ms) 0 ≡ index_in (modules_seen ms) name
index_is ms name = ap (λ (o : Option ℕ). unwrap_or o 0) (sym (position_mapped loaded_seen (has_name name) ms))
