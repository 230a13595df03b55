-- Whether objects have ranks that fall along every reference.
use Rattle.std.specs.Prelude.{◌≡◌, ℕ, ◌&&◌, Bool, true, Option, Some, None, List, [], ◌∷◌}
use Rattle.std.specs.Prelude.{Contains, is_some, nat_eq, nat_lt, refl}
use Rattle.std.specs.List.{list_all}
use Rattle.std.specs.Option.{option_map_or}
use Rattle.std.proofs.Common.{ap, ◌∙◌, arith, inl, inr}
use Rattle.std.proofs.lemmas.Bool.{eqb-true}
use Rattle.std.proofs.lemmas.Bool.Decides.{nat_tests}
use Rattle.ash_host.specs.Objects.{Plain, LiveObjects, object_at, numbers, fields_of, handles, references}
use Rattle.ash_host.specs.Reach.{AreObjectRanks, is_among}
use Rattle.ash_host.proofs.Membership.{or_cases, and_both, is_among_yes, is_among-numbers}

-- what an object refers to is of lower rank
abbrev pub fall_from : (ℕ → ℕ) → LiveObjects (List ℕ) → ℕ → Bool
fall_from rank objects number = list_all (λ other. nat_lt (rank other) (rank number)) (references objects number)

-- the rank of an object is below a top, and what it refers to is of lower rank
abbrev pub is_ranked : (ℕ → ℕ) → ℕ → LiveObjects (List ℕ) → ℕ → Bool
is_ranked rank top objects number = nat_lt (rank number) top && fall_from rank objects number

-- the same of all objects
abbrev pub are_ranked : (ℕ → ℕ) → ℕ → LiveObjects (List ℕ) → Bool
are_ranked rank top objects = list_all (is_ranked rank top objects) (numbers objects)

-- of a test of all, one
all_at : (test : ℕ → Bool) (ns : List ℕ) (n : ℕ) → list_all test ns ≡ true → is_among ns n ≡ true → test n ≡ true
all_at test [] n all among = absurd (cc)
all_at test (m ∷ ns) n all among =
    let parts = and_both (test m) (list_all test ns) all in
    elim (or_cases (nat_eq n m) (is_among ns n) among) [
      | inl here ↦ ap test (eqb-true n m here) ∙ parts.0
      | inr later ↦ all_at test ns n parts.1 later
    ]

-- what refers to something lives
refers_from : (objects : LiveObjects (List ℕ)) (one other : ℕ) → Contains (references objects one) other
    → is_some (object_at one objects) ≡ true
refers_from objects one other refers = go (object_at one objects) refers
  where
    go : (o : Option (Plain (List ℕ))) → Contains (option_map_or (λ object. handles (fields_of object)) o []) other
        → is_some o ≡ true
    go None refers = absurd (omega (arith, refers.1))
    go (Some object) refers = refl

-- ranks that pass fall along every reference
pub ranked_says : (rank : ℕ → ℕ) (top : ℕ) (objects : LiveObjects (List ℕ)) → are_ranked rank top objects ≡ true
    → AreObjectRanks rank top objects
ranked_says rank top objects is = record {
  below = λ n lives.
      let low = (and_both (nat_lt (rank n) top) (fall_from rank objects n) (ranked n lives)).0 in
      grind (arith, nat_tests);
  falls = λ one other refers.
      let lives = refers_from objects one other refers in
      let all = (and_both (nat_lt (rank one) top) (fall_from rank objects one) (ranked one lives)).1 in
      let among = is_among_yes other (references objects one) refers in
      let falls = all_at (λ m. nat_lt (rank m) (rank one)) (references objects one) other all among in
      grind (arith, nat_tests);
}
  where
    ranked : (n : ℕ) → is_some (object_at n objects) ≡ true → is_ranked rank top objects n ≡ true
    ranked n lives = all_at (is_ranked rank top objects) (numbers objects) n is (is_among-numbers n objects ∙ lives)
