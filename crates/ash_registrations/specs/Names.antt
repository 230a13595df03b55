-- This definition says which place the name of a type or function has among the registrations.
use Rattle.std.specs.Prelude.{ℕ, suc, Bool, List, [], ◌∷◌, Option, None, Some, cond}
use Rattle.std.specs.Option.{option_map}

-- `place_of test xs` is the place of the first that passes the test, from 0.
abbrev pub place_of : {X : Type 0} → (X → Bool) → List X → Option ℕ
place_of test [] = None
place_of test (x ∷ xs) = cond (test x) (Some 0) (option_map suc (place_of test xs))
