-- What holds of each of a list holds of the one at an index.
use Rattle.std.proofs.Common.{ℕ, zero, suc, ◌<◌, List, [], ◌∷◌, length, get_or, map, arith}
use Rattle.std.specs.List.{AllByRecursion}

-- of what is seen of it, too
pub all_map_at : {A B : Type 0} (P : B → Type 0) (f : A → B) (xs : List A) (i : ℕ) (d : A)
    → AllByRecursion P (map f xs) → i < length xs → P (f (get_or xs i d))
all_map_at P f [] i d all within = absurd (omega arith)
all_map_at P f (x ∷ xs) zero d all within = all.0
all_map_at P f (x ∷ xs) (suc i) d all within = all_map_at P f xs i d all.1 (omega arith)
