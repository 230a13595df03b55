-- The words of a line that are left.
use Rattle.std.specs.Prelude.{ℕ, ◌∷◌, Bool, true, false, List, [], Option, Some, None}
use Rattle.std.specs.Borrow.{Bor}
use Rattle.ash_lines.specs.Lines.{pieces}

-- the pieces of what is left of a line
abbrev pub words_left : Option (Bor (List ℕ)) → List (List ℕ)
words_left None = []
words_left (Some line) = pieces line.now

-- whether there are none
abbrev pub is_none_left : List (List ℕ) → Bool
is_none_left [] = true
is_none_left (word ∷ words) = false
