-- This definition says which generation is to be installed.
use Rattle.std.specs.Prelude.{◌≡◌, ℕ, ◌+◌, ◌<◌, ◌^◌, List, [], ◌∷◌, ◌++◌, length}
use Rattle.ash_journal.specs.declared.journal.Journal.{Journal}
use Rattle.ash_journal.specs.declared.journal.NextGeneration.{NextGeneration}
use Rattle.ash_journal.specs.Layout.{mark, block, length_limit}
use Rattle.ash_journal.specs.Journal.{generation}

-- It follows a journal's generation, and its bytes are those of this image, with no records.
pub record IsNext {D : Type 0} (j : Journal D) (image : List ℕ) (next : NextGeneration) : Type 0 where
  pub number_is : next.number ≡ generation j + 1
  pub numbered : generation j + 1 < 2 ^ 64
  pub short : length image < length_limit
  pub bytes_are : next.bytes.items ≡ mark (generation j + 1) ++ (block image ++ 0 ∷ [])
