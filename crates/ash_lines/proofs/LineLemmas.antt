-- The words of a line.
use Rattle.std.proofs.Common.{◌≡◌, ◌<◌, ◌≤◌, ℕ, ◌+◌, ◌-◌, ◌==◌, Bool, true, false, List, [], ◌∷◌, length, take, drop}
use Rattle.std.proofs.Common.{refl, ap, ◌∙◌, arith, Some, None, suc}
use Rattle.std.proofs.lemmas.Bool.Decides.{nat_tests}
use Rattle.std.proofs.lemmas.Grind.{common_steps}
use Rattle.std.specs.List.{position_or_len, position}
use Rattle.ash_lines.specs.Lines.{pieces, onto}

-- the first space
abbrev pub first_space : List ℕ → ℕ
first_space line = position_or_len (λ byte. byte == 32) line

-- the pieces of a line by its first byte
pub pieces-space : (byte : ℕ) (more : List ℕ) → (byte == 32) ≡ true → pieces (byte ∷ more) ≡ [] ∷ pieces more
unfolding pieces
pieces-space byte more e = rw e refl

pub pieces-other : (byte : ℕ) (more : List ℕ) → (byte == 32) ≡ false → pieces (byte ∷ more) ≡ onto byte (pieces more)
unfolding pieces
pieces-other byte more e = rw e refl

-- a line with a space in it
abbrev pub SplitsAt : List ℕ → Type 0
SplitsAt line = first_space line < length line → pieces line ≡ take (first_space line) line ∷ pieces (drop (first_space line + 1) line)

split_at : (byte : ℕ) (more : List ℕ) (t : Bool) → (byte == 32) ≡ t → SplitsAt more → SplitsAt (byte ∷ more)
split_at byte more true e step h = let k = pieces-space byte more e in rw e k
split_at byte more false e step h =
    let k = pieces-other byte more e in
    let g = rw e at h in
    let below : first_space more < length more = omega arith in
    let i = step below in
    let one : 1 + first_space more ≡ suc (first_space more) = omega arith in
    let two : suc (first_space more) + 1 ≡ suc (first_space more + 1) = omega arith in
    rw e (k ∙ rw (i, one, two) refl)

pub pieces-some : (line : List ℕ) → SplitsAt line
pieces-some [] h = absurd (omega arith)
pieces-some (byte ∷ more) h = split_at byte more (byte == 32) refl (pieces-some more) h

-- a line with none
abbrev pub IsOnePiece : List ℕ → Type 0
IsOnePiece line = length line ≤ first_space line → pieces line ≡ line ∷ []

one_at : (byte : ℕ) (more : List ℕ) (t : Bool) → (byte == 32) ≡ t → IsOnePiece more → IsOnePiece (byte ∷ more)
one_at byte more true e step h = absurd (let g = rw e at h in omega arith)
one_at byte more false e step h =
    let g = rw e at h in
    pieces-other byte more e ∙ ap (onto byte) (step (omega arith))

pub pieces-none : (line : List ℕ) → IsOnePiece line
unfolding pieces
pieces-none [] h = refl
pieces-none (byte ∷ more) h = one_at byte more (byte == 32) refl (pieces-none more) h

-- what a search for the first space finds

pub none-space : (line : List ℕ) → None ≡ position (λ byte. byte == 32) line → length line ≤ first_space line
none-space line h = grind (arith, nat_tests)

pub some-space : (line : List ℕ) (space : ℕ) → Some space ≡ position (λ byte. byte == 32) line → (space ≡ first_space line) × (first_space line < length line)
some-space line space h = (grind (arith, nat_tests), grind (arith, nat_tests))

-- the first piece, and the line after its space
pub pieces-at : (line : List ℕ) (space : ℕ) → Some space ≡ position (λ byte. byte == 32) line → pieces line ≡ take space line ∷ pieces (take (length line - (space + 1)) (drop (space + 1) line))
pieces-at line space h =
    let s = some-space line space h in
    let all : take (length line - (space + 1)) (drop (space + 1) line) ≡ drop (space + 1) line = grind (arith, common_steps) in
    rw (all, s.0) (pieces-some line s.1)
