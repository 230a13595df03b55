-- These definitions say what two files represent, and what they settle on once a repair is done.
use Rattle.std.specs.Prelude.{◌≡◌, ◌≢◌, ◌⊎◌, ℕ, zero, suc, ◌<◌, List, [], ◌∷◌, ◌++◌}
use Rattle.ash_journal.specs.Layout.{committed_bytes, FieldsFit, IsFile, IsClosed, IsShut, HasMark}

-- `Contents` are the image of a generation and the bodies of the records that were added to it.
abbrev pub Contents : Type 0
Contents = List ℕ × List (List ℕ)

-- The contents are these and no others.
abbrev pub IsContents : Contents → Contents → Type 0
IsContents contents other = other ≡ contents

-- One or the other holds of the contents.
abbrev pub HoldsOneOf : (Contents → Type 0) → (Contents → Type 0) → Contents → Type 0
HoldsOneOf P Q contents = P contents ⊎ Q contents

-- The file is closed, or open with an older generation.
abbrev pub IsOlder : ℕ → List ℕ → Type 0
IsOlder generation file = IsClosed file ⊎ ((older : ℕ) × HasMark older file × (older < generation))

-- The first of two files is current, with this generation, image and records.
pub record IsCurrent (generation : ℕ) (image : List ℕ) (bodies : List (List ℕ)) (current other : List ℕ) : Type 0 where
  pub file : IsFile generation image bodies current
  pub older : IsOlder generation other

-- Two files represent these contents, which are those of the current file.
abbrev pub Represent : Contents → List ℕ → List ℕ → Type 0
Represent contents first second =
    ((generation : ℕ) × IsCurrent generation contents.0 contents.1 first second)
    ⊎ ((generation : ℕ) × IsCurrent generation contents.0 contents.1 second first)

-- Two files represent contents of which P holds.
abbrev pub RepresentOne : (Contents → Type 0) → List ℕ → List ℕ → Type 0
RepresentOne P first second = (contents : Contents) × P contents × Represent contents first second

-- `reopened file` is the file with 1 for its first gate.
abbrev pub reopened : List ℕ → List ℕ
reopened [] = 1 ∷ []
reopened (gate ∷ rest) = 1 ∷ rest

-- The first file is current, and the gate after its last open record, which a repair would write over since it is
-- neither 0 nor 1, is replaced by 1.
pub record EndReopens (current other current_after : List ℕ) : Type 0 where
  pub generation : ℕ
  pub image : List ℕ
  pub bodies : List (List ℕ)
  pub gate : ℕ
  pub after : List ℕ
  pub fits : FieldsFit generation image bodies
  pub bytes : current ≡ committed_bytes generation image bodies ++ gate ∷ after
  pub not_open : gate ≢ 1
  pub not_shut : gate ≢ 0
  pub older : IsOlder generation other
  pub opened : current_after ≡ committed_bytes generation image bodies ++ 1 ∷ after

-- The first file is current, and the first gate of the other, which a repair would write over since the other is closed
-- and this gate isn't 0, is replaced by 1.
pub record OtherReopens (current other other_after : List ℕ) : Type 0 where
  pub generation : ℕ
  pub image : List ℕ
  pub bodies : List (List ℕ)
  pub file : IsFile generation image bodies current
  pub closed : IsClosed other
  pub not_shut : IsShut other → ⊥
  pub opened : other_after ≡ reopened other

-- With the first of two files current, a gate that a repair would write over is replaced by 1.
abbrev pub ReopensBy : List ℕ → List ℕ → List ℕ → List ℕ → Type 0
ReopensBy current other current_after other_after =
    (EndReopens current other current_after × (other_after ≡ other))
    ⊎ (OtherReopens current other other_after × (current_after ≡ current))

-- Whichever file is current, a gate that a repair would write over is replaced by 1.
abbrev pub Reopens : List ℕ → List ℕ → List ℕ → List ℕ → Type 0
Reopens first second first_after second_after =
    ReopensBy first second first_after second_after ⊎ ReopensBy second first second_after first_after

-- A gate is reopened so many times, one after the other.
abbrev pub ReopensTimes : ℕ → List ℕ → List ℕ → List ℕ → List ℕ → Type 0
ReopensTimes zero first second first_after second_after = (first_after ≡ first) × (second_after ≡ second)
ReopensTimes (suc n) first second first_after second_after =
    (x : List ℕ) × (y : List ℕ) × Reopens first second x y × ReopensTimes n x y first_after second_after

-- Two files represent contents of which P holds, and so do they with 1 for any gates that a repair would write over: a
-- repair that a crash cuts short may leave 1 there.
abbrev pub SettleOn : (Contents → Type 0) → List ℕ → List ℕ → Type 0
SettleOn P first second =
    (n : ℕ) (x y : List ℕ) → ReopensTimes n first second x y → RepresentOne P x y

-- A repair of two files may come to these contents.
abbrev pub MaySettleOn : List ℕ → List ℕ → Contents → Type 0
MaySettleOn first second contents =
    (n : ℕ) × (x : List ℕ) × (y : List ℕ) × ReopensTimes n first second x y × Represent contents x y

-- Wherever each repair of two files comes to some contents, each repair of the other two comes to new contents, or to
-- some that a repair of the first two may come to.
abbrev pub SettleFurther : (Contents → Type 0) → List ℕ → List ℕ → List ℕ → List ℕ → Type 0
SettleFurther IsNew first second first_after second_after =
    SettleOn (MaySettleOn first second) first second
    → SettleOn (HoldsOneOf IsNew (MaySettleOn first second)) first_after second_after
