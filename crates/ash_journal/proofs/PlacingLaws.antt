-- The first gate of the file that is not current.
use Rattle.std.proofs.Common.{◌≡◌, ℕ, ◌<◌, ◌≤◌, Bool, true, false, refl, sym, ap, arith}
use Rattle.std.proofs.lemmas.Bool.{false≢true}
use Rattle.ash_journal.specs.declared.other_state.OtherState.{OtherState}
use Rattle.ash_journal.specs.declared.other_state.OtherState.TheVariants.{Shut, Older, Stray}
use Rattle.ash_journal.specs.Journal.{NeedsNoRepair}
use Rattle.ash_journal.specs.OtherState.{is_older, is_stray, repaired}

pub older_not_shut : Older ≡ Shut → ⊥
older_not_shut is = false≢true (sym (ap is_older is))

-- a file that needs no repair and is not older is shut
pub ready_shut : (stray : Bool) (state : OtherState) → NeedsNoRepair stray state → is_older state ≡ false → state ≡ Shut
ready_shut false Shut ready closed = refl
ready_shut false Older ready closed = absurd (false≢true (sym closed))
ready_shut false Stray ready closed = absurd ready
ready_shut true Shut ready closed = absurd ready
ready_shut true Older ready closed = absurd ready
ready_shut true Stray ready closed = absurd ready

-- a file that is shut once it is repaired has a first byte
pub repaired_other : (state : OtherState) (old new : ℕ) → (is_stray state ≡ true → 0 < new) → old ≤ new
    → (state ≡ Shut → 0 < old) → repaired state ≡ Shut → 0 < new
repaired_other Shut old new there longer before is = omega (arith, longer, before refl)
repaired_other Older old new there longer before is = absurd (older_not_shut is)
repaired_other Stray old new there longer before is = there refl
