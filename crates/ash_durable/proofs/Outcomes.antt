-- How failures of devices are counted.
use Rattle.std.proofs.Common.{ℕ}
use Rattle.ash_journal.specs.JournalFailures.{CountsFailures}

-- what it is called that a device failed makes no difference to the counts
pub counts_as : (failed named : Type 0) (first second first' second' : ℕ) → (failed → named) → (named → failed)
    → CountsFailures failed first second first' second' → CountsFailures named first second first' second'
counts_as failed named first second first' second' to from counts = record {
  first_never_falls = counts.first_never_falls;
  second_never_falls = counts.second_never_falls;
  counted = λ is. counts.counted (from is);
  none = λ not. counts.none (λ is. not (to is));
}
