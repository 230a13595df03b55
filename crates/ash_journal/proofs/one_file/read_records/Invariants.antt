use Rattle.std.proofs.Common.{◌≡◌, ◌-◌, ◌<◌, ◌≤◌, ◌∷◌, ◌++◌, [], ℕ, List, IsTrue, length}
use Rattle.ash_disk.specs.Device.{IsOnlyRead}
use Rattle.ash_journal.specs.Layout.{committed_bytes, FieldsFit}
use Rattle.ash_journal.specs.Reading.{IsReadTo}
use Rattle.ash_journal.proofs.one_file.read_records.Given as goal

abbrev pub invariant-loop-gate : goal.invariant-loop-gate
invariant-loop-gate g l =
    record {
      only_read : IsOnlyRead g.D.Disk l.fn.disk l.disk;
      steady : g.D.Disk.failures l.disk ≡ g.D.Disk.failures l.fn.disk;
      within : l.end < l.len;
      goes_on : l.at ≤ l.end;
      answer : (generation : ℕ) (image rest : List ℕ) → IsTrue (g.D.Disk.honest l.fn.disk)
          → FieldsFit generation image []
          → g.D.Disk.seen l.fn.disk ≡ committed_bytes generation image [] ++ l.first ∷ rest
          → l.at ≡ length (committed_bytes generation image [])
          → IsReadTo generation image l.records.items l.end l.gate (g.D.Disk.seen l.fn.disk);
    }

abbrev pub decreases-loop-gate : goal.decreases-loop-gate
decreases-loop-gate g l = l.len - l.end
