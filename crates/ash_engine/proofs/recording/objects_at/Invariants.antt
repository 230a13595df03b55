use Rattle.std.proofs.Common.{◌≡◌, ◌++◌, drop}
use Rattle.ash_objects.specs.Table.{body_of}
use Rattle.ash_table_states.specs.WrittenObjects.{listed_entries}
use Rattle.ash_change_records.specs.ListedChanges.{listed}
use Rattle.ash_engine.proofs.recording.objects_at.Given as goal

abbrev pub invariant-loop-number : goal.invariant-loop-number
invariant-loop-number g l = listed_entries l.objects.items ++ listed (λ number. body_of number l.table) (drop l.number-index l.numbers)
    ≡ listed (λ number. body_of number l.table) l.numbers
