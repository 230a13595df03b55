use Rattle.std.proofs.Common.{◌≡◌, ◌++◌, drop, slice_get}
use Rattle.ash_image.specs.DeltaViews.{all_indexed}
use Rattle.ash_change_records.specs.ListedChanges.{listed}
use Rattle.ash_engine.proofs.recording.words_at.Given as goal

abbrev pub invariant-loop-place : goal.invariant-loop-place
invariant-loop-place l = all_indexed l.words.items ++ listed (slice_get l.globals) (drop l.place-index l.places)
    ≡ listed (slice_get l.globals) l.places
