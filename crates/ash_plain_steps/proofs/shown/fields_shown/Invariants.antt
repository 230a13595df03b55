use Rattle.std.proofs.Common.{◌≡◌, ◌++◌, drop, map}
use Rattle.std.specs.List.{zip}
use Rattle.ash_typed.specs.BodyViews.{value_of}
use Rattle.ash_requests.specs.Tasks.{name_of}
use Rattle.ash_requests.specs.RequestViews.{field_seen}
use Rattle.ash_plain_steps.proofs.shown.fields_shown.Given as goal

-- the fields so far, and those of what is left
abbrev pub invariant-loop-place : goal.invariant-loop-place
invariant-loop-place l =
    map field_seen l.fields.items ++ zip (map name_of (map value_of (drop l.place l.declared))) (drop l.place l.words) ≡ zip (map name_of (map value_of l.declared)) l.words
