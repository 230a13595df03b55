use Rattle.std.proofs.Common.{◌≡◌, ◌++◌, ◌+◌, ◌-◌, ◌≤◌, replicate, vec_len, vec_capacity}
use Rattle.ash_slots.proofs.words.Words.grow.Given as goal

abbrev pub invariant-loop-place : goal.invariant-loop-place
invariant-loop-place l = record {
  items : (l.self-inside).words.items ≡ (l.initial.self-inside).words.items ++ replicate l._place l.word;
  room : vec_len (l.self-inside).words + (l.more - l._place) ≤ vec_capacity (l.self-inside).words;
}
