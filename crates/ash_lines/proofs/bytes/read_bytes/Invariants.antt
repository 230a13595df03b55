use Rattle.std.proofs.Common.{◌≡◌, ◌≤◌, length, vec_capacity, List, ℕ}
use Rattle.ash_lines.specs.Reading.{max_prefix_bytes, source_prefix}
use Rattle.ash_lines.proofs.bytes.read_bytes.Given as goal

abbrev pub invariant-loop-i : goal.invariant-loop-i
invariant-loop-i g l = record {
  read : (bytes : List ℕ) × g.S.Source.feed.reads l.initial.input bytes l.input × (length bytes ≡ l.i) × (l.prefix.items ≡ source_prefix bytes);
  room : max_prefix_bytes ≤ vec_capacity l.prefix;
}
