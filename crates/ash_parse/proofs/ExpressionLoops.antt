-- The loops of an expression go on with fewer tokens.
use Rattle.std.proofs.Common.{◌≡◌, ℕ, ◌<◌, ◌≤◌, ◌-◌, zero, suc, Bool, [], true, false, refl, arith}
use Rattle.ash_lex.specs.declared.signs.Sign.{Sign}
use Rattle.ash_tree.specs.GrammarTokens.{Tokens}
use Rattle.ash_tree.specs.Expressions.{IsInner, no_more_exprs, no_links}
use Rattle.ash_parse.specs.Readers.{next_is_sign}
use Rattle.ash_parse.specs.ExpressionReader.{next_expr_with, is_suffix, suffix_with, is_link, link_by, operator_at, binary_with, below_at, assign_with, unary_with, limit_at}
use Rattle.ash_parse.proofs.Readings.{Finds}
use Rattle.ash_parse.proofs.ExpressionShorter.{suffix_shorter, more_exprs_strict, links_strict}
use Rattle.ash_parse.proofs.ExpressionSound.{IsPart, whole_sound, part_sound, suffix_sound, grow_exprs, link_from_sound, binary_sound}
use Rattle.ash_parse.proofs.Loop.{Shrinks}

pub no_sign_left : (s : Sign) → next_is_sign s [] ≡ false
unfolding next_is_sign
no_sign_left s = refl

pub no_suffix_left : is_suffix [] ≡ false
unfolding is_suffix
no_suffix_left = refl

pub no_link_left : (n : ℕ) → is_link n [] ≡ false
unfolding is_link operator_at
no_link_left n = refl

module _ (room : ℕ) (h : room ≤ 64) where
  pub whole_finds : Finds (below_at room true) (IsInner 0 (64 - room))
  whole_finds = whole_sound room (64 - room) (omega arith)

  pub part_finds : Finds (below_at room false) (IsPart 0 (64 - room))
  part_finds = part_sound room (64 - room) (omega arith)

  pub next_expr_shrinks : Shrinks (next_expr_with (below_at room))
  next_expr_shrinks ts x rest e = more_exprs_strict (grow_exprs 0 (64 - room) (below_at room) whole_finds part_finds ts rest rest x [] e no_more_exprs)

  pub suffix_shrinks : Shrinks (suffix_with (below_at room))
  suffix_shrinks ts x rest e = suffix_shorter (suffix_sound 0 (64 - room) (below_at room) whole_finds part_finds ts x rest e)

  pub link_shrinks : (n : ℕ) → Shrinks (link_by n (binary_with (below_at room) n))
  unfolding link_by
  link_shrinks n ts x rest e = links_strict (link_from_sound 0 (64 - room) (below_at room) whole_finds part_finds n (binary_with (below_at room) n) (binary_sound 0 (64 - room) (below_at room) whole_finds part_finds n) ts rest rest x [] (operator_at n ts) refl e no_links)

-- with room, a phrase one deeper is read with less
pub below-whole : (room : ℕ) (ts : Tokens) → 0 < room → below_at room true ts ≡ assign_with (below_at (room - 1)) ts
unfolding below_at
below-whole zero ts h = absurd (omega arith)
below-whole (suc room) ts h = let e : suc room - 1 ≡ room = omega arith in rw e refl

pub below-part : (room : ℕ) (ts : Tokens) → 0 < room → below_at room false ts ≡ unary_with (below_at (room - 1)) ts
unfolding below_at
below-part zero ts h = absurd (omega arith)
below-part (suc room) ts h = let e : suc room - 1 ≡ room = omega arith in rw e refl

pub below-none : (room : ℕ) (whole : Bool) (ts : Tokens) → room ≡ 0 → below_at room whole ts ≡ limit_at ts
unfolding below_at
below-none zero whole ts h = refl
below-none (suc room) whole ts h = absurd (omega arith)
