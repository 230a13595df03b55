-- The loops of declarations and statements go on with fewer tokens.
use Rattle.std.proofs.Common.{◌≡◌, ℕ, zero, suc, ◌<◌, ◌≤◌, ◌-◌, [], false, refl, arith}
use Rattle.ash_tree.specs.GrammarTokens.{Tokens}
use Rattle.ash_tree.specs.Statements.{IsNested, no_more_decls, no_locals, no_cases}
use Rattle.ash_parse.specs.ExpressionReader.{below_at}
use Rattle.ash_parse.specs.StatementReader.{next_decl_with, goes_on, case_goes_on, local_with, case_with, stmt_with, stmt_limit_at, nested_at}
use Rattle.ash_parse.proofs.Readings.{Finds}
use Rattle.ash_parse.proofs.ExpressionLoops.{whole_finds, part_finds}
use Rattle.ash_parse.proofs.StatementShorter.{more_decls_strict, nested_shorter, locals_strict, cases_strict}
use Rattle.ash_parse.proofs.StatementSound.{IsClosed, grow_decls, local_sound, case_sound, nested_sound}
use Rattle.ash_parse.proofs.Loop.{Shrinks}

pub goes_on-none : goes_on [] ≡ false
unfolding goes_on
goes_on-none = refl

pub case_goes_on-none : case_goes_on [] ≡ false
unfolding case_goes_on
case_goes_on-none = refl

module _ (room : ℕ) (h : room ≤ 64) where
  pub nested_finds : Finds (nested_at room) (IsClosed IsNested 0 (64 - room))
  nested_finds = nested_sound room (64 - room) (omega arith)

  pub next_decl_shrinks : Shrinks (next_decl_with (below_at room))
  next_decl_shrinks ts x rest e = more_decls_strict (grow_decls 0 (64 - room) (below_at room) (whole_finds room h) (part_finds room h) ts rest rest x [] e no_more_decls)

  pub nested_shrinks : Shrinks (nested_at room)
  nested_shrinks ts x rest e = nested_shorter (nested_finds ts x rest e).0

  pub local_shrinks : Shrinks (local_with (below_at room) (nested_at room))
  local_shrinks ts x rest e = locals_strict (local_sound 0 (64 - room) (below_at room) (nested_at room) (whole_finds room h) (part_finds room h) nested_finds ts rest rest x [] e no_locals)

  pub case_shrinks : Shrinks (case_with (nested_at room))
  case_shrinks ts x rest e = cases_strict (case_sound 0 (64 - room) (below_at room) (nested_at room) (whole_finds room h) (part_finds room h) nested_finds ts rest rest x [] e no_cases)

-- with room, a statement one deeper is read with less
pub nested-some : (room : ℕ) (ts : Tokens) → 0 < room → nested_at room ts ≡ stmt_with (below_at (room - 1)) (nested_at (room - 1)) ts
unfolding nested_at
nested-some zero ts h = absurd (omega arith)
nested-some (suc room) ts h = let e : suc room - 1 ≡ room = omega arith in rw e refl

pub nested-none : (room : ℕ) (ts : Tokens) → room ≡ 0 → nested_at room ts ≡ stmt_limit_at ts
unfolding nested_at
nested-none zero ts h = refl
nested-none (suc room) ts h = absurd (omega arith)
