-- Operators join level by level, from the tightest on; a level whose operator is not next changes nothing.
use Rattle.std.proofs.Common.{◌≡◌, ℕ, ◌<◌, ◌≤◌, ◌+◌, ◌-◌, ◌==◌, zero, suc, Bool, List, [], ◌∷◌, true, false, Option, Some, None, is_some, if◌then◌else◌, Ok, Err, refl, sym, ap, ◌∙◌, arith}
use Rattle.std.proofs.lemmas.Bool.Decides.{nat_tests}
use Rattle.ash_tree.specs.declared.tree.operators.BinaryOp.{BinaryOp}
use Rattle.ash_tree.specs.Tree.{Expr, OperatorLink, chained}
use Rattle.ash_tree.specs.GrammarTokens.{Tokens}
use Rattle.ash_tree.specs.Operators.{binary_operator, level}
use Rattle.ash_parse.specs.declared.error.ParseError.{ParseError}
use Rattle.ash_parse.specs.Readers.{ParseResult, ◌>>=◌, Fails}
use Rattle.ash_parse.proofs.Stops.{fails_bind}
use Rattle.ash_parse.specs.ExpressionReader.{Below, operator_by, operator_at, is_link, level_by, next_level, link_by, links_by, chain_by, binary_with, unary_with, below_at}
use Rattle.ash_parse.proofs.Loop.{loop_done}
use Rattle.ash_parse.proofs.ExpressionLoops.{no_link_left, link_shrinks}

chosen : {A : Type 0} (b : Bool) (x : A) → is_some (if b then Some x else None) ≡ b
chosen true x = refl
chosen false x = refl

none_stands : (n : ℕ) → (0 == suc n) ≡ false
none_stands n = grind (arith, nat_tests)

-- an operator joins operands of the level below its own
operator_level : (n : ℕ) (o : Option BinaryOp) (ts : Tokens) → is_some (operator_by n o ts) ≡ (level_by o == suc n)
operator_level n None ts = sym (none_stands n)
operator_level n (Some o) ts = chosen (level o == suc n) (o, ts)

link_level : (n : ℕ) (ts : Tokens) → is_link n ts ≡ (next_level ts == suc n)
unfolding is_link operator_at next_level
link_level n [] = sym (none_stands n)
link_level n ((m, p) ∷ ts) = operator_level n (binary_operator m) ts

-- the levels from one on that the next operator is not of
abbrev pub Skips : ℕ → ℕ → Tokens → Type 0
Skips from to ts = (n : ℕ) → from ≤ n → n < to → is_link n ts ≡ false

skips : (from to : ℕ) (ts : Tokens) → ((n : ℕ) → from ≤ n → n < to → (next_level ts ≡ suc n) → ⊥) → Skips from to ts
skips from to ts h n l u = link_level n ts ∙ grind (arith, nat_tests, h n l u)

bind_ok : {A : Type 0} (read : ParseResult A) → (read >>= λ x. Ok x) ≡ read
bind_ok (Ok x) = refl
bind_ok (Err e) = refl

-- what was read, with the operators of a level after it
abbrev pub step : Below → ℕ → Expr × Tokens → ParseResult Expr
step below n x = links_by n (binary_with below n) x.1 >>= λ more. Ok (chained x.0 more.0, more.1)

-- what was read, with the operators of so many levels after it, from one on
unfoldable pub rises : Below → ℕ → ℕ → Expr × Tokens → ParseResult Expr
rises below zero from x = Ok x
rises below (suc count) from x = step below from x >>= rises below count (suc from)

module _ (below : Below) where
  rise_first : (n from : ℕ) (o : ParseResult Expr) → ((x : Expr × Tokens) → rises below (suc n) from x ≡ (rises below n from x >>= step below (from + n))) → (o >>= rises below (suc n) from) ≡ ((o >>= rises below n from) >>= step below (from + n))
  rise_first n from (Ok x) h = h x
  rise_first n from (Err e) h = refl

  -- the last level is read last
  rise_last : (n from : ℕ) (x : Expr × Tokens) → rises below (suc n) from x ≡ (rises below n from x >>= step below (from + n))
  unfolding rises
  rise_last zero from x = let e : from + 0 ≡ from = omega arith in rw e (bind_ok (step below from x))
  rise_last (suc n) from x = let e : from + suc n ≡ suc from + n = omega arith in rw e (rise_first n (suc from) (step below from x) (rise_last n (suc from)))

  -- an operand with the operators of all levels up to one
  all_rise : (n : ℕ) (ts : Tokens) → binary_with below n ts ≡ (unary_with below ts >>= rises below n 0)
  unfolding binary_with chain_by rises
  all_rise zero ts = sym (bind_ok (unary_with below ts))
  all_rise (suc n) ts =
      let e : 0 + n ≡ n = omega arith in
      let last : (unary_with below ts >>= rises below (suc n) 0) ≡ ((unary_with below ts >>= rises below n 0) >>= step below n) = rw e at (rise_first n 0 (unary_with below ts) (rise_last n 0)) in
      ap (λ (o : ParseResult Expr). o >>= step below n) (all_rise n ts) ∙ sym last

  pub climb_begins : (n : ℕ) (ts : Tokens) (x : Expr × Tokens) → unary_with below ts ≡ Ok x → rises below (n - 0) 0 x ≡ binary_with below n ts
  climb_begins n ts x h = let e : n - 0 ≡ n = omega arith in rw e (sym (all_rise n ts ∙ ap (λ o. o >>= rises below n 0) h))

  pub operand_fails : (e : ParseError) (n : ℕ) (ts : Tokens) → Fails e (unary_with below ts) → Fails e (binary_with below n ts)
  operand_fails e n ts h = rw (all_rise n ts) (fails_bind e (unary_with below ts) (rises below n 0) h)

module _ (room : ℕ) (h : room ≤ 64) where
  idle : (n : ℕ) (x : Expr × Tokens) → is_link n x.1 ≡ false → step (below_at room) n x ≡ Ok x
  unfolding links_by
  idle n x none = ap (λ o. o >>= λ more. Ok (chained x.0 more.0, more.1)) (loop_done (is_link n) (link_by n (binary_with (below_at room) n)) (link_shrinks room h n) (no_link_left n) x.1 none)

  -- levels whose operator is not next are skipped
  skip : (k m count from to : ℕ) (x : Expr × Tokens) → m ≡ k + count → to ≡ from + k → Skips from to x.1 → rises (below_at room) m from x ≡ rises (below_at room) count to x
  unfolding rises
  skip zero m count from to x p q s = let e : m ≡ count = omega arith in let f : to ≡ from = omega arith in rw (e, f) refl
  skip (suc k) zero count from to x p q s = absurd (omega arith)
  skip (suc k) (suc m) count from to x p q s =
      let one : step (below_at room) from x ≡ Ok x = idle from x (s from (omega arith) (omega arith)) in
      rw one (skip k m count (suc from) to x (omega arith) (omega arith) (λ n l u. s n (omega arith) u))

  -- where no operator of the levels that are left is next, all is read
  pub climb_ends : (level from next : ℕ) (x : Expr × Tokens) (total : ParseResult Expr) → next ≡ next_level x.1 → (from < next → next ≤ level → ⊥) → rises (below_at room) (level - from) from x ≡ total → total ≡ Ok x
  unfolding rises
  climb_ends level from next x total is over so_far =
      let unread : (n : ℕ) → from ≤ n → n < from + (level - from) → (next_level x.1 ≡ suc n) → ⊥ = λ n l u e. over (omega arith) (omega arith) in
      sym so_far ∙ skip (level - from) (level - from) 0 from (from + (level - from)) x (omega arith) refl (skips from (from + (level - from)) x.1 unread)

  -- up to the level of the operator that is next
  climb_to : (level from next : ℕ) (x : Expr × Tokens) (total : ParseResult Expr) → next ≡ next_level x.1 → from < next → next ≤ level → rises (below_at room) (level - from) from x ≡ total → (step (below_at room) (next - 1) x >>= rises (below_at room) (level - next) next) ≡ total
  unfolding rises
  climb_to level from next x total is l u so_far =
      let one : suc (next - 1) ≡ next = omega arith in
      let same : rises (below_at room) (level - from) from x ≡ rises (below_at room) (suc (level - next)) (next - 1) x =
      skip (next - 1 - from) (level - from) (suc (level - next)) from (next - 1) x (omega arith) (omega arith) (skips from (next - 1) x.1 (λ n a b e. omega arith)) in
      rw one at (sym same ∙ so_far)

  pub climbs : (level from next : ℕ) (e : Expr) (ts after : Tokens) (more : List OperatorLink) (total : ParseResult Expr) → next ≡ next_level ts → from < next → next ≤ level → links_by (next - 1) (binary_with (below_at room) (next - 1)) ts ≡ Ok (more, after) → rises (below_at room) (level - from) from (e, ts) ≡ total → rises (below_at room) (level - next) next (chained e more, after) ≡ total
  climbs level from next e ts after more total is l u read so_far = rw read at (climb_to level from next (e, ts) total is l u so_far)

  pub climb_fails : (s : ParseError) (level from next : ℕ) (e : Expr) (ts : Tokens) (total : ParseResult Expr) → next ≡ next_level ts → from < next → next ≤ level → Fails s (links_by (next - 1) (binary_with (below_at room) (next - 1)) ts) → rises (below_at room) (level - from) from (e, ts) ≡ total → Fails s total
  climb_fails s level from next e ts total is l u read so_far =
      rw (← climb_to level from next (e, ts) total is l u so_far) (fails_bind s _ _ (fails_bind s _ _ read))
