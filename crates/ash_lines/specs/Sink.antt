-- What a sink does with the bytes that are written to it.
use Rattle.std.specs.Prelude.{◌≡◌, ◌≤◌, ℕ, List, [], ◌++◌, length, Result, Ok, Err}
use Rattle.ash_lines.specs.declared.sink.WriteFault.{WriteFault}

-- what a sink does between two moments, and what it has buffered at one
pub record Outlet (K : Type 0) : Type 1 where
  -- these bytes went out
  pub writes : K → List ℕ → K → Type 0
  -- these bytes went out, and then a write failed
  pub fails : K → List ℕ → K → Type 0
  -- these bytes were written to it and haven't gone out
  pub buffered : K → List ℕ
  -- the most bytes that it buffers
  pub room : K → ℕ

-- What goes out goes out from moment to moment.
pub record IsOutlet {K : Type 0} (outlet : Outlet K) : Type 0 where
  pub nothing : (s : K) → outlet.writes s [] s
  pub onward : (s t u : K) (first then : List ℕ) → outlet.writes s first t → outlet.writes t then u
      → outlet.writes s (first ++ then) u
  pub broken : (s t u : K) (first then : List ℕ) → outlet.writes s first t → outlet.fails t then u
      → outlet.fails s (first ++ then) u

-- The room for what is buffered stays, and what is buffered fits in it.
pub record KeepsRoom {K : Type 0} (outlet : Outlet K) (old new : K) : Type 0 where
  pub same : outlet.room new ≡ outlet.room old
  pub within : length (outlet.buffered old) ≤ outlet.room old → length (outlet.buffered new) ≤ outlet.room new

-- The sink took these bytes: what went out and what is buffered now are what was buffered, and then they.
pub record Accepts {K : Type 0} (outlet : Outlet K) (old : K) (bytes : List ℕ) (new : K) : Type 0 where
  pub out : List ℕ
  pub written : outlet.writes old out new
  pub whole : outlet.buffered old ++ bytes ≡ out ++ outlet.buffered new
  pub room : KeepsRoom outlet old new

-- A prefix of what was buffered and of these bytes went out before a write failed.
pub record FailsPartway {K : Type 0} (outlet : Outlet K) (old : K) (bytes : List ℕ) (new : K) : Type 0 where
  pub out : List ℕ
  pub lost : List ℕ
  pub broke : outlet.fails old out new
  pub whole : outlet.buffered old ++ bytes ≡ out ++ lost

-- These bytes were written, or a write failed.
abbrev pub Writes : {K : Type 0} → Outlet K → K → List ℕ → Result (Unit {0}) WriteFault → K → Type 0
Writes outlet old bytes (Ok _) new = Accepts outlet old bytes new
Writes outlet old bytes (Err _) new = FailsPartway outlet old bytes new

-- All that was buffered, and these bytes, went out.
pub record WritesAll {K : Type 0} (outlet : Outlet K) (old : K) (bytes : List ℕ) (new : K) : Type 0 where
  pub written : outlet.writes old (outlet.buffered old ++ bytes) new
  pub empty : outlet.buffered new ≡ []
  pub room_same : outlet.room new ≡ outlet.room old

-- All that was buffered was written out, or a write failed.
abbrev pub Flushes : {K : Type 0} → Outlet K → K → Result (Unit {0}) WriteFault → K → Type 0
Flushes outlet old (Ok _) new = WritesAll outlet old [] new
Flushes outlet old (Err _) new = FailsPartway outlet old [] new

-- These bytes were written, and all went out.
abbrev pub WritesAndFlushes : {K : Type 0} → Outlet K → K → List ℕ → Result (Unit {0}) WriteFault → K → Type 0
WritesAndFlushes outlet old bytes (Ok _) new = WritesAll outlet old bytes new
WritesAndFlushes outlet old bytes (Err _) new = FailsPartway outlet old bytes new
