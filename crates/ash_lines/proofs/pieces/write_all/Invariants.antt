use Rattle.std.proofs.Common.{◌≡◌, ◌++◌, List, ℕ, drop}
use Rattle.std.specs.Borrow.{Bor}
use Rattle.std.specs.List.{flat_map}
use Rattle.ash_lines.specs.Sink.{Accepts}
use Rattle.ash_lines.proofs.pieces.write_all.Given as goal

abbrev pub invariant-loop-piece : goal.invariant-loop-piece
invariant-loop-piece g l = (text : List ℕ) × Accepts g.K.Sink.outlet l.initial.output text l.output × (flat_map (λ (p : Bor (List ℕ)). p.now) l.pieces ≡ text ++ flat_map (λ (p : Bor (List ℕ)). p.now) (drop l.piece-index l.pieces))
