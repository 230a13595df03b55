use Rattle.std.proofs.Common.{take}
use Rattle.ash_host.specs.Objects.{handles}
use Rattle.ash_image.specs.Search.{Visited, progress_of}
use Rattle.ash_image.proofs.reaching.visit.Given as goal

abbrev pub invariant-loop-word : goal.invariant-loop-word
invariant-loop-word l =
    Visited l.alive (handles (take l.word-index l.words)) (progress_of l.fn.search) (progress_of l.search)
