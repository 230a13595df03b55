use Rattle.std.proofs.Common.{false, ap, ◌∙◌, ◌++◌, ◌∷◌, []}
use Rattle.std.proofs.Common.{List, Bool}
use Rattle.std.proofs.lemmas.List.{replicate-append-replicate}
use Rattle.ash_image.proofs.reaching.unmarked.Goals as goal

pub loop-preserved : goal.loop-preserved
loop-preserved c =
    c.in_ok-push.ensures.items ∙ ap (λ (bs : List Bool). bs ++ false ∷ []) c.loop.invariant
    ∙ replicate-append-replicate c.loop.counter 1 false
