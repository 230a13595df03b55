use Rattle.std.proofs.Common.{List, ap, subst}
use Rattle.std.specs.Prelude.{All}
use Rattle.ash_registry.specs.RegistryViews.{registered}
use Rattle.ash_requests.specs.States.{State}
use Rattle.ash_soundness.specs.WellFormed.{IsState}
use Rattle.ash_plain_steps.specs.StateViews.{modules_seen}
use Rattle.ash_engine.specs.declared.live.Live.{Live}
use Rattle.ash_engine.proofs.FirstLives.{lives_first, begun}
use Rattle.ash_engine.proofs.starting.first_live.Goals as goal

pub returns : goal.returns
returns g c =
    let G = g.B.HostObject in
    let B = g.row.B.Denot in
    let here = registered c.args.registry.now in
    let pool = c.args.pool.items in
    let services = c.args.services.items in
    let l : Live B = record { loaded = c.new-2.result; compiled = c.new-3.result; table = c.new-4.result; changes = c.none.result } in
    let seq = ap (λ (s : State). s.seq) c.new-2.ensures.is_empty in
    record {
      live = lives_first G here pool services l c.new-2.ensures.no_modules seq c.new-3.ensures.items
          c.new-4.ensures.objects c.new-4.ensures.pool c.new-4.ensures.services c.new-4.ensures.last c.new-4.ensures.settled c.new-4.ensures.gone
          (c.none.ensures.nothing (modules_seen c.new-2.result.modules.items)) c.requires.kinds c.requires.few
          (subst (λ (boxes : List B). All (λ (box : B). IsState (G.state box)) boxes) c.deref.ensures.value c.boxes_fit.ensures.fit)
          (subst (λ (boxes : List B). All (λ (box : B). IsState (G.state box)) boxes) c.deref-2.ensures.value c.boxes_fit-2.ensures.fit);
      begun = begun G here pool services l c.new-2.ensures.no_modules seq c.new-3.ensures.items
          c.new-4.ensures.objects c.new-4.ensures.pool c.new-4.ensures.services c.new-4.ensures.last c.new-4.ensures.settled c.new-4.ensures.gone
          (c.none.ensures.nothing (modules_seen c.new-2.result.modules.items));
    }
