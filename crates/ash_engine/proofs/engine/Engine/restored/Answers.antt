use Rattle.std.proofs.Common.{◌≡◌, Some, Err, ap, subst}
use Rattle.std.proofs.lemmas.Result.{err_from_is_err_and}
use Rattle.ash_objects.specs.declared.restoring.TableFault.{TableFault}
use Rattle.ash_registry.specs.RegistryViews.{registered}
use Rattle.ash_states.specs.HostStates.{HostState}
use Rattle.ash_engine.specs.LiveStates.{EngineState}
use Rattle.ash_engine.specs.RestoredBoxes.{IsShort, IsRefused, Restores}
use Rattle.ash_engine.specs.TableStates.{live_seen}
use Rattle.ash_engine.proofs.engine.Engine.restored.Goals as goal

pub returns-in_err-live-clause-short : goal.returns-in_err-live-clause-short
returns-in_err-live-clause-short g c = λ kind is.
    let p = err_from_is_err_and c.from_residual-in_err-live.result c.from_residual-in_err-live.ensures.1 in
    let reported : c.in_err-live.field-0.0 ≡ TableFault.PoolShort kind = cc in
    subst (λ (t : HostState). IsShort g.B.HostObject t c.args.pool.items c.args.services.items kind) c.into_parts-registry.ensures.same
    (c.in_err-live.ensures.short kind (ap Err reported) c.args.services.items c.in_ok-taken.ensures.has)

pub returns-in_err-live-clause-refused : goal.returns-in_err-live-clause-refused
returns-in_err-live-clause-refused g c = λ number is.
    let p = err_from_is_err_and c.from_residual-in_err-live.result c.from_residual-in_err-live.ensures.1 in
    let reported : c.in_err-live.field-0.0 ≡ TableFault.RestoreRefused number = cc in
    subst (λ (t : HostState). IsRefused g.B.HostObject t c.args.pool.items c.args.services.items number) c.into_parts-registry.ensures.same
    (c.in_err-live.ensures.refused number (ap Err reported) c.args.services.items c.in_ok-taken.ensures.has c.in_ok-taken.ensures.taken)

pub returns-clause-restored : goal.returns-clause-restored
returns-clause-restored g c =
    let G = g.B.HostObject in
    let B = g.row.B.Denot in
    let parts = c.into_parts-registry.result in
    let live = live_seen G (registered parts.0) c.in_ok-live.live in (
      live,
      ap (λ (t : HostState). let e : EngineState B = record { registered = t.registered; live = Some live } in e) c.into_parts-registry.ensures.same,
      subst (λ (t : HostState). Restores G t c.args.pool.items c.args.services.items live) c.into_parts-registry.ensures.same
          (c.in_ok-live.ensures.restored c.args.services.items c.in_ok-taken.ensures.has c.in_ok-taken.ensures.taken),
    )
