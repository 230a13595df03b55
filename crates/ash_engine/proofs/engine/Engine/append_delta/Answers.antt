use Rattle.std.proofs.Common.{◌+◌, ◌≤◌, ◌-◌, ◌^◌, ℕ, List, length, ap, ◌∙◌, arith}
use Rattle.std.specs.Prelude.{Some}
use Rattle.std.proofs.lemmas.List.{length-append}
use Rattle.std.proofs.lemmas.Result.{on_ok_weaker}
use Rattle.ash_registry.specs.RegistryViews.{registered}
use Rattle.ash_image.specs.declared.version.Version.TheVariants.{Two}
use Rattle.ash_image.specs.Delta.{delta}
use Rattle.ash_image.proofs.DeltaLengths.{delta_short}
use Rattle.ash_states.specs.HostStates.{HostState}
use Rattle.ash_change_laws.specs.ChangedStates.{Changes}
use Rattle.ash_change_records.specs.ListedChanges.{changes_listed, AppendsListing}
use Rattle.ash_engine.specs.LiveStates.{LiveState, EngineState}
use Rattle.ash_engine.proofs.LiveFacts.{appended_in}
use Rattle.ash_engine.proofs.engine.Engine.append_delta.Goals as goal

short : (changes : Changes) (after : HostState) (old new : List ℕ) → AppendsListing changes after old new
    → length new ≤ length old + (2 ^ 28 - 2)
short changes after old new appends =
    let d = changes_listed changes after in
    omega (
      arith,
      ap (λ (bytes : List ℕ). length bytes) appends.appended,
      length-append old (delta d),
      delta_short Two d appends.fits appends.few,
    )

pub returns-clause-delta : goal.returns-clause-delta
returns-clause-delta g c live is =
    let here = registered c.self.inside.registry in
    appended_in g.B.HostObject here c.self.inside.live c.in-Some.live c.in-Some.is live
    (ap (λ (e : EngineState _). e.live) c.self.view_is ∙ is) c.append_changes.result c.args.body.now.items
    c.append_changes.new.out.items (c.append_changes.ensures.appended here)

pub returns-clause-short : goal.returns-clause-short
returns-clause-short g c =
    let here = registered c.self.inside.registry in
    on_ok_weaker c.append_changes.result (short _ _ c.args.body.now.items c.append_changes.new.out.items)
    (c.append_changes.ensures.appended here)
