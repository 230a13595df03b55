use Rattle.std.proofs.Common.{◌∷◌, [], ap, ◌∙◌, arith}
use Rattle.ash_objects.specs.Responses.{box_at}
use Rattle.ash_objects.specs.Table.{with_object, held}
use Rattle.ash_run_steps.specs.RunStates.{state_with}
use Rattle.ash_run_steps.proofs.Bare.{bare_held}
use Rattle.ash_run_steps.proofs.BoxChanges.{box_held, box_lives}
use Rattle.ash_run_steps.proofs.Draws.{held_gives}
use Rattle.ash_run_steps.proofs.HoldSteps.{at_table}
use Rattle.ash_run_steps.proofs.Roots.{few_holds, counts_more, more_one, times_holding, holding}
use Rattle.ash_run_steps.proofs.state.RunState.hold_host.Goals as goal

pub hold-requires-clause-few : goal.hold-requires-clause-few
hold-requires-clause-few g c =
    let s = c.self.inside in
    omega (arith, few_holds c.args.number (state_with s.table s.stack s.globals.items s.outside.items s.events.items s.ticks) c.self.invariant, s.globals.ok.0, s.outside.ok.0, c.facts.ensures.few)

pub invariant_of-self-2 : goal.invariant_of-self-2
invariant_of-self-2 g c =
    let s = c.self.inside in
    let n = c.args.number in
    let host = rw (← c.self.view_is) at c.requires.host in
    rw (c.in_ok-push_held.ensures.held, c.hold.ensures.held) (counts_more (n ∷ []) (state_with s.table s.stack s.globals.items s.outside.items s.events.items s.ticks) (at_table (with_object n held s.table) (holding (n ∷ []) (state_with s.table s.stack s.globals.items s.outside.items s.events.items s.ticks))) (more_one n s.table (box_lives n s.table host)) (λ m. times_holding m (n ∷ []) (state_with s.table s.stack s.globals.items s.outside.items s.events.items s.ticks)) c.self.invariant)

pub returns-clause-held : goal.returns-clause-held
returns-clause-held g c =
    let s = c.self.inside in
    let n = c.args.number in
    λ names. rw (← c.self.view_is, c.in_ok-push_held.ensures.held, c.hold.ensures.held) (held_gives g.B.HostObject names n (state_with s.table s.stack s.globals.items s.outside.items s.events.items s.ticks) (with_object n held s.table) (bare_held n s.table))

pub returns-clause-host : goal.returns-clause-host
returns-clause-host g c =
    let s = c.self.inside in
    rw (← c.self.view_is) (ap (box_at c.args.number) c.hold.ensures.held ∙ box_held c.args.number c.args.number s.table)
