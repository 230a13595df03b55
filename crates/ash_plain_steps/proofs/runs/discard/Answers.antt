use Rattle.std.proofs.Common.{◌≡◌, List, [], ◌∙◌, ap, sym, subst}
use Rattle.std.specs.List.{remove}
use Rattle.ash_plain_world.specs.ActivityViews.{world_seen}
use Rattle.std.proofs.lemmas.Option.{slice_get-get_or}
use Rattle.std.specs.Prelude.{slice_get}
use Rattle.std.proofs.Common.{get_or}
use Rattle.ash_requests.specs.States.{LoadedModule, world_of}
use Rattle.ash_plain_steps.specs.declared.state.LoadedModule as code_module
use Rattle.ash_plain_steps.specs.StateViews.{loaded_seen, modules_seen, state_seen, hosts_seen}
use Rattle.ash_plain_steps.specs.StepViews.{step_seen}
use Rattle.ash_plain_steps.specs.Consistency.{AreConsistent}
use Rattle.ash_plain_steps.proofs.Changed.{removed_there, consistent_remove}
use Rattle.ash_plain_steps.proofs.Ran.{discarded}
use Rattle.ash_plain_steps.proofs.runs.discard.Goals as goal

pub returns-clause-stepped : goal.returns-clause-stepped
returns-clause-stepped g c budget m there up =
    let ms = c.args.state.modules.items in
    let rest : modules_seen c.in_ok-rest.rest.modules.items ≡ modules_seen (remove ms c.args.place) = ap (λ (v : _). modules_seen v.items) c.in_ok-rest.ensures.modules ∙ ap (λ (l : List code_module.LoadedModule). modules_seen l) c.remove.ensures.items in
    discarded g.S.SourceReader.fault_seen budget (loaded_seen m).name (state_seen c.args.state) (hosts_seen c.args.hosts)
    (modules_seen c.in_ok-rest.rest.modules.items) (world_seen c.in_ok-rest.world) (world_seen c.give_up_frames.new.self) (step_seen g.S.SourceReader.fault_seen c.answered.result)
    (rest ∙ removed_there ms c.args.place m up there)
    (c.in_ok-rest.ensures.world
    ∙ (λ i. world_of (c.new.ensures.items i) (modules_seen (c.remove.ensures.items i)) (state_seen c.args.state) (hosts_seen c.args.hosts))
    ∙ ap (λ (l : List LoadedModule). world_of [] l (state_seen c.args.state) (hosts_seen c.args.hosts)) (sym rest))
    c.in_ok-give_up_frames.ensures.swept
    (c.answered.ensures.stepped (state_seen c.args.state) (sym c.in_ok-rest.ensures.seq))

pub returns-clause-consistent : goal.returns-clause-consistent
returns-clause-consistent g c embedding known =
    let ms = c.args.state.modules.items in
    let at : slice_get ms c.args.place ≡ _ = slice_get-get_or ms c.args.place c.remove.result c.requires.there.within in
    let rest : c.answered.result.state.modules.items ≡ remove ms c.args.place = ap (λ (v : _). v.items) c.answered.ensures.modules ∙ ap (λ (v : _). v.items) c.in_ok-rest.ensures.modules ∙ c.remove.ensures.items in
    subst (λ (l : List code_module.LoadedModule). AreConsistent embedding l) (sym rest) (consistent_remove embedding ms c.args.place (get_or ms c.args.place c.remove.result) known at)
