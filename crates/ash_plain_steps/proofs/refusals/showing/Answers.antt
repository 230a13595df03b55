use Rattle.std.proofs.Common.{◌≡◌, Option, Some, Ok, sym, ◌∙◌, ap}
use Rattle.std.specs.Prelude.{is_some, option_map}
use Rattle.std.proofs.lemmas.Result.{err_from_is_err_and}
use Rattle.ash_plain_data.specs.ObjectViews.{object_seen}
use Rattle.ash_requests.specs.Tasks.{TaskResult, Show}
use Rattle.ash_requests.specs.RequestViews.{named_seen, shown_seen}
use Rattle.ash_plain_steps.specs.TaskViews.{described_in}
use Rattle.ash_plain_steps.proofs.ShownObjects.{shown_takes, shown_there}
use Rattle.ash_plain_steps.proofs.refusals.showing.Goals as goal

pub returns-in_err-type_name-clause-task : goal.returns-in_err-type_name-clause-task
returns-in_err-type_name-clause-task g c known =
    let p = err_from_is_err_and c.from_residual.result c.from_residual.ensures.1 in
    rw (p.1, p.2) (shown_takes (g.S.SourceReader.embedding c.args.sources.now) c.args.state.now g.S.SourceReader.TakesMemory c.args.number (object_seen c.in-Some.object.now) known c.in-Some.ensures.object c.in_err-type_name.ensures.memory)

pub returns-in_err-count-clause-task : goal.returns-in_err-count-clause-task
returns-in_err-count-clause-task g c known =
    let p = err_from_is_err_and c.from_residual-in_err-count.result c.from_residual-in_err-count.ensures.1 in
    let found : Some (named_seen (c.in-Some-2.type_name, c.in-Some-2.contents)) ≡ described_in (g.S.SourceReader.embedding c.args.sources.now).name_of_kind c.args.state.now.modules.items (object_seen c.in-Some.object.now) = ap (option_map named_seen) (sym c.in-Some-2.is) ∙ c.in_ok-type_name.ensures.described in
    rw (p.1, p.2) (shown_takes (g.S.SourceReader.embedding c.args.sources.now) c.args.state.now g.S.SourceReader.TakesMemory c.args.number (object_seen c.in-Some.object.now) known c.in-Some.ensures.object (ap (λ (o : Option _). is_some o) (sym found)))

pub returns-clause-task : goal.returns-clause-task
returns-clause-task g c known =
    let found : Some (named_seen (c.in-Some-2.type_name, c.in-Some-2.contents)) ≡ described_in (g.S.SourceReader.embedding c.args.sources.now).name_of_kind c.args.state.now.modules.items (object_seen c.in-Some.object.now) = ap (option_map named_seen) (sym c.in-Some-2.is) ∙ c.in_ok-type_name.ensures.described in
    (λ j. Some (Ok (Show (shown_seen (record { number = c.args.number; type_name = c.in-Some-2.type_name; count = c.in_ok-count.ensures.value j; contents = c.in-Some-2.contents })))))
    ∙ ap (λ (r : TaskResult g.S.SourceReader.FaultSeen). Some r) (sym (shown_there (g.S.SourceReader.embedding c.args.sources.now) c.args.state.now c.args.number (object_seen c.in-Some.object.now) (named_seen (c.in-Some-2.type_name, c.in-Some-2.contents)) known c.in-Some.ensures.object found))
