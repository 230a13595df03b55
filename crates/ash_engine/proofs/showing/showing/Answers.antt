use Rattle.std.proofs.Common.{◌≡◌, List, Some, None, Ok, sym, ◌∙◌, ap}
use Rattle.std.specs.Prelude.{option_map}
use Rattle.std.proofs.lemmas.Result.{err_from_is_err_and}
use Rattle.ash_objects.specs.Table.{count_of}
use Rattle.ash_object_ranks.specs.ShownTables.{body_shown}
use Rattle.ash_plain_data.specs.ObjectViews.{object_seen}
use Rattle.ash_requests.specs.Tasks.{TaskResult, Show}
use Rattle.ash_requests.specs.RequestViews.{named_seen, shown_seen}
use Rattle.ash_plain_steps.specs.TaskViews.{described_in}
use Rattle.ash_registry.specs.RegistryViews.{registered}
use Rattle.ash_sources.specs.SourceFaults.{SourceFault, MayTakeMemory}
use Rattle.ash_registry.specs.AcceptedRegistrations.{Registration}
use Rattle.ash_sources.specs.Sources.{embedding_of}
use Rattle.ash_states.specs.HostStates.{embedding_for}
use Rattle.ash_engine.specs.TableStates.{names_of}
use Rattle.ash_engine.proofs.ObjectsAsked.{no_object, no_class, shown_there, takes_memory}
use Rattle.ash_engine.proofs.showing.showing.Goals as goal

pub returns-in_default : goal.returns-in_default
returns-in_default g c =
    let live = c.args.live.now in
    record { task = no_object (embedding_for (registered c.args.registry.now)) live.loaded.modules.items c.requires.live.consistent g.B.HostObject (names_of live) live.loaded.seq live.table c.args.number (sym c.in_default.ensures.body) }

pub returns-in_err-object : goal.returns-in_err-object
returns-in_err-object g c =
    let live = c.args.live.now in
    let p = err_from_is_err_and c.from_residual.result c.from_residual.ensures.1 in
    record {
      task = rw (p.1, p.2) (takes_memory (embedding_for (registered c.args.registry.now)) live.loaded.modules.items c.requires.live.consistent g.B.HostObject (names_of live) live.loaded.seq live.table
          MayTakeMemory c.args.number c.in-Some.body.now (sym c.in-Some.ensures.body) ((c.requires.live.admitted).formed).living);
    }

pub returns-in_err-type_name : goal.returns-in_err-type_name
returns-in_err-type_name g c =
    let live = c.args.live.now in
    let p = err_from_is_err_and c.from_residual-in_err-type_name.result c.from_residual-in_err-type_name.ensures.1 in
    record {
      task = rw (p.1, p.2) (takes_memory (embedding_for (registered c.args.registry.now)) live.loaded.modules.items c.requires.live.consistent g.B.HostObject (names_of live) live.loaded.seq live.table
          MayTakeMemory c.args.number c.in-Some.body.now (sym c.in-Some.ensures.body) ((c.requires.live.admitted).formed).living);
    }

pub returns-in_default-2 : goal.returns-in_default-2
returns-in_default-2 g c =
    let live = c.args.live.now in
    let embedding = embedding_for (registered c.args.registry.now) in
    let ms = live.loaded.modules.items in
    let body = c.in-Some.body.now in
    let none : described_in embedding.name_of_kind ms (body_shown g.B.HostObject (names_of live) body) ≡ None =
    ap (described_in embedding.name_of_kind ms) (sym c.in_ok-object.ensures.object)
    ∙ ap (λ (r : List Registration). described_in (embedding_of r).name_of_kind ms (object_seen c.in_ok-object.object)) (sym c.sources_for-sources.ensures.value)
    ∙ sym c.in_ok-type_name.ensures.described ∙ ap (option_map named_seen) c.in_default-2.is in
    record { task = no_class embedding ms c.requires.live.consistent g.B.HostObject (names_of live) live.loaded.seq live.table c.args.number body (sym c.in-Some.ensures.body) none }

pub returns-in_default-try_from : goal.returns-in_default-try_from
returns-in_default-try_from g c =
    let live = c.args.live.now in
    record {
      task = takes_memory (embedding_for (registered c.args.registry.now)) live.loaded.modules.items c.requires.live.consistent g.B.HostObject (names_of live) live.loaded.seq live.table
          MayTakeMemory c.args.number c.in-Some.body.now (sym c.in-Some.ensures.body) ((c.requires.live.admitted).formed).living;
    }

pub returns : goal.returns
returns g c =
    let live = c.args.live.now in
    let embedding = embedding_for (registered c.args.registry.now) in
    let ms = live.loaded.modules.items in
    let body = c.in-Some.body.now in
    let shown = named_seen (c.in-Some-2.type_name, c.in-Some-2.contents) in
    let found : described_in embedding.name_of_kind ms (body_shown g.B.HostObject (names_of live) body) ≡ Some shown =
    ap (described_in embedding.name_of_kind ms) (sym c.in_ok-object.ensures.object)
    ∙ ap (λ (r : List Registration). described_in (embedding_of r).name_of_kind ms (object_seen c.in_ok-object.object)) (sym c.sources_for-sources.ensures.value)
    ∙ sym c.in_ok-type_name.ensures.described ∙ ap (option_map named_seen) c.in-Some-2.is in
    let count : c.in-Ok.count ≡ count_of c.args.number live.table = c.in-Ok.ensures.1 ∙ c.count.ensures.count in
    record {
      task =
          (λ i. Some (Ok (Show (shown_seen (record { number = c.args.number; type_name = c.in-Some-2.type_name; count = count i; contents = c.in-Some-2.contents })))))
          ∙ ap (λ (r : TaskResult SourceFault). Some r) (sym (shown_there embedding ms c.requires.live.consistent g.B.HostObject (names_of live) live.loaded.seq live.table c.args.number body shown (sym c.in-Some.ensures.body) found c.requires.live.held));
    }
