use Rattle.std.proofs.Common.{◌≡◌, ◌<◌, ◌≤◌, ◌+◌, ◌^◌, List, [], Some, refl, sym, ap, ◌∙◌, subst, slice_get, length}
use Rattle.std.proofs.lemmas.Option.{same_Some, slice_get-get_or}
use Rattle.ash_host.specs.declared.event.Event.{Event}
use Rattle.ash_host.specs.declared.word.Word.{Word}
use Rattle.ash_host.specs.Objects.{handles}
use Rattle.ash_objects.specs.Table.{Table, holds_of}
use Rattle.ash_run_steps.specs.RunStates.{times}
use Rattle.ash_plain_steps.specs.declared.state.LoadedModule.{LoadedModule}
use Rattle.ash_engine.specs.declared.live.Live.{Live}
use Rattle.ash_engine.specs.TableRuns.{Released}
use Rattle.ash_engine.proofs.discarding.remove_module.Goals as goal

pub release_or_keep-requires : goal.release_or_keep-requires
release_or_keep-requires g c =
    let ms = c.args.live.loaded.modules.items in
    let found : LoadedModule = c.index.result.now in
    let there : slice_get ms c.args.place ≡ Some found = slice_get-get_or ms c.args.place found c.requires.within ∙ ap (λ (x : LoadedModule). Some x) (sym c.index.ensures) in
    record {
      held = λ n. subst (λ (ws : List Word). times n (handles ws) ≤ holds_of n c.args.live.table) (sym c.deref.ensures.value) (c.requires.held found n there);
      few = λ n. subst (λ (ws : List Word). holds_of n c.args.live.table + length ws < 2 ^ 127) (sym c.deref.ensures.value) (c.requires.few found n there);
    }

pub returns-in-Ok-clause-removed : goal.returns-in-Ok-clause-removed
returns-in-Ok-clause-removed g c = λ m at.
    let ms = c.args.live.loaded.modules.items in
    let found : LoadedModule = c.index.result.now in
    let there : slice_get ms c.args.place ≡ Some found = slice_get-get_or ms c.args.place found c.requires.within ∙ ap (λ (x : LoadedModule). Some x) (sym c.index.ensures) in
    let same : found ≡ m = same_Some found m (sym there ∙ at) in
    let table = c.args.live.table in
    let left = c.release_or_keep.new.table in
    let after = c.release_or_keep.new.events.items in
    record {
      modules = c.remove-removed.ensures.items;
      loaded = refl;
      compiled = c.remove.ensures.items;
      released = subst (λ (ws : List Word). Released ws table left [] after) (c.deref.ensures.value ∙ ap (λ (x : LoadedModule). x.globals.items) same)
          (subst (λ (es : List Event). Released c.deref.result.now table left es after) c.new-events.ensures.items c.in-Ok.ensures.released);
    }

pub returns-in-Ok-clause-named : goal.returns-in-Ok-clause-named
returns-in-Ok-clause-named g c = λ m at.
    let ms = c.args.live.loaded.modules.items in
    let removed = c.remove-removed.result in
    let there : slice_get ms c.args.place ≡ Some removed = slice_get-get_or ms c.args.place removed c.requires.within ∙ ap (λ (x : LoadedModule). Some x) (sym c.remove-removed.ensures.value) in
    ap (λ (x : LoadedModule). x.name) (same_Some removed m (sym there ∙ at))

pub returns-in-Err-clause-kept : goal.returns-in-Err-clause-kept
returns-in-Err-clause-kept g c =
    ap (λ (t : Table g.row.B.Denot). let l : Live g.row.B.Denot = record c.args.live { table = t } in l) c.in-Err.ensures.unchanged
