use Rattle.std.proofs.Common.{◌≡◌, ℕ, List, sym, ap, ◌∙◌, slice_get, subst}
use Rattle.std.specs.Prelude.{Some, None, option_map}
use Rattle.std.specs.Borrow.{Bor}
use Rattle.ash_plain_steps.specs.declared.state.LoadedModule.{LoadedModule}
use Rattle.ash_plain_steps.specs.StateViews.{loaded_seen, modules_seen}
use Rattle.ash_plain_steps.proofs.ShownObjects.{got_seen}
use Rattle.ash_image.specs.DeltaViews.{all_indexed}
use Rattle.ash_image.specs.Delta.{ModuleChange, Added, Globals}
use Rattle.ash_states.specs.Indexes.{stored_of}
use Rattle.ash_change_records.specs.ListedChanges.{listed}
use Rattle.ash_engine.specs.declared.changes.ModuleChange as code
use Rattle.ash_engine.specs.declared.changes.ModuleChange.TheVariants as changes
use Rattle.ash_engine.specs.RecordedChanges.{AreWordsOf}
use Rattle.ash_engine.proofs.ListedParts.{added_listed, none_added, globals_listed, none_listed}
use Rattle.ash_engine.proofs.recording.change_parts.Goals as goal

pub returns-in-Some : goal.returns-in-Some
returns-in-Some c =
    let ms = modules_seen c.args.modules.now in
    let place = c.in-Loaded.place in
    let m = loaded_seen c.in-Some.m.now in
    let there : slice_get ms place ≡ Some m =
    sym (got_seen loaded_seen c.args.modules.now place c.get.result c.get.ensures.lookup) ∙ ap (option_map (λ (x : Bor LoadedModule). loaded_seen x.now)) c.in-Some.is in
    record { listed = ap Added c.added.ensures.same ∙ added_listed ms c.requires.ascending c.requires.valid place m c.args.change.now c.in-Loaded.is there }

pub returns-in-None : goal.returns-in-None
returns-in-None c =
    let ms = modules_seen c.args.modules.now in
    let place = c.in-Loaded.place in
    let there : slice_get ms place ≡ None =
    sym (got_seen loaded_seen c.args.modules.now place c.get.result c.get.ensures.lookup) ∙ ap (option_map (λ (x : Bor LoadedModule). loaded_seen x.now)) c.in-None.is in
    record { listed = none_added ms c.requires.ascending c.requires.valid place c.args.change.now c.in-Loaded.is there }

pub returns-in-Some-get : goal.returns-in-Some-get
returns-in-Some-get c =
    let ms = modules_seen c.args.modules.now in
    let globals = c.in-Globals.globals in
    let m = loaded_seen c.in-Some-get.m.now in
    let there : slice_get ms globals.module ≡ Some m =
    sym (got_seen loaded_seen c.args.modules.now globals.module c.get-in-Globals.result c.get-in-Globals.ensures.lookup)
    ∙ ap (option_map (λ (x : Bor LoadedModule). loaded_seen x.now)) c.in-Some-get.is in
    let words = subst (λ (change : code.ModuleChange). AreWordsOf c.args.modules.now change c.args.words.now) c.in-Globals.is c.requires.words in
    let are : all_indexed c.args.words.now ≡ listed (slice_get m.globals) globals.places.items = words m there in
    record {
      listed = globals_listed ms c.requires.ascending c.requires.valid globals m c.args.change.now c.in-Globals.is there
          c.as_str-in-Some-get.result.now c.as_str-in-Some-get.ensures.value (all_indexed c.args.words.now) are;
    }

pub returns-in-None-get : goal.returns-in-None-get
returns-in-None-get c =
    let ms = modules_seen c.args.modules.now in
    let globals = c.in-Globals.globals in
    let there : slice_get ms globals.module ≡ None =
    sym (got_seen loaded_seen c.args.modules.now globals.module c.get-in-Globals.result c.get-in-Globals.ensures.lookup)
    ∙ ap (option_map (λ (x : Bor LoadedModule). loaded_seen x.now)) c.in-None-get.is in
    record { listed = none_listed ms c.requires.ascending c.requires.valid globals c.args.change.now c.in-Globals.is there }
