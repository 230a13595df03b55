use Rattle.std.proofs.Common.{◌≡◌, ◌<◌, ℕ, List, get_or, Ok, sym, ap, ◌∙◌, subst}
use Rattle.std.proofs.lemmas.Result.{IfOk-weaker}
use Rattle.std.proofs.lemmas.Option.{get_or_from_slice_get, slice_get-get_or}
use Rattle.ash_host.specs.declared.event.Event.{Event}
use Rattle.ash_host.specs.declared.word.Word.{Word}
use Rattle.ash_typed.specs.Modules.{module_of}
use Rattle.ash_meaning.specs.Ends.{End}
use Rattle.ash_run_steps.specs.declared.beginning.Parts.{Parts}
use Rattle.ash_requests.specs.Tasks.{max_seq}
use Rattle.ash_plain_steps.specs.declared.state.LoadedModule.{LoadedModule}
use Rattle.ash_plain_steps.specs.declared.state.PlainState.{PlainState}
use Rattle.ash_engine.specs.declared.live.Live.{Live}
use Rattle.ash_engine.specs.declared.live.Rest.{Rest}
use Rattle.ash_engine.specs.NamedChanges.{IsChangeOf}
use Rattle.ash_engine.specs.TableRuns.{end_named, IsGivenBack, IsAnswered}
use Rattle.ash_engine.specs.TableTasks.{entry_name}
use Rattle.ash_engine.proofs.runs.finish_call.Goals as goal

-- how many requests were answered is as before
still_numbered : {B : Type 0} (rest : Rest) (place : ℕ) (m : LoadedModule) (parts : Parts B) (back : Live B)
    → IsGivenBack rest place m parts back → rest.loaded.seq < max_seq → back.loaded.seq < max_seq
still_numbered rest place m parts back given few =
    subst (λ (s : PlainState). s.seq < max_seq) (sym given.loaded) few

pub answered-requires : goal.answered-requires
answered-requires g c =
    let ms : List LoadedModule = c.args.rest.loaded.modules.items in
    let m = get_or ms c.args.place c.index.result.now in
    let at = slice_get-get_or ms c.args.place c.index.result.now c.requires.within in
    record {
      numbered = still_numbered c.args.rest c.args.place m c.args.left.parts c.give_back-live.result.0
          (c.give_back-live.ensures.given m at) c.requires.numbered;
    }

pub returns-in_ok-change-in-Ok-clause-answered : goal.returns-in_ok-change-in-Ok-clause-answered
returns-in_ok-change-in-Ok-clause-answered g c m outcome at is =
    let ms : List LoadedModule = c.args.rest.loaded.modules.items in
    let found : LoadedModule = c.index.result.now in
    let back = c.give_back-live.result.0 in
    let module_is : found ≡ m = c.index.ensures ∙ get_or_from_slice_get ms c.args.place m found at in
    let outcome_is : c.in-Ok.outcome ≡ outcome = cc (c.in-Ok.is, is) in
    let end = c.in_ok-outcome-in-Ok.ensures.end
    ∙ (λ i. end_named (entry_name (module_of (module_is i).tree)) (outcome_is i)) in
    let change = c.in_ok-change-in-Ok.change in
    IfOk-weaker c.answered.result _ _
    (λ step answered. (
      back,
      change,
      c.give_back-live.ensures.given m at,
      subst (λ (ws : List Word). IsChangeOf c.args.place c.args.before.now ws change) c.deref.ensures.value
          c.in_ok-change-in-Ok.ensures.change,
      subst (λ (es : List Event). IsAnswered back (end_named (entry_name (module_of m.tree)) outcome) es
          change step)
          (ap (λ (v : _). v.items) c.give_back-live.ensures.events)
          (subst (λ (e : End). IsAnswered back e c.give_back-live.result.1.items change step) end
          answered),
    )) c.answered.ensures.answered

pub returns-in-Err-NotBegun-clause-refused : goal.returns-in-Err-NotBegun-clause-refused
returns-in-Err-NotBegun-clause-refused g c m at is = (
  c.without_memory.ensures.refused,
  subst (λ (l : Live g.row.B.Denot). IsGivenBack c.args.rest c.args.place m c.args.left.parts l)
      (sym c.without_memory.ensures.unchanged)
      (c.give_back-live-in-Err-NotBegun.ensures.given m at),
)
