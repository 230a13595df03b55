use Rattle.std.proofs.Common.{◌≡◌, ℕ, List, false, inr, sym, ap, ◌∙◌, subst}
use Rattle.std.specs.Prelude.{None, IfSome}
use Rattle.std.specs.List.{insert}
use Rattle.ash_host.specs.Objects.{object_at}
use Rattle.ash_meaning.specs.Ends.{Finished}
use Rattle.ash_objects.specs.Table.{Table}
use Rattle.ash_requests.specs.States.{with_module}
use Rattle.ash_plain_steps.specs.declared.state.LoadedModule.{LoadedModule}
use Rattle.ash_plain_steps.specs.StateViews.{loaded_seen, modules_seen}
use Rattle.ash_engine.specs.declared.changes.ModuleChange.TheVariants as changes
use Rattle.ash_engine.specs.declared.live.Compiled.{Compiled}
use Rattle.ash_engine.specs.TableRuns.{IsAnswered}
use Rattle.ash_engine.proofs.loading.keep_at_once.Goals as goal

pub answered_at_rest-requires-clause-unmarked : goal.answered_at_rest-requires-clause-unmarked
answered_at_rest-requires-clause-unmarked g c = λ number.
    subst (λ (t : Table g.row.B.Denot). IfSome (object_at number t.objects) (λ object. object.touched ≡ false))
    (sym c.in-Ok.ensures.kept.table) (c.requires.unmarked number)

pub returns : goal.returns
returns g c =
    let kept = c.in-Ok.ensures.kept in
    let m : LoadedModule = record c.args.new_module { globals = c.args.parts.globals } in
    record {
      kept = inr (
        c.in-Ok.live,
        record {
          place = kept.place;
          modules = kept.modules ∙ ap (λ (l : List LoadedModule). insert l kept.place m) c.make_room.ensures.modules;
          by_name = kept.by_name
              ∙ ap (λ (l : List LoadedModule). with_module (loaded_seen m) (modules_seen l)) c.make_room.ensures.modules;
          loaded = kept.loaded;
          compiled = kept.compiled
              ∙ ap (λ (l : List Compiled). insert l kept.place c.args.compiled) c.make_room.ensures.codes;
          table = kept.table;
        },
        c.in-Ok.place,
        c.in-Ok.ensures.there,
        subst (λ (events : _). IsAnswered c.in-Ok.live (Finished None) events.items (changes.Loaded c.in-Ok.place)
            c.answered_at_rest.result) c.in-Ok.ensures.events c.answered_at_rest.ensures.answered,
      );
    }
