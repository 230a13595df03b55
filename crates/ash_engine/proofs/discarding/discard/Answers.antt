use Rattle.std.proofs.Common.{◌∙◌, subst, arith}
use Rattle.std.specs.Prelude.{None}
use Rattle.ash_meaning.specs.Ends.{Finished}
use Rattle.ash_engine.specs.declared.changes.ModuleChange.TheVariants as changes
use Rattle.ash_engine.specs.TableRuns.{IsAnswered}
use Rattle.ash_engine.proofs.Discarded.{within, within_codes, holds_enough, holds_few, still_numbered, left_unmarked, left_uncalled, kept_as_it_is, discarded, there}
use Rattle.ash_engine.proofs.discarding.discard.Goals as goal

pub remove_module-requires : goal.remove_module-requires
remove_module-requires g c =
    let live = c.args.live in
    let asked = c.requires.asked in
    let found = there g.B.HostObject live c.args.place asked in
    record {
      within = within g.B.HostObject asked.registered live asked.live c.args.place found.module_there found.at;
      compiled = within_codes g.B.HostObject asked.registered live asked.live c.args.place found.module_there found.at;
      held = λ m number at. holds_enough g.B.HostObject asked.registered live asked.live c.args.place m at number;
      few = λ m number at. let few = holds_few g.B.HostObject asked.registered live asked.live c.args.place m at number in omega (arith, few);
    }

pub answered_at_rest-requires : goal.answered_at_rest-requires
answered_at_rest-requires g c =
    let asked = c.requires.asked in
    let found = there g.B.HostObject c.args.live c.args.place asked in
    let gone = c.in-Ok.ensures.removed found.module_there found.at in
    record {
      numbered = still_numbered g.B.HostObject asked.registered c.args.live asked.live c.args.place found.module_there found.at asked.request found.task 0
          c.in-Ok.live c.in-Ok.events.items gone c.in-Ok.ensures.in_order;
      unmarked = left_unmarked g.B.HostObject asked.registered c.args.live asked.live c.args.place found.module_there found.at c.in-Ok.live c.in-Ok.events.items gone;
      uncalled = left_uncalled g.B.HostObject asked.registered c.args.live asked.live c.args.place found.module_there found.at c.in-Ok.live c.in-Ok.events.items gone;
    }

pub returns-in-Ok : goal.returns-in-Ok
returns-in-Ok g c = record {
  stepped = λ budget asked.
      let found = there g.B.HostObject c.args.live c.args.place asked in
      discarded g.B.HostObject asked.registered c.args.live asked.live c.args.place found.module_there found.at asked.request found.task budget
      c.in-Ok.live c.in-Ok.events.items (c.in-Ok.ensures.removed found.module_there found.at) c.in-Ok.ensures.in_order c.answered_at_rest.result
      (subst (λ (n : _). IsAnswered c.in-Ok.live (Finished None) c.in-Ok.events.items (changes.Discarded n) c.answered_at_rest.result)
      (c.in-Ok.ensures.named found.module_there found.at) c.answered_at_rest.ensures.answered);
}

pub returns-in-Err : goal.returns-in-Err
returns-in-Err g c = record {
  stepped = λ budget asked.
      let found = there g.B.HostObject c.args.live c.args.place asked in
      kept_as_it_is g.B.HostObject asked.registered c.args.live asked.live c.args.place found.module_there found.at asked.request found.task budget
      c.without_memory.result c.without_memory.ensures.refused (c.without_memory.ensures.unchanged ∙ c.in-Err.ensures.kept);
}
