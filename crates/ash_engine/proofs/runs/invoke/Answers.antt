use Rattle.std.proofs.Common.{◌∙◌, ◌≤◌, List, length, slice_get, refl, sym, ap, subst}
use Rattle.std.specs.Prelude.{All, IsTrue}
use Rattle.std.specs.List.{remove}
use Rattle.ash_host.specs.declared.word.Word.{Word}
use Rattle.ash_run_steps.specs.RunStates.{is_alive_in}
use Rattle.ash_plain_steps.specs.declared.state.LoadedModule.{LoadedModule}
use Rattle.ash_engine.specs.TableRuns.{SaysOfCall}
use Rattle.ash_engine.proofs.Beside.{held_by}
use Rattle.ash_engine.proofs.Invoked.{asked_module}
use Rattle.ash_engine.proofs.ReadRanks.{read_ranked}
use Rattle.ash_engine.proofs.Lent.{within, few_globals, alive, without_run, roots_held, there, within_rest, within_rest_codes}
use Rattle.ash_engine.proofs.Lent.{rest_numbered, call_stepped}
use Rattle.ash_engine.proofs.runs.invoke.Goals as goal

pub returns-in_default : goal.returns-in_default
returns-in_default g c = record {
  stepped =
      λ asked. let G = g.B.HostObject in
      let found = asked_module G c.args.live c.args.call asked (read_ranked asked.registered) in
      without_run G c.args.live c.args.call asked found.0 found.1 found.2 c.args.budget c.without_memory.result
      c.without_memory.ensures.refused c.without_memory.ensures.unchanged;
}

pub lend-rest-requires : goal.lend-rest-requires
lend-rest-requires g c =
    let asked = c.requires.asked in
    let found = asked_module g.B.HostObject c.args.live c.args.call asked (read_ranked asked.registered) in
    record { within = within g.B.HostObject c.args.live c.args.call asked found.0 found.1 found.2 }

pub run_at-left-requires-clause-within : goal.run_at-left-requires-clause-within
run_at-left-requires-clause-within g c =
    let G = g.B.HostObject in
    let asked = c.requires.asked in
    let found = asked_module G c.args.live c.args.call asked (read_ranked asked.registered) in
    within_rest_codes G c.args.live c.args.call asked found.0 found.1 found.2 c.in-Ok.outside.items
    (c.in-Ok.ensures.value ∙ ap (λ (l : List LoadedModule). held_by (remove l c.args.call.module))
    c.deref.ensures.value)
    c.lend-rest.result.0 c.lend-rest.result.1 (c.lend-rest.ensures.lent found.0 found.1)

pub run_at-left-requires-clause-held : goal.run_at-left-requires-clause-held
run_at-left-requires-clause-held g c =
    let G = g.B.HostObject in
    let asked = c.requires.asked in
    let found = asked_module G c.args.live c.args.call asked (read_ranked asked.registered) in
    roots_held G c.args.live c.args.call asked found.0 found.1 found.2 c.in-Ok.outside.items
    (c.in-Ok.ensures.value ∙ ap (λ (l : List LoadedModule). held_by (remove l c.args.call.module))
    c.deref.ensures.value)
    c.lend-rest.result.0 c.lend-rest.result.1 (c.lend-rest.ensures.lent found.0 found.1)

pub run_at-left-requires-clause-alive : goal.run_at-left-requires-clause-alive
run_at-left-requires-clause-alive g c =
    let G = g.B.HostObject in
    let asked = c.requires.asked in
    let found = asked_module G c.args.live c.args.call asked (read_ranked asked.registered) in
    subst (λ (ws : List Word). All (λ word. IsTrue (is_alive_in word c.lend-rest.result.1.table)) ws)
    (sym c.deref-2.ensures.value)
    (alive G c.args.live c.args.call asked found.0 found.1 found.2 c.lend-rest.result.1.table)

pub finish_call-requires-clause-numbered : goal.finish_call-requires-clause-numbered
finish_call-requires-clause-numbered g c =
    let G = g.B.HostObject in
    let asked = c.requires.asked in
    let found = asked_module G c.args.live c.args.call asked (read_ranked asked.registered) in
    rest_numbered G c.args.live c.args.call asked found.0 found.1 found.2 c.in-Ok.outside.items
    (c.in-Ok.ensures.value ∙ ap (λ (l : List LoadedModule). held_by (remove l c.args.call.module))
    c.deref.ensures.value)
    c.lend-rest.result.0 c.lend-rest.result.1 (c.lend-rest.ensures.lent found.0 found.1)

pub finish_call-requires-clause-within : goal.finish_call-requires-clause-within
finish_call-requires-clause-within g c =
    let G = g.B.HostObject in
    let asked = c.requires.asked in
    let found = asked_module G c.args.live c.args.call asked (read_ranked asked.registered) in
    within_rest G c.args.live c.args.call asked found.0 found.1 found.2 c.in-Ok.outside.items
    (c.in-Ok.ensures.value ∙ ap (λ (l : List LoadedModule). held_by (remove l c.args.call.module))
    c.deref.ensures.value)
    c.lend-rest.result.0 c.lend-rest.result.1 (c.lend-rest.ensures.lent found.0 found.1)

pub finish_call-requires-clause-few : goal.finish_call-requires-clause-few
finish_call-requires-clause-few g c =
    let G = g.B.HostObject in
    let asked = c.requires.asked in
    let found = asked_module G c.args.live c.args.call asked (read_ranked asked.registered) in
    subst (λ (ws : List Word). length ws ≤ 256)
    (sym (c.deref-3.ensures.value ∙ c.in-Ok.ensures.globals found.0
    (ap (λ (l : List LoadedModule). slice_get l c.args.call.module) c.deref.ensures.value ∙ found.1)))
    (few_globals G c.args.live c.args.call asked found.0 found.1 found.2)

pub returns : goal.returns
returns g c = record {
  stepped =
      λ asked. let G = g.B.HostObject in
      let found = asked_module G c.args.live c.args.call asked (read_ranked asked.registered) in
      let beside = c.in-Ok.ensures.value ∙ ap (λ (l : List LoadedModule). held_by (remove l c.args.call.module))
      c.deref.ensures.value in
      let rest = c.lend-rest.result.0 in
      let parts = c.lend-rest.result.1 in
      let lent = c.lend-rest.ensures.lent found.0 found.1 in
      let left = c.run_at-left.result in
      let at = there G c.args.live c.args.call asked found.0 found.1 found.2 c.in-Ok.outside.items beside rest parts
      lent in
      call_stepped G c.args.live c.args.call asked found.0 found.1 found.2 c.in-Ok.outside.items beside rest parts lent
      c.args.budget left (record rest { compiled = c.run_at-left.new.compiled }) refl c.run_at-left.ensures.codes
      refl c.deref-3.result.now (c.deref-3.ensures.value ∙ c.in-Ok.ensures.globals found.0
      (ap (λ (l : List LoadedModule). slice_get l c.args.call.module) c.deref.ensures.value ∙ found.1))
      (λ one code_at. subst (λ (ws : List Word). SaysOfCall G one.code parts c.args.call.function ws c.args.budget left)
      c.deref-2.ensures.value (c.run_at-left.ensures.says one code_at))
      c.run_at-left.ensures.unchanged c.run_at-left.ensures.held
      c.finish_call.result left.outcome refl
      (λ outcome is. c.finish_call.ensures.answered lent.lending outcome at is)
      (λ is. c.finish_call.ensures.refused lent.lending at is)
      c.finish_call.ensures.lost c.finish_call.ensures.never c.finish_call.ensures.memory;
}
