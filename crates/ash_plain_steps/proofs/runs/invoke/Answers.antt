use Rattle.std.proofs.Common.{rules, ◌≡◌, ◌<◌, List, length, set, get_or, Option, Some, Err, Result, refl, sym, ◌∙◌, ap, subst, arith}
use Rattle.std.specs.Prelude.{slice_get, option_map, string_bytes}
use Rattle.std.proofs.lemmas.Option.{get_or_from_slice_get, slice_get-get_or}
use Rattle.ash_typed.specs.Modules.{module_of}
use Rattle.ash_meaning.specs.Ends.{Outcome, call_function}
use Rattle.ash_plain_world.specs.ActivityViews.{world_seen}
use Rattle.ash_requests.specs.OutcomeViews.{end_seen}
use Rattle.ash_plain_scripts.specs.EndViews.{outcome_seen}
use Rattle.ash_requests.specs.States.{LoadedModule, without_module, update_globals, world_of}
use Rattle.ash_requests.specs.Steps.{Step, answered, after_call}
use Rattle.ash_plain_steps.specs.declared.state.LoadedModule as code_module
use Rattle.ash_requests.specs.declared.step_error.StepError.{StepError}
use Rattle.ash_plain_steps.specs.declared.step.Step as code_step
use Rattle.ash_plain_steps.specs.StateViews.{loaded_seen, modules_seen, state_seen, hosts_seen}
use Rattle.ash_plain_steps.specs.StepViews.{step_seen}
use Rattle.ash_plain_steps.specs.Consistency.{AreConsistent}
use Rattle.ash_plain_steps.specs.StepViews.{ComesTo}
use Rattle.ash_plain_steps.proofs.Changed.{got_set, set_again, consistent_set}
use Rattle.ash_plain_steps.proofs.Ran.{still_within, world_lent, given_back, no_outcome}
use Rattle.ash_plain_steps.proofs.runs.invoke.Goals as goal

pub index-m-requires : goal.index-m-requires
index-m-requires g c =
    let ms = c.args.state.modules.items in
    let before : c.args.call.module < length c.replace_globals-globals.new.modules.items = still_within (λ (m : code_module.LoadedModule). record m { globals = c.new-none.result }) ms c.replace_globals-globals.new.modules.items c.args.call.module c.requires.there.within c.replace_globals-globals.ensures.value in
    let after : c.args.call.module < length c.in_ok-rest.rest.modules.items = subst (λ (v : _). c.args.call.module < length v.items) (sym c.in_ok-rest.ensures.modules) before in
    omega (arith, after, c.in_ok-rest.rest.modules.ok.0)

pub finish_call-requires-clause-within : goal.finish_call-requires-clause-within
finish_call-requires-clause-within g c =
    let ms = c.args.state.modules.items in
    let before : c.args.call.module < length c.replace_globals-globals.new.modules.items = still_within (λ (m : code_module.LoadedModule). record m { globals = c.new-none.result }) ms c.replace_globals-globals.new.modules.items c.args.call.module c.requires.there.within c.replace_globals-globals.ensures.value in
    subst (λ (v : _). c.args.call.module < length v.items) (sym c.in_ok-rest.ensures.modules) before

pub returns-in_err-end-clause-stepped : goal.returns-in_err-end-clause-stepped
returns-in_err-end-clause-stepped g c m there up =
    let ms = c.args.state.modules.items in
    let place = c.args.call.module in
    let state = state_seen c.args.state in
    let hosts = hosts_seen c.args.hosts in
    let lending : code_module.LoadedModule = record m { globals = c.new-none.result } in
    let items : c.in_ok-rest.rest.modules.items ≡ set ms place lending = ap (λ (v : _). v.items) c.in_ok-rest.ensures.modules ∙ (c.replace_globals-globals.ensures.value m there).1 in
    let at : c.index-m.result.now ≡ lending = c.index-m.ensures ∙ ap (λ (l : List code_module.LoadedModule). get_or l place c.index-m.result.now) items ∙ get_or_from_slice_get (set ms place lending) place lending c.index-m.result.now (got_set ms place m lending there) in
    let name : c.as_str.result.now ≡ string_bytes m.name = c.as_str.ensures.value ∙ ap (λ (s : code_module.LoadedModule). string_bytes s.name) at in
    let world : world_seen c.in_ok-rest.world ≡ world_of m.globals.items (without_module (loaded_seen m).name (modules_seen ms)) state hosts =
    c.in_ok-rest.ensures.world
    ∙ (λ i. world_of ((c.replace_globals-globals.ensures.value m there).0 i).items (modules_seen ((c.replace_globals-globals.ensures.value m there).1 i)) state hosts)
    ∙ world_lent ms place m lending state hosts up there refl c.new-none.ensures.items in
    let failed : c.from_residual-in_err-end.result ≡ Err c.in_err-end.field-0.0 = search rules in
    subst (λ (r : Result (code_step.Step g.row.S-Fault.Denot) StepError). ComesTo (step_seen g.S.SourceReader.fault_seen) r (option_map (after_call {Fault = g.S.SourceReader.FaultSeen} (loaded_seen m) state) (call_function (record { name = string_bytes m.name; tree = module_of m.tree }) c.args.call.function c.args.call.args.items c.args.budget (world_of m.globals.items (without_module (loaded_seen m).name (modules_seen ms)) state hosts)))) (sym failed)
    (no_outcome g.S.SourceReader.fault_seen c.in_err-end.field-0.0 (after_call (loaded_seen m) state) (call_function (record { name = string_bytes m.name; tree = module_of m.tree }) c.args.call.function c.args.call.args.items c.args.budget (world_of m.globals.items (without_module (loaded_seen m).name (modules_seen ms)) state hosts))
    (subst (λ (o : Option Outcome). ComesTo outcome_seen (Err c.in_err-end.field-0.0) o)
    (λ i. call_function (record { name = name i; tree = module_of (at i).tree }) c.args.call.function c.args.call.args.items c.args.budget (world i))
    (c.in_err-end.ensures.outcome _ c.call_function.ensures.outcome)))

pub returns-clause-stepped : goal.returns-clause-stepped
returns-clause-stepped g c m there up =
    let ms = c.args.state.modules.items in
    let place = c.args.call.module in
    let state = state_seen c.args.state in
    let hosts = hosts_seen c.args.hosts in
    let end = c.in_ok-end.end in
    let lending : code_module.LoadedModule = record m { globals = c.new-none.result } in
    let new : code_module.LoadedModule = record m { globals = end.world.globals } in
    let items : c.in_ok-rest.rest.modules.items ≡ set ms place lending = ap (λ (v : _). v.items) c.in_ok-rest.ensures.modules ∙ (c.replace_globals-globals.ensures.value m there).1 in
    let at : c.index-m.result.now ≡ lending = c.index-m.ensures ∙ ap (λ (l : List code_module.LoadedModule). get_or l place c.index-m.result.now) items ∙ get_or_from_slice_get (set ms place lending) place lending c.index-m.result.now (got_set ms place m lending there) in
    let name : c.as_str.result.now ≡ string_bytes m.name = c.as_str.ensures.value ∙ ap (λ (s : code_module.LoadedModule). string_bytes s.name) at in
    let world : world_seen c.in_ok-rest.world ≡ world_of m.globals.items (without_module (loaded_seen m).name (modules_seen ms)) state hosts =
    c.in_ok-rest.ensures.world
    ∙ (λ i. world_of ((c.replace_globals-globals.ensures.value m there).0 i).items (modules_seen ((c.replace_globals-globals.ensures.value m there).1 i)) state hosts)
    ∙ world_lent ms place m lending state hosts up there refl c.new-none.ensures.items in
    let after = c.finish_call.ensures.value lending state (ap (λ (l : List code_module.LoadedModule). slice_get l place) items ∙ got_set ms place m lending there) (sym c.in_ok-rest.ensures.seq) in
    let left : modules_seen c.finish_call.result.state.modules.items ≡ update_globals (loaded_seen m).name end.world.globals.items (modules_seen ms) =
    ap (λ (l : List code_module.LoadedModule). modules_seen l) (after.globals ∙ ap (λ (l : List code_module.LoadedModule). set l place new) items) ∙ given_back ms place m lending new up there refl in
    ap (λ (o : Option Outcome). option_map (after_call {Fault = g.S.SourceReader.FaultSeen} (loaded_seen m) state) o)
    (sym (λ i. call_function (record { name = name i; tree = module_of (at i).tree }) c.args.call.function c.args.call.args.items c.args.budget (world i))
    ∙ c.in_ok-end.ensures.outcome _ c.call_function.ensures.outcome)
    ∙ ap (λ (s : Step g.S.SourceReader.FaultSeen). Some s)
    (sym (after.stepped ∙ ap (λ (l : List LoadedModule). answered {Fault = g.S.SourceReader.FaultSeen} (end_seen end.outcome) l (world_seen end.world) state) left))

pub returns-clause-consistent : goal.returns-clause-consistent
returns-clause-consistent g c embedding known =
    let ms = c.args.state.modules.items in
    let place = c.args.call.module in
    let m = get_or ms place c.index-m.result.now in
    let there : slice_get ms place ≡ Some m = slice_get-get_or ms place c.index-m.result.now c.requires.there.within in
    let lending : code_module.LoadedModule = record m { globals = c.new-none.result } in
    let new : code_module.LoadedModule = record m { globals = c.in_ok-end.end.world.globals } in
    let items : c.in_ok-rest.rest.modules.items ≡ set ms place lending = ap (λ (v : _). v.items) c.in_ok-rest.ensures.modules ∙ (c.replace_globals-globals.ensures.value m there).1 in
    let after = c.finish_call.ensures.value lending (state_seen c.args.state) (ap (λ (l : List code_module.LoadedModule). slice_get l place) items ∙ got_set ms place m lending there) (sym c.in_ok-rest.ensures.seq) in
    subst (λ (l : List code_module.LoadedModule). AreConsistent embedding l)
    (sym (after.globals ∙ ap (λ (l : List code_module.LoadedModule). set l place new) items ∙ set_again ms place lending new))
    (consistent_set embedding ms place m new known there refl)
