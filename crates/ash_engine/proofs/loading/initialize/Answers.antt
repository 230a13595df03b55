use Rattle.std.proofs.Common.{◌≡◌, ◌≢◌, List, [], ◌∷◌, map, rules, refl, sym, ◌∙◌, ap}
use Rattle.ash_typed.specs.declared.tree.items.Variables as code_variables
use Rattle.ash_typed.specs.Modules.{variables_of}
use Rattle.ash_run_steps.specs.declared.beginning.Parts.{Parts}
use Rattle.ash_plain_steps.specs.declared.state.LoadedModule.{LoadedModule}
use Rattle.ash_engine.proofs.LoadAsked.{held_by_globals, number_left, as_many, load_refused, held_first, load_at_once, load_stepped}
use Rattle.ash_engine.proofs.loading.initialize.Goals as goal

pub returns-in_default : goal.returns-in_default
returns-in_default g c = record {
  stepped = λ asked. load_refused g.B.HostObject c.args.live c.args.new asked c.args.budget c.without_memory.result
      c.without_memory.ensures.refused c.without_memory.ensures.unchanged;
}

-- globals of a module as data
none_seen : (ds : List code_variables.Variables) → ds ≡ [] → map variables_of ds ≡ []
none_seen ds none = ap (map variables_of) none

some_seen : (ds : List code_variables.Variables) → ds ≢ [] → map variables_of ds ≢ []
some_seen [] some none = some refl
some_seen (d ∷ ds) some none = absurd (cc)

pub keep_at_once-requires : goal.keep_at_once-requires
keep_at_once-requires g c =
    let asked = c.requires.asked in
    record {
      numbered = number_left g.B.HostObject c.args.live c.args.new asked;
      many = as_many g.B.HostObject c.args.live c.args.new asked;
      unmarked = ((asked.live).settled).unmarked;
      none = c.new-2.ensures.items;
    }

pub returns-then-is_bare : goal.returns-then-is_bare
returns-then-is_bare g c = record {
  stepped =
      λ asked.
      let prepared = c.in-Ok.prepared in
      let m : LoadedModule = record prepared.new_module { globals = c.replace.new.dest } in
      let parts : Parts g.row.B.Denot = record {
        table = c.args.live.table;
        globals = c.replace.result;
        outside = prepared.outside;
        events = c.new-2.result;
      } in
      let none = none_seen m.tree.globals.items (sym c.deref.ensures.value ∙ c.is_bare.ensures.none (search rules)) in
      load_at_once g.B.HostObject c.args.live c.args.new asked prepared c.in-Ok.ensures.prepared m refl refl refl
      prepared.compiled refl parts refl (ap (λ (v : _). v.items) c.replace.ensures.value) refl c.new-2.ensures.items
      c.args.budget none c.keep_at_once.result c.keep_at_once.ensures.kept;
}

pub run_initializers-left-requires : goal.run_initializers-left-requires
run_initializers-left-requires g c = record {
  held = held_first g.B.HostObject c.args.live c.args.new c.requires.asked c.in-Ok.prepared c.in-Ok.ensures.prepared
      c.replace.result.items (ap (λ (v : _). v.items) c.replace.ensures.value);
}

pub finish_load-requires-clause-numbered : goal.finish_load-requires-clause-numbered
finish_load-requires-clause-numbered g c = number_left g.B.HostObject c.args.live c.args.new c.requires.asked

pub finish_load-requires-clause-many : goal.finish_load-requires-clause-many
finish_load-requires-clause-many g c = as_many g.B.HostObject c.args.live c.args.new c.requires.asked

pub finish_load-requires-clause-held : goal.finish_load-requires-clause-held
finish_load-requires-clause-held g c =
    let left = c.run_initializers-left.result.parts in
    held_by_globals left.table left.outside.items left.globals.items c.run_initializers-left.ensures.held

pub returns : goal.returns
returns g c = record {
  stepped =
      λ asked.
      let prepared = c.in-Ok.prepared in
      let m : LoadedModule = record prepared.new_module { globals = c.replace.new.dest } in
      let parts : Parts g.row.B.Denot = record {
        table = c.args.live.table;
        globals = c.replace.result;
        outside = prepared.outside;
        events = c.new-2.result;
      } in
      let some = some_seen m.tree.globals.items (λ none. c.is_bare.ensures.some (search rules) (c.deref.ensures.value ∙ none)) in
      load_stepped g.B.HostObject c.args.live c.args.new asked prepared c.in-Ok.ensures.prepared m refl refl refl
      c.run_initializers-left.new.compiled c.run_initializers-left.ensures.code parts refl
      (ap (λ (v : _). v.items) c.replace.ensures.value) refl c.new-2.ensures.items some
      c.args.budget c.run_initializers-left.result c.run_initializers-left.ensures.says
      c.run_initializers-left.ensures.unchanged c.run_initializers-left.ensures.held
      c.finish_load.result (record {
        kept = c.finish_load.ensures.kept;
        abandoned = c.finish_load.ensures.abandoned;
        refused = c.finish_load.ensures.refused;
        lost = c.finish_load.ensures.lost;
        never = c.finish_load.ensures.never;
        memory = c.finish_load.ensures.memory;
      });
}
