-- What the code's states and hosts represent.
use Rattle.std.specs.Prelude.{List, map, string_bytes}
use Rattle.ash_plain_data.specs.CallViews.{record_seen}
use Rattle.ash_plain_world.specs.ActivityViews.{box_seen}
use Rattle.ash_requests.specs.States.{LoadedModule, State, Hosts}
use Rattle.ash_plain_steps.specs.declared.state.LoadedModule as code_module
use Rattle.ash_plain_steps.specs.declared.state.PlainState.{PlainState}
use Rattle.ash_plain_steps.specs.declared.state.Hosts as hosts

abbrev pub loaded_seen : code_module.LoadedModule → LoadedModule
loaded_seen m = record { name = string_bytes m.name; source = m.source.items; globals = m.globals.items }

abbrev pub modules_seen : List code_module.LoadedModule → List LoadedModule
modules_seen ms = map loaded_seen ms

abbrev pub state_seen : PlainState → State
state_seen s = record {
  modules = modules_seen s.modules.items;
  objects = s.objects;
  services = map (λ state. state.items) s.services.items;
  last = s.last;
  seq = s.seq;
}

abbrev pub hosts_seen : hosts.Hosts → Hosts
hosts_seen h = record { pool = map box_seen h.pool.items; answers = map record_seen h.answers.items }
