-- What the code's programs, callees and entries represent.
use Rattle.std.specs.Prelude.{map, string_bytes}
use Rattle.ash_typed.specs.BodyViews.{value_of, body_of}
use Rattle.ash_typed.specs.Modules.{module_of}
use Rattle.ash_meaning.specs.Classes.{Program, ModuleCallee, FreeFunction, Method, Construction, Entry}
use Rattle.ash_plain_data.specs.declared.classes.Program as program
use Rattle.ash_plain_data.specs.declared.classes.ModuleCallee as callee
use Rattle.ash_plain_data.specs.declared.classes.ModuleCallee.TheVariants as callees
use Rattle.ash_plain_data.specs.declared.classes.Entry as entry

abbrev pub program_seen : program.Program → Program
program_seen p = record { name = p.name.now; tree = module_of p.tree.now }

abbrev pub callee_seen : callee.ModuleCallee → ModuleCallee
callee_seen (callees.Function place) = FreeFunction place
callee_seen (callees.Method class place) = Method class place
callee_seen (callees.Construction class) = Construction class

abbrev pub entry_seen : entry.Entry → Entry
entry_seen e = record {
  name = string_bytes e.name;
  line = e.line;
  fields = map value_of e.fields.now;
  body = body_of e.body.now;
}
