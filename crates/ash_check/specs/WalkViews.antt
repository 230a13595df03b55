-- The structs of the walk over a module's items, as the definitions of typing see them.
use Rattle.std.specs.Prelude.{ℕ, List, [], Option, None, Some, Ok, map, option_map}
use Rattle.std.specs.Borrow.{Bor}
use Rattle.std.specs.declared.vec.Vec.{Vec}
use Rattle.std.specs.declared.alloc.Global.{Global}
use Rattle.ash_registrations.specs.declared.registrations.Registrations.{Registrations}
use Rattle.ash_registrations.specs.Registered.{registered}
use Rattle.ash_registrations.specs.Registrations as host
use Rattle.ash_tree.specs.TreeViews.{parameter_of, stmt_of}
use Rattle.ash_tree.specs.Tree as written
use Rattle.ash_type_rules.specs.TypingResult.{TypingResult, ◌>>=◌}
use Rattle.ash_type_rules.specs.Environment.{Environment, inside}
use Rattle.ash_type_rules.specs.ItemRules.{Names, Row, InterfaceMembers, Listed, Members, Walked, no_members, check_members}
use Rattle.ash_type_rules.specs.ItemRules.{class_of_members, check_items, module_walked}
use Rattle.ash_typed.specs.Modules.{Implementation, Class, variables_of, signature_of, implementation_of, class_of}
use Rattle.ash_typed.specs.Modules.{Module, module_of}
use Rattle.ash_typed.specs.declared.tree.items.Variables as variables
use Rattle.ash_typed.specs.declared.tree.items.Class as class
use Rattle.ash_typed.specs.declared.tree.items.Module as script
use Rattle.ash_check_names.specs.NameIndex.{texts}
use Rattle.ash_check.specs.declared.names.Names as names
use Rattle.ash_check.specs.declared.routines.Routine as routine
use Rattle.ash_check.specs.declared.interfaces.InterfaceParts as interface_parts
use Rattle.ash_check.specs.declared.implementations.ListedInterfaces as listed_interfaces
use Rattle.ash_tree.specs.Items.{Routine}

abbrev pub registered_in : Option (Bor Registrations) → List host.Registration
registered_in None = []
registered_in (Some registry) = registered registry.now

abbrev pub names_of : names.Names → Names
names_of n = record { registered = registered_in n.registry; taken = texts n.taken.keys; room = n.room }

abbrev pub routine_of : routine.Routine → Routine
routine_of c = record {
  place = c.place;
  name = c.name.now;
  parameters = map parameter_of c.parameters.now;
  body = map stmt_of c.body.now;
}

-- the methods of an interface so far, and the interfaces that a class lists so far

abbrev pub interface_parts_of : interface_parts.InterfaceParts → InterfaceMembers
interface_parts_of ss = record { names = names_of ss.names; methods = map signature_of ss.methods.items }

abbrev pub listed_interfaces_of : listed_interfaces.ListedInterfaces → Listed
listed_interfaces_of l = record { names = names_of l.names; interfaces = map implementation_of l.interfaces.items }

-- the places of methods, where there is one for each
abbrev pub optional_places : Option (Vec ℕ Global) → Option (List ℕ)
optional_places places = option_map (λ (all : Vec ℕ Global). all.items) places

-- variables, a class and a module so far, each with the names that are taken

abbrev pub row_of : Names → variables.Variables → Row
row_of names v = record { names = names; variables = variables_of v }

abbrev pub members_of : Names → class.Class → Members
members_of names c = record { names = names; class = class_of c }

abbrev pub walked_of : Names → script.Module → Walked
walked_of names m = record { names = names; typed = module_of m }

-- the class, or the module, after these members or items more

abbrev pub class_after : Environment → Members → List written.Member → TypingResult Class
class_after env ms rest = check_members env ms rest >>= λ next. Ok (class_of_members next)

abbrev pub module_after : Environment → Walked → List written.Item → TypingResult Module
module_after env w rest = check_items env w rest >>= λ next. Ok (module_walked next)

-- the class of this place, with the interfaces that it lists
abbrev pub class_with : Environment → ℕ → written.Class → List Implementation → TypingResult Class
class_with env place c listed = class_after (inside env place) (no_members c listed) c.members
