-- Each phrase of a module sees what all its items declare, and all that is registered.
use Rattle.std.proofs.Common.{◌≡◌, List, refl}
use Rattle.ash_registrations.specs.Registrations.{Registration}
use Rattle.ash_tree.specs.Tree as written
use Rattle.ash_type_rules.specs.Environment.{Environment}
use Rattle.ash_type_rules.specs.ModuleDeclarations.{declarations}
use Rattle.ash_type_rules.specs.Scopes.{Scope, block_of, after}
use Rattle.ash_type_rules.specs.Phrases.{Phrase, environment_of, Occurs, call_arguments, converted, array_arguments, cast}
use Rattle.ash_type_rules.specs.Phrases.{before_suffixes, first_operand, condition, otherwise, value, argument}
use Rattle.ash_type_rules.specs.Phrases.{other_arguments, linked, other_links, method_arguments, index, other_suffixes}
use Rattle.ash_type_rules.specs.Phrases.{initial_value, initial_arguments, local, other_locals, locals, evaluated, block}
use Rattle.ash_type_rules.specs.Phrases.{if_condition, if_body, else_condition, then_body, else_body, while_condition}
use Rattle.ash_type_rules.specs.Phrases.{while_body, do_condition, do_body, for_head, for_condition, for_steps, for_body}
use Rattle.ash_type_rules.specs.Phrases.{switch_value, statement, other_statements, labelled, other_cases, parameters}
use Rattle.ash_type_rules.specs.Phrases.{other_parameters, other_variables, method_parameters, other_methods}
use Rattle.ash_type_rules.specs.Phrases.{other_interfaces, fields, other_members, items, other_items, interfaces, methods}
use Rattle.ash_type_rules.specs.Phrases.{function, globals, in_brackets, suffixes, operand, links, chosen, target, cases}
use Rattle.ash_type_rules.specs.Phrases.{returned, body, variable, method, constructor, members}

abbrev pub Sees : List Registration → List written.Item → Environment → Type 0
Sees registrations is env = (env.declarations ≡ declarations registrations is) × (env.registered ≡ registrations)

-- a statement changes only the locals that are seen after it
seen_after : (registrations : List Registration) (is : List written.Item) (scope : Scope) (s : written.Stmt)
    → Sees registrations is scope.env
    → Sees registrations is (after scope s).env
seen_after registrations is scope (written.Declare p v) h = h
seen_after registrations is scope _ h = h

pub sees : {registrations : List Registration} {is : List written.Item} {x : Phrase} → Occurs registrations is x
    → Sees registrations is (environment_of x)
sees (call_arguments r) = sees r
sees (in_brackets r) = sees r
sees (converted r) = sees r
sees (array_arguments r) = sees r
sees (cast r) = sees r
sees (before_suffixes r) = sees r
sees (suffixes r e) = sees r
sees (operand r) = sees r
sees (first_operand r) = sees r
sees (links r e) = sees r
sees (condition r) = sees r
sees (chosen r) = sees r
sees (otherwise r) = sees r
sees (target r) = sees r
sees (value r) = sees r
sees (argument r) = sees r
sees (other_arguments r) = sees r
sees (linked r) = sees r
sees (other_links r e f) = sees r
sees (method_arguments r) = sees r
sees (index r) = sees r
sees (other_suffixes r e) = sees r
sees (initial_value r) = sees r
sees (initial_arguments r) = sees r
sees (local r) = sees r
sees (other_locals r) = sees r
sees (locals r e) = sees r
sees (evaluated r) = sees r
sees (block r) = sees r
sees (if_condition r) = sees r
sees (if_body r) = sees r
sees (else_condition r) = sees r
sees (then_body r) = sees r
sees (else_body r) = sees r
sees (while_condition r) = sees r
sees (while_body r) = sees r
sees (do_condition r) = sees r
sees (do_body r) = sees r
sees (for_head r) = sees r
sees {registrations} {is} (for_condition {scope = scope} {f = f} r) = seen_after registrations is (block_of scope) f (sees r)
sees {registrations} {is} (for_steps {scope = scope} {f = f} r) = seen_after registrations is (block_of scope) f (sees r)
sees {registrations} {is} (for_body {scope = scope} {f = f} r) = seen_after registrations is (block_of scope) f (sees r)
sees (switch_value r) = sees r
sees (cases r e) = sees r
sees (returned r) = sees r
sees (statement r) = sees r
sees {registrations} {is} (other_statements {scope = scope} {s = s} r) = seen_after registrations is scope s (sees r)
sees (labelled r) = sees r
sees (other_cases r) = sees r
sees (parameters r) = sees r
sees (other_parameters r e) = sees r
sees (body r e) = sees r
sees (variable r) = sees r
sees (other_variables r) = sees r
sees (method_parameters r) = sees r
sees (other_methods r) = sees r
sees (other_interfaces r) = sees r
sees (fields r e) = sees r
sees (method r e) = sees r
sees (constructor r) = sees r
sees (other_members r) = sees r
sees items = (refl, refl)
sees (other_items r) = sees r
sees (interfaces r) = sees r
sees (members r) = sees r
sees (methods r) = sees r
sees (function r e) = sees r
sees (globals r e) = sees r
