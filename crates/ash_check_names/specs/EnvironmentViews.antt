-- The structs of an environment, and what names mean in it, as the definitions of typing see them.
use Rattle.std.specs.Prelude.{ℕ, List, [], ◌∷◌, Option, Some, None, map, option_map}
use Rattle.std.specs.Borrow.{Bor}
use Rattle.ash_registrations.specs.Registered.{registered}
use Rattle.ash_typed.specs.declared.tree.expressions.Expr as expr_code
use Rattle.ash_typed.specs.TypedTreeViews.{expr_of}
use Rattle.ash_type_rules.specs.declared.types.Ty.{Ty}
use Rattle.ash_type_rules.specs.TypeRules.{ty_of}
use Rattle.ash_type_rules.specs.Environment.{Declared, FunctionSignature, InterfaceSignature, ClassSignature}
use Rattle.ash_type_rules.specs.Environment.{ModuleDeclarations, Environment, Known}
use Rattle.ash_type_rules.specs.Environment.{Callee, Invoked}
use Rattle.ash_check_names.specs.declared.signatures.Binding as binding
use Rattle.ash_check_names.specs.declared.signatures.FunctionSignature as function
use Rattle.ash_check_names.specs.declared.signatures.InterfaceSignature as interface
use Rattle.ash_check_names.specs.declared.signatures.ClassSignature as class
use Rattle.ash_check_names.specs.declared.signatures.Signatures as signatures
use Rattle.ash_check_names.specs.declared.environment.Environment as environment
use Rattle.ash_check_names.specs.declared.parameters.Parameters as parameters
use Rattle.ash_check_names.specs.declared.parameters.Parameters.TheVariants as the_parameters
use Rattle.ash_check_names.specs.declared.callees.Callee as callee
use Rattle.ash_check_names.specs.declared.callees.MethodCallee as method_callee

abbrev pub binding_of : binding.Binding → Declared
binding_of v = record { name = v.name.now; of = v.of }

abbrev pub function_signature_of : function.FunctionSignature → FunctionSignature
function_signature_of f = record { name = f.name.now; result = f.result; parameters = f.parameters.items }

abbrev pub interface_signature_of : interface.InterfaceSignature → InterfaceSignature
interface_signature_of i = record { name = i.name.now; methods = map function_signature_of i.methods.items }

abbrev pub class_signature_of : class.ClassSignature → ClassSignature
class_signature_of c = record {
  name = c.name.now;
  interfaces = c.interfaces.items;
  fields = map binding_of c.fields.items;
  methods = map function_signature_of c.methods.items;
  parameters = c.parameters.items;
}

abbrev pub signatures_of : signatures.Signatures → ModuleDeclarations
signatures_of h = record {
  interfaces = map interface_signature_of h.interfaces.items;
  classes = map class_signature_of h.classes.items;
  functions = map function_signature_of h.functions.items;
  globals = map binding_of h.globals.items;
}

abbrev pub environment_of : environment.Environment → Environment
environment_of e = record {
  declarations = signatures_of e.signatures.now;
  registered = registered e.registry.now;
  this = e.this;
  locals = map binding_of e.locals.now;
}

-- the classes of the module
abbrev pub classes_of : environment.Environment → List ClassSignature
classes_of e = map class_signature_of e.signatures.now.classes.items

-- what is found, with its place

abbrev pub placed_type : ℕ × Declared → ℕ × Ty
placed_type found = (found.0, found.1.of)

abbrev pub placed_function : ℕ × Bor function.FunctionSignature → ℕ × FunctionSignature
placed_function found = (found.0, function_signature_of found.1.now)

abbrev pub placed_interface : ℕ × Bor interface.InterfaceSignature → ℕ × InterfaceSignature
placed_interface found = (found.0, interface_signature_of found.1.now)

abbrev pub placed_class : ℕ × Bor class.ClassSignature → ℕ × ClassSignature
placed_class found = (found.0, class_signature_of found.1.now)

abbrev pub known_of : expr_code.Expr × Ty → Known
known_of known = (expr_of known.0, known.1)

abbrev pub parameters_of : parameters.Parameters → List Ty
parameters_of the_parameters.Nothing = []
parameters_of (the_parameters.One of) = of ∷ []
parameters_of (the_parameters.Script types) = types.now
parameters_of (the_parameters.Host primitives) = map ty_of primitives.now

abbrev pub callee_of : callee.Callee → Callee
callee_of c = record { target = c.target; result = c.result; parameters = option_map parameters_of c.parameters }

abbrev pub method_callee_of : method_callee.MethodCallee → Invoked
method_callee_of m = record { method = m.method; result = m.result; parameters = parameters_of m.parameters }

-- the first parameter, and the others
abbrev pub first_and_rest : List Ty → Option (Ty × List Ty)
first_and_rest [] = None
first_and_rest (p ∷ ps) = Some (p, ps)

abbrev pub split_of : Ty × parameters.Parameters → Ty × List Ty
split_of x = (x.0, parameters_of x.1)
