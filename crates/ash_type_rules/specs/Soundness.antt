-- What expressions and statements see, as sound typed trees speak of it.
use Rattle.std.specs.Prelude.{◌||◌, List, map}
use Rattle.ash_registrations.specs.Registrations as host
use Rattle.ash_typed.specs.Modules.{Signature}
use Rattle.ash_typed.specs.Signatures.{ClassTypes, ModuleSignatures}
use Rattle.ash_typed.specs.SoundExpressions as expressions
use Rattle.ash_typed.specs.SoundStatements as statements
use Rattle.ash_type_rules.specs.TypeRules.{var_type, result_type}
use Rattle.ash_type_rules.specs.Environment.{type_declared, FunctionSignature, InterfaceSignature, ClassSignature}
use Rattle.ash_type_rules.specs.Environment.{ModuleDeclarations, Environment}
use Rattle.ash_type_rules.specs.Scopes.{Scope}
use Rattle.ash_type_rules.specs.Offered.{offered}

abbrev pub signature_of : FunctionSignature → Signature
signature_of f = record { name = f.name; result = result_type f.result; parameters = map var_type f.parameters }

abbrev pub signatures_of_interface : InterfaceSignature → List Signature
signatures_of_interface i = map signature_of i.methods

abbrev pub signature_of_class : ClassSignature → ClassTypes
signature_of_class c = record {
  interfaces = c.interfaces;
  fields = map type_declared c.fields;
  parameters = map var_type c.parameters;
  methods = map signature_of c.methods;
}

-- `signatures_in registrations declarations` is what a module declares, with these registrations.
abbrev pub signatures_in : List host.Registration → ModuleDeclarations → ModuleSignatures
signatures_in registrations declarations = record {
  host = offered registrations;
  interfaces = map signatures_of_interface declarations.interfaces;
  classes = map signature_of_class declarations.classes;
  functions = map signature_of declarations.functions;
  globals = map type_declared declarations.globals;
}

-- `seen_in env` is what an expression sees.
abbrev pub seen_in : Environment → expressions.TypedEnvironment
seen_in env = record {
  signatures = signatures_in env.registered env.declarations;
  this = env.this;
  locals = map type_declared env.locals;
}

-- `seen_at scope` is what a statement sees.
abbrev pub seen_at : Scope → statements.TypedScope
seen_at scope = record {
  env = seen_in scope.env;
  result = result_type scope.result;
  may_break = scope.in_loop || scope.in_switch;
  may_continue = scope.in_loop;
}
