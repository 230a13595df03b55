-- What a statement sees, for the rules and for the walk alike.
use Rattle.std.specs.Prelude.{ℕ, List, ◌++◌, Bool, true, false, length, drop}
use Rattle.std.specs.List.{list_any}
use Rattle.ash_tree.specs.Tree as written
use Rattle.ash_type_rules.specs.declared.types.Ty.{Ty}
use Rattle.ash_type_rules.specs.Environment.{Declared, Environment, declares, with_locals}
use Rattle.ash_type_rules.specs.ModuleDeclarations.{variables}

-- There are `first` locals before those of the block, and the function has a result of the type `result`.
pub record Scope : Type 0 where
  pub env : Environment
  pub first : ℕ
  pub result : Ty
  pub in_loop : Bool
  pub in_switch : Bool

-- No name of a block is taken yet where the block begins.
abbrev pub block_of : Scope → Scope
block_of scope = record {
  env = scope.env;
  first = length scope.env.locals;
  result = scope.result;
  in_loop = scope.in_loop;
  in_switch = scope.in_switch;
}

abbrev pub loop_of : Scope → Scope
loop_of scope =
    record { env = scope.env; first = scope.first; result = scope.result; in_loop = true; in_switch = scope.in_switch }

abbrev pub switch_of : Scope → Scope
switch_of scope =
    record { env = scope.env; first = scope.first; result = scope.result; in_loop = scope.in_loop; in_switch = true }

abbrev pub with_variables : Scope → List Declared → Scope
with_variables scope vs = record {
  env = with_locals scope.env (scope.env.locals ++ vs);
  first = scope.first;
  result = scope.result;
  in_loop = scope.in_loop;
  in_switch = scope.in_switch;
}

abbrev pub declared_in : Scope → written.Vars → List Declared
declared_in scope v = variables scope.env.registered scope.env.declarations v

-- `after scope s` is what the statements after one see: the variables that it declares are added.
abbrev pub after : Scope → written.Stmt → Scope
after scope (written.Declare p v) = with_variables scope (declared_in scope v)
after scope _ = scope

abbrev pub is_taken : Scope → List ℕ → Bool
is_taken scope name = list_any (declares name) (drop scope.first scope.env.locals)

-- Parameters and the variables of the body are one block.
abbrev pub body_scope : Environment → Ty → Scope
body_scope env of = record { env = env; first = 0; result = of; in_loop = false; in_switch = false }
