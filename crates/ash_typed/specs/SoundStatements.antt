-- Sound statements, by the typed tree alone: each of their expressions gives what is asked for, each local is declared
-- in the slot that follows those in scope, and a jump is within what it leaves. One case for each node.
--
-- `IsSoundStmt scope s`: the statement `s` is sound in this scope, and declares no variable that is seen after it.
-- `AreSoundStmts scope ss`: so are the statements of a block, each of which sees the variables that those before it
-- declare.
use Rattle.std.specs.Prelude.{◌≡◌, ◌≢◌, ◌≤◌, ◌^◌, ℕ, zero, suc, ℤ, pos, negsuc, Bool, true, List, [], ◌∷◌}
use Rattle.std.specs.Prelude.{◌++◌, Option, Some, None}
use Rattle.std.specs.List.{AllByRecursion}
use Rattle.ash_tree.specs.declared.tree.statements.Label.{Label}
use Rattle.ash_tree.specs.declared.tree.statements.Label.TheVariants as labels
use Rattle.ash_integers.specs.declared.int_type.IntType.{IntType}
use Rattle.ash_integers.specs.declared.int_type.IntType.TheVariants as ints
use Rattle.ash_typed.specs.declared.types.Element.{Element}
use Rattle.ash_typed.specs.declared.types.ObjectType.{ObjectType}
use Rattle.ash_typed.specs.declared.types.ObjectType.TheVariants as objects
use Rattle.ash_typed.specs.declared.types.VarType.{VarType}
use Rattle.ash_typed.specs.declared.types.VarType.TheVariants as vars
use Rattle.ash_typed.specs.declared.tree.operations.CallTarget.{CallTarget}
use Rattle.ash_typed.specs.declared.tree.operations.CallTarget.TheVariants as targets
use Rattle.ash_typed.specs.declared.tree.statements.Test.{Test}
use Rattle.ash_typed.specs.TypedTree.{Expr, Call, Exprs}
use Rattle.ash_typed.specs.StatementTree.{Initialization, Stmt, Empty, Declare, Evaluate, Block, If, no_branch, branch}
use Rattle.ash_typed.specs.StatementTree.{Head, no_head, declared_head, evaluated_head, Repeat, For, Loop, repeated}
use Rattle.ash_typed.specs.StatementTree.{Switch, Break, Continue, Return, Stmts, no_stmt, stmt, labelled, Cases}
use Rattle.ash_typed.specs.StatementTree.{no_case, next_case}
use Rattle.ash_typed.specs.TypeOf.{ValueType, value}
use Rattle.ash_typed.specs.Signatures.{IsTypeInModule}
use Rattle.ash_typed.specs.SoundOperations.{IsWithin}
use Rattle.ash_typed.specs.SoundExpressions.{TypedEnvironment, IsWellTyped, Fits}

-- A statement sees what its function gives, and whether it may break out of a loop or a `switch`, and go on with the
-- next turn of a loop.
pub record TypedScope : Type 0 where
  pub env : TypedEnvironment
  pub result : Option VarType
  pub may_break : Bool
  pub may_continue : Bool

abbrev pub with_locals : TypedEnvironment → List VarType → TypedEnvironment
with_locals env types = record { signatures = env.signatures; this = env.this; locals = env.locals ++ types }

abbrev pub declaring : TypedScope → List VarType → TypedScope
declaring scope types = record {
  env = with_locals scope.env types;
  result = scope.result;
  may_break = scope.may_break;
  may_continue = scope.may_continue;
}

abbrev pub in_loop : TypedScope → TypedScope
in_loop scope = record { env = scope.env; result = scope.result; may_break = true; may_continue = true }

abbrev pub in_switch : TypedScope → TypedScope
in_switch scope = record { env = scope.env; result = scope.result; may_break = true; may_continue = scope.may_continue }

-- variables

-- The expression constructs an object for a variable of this type.
pub data Constructs : CallTarget → ObjectType → Type 0 where
  class : {class : ℕ} → Constructs (targets.Class class) (objects.Class class)
  host : {kind : ℕ} → Constructs (targets.Host kind) (objects.Host kind)
  array : {of : Element} → Constructs (targets.Array of) (objects.Array of)

abbrev pub IsNoObject : VarType → Type 0
IsNoObject (vars.Object _) = ⊥
IsNoObject _ = Unit {0}

-- A variable begins with this: with an object of its own where it has an object.
pub data IsSoundBeginning (env : TypedEnvironment) : VarType → Option Expr → Type 0 where
  default : {of : VarType} → IsNoObject of → IsSoundBeginning env of None
  stored : {of : VarType} {e : Expr} → IsNoObject of → Fits env of e → IsSoundBeginning env of (Some e)
  constructed : {o : ObjectType} {target : CallTarget} {parameters : List VarType} {es : Exprs}
      → Constructs target o
      → IsWellTyped env (Call target parameters es) (value (vars.Handle o))
      → IsSoundBeginning env (vars.Object o) (Some (Call target parameters es))

pub record IsInitialized (env : TypedEnvironment) (v : Initialization) : Type 0 where
  pub type : IsTypeInModule env.signatures v.of
  pub value : IsSoundBeginning env v.of v.value

-- These variables have these types, and each is seen from the end of its own on.
pub data AreSoundDeclarations : TypedEnvironment → List Initialization → List VarType → Type 0 where
  none_declared : {env : TypedEnvironment} → AreSoundDeclarations env [] []
  and_declared : {env : TypedEnvironment} {v : Initialization} {vs : List Initialization} {types : List VarType}
      → IsInitialized env v
      → AreSoundDeclarations (with_locals env (v.of ∷ [])) vs types
      → AreSoundDeclarations env (v ∷ vs) (v.of ∷ types)

-- expressions of statements

abbrev pub IsEvaluated : TypedEnvironment → Expr → Type 0
IsEvaluated env e = (of : ValueType) × IsWellTyped env e of

abbrev pub IsSoundCondition : TypedEnvironment → Expr → Type 0
IsSoundCondition env e = IsWellTyped env e (value vars.Bool)

abbrev pub MayBeSoundCondition : TypedEnvironment → Option Expr → Type 0
MayBeSoundCondition env None = Unit {0}
MayBeSoundCondition env (Some e) = IsSoundCondition env e

-- The head of a `for` declares variables of these types.
pub data IsSoundHead (env : TypedEnvironment) : Head → List VarType → Type 0 where
  head_is_empty : IsSoundHead env no_head []
  head_declares : {vs : List Initialization} {types : List VarType}
      → AreSoundDeclarations env vs types
      → IsSoundHead env (declared_head vs) types
  head_evaluates : {e : Expr}
      → IsEvaluated env e
      → IsSoundHead env (evaluated_head e) []

-- labels

-- The type holds the number that is this much below zero.
abbrev pub IsWithinMinus : IntType → ℕ → Type 0
IsWithinMinus ints.Int n = n ≤ 2 ^ 31
IsWithinMinus ints.Uint n = n ≡ 0
IsWithinMinus ints.Int64 n = n ≤ 2 ^ 63
IsWithinMinus ints.Uint64 n = n ≡ 0

abbrev pub minus : ℕ → ℤ
minus zero = pos 0
minus (suc n) = negsuc n

abbrev pub constant_of : Label → Option ℤ
constant_of (labels.Case n) = Some (pos n)
constant_of (labels.CaseMinus n) = Some (minus n)
constant_of labels.Default = None

abbrev pub IsConstant : IntType → Label → Type 0
IsConstant int_type (labels.Case n) = IsWithin int_type n
IsConstant int_type (labels.CaseMinus n) = IsWithinMinus int_type n
IsConstant int_type labels.Default = ⊥

abbrev pub Differs : Label → Label → Type 0
Differs l other = constant_of l ≢ constant_of other

-- The constant of a label after these is of the type, and no label before it has the constant; `default` is the last
-- one.
pub data IsSoundLabel (int_type : IntType) : List Label → Label → Cases → Type 0 where
  constant : {before : List Label} {l : Label} {after : Cases}
      → IsConstant int_type l
      → AllByRecursion (Differs l) before
      → IsSoundLabel int_type before l after
  otherwise : {before : List Label} → IsSoundLabel int_type before labels.Default no_case

-- statements

mutual
  pub data IsSoundStmt : TypedScope → Stmt → Type 0 where
    empty : {scope : TypedScope} {line : ℕ} → IsSoundStmt scope (Empty line)
    evaluate : {scope : TypedScope} {line : ℕ} {e : Expr}
        → IsEvaluated scope.env e
        → IsSoundStmt scope (Evaluate line e)
    block : {scope : TypedScope} {line : ℕ} {ss : Stmts}
        → AreSoundStmts scope ss
        → IsSoundStmt scope (Block line ss)
    if_only : {scope : TypedScope} {line : ℕ} {c : Expr} {s : Stmt}
        → IsSoundCondition scope.env c
        → IsSoundStmt scope s
        → IsSoundStmt scope (If line c s no_branch)
    if_else : {scope : TypedScope} {line : ℕ} {c : Expr} {s t : Stmt}
        → IsSoundCondition scope.env c
        → IsSoundStmt scope s
        → IsSoundStmt scope t
        → IsSoundStmt scope (If line c s (branch t))
    repeat : {scope : TypedScope} {line : ℕ} {inside : Loop}
        → IsLoop scope inside
        → IsSoundStmt scope (Repeat line inside)
    -- the loop sees what the head declares
    for : {scope : TypedScope} {line : ℕ} {head : Head} {types : List VarType} {inside : Loop}
        → IsSoundHead scope.env head types
        → IsLoop (declaring scope types) inside
        → IsSoundStmt scope (For line head inside)
    switch : {scope : TypedScope} {line : ℕ} {int_type : IntType} {e : Expr} {cs : Cases}
        → IsWellTyped scope.env e (value (vars.Integer int_type))
        → AreSoundCases (in_switch scope) int_type [] cs
        → IsSoundStmt scope (Switch line int_type e cs)
    break_out : {scope : TypedScope} {line : ℕ}
        → scope.may_break ≡ true
        → IsSoundStmt scope (Break line)
    continue_on : {scope : TypedScope} {line : ℕ}
        → scope.may_continue ≡ true
        → IsSoundStmt scope (Continue line)
    return_nothing : {scope : TypedScope} {line : ℕ}
        → scope.result ≡ None
        → IsSoundStmt scope (Return line None)
    return_value : {scope : TypedScope} {line : ℕ} {of : VarType} {e : Expr}
        → scope.result ≡ Some of
        → Fits scope.env of e
        → IsSoundStmt scope (Return line (Some e))

  pub data IsLoop : TypedScope → Loop → Type 0 where
    loop : {scope : TypedScope} {test : Test} {c : Option Expr} {steps : List Expr} {s : Stmt}
        → MayBeSoundCondition scope.env c
        → AllByRecursion (IsEvaluated scope.env) steps
        → IsSoundStmt (in_loop scope) s
        → IsLoop scope (repeated test c steps s)

  -- These are the statements of a block.
  pub data AreSoundStmts : TypedScope → Stmts → Type 0 where
    no_stmts : {scope : TypedScope} → AreSoundStmts scope no_stmt
    declare : {scope : TypedScope} {line : ℕ} {vs : List Initialization} {types : List VarType} {ss : Stmts}
        → AreSoundDeclarations scope.env vs types
        → AreSoundStmts (declaring scope types) ss
        → AreSoundStmts scope (stmt (Declare line vs) ss)
    more_stmts : {scope : TypedScope} {s : Stmt} {ss : Stmts}
        → IsSoundStmt scope s
        → AreSoundStmts scope ss
        → AreSoundStmts scope (stmt s ss)

  -- Labels come after those before them, with the statements after each, none of which declares variables.
  pub data AreSoundCases : TypedScope → IntType → List Label → Cases → Type 0 where
    no_cases : {scope : TypedScope} {int_type : IntType} {before : List Label}
        → AreSoundCases scope int_type before no_case
    more_cases : {scope : TypedScope} {int_type : IntType} {before : List Label} {l : Label} {ss : Stmts} {cs : Cases}
        → IsSoundLabel int_type before l cs
        → AreLabelled scope ss
        → AreSoundCases scope int_type (before ++ l ∷ []) cs
        → AreSoundCases scope int_type before (next_case (labelled l ss) cs)

  pub data AreLabelled : TypedScope → Stmts → Type 0 where
    none_labelled : {scope : TypedScope} → AreLabelled scope no_stmt
    and_labelled : {scope : TypedScope} {s : Stmt} {ss : Stmts}
        → IsSoundStmt scope s
        → AreLabelled scope ss
        → AreLabelled scope (stmt s ss)
