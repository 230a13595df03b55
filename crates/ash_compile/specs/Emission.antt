-- What code that is emitted for a phrase does, wherever it stands.
use Rattle.std.specs.Prelude.{◌≡◌, ◌≤◌, ◌<◌, ℕ, ◌+◌, List, [], ◌∷◌, ◌++◌, length, max, true}
use Rattle.std.specs.Prelude.{slice_get, slice_set}
use Rattle.ash_typed.specs.declared.types.VarType.{VarType}
use Rattle.ash_typed.specs.declared.types.VarType.TheVariants as vars
use Rattle.ash_typed.specs.TypeOf.{ValueType}
use Rattle.ash_typed.specs.TypedTree.{Expr}
use Rattle.ash_typed.specs.SoundExpressions.{TypedEnvironment, IsWellTyped}
use Rattle.ash_meaning.specs.Activity.{Activity}
use Rattle.ash_meaning.specs.CallMeaning.{Calls}
use Rattle.ash_meaning.specs.ExpressionMeaning.{expression}
use Rattle.ash_meaning.specs.Functions.{calls_within}
use Rattle.ash_soundness.specs.WellFormed.{Context, IsContext, declared, IsWellFormed}
use Rattle.ash_typed.specs.declared.tree.operations.Lazy.{Lazy}
use Rattle.ash_typed.specs.declared.tree.operations.Lazy.TheVariants as lazies
use Rattle.ash_code.specs.declared.instruction.Instruction.{Instruction}
use Rattle.ash_code.specs.declared.instruction.Instruction.TheVariants as i
use Rattle.ash_code.specs.Performing.{Setting, own_name}
use Rattle.ash_code.specs.Running.{instruction_at}
use Rattle.ash_compile.specs.declared.builder.Written.{Written}
use Rattle.ash_compile.specs.Stretches.{Computes}
use Rattle.ash_compile.specs.Layout.{IsLayout}
use Rattle.ash_compile.specs.Callees.{room_for, HasCallees, HasClasses}

-- code that is written

abbrev pub code_of : Written → List Instruction
code_of builder = (builder.instructions).items

abbrev pub end_of : Written → ℕ
end_of builder = length (code_of builder)

-- The code grew, and what was there stays.
pub record Keeps (old new : Written) : Type 0 where
  pub longer : end_of old ≤ end_of new
  pub same : (k : ℕ) → k < end_of old → slice_get (code_of new) k ≡ slice_get (code_of old) k
  pub slots : old.slots ≤ new.slots
  pub layout : new.layout ≡ old.layout

-- One instruction more, which names a slot.
pub record Puts (old new : Written) (slot : ℕ) (i : Instruction) : Type 0 where
  pub code : code_of new ≡ code_of old ++ i ∷ []
  pub slots : new.slots ≡ max old.slots (slot + 1)
  pub layout : new.layout ≡ old.layout

-- One instruction is another one now.
pub record Leads (old new : Written) (at : ℕ) (i : Instruction) : Type 0 where
  pub code : code_of new ≡ slice_set (code_of old) at i
  pub slots : new.slots ≡ old.slots
  pub layout : new.layout ≡ old.layout

-- what leaves the value of a lazy operator to its right operand, or jumps over that
abbrev pub lazy_jump : Lazy → ℕ → ℕ → Instruction
lazy_jump lazies.And condition to = i.JumpUnless condition to
lazy_jump lazies.Or condition to = i.JumpIf condition to

-- what reads a local: what may be a handle is held
abbrev pub read_local : ℕ → VarType → ℕ → Instruction
read_local from vars.Bool to = i.Move from to
read_local from (vars.Integer int_type) to = i.Move from to
read_local from _ to = i.Hold from to

-- where it stands

-- A function of a module that runs in a frame of so many slots, or more: how deep calls go, what its expressions see,
-- what its callers see, and how many slots a function of the module uses at most.
pub record Scene : Type 0 where
  pub setting : Setting
  pub context : Context
  pub depth : ℕ
  pub env : TypedEnvironment
  pub envs : List TypedEnvironment
  pub function : ℕ
  pub room : ℕ
  pub greatest : ℕ

-- The module is sound, and runs under its name. Objects have ranks in its activities. The code has its functions, up
-- to this depth of calls, and its classes. The frame has slots for itself and for each frame that it may call.
pub record IsScene (s : Scene) : Type 0 where
  pub sound : IsContext s.context
  pub declares : (s.env).signatures ≡ declared s.context
  pub owner : own_name s.setting ≡ ((s.context).program).name
  pub ranks : (env : TypedEnvironment) (envs : List TypedEnvironment) (a : Activity) → IsWellFormed s.context env envs a
      → ((s.setting).test).has_ranks a.world ≡ true
  pub callees : HasCallees s.setting s.context s.depth s.greatest
  pub classes : HasClasses s.setting ((s.context).program).tree
  pub roomy : room_for s.greatest (length s.envs) ≤ s.room

-- Code that is written for the module of the scene, and uses no more slots than a function may.
pub record Suits (s : Scene) (builder : Written) : Type 0 where
  pub slots : builder.slots ≤ s.greatest
  pub layout : IsLayout ((s.setting).code).module ((s.context).program).tree builder.layout

abbrev pub calls_of : Scene → Calls
calls_of s = calls_within (s.context).program s.depth

-- Activities in which the expressions of the function run: well-formed ones with no more ticks than calls go deep.
abbrev pub Good : Scene → Activity → Type 0
Good s a = IsWellFormed s.context s.env s.envs a × (a.ticks ≤ s.depth)

-- The function has this code from one place to another.
abbrev pub Stands : Scene → List Instruction → ℕ → ℕ → Type 0
Stands s code from to =
    (k : ℕ) → from ≤ k → k < to
    → instruction_at (s.setting).code (record { function = s.function; at = k }) ≡ slice_get code k

-- expressions

-- From here to there the code does what an expression does, and has its value in a slot.
abbrev pub DoesExpression : Scene → Expr → ℕ → ℕ → ℕ → Type 0
DoesExpression s e from to slot =
    Computes s.setting (Good s) s.function s.room (expression (calls_of s) e) from to slot

-- The code has grown by that of an expression: wherever it stands, it does what the expression does if that is well
-- typed there.
pub record Emits (old new : Written) (e : Expr) (slot : ℕ) : Type 0 where
  pub keeps : Keeps old new
  pub does : (s : Scene) (of : ValueType)
      → IsScene s
      → IsWellTyped s.env e of
      → Stands s (code_of new) (end_of old) (end_of new)
      → Suits s new
      → DoesExpression s e (end_of old) (end_of new) slot
