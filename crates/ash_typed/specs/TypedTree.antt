-- The typed tree of an expression is given here without where its parts lie in memory. Operators group to the left, and
-- a suffix is applied to what is before it.
use Rattle.std.specs.Prelude.{ℕ, List, [], ◌∷◌, Bool, Option, Some, None}
use Rattle.ash_integers.specs.declared.int_type.IntType.{IntType}
use Rattle.ash_typed.specs.declared.types.Element.{Element}
use Rattle.ash_typed.specs.declared.types.ObjectType.{ObjectType}
use Rattle.ash_typed.specs.declared.types.VarType.{VarType}
use Rattle.ash_typed.specs.declared.tree.operations.Variable.{Variable}
use Rattle.ash_typed.specs.declared.tree.operations.ObjectMember.{ObjectMember}
use Rattle.ash_typed.specs.declared.tree.operations.Method.{Method}
use Rattle.ash_typed.specs.declared.tree.operations.CallTarget.{CallTarget}
use Rattle.ash_typed.specs.declared.tree.operations.Calculation.{Calculation}
use Rattle.ash_typed.specs.declared.tree.operations.Operation.{Operation}
use Rattle.ash_typed.specs.declared.tree.operations.Lazy.{Lazy}
use Rattle.ash_typed.specs.declared.tree.operations.Change.{Change}
use Rattle.ash_typed.specs.declared.tree.operations.Conversion.{Conversion}
use Rattle.ash_typed.specs.declared.tree.operations.IncrementOp.{IncrementOp}

mutual
  pub data Expr : Type 0 where
    Number : IntType → ℕ → Expr
    Truth : Bool → Expr
    Null : Expr
    This : ℕ → Expr
    Read : Place → Expr
    -- a method and a call say the types of their arguments, in order
    Invoke : Expr → Method → List VarType → Exprs → Expr
    Convert : Conversion → Expr → Expr
    -- null where the object is not of the type
    Cast : ObjectType → Expr → Expr
    Alter : Change → Expr → Expr
    Operate : Operation → Expr → Expr → Expr
    Lazily : Lazy → Expr → Expr → Expr
    Conditional : Expr → Expr → Expr → Expr
    Assign : Place → Expr → Expr
    Update : Place → IntType → Calculation → Expr → Expr
    Count : Place → IntType → IncrementOp → Expr
    Call : CallTarget → List VarType → Exprs → Expr

  -- A place can be written to.
  pub data Place : Type 0 where
    Stored : Variable → Place
    Held : Expr → ObjectMember → Place
    -- an array, an index of type `uint`, and what the elements are of
    Indexed : Expr → Expr → Element → Place

  pub data Exprs : Type 0 where
    no_expr : Exprs
    expr : Expr → Exprs → Exprs

abbrev pub exprs : List Expr → Exprs
exprs [] = no_expr
exprs (e ∷ es) = expr e (exprs es)

-- `place_in e` is the place that an expression reads.
abbrev pub place_in : Expr → Option Place
place_in (Read place) = Some place
place_in _ = None

-- `converted conversion e` is the expression, converted where a conversion is named.
abbrev pub converted : Option Conversion → Expr → Expr
converted None e = e
converted (Some conversion) e = Convert conversion e
