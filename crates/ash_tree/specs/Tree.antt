-- These definitions say what the trees of scripts are, without where their parts lie in memory. Each node has a place.
use Rattle.std.specs.Prelude.{ℕ, Bool, List, [], ◌∷◌, Option}
use Rattle.ash_tree.specs.declared.tree.places.Position.{Position}
use Rattle.ash_tree.specs.declared.tree.types.Primitive.{Primitive}
use Rattle.ash_tree.specs.declared.tree.operators.UnaryOp.{UnaryOp}
use Rattle.ash_tree.specs.declared.tree.operators.BinaryOp.{BinaryOp}
use Rattle.ash_tree.specs.declared.tree.operators.AssignOp.{AssignOp}
use Rattle.ash_tree.specs.declared.tree.statements.Label.{Label}

-- The type of an array's elements is a primitive, or a handle of an object type.
pub data Element : Type 0 where
  PrimElement : Position → Primitive → Element
  HandleElement : Position → List ℕ → Element

-- A type, as it is written, is a primitive, an object type, a handle of one, an array, or a handle of one.
pub data Named : Type 0 where
  Prim : Position → Primitive → Named
  Object : Position → List ℕ → Named
  Handle : Position → List ℕ → Named
  Array : Position → Element → Named
  ArrayHandle : Position → Element → Named

-- A type name is the name of a class or an interface where it is referred to.
pub record TypeName : Type 0 where
  pub place : Position
  pub name : List ℕ

-- The arguments of a call, the suffixes of an operand and the operators of one level are lists in an expression.
mutual
  pub data Expr : Type 0 where
    Number : Position → ℕ → Expr
    Truth : Position → Bool → Expr
    Null : Position → Expr
    This : Position → Expr
    Name : Position → List ℕ → Expr
    Call : Position → List ℕ → Exprs → Expr
    Brackets : Position → Expr → Expr
    Convert : Position → Primitive → Expr → Expr
    NewArray : Position → Element → Exprs → Expr
    Cast : Position → TypeName → Expr → Expr
    Postfix : Position → Expr → Suffixes → Expr
    Unary : Position → UnaryOp → Expr → Expr
    Binary : Position → Expr → Links → Expr
    Conditional : Position → Expr → Expr → Expr → Expr
    Assign : Position → Expr → AssignOp → Expr → Expr

  pub data Exprs : Type 0 where
    no_expr : Exprs
    expr : Expr → Exprs → Exprs

  -- A suffix follows an operand.
  pub data Suffix : Type 0 where
    Field : Position → List ℕ → Suffix
    Method : Position → List ℕ → Exprs → Suffix
    Index : Expr → Suffix
    Increment : Suffix
    Decrement : Suffix

  pub data Suffixes : Type 0 where
    no_suffix : Suffixes
    suffix : Suffix → Suffixes → Suffixes

  -- Links are the operators of a level, each with its right operand.
  pub data Links : Type 0 where
    no_link : Links
    link : BinaryOp → Expr → Links → Links

-- An initializer is what a variable begins with.
pub data Initializer : Type 0 where
  Default : Initializer
  Value : Expr → Initializer
  Arguments : List Expr → Initializer

pub record Decl : Type 0 where
  pub place : Position
  pub name : List ℕ
  pub initializer : Initializer

-- These variables are declared together, with one type.
pub record Vars : Type 0 where
  pub of : Named
  pub decls : List Decl

-- A statement may also be the declaration of variables in a block.
mutual
  pub data Stmt : Type 0 where
    Empty : Position → Stmt
    Declare : Position → Vars → Stmt
    Evaluate : Position → Expr → Stmt
    Block : Position → Stmts → Stmt
    If : Position → Expr → Stmt → Stmt
    IfElse : Position → Expr → Stmt → Stmt → Stmt
    While : Position → Expr → Stmt → Stmt
    DoWhile : Position → Stmt → Expr → Stmt
    For : Position → Stmt → Option Expr → List Expr → Stmt → Stmt
    Switch : Position → Expr → Cases → Stmt
    Break : Position → Stmt
    Continue : Position → Stmt
    Return : Position → Option Expr → Stmt

  pub data Stmts : Type 0 where
    no_stmt : Stmts
    stmt : Stmt → Stmts → Stmts

  -- A case is a label of a switch, with the statements after it.
  pub data Case : Type 0 where
    labelled : Position → Label → Stmts → Case

  pub data Cases : Type 0 where
    no_case : Cases
    next_case : Case → Cases → Cases

pub record Parameter : Type 0 where
  pub of : Named
  pub place : Position
  pub name : List ℕ

-- A function is void without a result.
pub record Function : Type 0 where
  pub place : Position
  pub result : Option Named
  pub name : List ℕ
  pub parameters : List Parameter
  pub body : List Stmt

pub record Constructor : Type 0 where
  pub place : Position
  pub name : List ℕ
  pub parameters : List Parameter
  pub body : List Stmt

-- A member of a class is a method, a field or a constructor.
pub data Member : Type 0 where
  AMethod : Function → Member
  AField : Vars → Member
  AConstructor : Constructor → Member

-- A class has the interfaces that it lists.
pub record Class : Type 0 where
  pub place : Position
  pub name : List ℕ
  pub interfaces : List TypeName
  pub members : List Member

-- A method that an interface declares is void without a result.
pub record InterfaceMethod : Type 0 where
  pub place : Position
  pub result : Option Named
  pub name : List ℕ
  pub parameters : List Parameter

pub record Interface : Type 0 where
  pub place : Position
  pub name : List ℕ
  pub methods : List InterfaceMethod

-- An item of a module is a class, an interface, a function or global variables.
pub data Item : Type 0 where
  AClass : Class → Item
  AnInterface : Interface → Item
  AFunction : Function → Item
  AGlobal : Vars → Item

-- A signature is a function without a body.
pub record Signature : Type 0 where
  pub place : Position
  pub result : Option Named
  pub name : List ℕ
  pub parameters : List Named

pub record Property : Type 0 where
  pub place : Position
  pub of : Named
  pub name : List ℕ

-- A declaration is what a host registers.
pub data Declaration : Type 0 where
  ASignature : Signature → Declaration
  AProperty : Property → Declaration

-- `place_of e` is the place of an expression: its first token.
abbrev pub place_of : Expr → Position
place_of (Number p n) = p
place_of (Truth p b) = p
place_of (Null p) = p
place_of (This p) = p
place_of (Name p t) = p
place_of (Call p t es) = p
place_of (Brackets p e) = p
place_of (Convert p k e) = p
place_of (NewArray p t es) = p
place_of (Cast p t e) = p
place_of (Postfix p e ss) = p
place_of (Unary p o e) = p
place_of (Binary p e ls) = p
place_of (Conditional p c a b) = p
place_of (Assign p e o v) = p

abbrev pub place_of_type : Named → Position
place_of_type (Prim p k) = p
place_of_type (Object p t) = p
place_of_type (Handle p t) = p
place_of_type (Array p t) = p
place_of_type (ArrayHandle p t) = p

-- `exprs es` is the list of these expressions as it is in a tree.
abbrev pub exprs : List Expr → Exprs
exprs [] = no_expr
exprs (e ∷ es) = expr e (exprs es)

abbrev pub suffixes : List Suffix → Suffixes
suffixes [] = no_suffix
suffixes (s ∷ ss) = suffix s (suffixes ss)

-- An operation is an operator with its right operand.
pub record OperatorLink : Type 0 where
  pub operator : BinaryOp
  pub operand : Expr

abbrev pub links : List OperatorLink → Links
links [] = no_link
links (l ∷ ls) = link l.operator l.operand (links ls)

abbrev pub stmts : List Stmt → Stmts
stmts [] = no_stmt
stmts (s ∷ ss) = stmt s (stmts ss)

abbrev pub cases : List Case → Cases
cases [] = no_case
cases (c ∷ cs) = next_case c (cases cs)

-- `chained first more` is the operand itself without operators, and one node with all of them where there are any.
abbrev pub chained : Expr → List OperatorLink → Expr
chained first [] = first
chained first (l ∷ ls) = Binary (place_of first) first (links (l ∷ ls))

-- `suffixed operand more` is the operand itself without suffixes, and one node with all of them where there are any.
abbrev pub suffixed : Expr → List Suffix → Expr
suffixed operand [] = operand
suffixed operand (s ∷ ss) = Postfix (place_of operand) operand (suffixes (s ∷ ss))
