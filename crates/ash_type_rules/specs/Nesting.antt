-- Where variables are declared: in a block or in the head of a loop, as the grammar has it, and not where a single
-- statement is, as after a condition or a label.
use Rattle.std.specs.Prelude.{List}
use Rattle.std.specs.List.{AllByRecursion}
use Rattle.ash_tree.specs.Tree.{Stmt, Declare, Block, If, IfElse, While, DoWhile, For, Switch, Stmts, no_stmt, stmt}
use Rattle.ash_tree.specs.Tree.{stmts, labelled, Cases, no_case, next_case, Function, Constructor, Class, Item}
use Rattle.ash_tree.specs.Items.{classes_of, functions_of, methods_of, constructors_of}

abbrev pub IsNoDeclaration : Stmt → Type 0
IsNoDeclaration (Declare p v) = ⊥
IsNoDeclaration _ = Unit {0}

abbrev mutual
  pub DeclaresInBlocks : Stmt → Type 0
  DeclaresInBlocks (Block p ss) = AllDeclareInBlocks ss
  DeclaresInBlocks (If p c s) = IsNoDeclaration s × DeclaresInBlocks s
  DeclaresInBlocks (IfElse p c s t) = IsNoDeclaration s × DeclaresInBlocks s × IsNoDeclaration t × DeclaresInBlocks t
  DeclaresInBlocks (While p c s) = IsNoDeclaration s × DeclaresInBlocks s
  DeclaresInBlocks (DoWhile p s c) = IsNoDeclaration s × DeclaresInBlocks s
  DeclaresInBlocks (For p f c es s) = IsNoDeclaration s × DeclaresInBlocks s
  DeclaresInBlocks (Switch p e cs) = CasesDeclareInBlocks cs
  DeclaresInBlocks _ = Unit {0}

  -- the statements of a block
  pub AllDeclareInBlocks : Stmts → Type 0
  AllDeclareInBlocks no_stmt = Unit {0}
  AllDeclareInBlocks (stmt s ss) = DeclaresInBlocks s × AllDeclareInBlocks ss

  pub CasesDeclareInBlocks : Cases → Type 0
  CasesDeclareInBlocks no_case = Unit {0}
  CasesDeclareInBlocks (next_case (labelled p l ss) cs) = LabelledDeclareInBlocks ss × CasesDeclareInBlocks cs

  -- the statements after a label
  pub LabelledDeclareInBlocks : Stmts → Type 0
  LabelledDeclareInBlocks no_stmt = Unit {0}
  LabelledDeclareInBlocks (stmt s ss) = IsNoDeclaration s × DeclaresInBlocks s × LabelledDeclareInBlocks ss

-- bodies

abbrev pub BodyDeclaresInBlocks : List Stmt → Type 0
BodyDeclaresInBlocks body = AllDeclareInBlocks (stmts body)

abbrev pub FunctionDeclaresInBlocks : Function → Type 0
FunctionDeclaresInBlocks f = BodyDeclaresInBlocks f.body

abbrev pub ConstructorDeclaresInBlocks : Constructor → Type 0
ConstructorDeclaresInBlocks c = BodyDeclaresInBlocks c.body

pub record ClassDeclaresInBlocks (c : Class) : Type 0 where
  pub methods : AllByRecursion FunctionDeclaresInBlocks (methods_of c.members)
  pub constructors : AllByRecursion ConstructorDeclaresInBlocks (constructors_of c.members)

pub record ItemsDeclareInBlocks (is : List Item) : Type 0 where
  pub classes : AllByRecursion ClassDeclaresInBlocks (classes_of is)
  pub functions : AllByRecursion FunctionDeclaresInBlocks (functions_of is)
