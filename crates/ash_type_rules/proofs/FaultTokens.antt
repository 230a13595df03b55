-- Trees each of whose places is that of a token of the script.
use Rattle.std.proofs.Common.{◌≡◌, ℕ, List, true, Option, Some, None, refl}
use Rattle.std.specs.List.{Any, AllByRecursion}
use Rattle.ash_lex.specs.Tokens.{Meaning, name, number, sign, reserved}
use Rattle.ash_lex.specs.declared.signs.Sign.TheVariants as signs
use Rattle.ash_lex.specs.declared.words.ReservedWord.TheVariants as words
use Rattle.ash_tree.specs.declared.tree.places.Position.{Position}
use Rattle.ash_tree.specs.declared.tree.statements.Label.{Label}
use Rattle.ash_tree.specs.declared.tree.statements.Label.TheVariants as labels
use Rattle.ash_tree.specs.GrammarTokens.{Tokens}
use Rattle.ash_tree.specs.Tree as written
use Rattle.ash_type_rules.specs.FaultPlaces.{begins_expression}

-- a token of the script that means this has its first byte at this offset
pub record HasToken (script : Tokens) (m : Meaning) (at : ℕ) : Type 0 where
  pub token : Any (λ (t : Meaning × Position). (t.0 ≡ m) × (t.1.at ≡ at)) script

-- some token has
abbrev pub HasAny : Tokens → ℕ → Type 0
HasAny script at = (m : Meaning) × HasToken script m at

-- a token with which an expression begins
abbrev pub HasStart : Tokens → ℕ → Type 0
HasStart script at = (m : Meaning) × HasToken script m at × (begins_expression m ≡ true)

-- each of these tokens is one of the script
abbrev pub AreIn : Tokens → Tokens → Type 0
AreIn script tokens = AllByRecursion (λ (t : Meaning × Position). HasToken script t.0 t.1.at) tokens

-- types

abbrev pub ElementIn : Tokens → written.Element → Type 0
ElementIn script (written.PrimElement p k) = HasAny script p.at
ElementIn script (written.HandleElement p text) = HasToken script (name text) p.at

abbrev pub NamedIn : Tokens → written.Named → Type 0
NamedIn script (written.Prim p k) = HasAny script p.at
NamedIn script (written.Object p text) = HasToken script (name text) p.at
NamedIn script (written.Handle p text) = HasToken script (name text) p.at
NamedIn script (written.Array p of) = HasToken script (reserved words.Array) p.at × ElementIn script of
NamedIn script (written.ArrayHandle p of) = HasToken script (reserved words.Array) p.at × ElementIn script of

abbrev pub TypeNameIn : Tokens → written.TypeName → Type 0
TypeNameIn script t = HasToken script (name t.name) t.place.at

-- expressions

abbrev mutual
  pub ExprIn : Tokens → written.Expr → Type 0
  ExprIn script (written.Number p n) = HasToken script (number n) p.at
  ExprIn script (written.Truth p b) = HasStart script p.at
  ExprIn script (written.Null p) = HasStart script p.at
  ExprIn script (written.This p) = HasToken script (reserved words.This) p.at
  ExprIn script (written.Name p text) = HasToken script (name text) p.at
  ExprIn script (written.Call p text es) = HasToken script (name text) p.at × ExprsIn script es
  ExprIn script (written.Brackets p e) = HasStart script p.at × ExprIn script e
  ExprIn script (written.Convert p to e) = HasStart script p.at × ExprIn script e
  ExprIn script (written.NewArray p of es) =
      HasToken script (reserved words.Array) p.at × ElementIn script of × ExprsIn script es
  ExprIn script (written.Cast p to e) = HasStart script p.at × TypeNameIn script to × ExprIn script e
  ExprIn script (written.Postfix p e ss) = HasStart script p.at × ExprIn script e × SuffixesIn script ss
  ExprIn script (written.Unary p op e) = HasStart script p.at × ExprIn script e
  ExprIn script (written.Binary p e ls) = HasStart script p.at × ExprIn script e × LinksIn script ls
  ExprIn script (written.Conditional p c a b) =
      HasStart script p.at × ExprIn script c × ExprIn script a × ExprIn script b
  ExprIn script (written.Assign p e op v) = HasStart script p.at × ExprIn script e × ExprIn script v

  pub ExprsIn : Tokens → written.Exprs → Type 0
  ExprsIn script written.no_expr = Unit {0}
  ExprsIn script (written.expr e es) = ExprIn script e × ExprsIn script es

  pub LinksIn : Tokens → written.Links → Type 0
  LinksIn script written.no_link = Unit {0}
  LinksIn script (written.link op e ls) = ExprIn script e × LinksIn script ls

  pub SuffixesIn : Tokens → written.Suffixes → Type 0
  SuffixesIn script written.no_suffix = Unit {0}
  SuffixesIn script (written.suffix s ss) = SuffixIn script s × SuffixesIn script ss

  pub SuffixIn : Tokens → written.Suffix → Type 0
  SuffixIn script (written.Field p text) = HasToken script (name text) p.at
  SuffixIn script (written.Method p text es) = HasToken script (name text) p.at × ExprsIn script es
  SuffixIn script (written.Index e) = ExprIn script e
  SuffixIn script written.Increment = Unit {0}
  SuffixIn script written.Decrement = Unit {0}

abbrev pub MaybeIn : Tokens → Option written.Expr → Type 0
MaybeIn script None = Unit {0}
MaybeIn script (Some e) = ExprIn script e

-- the first place of an expression
pub place_start : (script : Tokens) (e : written.Expr) → ExprIn script e → HasStart script (written.place_of e).at
place_start script (written.Number p n) h = (number n, h, refl)
place_start script (written.Truth p b) h = h
place_start script (written.Null p) h = h
place_start script (written.This p) h = (reserved words.This, h, refl)
place_start script (written.Name p text) h = (name text, h, refl)
place_start script (written.Call p text es) h = (name text, h.0, refl)
place_start script (written.Brackets p e) h = h.0
place_start script (written.Convert p to e) h = h.0
place_start script (written.NewArray p of es) h = (reserved words.Array, h.0, refl)
place_start script (written.Cast p to e) h = h.0
place_start script (written.Postfix p e ss) h = h.0
place_start script (written.Unary p op e) h = h.0
place_start script (written.Binary p e ls) h = h.0
place_start script (written.Conditional p c a b) h = h.0
place_start script (written.Assign p e op v) h = h.0

pub place_any : (script : Tokens) (e : written.Expr) → ExprIn script e → HasAny script (written.place_of e).at
place_any script e h = let start = place_start script e h in (start.0, start.1)

-- of a type
pub type_any : (script : Tokens) (of : written.Named) → NamedIn script of → HasAny script (written.place_of_type of).at
type_any script (written.Prim p k) h = h
type_any script (written.Object p text) h = (name text, h)
type_any script (written.Handle p text) h = (name text, h)
type_any script (written.Array p of) h = (reserved words.Array, h.0)
type_any script (written.ArrayHandle p of) h = (reserved words.Array, h.0)

-- variables

abbrev pub InitializerIn : Tokens → written.Initializer → Type 0
InitializerIn script written.Default = Unit {0}
InitializerIn script (written.Value e) = ExprIn script e
InitializerIn script (written.Arguments es) = ExprsIn script (written.exprs es)

abbrev pub DeclIn : Tokens → written.Decl → Type 0
DeclIn script d = HasToken script (name d.name) d.place.at × InitializerIn script d.initializer

abbrev pub VarsIn : Tokens → written.Vars → Type 0
VarsIn script v = NamedIn script v.of × AllByRecursion (DeclIn script) v.decls

-- statements

-- what the head of a `for` may be
abbrev pub IsHeadForm : written.Stmt → Type 0
IsHeadForm (written.Empty p) = Unit {0}
IsHeadForm (written.Declare p v) = Unit {0}
IsHeadForm (written.Evaluate p e) = Unit {0}
IsHeadForm _ = ⊥

abbrev pub LabelIn : Tokens → Position → Label → Type 0
LabelIn script p (labels.Case n) = HasToken script (number n) p.at
LabelIn script p (labels.CaseMinus n) = HasToken script (sign signs.Minus) p.at
LabelIn script p labels.Default = HasToken script (reserved words.Default) p.at

abbrev mutual
  pub StmtIn : Tokens → written.Stmt → Type 0
  StmtIn script (written.Empty p) = HasAny script p.at
  StmtIn script (written.Declare p v) = HasAny script p.at × VarsIn script v
  StmtIn script (written.Evaluate p e) = HasAny script p.at × ExprIn script e
  StmtIn script (written.Block p ss) = HasAny script p.at × StmtsIn script ss
  StmtIn script (written.If p c s) = HasAny script p.at × ExprIn script c × StmtIn script s
  StmtIn script (written.IfElse p c s t) = HasAny script p.at × ExprIn script c × StmtIn script s × StmtIn script t
  StmtIn script (written.While p c s) = HasAny script p.at × ExprIn script c × StmtIn script s
  StmtIn script (written.DoWhile p s c) = HasAny script p.at × StmtIn script s × ExprIn script c
  StmtIn script (written.For p f c es s) =
      HasAny script p.at × IsHeadForm f × StmtIn script f × MaybeIn script c × ExprsIn script (written.exprs es)
      × StmtIn script s
  StmtIn script (written.Switch p e cs) = HasAny script p.at × ExprIn script e × CasesIn script cs
  StmtIn script (written.Break p) = HasToken script (reserved words.Break) p.at
  StmtIn script (written.Continue p) = HasToken script (reserved words.Continue) p.at
  StmtIn script (written.Return p e) = HasToken script (reserved words.Return) p.at × MaybeIn script e

  pub StmtsIn : Tokens → written.Stmts → Type 0
  StmtsIn script written.no_stmt = Unit {0}
  StmtsIn script (written.stmt s ss) = StmtIn script s × StmtsIn script ss

  pub CaseIn : Tokens → written.Case → Type 0
  CaseIn script (written.labelled p l ss) = LabelIn script p l × StmtsIn script ss

  pub CasesIn : Tokens → written.Cases → Type 0
  CasesIn script written.no_case = Unit {0}
  CasesIn script (written.next_case c cs) = CaseIn script c × CasesIn script cs

-- items

abbrev pub ParameterIn : Tokens → written.Parameter → Type 0
ParameterIn script x = NamedIn script x.of × HasToken script (name x.name) x.place.at

abbrev pub ResultIn : Tokens → Option written.Named → Type 0
ResultIn script None = Unit {0}
ResultIn script (Some of) = NamedIn script of

-- what is written after a result
abbrev pub RoutineIn : Tokens → Position → List ℕ → List written.Parameter → List written.Stmt → Type 0
RoutineIn script p text parameters body =
    HasToken script (name text) p.at × AllByRecursion (ParameterIn script) parameters
    × StmtsIn script (written.stmts body)

abbrev pub FunctionIn : Tokens → written.Function → Type 0
FunctionIn script f = ResultIn script f.result × RoutineIn script f.place f.name f.parameters f.body

abbrev pub MemberIn : Tokens → written.Member → Type 0
MemberIn script (written.AMethod f) = FunctionIn script f
MemberIn script (written.AField v) = VarsIn script v
MemberIn script (written.AConstructor c) = RoutineIn script c.place c.name c.parameters c.body

abbrev pub ClassIn : Tokens → written.Class → Type 0
ClassIn script c =
    HasToken script (name c.name) c.place.at × AllByRecursion (TypeNameIn script) c.interfaces
    × AllByRecursion (MemberIn script) c.members

abbrev pub InterfaceMethodIn : Tokens → written.InterfaceMethod → Type 0
InterfaceMethodIn script m =
    ResultIn script m.result × HasToken script (name m.name) m.place.at
    × AllByRecursion (ParameterIn script) m.parameters

abbrev pub InterfaceIn : Tokens → written.Interface → Type 0
InterfaceIn script i = HasToken script (name i.name) i.place.at × AllByRecursion (InterfaceMethodIn script) i.methods

abbrev pub ItemIn : Tokens → written.Item → Type 0
ItemIn script (written.AClass c) = ClassIn script c
ItemIn script (written.AnInterface i) = InterfaceIn script i
ItemIn script (written.AFunction f) = FunctionIn script f
ItemIn script (written.AGlobal v) = VarsIn script v
