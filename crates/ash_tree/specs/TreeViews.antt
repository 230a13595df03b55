-- These definitions say what the code's trees represent.
use Rattle.std.specs.Prelude.{List, option_map, map, string_bytes}
use Rattle.ash_tree.specs.declared.tree.places.Position.{Position}
use Rattle.ash_tree.specs.declared.tree.types.TypeKind as type_kind
use Rattle.ash_tree.specs.declared.tree.types.TypeKind.TheVariants as type_kinds
use Rattle.ash_tree.specs.declared.tree.types.Type as type
use Rattle.ash_tree.specs.declared.tree.types.ElementKind as element_kind
use Rattle.ash_tree.specs.declared.tree.types.ElementKind.TheVariants as element_kinds
use Rattle.ash_tree.specs.declared.tree.types.Element as element
use Rattle.ash_tree.specs.declared.tree.types.TypeName as type_name
use Rattle.ash_tree.specs.declared.tree.expressions.ExprKind as expr_kind
use Rattle.ash_tree.specs.declared.tree.expressions.ExprKind.TheVariants as exprs_code
use Rattle.ash_tree.specs.declared.tree.expressions.Expr as expr_code
use Rattle.ash_tree.specs.declared.tree.expressions.Suffix as suffix_code
use Rattle.ash_tree.specs.declared.tree.expressions.Suffix.TheVariants as suffixes_code
use Rattle.ash_tree.specs.declared.tree.expressions.Link as link_code
use Rattle.ash_tree.specs.declared.tree.statements.Initializer as initializer
use Rattle.ash_tree.specs.declared.tree.statements.Initializer.TheVariants as initializers
use Rattle.ash_tree.specs.declared.tree.statements.Decl as decl
use Rattle.ash_tree.specs.declared.tree.statements.Vars as vars
use Rattle.ash_tree.specs.declared.tree.statements.StmtKind as stmt_kind
use Rattle.ash_tree.specs.declared.tree.statements.StmtKind.TheVariants as stmts_code
use Rattle.ash_tree.specs.declared.tree.statements.Stmt as stmt_code
use Rattle.ash_tree.specs.declared.tree.statements.Case as case_code
use Rattle.ash_tree.specs.declared.tree.items.Parameter as parameter
use Rattle.ash_tree.specs.declared.tree.items.Function as function
use Rattle.ash_tree.specs.declared.tree.items.Constructor as constructor
use Rattle.ash_tree.specs.declared.tree.items.Member as member
use Rattle.ash_tree.specs.declared.tree.items.Member.TheVariants as members
use Rattle.ash_tree.specs.declared.tree.items.Class as class
use Rattle.ash_tree.specs.declared.tree.items.InterfaceMethod as interface_method
use Rattle.ash_tree.specs.declared.tree.items.Interface as interface
use Rattle.ash_tree.specs.declared.tree.items.Item as item
use Rattle.ash_tree.specs.declared.tree.items.Item.TheVariants as items
use Rattle.ash_tree.specs.declared.tree.items.Module as script
use Rattle.ash_tree.specs.declared.tree.items.Signature as signature
use Rattle.ash_tree.specs.declared.tree.items.Declaration as declaration
use Rattle.ash_tree.specs.declared.tree.items.Declaration.TheVariants as declarations
use Rattle.ash_tree.specs.Tree.{Element, PrimElement, HandleElement, Named, Prim, Object, Handle, Array, ArrayHandle}
use Rattle.ash_tree.specs.Tree.{TypeName, Expr, Number, Truth, Null, This, Name, Call, Brackets, Convert, NewArray}
use Rattle.ash_tree.specs.Tree.{Cast, Postfix, Unary, Binary, Conditional, Assign, Exprs, no_expr, expr, Suffix, Field}
use Rattle.ash_tree.specs.Tree.{Method, Index, Increment, Decrement, Suffixes, no_suffix, suffix, Links, no_link, link}
use Rattle.ash_tree.specs.Tree.{OperatorLink, Initializer, Default, Value, Arguments, Decl, Vars, Stmt, Empty, Declare}
use Rattle.ash_tree.specs.Tree.{Evaluate, Block, If, IfElse, While, DoWhile, For, Switch, Break, Continue, Return}
use Rattle.ash_tree.specs.Tree.{Stmts, no_stmt, stmt, Case, labelled, Cases, no_case, next_case, Parameter, Function}
use Rattle.ash_tree.specs.Tree.{Constructor, Member, AMethod, AField, AConstructor, Class, InterfaceMethod, Interface}
use Rattle.ash_tree.specs.Tree.{Item, AClass, AnInterface, AFunction, AGlobal, Signature, Declaration, ASignature}
use Rattle.ash_tree.specs.Tree.{AProperty}

abbrev pub element_at : Position → element_kind.ElementKind → Element
element_at place (element_kinds.Primitive k) = PrimElement place k
element_at place (element_kinds.Handle name) = HandleElement place (string_bytes name)

abbrev pub element_of : element.Element → Element
element_of e = element_at e.place e.kind

abbrev pub type_at : Position → type_kind.TypeKind → Named
type_at place (type_kinds.Primitive k) = Prim place k
type_at place (type_kinds.Object name) = Object place (string_bytes name)
type_at place (type_kinds.Handle name) = Handle place (string_bytes name)
type_at place (type_kinds.Array e) = Array place (element_of e)
type_at place (type_kinds.ArrayHandle e) = ArrayHandle place (element_of e)

abbrev pub type_of : type.Type → Named
type_of t = type_at t.place t.kind

abbrev pub type_name_of : type_name.TypeName → TypeName
type_name_of t = record { place = t.place; name = string_bytes t.name }

abbrev mutual
  pub expr_at : Position → expr_kind.ExprKind → Expr
  expr_at p (exprs_code.Number n) = Number p n
  expr_at p (exprs_code.Bool b) = Truth p b
  expr_at p exprs_code.Null = Null p
  expr_at p exprs_code.This = This p
  expr_at p (exprs_code.Name t) = Name p (string_bytes t)
  expr_at p (exprs_code.Call' t shape es) = Call p (string_bytes t) (exprs_of es)
  expr_at p (exprs_code.Brackets' q a k) = Brackets p (expr_at q k)
  expr_at p (exprs_code.Convert' t q a k) = Convert p t (expr_at q k)
  expr_at p (exprs_code.NewArray' t shape es) = NewArray p (element_of t.value) (exprs_of es)
  expr_at p (exprs_code.Cast' t q a k) = Cast p (type_name_of t) (expr_at q k)
  expr_at p (exprs_code.Postfix' q a k shape ss) = Postfix p (expr_at q k) (suffixes_of ss)
  expr_at p (exprs_code.Unary' o q a k) = Unary p o (expr_at q k)
  expr_at p (exprs_code.Binary' q a k shape ls) = Binary p (expr_at q k) (links_of ls)
  expr_at p (exprs_code.Conditional' q a k r b l s c m) = Conditional p (expr_at q k) (expr_at r l) (expr_at s m)
  expr_at p (exprs_code.Assign' q a k o r b l) = Assign p (expr_at q k) o (expr_at r l)

  pub exprs_of : {n : _} → expr_kind.Row_of-Expr n → Exprs
  exprs_of expr_kind.end_of-Expr = no_expr
  exprs_of (expr_kind.more_of-Expr p a k rest) = expr (expr_at p k) (exprs_of rest)

  pub suffix_of : suffix_code.Suffix → Suffix
  suffix_of (suffixes_code.Field p t) = Field p (string_bytes t)
  suffix_of (suffixes_code.Method' p t shape es) = Method p (string_bytes t) (exprs_of es)
  suffix_of (suffixes_code.Index' q a k) = Index (expr_at q k)
  suffix_of suffixes_code.Increment = Increment
  suffix_of suffixes_code.Decrement = Decrement

  pub suffixes_of : {n : _} → expr_kind.Row_of-Suffix n → Suffixes
  suffixes_of expr_kind.end_of-Suffix = no_suffix
  suffixes_of (expr_kind.more_of-Suffix s rest) = suffix (suffix_of s) (suffixes_of rest)

  pub links_of : {n : _} → expr_kind.Row_of-Link n → Links
  links_of expr_kind.end_of-Link = no_link
  links_of (expr_kind.more_of-Link o p a k rest) = link o (expr_at p k) (links_of rest)

abbrev pub expr_of : expr_code.Expr → Expr
expr_of e = expr_at e.place e.kind.value

-- `operation_of l` is the operator with its right operand that the code's link represents.
abbrev pub operation_of : link_code.Link → OperatorLink
operation_of l = record { operator = l.operator; operand = expr_of l.operand }

abbrev pub initializer_of : initializer.Initializer → Initializer
initializer_of initializers.Default = Default
initializer_of (initializers.Value e) = Value (expr_of e)
initializer_of (initializers.Arguments es) = Arguments (map expr_of es.items)

abbrev pub decl_of : decl.Decl → Decl
decl_of d = record { place = d.place; name = string_bytes d.name; initializer = initializer_of d.initializer }

abbrev pub vars_of : vars.Vars → Vars
vars_of v = record { of = type_of v.of; decls = map decl_of v.decls.items }

abbrev mutual
  pub stmt_at : Position → stmt_kind.StmtKind → Stmt
  stmt_at p stmts_code.Empty = Empty p
  stmt_at p (stmts_code.Vars v) = Declare p (vars_of v)
  stmt_at p (stmts_code.Expr e) = Evaluate p (expr_of e)
  stmt_at p (stmts_code.Block' shape ss) = Block p (stmts_of ss)
  stmt_at p (stmts_code.If' c q a k) = If p (expr_of c) (stmt_at q k)
  stmt_at p (stmts_code.IfElse' c q a k r b l) = IfElse p (expr_of c) (stmt_at q k) (stmt_at r l)
  stmt_at p (stmts_code.While' c q a k) = While p (expr_of c) (stmt_at q k)
  stmt_at p (stmts_code.DoWhile' q a k c) = DoWhile p (stmt_at q k) (expr_of c)
  stmt_at p (stmts_code.For' q a k c es r b l) =
      For p (stmt_at q k) (option_map expr_of c) (map expr_of es.items) (stmt_at r l)
  stmt_at p (stmts_code.Switch' e shape cs) = Switch p (expr_of e) (cases_of cs)
  stmt_at p stmts_code.Break = Break p
  stmt_at p stmts_code.Continue = Continue p
  stmt_at p (stmts_code.Return e) = Return p (option_map expr_of e)

  pub stmts_of : {n : _} → stmt_kind.Row_of-Stmt n → Stmts
  stmts_of stmt_kind.end_of-Stmt = no_stmt
  stmts_of (stmt_kind.more_of-Stmt p a k rest) = stmt (stmt_at p k) (stmts_of rest)

  pub cases_of : {n : _} → stmt_kind.Row_of-Case n → Cases
  cases_of stmt_kind.end_of-Case = no_case
  cases_of (stmt_kind.more_of-Case c rest) = next_case (case_of c) (cases_of rest)

  pub case_of : case_code.Case → Case
  case_of (case_code.Case' p l shape ss) = labelled p l (stmts_of ss)

abbrev pub stmt_of : stmt_code.Stmt → Stmt
stmt_of s = stmt_at s.place s.kind.value

abbrev pub parameter_of : parameter.Parameter → Parameter
parameter_of p = record { of = type_of p.of; place = p.place; name = string_bytes p.name }

abbrev pub function_of : function.Function → Function
function_of f = record {
  place = f.place;
  result = option_map type_of f.result;
  name = string_bytes f.name;
  parameters = map parameter_of f.parameters.items;
  body = map stmt_of f.body.items;
}

abbrev pub constructor_of : constructor.Constructor → Constructor
constructor_of f = record {
  place = f.place;
  name = string_bytes f.name;
  parameters = map parameter_of f.parameters.items;
  body = map stmt_of f.body.items;
}

abbrev pub member_of : member.Member → Member
member_of (members.Function f) = AMethod (function_of f)
member_of (members.Vars v) = AField (vars_of v)
member_of (members.Constructor f) = AConstructor (constructor_of f)

abbrev pub class_of : class.Class → Class
class_of c = record {
  place = c.place;
  name = string_bytes c.name;
  interfaces = map type_name_of c.interfaces.items;
  members = map member_of c.members.items;
}

abbrev pub interface_method_of : interface_method.InterfaceMethod → InterfaceMethod
interface_method_of m = record {
  place = m.place;
  result = option_map type_of m.result;
  name = string_bytes m.name;
  parameters = map parameter_of m.parameters.items;
}

abbrev pub interface_of : interface.Interface → Interface
interface_of i = record {
  place = i.place;
  name = string_bytes i.name;
  methods = map interface_method_of i.methods.items;
}

abbrev pub item_of : item.Item → Item
item_of (items.Class c) = AClass (class_of c)
item_of (items.Interface i) = AnInterface (interface_of i)
item_of (items.Function f) = AFunction (function_of f)
item_of (items.Vars v) = AGlobal (vars_of v)

abbrev pub module_of : script.Module → List Item
module_of m = map item_of m.items.items

abbrev pub signature_of : signature.Signature → Signature
signature_of s = record {
  place = s.place;
  result = option_map type_of s.result;
  name = string_bytes s.name;
  parameters = map type_of s.parameters.items;
}

abbrev pub declaration_of : declaration.Declaration → Declaration
declaration_of (declarations.Function s) = ASignature (signature_of s)
declaration_of (declarations.Property p) =
    AProperty (record { place = p.place; of = type_of p.of; name = string_bytes p.name })
