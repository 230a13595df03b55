-- Each place of a derived statement or item is that of a token of what derives it.
use Rattle.std.proofs.Common.{ℕ, List, Option}
use Rattle.std.specs.List.{AllByRecursion}
use Rattle.ash_lex.specs.Tokens.{sign, reserved}
use Rattle.ash_lex.specs.declared.signs.Sign.TheVariants as signs
use Rattle.ash_lex.specs.declared.words.ReservedWord.TheVariants as words
use Rattle.ash_tree.specs.declared.tree.places.Position.{Position}
use Rattle.ash_tree.specs.declared.tree.statements.Label.{Label}
use Rattle.ash_tree.specs.Tree as written
use Rattle.ash_tree.specs.GrammarTokens.{Tokens}
use Rattle.ash_tree.specs.Statements.{IsDecl, bare, valued, made, AreMoreDecls, no_more_decls, more_decls, IsVars, vars}
use Rattle.ash_tree.specs.Statements.{IsFirst, no_first, first_vars, first_expr, IsTest, no_test, test, IsResult}
use Rattle.ash_tree.specs.Statements.{no_result, value, IsLabel, case, case_minus, default, IsNested, nested, AreLocals}
use Rattle.ash_tree.specs.Statements.{no_locals, local_vars, local_stmt, IsBlock, block, IsStmt, inner_block, empty}
use Rattle.ash_tree.specs.Statements.{evaluate, if_only, if_else, while, do_while, for, switch, break, continue, return}
use Rattle.ash_tree.specs.Statements.{AreCases, no_cases, more_cases, AreStmts, no_stmts, more_stmts}
use Rattle.ash_tree.specs.Grammar as grammar
use Rattle.ash_type_rules.proofs.FaultTokens.{AreIn, TypeNameIn, MaybeIn, DeclIn, VarsIn, IsHeadForm, LabelIn, StmtIn}
use Rattle.ash_type_rules.proofs.FaultTokens.{StmtsIn, CasesIn, ParameterIn, ResultIn, FunctionIn, MemberIn, ClassIn}
use Rattle.ash_type_rules.proofs.FaultTokens.{InterfaceMethodIn, InterfaceIn, ItemIn, place_any, type_any}
use Rattle.ash_type_rules.proofs.DerivedPlaces.{type_in, inner_in, exprs_in, args_in, assign_in}

-- variables

decl_in : (script : Tokens) {free depth : ℕ} {from left : Tokens} {d : written.Decl} → IsDecl free depth from d left
    → AreIn script from → DeclIn script d × AreIn script left
decl_in script bare h = ((h.0, tt), h.1)
decl_in script (valued a) h = let x = assign_in script a h.1.1 in ((h.0, x.0), x.1)
decl_in script (made a) h = let x = args_in script a h.1 in ((h.0, x.0), x.1)

more_decls_in : (script : Tokens) {free depth : ℕ} {from left : Tokens} {ds : List written.Decl}
    → AreMoreDecls free depth from ds left → AreIn script from → AllByRecursion (DeclIn script) ds × AreIn script left
more_decls_in script no_more_decls h = (tt, h)
more_decls_in script (more_decls a b) h = let x = decl_in script a h.1 in let y = more_decls_in script b x.1 in
    ((x.0, y.0), y.1)

pub vars_in : (script : Tokens) {free depth : ℕ} {from left : Tokens} {v : written.Vars} → IsVars free depth from v left
    → AreIn script from → VarsIn script v × AreIn script left
vars_in script (vars t a b) h = let x = type_in script t h in let y = decl_in script a x.1 in let z =
    more_decls_in script b y.1 in ((x.0, (y.0, z.0)), z.1)

-- statements

declared_in : (script : Tokens) (v : written.Vars) → VarsIn script v
    → StmtIn script (written.Declare (written.place_of_type v.of) v)
declared_in script v h = (type_any script v.of h.0, h)

first_in : (script : Tokens) {free depth : ℕ} {from left : Tokens} {s : written.Stmt} → IsFirst free depth from s left
    → AreIn script from → (IsHeadForm s × StmtIn script s) × AreIn script left
first_in script no_first h = ((tt, (sign signs.Semicolon, h.0)), h.1)
first_in script (first_vars {v = v} a) h = let x = vars_in script a h in ((tt, declared_in script v x.0), x.1.1)
first_in script (first_expr {e = e} a) h = let x = inner_in script a h in ((tt, (place_any script e x.0, x.0)), x.1.1)

test_in : (script : Tokens) {free depth : ℕ} {from left : Tokens} {c : Option written.Expr}
    → IsTest free depth from c left → AreIn script from → MaybeIn script c × AreIn script left
test_in script no_test h = (tt, h.1)
test_in script (test a) h = let x = inner_in script a h in (x.0, x.1.1)

result_in : (script : Tokens) {free depth : ℕ} {from left : Tokens} {c : Option written.Expr}
    → IsResult free depth from c left → AreIn script from → MaybeIn script c × AreIn script left
result_in script no_result h = (tt, h.1)
result_in script (value a) h = let x = assign_in script a h in (x.0, x.1.1)

label_in : (script : Tokens) {from left : Tokens} {p : Position} {l : Label} → IsLabel from p l left → AreIn script from
    → LabelIn script p l × AreIn script left
label_in script case h = (h.1.0, h.1.1.1)
label_in script case_minus h = (h.1.0, h.1.1.1.1)
label_in script default h = (h.0, h.1.1)

mutual
  nested_in : (script : Tokens) {free depth : ℕ} {from left : Tokens} {s : written.Stmt}
      → IsNested free depth from s left → AreIn script from → StmtIn script s × AreIn script left
  nested_in script (nested w s) h = stmt_in script s h

  locals_in : (script : Tokens) {free depth : ℕ} {from left : Tokens} {ss : List written.Stmt}
      → AreLocals free depth from ss left → AreIn script from → StmtsIn script (written.stmts ss) × AreIn script left
  locals_in script no_locals h = (tt, h)
  locals_in script (local_vars {v = v} a b) h = let x = vars_in script a h in let y = locals_in script b x.1.1 in
      ((declared_in script v x.0, y.0), y.1)
  locals_in script (local_stmt a b) h = let x = nested_in script a h in let y = locals_in script b x.1 in
      ((x.0, y.0), y.1)

  pub block_in : (script : Tokens) {free depth : ℕ} {from left : Tokens} {ss : List written.Stmt}
      → IsBlock free depth from ss left → AreIn script from → StmtsIn script (written.stmts ss) × AreIn script left
  block_in script (block a) h = let x = locals_in script a h.1 in (x.0, x.1.1)

  stmt_in : (script : Tokens) {free depth : ℕ} {from left : Tokens} {s : written.Stmt} → IsStmt free depth from s left
      → AreIn script from → StmtIn script s × AreIn script left
  stmt_in script (inner_block a) h = let x = block_in script a h in (((sign signs.OpenBrace, h.0), x.0), x.1)
  stmt_in script empty h = ((sign signs.Semicolon, h.0), h.1)
  stmt_in script (evaluate {e = e} a) h = let x = assign_in script a h in ((place_any script e x.0, x.0), x.1.1)
  stmt_in script (if_only c s) h = let x = inner_in script c h.1.1 in let y = nested_in script s x.1.1 in
      (((reserved words.If, h.0), x.0, y.0), y.1)
  stmt_in script (if_else c s o t) h = let x = inner_in script c h.1.1 in let y = nested_in script s x.1.1 in let z =
      nested_in script t y.1.1 in (((reserved words.If, h.0), x.0, y.0, z.0), z.1)
  stmt_in script (while c s) h = let x = inner_in script c h.1.1 in let y = nested_in script s x.1.1 in
      (((reserved words.While, h.0), x.0, y.0), y.1)
  stmt_in script (do_while s c) h = let x = nested_in script s h.1 in let y = inner_in script c x.1.1.1 in
      (((reserved words.Do, h.0), x.0, y.0), y.1.1.1)
  stmt_in script (for f c es s) h = let w = first_in script f h.1.1 in let x = test_in script c w.1 in let y =
      exprs_in script es x.1 in let z = nested_in script s y.1.1 in
      (((reserved words.For, h.0), w.0.0, w.0.1, x.0, y.0, z.0), z.1)
  stmt_in script (switch e c) h = let x = inner_in script e h.1.1 in let y = cases_in script c x.1.1.1 in
      (((reserved words.Switch, h.0), x.0, y.0), y.1.1)
  stmt_in script break h = (h.0, h.1.1)
  stmt_in script continue h = (h.0, h.1.1)
  stmt_in script (return e) h = let x = result_in script e h.1 in ((h.0, x.0), x.1)

  cases_in : (script : Tokens) {free depth : ℕ} {from left : Tokens} {cs : List written.Case}
      → AreCases free depth from cs left → AreIn script from → CasesIn script (written.cases cs) × AreIn script left
  cases_in script no_cases h = (tt, h)
  cases_in script (more_cases l a b) h = let x = label_in script l h in let y = stmts_in script a x.1 in let z =
      cases_in script b y.1 in (((x.0, y.0), z.0), z.1)

  stmts_in : (script : Tokens) {free depth : ℕ} {from left : Tokens} {ss : List written.Stmt}
      → AreStmts free depth from ss left → AreIn script from → StmtsIn script (written.stmts ss) × AreIn script left
  stmts_in script no_stmts h = (tt, h)
  stmts_in script (more_stmts a b) h = let x = nested_in script a h in let y = stmts_in script b x.1 in
      ((x.0, y.0), y.1)

-- items

gives_in : (script : Tokens) {from left : Tokens} {of : Option written.Named} → grammar.IsResultType from of left
    → AreIn script from → ResultIn script of × AreIn script left
gives_in script grammar.void h = (tt, h.1)
gives_in script (grammar.typed t) h = type_in script t h

parameter_in : (script : Tokens) {from left : Tokens} {x : written.Parameter} → grammar.IsParameter from x left
    → AreIn script from → ParameterIn script x × AreIn script left
parameter_in script (grammar.parameter t) h = let x = type_in script t h in ((x.0, x.1.0), x.1.1)

more_parameters_in : (script : Tokens) {from left : Tokens} {xs : List written.Parameter}
    → grammar.AreMoreParameters from xs left → AreIn script from
    → AllByRecursion (ParameterIn script) xs × AreIn script left
more_parameters_in script grammar.no_more_parameters h = (tt, h)
more_parameters_in script (grammar.more_parameters a b) h = let x = parameter_in script a h.1 in let y =
    more_parameters_in script b x.1 in ((x.0, y.0), y.1)

parameters_in : (script : Tokens) {from left : Tokens} {xs : List written.Parameter}
    → grammar.AreParameters from xs left → AreIn script from
    → AllByRecursion (ParameterIn script) xs × AreIn script left
parameters_in script grammar.no_parameters h = (tt, h.1.1)
parameters_in script (grammar.parameters a b) h = let x = parameter_in script a h.1 in let y =
    more_parameters_in script b x.1 in ((x.0, y.0), y.1.1)

function_in : (script : Tokens) {free : ℕ} {from left : Tokens} {f : written.Function}
    → grammar.IsFunction free from f left → AreIn script from → FunctionIn script f × AreIn script left
function_in script (grammar.function r a b) h = let x = gives_in script r h in let y = parameters_in script a x.1.1 in
    let z = block_in script b y.1 in ((x.0, (x.1.0, y.0, z.0)), z.1)

member_in : (script : Tokens) {free : ℕ} {from left : Tokens} {m : written.Member} → grammar.IsMember free from m left
    → AreIn script from → MemberIn script m × AreIn script left
member_in script (grammar.method f) h = function_in script f h
member_in script (grammar.fields v) h = let x = vars_in script v h in (x.0, x.1.1)
member_in script (grammar.constructor a b) h = let x = parameters_in script a h.1 in let y = block_in script b x.1 in
    ((h.0, x.0, y.0), y.1)

members_in : (script : Tokens) {free : ℕ} {from left : Tokens} {ms : List written.Member}
    → grammar.AreMembers free from ms left → AreIn script from → AllByRecursion (MemberIn script) ms × AreIn script left
members_in script grammar.no_members h = (tt, h)
members_in script (grammar.more_members a b) h = let x = member_in script a h in let y = members_in script b x.1 in
    ((x.0, y.0), y.1)

more_interfaces_in : (script : Tokens) {from left : Tokens} {is : List written.TypeName}
    → grammar.AreMoreInterfaces from is left → AreIn script from
    → AllByRecursion (TypeNameIn script) is × AreIn script left
more_interfaces_in script grammar.no_more_interfaces h = (tt, h)
more_interfaces_in script (grammar.more_interfaces a) h = let x = more_interfaces_in script a h.1.1 in
    ((h.1.0, x.0), x.1)

interfaces_in : (script : Tokens) {from left : Tokens} {is : List written.TypeName} → grammar.AreInterfaces from is left
    → AreIn script from → AllByRecursion (TypeNameIn script) is × AreIn script left
interfaces_in script grammar.no_interfaces h = (tt, h)
interfaces_in script (grammar.interfaces a) h = let x = more_interfaces_in script a h.1.1 in ((h.1.0, x.0), x.1)

class_in : (script : Tokens) {free : ℕ} {from left : Tokens} {c : written.Class} → grammar.IsClass free from c left
    → AreIn script from → ClassIn script c × AreIn script left
class_in script (grammar.class a b) h = let x = interfaces_in script a h.1.1 in let y = members_in script b x.1.1 in
    ((h.1.0, x.0, y.0), y.1.1)

interface_method_in : (script : Tokens) {from left : Tokens} {m : written.InterfaceMethod}
    → grammar.IsInterfaceMethod from m left → AreIn script from → InterfaceMethodIn script m × AreIn script left
interface_method_in script (grammar.interface_method r a) h = let x = gives_in script r h in let y =
    parameters_in script a x.1.1 in ((x.0, x.1.0, y.0), y.1.1)

interface_methods_in : (script : Tokens) {from left : Tokens} {ms : List written.InterfaceMethod}
    → grammar.AreInterfaceMethods from ms left → AreIn script from
    → AllByRecursion (InterfaceMethodIn script) ms × AreIn script left
interface_methods_in script grammar.no_interface_methods h = (tt, h)
interface_methods_in script (grammar.more_interface_methods a b) h = let x = interface_method_in script a h in let y =
    interface_methods_in script b x.1 in ((x.0, y.0), y.1)

interface_in : (script : Tokens) {from left : Tokens} {i : written.Interface} → grammar.IsInterface from i left
    → AreIn script from → InterfaceIn script i × AreIn script left
interface_in script (grammar.interface a) h = let x = interface_methods_in script a h.1.1.1 in ((h.1.0, x.0), x.1.1)

item_in : (script : Tokens) {free : ℕ} {from left : Tokens} {i : written.Item} → grammar.IsItem free from i left
    → AreIn script from → ItemIn script i × AreIn script left
item_in script (grammar.a_class c) h = class_in script c h
item_in script (grammar.an_interface i) h = interface_in script i h
item_in script (grammar.a_function f) h = function_in script f h
item_in script (grammar.globals v) h = let x = vars_in script v h in (x.0, x.1.1)

-- the items of a module
pub items_in : (script : Tokens) {free : ℕ} {from : Tokens} {is : List written.Item} → grammar.Derives free from is
    → AreIn script from → AllByRecursion (ItemIn script) is
items_in script grammar.no_items h = tt
items_in script (grammar.semicolon a) h = items_in script a h.1
items_in script (grammar.item a b) h = let x = item_in script a h in (x.0, items_in script b x.1)
