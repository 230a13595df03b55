-- The grammar lets variables be declared in blocks and in heads of loops alone.
use Rattle.std.specs.List.{AllByRecursion}
use Rattle.std.proofs.Common.{ℕ, List}
use Rattle.ash_tree.specs.Tree.{Stmt, stmts, Case, cases, Function, Member, Class, Item}
use Rattle.ash_tree.specs.GrammarTokens.{Tokens}
use Rattle.ash_tree.specs.Statements.{IsNested, nested, AreLocals, no_locals, local_vars, local_stmt, IsBlock, block}
use Rattle.ash_tree.specs.Statements.{IsStmt, inner_block, empty, evaluate, if_only, if_else, while, do_while, for}
use Rattle.ash_tree.specs.Statements.{switch, break, continue, return, AreCases, no_cases, more_cases, AreStmts}
use Rattle.ash_tree.specs.Statements.{no_stmts, more_stmts}
use Rattle.ash_tree.specs.Grammar.{IsFunction, function, method, fields, constructor, AreMembers, no_members}
use Rattle.ash_tree.specs.Grammar.{more_members, IsClass, class, a_class, an_interface, a_function, globals, Derives}
use Rattle.ash_tree.specs.Grammar.{no_items, semicolon, item}
use Rattle.ash_tree.specs.Items.{methods_of, constructors_of}
use Rattle.ash_type_rules.specs.Nesting.{IsNoDeclaration, DeclaresInBlocks, AllDeclareInBlocks, CasesDeclareInBlocks}
use Rattle.ash_type_rules.specs.Nesting.{LabelledDeclareInBlocks, FunctionDeclaresInBlocks, ConstructorDeclaresInBlocks}
use Rattle.ash_type_rules.specs.Nesting.{ClassDeclaresInBlocks, ItemsDeclareInBlocks}

abbrev IsProper : Stmt → Type 0
IsProper s = IsNoDeclaration s × DeclaresInBlocks s

mutual
  nested_proper : {free depth : ℕ} {from left : Tokens} {s : Stmt} → IsNested free depth from s left → IsProper s
  nested_proper (nested w h) = stmt_proper h

  locals_proper : {free depth : ℕ} {from left : Tokens} {ss : List Stmt} → AreLocals free depth from ss left
      → AllDeclareInBlocks (stmts ss)
  locals_proper no_locals = tt
  locals_proper (local_vars v rest) = (tt, locals_proper rest)
  locals_proper (local_stmt s rest) = ((nested_proper s).1, locals_proper rest)

  block_proper : {free depth : ℕ} {from left : Tokens} {ss : List Stmt} → IsBlock free depth from ss left
      → AllDeclareInBlocks (stmts ss)
  block_proper (block h) = locals_proper h

  stmt_proper : {free depth : ℕ} {from left : Tokens} {s : Stmt} → IsStmt free depth from s left → IsProper s
  stmt_proper (inner_block h) = (tt, block_proper h)
  stmt_proper empty = (tt, tt)
  stmt_proper (evaluate e) = (tt, tt)
  stmt_proper (if_only c s) = (tt, nested_proper s)
  stmt_proper (if_else c s whole t) =
      (tt, ((nested_proper s).0, (nested_proper s).1, (nested_proper t).0, (nested_proper t).1))
  stmt_proper (while c s) = (tt, nested_proper s)
  stmt_proper (do_while s c) = (tt, nested_proper s)
  stmt_proper (for f c es s) = (tt, nested_proper s)
  stmt_proper (switch e cs) = (tt, cases_proper cs)
  stmt_proper break = (tt, tt)
  stmt_proper continue = (tt, tt)
  stmt_proper (return e) = (tt, tt)

  cases_proper : {free depth : ℕ} {from left : Tokens} {cs : List Case} → AreCases free depth from cs left
      → CasesDeclareInBlocks (cases cs)
  cases_proper no_cases = tt
  cases_proper (more_cases l ss cs) = (stmts_proper ss, cases_proper cs)

  stmts_proper : {free depth : ℕ} {from left : Tokens} {ss : List Stmt} → AreStmts free depth from ss left
      → LabelledDeclareInBlocks (stmts ss)
  stmts_proper no_stmts = tt
  stmts_proper (more_stmts s ss) = ((nested_proper s).0, (nested_proper s).1, stmts_proper ss)

-- items

function_proper : {free : ℕ} {from left : Tokens} {f : Function} → IsFunction free from f left
    → FunctionDeclaresInBlocks f
function_proper (function r ps body) = block_proper body

members_proper : {free : ℕ} {from left : Tokens} {ms : List Member} → AreMembers free from ms left
    → AllByRecursion FunctionDeclaresInBlocks (methods_of ms)
    × AllByRecursion ConstructorDeclaresInBlocks (constructors_of ms)
members_proper no_members = (tt, tt)
members_proper (more_members (method f) rest) = let go = members_proper rest in ((function_proper f, go.0), go.1)
members_proper (more_members (fields v) rest) = members_proper rest
members_proper (more_members (constructor ps body) rest) = let go = members_proper rest in
    (go.0, (block_proper body, go.1))

class_proper : {free : ℕ} {from left : Tokens} {c : Class} → IsClass free from c left → ClassDeclaresInBlocks c
class_proper (class is ms) = let go = members_proper ms in record { methods = go.0; constructors = go.1 }

pub derived_proper : {free : ℕ} {tokens : Tokens} {is : List Item} → Derives free tokens is → ItemsDeclareInBlocks is
derived_proper no_items = record { classes = tt; functions = tt }
derived_proper (semicolon rest) = derived_proper rest
derived_proper (item (a_class c) rest) = let go = derived_proper rest in
    record { classes = (class_proper c, go.classes); functions = go.functions }
derived_proper (item (an_interface i) rest) = let go = derived_proper rest in
    record { classes = go.classes; functions = go.functions }
derived_proper (item (a_function f) rest) = let go = derived_proper rest in
    record { classes = go.classes; functions = (function_proper f, go.functions) }
derived_proper (item (globals v) rest) = let go = derived_proper rest in
    record { classes = go.classes; functions = go.functions }
