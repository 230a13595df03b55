-- What is derived with so many tokens free of the limit of the depth is derived with more of them free: statements,
-- and modules.
use Rattle.std.proofs.Common.{ℕ, ◌≤◌, List, Option, arith}
use Rattle.ash_tree.specs.Tree.{Expr, Decl, Vars, Stmt, Case, Function, Member, Class, Item}
use Rattle.ash_tree.specs.GrammarTokens.{Tokens}
use Rattle.ash_tree.specs.Statements.{IsDecl, bare, valued, made, AreMoreDecls, no_more_decls, more_decls, IsVars, vars, IsFirst, no_first, first_vars, first_expr, IsTest, no_test, test, IsResult, no_result, value, IsNested, nested, AreLocals, no_locals, local_vars, local_stmt, IsBlock, block, IsStmt, inner_block, empty, evaluate, if_only, if_else, while, do_while, for, switch, break, continue, return, AreCases, no_cases, more_cases, AreStmts, no_stmts, more_stmts}
use Rattle.ash_tree.specs.Grammar.{IsFunction, function, IsMember, method, fields, constructor, AreMembers, no_members, more_members, IsClass, class, IsItem, a_class, an_interface, a_function, globals, Derives, no_items, semicolon, item}
use Rattle.ash_parse.proofs.ExpressionFreer.{inner_freer, exprs_freer, args_freer, assign_freer}

decl_freer : {free depth : ℕ} {from left : Tokens} {x : Decl} → IsDecl free depth from x left → (more : ℕ) → free ≤ more → IsDecl more depth from x left
decl_freer bare more h = bare
decl_freer (valued a) more h = valued (assign_freer a more h)
decl_freer (made a) more h = made (args_freer a more h)

more_decls_freer : {free depth : ℕ} {from left : Tokens} {x : List Decl} → AreMoreDecls free depth from x left → (more : ℕ) → free ≤ more → AreMoreDecls more depth from x left
more_decls_freer no_more_decls more h = no_more_decls
more_decls_freer (more_decls a b) more h = more_decls (decl_freer a more h) (more_decls_freer b more h)

pub vars_freer : {free depth : ℕ} {from left : Tokens} {x : Vars} → IsVars free depth from x left → (more : ℕ) → free ≤ more → IsVars more depth from x left
vars_freer (vars t a b) more h = vars t (decl_freer a more h) (more_decls_freer b more h)

first_freer : {free depth : ℕ} {from left : Tokens} {x : Stmt} → IsFirst free depth from x left → (more : ℕ) → free ≤ more → IsFirst more depth from x left
first_freer no_first more h = no_first
first_freer (first_vars a) more h = first_vars (vars_freer a more h)
first_freer (first_expr a) more h = first_expr (inner_freer a more h)

test_freer : {free depth : ℕ} {from left : Tokens} {x : Option Expr} → IsTest free depth from x left → (more : ℕ) → free ≤ more → IsTest more depth from x left
test_freer no_test more h = no_test
test_freer (test a) more h = test (inner_freer a more h)

result_freer : {free depth : ℕ} {from left : Tokens} {x : Option Expr} → IsResult free depth from x left → (more : ℕ) → free ≤ more → IsResult more depth from x left
result_freer no_result more h = no_result
result_freer (value a) more h = value (assign_freer a more h)

mutual
  pub nested_freer : {free depth : ℕ} {from left : Tokens} {x : Stmt} → IsNested free depth from x left → (more : ℕ) → free ≤ more → IsNested more depth from x left
  nested_freer (nested w a) more h = nested (λ l. w (omega arith)) (stmt_freer a more h)

  pub locals_freer : {free depth : ℕ} {from left : Tokens} {x : List Stmt} → AreLocals free depth from x left → (more : ℕ) → free ≤ more → AreLocals more depth from x left
  locals_freer no_locals more h = no_locals
  locals_freer (local_vars a b) more h = local_vars (vars_freer a more h) (locals_freer b more h)
  locals_freer (local_stmt a b) more h = local_stmt (nested_freer a more h) (locals_freer b more h)

  pub block_freer : {free depth : ℕ} {from left : Tokens} {x : List Stmt} → IsBlock free depth from x left → (more : ℕ) → free ≤ more → IsBlock more depth from x left
  block_freer (block a) more h = block (locals_freer a more h)

  pub stmt_freer : {free depth : ℕ} {from left : Tokens} {x : Stmt} → IsStmt free depth from x left → (more : ℕ) → free ≤ more → IsStmt more depth from x left
  stmt_freer (inner_block a) more h = inner_block (block_freer a more h)
  stmt_freer empty more h = empty
  stmt_freer (evaluate a) more h = evaluate (assign_freer a more h)
  stmt_freer (if_only a b) more h = if_only (inner_freer a more h) (nested_freer b more h)
  stmt_freer (if_else a b o c) more h = if_else (inner_freer a more h) (nested_freer b more h) o (nested_freer c more h)
  stmt_freer (while a b) more h = while (inner_freer a more h) (nested_freer b more h)
  stmt_freer (do_while a b) more h = do_while (nested_freer a more h) (inner_freer b more h)
  stmt_freer (for f t u b) more h = for (first_freer f more h) (test_freer t more h) (exprs_freer u more h) (nested_freer b more h)
  stmt_freer (switch a b) more h = switch (inner_freer a more h) (cases_freer b more h)
  stmt_freer break more h = break
  stmt_freer continue more h = continue
  stmt_freer (return a) more h = return (result_freer a more h)

  cases_freer : {free depth : ℕ} {from left : Tokens} {x : List Case} → AreCases free depth from x left → (more : ℕ) → free ≤ more → AreCases more depth from x left
  cases_freer no_cases more h = no_cases
  cases_freer (more_cases i a b) more h = more_cases i (stmts_freer a more h) (cases_freer b more h)

  stmts_freer : {free depth : ℕ} {from left : Tokens} {x : List Stmt} → AreStmts free depth from x left → (more : ℕ) → free ≤ more → AreStmts more depth from x left
  stmts_freer no_stmts more h = no_stmts
  stmts_freer (more_stmts a b) more h = more_stmts (nested_freer a more h) (stmts_freer b more h)

function_freer : {free : ℕ} {from left : Tokens} {x : Function} → IsFunction free from x left → (more : ℕ) → free ≤ more → IsFunction more from x left
function_freer (function r p b) more h = function r p (block_freer b more h)

member_freer : {free : ℕ} {from left : Tokens} {x : Member} → IsMember free from x left → (more : ℕ) → free ≤ more → IsMember more from x left
member_freer (method a) more h = method (function_freer a more h)
member_freer (fields a) more h = fields (vars_freer a more h)
member_freer (constructor p b) more h = constructor p (block_freer b more h)

members_freer : {free : ℕ} {from left : Tokens} {x : List Member} → AreMembers free from x left → (more : ℕ) → free ≤ more → AreMembers more from x left
members_freer no_members more h = no_members
members_freer (more_members a b) more h = more_members (member_freer a more h) (members_freer b more h)

class_freer : {free : ℕ} {from left : Tokens} {x : Class} → IsClass free from x left → (more : ℕ) → free ≤ more → IsClass more from x left
class_freer (class i a) more h = class i (members_freer a more h)

item_freer : {free : ℕ} {from left : Tokens} {x : Item} → IsItem free from x left → (more : ℕ) → free ≤ more → IsItem more from x left
item_freer (a_class a) more h = a_class (class_freer a more h)
item_freer (an_interface a) more h = an_interface a
item_freer (a_function a) more h = a_function (function_freer a more h)
item_freer (globals a) more h = globals (vars_freer a more h)

pub derives_freer : {free : ℕ} {ts : Tokens} {xs : List Item} → Derives free ts xs → (more : ℕ) → free ≤ more → Derives more ts xs
derives_freer no_items more h = no_items
derives_freer (semicolon d) more h = semicolon (derives_freer d more h)
derives_freer (item i d) more h = item (item_freer i more h) (derives_freer d more h)
