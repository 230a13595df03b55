-- Each declaration and each statement takes a token at least.
use Rattle.std.proofs.Common.{ℕ, ◌<◌, ◌≤◌, ◌∷◌, List, Option, length, arith}
use Rattle.ash_tree.specs.Tree.{Expr, Decl, Vars, Stmt, Case}
use Rattle.ash_tree.specs.declared.tree.places.Position.{Position}
use Rattle.ash_tree.specs.declared.tree.statements.Label.{Label}
use Rattle.ash_tree.specs.GrammarTokens.{Tokens}
use Rattle.ash_tree.specs.Statements.{IsDecl, bare, valued, made, AreMoreDecls, no_more_decls, more_decls, IsVars, vars, IsFirst, no_first, first_vars, first_expr, IsTest, no_test, test, IsResult, no_result, value, IsLabel, case, case_minus, default, IsNested, nested, AreLocals, no_locals, local_vars, local_stmt, IsBlock, block, IsStmt, inner_block, empty, evaluate, if_only, if_else, while, do_while, for, switch, break, continue, return, AreCases, no_cases, more_cases, AreStmts, no_stmts, more_stmts}
use Rattle.ash_parse.proofs.ExpressionShorter.{inner_shorter, exprs_shorter, args_shorter, assign_shorter}
use Rattle.ash_parse.proofs.Types.{type_shorter}

pub decl_shorter : {free depth : ℕ} {from left : Tokens} {d : Decl} → IsDecl free depth from d left → length left < length from
decl_shorter bare = omega arith
decl_shorter (valued a) = let x = assign_shorter a in omega arith
decl_shorter (made a) = let x = args_shorter a in omega arith

pub more_decls_shorter : {free depth : ℕ} {from left : Tokens} {ds : List Decl} → AreMoreDecls free depth from ds left → length left ≤ length from
more_decls_shorter no_more_decls = omega arith
more_decls_shorter (more_decls a b) = let x = decl_shorter a in let y = more_decls_shorter b in omega arith

pub more_decls_strict : {free depth : ℕ} {from left : Tokens} {d : Decl} {ds : List Decl} → AreMoreDecls free depth from (d ∷ ds) left → length left < length from
more_decls_strict (more_decls a b) = let x = decl_shorter a in let y = more_decls_shorter b in omega arith

pub vars_shorter : {free depth : ℕ} {from left : Tokens} {v : Vars} → IsVars free depth from v left → length left < length from
vars_shorter (vars t a b) = let z = type_shorter t in let x = decl_shorter a in let y = more_decls_shorter b in omega arith

first_shorter : {free depth : ℕ} {from left : Tokens} {s : Stmt} → IsFirst free depth from s left → length left < length from
first_shorter no_first = omega arith
first_shorter (first_vars v) = let x = vars_shorter v in omega arith
first_shorter (first_expr e) = let x = inner_shorter e in omega arith

test_shorter : {free depth : ℕ} {from left : Tokens} {c : Option Expr} → IsTest free depth from c left → length left < length from
test_shorter no_test = omega arith
test_shorter (test e) = let x = inner_shorter e in omega arith

result_shorter : {free depth : ℕ} {from left : Tokens} {c : Option Expr} → IsResult free depth from c left → length left < length from
result_shorter no_result = omega arith
result_shorter (value e) = let x = assign_shorter e in omega arith

label_shorter : {from left : Tokens} {p : Position} {l : Label} → IsLabel from p l left → length left < length from
label_shorter case = omega arith
label_shorter case_minus = omega arith
label_shorter default = omega arith

mutual
  pub nested_shorter : {free depth : ℕ} {from left : Tokens} {s : Stmt} → IsNested free depth from s left → length left < length from
  nested_shorter (nested w s) = stmt_shorter s

  pub locals_shorter : {free depth : ℕ} {from left : Tokens} {ss : List Stmt} → AreLocals free depth from ss left → length left ≤ length from
  locals_shorter no_locals = omega arith
  locals_shorter (local_vars v a) = let x = vars_shorter v in let y = locals_shorter a in omega arith
  locals_shorter (local_stmt s a) = let x = nested_shorter s in let y = locals_shorter a in omega arith

  pub block_shorter : {free depth : ℕ} {from left : Tokens} {ss : List Stmt} → IsBlock free depth from ss left → length left < length from
  block_shorter (block a) = let x = locals_shorter a in omega arith

  pub stmt_shorter : {free depth : ℕ} {from left : Tokens} {s : Stmt} → IsStmt free depth from s left → length left < length from
  stmt_shorter (inner_block a) = block_shorter a
  stmt_shorter empty = omega arith
  stmt_shorter (evaluate a) = let x = assign_shorter a in omega arith
  stmt_shorter (if_only c s) = let x = inner_shorter c in let y = nested_shorter s in omega arith
  stmt_shorter (if_else c s o t) = let x = inner_shorter c in let y = nested_shorter s in let z = nested_shorter t in omega arith
  stmt_shorter (while c s) = let x = inner_shorter c in let y = nested_shorter s in omega arith
  stmt_shorter (do_while s c) = let x = inner_shorter c in let y = nested_shorter s in omega arith
  stmt_shorter (for f c e s) = let v = first_shorter f in let w = test_shorter c in let x = exprs_shorter e in let y = nested_shorter s in omega arith
  stmt_shorter (switch e c) = let x = inner_shorter e in let y = cases_shorter c in omega arith
  stmt_shorter break = omega arith
  stmt_shorter continue = omega arith
  stmt_shorter (return e) = let x = result_shorter e in omega arith

  pub cases_shorter : {free depth : ℕ} {from left : Tokens} {cs : List Case} → AreCases free depth from cs left → length left ≤ length from
  cases_shorter no_cases = omega arith
  cases_shorter (more_cases l s c) = let x = label_shorter l in let y = stmts_shorter s in let z = cases_shorter c in omega arith

  pub stmts_shorter : {free depth : ℕ} {from left : Tokens} {ss : List Stmt} → AreStmts free depth from ss left → length left ≤ length from
  stmts_shorter no_stmts = omega arith
  stmts_shorter (more_stmts s a) = let x = nested_shorter s in let y = stmts_shorter a in omega arith

pub locals_strict : {free depth : ℕ} {from left : Tokens} {s : Stmt} {ss : List Stmt} → AreLocals free depth from (s ∷ ss) left → length left < length from
locals_strict (local_vars v a) = let x = vars_shorter v in let y = locals_shorter a in omega arith
locals_strict (local_stmt s a) = let x = nested_shorter s in let y = locals_shorter a in omega arith

pub cases_strict : {free depth : ℕ} {from left : Tokens} {c : Case} {cs : List Case} → AreCases free depth from (c ∷ cs) left → length left < length from
cases_strict (more_cases l s c) = let x = label_shorter l in let y = stmts_shorter s in let z = cases_shorter c in omega arith
