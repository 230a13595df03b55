-- Each phrase of an expression takes a token at least.
use Rattle.std.proofs.Common.{ℕ, ◌<◌, ◌≤◌, ◌∷◌, List, length, arith}
use Rattle.ash_tree.specs.Tree.{Expr, Suffix, OperatorLink}
use Rattle.ash_tree.specs.GrammarTokens.{Tokens}
use Rattle.ash_tree.specs.Expressions.{IsInner, inner, AreExprs, no_exprs, some_exprs, AreMoreExprs, no_more_exprs, more_exprs, IsArgs, args, IsAssign, no_assign, assign, IsCond, no_branch, branches, IsBinary, operand, joined, AreLinks, no_links, more_links, IsUnary, applied, postfix, AreSuffixes, no_suffixes, more_suffixes, IsSuffix, field, method, index, increment, decrement, IsPrimary, numeral, yes, no, null, this, named, call, brackets, convert, new_array, cast}
use Rattle.ash_parse.proofs.Types.{element_shorter}

mutual
  pub inner_shorter : {free depth : ℕ} {from left : Tokens} {e : Expr} → IsInner free depth from e left → length left < length from
  inner_shorter (inner w a) = assign_shorter a

  pub exprs_shorter : {free depth : ℕ} {from left : Tokens} {es : List Expr} → AreExprs free depth from es left → length left ≤ length from
  exprs_shorter no_exprs = omega arith
  exprs_shorter (some_exprs a b) = let x = inner_shorter a in let y = more_exprs_shorter b in omega arith

  pub more_exprs_shorter : {free depth : ℕ} {from left : Tokens} {es : List Expr} → AreMoreExprs free depth from es left → length left ≤ length from
  more_exprs_shorter no_more_exprs = omega arith
  more_exprs_shorter (more_exprs a b) = let x = inner_shorter a in let y = more_exprs_shorter b in omega arith

  pub args_shorter : {free depth : ℕ} {from left : Tokens} {es : List Expr} → IsArgs free depth from es left → length left < length from
  args_shorter (args a) = let x = exprs_shorter a in omega arith

  pub assign_shorter : {free depth : ℕ} {from left : Tokens} {e : Expr} → IsAssign free depth from e left → length left < length from
  assign_shorter (no_assign a) = cond_shorter a
  assign_shorter (assign a o b) = let x = binary_shorter a in let y = inner_shorter b in omega arith

  pub cond_shorter : {free depth : ℕ} {from left : Tokens} {e : Expr} → IsCond free depth from e left → length left < length from
  cond_shorter (no_branch a) = binary_shorter a
  cond_shorter (branches a b c) = let x = binary_shorter a in let y = inner_shorter b in let z = inner_shorter c in omega arith

  pub binary_shorter : {free depth n : ℕ} {from left : Tokens} {e : Expr} → IsBinary free depth n from e left → length left < length from
  binary_shorter (operand a) = unary_shorter a
  binary_shorter (joined a b) = let x = binary_shorter a in let y = links_shorter b in omega arith

  pub links_shorter : {free depth n : ℕ} {from left : Tokens} {more : List OperatorLink} → AreLinks free depth n from more left → length left ≤ length from
  links_shorter no_links = omega arith
  links_shorter (more_links o l a b) = let x = binary_shorter a in let y = links_shorter b in omega arith

  pub unary_shorter : {free depth : ℕ} {from left : Tokens} {e : Expr} → IsUnary free depth from e left → length left < length from
  unary_shorter (applied o w a) = let x = unary_shorter a in omega arith
  unary_shorter (postfix a b) = let x = primary_shorter a in let y = suffixes_shorter b in omega arith

  pub suffixes_shorter : {free depth : ℕ} {from left : Tokens} {more : List Suffix} → AreSuffixes free depth from more left → length left ≤ length from
  suffixes_shorter no_suffixes = omega arith
  suffixes_shorter (more_suffixes a b) = let x = suffix_shorter a in let y = suffixes_shorter b in omega arith

  pub suffix_shorter : {free depth : ℕ} {from left : Tokens} {s : Suffix} → IsSuffix free depth from s left → length left < length from
  suffix_shorter field = omega arith
  suffix_shorter (method a) = let x = args_shorter a in omega arith
  suffix_shorter (index a) = let x = inner_shorter a in omega arith
  suffix_shorter increment = omega arith
  suffix_shorter decrement = omega arith

  pub primary_shorter : {free depth : ℕ} {from left : Tokens} {e : Expr} → IsPrimary free depth from e left → length left < length from
  primary_shorter numeral = omega arith
  primary_shorter yes = omega arith
  primary_shorter no = omega arith
  primary_shorter null = omega arith
  primary_shorter this = omega arith
  primary_shorter named = omega arith
  primary_shorter (call a) = let x = args_shorter a in omega arith
  primary_shorter (brackets a) = let x = inner_shorter a in omega arith
  primary_shorter (convert k a) = let x = inner_shorter a in omega arith
  primary_shorter (new_array a b) = let x = element_shorter a in let y = args_shorter b in omega arith
  primary_shorter (cast a) = let x = inner_shorter a in omega arith

pub more_exprs_strict : {free depth : ℕ} {from left : Tokens} {e : Expr} {es : List Expr} → AreMoreExprs free depth from (e ∷ es) left → length left < length from
more_exprs_strict (more_exprs a b) = let x = inner_shorter a in let y = more_exprs_shorter b in omega arith

pub links_strict : {free depth n : ℕ} {from left : Tokens} {l : OperatorLink} {more : List OperatorLink} → AreLinks free depth n from (l ∷ more) left → length left < length from
links_strict (more_links o l a b) = let x = binary_shorter a in let y = links_shorter b in omega arith
