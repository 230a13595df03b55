-- What is derived with so many tokens free of the limit of the depth is derived with more of them free.
use Rattle.std.proofs.Common.{ℕ, ◌≤◌, List, arith}
use Rattle.ash_tree.specs.Tree.{Expr, Suffix, OperatorLink}
use Rattle.ash_tree.specs.GrammarTokens.{Tokens}
use Rattle.ash_tree.specs.Expressions.{IsInner, inner, AreExprs, no_exprs, some_exprs, AreMoreExprs, no_more_exprs, more_exprs, IsArgs, args, IsAssign, no_assign, assign, IsCond, no_branch, branches, IsBinary, operand, joined, AreLinks, no_links, more_links, IsUnary, applied, postfix, AreSuffixes, no_suffixes, more_suffixes, IsSuffix, field, method, index, increment, decrement, IsPrimary, numeral, yes, no, null, this, named, call, brackets, convert, new_array, cast}

mutual
  pub inner_freer : {free depth : ℕ} {from left : Tokens} {x : Expr} → IsInner free depth from x left → (more : ℕ) → free ≤ more → IsInner more depth from x left
  inner_freer (inner w a) more h = inner (λ l. w (omega arith)) (assign_freer a more h)

  pub exprs_freer : {free depth : ℕ} {from left : Tokens} {x : List Expr} → AreExprs free depth from x left → (more : ℕ) → free ≤ more → AreExprs more depth from x left
  exprs_freer no_exprs more h = no_exprs
  exprs_freer (some_exprs a b) more h = some_exprs (inner_freer a more h) (more_exprs_freer b more h)

  more_exprs_freer : {free depth : ℕ} {from left : Tokens} {x : List Expr} → AreMoreExprs free depth from x left → (more : ℕ) → free ≤ more → AreMoreExprs more depth from x left
  more_exprs_freer no_more_exprs more h = no_more_exprs
  more_exprs_freer (more_exprs a b) more h = more_exprs (inner_freer a more h) (more_exprs_freer b more h)

  pub args_freer : {free depth : ℕ} {from left : Tokens} {x : List Expr} → IsArgs free depth from x left → (more : ℕ) → free ≤ more → IsArgs more depth from x left
  args_freer (args a) more h = args (exprs_freer a more h)

  pub assign_freer : {free depth : ℕ} {from left : Tokens} {x : Expr} → IsAssign free depth from x left → (more : ℕ) → free ≤ more → IsAssign more depth from x left
  assign_freer (no_assign a) more h = no_assign (cond_freer a more h)
  assign_freer (assign a o b) more h = assign (binary_freer a more h) o (inner_freer b more h)

  cond_freer : {free depth : ℕ} {from left : Tokens} {x : Expr} → IsCond free depth from x left → (more : ℕ) → free ≤ more → IsCond more depth from x left
  cond_freer (no_branch a) more h = no_branch (binary_freer a more h)
  cond_freer (branches a b c) more h = branches (binary_freer a more h) (inner_freer b more h) (inner_freer c more h)

  binary_freer : {free depth n : ℕ} {from left : Tokens} {x : Expr} → IsBinary free depth n from x left → (more : ℕ) → free ≤ more → IsBinary more depth n from x left
  binary_freer (operand a) more h = operand (unary_freer a more h)
  binary_freer (joined a b) more h = joined (binary_freer a more h) (links_freer b more h)

  links_freer : {free depth n : ℕ} {from left : Tokens} {x : List OperatorLink} → AreLinks free depth n from x left → (more : ℕ) → free ≤ more → AreLinks more depth n from x left
  links_freer no_links more h = no_links
  links_freer (more_links o l a b) more h = more_links o l (binary_freer a more h) (links_freer b more h)

  unary_freer : {free depth : ℕ} {from left : Tokens} {x : Expr} → IsUnary free depth from x left → (more : ℕ) → free ≤ more → IsUnary more depth from x left
  unary_freer (applied o w a) more h = applied o (λ l. w (omega arith)) (unary_freer a more h)
  unary_freer (postfix a b) more h = postfix (primary_freer a more h) (suffixes_freer b more h)

  suffixes_freer : {free depth : ℕ} {from left : Tokens} {x : List Suffix} → AreSuffixes free depth from x left → (more : ℕ) → free ≤ more → AreSuffixes more depth from x left
  suffixes_freer no_suffixes more h = no_suffixes
  suffixes_freer (more_suffixes a b) more h = more_suffixes (suffix_freer a more h) (suffixes_freer b more h)

  suffix_freer : {free depth : ℕ} {from left : Tokens} {x : Suffix} → IsSuffix free depth from x left → (more : ℕ) → free ≤ more → IsSuffix more depth from x left
  suffix_freer field more h = field
  suffix_freer (method a) more h = method (args_freer a more h)
  suffix_freer (index a) more h = index (inner_freer a more h)
  suffix_freer increment more h = increment
  suffix_freer decrement more h = decrement

  primary_freer : {free depth : ℕ} {from left : Tokens} {x : Expr} → IsPrimary free depth from x left → (more : ℕ) → free ≤ more → IsPrimary more depth from x left
  primary_freer numeral more h = numeral
  primary_freer yes more h = yes
  primary_freer no more h = no
  primary_freer null more h = null
  primary_freer this more h = this
  primary_freer named more h = named
  primary_freer (call a) more h = call (args_freer a more h)
  primary_freer (brackets a) more h = brackets (inner_freer a more h)
  primary_freer (convert k a) more h = convert k (inner_freer a more h)
  primary_freer (new_array a b) more h = new_array a (args_freer b more h)
  primary_freer (cast a) more h = cast (inner_freer a more h)
