-- Each place of a tree is that of a token of what derives it.
use Rattle.std.proofs.Common.{◌≡◌, ℕ, List, [], ◌∷◌, Bool, true, false, ◌||◌, is_some, Some, refl, ap}
use Rattle.ash_lex.specs.Tokens.{Meaning, sign, reserved}
use Rattle.ash_lex.specs.declared.signs.Sign.TheVariants as signs
use Rattle.ash_lex.specs.declared.words.ReservedWord.TheVariants as words
use Rattle.ash_tree.specs.Tree as written
use Rattle.ash_tree.specs.declared.tree.types.Primitive.{Primitive}
use Rattle.ash_tree.specs.declared.tree.operators.UnaryOp.{UnaryOp}
use Rattle.ash_tree.specs.Operators.{primitive, unary_operator}
use Rattle.ash_tree.specs.GrammarTokens.{Tokens}
use Rattle.ash_tree.specs.Types.{IsElement, prim_element, handle_element, IsType, prim, object, handle, array}
use Rattle.ash_tree.specs.Types.{array_handle}
use Rattle.ash_tree.specs.Expressions.{IsInner, inner, AreExprs, no_exprs, some_exprs, AreMoreExprs, no_more_exprs}
use Rattle.ash_tree.specs.Expressions.{more_exprs, IsArgs, args, IsAssign, no_assign, assign, IsCond, no_branch}
use Rattle.ash_tree.specs.Expressions.{branches, IsBinary, operand, joined, AreLinks, no_links, more_links, IsUnary}
use Rattle.ash_tree.specs.Expressions.{applied, postfix, AreSuffixes, no_suffixes, more_suffixes, IsSuffix, field}
use Rattle.ash_tree.specs.Expressions.{method, index, increment, decrement, IsPrimary, numeral, yes, no, null, this}
use Rattle.ash_tree.specs.Expressions.{named, call, brackets, convert, new_array, cast}
use Rattle.ash_type_rules.specs.FaultPlaces.{begins_operand, begins_expression}
use Rattle.ash_type_rules.proofs.FaultTokens.{AreIn, ElementIn, NamedIn, ExprIn, ExprsIn, LinksIn, SuffixesIn, SuffixIn}
use Rattle.ash_type_rules.proofs.FaultTokens.{place_start}

-- tokens with which expressions begin

either_left : (x y : Bool) → x ≡ true → (x || y) ≡ true
either_left true y h = refl
either_left false y h = cc

either_right : (x y : Bool) → y ≡ true → (x || y) ≡ true
either_right true y h = refl
either_right false y h = h

converts : (m : Meaning) (k : Primitive) → primitive m ≡ Some k → begins_expression m ≡ true
converts m k h =
    either_left (begins_operand m || is_some (primitive m)) (is_some (unary_operator m))
    (either_right (begins_operand m) (is_some (primitive m)) (ap is_some h))

applies : (m : Meaning) (op : UnaryOp) → unary_operator m ≡ Some op → begins_expression m ≡ true
applies m op h = either_right (begins_operand m || is_some (primitive m)) (is_some (unary_operator m)) (ap is_some h)

-- types

pub element_in : (script : Tokens) {from left : Tokens} {of : written.Element} → IsElement from of left
    → AreIn script from → ElementIn script of × AreIn script left
element_in script (prim_element {m = m} k) h = ((m, h.1.0), h.1.1.1)
element_in script handle_element h = (h.1.0, h.1.1.1.1)

pub type_in : (script : Tokens) {from left : Tokens} {of : written.Named} → IsType from of left → AreIn script from
    → NamedIn script of × AreIn script left
type_in script (prim {m = m} k) h = ((m, h.0), h.1)
type_in script object h = (h.0, h.1)
type_in script handle h = (h.0, h.1.1)
type_in script (array e) h = let x = element_in script e h.1 in ((h.0, x.0), x.1)
type_in script (array_handle e) h = let x = element_in script e h.1 in ((h.0, x.0), x.1.1)

-- expressions

chained_in : (script : Tokens) (e : written.Expr) (more : List written.OperatorLink) → ExprIn script e
    → LinksIn script (written.links more) → ExprIn script (written.chained e more)
chained_in script e [] h k = h
chained_in script e (l ∷ ls) h k = (place_start script e h, h, k)

suffixed_in : (script : Tokens) (e : written.Expr) (more : List written.Suffix) → ExprIn script e
    → SuffixesIn script (written.suffixes more) → ExprIn script (written.suffixed e more)
suffixed_in script e [] h k = h
suffixed_in script e (s ∷ ss) h k = (place_start script e h, h, k)

mutual
  pub inner_in : (script : Tokens) {free depth : ℕ} {from left : Tokens} {e : written.Expr}
      → IsInner free depth from e left → AreIn script from → ExprIn script e × AreIn script left
  inner_in script (inner w a) h = assign_in script a h

  pub exprs_in : (script : Tokens) {free depth : ℕ} {from left : Tokens} {es : List written.Expr}
      → AreExprs free depth from es left → AreIn script from → ExprsIn script (written.exprs es) × AreIn script left
  exprs_in script no_exprs h = (tt, h)
  exprs_in script (some_exprs a b) h = let x = inner_in script a h in let y = more_exprs_in script b x.1 in
      ((x.0, y.0), y.1)

  pub more_exprs_in : (script : Tokens) {free depth : ℕ} {from left : Tokens} {es : List written.Expr}
      → AreMoreExprs free depth from es left → AreIn script from → ExprsIn script (written.exprs es) × AreIn script left
  more_exprs_in script no_more_exprs h = (tt, h)
  more_exprs_in script (more_exprs a b) h = let x = inner_in script a h.1 in let y = more_exprs_in script b x.1 in
      ((x.0, y.0), y.1)

  pub args_in : (script : Tokens) {free depth : ℕ} {from left : Tokens} {es : List written.Expr}
      → IsArgs free depth from es left → AreIn script from → ExprsIn script (written.exprs es) × AreIn script left
  args_in script (args a) h = let x = exprs_in script a h.1 in (x.0, x.1.1)

  pub assign_in : (script : Tokens) {free depth : ℕ} {from left : Tokens} {e : written.Expr}
      → IsAssign free depth from e left → AreIn script from → ExprIn script e × AreIn script left
  assign_in script (no_assign a) h = cond_in script a h
  assign_in script (assign {target = e} a o b) h = let x = binary_in script a h in let y = inner_in script b x.1.1 in
      ((place_start script e x.0, x.0, y.0), y.1)

  pub cond_in : (script : Tokens) {free depth : ℕ} {from left : Tokens} {e : written.Expr}
      → IsCond free depth from e left → AreIn script from → ExprIn script e × AreIn script left
  cond_in script (no_branch a) h = binary_in script a h
  cond_in script (branches {c = e} a b d) h = let x = binary_in script a h in let y = inner_in script b x.1.1 in let z =
      inner_in script d y.1.1 in ((place_start script e x.0, x.0, y.0, z.0), z.1)

  pub binary_in : (script : Tokens) {free depth n : ℕ} {from left : Tokens} {e : written.Expr}
      → IsBinary free depth n from e left → AreIn script from → ExprIn script e × AreIn script left
  binary_in script (operand a) h = unary_in script a h
  binary_in script (joined {first = e} {more = more} a b) h = let x = binary_in script a h in let y =
      links_in script b x.1 in (chained_in script e more x.0 y.0, y.1)

  pub links_in : (script : Tokens) {free depth n : ℕ} {from left : Tokens} {more : List written.OperatorLink}
      → AreLinks free depth n from more left → AreIn script from
      → LinksIn script (written.links more) × AreIn script left
  links_in script no_links h = (tt, h)
  links_in script (more_links o l a b) h = let x = binary_in script a h.1 in let y = links_in script b x.1 in
      ((x.0, y.0), y.1)

  pub unary_in : (script : Tokens) {free depth : ℕ} {from left : Tokens} {e : written.Expr}
      → IsUnary free depth from e left → AreIn script from → ExprIn script e × AreIn script left
  unary_in script (applied {m = m} {operator = op} o w a) h = let x = unary_in script a h.1 in
      (((m, h.0, applies m op o), x.0), x.1)
  unary_in script (postfix {e = e} {more = more} a b) h = let x = primary_in script a h in let y =
      suffixes_in script b x.1 in (suffixed_in script e more x.0 y.0, y.1)

  pub suffixes_in : (script : Tokens) {free depth : ℕ} {from left : Tokens} {more : List written.Suffix}
      → AreSuffixes free depth from more left → AreIn script from
      → SuffixesIn script (written.suffixes more) × AreIn script left
  suffixes_in script no_suffixes h = (tt, h)
  suffixes_in script (more_suffixes a b) h = let x = suffix_in script a h in let y = suffixes_in script b x.1 in
      ((x.0, y.0), y.1)

  pub suffix_in : (script : Tokens) {free depth : ℕ} {from left : Tokens} {s : written.Suffix}
      → IsSuffix free depth from s left → AreIn script from → SuffixIn script s × AreIn script left
  suffix_in script field h = (h.1.0, h.1.1)
  suffix_in script (method a) h = let x = args_in script a h.1.1 in ((h.1.0, x.0), x.1)
  suffix_in script (index a) h = let x = inner_in script a h.1 in (x.0, x.1.1)
  suffix_in script increment h = (tt, h.1)
  suffix_in script decrement h = (tt, h.1)

  pub primary_in : (script : Tokens) {free depth : ℕ} {from left : Tokens} {e : written.Expr}
      → IsPrimary free depth from e left → AreIn script from → ExprIn script e × AreIn script left
  primary_in script numeral h = (h.0, h.1)
  primary_in script yes h = ((reserved words.True, h.0, refl), h.1)
  primary_in script no h = ((reserved words.False, h.0, refl), h.1)
  primary_in script null h = ((reserved words.Null, h.0, refl), h.1)
  primary_in script this h = (h.0, h.1)
  primary_in script named h = (h.0, h.1)
  primary_in script (call a) h = let x = args_in script a h.1 in ((h.0, x.0), x.1)
  primary_in script (brackets a) h = let x = inner_in script a h.1 in
      (((sign signs.OpenParenthesis, h.0, refl), x.0), x.1.1)
  primary_in script (convert {m = m} {to = to} k a) h = let x = inner_in script a h.1.1 in
      (((m, h.0, converts m to k), x.0), x.1.1)
  primary_in script (new_array a b) h = let x = element_in script a h.1 in let y = args_in script b x.1 in
      ((h.0, x.0, y.0), y.1)
  primary_in script (cast a) h = let x = inner_in script a h.1.1.1.1.1 in
      (((reserved words.Cast, h.0, refl), h.1.1.0, x.0), x.1.1)
