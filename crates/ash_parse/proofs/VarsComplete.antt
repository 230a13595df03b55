-- What is in the grammar of types and of declarations of variables is read, or reading is cut where a token is too
-- deep, and no expression begins as they do.
use Rattle.std.proofs.Common.{◌≡◌, ℕ, ◌+◌, List, [], ◌∷◌, length, Bool, true, false, Some, None, Ok, refl, arith}
use Rattle.ash_lex.specs.Tokens.{Meaning, name, sign, reserved}
use Rattle.ash_lex.specs.declared.signs.Sign.TheVariants as signs
use Rattle.ash_lex.specs.declared.words.ReservedWord.TheVariants as words
use Rattle.ash_tree.specs.declared.tree.places.Position.{Position}
use Rattle.ash_tree.specs.declared.tree.operators.UnaryOp.{UnaryOp}
use Rattle.ash_tree.specs.declared.tree.operators.BinaryOp.{BinaryOp}
use Rattle.ash_tree.specs.declared.tree.operators.AssignOp.{AssignOp}
use Rattle.ash_tree.specs.Tree.{Named, Prim, Expr, Suffix, OperatorLink, Default, Value, Arguments, Decl, Vars}
use Rattle.ash_tree.specs.GrammarTokens.{Tokens}
use Rattle.ash_tree.specs.Operators.{primitive, unary_operator, binary_operator, assign_operator}
use Rattle.ash_tree.specs.Expressions.{max_depth, IsInner, inner, args, IsAssign, no_assign, assign, IsCond, no_branch, branches, IsBinary, operand, joined, AreLinks, no_links, more_links, IsUnary, applied, postfix, AreSuffixes, no_suffixes, more_suffixes, field, method, index, increment, decrement, IsPrimary, numeral, yes, no, null, this, named, call, brackets, convert, new_array, cast}
use Rattle.ash_tree.specs.Types.{IsType, prim, object, handle, array, array_handle}
use Rattle.ash_tree.specs.Statements.{IsDecl, bare, valued, made, AreMoreDecls, no_more_decls, more_decls, IsVars, vars}
use Rattle.ash_parse.specs.SignTokens.{is_sign, same_sign}
use Rattle.ash_parse.specs.Readers.{next_is, next_is_sign}
use Rattle.ash_parse.specs.ExpressionReader.{Below, begins, arguments_with, assign_with, below_at}
use Rattle.ash_parse.specs.TypeReader.{is_array}
use Rattle.ash_parse.specs.StatementReader.{is_name, next_is_name, type_at, is_vars, initializer_with, decl_with, next_decl_with, more_decls_with, decls_with, vars_with, vars_statement_with}
use Rattle.ash_parse.proofs.Readings.{expect_again, next_is_sign-again, name_again}
use Rattle.ash_parse.proofs.Elements.{element_read, element_passed}
use Rattle.ash_parse.proofs.StatementShorter.{decl_shorter}
use Rattle.ash_parse.proofs.Rereading.{no_some, no_true, Reads, whole, as_read, then_reads, put_reads, ReadsAll, none_again, one_again}
use Rattle.ash_parse.proofs.ExpressionComplete.{args_read, assign_read}
use Rattle.ash_parse.proofs.ExpressionBounds.{ends_expr, Ends, primitive_begins}

-- what they begin with is no type: neither a name nor a handle follows
abbrev pub Follows : Tokens → Type 0
Follows left = (next_is_name left ≡ false) × (next_is_sign signs.Handle left ≡ false)

operator_follows : (m : Meaning) (o : BinaryOp) → binary_operator m ≡ Some o → (is_name m ≡ false) × (is_sign signs.Handle m ≡ false)
unfolding is_name is_sign same_sign binary_operator
operator_follows (name t) o h = absurd (no_some o h)
operator_follows (sign signs.Handle) o h = absurd (no_some o h)
operator_follows m o h = (refl, refl)

assign_follows : (m : Meaning) (o : AssignOp) → assign_operator m ≡ Some o → (is_name m ≡ false) × (is_sign signs.Handle m ≡ false)
unfolding is_name is_sign same_sign assign_operator
assign_follows (name t) o h = absurd (no_some o h)
assign_follows (sign signs.Handle) o h = absurd (no_some o h)
assign_follows m o h = (refl, refl)

end_follows : (m : Meaning) → ends_expr m ≡ true → (is_name m ≡ false) × (is_sign signs.Handle m ≡ false)
unfolding is_name is_sign same_sign ends_expr
end_follows (name t) h = absurd (no_true h)
end_follows (sign signs.Handle) h = absurd (no_true h)
end_follows m h = (refl, refl)

pub ends_follow : (left : Tokens) → Ends left → Follows left
unfolding next_is_name next_is_sign
ends_follow [] h = absurd (no_true h)
ends_follow ((m, p) ∷ ts) h = end_follows m h

suffixes_follow : {free depth : ℕ} {from left : Tokens} {more : List Suffix} → AreSuffixes free depth from more left → Follows left → Follows from
unfolding next_is_name next_is_sign is_name is_sign same_sign
suffixes_follow no_suffixes s = s
suffixes_follow (more_suffixes field b) s = (refl, refl)
suffixes_follow (more_suffixes (method a) b) s = (refl, refl)
suffixes_follow (more_suffixes (index a) b) s = (refl, refl)
suffixes_follow (more_suffixes increment b) s = (refl, refl)
suffixes_follow (more_suffixes decrement b) s = (refl, refl)

links_follow : {free depth n : ℕ} {from left : Tokens} {more : List OperatorLink} → AreLinks free depth n from more left → Follows left → Follows from
unfolding next_is_name next_is_sign
links_follow no_links s = s
links_follow (more_links {m = m} {operator = operator} o l a b) s = operator_follows m operator o

primary_no_vars : {free depth : ℕ} {from left : Tokens} {e : Expr} → IsPrimary free depth from e left → Follows left → is_vars from ≡ false
unfolding is_vars is_name is_array primitive next_is_name next_is_sign is_sign same_sign
primary_no_vars numeral s = refl
primary_no_vars yes s = refl
primary_no_vars no s = refl
primary_no_vars null s = refl
primary_no_vars this s = refl
primary_no_vars named s = rw (s.0, s.1) refl
primary_no_vars (call (args a)) s = refl
primary_no_vars (brackets a) s = refl
primary_no_vars (convert k a) s = rw k refl
primary_no_vars (new_array a (args b)) s = rw (element_passed a) refl
primary_no_vars (cast a) s = refl

unary_token : (m : Meaning) (o : UnaryOp) → unary_operator m ≡ Some o → (primitive m ≡ None) × (is_name m ≡ false) × (is_array m ≡ false)
unfolding primitive is_name is_array unary_operator
unary_token (sign signs.Plus) o h = (refl, refl, refl)
unary_token (sign signs.Minus) o h = (refl, refl, refl)
unary_token (sign signs.LogicalNot) o h = (refl, refl, refl)
unary_token (reserved words.Not) o h = (refl, refl, refl)
unary_token (sign signs.BitNot) o h = (refl, refl, refl)
unary_token (sign signs.Increment) o h = (refl, refl, refl)
unary_token (sign signs.Decrement) o h = (refl, refl, refl)
unary_token (sign signs.Handle) o h = (refl, refl, refl)
unary_token m o h = absurd (no_some o h)

unary_no_vars : {free depth : ℕ} {from left : Tokens} {e : Expr} → IsUnary free depth from e left → Follows left → is_vars from ≡ false
unfolding is_vars
unary_no_vars (applied {m = m} {operator = operator} o w a) s = let q = unary_token m operator o in rw (q.0, q.1, q.2) refl
unary_no_vars (postfix a b) s = primary_no_vars a (suffixes_follow b s)

binary_no_vars : {free depth n : ℕ} {from left : Tokens} {e : Expr} → IsBinary free depth n from e left → Follows left → is_vars from ≡ false
binary_no_vars (operand a) s = unary_no_vars a s
binary_no_vars (joined a b) s = binary_no_vars a (links_follow b s)

cond_no_vars : {free depth : ℕ} {from left : Tokens} {e : Expr} → IsCond free depth from e left → Follows left → is_vars from ≡ false
unfolding next_is_name next_is_sign is_name is_sign same_sign
cond_no_vars (no_branch a) s = binary_no_vars a s
cond_no_vars (branches a b c) s = binary_no_vars a (refl, refl)

-- no expression begins as a declaration does
pub assign_no_vars : {free depth : ℕ} {from left : Tokens} {e : Expr} → IsAssign free depth from e left → Follows left → is_vars from ≡ false
unfolding next_is_name next_is_sign
assign_no_vars (no_assign a) s = cond_no_vars a s
assign_no_vars (assign {m = m} {operator = operator} a o b) s = binary_no_vars a (assign_follows m operator o)

pub inner_no_vars : {free depth : ℕ} {from left : Tokens} {e : Expr} → IsInner free depth from e left → Follows left → is_vars from ≡ false
inner_no_vars (inner w a) s = assign_no_vars a s

pub type_read : {from left : Tokens} {t : Named} → IsType from t left → next_is_sign signs.Handle left ≡ false → type_at from ≡ Ok (t, left)
unfolding type_at primitive
type_read (prim g) s = rw g refl
type_read object s = rw s refl
type_read (handle {q = q} {left = left}) s = rw (next_is_sign-again signs.Handle q left, expect_again signs.Handle q left) refl
type_read (array a) s = rw (element_read a, s) refl
type_read (array_handle {q = q} {left = left} a) s = rw (element_read a, next_is_sign-again signs.Handle q left, expect_again signs.Handle q left) refl

pub type_begins : {from left : Tokens} {t : Named} → IsType from t left → next_is begins from ≡ true
unfolding begins
type_begins (prim {m = m} {k = k} g) = (primitive_begins m k g).0
type_begins object = refl
type_begins handle = refl
type_begins (array a) = refl
type_begins (array_handle a) = refl

-- a type and a name after it begin a declaration
pub type_vars : {from left : Tokens} {t : Named} → IsType from t left → next_is_name left ≡ true → is_vars from ≡ true
unfolding is_vars is_name is_array primitive next_is_name next_is_sign is_sign same_sign
type_vars (array a) s = rw (element_passed a, s) refl
type_vars (array_handle a) s = rw (element_passed a) refl
type_vars (prim g) s = rw g s
type_vars object s = rw s refl
type_vars handle s = refl

pub decl_begins : {free depth : ℕ} {from left : Tokens} {d : Decl} → IsDecl free depth from d left → (next_is_name from ≡ true) × (next_is_sign signs.Handle from ≡ false)
unfolding next_is_name is_name next_is_sign is_sign same_sign
decl_begins bare = (refl, refl)
decl_begins (valued a) = (refl, refl)
decl_begins (made a) = (refl, refl)

pub vars_vars : {free depth : ℕ} {from left : Tokens} {v : Vars} → IsVars free depth from v left → is_vars from ≡ true
vars_vars (vars t d ds) = type_vars t (decl_begins d).0

pub vars_begin : {free depth : ℕ} {from left : Tokens} {v : Vars} → IsVars free depth from v left → next_is begins from ≡ true
vars_begin (vars t d ds) = type_begins t

-- what is after one of several variables
unfoldable pub ends_decl : Meaning → Bool
ends_decl (sign signs.Comma) = true
ends_decl (sign signs.Semicolon) = true
ends_decl _ = false

abbrev pub Next : Tokens → Type 0
Next left = next_is ends_decl left ≡ true

abbrev pub Done : Tokens → Type 0
Done left = next_is_sign signs.Semicolon left ≡ true

next_at : (m : Meaning) → ends_decl m ≡ true → (ends_expr m ≡ true) × (is_sign signs.Assign m ≡ false) × (is_sign signs.OpenParenthesis m ≡ false)
unfolding ends_decl ends_expr is_sign same_sign
next_at (sign signs.Comma) h = (refl, refl, refl)
next_at (sign signs.Semicolon) h = (refl, refl, refl)
next_at m h = absurd (no_true h)

pub next_ends : (left : Tokens) → Next left → Ends left × (next_is_sign signs.Assign left ≡ false) × (next_is_sign signs.OpenParenthesis left ≡ false)
unfolding next_is_sign
next_ends [] h = absurd (no_true h)
next_ends ((m, p) ∷ ts) h = next_at m h

done_at : (m : Meaning) → is_sign signs.Semicolon m ≡ true → (ends_decl m ≡ true) × (is_sign signs.Comma m ≡ false)
unfolding ends_decl is_sign same_sign
done_at (sign signs.Semicolon) h = (refl, refl)
done_at m h = absurd (no_true h)

done_next : (left : Tokens) → Done left → Next left × (next_is_sign signs.Comma left ≡ false)
unfolding next_is_sign
done_next [] h = absurd (no_true h)
done_next ((m, p) ∷ ts) h = done_at m h

pub decls_next : {free depth : ℕ} {from left : Tokens} {ds : List Decl} → AreMoreDecls free depth from ds left → Done left → Next from
unfolding ends_decl
decls_next (no_more_decls {left = left}) s = (done_next left s).0
decls_next (more_decls a b) s = refl

module _ (below : Below) where
  bare_again : (p : Position) (text : List ℕ) (left : Tokens) → Next left → decl_with below ((name text, p) ∷ left) ≡ Ok (record { place = p; name = text; initializer = Default }, left)
  unfolding decl_with initializer_with
  bare_again p text left s = let q = next_ends left s in rw (name_again text p left, q.1, q.2) refl

  valued_again : {free : ℕ} (p q : Position) (text : List ℕ) (from left : Tokens) (e : Expr) → Reads Expr free (assign_with below from) (e, left) → Reads Decl free (decl_with below ((name text, p) ∷ (sign signs.Assign, q) ∷ from)) (record { place = p; name = text; initializer = Value e }, left)
  unfolding decl_with initializer_with
  valued_again p q text from left e h = rw (name_again text p ((sign signs.Assign, q) ∷ from), next_is_sign-again signs.Assign q from, expect_again signs.Assign q from) (then_reads _ (then_reads _ h whole) whole)

  made_again : {free : ℕ} (p o : Position) (text : List ℕ) (from left : Tokens) (es : List Expr) → Reads (List Expr) free (arguments_with below ((sign signs.OpenParenthesis, o) ∷ from)) (es, left) → Reads Decl free (decl_with below ((name text, p) ∷ (sign signs.OpenParenthesis, o) ∷ from)) (record { place = p; name = text; initializer = Arguments es }, left)
  unfolding decl_with initializer_with next_is_sign is_sign same_sign
  made_again p o text from left es h = rw (name_again text p ((sign signs.OpenParenthesis, o) ∷ from)) (then_reads _ (then_reads _ h whole) whole)

  next_decl_again : {free : ℕ} (p : Position) (from after : Tokens) (d : Decl) → Reads Decl free (decl_with below from) (d, after) → Reads Decl free (next_decl_with below ((sign signs.Comma, p) ∷ from)) (d, after)
  unfolding next_decl_with
  next_decl_again p from after d h = rw (expect_again signs.Comma p from) h

  vars_again : {free : ℕ} (from first after left : Tokens) (t : Named) (d : Decl) (ds : List Decl) → type_at from ≡ Ok (t, first) → Reads Decl free (decl_with below first) (d, after) → ReadsAll free (next_is_sign signs.Comma) (next_decl_with below) after ds left → Reads Vars free (vars_with below from) (record { of = t; decls = d ∷ ds }, left)
  unfolding vars_with decls_with more_decls_with
  vars_again from first after left t d ds h i r = rw h (then_reads _ (then_reads _ i (put_reads d (r (length after) (omega arith)))) whole)

  declared_again : {free : ℕ} (p : Position) (from left : Tokens) (v : Vars) → Reads Vars free (vars_with below from) (v, (sign signs.Semicolon, p) ∷ left) → Reads Vars free (vars_statement_with below from) (v, left)
  unfolding vars_statement_with
  declared_again p from left v h = then_reads _ h (rw (expect_again signs.Semicolon p left) whole)

decl_read : {free depth : ℕ} {from left : Tokens} {d : Decl} → IsDecl free depth from d left → (room : ℕ) → depth + room ≡ max_depth → Next left → Reads Decl free (decl_with (below_at room) from) (d, left)
decl_read (bare {p = p} {text = text} {left = left}) room d s = as_read (bare_again (below_at room) p text left s)
decl_read (valued {p = p} {q = q} {text = text} {from = from} {left = left} {e = e} a) room d s = valued_again (below_at room) p q text from left e (assign_read a room d (next_ends left s).0)
decl_read (made {p = p} {text = text} {left = left} {es = es} (args {p = o} {q = c} {from = from} a)) room d s = made_again (below_at room) p o text from left es (args_read (args {p = o} {q = c} {from = from} {left = left} {es = es} a) room d)

more_decls_read : {free depth : ℕ} {from left : Tokens} {ds : List Decl} → AreMoreDecls free depth from ds left → (room : ℕ) → depth + room ≡ max_depth → Done left → ReadsAll free (next_is_sign signs.Comma) (next_decl_with (below_at room)) from ds left
more_decls_read (no_more_decls {left = left}) room d s = none_again _ (next_is_sign signs.Comma) (next_decl_with (below_at room)) left (done_next left s).1
more_decls_read (more_decls {p = p} {from = from} {after = after} {left = left} {d = x} {ds = xs} a b) room d s =
    let l = decl_shorter a in
    one_again _ (next_is_sign signs.Comma) (next_decl_with (below_at room)) ((sign signs.Comma, p) ∷ from) after left x xs (next_is_sign-again signs.Comma p from) (next_decl_again (below_at room) p from after x (decl_read a room d (decls_next b s))) (omega arith) (more_decls_read b room d s)

vars_read : {free depth : ℕ} {from left : Tokens} {v : Vars} → IsVars free depth from v left → (room : ℕ) → depth + room ≡ max_depth → Done left → Reads Vars free (vars_with (below_at room) from) (v, left)
vars_read (vars {from = from} {first = first} {after = after} {left = left} {t = t} {d = x} {ds = xs} a b c) room d s =
    vars_again (below_at room) from first after left t x xs (type_read a (decl_begins b).1) (decl_read b room d (decls_next c s)) (more_decls_read c room d s)

-- variables with their ";"
pub declared_read : {free depth : ℕ} {from : Tokens} {v : Vars} (p : Position) (left : Tokens) → IsVars free depth from v ((sign signs.Semicolon, p) ∷ left) → (room : ℕ) → depth + room ≡ max_depth → Reads Vars free (vars_statement_with (below_at room) from) (v, left)
declared_read {from = from} {v = v} p left a room d = declared_again (below_at room) p from left v (vars_read a room d (next_is_sign-again signs.Semicolon p left))
