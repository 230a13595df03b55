-- No token of a declaration is too deep.
use Rattle.std.proofs.Common.{◌≡◌, ℕ, zero, suc, List, [], ◌∷◌, Bool, true, false, cond, Option, Some, None, Ok, Err, subst}
use Rattle.ash_lex.specs.Tokens.{Meaning, name, number, sign, reserved, unsupported}
use Rattle.ash_lex.specs.declared.signs.Sign.{Sign}
use Rattle.ash_lex.specs.declared.signs.Sign.TheVariants as signs
use Rattle.ash_lex.specs.declared.words.ReservedWord.TheVariants as words
use Rattle.ash_tree.specs.declared.tree.places.Position.{Position}
use Rattle.ash_tree.specs.declared.tree.types.Primitive.{Primitive}
use Rattle.ash_tree.specs.Tree.{Named, Object, Handle, Array, ArrayHandle}
use Rattle.ash_tree.specs.GrammarTokens.{Tokens}
use Rattle.ash_tree.specs.Operators.{primitive}
use Rattle.ash_parse.specs.SignTokens.{is_sign}
use Rattle.ash_parse.specs.Readers.{Unexpected, TooDeep, ParseResult, ◌>>=◌, put, repeat, next_is_sign, expect_at, name_at}
use Rattle.ash_parse.specs.TypeReader.{elem_by, elem_at, element_at}
use Rattle.ash_parse.specs.StatementReader.{handle_by, type_by, type_at}
use Rattle.ash_parse.specs.ItemReader.{is_void, result_type_at, unnamed_at, next_unnamed_at, more_unnamed_at, unnamed_list_at, unnamed_parameters_at, property_by, declaration_after, declaration_at, is_left}
use Rattle.ash_parse.specs.ParseFaults.{whole_declaration_at}

-- reading is not cut at the depth
abbrev pub IsUncut : {A : Type 0} → ParseResult A → Type 0
IsUncut (Ok x) = Unit {0}
IsUncut (Err (Unexpected rest)) = Unit {0}
IsUncut (Err (TooDeep rest)) = ⊥

then_uncut : {A B : Type 0} (f : A × Tokens → ParseResult B) (o : ParseResult A) → IsUncut o → ((x : A) (s : Tokens) → IsUncut (f (x, s))) → IsUncut (o >>= f)
then_uncut f (Ok x) h go = go x.0 x.1
then_uncut f (Err (Unexpected rest)) h go = tt
then_uncut f (Err (TooDeep rest)) h go = h

put_uncut : {A : Type 0} (x : A) (o : ParseResult (List A)) → IsUncut o → IsUncut (put x o)
put_uncut x (Ok y) h = tt
put_uncut x (Err (Unexpected rest)) h = tt
put_uncut x (Err (TooDeep rest)) h = h

cond_uncut : {A : Type 0} (b : Bool) (one two : ParseResult A) → IsUncut one → IsUncut two → IsUncut (cond b one two)
cond_uncut true one two h k = h
cond_uncut false one two h k = k

repeat_uncut : {A : Type 0} (more : Tokens → Bool) (read : Tokens → ParseResult A) → ((s : Tokens) → IsUncut (read s)) → (n : ℕ) (s : Tokens) → IsUncut (repeat more read n s)
unfolding repeat
repeat_uncut more read h zero s = tt
repeat_uncut more read h (suc n) s = cond_uncut (more s) (read s >>= λ x. put x.0 (repeat more read n x.1)) (Ok ([], s)) (then_uncut (λ x. put x.0 (repeat more read n x.1)) (read s) (h s) (λ x r. put_uncut x (repeat more read n r) (repeat_uncut more read h n r))) tt

expect_uncut : (s : Sign) (ts : Tokens) → IsUncut (expect_at s ts)
unfolding expect_at
expect_uncut s [] = tt
expect_uncut s ((m, p) ∷ ts) = cond_uncut (is_sign s m) (Ok (p, ts)) (Err (Unexpected ((m, p) ∷ ts))) tt tt

name_uncut : (ts : Tokens) → IsUncut (name_at ts)
unfolding name_at
name_uncut [] = tt
name_uncut ((name text, p) ∷ ts) = tt
name_uncut ((number n, p) ∷ ts) = tt
name_uncut ((sign s, p) ∷ ts) = tt
name_uncut ((reserved w, p) ∷ ts) = tt
name_uncut ((unsupported w, p) ∷ ts) = tt

elem_by_uncut : (k : Option Primitive) (m : Meaning) (p : Position) (ts : Tokens) → IsUncut (elem_by k m p ts)
elem_by_uncut (Some k) m p ts = tt
elem_by_uncut None (name text) p ts = then_uncut _ (expect_at signs.Handle ts) (expect_uncut signs.Handle ts) (λ x r. tt)
elem_by_uncut None (number n) p ts = tt
elem_by_uncut None (sign s) p ts = tt
elem_by_uncut None (reserved w) p ts = tt
elem_by_uncut None (unsupported w) p ts = tt

elem_uncut : (ts : Tokens) → IsUncut (elem_at ts)
unfolding elem_at
elem_uncut [] = tt
elem_uncut ((m, p) ∷ ts) = elem_by_uncut (primitive m) m p ts

pub element_uncut : (ts : Tokens) → IsUncut (element_at ts)
unfolding element_at
element_uncut ts = then_uncut _ (expect_at signs.Less ts) (expect_uncut signs.Less ts) (λ o r. then_uncut _ (elem_at r) (elem_uncut r) (λ e s. then_uncut _ (expect_at signs.Greater s) (expect_uncut signs.Greater s) (λ z u. tt)))

handle_uncut : (plain handle : Named) (ts : Tokens) → IsUncut (handle_by plain handle ts)
handle_uncut plain handle ts = cond_uncut (next_is_sign signs.Handle ts) _ _ (then_uncut _ (expect_at signs.Handle ts) (expect_uncut signs.Handle ts) (λ x r. tt)) tt

type_by_uncut : (k : Option Primitive) (m : Meaning) (p : Position) (ts : Tokens) → IsUncut (type_by k m p ts)
type_by_uncut (Some k) m p ts = tt
type_by_uncut None (name text) p ts = handle_uncut (Object p text) (Handle p text) ts
type_by_uncut None (number n) p ts = tt
type_by_uncut None (sign s) p ts = tt
type_by_uncut None (reserved words.Array) p ts = then_uncut _ (element_at ts) (element_uncut ts) (λ e r. handle_uncut (Array p e) (ArrayHandle p e) r)
type_by_uncut None (reserved w) p ts = tt
type_by_uncut None (unsupported w) p ts = tt

type_uncut : (ts : Tokens) → IsUncut (type_at ts)
unfolding type_at
type_uncut [] = tt
type_uncut ((m, p) ∷ ts) = type_by_uncut (primitive m) m p ts

result_type_uncut : (ts : Tokens) → IsUncut (result_type_at ts)
unfolding result_type_at
result_type_uncut [] = tt
result_type_uncut ((m, p) ∷ ts) = cond_uncut (is_void m) _ _ tt (then_uncut _ (type_at ((m, p) ∷ ts)) (type_uncut ((m, p) ∷ ts)) (λ x r. tt))

unnamed_uncut : (ts : Tokens) → IsUncut (unnamed_at ts)
unfolding unnamed_at
unnamed_uncut ts = then_uncut _ (type_at ts) (type_uncut ts) (λ x r. tt)

next_unnamed_uncut : (ts : Tokens) → IsUncut (next_unnamed_at ts)
unfolding next_unnamed_at
next_unnamed_uncut ts = then_uncut _ (expect_at signs.Comma ts) (expect_uncut signs.Comma ts) (λ x r. unnamed_uncut r)

unnamed_list_uncut : (ts : Tokens) → IsUncut (unnamed_list_at ts)
unfolding unnamed_list_at more_unnamed_at
unnamed_list_uncut ts = cond_uncut (next_is_sign signs.CloseParenthesis ts) _ _ tt (then_uncut _ (unnamed_at ts) (unnamed_uncut ts) (λ x r. put_uncut x (more_unnamed_at r) (repeat_uncut (next_is_sign signs.Comma) next_unnamed_at next_unnamed_uncut _ r)))

unnamed_parameters_uncut : (ts : Tokens) → IsUncut (unnamed_parameters_at ts)
unfolding unnamed_parameters_at
unnamed_parameters_uncut ts = then_uncut _ (expect_at signs.OpenParenthesis ts) (expect_uncut signs.OpenParenthesis ts) (λ o r. then_uncut _ (unnamed_list_at r) (unnamed_list_uncut r) (λ xs s. then_uncut _ (expect_at signs.CloseParenthesis s) (expect_uncut signs.CloseParenthesis s) (λ z u. tt)))

property_uncut : (r : Option Named) (p : Position) (text : List ℕ) (ts : Tokens) → IsUncut (property_by r p text ts)
property_uncut (Some t) p text ts = tt
property_uncut None p text ts = tt

after_uncut : (r : Option Named) (p : Position) (text : List ℕ) (ts : Tokens) → IsUncut (declaration_after r p text ts)
unfolding declaration_after
after_uncut r p text ts = cond_uncut (next_is_sign signs.OpenParenthesis ts) _ _ (then_uncut _ (unnamed_parameters_at ts) (unnamed_parameters_uncut ts) (λ xs s. tt)) (property_uncut r p text ts)

declaration_uncut : (ts : Tokens) → IsUncut (declaration_at ts)
unfolding declaration_at
declaration_uncut ts = then_uncut _ (result_type_at ts) (result_type_uncut ts) (λ r s. then_uncut _ (name_at s) (name_uncut s) (λ n u. after_uncut r n.1 n.0 u))

whole_uncut : (ts : Tokens) → IsUncut (whole_declaration_at ts)
unfolding whole_declaration_at
whole_uncut ts = then_uncut _ (declaration_at ts) (declaration_uncut ts) (λ d r. cond_uncut (is_left r) _ _ tt tt)

pub declaration_never_deep : (ts rest : Tokens) → whole_declaration_at ts ≡ Err (TooDeep rest) → ⊥
declaration_never_deep ts rest h = subst (λ o. IsUncut o) h (whole_uncut ts)
