-- A module that is read is all of its tokens, and a declaration too.
use Rattle.std.proofs.Common.{◌≡◌, ℕ, zero, suc, ◌≤◌, ◌<◌, List, [], ◌∷◌, length, Bool, true, false, cond, Ok, Err, refl, subst, arith}
use Rattle.ash_tree.specs.Tree.{Item, Declaration}
use Rattle.ash_tree.specs.GrammarTokens.{Tokens}
use Rattle.ash_tree.specs.Grammar.{Derives, Declares}
use Rattle.ash_parse.specs.Readers.{Unexpected, ParseResult, ◌>>=◌, put, repeat}
use Rattle.ash_parse.specs.ItemReader.{entry_at, is_left, strip, entries_at, module_at, declaration_at}
use Rattle.ash_parse.specs.ParseFaults.{whole_declaration_at}
use Rattle.ash_parse.proofs.Readings.{no_err, ok_is, bind_ok, at_pair, put_ok}
use Rattle.ash_parse.proofs.ItemShorter.{entry_shrinks, left_is_none, declaration_sound}
use Rattle.ash_parse.proofs.ItemSound.{module_sound}

no_tokens : (s : Tokens) → length s ≤ 0 → s ≡ []
no_tokens [] h = refl
no_tokens (t ∷ ts) h = absurd (omega arith)

round_ends : (n : ℕ) (s : Tokens) (xs : List Item) (rest : Tokens) (b : Bool) (o : ParseResult Item) → (b ≡ false → s ≡ []) → ((x : Item) (left : Tokens) → o ≡ Ok (x, left) → (ys : List Item) (end : Tokens) → repeat is_left entry_at n left ≡ Ok (ys, end) → end ≡ []) → cond b (o >>= λ x. put x.0 (repeat is_left entry_at n x.1)) (Ok ([], s)) ≡ Ok (xs, rest) → rest ≡ []
round_ends n s xs rest false o none more h = at_pair (λ (ys : List Item) (left : Tokens). left ≡ []) [] s xs rest h (none refl)
round_ends n s xs rest true (Err e) none more h = absurd (no_err e (xs, rest) h)
round_ends n s xs rest true (Ok x) none more h = put_ok x.0 (repeat is_left entry_at n x.1) xs rest (λ (ys : List Item) (left : Tokens). left ≡ []) h (λ ys left r. more x.0 x.1 refl ys left r)

repeat_ends : (n : ℕ) (s : Tokens) (xs : List Item) (rest : Tokens) → length s ≤ n → repeat is_left entry_at n s ≡ Ok (xs, rest) → rest ≡ []
unfolding repeat
repeat_ends zero s xs rest p h = at_pair (λ (ys : List Item) (left : Tokens). left ≡ []) [] s xs rest h (no_tokens s p)
repeat_ends (suc n) s xs rest p h =
    round_ends n s xs rest (is_left s) (entry_at s) (left_is_none s)
    (λ x left e ys end r. let lt : length left < length s = entry_shrinks s x left e in repeat_ends n left ys end (omega arith) r)
    h

pub module_ends : (ts : Tokens) (xs : List Item) (rest : Tokens) → module_at ts ≡ Ok (xs, rest) → rest ≡ []
unfolding module_at entries_at
module_ends ts xs rest h = repeat_ends (length (strip ts)) (strip ts) xs rest (omega arith) h

-- what is read of a module is derived
pub module_derived : (ts : Tokens) (xs : List Item) (rest : Tokens) → module_at ts ≡ Ok (xs, rest) → Derives 0 ts xs
module_derived ts xs rest h = module_sound ts xs rest h (module_ends ts xs rest h)

after_nothing : (ts : Tokens) (x : Declaration × Tokens) (d : Declaration) (rest : Tokens) (b : Bool) → declaration_at ts ≡ Ok x → is_left x.1 ≡ b → ◌≡◌ {A = ParseResult Declaration} (cond b (Err (Unexpected x.1)) (Ok x)) (Ok (d, rest)) → Declares ts d
after_nothing ts x d rest true e f h = absurd (no_err (Unexpected x.1) (d, rest) h)
after_nothing ts x d rest false e f h =
    let same = ok_is x (d, rest) h in
    subst (λ (y : Declaration × Tokens). Declares ts y.0) same (declaration_sound ts x.0 x.1 e (left_is_none x.1 f))

-- and so is what is read of a declaration
pub declaration_derived : (ts : Tokens) (d : Declaration) (rest : Tokens) → whole_declaration_at ts ≡ Ok (d, rest) → Declares ts d
unfolding whole_declaration_at
declaration_derived ts d rest h =
    let r = bind_ok (declaration_at ts) (λ x. cond (is_left x.1) (Err (Unexpected x.1)) (Ok x)) (d, rest) h in
    after_nothing ts r.0 d rest (is_left (r.0).1) r.1 refl r.2
