-- What a reading that succeeds has read.
use Rattle.std.proofs.Common.{◌≡◌, ℕ, zero, suc, List, [], ◌∷◌, Bool, true, false, cond, Ok, Err, refl, sym, ap, subst}
use Rattle.ash_lex.specs.Tokens.{Meaning, name, number, sign, reserved, unsupported}
use Rattle.ash_lex.specs.declared.signs.Sign.{Sign}
use Rattle.ash_tree.specs.declared.tree.places.Position.{Position}
use Rattle.ash_tree.specs.GrammarTokens.{Tokens}
use Rattle.ash_parse.specs.SignTokens.{is_sign}
use Rattle.ash_parse.specs.Readers.{Halt, Unexpected, ParseResult, ◌>>=◌, put, repeat, next_is_sign, expect_at, name_at}
use Rattle.ash_parse.proofs.Signs.{same_sign_is, same_sign_refl}

pub no_err : {A : Type 0} (e : Halt) (x : A × Tokens) → ◌≡◌ {A = ParseResult A} (Err e) (Ok x) → ⊥
no_err e x h = cc

pub ok_is : {A : Type 0} (x y : A × Tokens) → ◌≡◌ {A = ParseResult A} (Ok x) (Ok y) → x ≡ y
ok_is x y h = cc

pub bind_ok : {A B : Type 0} (o : ParseResult A) (f : A × Tokens → ParseResult B) (y : B × Tokens) → (o >>= f) ≡ Ok y → (x : A × Tokens) × (o ≡ Ok x) × (f x ≡ Ok y)
bind_ok (Ok x) f y h = (x, refl, h)
bind_ok (Err e) f y h = absurd (no_err e y h)

-- what holds of one pair holds of its equal
pub at_pair : {A : Type 0} (Q : A → Tokens → Type 0) (a : A) (b : Tokens) (x : A) (y : Tokens) → ◌≡◌ {A = ParseResult A} (Ok (a, b)) (Ok (x, y)) → Q a b → Q x y
at_pair {A} Q a b x y h q = let e = ok_is (a, b) (x, y) h in subst (λ (v : A × Tokens). Q v.0 v.1) e q

pub if_elim : {R : Type 0} (b : Bool) (x y r : R) (Q : Type 0) → cond b x y ≡ r → (b ≡ true → x ≡ r → Q) → (b ≡ false → y ≡ r → Q) → Q
if_elim true x y r Q h on off = on refl h
if_elim false x y r Q h on off = off refl h

pub put_ok : {A : Type 0} (x : A) (r : ParseResult (List A)) (xs : List A) (rest : Tokens) (Q : List A → Tokens → Type 0) → put x r ≡ Ok (xs, rest) → ((ys : List A) (left : Tokens) → r ≡ Ok (ys, left) → Q (x ∷ ys) left) → Q xs rest
put_ok x (Err e) xs rest Q h go = absurd (no_err e (xs, rest) h)
put_ok x (Ok y) xs rest Q h go = at_pair Q (x ∷ y.0) y.1 xs rest h (go y.0 y.1 refl)

-- what a reader reads is a phrase
abbrev pub Finds : {A : Type 0} → (Tokens → ParseResult A) → (Tokens → A → Tokens → Type 0) → Type 0
Finds {A} read P = (ts : Tokens) (x : A) (rest : Tokens) → read ts ≡ Ok (x, rest) → P ts x rest

module _ {A : Type 0} (more : Tokens → Bool) (read : Tokens → ParseResult A) (Q : Tokens → List A → Tokens → Type 0) (nil : (s : Tokens) → Q s [] s) (grow : (from after left : Tokens) (x : A) (xs : List A) → read from ≡ Ok (x, after) → Q after xs left → Q from (x ∷ xs) left) where
  one_round : (n : ℕ) (ih : (s : Tokens) (xs : List A) (rest : Tokens) → repeat more read n s ≡ Ok (xs, rest) → Q s xs rest) (s : Tokens) (xs : List A) (rest : Tokens) (b : Bool) (o : ParseResult A) → read s ≡ o → cond b (o >>= λ x. put x.0 (repeat more read n x.1)) (Ok ([], s)) ≡ Ok (xs, rest) → Q s xs rest
  one_round n ih s xs rest false o e h = at_pair (Q s) [] s xs rest h (nil s)
  one_round n ih s xs rest true (Err f) e h = absurd (no_err f (xs, rest) h)
  one_round n ih s xs rest true (Ok x) e h = put_ok x.0 (repeat more read n x.1) xs rest (Q s) h (λ ys left r. grow s x.1 left x.0 ys e (ih x.1 ys left r))

  pub repeat_sound : (n : ℕ) (s : Tokens) (xs : List A) (rest : Tokens) → repeat more read n s ≡ Ok (xs, rest) → Q s xs rest
  unfolding repeat
  repeat_sound zero s xs rest h = at_pair (Q s) [] s xs rest h (nil s)
  repeat_sound (suc n) s xs rest h = one_round n (repeat_sound n) s xs rest (more s) (read s) refl h

-- a sign that passes the test is the one
pub sign_is : (s : Sign) (m : Meaning) → is_sign s m ≡ true → m ≡ sign s
unfolding is_sign
sign_is s (sign t) h = ap sign (sym (same_sign_is s t h))
sign_is s (name t) h = cc
sign_is s (number n) h = cc
sign_is s (reserved w) h = cc
sign_is s (unsupported w) h = cc

pub is_sign-refl : (s : Sign) → is_sign s (sign s) ≡ true
unfolding is_sign
is_sign-refl s = same_sign_refl s

-- a sign that is read is the first token
pub expect_sound : (s : Sign) (ts : Tokens) (p : Position) (rest : Tokens) (Q : Tokens → Type 0) → expect_at s ts ≡ Ok (p, rest) → Q ((sign s, p) ∷ rest) → Q ts
unfolding expect_at
expect_sound s [] p rest Q h q = absurd (no_err (Unexpected []) (p, rest) h)
expect_sound s ((m, o) ∷ ts) p rest Q h q =
    if_elim (is_sign s m) (Ok (o, ts)) (Err (Unexpected ((m, o) ∷ ts))) (Ok (p, rest)) (Q ((m, o) ∷ ts)) h
    (λ b e. at_pair (λ x r. Q ((m, x) ∷ r)) p rest o ts (sym e) (subst (λ w. Q ((w, p) ∷ rest)) (sym (sign_is s m b)) q))
    (λ b e. absurd (no_err (Unexpected ((m, o) ∷ ts)) (p, rest) e))

pub expect_again : (s : Sign) (p : Position) (ts : Tokens) → expect_at s ((sign s, p) ∷ ts) ≡ Ok (p, ts)
unfolding expect_at
expect_again s p ts = rw (is_sign-refl s) refl

pub next_is_sign-again : (s : Sign) (p : Position) (ts : Tokens) → next_is_sign s ((sign s, p) ∷ ts) ≡ true
unfolding next_is_sign
next_is_sign-again s p ts = is_sign-refl s

-- a name that is read is the first token
pub name_sound : (ts : Tokens) (x : List ℕ × Position) (rest : Tokens) (Q : Tokens → Type 0) → name_at ts ≡ Ok (x, rest) → Q ((name x.0, x.1) ∷ rest) → Q ts
unfolding name_at
name_sound [] x rest Q h q = absurd (no_err (Unexpected []) (x, rest) h)
name_sound ((name t, p) ∷ ts) x rest Q h q = at_pair (λ (y : List ℕ × Position) r. Q ((name y.0, y.1) ∷ r)) x rest (t, p) ts (sym h) q
name_sound ((number n, p) ∷ ts) x rest Q h q = absurd (no_err (Unexpected ((number n, p) ∷ ts)) (x, rest) h)
name_sound ((sign n, p) ∷ ts) x rest Q h q = absurd (no_err (Unexpected ((sign n, p) ∷ ts)) (x, rest) h)
name_sound ((reserved n, p) ∷ ts) x rest Q h q = absurd (no_err (Unexpected ((reserved n, p) ∷ ts)) (x, rest) h)
name_sound ((unsupported n, p) ∷ ts) x rest Q h q = absurd (no_err (Unexpected ((unsupported n, p) ∷ ts)) (x, rest) h)

pub name_again : (t : List ℕ) (p : Position) (ts : Tokens) → name_at ((name t, p) ∷ ts) ≡ Ok ((t, p), ts)
unfolding name_at
name_again t p ts = refl
