-- Reading tokens from left to right, as a function. What is read comes with the tokens that are left; a reader that
-- stops gives the tokens from the fault on.
use Rattle.std.specs.Prelude.{◌≡◌, ℕ, zero, suc, List, [], ◌∷◌, length, Bool, false, Result, Ok, Err, if◌then◌else◌}
use Rattle.std.specs.Borrow.{Bor}
use Rattle.ash_lex.specs.Tokens.{Meaning, name}
use Rattle.ash_lex.specs.declared.signs.Sign.{Sign}
use Rattle.ash_lex.specs.declared.tokens.Token.{Token}
use Rattle.ash_tree.specs.declared.tree.places.Position.{Position}
use Rattle.ash_tree.specs.GrammarTokens.{Tokens, tokens_of}
use Rattle.ash_parse.specs.declared.error.ParseError.{ParseError}
use Rattle.ash_parse.specs.declared.error.Stop.{Stop}
use Rattle.ash_parse.specs.declared.error.Stop.TheVariants as stops
use Rattle.ash_parse.specs.SignTokens.{is_sign}

-- why reading stops, and the tokens from there on: the first of them fits nowhere, or is too deep
pub data Halt : Type 0 where
  Unexpected : Tokens → Halt
  TooDeep : Tokens → Halt

abbrev pub ParseResult : Type 0 → Type 0
ParseResult A = Result (A × Tokens) Halt

infixl 10 ◌>>=◌
abbrev pub ◌>>=◌ : {A B : Type 0} → ParseResult A → (A × Tokens → ParseResult B) → ParseResult B
(Ok x) >>= f = f x
(Err e) >>= f = Err e

-- `read` stops for this reason where so many tokens are left, or memory ran out
abbrev pub StopsAt : {Y : Type 0} → Stop → ℕ → ParseResult Y → Type 0
StopsAt stops.NoMemory left read = Unit {0}
StopsAt stop left (Ok x) = ⊥
StopsAt stops.Unexpected left (Err (Unexpected rest)) = left ≡ length rest
StopsAt stops.TooDeep left (Err (TooDeep rest)) = left ≡ length rest
StopsAt stop left (Err halt) = ⊥

-- the error is why `read` stops, or memory ran out
abbrev pub Fails : {Y : Type 0} → ParseError → ParseResult Y → Type 0
Fails e read = StopsAt e.stop e.left read

-- what a function returned, seen by `view`, is what `read` gives, with the same tokens left; or memory ran out
abbrev pub ParsesAs : {X Y : Type 0} → (X → Y) → Result (X × Bor (List Token)) ParseError → ParseResult Y → Type 0
ParsesAs view (Ok x) read = read ≡ Ok (view x.0, tokens_of x.1.now)
ParsesAs view (Err e) read = Fails e read

-- what is read, with one more before it
abbrev pub put : {A : Type 0} → A → ParseResult (List A) → ParseResult (List A)
put x (Ok y) = Ok (x ∷ y.0, y.1)
put x (Err e) = Err e

-- reads again as long as more follows, at most so often
unfoldable pub repeat : {A : Type 0} → (Tokens → Bool) → (Tokens → ParseResult A) → ℕ → Tokens → ParseResult (List A)
repeat more read zero s = Ok ([], s)
repeat more read (suc times) s = if more s then (read s >>= λ x. put x.0 (repeat more read times x.1)) else Ok ([], s)

-- reads again as long as more follows, where each reading takes a token
abbrev pub loop : {A : Type 0} → (Tokens → Bool) → (Tokens → ParseResult A) → Tokens → ParseResult (List A)
loop more read s = repeat more read (length s) s

-- the next token passes
abbrev pub next_is : (Meaning → Bool) → Tokens → Bool
next_is test [] = false
next_is test ((m, p) ∷ ts) = test m

unfoldable pub next_is_sign : Sign → Tokens → Bool
next_is_sign s ts = next_is (is_sign s) ts

-- this sign
unfoldable pub expect_at : Sign → Tokens → ParseResult Position
expect_at s [] = Err (Unexpected [])
expect_at s ((m, p) ∷ ts) = if is_sign s m then Ok (p, ts) else Err (Unexpected ((m, p) ∷ ts))

-- a name
unfoldable pub name_at : Tokens → ParseResult (List ℕ × Position)
name_at [] = Err (Unexpected [])
name_at ((name text, p) ∷ ts) = Ok ((text, p), ts)
name_at ((m, p) ∷ ts) = Err (Unexpected ((m, p) ∷ ts))
