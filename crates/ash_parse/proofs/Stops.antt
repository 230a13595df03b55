-- A reading that stops: what is made of it stops alike.
use Rattle.std.proofs.Common.{◌≡◌, ℕ, List, length, Ok, Err, sym}
use Rattle.std.proofs.lemmas.List.{length-map}
use Rattle.ash_lex.specs.declared.tokens.Token.{Token}
use Rattle.ash_tree.specs.GrammarTokens.{Tokens, tokens_of, placed}
use Rattle.ash_parse.specs.declared.error.ParseError.{ParseError}
use Rattle.ash_parse.specs.declared.error.Stop.{Stop}
use Rattle.ash_parse.specs.declared.error.Stop.TheVariants as stops
use Rattle.ash_parse.specs.Readers.{Halt, Unexpected, TooDeep, ParseResult, ◌>>=◌, Fails, StopsAt}

pub as_many : (ts : List Token) → length ts ≡ length (tokens_of ts)
as_many ts = sym (length-map ts placed)

-- what goes on has not stopped, but where memory ran out
pub goes_on_stops : {A B : Type 0} (stop : Stop) (left : ℕ) (x : A × Tokens) (read : ParseResult B) → StopsAt {Y = A} stop left (Ok x) → StopsAt stop left read
goes_on_stops stops.NoMemory left x read h = tt
goes_on_stops stops.Unexpected left x read h = absurd h
goes_on_stops stops.TooDeep left x read h = absurd h

pub stops_alike : (A B : Type 0) (stop : Stop) (left : ℕ) (halt : Halt) → StopsAt {Y = A} stop left (Err halt) → StopsAt {Y = B} stop left (Err halt)
stops_alike A B stops.NoMemory left halt h = tt
stops_alike A B stops.Unexpected left (Unexpected rest) h = h
stops_alike A B stops.Unexpected left (TooDeep rest) h = absurd h
stops_alike A B stops.TooDeep left (Unexpected rest) h = absurd h
stops_alike A B stops.TooDeep left (TooDeep rest) h = h

pub fails_bind : {A B : Type 0} (e : ParseError) (read : ParseResult A) (f : A × Tokens → ParseResult B) → Fails e read → Fails e (read >>= f)
fails_bind e (Ok x) f h = goes_on_stops e.stop e.left x (f x) h
fails_bind {A} {B} e (Err halt) f h = stops_alike A B e.stop e.left halt h
