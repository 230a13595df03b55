-- Reading again and again, as a loop does.
use Rattle.std.proofs.Common.{◌≡◌, ℕ, zero, suc, ◌≤◌, ◌<◌, List, [], ◌∷◌, ◌++◌, length, Bool, true, false, cond, Ok, Err, refl, sym, ap, subst, ◌∙◌, append_assoc, arith, map}
use Rattle.std.proofs.lemmas.List.{append-nil, map-append}
use Rattle.ash_tree.specs.GrammarTokens.{Tokens}
use Rattle.ash_parse.specs.declared.error.ParseError.{ParseError}
use Rattle.ash_parse.specs.Readers.{Halt, ParseResult, ◌>>=◌, Fails, put, repeat, loop}
use Rattle.ash_parse.proofs.Stops.{goes_on_stops, stops_alike}

-- what is read takes a token at least
abbrev pub Shrinks : {A : Type 0} → (Tokens → ParseResult A) → Type 0
Shrinks {A} read = (ts : Tokens) (x : A) (rest : Tokens) → read ts ≡ Ok (x, rest) → length rest < length ts

-- what was read before, and what is still read
abbrev pub with_prefix : {A : Type 0} → List A → ParseResult (List A) → ParseResult (List A)
with_prefix prefix (Ok y) = Ok (prefix ++ y.0, y.1)
with_prefix prefix (Err e) = Err e

regroup : {A : Type 0} (prefix : List A) (x : A) (read : ParseResult (List A)) → with_prefix prefix (put x read) ≡ with_prefix (prefix ++ x ∷ []) read
regroup {A} prefix x (Ok y) = ap (λ (xs : List A). Ok (xs, y.1)) (simp append_assoc)
regroup prefix x (Err e) = refl

pub starts : {A : Type 0} (read : ParseResult (List A)) → with_prefix [] read ≡ read
starts (Ok y) = refl
starts (Err e) = refl

module _ {A : Type 0} (more : Tokens → Bool) (read : Tokens → ParseResult A) (shrinks : Shrinks read) (none_left : more [] ≡ false) where
  none_more : (s : Tokens) → length s ≡ 0 → more s ≡ false
  none_more [] h = none_left
  none_more (t ∷ ts) h = absurd (omega arith)

  step : (b : Bool) (o : ParseResult A) (n m : ℕ) → ((x : A) (rest : Tokens) → o ≡ Ok (x, rest) → repeat more read n rest ≡ repeat more read m rest) → (s : Tokens) → cond b (o >>= λ x. put x.0 (repeat more read n x.1)) (Ok ([], s)) ≡ cond b (o >>= λ x. put x.0 (repeat more read m x.1)) (Ok ([], s))
  step false o n m h s = refl
  step true (Err e) n m h s = refl
  step true (Ok x) n m h s = ap (put x.0) (h x.0 x.1 refl)

  -- where no more follows, a round changes nothing
  idle : (n : ℕ) (s : Tokens) → more s ≡ false → repeat more read n s ≡ Ok ([], s)
  unfolding repeat
  idle zero s b = refl
  idle (suc n) s b = rw b refl

  pub enough : (n m : ℕ) (s : Tokens) → length s ≤ n → length s ≤ m → repeat more read n s ≡ repeat more read m s
  unfolding repeat
  enough zero m s p q = sym (idle m s (none_more s (omega arith)))
  enough (suc n) zero s p q = idle (suc n) s (none_more s (omega arith))
  enough (suc n) (suc m) s p q = step (more s) (read s) n m (λ x rest e. let lt : length rest < length s = shrinks s x rest e in enough n m rest (omega arith) (omega arith)) s

  one_round : (n : ℕ) (s : Tokens) (x : A) (rest : Tokens) → length rest ≤ n → more s ≡ true → read s ≡ Ok (x, rest) → repeat more read (suc n) s ≡ put x (loop more read rest)
  unfolding repeat
  one_round n s x rest p b e =
      let same : repeat more read n rest ≡ repeat more read (length rest) rest = enough n (length rest) rest p (omega arith) in
      rw (b, e) (ap (put x) same)

  pub loop_more : (s : Tokens) (x : A) (rest : Tokens) → more s ≡ true → read s ≡ Ok (x, rest) → loop more read s ≡ put x (loop more read rest)
  loop_more s x rest b e =
      let lt : length rest < length s = shrinks s x rest e in
      enough (length s) (suc (length s)) s (omega arith) (omega arith) ∙ one_round (length s) s x rest (omega arith) b e

  pub loop_done : (s : Tokens) → more s ≡ false → loop more read s ≡ Ok ([], s)
  loop_done s b = idle (length s) s b

  fails_at : (n : ℕ) (s : Tokens) (f : Halt) → more s ≡ true → read s ≡ Err f → repeat more read (suc n) s ≡ Err f
  unfolding repeat
  fails_at n s f b e = rw (b, e) refl

  pub loop_fails : (s : Tokens) (f : Halt) → more s ≡ true → read s ≡ Err f → loop more read s ≡ Err f
  loop_fails s f b e = enough (length s) (suc (length s)) s (omega arith) (omega arith) ∙ fails_at (length s) s f b e

  -- one round of a loop that fills a `Vec`, whose elements are seen by `view`
  pub goes_on : {X : Type 0} (view : X → A) (xs : List X) (x : X) (s rest : Tokens) (total : ParseResult (List A)) → more s ≡ true → read s ≡ Ok (view x, rest) → with_prefix (map view xs) (loop more read s) ≡ total → with_prefix (map view (xs ++ x ∷ [])) (loop more read rest) ≡ total
  goes_on view xs x s rest total b e so_far =
      let one : loop more read s ≡ put (view x) (loop more read rest) = loop_more s (view x) rest b e in
      ap (λ prefix. with_prefix prefix (loop more read rest)) (map-append view xs (x ∷ [])) ∙ sym (regroup (map view xs) (view x) (loop more read rest)) ∙ sym (ap (with_prefix (map view xs)) one) ∙ so_far

  ends_by : (e : ParseError) (o : ParseResult A) (prefix : List A) (s : Tokens) (total : ParseResult (List A)) → read s ≡ o → more s ≡ true → Fails e o → with_prefix prefix (loop more read s) ≡ total → Fails e total
  ends_by e (Ok x) prefix s total is b h so_far = goes_on_stops e.stop e.left x total h
  ends_by e (Err halt) prefix s total is b h so_far =
      let stopped : Err halt ≡ total = sym (ap (with_prefix prefix) (loop_fails s halt b is)) ∙ so_far in
      subst (λ (r : ParseResult (List A)). Fails e r) stopped (stops_alike A (List A) e.stop e.left halt h)

  pub ends : (e : ParseError) (prefix : List A) (s : Tokens) (total : ParseResult (List A)) → more s ≡ true → Fails e (read s) → with_prefix prefix (loop more read s) ≡ total → Fails e total
  ends e prefix s total b h so_far = ends_by e (read s) prefix s total refl b h so_far

  pub is_done : (prefix : List A) (s : Tokens) (total : ParseResult (List A)) → more s ≡ false → with_prefix prefix (loop more read s) ≡ total → total ≡ Ok (prefix, s)
  is_done prefix s total b so_far = sym so_far ∙ ap (with_prefix prefix) (loop_done s b) ∙ ap (λ (xs : List A). Ok (xs, s)) (append-nil prefix)
