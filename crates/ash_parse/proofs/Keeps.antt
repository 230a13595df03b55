-- What a reader answers hangs only on the tokens that it takes and the next one, or, where the word `array` begins an
-- expression or a declaration of variables, on those up to the one after its `"<" elem ">"`.
use Rattle.std.proofs.Common.{◌≡◌, ℕ, zero, suc, ◌<◌, ◌≤◌, List, [], ◌∷◌, ◌++◌, length, Bool, true, false, cond, Ok, Err, refl, sym, subst, arith}
use Rattle.ash_lex.specs.Tokens.{Meaning, name, number, sign, reserved, unsupported}
use Rattle.ash_lex.specs.declared.signs.Sign.{Sign}
use Rattle.ash_lex.specs.declared.words.ReservedWord.TheVariants as words
use Rattle.ash_tree.specs.declared.tree.places.Position.{Position}
use Rattle.ash_tree.specs.Tree.{Element}
use Rattle.ash_tree.specs.GrammarTokens.{Tokens}
use Rattle.ash_parse.specs.SignTokens.{is_sign}
use Rattle.ash_parse.specs.Readers.{Unexpected, TooDeep, ParseResult, ◌>>=◌, put, repeat, loop, next_is, next_is_sign, expect_at, name_at}
use Rattle.ash_parse.specs.TypeReader.{element_at}
use Rattle.ash_parse.specs.StatementReader.{is_vars}
use Rattle.ash_parse.specs.FirstFault.{LeavesOpen}
use Rattle.ash_parse.proofs.Loop.{Shrinks}
use Rattle.ash_parse.proofs.Readings.{sign_is}
use Rattle.ash_parse.proofs.NeverDeep.{IsUncut, element_uncut}

-- at most so many tokens are left
abbrev pub Past : {A : Type 0} → ℕ → ParseResult A → Type 0
Past n (Ok x) = length x.1 ≤ n
Past n (Err (Unexpected rest)) = length rest ≤ n
Past n (Err (TooDeep rest)) = length rest ≤ n

-- fewer tokens are left
abbrev pub Fewer : {A : Type 0} → ℕ → ParseResult A → Type 0
Fewer n (Ok x) = length x.1 < n
Fewer n (Err (Unexpected rest)) = length rest < n
Fewer n (Err (TooDeep rest)) = length rest < n

-- after those of these tokens that leave leaves what `t` begins, there are so many at the least
abbrev pub Beyond : Meaning × Position → Tokens → ℕ → Type 0
Beyond t more n = (seen rest : Tokens) → LeavesOpen t seen → more ≡ seen ++ rest → n ≤ length rest

-- What two answers have to do with each other, where the tokens that were read differ only in what is after `t`. They
-- are one answer, but that where `more` is left after `t` in the first, `other` is in the second; or both took `t`. Or
-- the first took what decides that a declaration of variables begins, which it doesn't with the tokens of the second;
-- or it stops at a token that is too deep, with which a declaration begins in the second.
pub data Agree {A : Type 0} (t : Meaning × Position) (more other : Tokens) : ParseResult A → ParseResult A → Type 0 where
  reads : (x : A) (prefix : Tokens) → Agree t more other (Ok (x, prefix ++ t ∷ more)) (Ok (x, prefix ++ t ∷ other))
  stops : (prefix : Tokens) → Agree t more other (Err (Unexpected (prefix ++ t ∷ more))) (Err (Unexpected (prefix ++ t ∷ other)))
  deep : (prefix : Tokens) → Agree t more other (Err (TooDeep (prefix ++ t ∷ more))) (Err (TooDeep (prefix ++ t ∷ other)))
  past : {one two : ParseResult A} → Past (length more) one → Past (length other) two → Agree t more other one two
  chosen : {one two : ParseResult A} (n : ℕ) → Fewer n one → Beyond t more n → Agree t more other one two
  opens : {two : ParseResult A} (prefix : Tokens) → is_vars (prefix ++ t ∷ more) ≡ false → is_vars (prefix ++ t ∷ other) ≡ true → Agree t more other (Err (TooDeep (prefix ++ t ∷ more))) two

-- after `t`, the word `array`, all but the last `n` of these tokens are before the end of an `"<" elem ">"`
pub record Inside (t : Meaning × Position) (more : Tokens) (n : ℕ) : Type 0 where
  pub is_word : t.0 ≡ reserved words.Array
  pub ends_later : (x : Element) (rest : Tokens) → element_at more ≡ Ok (x, rest) → length rest < n

-- reading neither ended where the last `n` of `more` begin, after `t`, nor stopped there at a token that is too deep
pub data Clear {A : Type 0} (t : Meaning × Position) (more : Tokens) (n : ℕ) : ParseResult A → Type 0 where
  ends_before : (x : A) (prefix : Tokens) → Clear t more n (Ok (x, prefix ++ t ∷ more))
  cut_before : (prefix : Tokens) → Clear t more n (Err (TooDeep (prefix ++ t ∷ more)))
  unexpected : (rest : Tokens) → Clear t more n (Err (Unexpected rest))
  after_it : {o : ParseResult A} → Fewer n o → Clear t more n o

-- With other tokens after `t`, the answers agree; tokens that are taken stay so; and no reading ends, or is cut, inside
-- an array's `"<" elem ">"`.
pub record Lawful {A : Type 0} (read : Tokens → ParseResult A) : Type 0 where
  pub keeps : (t : Meaning × Position) (more other prefix : Tokens) → Agree t more other (read (prefix ++ t ∷ more)) (read (prefix ++ t ∷ other))
  pub stays : (n : ℕ) (s : Tokens) → length s ≤ n → Past n (read s)
  pub clears : (t : Meaning × Position) (more : Tokens) (n : ℕ) (prefix : Tokens) → Inside t more n → Clear t more n (read (prefix ++ t ∷ more))

-- a choice, where both choices agree if the tests differ
abbrev pub Crosses : {A : Type 0} → (Tokens → Bool) → (Tokens → ParseResult A) → (Tokens → ParseResult A) → Type 0
Crosses test on off =
    (t : Meaning × Position) (more other prefix : Tokens) →
    (test (prefix ++ t ∷ more) ≡ true → test (prefix ++ t ∷ other) ≡ false → Agree t more other (on (prefix ++ t ∷ more)) (off (prefix ++ t ∷ other)))
    × (test (prefix ++ t ∷ more) ≡ false → test (prefix ++ t ∷ other) ≡ true → Agree t more other (off (prefix ++ t ∷ more)) (on (prefix ++ t ∷ other)))

-- a reader after its first token, `a`
pub record Led {A : Type 0} (a : Meaning × Position) (read : Tokens → ParseResult A) : Type 0 where
  pub starts : (more other : Tokens) → Agree a more other (read more) (read other)
  pub keeps : (t : Meaning × Position) (more other prefix : Tokens) → Agree t more other (read (prefix ++ t ∷ more)) (read (prefix ++ t ∷ other))
  pub stays : (n : ℕ) (s : Tokens) → suc (length s) ≤ n → Past n (read s)
  pub clears : (t : Meaning × Position) (more : Tokens) (n : ℕ) (prefix : Tokens) → Inside t more n → Clear t more n (read (prefix ++ t ∷ more))
  pub clears_first : (more : Tokens) (n : ℕ) → Inside a more n → Clear a more n (read more)

-- the reader takes what `P` says that these tokens begin with, of which so many are left after it at most
pub record Takes {A : Type 0} (P : ℕ → Tokens → Type 0) (read : Tokens → ParseResult A) : Type 0 where
  pub taken : (n : ℕ) (s : Tokens) → P n s → Past n (read s)

-- the tokens begin with this one
pub data First (a : Meaning × Position) (n : ℕ) : Tokens → Type 0 where
  first : (s : Tokens) → length s ≤ n → First a n (a ∷ s)

pub past_fewer : {A : Type 0} (m n : ℕ) (o : ParseResult A) → m < n → Past m o → Fewer n o
past_fewer m n (Ok x) l h = omega arith
past_fewer m n (Err (Unexpected rest)) l h = omega arith
past_fewer m n (Err (TooDeep rest)) l h = omega arith

pub fewer_past : {A : Type 0} (n m : ℕ) (o : ParseResult A) → n ≤ m → Fewer n o → Past m o
fewer_past n m (Ok x) l h = omega arith
fewer_past n m (Err (Unexpected rest)) l h = omega arith
fewer_past n m (Err (TooDeep rest)) l h = omega arith

pub ok_lawful : {A : Type 0} (x : A) → Lawful (λ s. Ok (x, s))
ok_lawful x = record { keeps = λ t more other prefix. reads x prefix; stays = λ n s h. h; clears = λ t more n prefix i. ends_before x prefix }

module _ {A B : Type 0} (f : A × Tokens → ParseResult B) where
  pub bind_past : (n : ℕ) (o : ParseResult A) → Past n o → ((x : A) (s : Tokens) → length s ≤ n → Past n (f (x, s))) → Past n (o >>= f)
  bind_past n (Ok x) h go = go x.0 x.1 h
  bind_past n (Err (Unexpected rest)) h go = h
  bind_past n (Err (TooDeep rest)) h go = h

  pub bind_fewer : (n : ℕ) (o : ParseResult A) → Fewer n o → ((x : A) (m : ℕ) (s : Tokens) → length s ≤ m → Past m (f (x, s))) → Fewer n (o >>= f)
  bind_fewer n (Ok x) h go = past_fewer (length x.1) n (f x) h (go x.0 (length x.1) x.1 (omega arith))
  bind_fewer n (Err (Unexpected rest)) h go = h
  bind_fewer n (Err (TooDeep rest)) h go = h

  module _ (law : (x : A) → Lawful (λ s. f (x, s))) where
    pub bind_agree : {t : Meaning × Position} {more other : Tokens} {one two : ParseResult A} → Agree t more other one two → Agree t more other (one >>= f) (two >>= f)
    bind_agree {t} {more} {other} (reads x prefix) = (law x).keeps t more other prefix
    bind_agree (stops prefix) = stops prefix
    bind_agree (deep prefix) = deep prefix
    bind_agree {more} {other} {one} {two} (past h k) = past (bind_past (length more) one h (λ x s l. (law x).stays (length more) s l)) (bind_past (length other) two k (λ x s l. (law x).stays (length other) s l))
    bind_agree {one} (chosen n h b) = chosen n (bind_fewer n one h (λ x k s l. (law x).stays k s l)) b
    bind_agree (opens prefix h k) = opens prefix h k

    pub bind_clear : {t : Meaning × Position} {more : Tokens} {n : ℕ} {o : ParseResult A} → Clear t more n o → Inside t more n → Clear t more n (o >>= f)
    bind_clear {t} {more} {n} (ends_before x prefix) i = (law x).clears t more n prefix i
    bind_clear (cut_before prefix) i = cut_before prefix
    bind_clear (unexpected rest) i = unexpected rest
    bind_clear {n} {o} (after_it h) i = after_it (bind_fewer n o h (λ x k s l. (law x).stays k s l))

pub bind_lawful : {A B : Type 0} {read : Tokens → ParseResult A} (f : A × Tokens → ParseResult B) → Lawful read → ((x : A) → Lawful (λ s. f (x, s))) → Lawful (λ s. read s >>= f)
bind_lawful {read} f law next = record {
  keeps = λ t more other prefix. bind_agree f next (law.keeps t more other prefix);
  stays = λ n s h. bind_past f n (read s) (law.stays n s h) (λ x r l. (next x).stays n r l);
  clears = λ t more n prefix i. bind_clear f next (law.clears t more n prefix i) i;
}

pub bind_takes : {A B : Type 0} {P : ℕ → Tokens → Type 0} {read : Tokens → ParseResult A} (f : A × Tokens → ParseResult B) → Takes P read → ((x : A) → Lawful (λ s. f (x, s))) → Takes P (λ s. read s >>= f)
bind_takes {read} f takes next = record { taken = λ n s p. bind_past f n (read s) (takes.taken n s p) (λ x r l. (next x).stays n r l) }

pub put_past : {A : Type 0} (n : ℕ) (x : A) (o : ParseResult (List A)) → Past n o → Past n (put x o)
put_past n x (Ok y) h = h
put_past n x (Err (Unexpected rest)) h = h
put_past n x (Err (TooDeep rest)) h = h

put_fewer : {A : Type 0} (n : ℕ) (x : A) (o : ParseResult (List A)) → Fewer n o → Fewer n (put x o)
put_fewer n x (Ok y) h = h
put_fewer n x (Err (Unexpected rest)) h = h
put_fewer n x (Err (TooDeep rest)) h = h

pub put_agree : {A : Type 0} {t : Meaning × Position} {more other : Tokens} {one two : ParseResult (List A)} (x : A) → Agree t more other one two → Agree t more other (put x one) (put x two)
put_agree x (reads xs prefix) = reads (x ∷ xs) prefix
put_agree x (stops prefix) = stops prefix
put_agree x (deep prefix) = deep prefix
put_agree {more} {other} {one} {two} x (past h k) = past (put_past (length more) x one h) (put_past (length other) x two k)
put_agree {one} x (chosen n h b) = chosen n (put_fewer n x one h) b
put_agree x (opens prefix h k) = opens prefix h k

put_clear : {A : Type 0} {t : Meaning × Position} {more : Tokens} {n : ℕ} {o : ParseResult (List A)} (x : A) → Clear t more n o → Clear t more n (put x o)
put_clear x (ends_before xs prefix) = ends_before (x ∷ xs) prefix
put_clear x (cut_before prefix) = cut_before prefix
put_clear x (unexpected rest) = unexpected rest
put_clear {n} {o} x (after_it h) = after_it (put_fewer n x o h)

pub put_lawful : {A : Type 0} {read : Tokens → ParseResult (List A)} (x : A) → Lawful read → Lawful (λ s. put x (read s))
put_lawful {read} x law = record {
  keeps = λ t more other prefix. put_agree x (law.keeps t more other prefix);
  stays = λ n s h. put_past n x (read s) (law.stays n s h);
  clears = λ t more n prefix i. put_clear x (law.clears t more n prefix i);
}

-- a test that hangs only on the next token
abbrev pub Steady : (Tokens → Bool) → Type 0
Steady test = (t : Meaning × Position) (more other prefix : Tokens) → test (prefix ++ t ∷ more) ≡ test (prefix ++ t ∷ other)

pub next_steady : (test : Meaning → Bool) → Steady (next_is test)
next_steady test t more other [] = refl
next_steady test t more other (a ∷ prefix) = refl

pub sign_steady : (s : Sign) → Steady (next_is_sign s)
unfolding next_is_sign
sign_steady s = next_steady (is_sign s)

pub cond_past : {A : Type 0} (n : ℕ) (b : Bool) (one two : ParseResult A) → Past n one → Past n two → Past n (cond b one two)
cond_past n true one two h k = h
cond_past n false one two h k = k

cond_clear : {A : Type 0} {t : Meaning × Position} {more : Tokens} {n : ℕ} (b : Bool) {one two : ParseResult A} → Clear t more n one → Clear t more n two → Clear t more n (cond b one two)
cond_clear true p q = p
cond_clear false p q = q

choice : {A : Type 0} (t : Meaning × Position) (more other : Tokens) (b c : Bool) (on off on' off' : ParseResult A) → (b ≡ true → c ≡ false → Agree t more other on off') → (b ≡ false → c ≡ true → Agree t more other off on') → Agree t more other on on' → Agree t more other off off' → Agree t more other (cond b on off) (cond c on' off')
choice t more other true true on off on' off' u v p q = p
choice t more other true false on off on' off' u v p q = u refl refl
choice t more other false true on off on' off' u v p q = v refl refl
choice t more other false false on off on' off' u v p q = q

pub choice_lawful : {A : Type 0} (test : Tokens → Bool) {on off : Tokens → ParseResult A} → Crosses test on off → Lawful on → Lawful off → Lawful (λ s. cond (test s) (on s) (off s))
choice_lawful test {on} {off} crosses p q = record {
  keeps = λ t more other prefix. let s = prefix ++ t ∷ more in let r = prefix ++ t ∷ other in
      choice t more other (test s) (test r) (on s) (off s) (on r) (off r) (crosses t more other prefix).0 (crosses t more other prefix).1 (p.keeps t more other prefix) (q.keeps t more other prefix);
  stays = λ n s h. cond_past n (test s) (on s) (off s) (p.stays n s h) (q.stays n s h);
  clears = λ t more n prefix i. cond_clear (test (prefix ++ t ∷ more)) (p.clears t more n prefix i) (q.clears t more n prefix i);
}

pub differs_on : (a b : Bool) → a ≡ true → b ≡ false → a ≡ b → ⊥
differs_on a b h k e = cc

pub differs_off : (a b : Bool) → a ≡ false → b ≡ true → a ≡ b → ⊥
differs_off a b h k e = cc

-- where the tests don't differ
pub no_cross : (b c : Bool) (P Q : Type 0) → b ≡ c → (b ≡ true → c ≡ false → P) × (b ≡ false → c ≡ true → Q)
no_cross b c P Q e = (λ h k. absurd (differs_on b c h k e), λ h k. absurd (differs_off b c h k e))

pub if_lawful : {A : Type 0} (test : Tokens → Bool) {on off : Tokens → ParseResult A} → Steady test → Lawful on → Lawful off → Lawful (λ s. cond (test s) (on s) (off s))
if_lawful test {on} {off} steady p q =
    choice_lawful test (λ t more other prefix. let s = prefix ++ t ∷ more in let r = prefix ++ t ∷ other in
    no_cross (test s) (test r) (Agree t more other (on s) (off r)) (Agree t more other (off s) (on r)) (steady t more other prefix)) p q

-- one answer, given by one reader and the other
pub alike : {A : Type 0} {one two : Tokens → ParseResult A} → ((s : Tokens) → one s ≡ two s) → Lawful two → Lawful one
alike {one} {two} e law = record {
  keeps = λ t more other prefix. let s = prefix ++ t ∷ more in let r = prefix ++ t ∷ other in
      subst (λ x. Agree t more other x (one r)) (sym (e s)) (subst (λ x. Agree t more other (two s) x) (sym (e r)) (law.keeps t more other prefix));
  stays = λ n s h. subst (λ x. Past n x) (sym (e s)) (law.stays n s h);
  clears = λ t more n prefix i. subst (λ x. Clear t more n x) (sym (e (prefix ++ t ∷ more))) (law.clears t more n prefix i);
}

-- not the word `array`
abbrev pub IsNoArray : Meaning → Type 0
IsNoArray (reserved words.Array) = ⊥
IsNoArray m = Unit {0}

pub sign_no_array : (s : Sign) (m : Meaning) → is_sign s m ≡ true → IsNoArray m
sign_no_array s m e = subst (λ w. IsNoArray w) (sym (sign_is s m e)) tt

-- a reader after a token, of which it reads no array
led_by : {A : Type 0} {read : Tokens → ParseResult A} {a : Meaning × Position} → Lawful read → ((more : Tokens) (n : ℕ) → Inside a more n → Clear a more n (read more)) → Led a read
led_by {read} law inside = record {
  starts = λ more other. past (law.stays (length more) more (omega arith)) (law.stays (length other) other (omega arith));
  keeps = law.keeps;
  stays = λ n s h. law.stays n s (omega arith);
  clears = law.clears;
  clears_first = inside;
}

pub led_after : {A : Type 0} {read : Tokens → ParseResult A} {a : Meaning × Position} → IsNoArray a.0 → Lawful read → Led a read
led_after other law = led_by law (λ more n i. absurd (subst (λ w. IsNoArray w) i.is_word other))

-- a reader after the word `array`
module _ {A : Type 0} (f : Element × Tokens → ParseResult A) (law : Lawful element_at) (next : (x : Element) → Lawful (λ s. f (x, s))) where
  element_clear : (t : Meaning × Position) (more : Tokens) (n : ℕ) (o : ParseResult Element) → element_at more ≡ o → Inside t more n → Clear t more n (o >>= f)
  element_clear t more n (Ok x) e i = after_it (past_fewer (length x.1) n (f x) (i.ends_later x.0 x.1 e) ((next x.0).stays (length x.1) x.1 (omega arith)))
  element_clear t more n (Err (Unexpected rest)) e i = unexpected rest
  element_clear t more n (Err (TooDeep rest)) e i = absurd (subst (λ o. IsUncut o) e (element_uncut more))

  pub led_array : (p : Position) → Led (reserved words.Array, p) (λ s. element_at s >>= f)
  led_array p = led_by (bind_lawful f law next) (λ more n i. element_clear (reserved words.Array, p) more n (element_at more) refl i)

pub led_from : {A : Type 0} {read : Tokens → ParseResult A} {a : Meaning × Position} → Lawful read → Led a (λ s. read (a ∷ s))
led_from {a} law = record {
  starts = λ more other. law.keeps a more other [];
  keeps = λ t more other prefix. law.keeps t more other (a ∷ prefix);
  stays = λ n s h. law.stays n (a ∷ s) (omega arith);
  clears = λ t more n prefix i. law.clears t more n (a ∷ prefix) i;
  clears_first = λ more n i. law.clears a more n [] i;
}

pub stop_lawful : {A : Type 0} → Lawful {A = A} (λ s. Err (Unexpected s))
stop_lawful = record { keeps = λ t more other prefix. stops prefix; stays = λ n s h. h; clears = λ t more n prefix i. unexpected (prefix ++ t ∷ more) }

pub led_stop : {A : Type 0} {a : Meaning × Position} → Led {A = A} a (λ s. Err (Unexpected (a ∷ s)))
led_stop = led_from stop_lawful

cut_lawful : {A : Type 0} → Lawful {A = A} (λ s. Err (TooDeep s))
cut_lawful = record { keeps = λ t more other prefix. deep prefix; stays = λ n s h. h; clears = λ t more n prefix i. cut_before prefix }

pub led_deep : {A : Type 0} {a : Meaning × Position} → Led {A = A} a (λ s. Err (TooDeep (a ∷ s)))
led_deep = led_from cut_lawful

pub led_if : {A : Type 0} {a : Meaning × Position} {on off : Tokens → ParseResult A} (b : Bool) → (b ≡ true → Led a on) → Led a off → Led a (λ s. cond b (on s) (off s))
led_if true p q = p refl
led_if false p q = q

-- a reader by its first token
pub led_lawful : {A : Type 0} {read : Tokens → ParseResult A} → ((n : ℕ) → Past n (read [])) → ((m : Meaning) (p : Position) → Led (m, p) (λ s. read ((m, p) ∷ s))) → Lawful read
led_lawful {A} {read} none some = record { keeps = in_prefix; stays = with_less; clears = cleared }
  where
    in_prefix : (t : Meaning × Position) (more other prefix : Tokens) → Agree t more other (read (prefix ++ t ∷ more)) (read (prefix ++ t ∷ other))
    in_prefix (m, p) more other [] = (some m p).starts more other
    in_prefix t more other ((m, p) ∷ prefix) = (some m p).keeps t more other prefix

    with_less : (n : ℕ) (s : Tokens) → length s ≤ n → Past n (read s)
    with_less n [] h = none n
    with_less n ((m, p) ∷ s) h = (some m p).stays n s (omega arith)

    cleared : (t : Meaning × Position) (more : Tokens) (n : ℕ) (prefix : Tokens) → Inside t more n → Clear t more n (read (prefix ++ t ∷ more))
    cleared (m, p) more n [] i = (some m p).clears_first more n i
    cleared t more n ((m, p) ∷ prefix) i = (some m p).clears t more n prefix i

pub expect_lawful : (s : Sign) → Lawful (expect_at s)
unfolding expect_at
expect_lawful s = led_lawful (λ n. omega arith) (λ m p. led_if (is_sign s m) (λ e. led_after (sign_no_array s m e) (ok_lawful p)) led_stop)

pub name_lawful : Lawful name_at
unfolding name_at
name_lawful = led_lawful (λ n. omega arith) by_token
  where
    by_token : (m : Meaning) (p : Position) → Led (m, p) (λ s. name_at ((m, p) ∷ s))
    by_token (name text) p = led_after tt (ok_lawful (text, p))
    by_token (number n) p = led_stop
    by_token (sign n) p = led_stop
    by_token (reserved n) p = led_stop
    by_token (unsupported n) p = led_stop

pub name_takes : (text : List ℕ) (p : Position) → Takes (First (name text, p)) name_at
unfolding name_at
name_takes text p = record { taken = by_first }
  where
    by_first : (n : ℕ) (s : Tokens) → First (name text, p) n s → Past n (name_at s)
    by_first n _ (first s l) = l

filled : (t : Meaning × Position) (prefix more : Tokens) → 1 ≤ length (prefix ++ t ∷ more)
filled t [] more = omega arith
filled t (a ∷ prefix) more = omega arith

module _ {A : Type 0} (test : Tokens → Bool) (read : Tokens → ParseResult A) (shrinks : Shrinks read) (steady : Steady test) (law : Lawful read) where
  repeat_past : (times n : ℕ) (s : Tokens) → length s ≤ n → Past n (repeat test read times s)
  unfolding repeat
  repeat_past zero n s h = h
  repeat_past (suc times) n s h =
      cond_past n (test s) (read s >>= λ x. put x.0 (repeat test read times x.1)) (Ok ([], s))
      (bind_past (λ x. put x.0 (repeat test read times x.1)) n (read s) (law.stays n s h) (λ x r l. put_past n x (repeat test read times r) (repeat_past times n r l))) h

  after_one : (times : ℕ) (x : A) (n : ℕ) (s : Tokens) → length s ≤ n → Past n (put x (repeat test read times s))
  after_one times x n s l = put_past n x (repeat test read times s) (repeat_past times n s l)

  round : (t : Meaning × Position) (more other prefix : Tokens) (times again : ℕ) (b : Bool) (one two : ParseResult A) → Agree t more other one two →
      ((x : A) (next : Tokens) → one ≡ Ok (x, next ++ t ∷ more) → two ≡ Ok (x, next ++ t ∷ other) → Agree t more other (repeat test read times (next ++ t ∷ more)) (repeat test read again (next ++ t ∷ other))) →
      Agree t more other (cond b (one >>= λ x. put x.0 (repeat test read times x.1)) (Ok ([], prefix ++ t ∷ more))) (cond b (two >>= λ x. put x.0 (repeat test read again x.1)) (Ok ([], prefix ++ t ∷ other)))
  round t more other prefix times again false one two e next = reads [] prefix
  round t more other prefix times again true one two (reads x left) next = put_agree x (next x left refl refl)
  round t more other prefix times again true one two (stops left) next = stops left
  round t more other prefix times again true one two (deep left) next = deep left
  round t more other prefix times again true one two (past h k) next =
      past (bind_past (λ x. put x.0 (repeat test read times x.1)) (length more) one h (λ x r l. after_one times x (length more) r l)) (bind_past (λ x. put x.0 (repeat test read again x.1)) (length other) two k (λ x r l. after_one again x (length other) r l))
  round t more other prefix times again true one two (chosen n h b) next = chosen n (bind_fewer (λ x. put x.0 (repeat test read times x.1)) n one h (after_one times)) b
  round t more other prefix times again true one two (opens left h k) next = opens left h k

  repeat_agree : (times again : ℕ) (t : Meaning × Position) (more other prefix : Tokens) → length (prefix ++ t ∷ more) ≤ times → length (prefix ++ t ∷ other) ≤ again → Agree t more other (repeat test read times (prefix ++ t ∷ more)) (repeat test read again (prefix ++ t ∷ other))
  unfolding repeat
  repeat_agree zero again t more other prefix h k = let e = filled t prefix more in absurd (omega arith)
  repeat_agree (suc times) zero t more other prefix h k = let e = filled t prefix other in absurd (omega arith)
  repeat_agree (suc times) (suc again) t more other prefix h k =
      let s = prefix ++ t ∷ more in
      let r = prefix ++ t ∷ other in
      subst (λ b. Agree t more other (cond (test s) (read s >>= λ x. put x.0 (repeat test read times x.1)) (Ok ([], s))) (cond b (read r >>= λ x. put x.0 (repeat test read again x.1)) (Ok ([], r)))) (steady t more other prefix)
      (round t more other prefix times again (test s) (read s) (read r) (law.keeps t more other prefix) (λ x next e d.
      let p : length (next ++ t ∷ more) < length s = shrinks s x (next ++ t ∷ more) e in
      let q : length (next ++ t ∷ other) < length r = shrinks r x (next ++ t ∷ other) d in
      repeat_agree times again t more other next (omega arith) (omega arith)))

  round_clear : (t : Meaning × Position) (more : Tokens) (n times : ℕ) (one : ParseResult A) → Clear t more n one → ((prefix : Tokens) → Clear t more n (repeat test read times (prefix ++ t ∷ more))) → Clear t more n (one >>= λ x. put x.0 (repeat test read times x.1))
  round_clear t more n times one (ends_before x prefix) next = put_clear x (next prefix)
  round_clear t more n times one (cut_before prefix) next = cut_before prefix
  round_clear t more n times one (unexpected rest) next = unexpected rest
  round_clear t more n times one (after_it h) next = after_it (bind_fewer (λ x. put x.0 (repeat test read times x.1)) n one h (after_one times))

  repeat_clear : (times : ℕ) (t : Meaning × Position) (more : Tokens) (n : ℕ) → Inside t more n → (prefix : Tokens) → Clear t more n (repeat test read times (prefix ++ t ∷ more))
  unfolding repeat
  repeat_clear zero t more n i prefix = ends_before [] prefix
  repeat_clear (suc times) t more n i prefix =
      let s = prefix ++ t ∷ more in
      cond_clear (test s) {one = read s >>= λ x. put x.0 (repeat test read times x.1)} {two = Ok ([], s)} (round_clear t more n times (read s) (law.clears t more n prefix i) (repeat_clear times t more n i)) (ends_before [] prefix)

  pub loop_lawful : Lawful (loop test read)
  loop_lawful = record {
    keeps = λ t more other prefix. repeat_agree (length (prefix ++ t ∷ more)) (length (prefix ++ t ∷ other)) t more other prefix (omega arith) (omega arith);
    stays = λ n s h. repeat_past (length s) n s h;
    clears = λ t more n prefix i. repeat_clear (length (prefix ++ t ∷ more)) t more n i prefix;
  }
