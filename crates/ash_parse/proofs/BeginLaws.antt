-- What is read of tokens can be read before other tokens too; and where reading stops, what is before the stop
-- begins a phrase. The laws say so of a reading that is made of others.
use Rattle.std.proofs.Common.{◌≡◌, ℕ, zero, suc, ◌+◌, ◌≤◌, List, [], ◌∷◌, ◌++◌, length, Bool, true, false, cond, Ok, Err, refl, sym, ap, subst, ◌∙◌, append_assoc, length-append, arith}
use Rattle.ash_lex.specs.Tokens.{Meaning, name, number, sign, reserved, unsupported}
use Rattle.ash_lex.specs.declared.signs.Sign.{Sign}
use Rattle.ash_tree.specs.declared.tree.places.Position.{Position}
use Rattle.ash_tree.specs.GrammarTokens.{Tokens}
use Rattle.ash_parse.specs.SignTokens.{is_sign}
use Rattle.ash_parse.specs.Readers.{Halt, Unexpected, TooDeep, ParseResult, ◌>>=◌, put, repeat, expect_at, name_at}
use Rattle.ash_parse.specs.StatementReader.{is_vars}
use Rattle.ash_parse.proofs.Readings.{sign_is}

-- the tokens from the fault on
abbrev pub left_at : Halt → Tokens
left_at (Unexpected rest) = rest
left_at (TooDeep rest) = rest

-- what a phrase goes on with from the fault on: where a token is too deep, with this token, and, whatever is after,
-- with no declaration of variables
abbrev pub GoesOn : Halt → Tokens → Type 0
GoesOn (Unexpected rest) tail = Unit {0}
GoesOn (TooDeep []) tail = ⊥
GoesOn (TooDeep (t ∷ rest)) tail = (more : Tokens) × (tail ≡ t ∷ more) × ((after : Tokens) → is_vars (tail ++ after) ≡ false)

pub goes_on_with : (h : Halt) (tail more : Tokens) → GoesOn h tail → GoesOn h (tail ++ more)
goes_on_with (Unexpected rest) tail more g = tt
goes_on_with (TooDeep []) tail more g = absurd g
goes_on_with (TooDeep (t ∷ rest)) tail more g = (g.0 ++ more, ap (λ (ts : Tokens). ts ++ more) g.1, λ after. subst (λ (ts : Tokens). is_vars ts ≡ false) (sym (append_assoc tail more after)) (g.2 (more ++ after)))

-- the tokens that were taken are the phrase whatever is left after them, and whatever the depth isn't asked of
pub record TakenTokens {A : Type 0} (ts : Tokens) (x : A) (rest : Tokens) (P : ℕ → Tokens → A → Tokens → Type 0) : Type 0 where
  pub taken : Tokens
  pub all : ts ≡ taken ++ rest
  pub is : (free : ℕ) (left : Tokens) → P free (taken ++ left) x left

-- the tokens before the fault begin the phrase: with this tail they are one,
-- where the depth isn't asked from the tail on
pub record Stopped {A : Type 0} (ts : Tokens) (h : Halt) (P : ℕ → Tokens → A → Tokens → Type 0) : Type 0 where
  pub prefix : Tokens
  pub all : ts ≡ prefix ++ left_at h
  pub tail : Tokens
  pub goes_on : GoesOn h tail
  pub tree : A
  pub is : (left : Tokens) → P (length tail + length left) (prefix ++ (tail ++ left)) tree left

abbrev pub Explained : {A : Type 0} → ParseResult A → Tokens → (ℕ → Tokens → A → Tokens → Type 0) → Type 0
Explained (Ok y) ts P = TakenTokens ts y.0 y.1 P
Explained (Err h) ts P = Stopped ts h P

-- some tokens are the phrase, where the depth isn't asked of them
pub record Filled {A : Type 0} (P : ℕ → Tokens → A → Tokens → Type 0) : Type 0 where
  pub text : Tokens
  pub tree : A
  pub is : (free : ℕ) (left : Tokens) → length (text ++ left) ≤ free → P free (text ++ left) tree left

pub record Law {A : Type 0} (o : ParseResult A) (ts : Tokens) (P : ℕ → Tokens → A → Tokens → Type 0) : Type 0 where
  pub explained : Explained o ts P
  pub filled : Filled P

-- what is after a phrase P with the tree x is, with it, a phrase Q
abbrev pub Then : {A B : Type 0} → (ℕ → Tokens → A → Tokens → Type 0) → (ℕ → Tokens → B → Tokens → Type 0) → A → ℕ → Tokens → B → Tokens → Type 0
Then P Q x free from y left = (before : Tokens) → P free before x from → Q free before y left

-- the phrase P after a token
abbrev pub After : {A : Type 0} → Meaning × Position → (ℕ → Tokens → A → Tokens → Type 0) → ℕ → Tokens → A → Tokens → Type 0
After t P free from x left = P free (t ∷ from) x left

module _ {A B : Type 0} (P : ℕ → Tokens → A → Tokens → Type 0) (Q : ℕ → Tokens → B → Tokens → Type 0) where
  both : (o : ParseResult B) (ts : Tokens) (x : A) (rest : Tokens) → TakenTokens ts x rest P → Explained o rest (Then P Q x) → Explained o ts Q
  both (Ok y) ts x rest t e = record {
    taken = t.taken ++ e.taken;
    all = t.all ∙ ap (λ (r : Tokens). t.taken ++ r) e.all ∙ sym (append_assoc t.taken e.taken y.1);
    is = λ free left. subst (λ (l : Tokens). Q free l y.0 left) (sym (append_assoc t.taken e.taken left)) (e.is free left (t.taken ++ (e.taken ++ left)) (t.is free (e.taken ++ left)));
  }
  both (Err h) ts x rest t e = record {
    prefix = t.taken ++ e.prefix;
    all = t.all ∙ ap (λ (r : Tokens). t.taken ++ r) e.all ∙ sym (append_assoc t.taken e.prefix (left_at h));
    tail = e.tail;
    goes_on = e.goes_on;
    tree = e.tree;
    is = λ left. subst (λ (l : Tokens). Q (length e.tail + length left) l e.tree left) (sym (append_assoc t.taken e.prefix (e.tail ++ left))) (e.is left (t.taken ++ (e.prefix ++ (e.tail ++ left))) (t.is (length e.tail + length left) (e.prefix ++ (e.tail ++ left))));
  }

  -- where the first stops, any second may follow it
  first : (h : Halt) (ts : Tokens) → (s : Stopped ts h P) → Filled (Then P Q s.tree) → Stopped ts h Q
  first h ts s f = record {
    prefix = s.prefix;
    all = s.all;
    tail = s.tail ++ f.text;
    goes_on = goes_on_with h s.tail f.text s.goes_on;
    tree = f.tree;
    is = λ left.
        let n : length (s.tail ++ f.text) + length left ≡ length s.tail + length (f.text ++ left) = omega (arith, length-append s.tail f.text, length-append f.text left) in
        let big : length (f.text ++ left) ≤ length s.tail + length (f.text ++ left) = omega arith in
        subst (λ k. Q k (s.prefix ++ ((s.tail ++ f.text) ++ left)) f.tree left) (sym n)
        (subst (λ (l : Tokens). Q (length s.tail + length (f.text ++ left)) (s.prefix ++ l) f.tree left) (sym (append_assoc s.tail f.text left))
        (f.is (length s.tail + length (f.text ++ left)) left big (s.prefix ++ (s.tail ++ (f.text ++ left))) (s.is (f.text ++ left))));
  }

  pub explain_then : (o : ParseResult A) (f : A × Tokens → ParseResult B) (ts : Tokens) → Explained o ts P → ((x : A) → Filled (Then P Q x)) → ((x : A) (rest : Tokens) → o ≡ Ok (x, rest) → Explained (f (x, rest)) rest (Then P Q x)) → Explained (o >>= f) ts Q
  explain_then (Ok y) f ts e fill go = both (f y) ts y.0 y.1 e (go y.0 y.1 refl)
  explain_then (Err h) f ts e fill go = first h ts e (fill e.tree)

  pub fill_then : (p : Filled P) → Filled (Then P Q p.tree) → Filled Q
  fill_then p q = record {
    text = p.text ++ q.text;
    tree = q.tree;
    is = λ free left big.
        let same : (p.text ++ q.text) ++ left ≡ p.text ++ (q.text ++ left) = append_assoc p.text q.text left in
        let n : length (p.text ++ (q.text ++ left)) ≡ length p.text + length (q.text ++ left) = length-append p.text (q.text ++ left) in
        let k : length ((p.text ++ q.text) ++ left) ≡ length (p.text ++ (q.text ++ left)) = ap (λ (l : Tokens). length l) same in
        subst (λ (l : Tokens). Q free l q.tree left) (sym same) (q.is free left (omega arith) (p.text ++ (q.text ++ left)) (p.is free (q.text ++ left) (omega arith)));
  }

  -- a phrase, and what is read after it
  pub then : (o : ParseResult A) (f : A × Tokens → ParseResult B) (ts : Tokens) → Law o ts P → ((x : A) (rest : Tokens) → Law (f (x, rest)) rest (Then P Q x)) → Law (o >>= f) ts Q
  then o f ts l go = record {
    explained = explain_then o f ts l.explained (λ x. (go x []).filled) (λ x rest e. (go x rest).explained);
    filled = fill_then l.filled (go l.filled.tree []).filled;
  }

module _ {A : Type 0} (P Q : ℕ → Tokens → A → Tokens → Type 0) (to : (free : ℕ) (from : Tokens) (x : A) (left : Tokens) → P free from x left → Q free from x left) where
  pub explain_as : (o : ParseResult A) (ts : Tokens) → Explained o ts P → Explained o ts Q
  explain_as (Ok y) ts e = record { taken = e.taken; all = e.all; is = λ free left. to free (e.taken ++ left) y.0 left (e.is free left) }
  explain_as (Err h) ts e = record { prefix = e.prefix; all = e.all; tail = e.tail; goes_on = e.goes_on; tree = e.tree; is = λ left. to (length e.tail + length left) (e.prefix ++ (e.tail ++ left)) e.tree left (e.is left) }

  pub fill_as : Filled P → Filled Q
  fill_as f = record { text = f.text; tree = f.tree; is = λ free left big. to free (f.text ++ left) f.tree left (f.is free left big) }

  -- each phrase P is a phrase Q
  pub law_as : (o : ParseResult A) (ts : Tokens) → Law o ts P → Law o ts Q
  law_as o ts l = record { explained = explain_as o ts l.explained; filled = fill_as l.filled }

-- where nothing is taken
pub done_at : {A : Type 0} (Q : ℕ → Tokens → A → Tokens → Type 0) (x : A) (rest : Tokens) → ((free : ℕ) (left : Tokens) → Q free left x left) → Explained (Ok (x, rest)) rest Q
done_at Q x rest q = record { taken = []; all = refl; is = q }

pub fill_here : {A : Type 0} (Q : ℕ → Tokens → A → Tokens → Type 0) (x : A) → ((free : ℕ) (left : Tokens) → Q free left x left) → Filled Q
fill_here Q x q = record { text = []; tree = x; is = λ free left big. q free left }

pub done : {A : Type 0} (Q : ℕ → Tokens → A → Tokens → Type 0) (x : A) (rest : Tokens) → ((free : ℕ) (left : Tokens) → Q free left x left) → Law (Ok (x, rest)) rest Q
done Q x rest q = record { explained = done_at Q x rest q; filled = fill_here Q x q }

-- a reading that stops at its first token
pub stopped_at : {A : Type 0} (Q : ℕ → Tokens → A → Tokens → Type 0) (ts : Tokens) → Filled Q → Stopped ts (Unexpected ts) Q
stopped_at Q ts f = record { prefix = []; all = refl; tail = f.text; goes_on = tt; tree = f.tree; is = λ left. let n : length (f.text ++ left) ≡ length f.text + length left = length-append f.text left in f.is (length f.text + length left) left (omega arith) }

pub stops_here : {A : Type 0} (Q : ℕ → Tokens → A → Tokens → Type 0) (ts : Tokens) → Filled Q → Law (Err (Unexpected ts)) ts Q
stops_here Q ts f = record { explained = stopped_at Q ts f; filled = f }

-- some tokens after this one are, with it, the phrase, where the depth isn't asked of them,
-- and no declaration of variables
pub record FilledBy {A : Type 0} (t : Meaning × Position) (P : ℕ → Tokens → A → Tokens → Type 0) : Type 0 where
  pub text : Tokens
  pub tree : A
  pub is : (free : ℕ) (left : Tokens) → length (t ∷ (text ++ left)) ≤ free → P free (t ∷ (text ++ left)) tree left
  pub no_vars : (after : Tokens) → is_vars (t ∷ (text ++ after)) ≡ false

-- a reading that stops at a token that is too deep
pub too_deep_at : {A : Type 0} (Q : ℕ → Tokens → A → Tokens → Type 0) (t : Meaning × Position) (ts : Tokens) → FilledBy t Q → Stopped (t ∷ ts) (TooDeep (t ∷ ts)) Q
too_deep_at Q t ts f = record { prefix = []; all = refl; tail = t ∷ f.text; goes_on = (f.text, refl, f.no_vars); tree = f.tree; is = λ left. let n : length (f.text ++ left) ≡ length f.text + length left = length-append f.text left in f.is (length (t ∷ f.text) + length left) left (omega arith) }

-- one token, and what is read after it
module _ {A : Type 0} (Q : ℕ → Tokens → A → Tokens → Type 0) (t : Meaning × Position) where
  pub explain_after : (o : ParseResult A) (ts : Tokens) → Explained o ts (After t Q) → Explained o (t ∷ ts) Q
  explain_after (Ok y) ts e = record { taken = t ∷ e.taken; all = ap (λ (r : Tokens). t ∷ r) e.all; is = e.is }
  explain_after (Err h) ts e = record { prefix = t ∷ e.prefix; all = ap (λ (r : Tokens). t ∷ r) e.all; tail = e.tail; goes_on = e.goes_on; tree = e.tree; is = e.is }

  pub fill_after : Filled (After t Q) → Filled Q
  fill_after f = record { text = t ∷ f.text; tree = f.tree; is = λ free left big. f.is free left (omega arith) }

  pub after : (o : ParseResult A) (ts : Tokens) → Law o ts (After t Q) → Law o (t ∷ ts) Q
  after o ts l = record { explained = explain_after o ts l.explained; filled = fill_after l.filled }

-- where a made-up token is
abbrev pub nowhere : Position
nowhere = record { at = 0; line = 1 }

-- a made-up name
abbrev pub some_name : List ℕ
some_name = 120 ∷ []

pub either : {A : Type 0} (b : Bool) (x y : ParseResult A) (ts : Tokens) (Q : ℕ → Tokens → A → Tokens → Type 0) → Law x ts Q → Law y ts Q → Law (cond b x y) ts Q
either true x y ts Q l r = l
either false x y ts Q l r = r

-- by a test
pub explain_either : {A : Type 0} (b : Bool) (x y : ParseResult A) (ts : Tokens) (Q : ℕ → Tokens → A → Tokens → Type 0) → (b ≡ true → Explained x ts Q) → (b ≡ false → Explained y ts Q) → Explained (cond b x y) ts Q
explain_either true x y ts Q l r = l refl
explain_either false x y ts Q l r = r refl

-- this sign, and what is read after it
explain_sign : {A : Type 0} (Q : ℕ → Tokens → A → Tokens → Type 0) (s : Sign) (f : Position × Tokens → ParseResult A) (ts : Tokens) → Filled Q → ((p : Position) (rest : Tokens) → Explained (f (p, rest)) rest (After (sign s, p) Q)) → Explained (expect_at s ts >>= f) ts Q
unfolding expect_at
explain_sign Q s f [] fill go = stopped_at Q [] fill
explain_sign {A} Q s f ((m, p) ∷ ts) fill go =
    let M : Bool → Type 0 = λ b. is_sign s m ≡ b → Explained (◌>>=◌ {A = Position} {B = A} (cond b (Ok (p, ts)) (Err (Unexpected ((m, p) ∷ ts)))) f) ((m, p) ∷ ts) Q in
    (elim (is_sign s m) as M [ true ↦ λ e. subst (λ w. Explained (f (p, ts)) ((w, p) ∷ ts) Q) (sym (sign_is s m e)) (explain_after Q (sign s, p) (f (p, ts)) ts (go p ts)) | false ↦ λ e. stopped_at Q ((m, p) ∷ ts) fill ]) refl

pub sign_then : {A : Type 0} (Q : ℕ → Tokens → A → Tokens → Type 0) (s : Sign) (f : Position × Tokens → ParseResult A) (ts : Tokens) → ((p : Position) (rest : Tokens) → Law (f (p, rest)) rest (After (sign s, p) Q)) → Law (expect_at s ts >>= f) ts Q
sign_then Q s f ts go =
    let fill : Filled Q = fill_after Q (sign s, nowhere) (go nowhere []).filled in
    record { explained = explain_sign Q s f ts fill (λ p rest. (go p rest).explained); filled = fill }

-- a name, and what is read after it
explain_name : {A : Type 0} (Q : ℕ → Tokens → A → Tokens → Type 0) (f : (List ℕ × Position) × Tokens → ParseResult A) (ts : Tokens) → Filled Q → ((n : List ℕ × Position) (rest : Tokens) → Explained (f (n, rest)) rest (After (name n.0, n.1) Q)) → Explained (name_at ts >>= f) ts Q
unfolding name_at
explain_name Q f [] fill go = stopped_at Q [] fill
explain_name Q f ((name t, p) ∷ ts) fill go = explain_after Q (name t, p) (f ((t, p), ts)) ts (go (t, p) ts)
explain_name Q f ((number n, p) ∷ ts) fill go = stopped_at Q ((number n, p) ∷ ts) fill
explain_name Q f ((sign n, p) ∷ ts) fill go = stopped_at Q ((sign n, p) ∷ ts) fill
explain_name Q f ((reserved n, p) ∷ ts) fill go = stopped_at Q ((reserved n, p) ∷ ts) fill
explain_name Q f ((unsupported n, p) ∷ ts) fill go = stopped_at Q ((unsupported n, p) ∷ ts) fill

pub name_then : {A : Type 0} (Q : ℕ → Tokens → A → Tokens → Type 0) (f : (List ℕ × Position) × Tokens → ParseResult A) (ts : Tokens) → ((n : List ℕ × Position) (rest : Tokens) → Law (f (n, rest)) rest (After (name n.0, n.1) Q)) → Law (name_at ts >>= f) ts Q
name_then Q f ts go =
    let fill : Filled Q = fill_after Q (name some_name, nowhere) (go (some_name, nowhere) []).filled in
    record { explained = explain_name Q f ts fill (λ p rest. (go p rest).explained); filled = fill }

-- a phrase, with the sign after it
abbrev pub Ending : {A : Type 0} → Sign → (ℕ → Tokens → A → Tokens → Type 0) → ℕ → Tokens → A → Tokens → Type 0
Ending s P free from x left = (p : Position) × P free from x ((sign s, p) ∷ left)

pub ending : {A : Type 0} (P : ℕ → Tokens → A → Tokens → Type 0) (s : Sign) (o : ParseResult A) (ts : Tokens) → Law o ts P → Law (o >>= λ x. expect_at s x.1 >>= λ z. Ok (x.0, z.1)) ts (Ending s P)
ending P s o ts law =
    then P _ o _ ts law
    (λ x r. sign_then _ s _ r
    (λ q t. done _ x t (λ free left before d. (q, d))))

-- one more before what is read
module _ {A : Type 0} (P Q : ℕ → Tokens → List A → Tokens → Type 0) (x : A) (to : (free : ℕ) (from : Tokens) (xs : List A) (left : Tokens) → P free from xs left → Q free from (x ∷ xs) left) where
  pub explain_put : (o : ParseResult (List A)) (ts : Tokens) → Explained o ts P → Explained (put x o) ts Q
  explain_put (Ok y) ts e = record { taken = e.taken; all = e.all; is = λ free left. to free (e.taken ++ left) y.0 left (e.is free left) }
  explain_put (Err h) ts e = record { prefix = e.prefix; all = e.all; tail = e.tail; goes_on = e.goes_on; tree = x ∷ e.tree; is = λ left. to (length e.tail + length left) (e.prefix ++ (e.tail ++ left)) e.tree left (e.is left) }

  pub fill_put : Filled P → Filled Q
  fill_put f = record { text = f.text; tree = x ∷ f.tree; is = λ free left big. to free (f.text ++ left) f.tree left (f.is free left big) }

  pub put_law : (o : ParseResult (List A)) (ts : Tokens) → Law o ts P → Law (put x o) ts Q
  put_law o ts l = record { explained = explain_put o ts l.explained; filled = fill_put l.filled }

-- one more before a list
abbrev pub Grows : {A : Type 0} → (ℕ → Tokens → List A → Tokens → Type 0) → ℕ → Tokens → A → Tokens → Type 0
Grows {A} Q free from x after = (xs : List A) (left : Tokens) → Q free after xs left → Q free from (x ∷ xs) left

-- again and again
module _ {A : Type 0} (more : Tokens → Bool) (read : Tokens → ParseResult A) (Q : ℕ → Tokens → List A → Tokens → Type 0) (nil : (free : ℕ) (left : Tokens) → Q free left [] left) (one : (s : Tokens) → more s ≡ true → Explained (read s) s (Grows Q)) where
  pub again : (n : ℕ) (s : Tokens) → Explained (repeat more read n s) s Q
  unfolding repeat
  again zero s = done_at Q [] s nil
  again (suc n) s =
      explain_either (more s) (read s >>= λ x. put x.0 (repeat more read n x.1)) (Ok ([], s)) s Q
      (λ b. explain_then (Grows Q) Q (read s) (λ x. put x.0 (repeat more read n x.1)) s (one s b)
      (λ x. fill_here (Then (Grows Q) Q x) (x ∷ []) (λ free left before g. g [] left (nil free left)))
      (λ x rest e. explain_put Q (Then (Grows Q) Q x) x (λ free from xs left q before g. g xs left q) (repeat more read n rest) rest (again n rest)))
      (λ b. done_at Q [] s nil)

  pub all_of : (n : ℕ) (s : Tokens) → Law (repeat more read n s) s Q
  all_of n s = record { explained = again n s; filled = fill_here Q [] nil }
