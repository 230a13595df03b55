-- Globals by their names.
use Rattle.std.proofs.Common.{◌≡◌, ◌+◌, ℕ, zero, suc, Bool, true, false, cond, List, [], ◌∷◌, ◌++◌, length, drop, map, Some, None, refl, sym, ◌∙◌, ap, arith}
use Rattle.std.specs.Prelude.{slice_get}
use Rattle.std.specs.List.{position_from}
use Rattle.std.specs.Option.{option_and_then}
use Rattle.std.specs.Str.{bytes_eq}
use Rattle.std.proofs.lemmas.List.{length-map}
use Rattle.ash_host.specs.declared.word.Word.{Word}
use Rattle.ash_typed.specs.Modules.{Variables}
use Rattle.ash_typed.specs.SoundModules.{name_of_variable, names_of_globals}
use Rattle.ash_plain_steps.specs.TaskViews.{word_among}

found_first : {A : Type 0} (t : A → Bool) (xs ys : List A) (i k : ℕ) → position_from t i xs ≡ Some k → position_from t i (xs ++ ys) ≡ Some k
found_first t [] ys i k e = absurd (cc)
found_first t (x ∷ xs) ys i k e = by (t x) (found_first t xs ys (i + 1) k) e
  where
    by : (b : Bool) → (position_from t (i + 1) xs ≡ Some k → position_from t (i + 1) (xs ++ ys) ≡ Some k) → cond b (Some i) (position_from t (i + 1) xs) ≡ Some k → cond b (Some i) (position_from t (i + 1) (xs ++ ys)) ≡ Some k
    by true rest is = is
    by false rest is = rest is

not_first : {A : Type 0} (t : A → Bool) (xs ys : List A) (i j : ℕ) → i + length xs ≡ j → position_from t i xs ≡ None → position_from t i (xs ++ ys) ≡ position_from t j ys
not_first t [] ys i j n e = ap (λ (k : ℕ). position_from t k ys) (let is : i ≡ j = omega (arith, n) in is)
not_first t (x ∷ xs) ys i j n e = by (t x) (not_first t xs ys (i + 1) j (omega (arith, n))) e
  where
    by : (b : Bool) → (position_from t (i + 1) xs ≡ None → position_from t (i + 1) (xs ++ ys) ≡ position_from t j ys) → cond b (Some i) (position_from t (i + 1) xs) ≡ None → cond b (Some i) (position_from t (i + 1) (xs ++ ys)) ≡ position_from t j ys
    by true rest is = absurd (cc)
    by false rest is = rest is

got_later : {A : Type 0} (ws : List A) (n i : ℕ) → slice_get ws (i + n) ≡ slice_get (drop n ws) i
got_later ws zero i = ap (slice_get ws) (let is : i + 0 ≡ i = omega arith in is)
got_later [] (suc n) i = refl
got_later (w ∷ ws) (suc n) i = ap (slice_get (w ∷ ws)) (let is : i + suc n ≡ suc (i + n) = omega arith in is) ∙ got_later ws n i

later : {A B : Type 0} (t : A → Bool) (ys : List A) (ws : List B) (n i j : ℕ) → i + n ≡ j → option_and_then (λ p. slice_get ws p) (position_from t j ys) ≡ option_and_then (λ p. slice_get (drop n ws) p) (position_from t i ys)
later t [] ws n i j e = refl
later {A} {B} t (y ∷ ys) ws n i j e = by (t y) (later t ys ws n (i + 1) (j + 1) (omega (arith, e)))
  where
    by : (b : Bool) → option_and_then (λ p. slice_get ws p) (position_from t (j + 1) ys) ≡ option_and_then (λ p. slice_get (drop n ws) p) (position_from t (i + 1) ys) → option_and_then (λ p. slice_get ws p) (cond b (Some j) (position_from t (j + 1) ys)) ≡ option_and_then (λ p. slice_get (drop n ws) p) (cond b (Some i) (position_from t (i + 1) ys))
    by true rest = ap (slice_get ws) (sym e) ∙ got_later ws n i
    by false rest = rest

-- a global of the first declaration
pub word_here : (name : List ℕ) (v : Variables) (vs : List Variables) (ws : List Word) (k : ℕ) → position_from (λ other. bytes_eq other name) 0 (map name_of_variable v.values) ≡ Some k → word_among name (v ∷ vs) ws ≡ slice_get ws k
word_here name v vs ws k e =
    ap (option_and_then (λ p. slice_get ws p)) (found_first (λ other. bytes_eq other name) (map name_of_variable v.values) (names_of_globals vs) 0 k e)

-- a global of another one
pub word_past : (name : List ℕ) (v : Variables) (vs : List Variables) (ws : List Word) → position_from (λ other. bytes_eq other name) 0 (map name_of_variable v.values) ≡ None → word_among name (v ∷ vs) ws ≡ word_among name vs (drop (length v.values) ws)
word_past name v vs ws e =
    ap (option_and_then (λ p. slice_get ws p)) (not_first (λ other. bytes_eq other name) (map name_of_variable v.values) (names_of_globals vs) 0 (length v.values) (omega (arith, length-map v.values name_of_variable)) e)
    ∙ later (λ other. bytes_eq other name) (names_of_globals vs) ws (length v.values) 0 (length v.values) (omega arith)
