-- Where two answers agree, and one of them is a fault, the other is the same fault.
use Rattle.std.proofs.Common.{◌≡◌, ℕ, ◌<◌, ◌≤◌, inl, [], ◌∷◌, ◌++◌, length, true, false, Ok, Err, refl, ap, subst, length-append, arith}
use Rattle.ash_lex.specs.Tokens.{Meaning}
use Rattle.ash_tree.specs.declared.tree.places.Position.{Position}
use Rattle.ash_tree.specs.GrammarTokens.{Tokens}
use Rattle.ash_parse.specs.Readers.{Halt, Unexpected, TooDeep, ParseResult, ◌>>=◌}
use Rattle.ash_parse.specs.StatementReader.{is_vars}
use Rattle.ash_parse.specs.FirstFault.{LeavesOpen}
use Rattle.ash_parse.proofs.BeginLaws.{left_at}
use Rattle.ash_parse.proofs.Keeps.{Past, Fewer, Agree, reads, stops, deep, past, chosen, opens, Clear, ends_before, cut_before, unexpected, after_it}

ok_no_err : {A : Type 0} (x : A × Tokens) (e : Halt) → ◌≡◌ {A = ParseResult A} (Ok x) (Err e) → ⊥
ok_no_err x e h = cc

deep_no_unexpected : {A : Type 0} (s r : Tokens) → ◌≡◌ {A = ParseResult A} (Err (TooDeep s)) (Err (Unexpected r)) → ⊥
deep_no_unexpected s r h = cc

unexpected_no_deep : {A : Type 0} (s r : Tokens) → ◌≡◌ {A = ParseResult A} (Err (Unexpected s)) (Err (TooDeep r)) → ⊥
unexpected_no_deep s r h = cc

same_unexpected : {A : Type 0} (s r : Tokens) → ◌≡◌ {A = ParseResult A} (Err (Unexpected s)) (Err (Unexpected r)) → s ≡ r
same_unexpected s r h = cc

same_deep : {A : Type 0} (s r : Tokens) → ◌≡◌ {A = ParseResult A} (Err (TooDeep s)) (Err (TooDeep r)) → s ≡ r
same_deep s r h = cc

tails_same : (a b : Meaning × Position) (s r : Tokens) → ◌≡◌ {A = Tokens} (a ∷ s) (b ∷ r) → s ≡ r
tails_same a b s r h = cc

heads_same : (a b : Meaning × Position) (s r : Tokens) → ◌≡◌ {A = Tokens} (a ∷ s) (b ∷ r) → a ≡ b
heads_same a b s r h = cc

longer : (t : Meaning × Position) (prefix more : Tokens) → length more < length (prefix ++ t ∷ more)
longer t [] more = omega arith
longer t (a ∷ prefix) more = let e : length more < length (prefix ++ t ∷ more) = longer t prefix more in omega arith

-- what is before the same end is the same
same_prefix : (f g r : Tokens) → f ++ r ≡ g ++ r → f ≡ g
same_prefix [] [] r h = refl
same_prefix [] (b ∷ g) r h = let e : length r ≡ length (b ∷ g ++ r) = ap length h in let k = length-append g r in absurd (omega arith)
same_prefix (a ∷ f) [] r h = let e : length (a ∷ f ++ r) ≡ length r = ap length h in let k = length-append f r in absurd (omega arith)
same_prefix (a ∷ f) (b ∷ g) r h = both (heads_same a b (f ++ r) (g ++ r) h) (same_prefix f g r (tails_same a b (f ++ r) (g ++ r) h))
  where
    both : a ≡ b → f ≡ g → ◌≡◌ {A = Tokens} (a ∷ f) (b ∷ g)
    both h k = cc

pub stops_alike : {A : Type 0} {one two : ParseResult A} (t : Meaning × Position) (more other : Tokens) → Agree t more other one two → one ≡ Err (Unexpected (t ∷ more)) → two ≡ Err (Unexpected (t ∷ other))
stops_alike t more other (reads x prefix) h = absurd (ok_no_err (x, prefix ++ t ∷ more) (Unexpected (t ∷ more)) h)
stops_alike t more other (stops prefix) h = ap (λ (f : Tokens). Err (Unexpected (f ++ t ∷ other))) (same_prefix prefix [] (t ∷ more) (same_unexpected (prefix ++ t ∷ more) (t ∷ more) h))
stops_alike t more other (deep prefix) h = absurd (deep_no_unexpected (prefix ++ t ∷ more) (t ∷ more) h)
stops_alike {one} t more other (past l k) h = let e : length (t ∷ more) ≤ length more = subst (λ x. Past (length more) x) h l in absurd (omega arith)
stops_alike {one} t more other (chosen n l b) h =
    let e : length (t ∷ more) < n = subst (λ x. Fewer n x) h l in
    let k : n ≤ length more = b [] more (inl refl) refl in
    absurd (omega arith)
stops_alike t more other (opens prefix h k) e = absurd (deep_no_unexpected (prefix ++ t ∷ more) (t ∷ more) e)

-- where a token is too deep, after which `u` comes after what leaves open what it begins
pub deep_alike : {A : Type 0} {one two : ParseResult A} (seen : Tokens) (t : Meaning × Position) (more other : Tokens) → Agree t more other one two → (is_vars (seen ++ t ∷ more) ≡ false → is_vars (seen ++ t ∷ other) ≡ true → ⊥) → one ≡ Err (TooDeep (seen ++ t ∷ more)) → two ≡ Err (TooDeep (seen ++ t ∷ other))
deep_alike seen t more other (reads x prefix) same h = absurd (ok_no_err (x, prefix ++ t ∷ more) (TooDeep (seen ++ t ∷ more)) h)
deep_alike seen t more other (stops prefix) same h = absurd (unexpected_no_deep (prefix ++ t ∷ more) (seen ++ t ∷ more) h)
deep_alike seen t more other (deep prefix) same h = ap (λ (f : Tokens). Err (TooDeep (f ++ t ∷ other))) (same_prefix prefix seen (t ∷ more) (same_deep (prefix ++ t ∷ more) (seen ++ t ∷ more) h))
deep_alike {one} seen t more other (past l k) same h =
    let e : length (seen ++ t ∷ more) ≤ length more = subst (λ x. Past (length more) x) h l in
    let g : length more < length (seen ++ t ∷ more) = longer t seen more in
    absurd (omega arith)
deep_alike {one} seen t more other (chosen n l b) same h =
    let e : length (seen ++ t ∷ more) < n = subst (λ x. Fewer n x) h l in
    let k : n ≤ length more = b [] more (inl refl) refl in
    let g : length more < length (seen ++ t ∷ more) = longer t seen more in
    absurd (omega arith)
deep_alike seen t more other (opens prefix v w) same h =
    let e : prefix ≡ seen = same_prefix prefix seen (t ∷ more) (same_deep (prefix ++ t ∷ more) (seen ++ t ∷ more) h) in
    absurd (same (subst (λ (f : Tokens). is_vars (f ++ t ∷ more) ≡ false) e v) (subst (λ (f : Tokens). is_vars (f ++ t ∷ other) ≡ true) e w))

-- the tokens that are left where reading ends or stops
left_in : {A : Type 0} → ParseResult A → Tokens
left_in (Ok x) = x.1
left_in (Err h) = left_at h

left_of_err : {A : Type 0} (o : ParseResult A) (h : Halt) → o ≡ Err h → length (left_in o) ≡ length (left_at h)
unfolding left_in
left_of_err o h e = ap (λ x. length (left_in x)) e

fewer_left : {A : Type 0} (n : ℕ) (o : ParseResult A) → Fewer n o → length (left_in o) < n
unfolding left_in
fewer_left n (Ok x) h = h
fewer_left n (Err (Unexpected rest)) h = h
fewer_left n (Err (TooDeep rest)) h = h

-- where reading stops in the first at what follows what leaves open what `t` begins, `t` is not too deep in the second
pub not_deep_beyond : {A : Type 0} {one two : ParseResult A} (t : Meaning × Position) (more other seen : Tokens) (halt : Halt) → LeavesOpen t seen → more ≡ seen ++ left_at halt → Agree t more other one two → one ≡ Err halt → two ≡ Err (TooDeep (t ∷ other)) → ⊥
unfolding left_in
not_deep_beyond {A} t more other seen halt leaves is (reads x prefix) h k = ok_no_err (x, prefix ++ t ∷ more) halt h
not_deep_beyond {A} t more other seen halt leaves is (stops prefix) h k =
    let e : length (prefix ++ t ∷ more) ≡ length (left_at halt) = left_of_err {A = A} (Err (Unexpected (prefix ++ t ∷ more))) halt h in
    let l : length more < length (prefix ++ t ∷ more) = longer t prefix more in
    let m : length more ≡ length (seen ++ left_at halt) = ap length is in
    let n = length-append seen (left_at halt) in
    absurd (omega arith)
not_deep_beyond {A} t more other seen halt leaves is (deep prefix) h k =
    let e : length (prefix ++ t ∷ more) ≡ length (left_at halt) = left_of_err {A = A} (Err (TooDeep (prefix ++ t ∷ more))) halt h in
    let l : length more < length (prefix ++ t ∷ more) = longer t prefix more in
    let m : length more ≡ length (seen ++ left_at halt) = ap length is in
    let n = length-append seen (left_at halt) in
    absurd (omega arith)
not_deep_beyond t more other seen halt leaves is (past l b) h k = let e : length (t ∷ other) ≤ length other = subst (λ x. Past (length other) x) k b in absurd (omega arith)
not_deep_beyond {A} {one} t more other seen halt leaves is (chosen n l b) h k =
    let e : length (left_in one) ≡ length (left_at halt) = left_of_err one halt h in
    let f : length (left_in one) < n = fewer_left n one l in
    let g : n ≤ length (left_at halt) = b seen (left_at halt) leaves is in
    absurd (omega arith)
not_deep_beyond {A} t more other seen halt leaves is (opens prefix v w) h k =
    let e : length (prefix ++ t ∷ more) ≡ length (left_at halt) = left_of_err {A = A} (Err (TooDeep (prefix ++ t ∷ more))) halt h in
    let l : length more < length (prefix ++ t ∷ more) = longer t prefix more in
    let m : length more ≡ length (seen ++ left_at halt) = ap length is in
    let n = length-append seen (left_at halt) in
    absurd (omega arith)

-- reading is not cut inside an array's `"<" elem ">"`
pub not_cut_inside : {A : Type 0} {o : ParseResult A} (t : Meaning × Position) (more rest : Tokens) → length rest ≤ length more → Clear t more (length rest) o → o ≡ Err (TooDeep rest) → ⊥
not_cut_inside t more rest l (ends_before x prefix) h = ok_no_err (x, prefix ++ t ∷ more) (TooDeep rest) h
not_cut_inside {A} t more rest l (cut_before prefix) h =
    let e : length (prefix ++ t ∷ more) ≡ length rest = ap length (same_deep {A = A} (prefix ++ t ∷ more) rest h) in
    let k : length more < length (prefix ++ t ∷ more) = longer t prefix more in
    absurd (omega arith)
not_cut_inside {A} t more rest l (unexpected r) h = unexpected_no_deep {A = A} r rest h
not_cut_inside {A} {o} t more rest l (after_it f) h = let e : length rest < length rest = subst (λ x. Fewer (length rest) x) h f in absurd (omega arith)
