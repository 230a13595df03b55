-- Entries in order: two lists of marks by number over which the same sums are taken are one.
use Rattle.std.proofs.Common.{◌≡◌, ℕ, Bool, true, false, cond, List, [], ◌∷◌, refl, sym, subst, ap, ◌∙◌, nat_eq, nat_lt, arith, zero, suc, length, ◌≤◌, ◌<◌, ◌&&◌, get_or, ◌⊎◌, inl, inr, map}
use Rattle.std.specs.Prelude.{sum_by}
use Rattle.std.specs.Bool.{beq}
use Rattle.std.specs.List.{AllByRecursion}
use Rattle.std.specs.List.Sorted.{IsNonDecreasingBy, IsStrictlySortedBy, IsStrictlyIncreasing}
use Rattle.std.specs.Ordering.{nat_cmp}
use Rattle.std.proofs.Common.{Less}
use Rattle.std.proofs.lemmas.Map.Keys.{sorted_from_strictly_increasing}
use Rattle.std.proofs.lemmas.Bool.{eq-eqb}
use Rattle.std.proofs.lemmas.Bool.Decides.{nat_tests}
use Rattle.std.proofs.lemmas.List.Sums.{sum_by-cons}
use Rattle.ash_host.specs.Objects.{numbers, IsInOrder}
use Rattle.ash_host.proofs.Order.{in_order_after}

abbrev Marks : Type 0
Marks = List (ℕ × Bool)

-- each number is at least a bound, and at most the next
NotBelow : ℕ → List (ℕ × Bool) → Type 0
NotBelow j [] = Unit {0}
NotBelow j (e ∷ l) = (j ≤ e.0) × NotBelow e.0 l

-- each number is above a bound
AllAbove : ℕ → List (ℕ × Bool) → Type 0
AllAbove j [] = Unit {0}
AllAbove j (e ∷ l) = (j < e.0) × AllAbove j l

-- how many are one mark
is_mark : ℕ → Bool → ℕ × Bool → ℕ
is_mark n b e = cond {A = ℕ} (nat_eq n e.0 && beq b e.1) 1 0

same_flag : (b : Bool) → beq b b ≡ true
same_flag true = refl
same_flag false = refl

is_itself : (e : ℕ × Bool) → is_mark e.0 e.1 e ≡ 1
unfolding is_mark
is_itself e =
    ap (λ (b : Bool). cond {A = ℕ} (b && beq e.1 e.1) 1 0) (eq-eqb e.0 e.0 refl) ∙ ap (λ (b : Bool). cond {A = ℕ} b 1 0) (same_flag e.1)

is_other : (n : ℕ) (b : Bool) (e : ℕ × Bool) → nat_eq n e.0 ≡ false → is_mark n b e ≡ 0
unfolding is_mark
is_other n b e h = ap (λ (t : Bool). cond {A = ℕ} (t && beq b e.1) 1 0) h

apart_flag : (a b : Bool) → beq a b ≡ false → (c : Bool) → cond {A = ℕ} (c && beq a b) 1 0 ≡ 0
apart_flag a b h true = ap (λ (t : Bool). cond {A = ℕ} t 1 0) h
apart_flag a b h false = refl

is_flagged : (n : ℕ) (b : Bool) (e : ℕ × Bool) → beq b e.1 ≡ false → is_mark n b e ≡ 0
unfolding is_mark
is_flagged n b e h = apart_flag b e.1 h (nat_eq n e.0)

-- a number below all others is no mark's
none_below : (n : ℕ) (b : Bool) (j : ℕ) (l : List (ℕ × Bool)) → n < j → NotBelow j l → sum_by (is_mark n b) l ≡ 0
unfolding NotBelow
none_below n b j [] below r = refl
none_below n b j (e ∷ l) below r =
    let here : j ≤ e.0 = r.0 in
    let apart : nat_eq n e.0 ≡ false = grind (arith, nat_tests) in
    omega (arith, sum_by-cons (is_mark n b) e l, is_other n b e apart, none_below n b e.0 l (omega arith) r.1)

none_above : (n : ℕ) (b : Bool) (l : List (ℕ × Bool)) → AllAbove n l → sum_by (is_mark n b) l ≡ 0
unfolding AllAbove
none_above n b [] r = refl
none_above n b (e ∷ l) r =
    let here : n < e.0 = r.0 in
    let apart : nat_eq n e.0 ≡ false = grind (arith, nat_tests) in
    omega (arith, sum_by-cons (is_mark n b) e l, is_other n b e apart, none_above n b l r.1)

-- each number is below those after it
Ascends : List (ℕ × Bool) → Type 0
Ascends [] = Unit {0}
Ascends (e ∷ l) = AllAbove e.0 l × Ascends l

above_lower : (j k : ℕ) (l : List (ℕ × Bool)) → j ≤ k → AllAbove k l → AllAbove j l
unfolding AllAbove
above_lower j k [] le a = tt
above_lower j k (e ∷ l) le a = let here : k < e.0 = a.0 in (omega arith, above_lower j k l le a.1)

three_ways : (m n : ℕ) → (m < n) ⊎ ((m ≡ n) ⊎ (n < m))
three_ways m n = go (nat_lt m n) (nat_lt n m) refl refl
  where
    go : (b c : Bool) → nat_lt m n ≡ b → nat_lt n m ≡ c → (m < n) ⊎ ((m ≡ n) ⊎ (n < m))
    go true c p q = inl (grind (arith, nat_tests))
    go false true p q = inr (inr (grind (arith, nat_tests)))
    go false false p q = inr (inl (grind (arith, nat_tests)))

flags : (a b : Bool) → beq a b ≡ true → a ≡ b
flags true true h = refl
flags true false h = cc
flags false true h = cc
flags false false h = refl

not_below_later : (j : ℕ) (l : List (ℕ × Bool)) → NotBelow j l → (k : ℕ) → k ≤ j → NotBelow k l
unfolding NotBelow
not_below_later j [] r k le = tt
not_below_later j (e ∷ l) r k le = let here : j ≤ e.0 = r.0 in (omega arith, r.1)

-- marks that do not fall are others that ascend where the same is summed over both
sums_same : (a b : List (ℕ × Bool)) → NotBelow 0 a → Ascends b
    → ((measure : ℕ × Bool → ℕ) → sum_by measure a ≡ sum_by measure b) → a ≡ b
unfolding NotBelow AllAbove Ascends
sums_same [] [] ra rb same = refl
sums_same [] (f ∷ b) ra rb same = let all = same (λ e. 1) in absurd (omega (arith, all, sum_by-cons (λ (e : ℕ × Bool). 1) f b))
sums_same (e ∷ a) [] ra rb same = let all = same (λ e. 1) in absurd (omega (arith, all, sum_by-cons (λ (e : ℕ × Bool). 1) e a))
sums_same (e ∷ a) (f ∷ b) ra rb same =
    elim (three_ways e.0 f.0) [
      | inl below ↦
          let all = same (is_mark e.0 e.1) in
          let apart : nat_eq e.0 f.0 ≡ false = grind (arith, nat_tests) in
          let none = none_above e.0 e.1 b (above_lower e.0 f.0 b (omega arith) rb.0) in
          absurd (omega (arith, all, is_itself e, is_other e.0 e.1 f apart, none, sum_by-cons (is_mark e.0 e.1) e a, sum_by-cons (is_mark e.0 e.1) f b))
      | inr rest ↦
          elim rest [
            | inl level ↦
                together level
                (λ one. sums_same a b (not_below_later e.0 a ra.1 0 (omega arith)) rb.1
                (λ measure. let all = same measure in let here = ap measure one in omega (arith, all, here, sum_by-cons measure e a, sum_by-cons measure f b)))
                (beq f.1 e.1) refl
            | inr above ↦
                let all = same (is_mark f.0 f.1) in
                let apart : nat_eq f.0 e.0 ≡ false = grind (arith, nat_tests) in
                let none = none_below f.0 f.1 e.0 a above ra.1 in
                absurd (omega (arith, all, is_itself f, is_other f.0 f.1 e apart, none, sum_by-cons (is_mark f.0 f.1) e a, sum_by-cons (is_mark f.0 f.1) f b))
          ]
    ]
  where
    turn : (x y : Bool) → beq y x ≡ false → beq x y ≡ false
    turn true true h = h
    turn true false h = h
    turn false true h = h
    turn false false h = h

    together : e.0 ≡ f.0 → (e ≡ f → a ≡ b) → (t : Bool) → beq f.1 e.1 ≡ t → e ∷ a ≡ f ∷ b
    together level tails true is =
        let head : e ≡ f = ap (λ (k : ℕ). (k, e.1)) level ∙ ap (λ (v : Bool). (f.0, v)) (sym (flags f.1 e.1 is)) in
        ap (λ (x : ℕ × Bool). x ∷ a) head ∙ ap (λ (l : List (ℕ × Bool)). f ∷ l) (tails head)
    together level tails false is =
        let all = same (is_mark e.0 e.1) in
        let apart = is_flagged e.0 e.1 f (turn e.1 f.1 is) in
        let none = none_above e.0 e.1 b (above_lower e.0 f.0 b (omega arith) rb.0) in
        absurd (omega (arith, all, is_itself e, apart, none, sum_by-cons (is_mark e.0 e.1) e a, sum_by-cons (is_mark e.0 e.1) f b))

less : (x y : ℕ) → nat_cmp x y ≡ Less → x < y
less x y h = grind (arith, nat_tests)

all_above : (j : ℕ) (l : List (ℕ × Bool)) → AllByRecursion (λ y. nat_cmp j y ≡ Less) (numbers l) → AllAbove j l
unfolding AllAbove
all_above j [] h = tt
all_above j (e ∷ l) h = (less j e.0 h.0, all_above j l h.1)

in_order_above : (e : ℕ × Bool) (l : List (ℕ × Bool)) → IsInOrder (e ∷ l) → AllAbove e.0 l
unfolding IsStrictlySortedBy
in_order_above e l o = all_above e.0 l (sorted_from_strictly_increasing (numbers (e ∷ l)) o).0

-- marks in order ascend
ascend : (l : List (ℕ × Bool)) → IsInOrder l → Ascends l
unfolding Ascends
ascend [] o = tt
ascend (e ∷ l) o = (in_order_above e l o, ascend l (in_order_after e l o))

-- marks that do not fall by index
not_below : (j : ℕ) (l : List (ℕ × Bool)) → IsNonDecreasingBy (λ e. e.0) l
    → ((d : ℕ × Bool) → 0 < length l → j ≤ (get_or l 0 d).0) → NotBelow j l
unfolding NotBelow
not_below j [] n first = tt
not_below j (e ∷ l) n first =
    (first e (omega arith), not_below e.0 l (λ i k d le within. n (suc i) (suc k) d (omega arith) (omega arith)) (λ d some. n 0 1 d (omega arith) (omega arith)))

-- sorted marks are those in order over which the same is summed
pub sorted_same : (a b : List (ℕ × Bool)) → IsNonDecreasingBy (λ e. e.0) a → IsInOrder b
    → ((measure : ℕ × Bool → ℕ) → sum_by measure a ≡ sum_by measure b) → a ≡ b
sorted_same a b n o same = sums_same a b (not_below 0 a n (λ d some. omega arith)) (ascend b o) same

flagged : ℕ → ℕ × Bool
flagged n = (n, false)

sum-flagged : (measure : ℕ × Bool → ℕ) (ns : List ℕ) → sum_by measure (map flagged ns)
    ≡ sum_by (λ n. measure (flagged n)) ns
sum-flagged measure [] = refl
sum-flagged measure (n ∷ ns) =
    omega (
      arith,
      sum_by-cons measure (flagged n) (map flagged ns),
      sum_by-cons
          (λ k. measure (flagged k)) n ns,
      sum-flagged measure ns,
    )

numbers-flagged : (ns : List ℕ) → numbers (map flagged ns) ≡ ns
unfolding flagged
numbers-flagged [] = refl
numbers-flagged (n ∷ ns) = ap (λ (l : List ℕ). n ∷ l) (numbers-flagged ns)

length-flagged : (ns : List ℕ) → length (map flagged ns) ≡ length ns
length-flagged [] = refl
length-flagged (n ∷ ns) = ap suc (length-flagged ns)

got-flagged : (ns : List ℕ) (k : ℕ) (d : ℕ × Bool) → k < length ns → (get_or (map flagged ns) k d).0 ≡ get_or ns k 0
unfolding flagged
got-flagged [] k d within = absurd (omega arith)
got-flagged (n ∷ ns) zero d within = refl
got-flagged (n ∷ ns) (suc k) d within = got-flagged ns k d (omega arith)

rising-flagged : (ns : List ℕ) → IsNonDecreasingBy (λ n. n) ns → IsNonDecreasingBy (λ e. e.0) (map flagged ns)
rising-flagged ns n = λ i j d le within.
    let many = length-flagged ns in
    let first = got-flagged ns i d (omega (arith, many)) in
    let second = got-flagged ns j d (omega (arith, many)) in
    let rises = n i j 0 le (omega (arith, many)) in
    omega (arith, first, second, rises)

-- sorted numbers are those that rise over which the same is summed
pub sorted_numbers : (a b : List ℕ) → IsNonDecreasingBy (λ n. n) a → IsStrictlyIncreasing b
    → ((measure : ℕ → ℕ) → sum_by measure a ≡ sum_by measure b) → a ≡ b
sorted_numbers a b n o same =
    let all = sorted_same (map flagged a) (map flagged b) (rising-flagged a n) (subst (λ (ns : List ℕ). IsStrictlyIncreasing ns) (sym (numbers-flagged b)) o) (λ measure. omega (arith, sum-flagged measure a, sum-flagged measure b, same (λ k. measure (flagged k)))) in
    sym (numbers-flagged a) ∙ ap (λ (l : List (ℕ × Bool)). numbers l) all ∙ numbers-flagged b
