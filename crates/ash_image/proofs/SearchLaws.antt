-- A search marks what is reachable, and nothing else.
use Rattle.std.proofs.Common.{◌≡◌, ℕ, zero, suc, ◌+◌, ◌<◌, Bool, true, false, cond, List, [], ◌∷◌, ◌++◌, length, get_or, set, refl, sym}
use Rattle.std.proofs.Common.{ap, subst, ◌∙◌, inl, inr, nat_eq, ◌⊎◌, arith}
use Rattle.std.specs.Prelude.{Contains}
use Rattle.std.specs.List.{list_all}
use Rattle.std.proofs.lemmas.Bool.{eqb-true, eq-eqb}
use Rattle.std.proofs.lemmas.List.{get_or-set_same, length-append}
use Rattle.std.proofs.lemmas.List.Folds.{list_any-append}
use Rattle.ash_host.specs.Objects.{LiveObjects, numbers, references, Lives}
use Rattle.ash_host.specs.Reach.{Root, Field, ReachableIn, is_among}
use Rattle.ash_host.proofs.Membership.{or_cases, or_first, or_second, is_among_yes, is_among_says, is_among-numbers, refers_lives}
use Rattle.ash_image.specs.Image.{do_rise}
use Rattle.ash_image.specs.Search.{SearchProgress, IsMarked, IsPending, Visited, Searches, unmarked, with_marked}
use Rattle.ash_image.proofs.OrderLaws.{rises_from, tail_rises, among_at, index_of}

-- ---- lists

among_append : (xs ys : List ℕ) (n : ℕ) → is_among (xs ++ ys) n ≡ true → (is_among xs n ≡ true) ⊎ (is_among ys n ≡ true)
among_append xs ys n h = or_cases (is_among xs n) (is_among ys n) (sym (list_any-append (nat_eq n) xs ys) ∙ h)

among_left : (xs ys : List ℕ) (n : ℕ) → is_among xs n ≡ true → is_among (xs ++ ys) n ≡ true
among_left xs ys n h = list_any-append (nat_eq n) xs ys ∙ or_first (is_among xs n) (is_among ys n) h

among_right : (xs ys : List ℕ) (n : ℕ) → is_among ys n ≡ true → is_among (xs ++ ys) n ≡ true
among_right xs ys n h = list_any-append (nat_eq n) xs ys ∙ or_second (is_among xs n) (is_among ys n) h

among_one : (m n : ℕ) → is_among (m ∷ []) n ≡ true → n ≡ m
among_one m n h =
    elim (or_cases (nat_eq n m) false h) [
      | inl here ↦ eqb-true n m here
      | inr none ↦ absurd cc
    ]

one_among : (m n : ℕ) → n ≡ m → is_among (m ∷ []) n ≡ true
one_among m n same = or_first (nat_eq n m) false (eq-eqb n m same)

pub among_last : (xs : List ℕ) (n : ℕ) → is_among (xs ++ n ∷ []) n ≡ true
among_last xs n = among_right xs (n ∷ []) n (one_among n n refl)

-- a number is at one index
once : (ns : List ℕ) → do_rise ns ≡ true → (i j : ℕ) → i < length ns → j < length ns → get_or ns i 0 ≡ get_or ns j 0 → i ≡ j
once [] e i j lt lt2 same = absurd (omega arith)
once (n ∷ ns) e zero zero lt lt2 same = refl
once (n ∷ ns) e zero (suc j) lt lt2 same = let above : n < get_or ns j 0 = rises_from n ns e j (omega arith) in absurd (omega arith)
once (n ∷ ns) e (suc i) zero lt lt2 same = let above : n < get_or ns i 0 = rises_from n ns e i (omega arith) in absurd (omega arith)
once (n ∷ ns) e (suc i) (suc j) lt lt2 same = ap suc (once ns (tail_rises n ns e) i j (omega arith) (omega arith) same)

count_set : (marked : List Bool) (i : ℕ) → i < length marked → get_or marked i false ≡ false
    → unmarked (set marked i true) + 1 ≡ unmarked marked
count_set [] i lt free = absurd (omega arith)
count_set (true ∷ marked) zero lt free = absurd cc
count_set (false ∷ marked) zero lt free = refl
count_set (true ∷ marked) (suc i) lt free = count_set marked i (omega arith) free
count_set (false ∷ marked) (suc i) lt free = ap (λ (n : ℕ). n + 1) (count_set marked i (omega arith) free)

length_set : (marked : List Bool) (i : ℕ) → length (set marked i true) ≡ length marked
length_set [] i = refl
length_set (m ∷ marked) zero = refl
length_set (m ∷ marked) (suc i) = ap suc (length_set marked i)

-- what is marked after an index was
set_cases : (marked : List Bool) (i j : ℕ) → get_or (set marked i true) j false ≡ true
    → (get_or marked j false ≡ true) ⊎ (j ≡ i)
set_cases [] i j h = inl h
set_cases (m ∷ marked) zero zero h = inr refl
set_cases (m ∷ marked) zero (suc j) h = inl h
set_cases (m ∷ marked) (suc i) zero h = inl h
set_cases (m ∷ marked) (suc i) (suc j) h =
    elim (set_cases marked i j h) [
      | inl was ↦ inl was
      | inr same ↦ inr (ap suc same)
    ]

set_grows : (marked : List Bool) (i j : ℕ) → get_or marked j false ≡ true → get_or (set marked i true) j false ≡ true
set_grows [] i j h = h
set_grows (m ∷ marked) zero zero h = refl
set_grows (m ∷ marked) zero (suc j) h = h
set_grows (m ∷ marked) (suc i) zero h = h
set_grows (m ∷ marked) (suc i) (suc j) h = set_grows marked i j h

set_here : (marked : List Bool) (i : ℕ) → i < length marked → get_or (set marked i true) i false ≡ true
set_here marked i lt = get_or-set_same marked i true false lt

-- ---- one number after the other

pub visited_none : (alive : List ℕ) (s : SearchProgress) → Visited alive [] s s
visited_none alive s = record {
  same = refl;
  count = refl;
  grows = λ i h. h;
  fresh = λ i h. inl h;
  waits = λ i h. h;
  waiting = λ i h. inl h;
  all = λ i lt h. absurd cc;
}

pub visited_then : (alive a b : List ℕ) (s t u : SearchProgress) → Visited alive a s t → Visited alive b t u → Visited alive (a ++ b) s u
visited_then alive a b s t u p q = record {
  same = q.same ∙ p.same;
  count = q.count ∙ p.count;
  grows = λ i h. q.grows i (p.grows i h);
  fresh = λ i h. elim (q.fresh i h) [
    | inl was ↦ elim (p.fresh i was) [
      | inl before ↦ inl before
      | inr now ↦ inr (q.waits i now.0, among_left a b (get_or alive i 0) now.1)
    ]
    | inr now ↦ inr (now.0, among_right a b (get_or alive i 0) now.1)
  ];
  waits = λ i h. q.waits i (p.waits i h);
  waiting = λ i h. elim (q.waiting i h) [
    | inl was ↦ elim (p.waiting i was) [
      | inl before ↦ inl before
      | inr marked ↦ inr (q.grows i marked)
    ]
    | inr marked ↦ inr marked
  ];
  all = λ i lt h. elim (among_append a b (get_or alive i 0) h) [
    | inl first ↦ q.grows i (p.all i lt first)
    | inr second ↦ q.all i lt second
  ];
}

-- a number that is not there
pub visited_missing : (alive : List ℕ) (n : ℕ) (s : SearchProgress) → is_among alive n ≡ false → Visited alive (n ∷ []) s s
visited_missing alive n s missing = record {
  same = refl;
  count = refl;
  grows = λ i h. h;
  fresh = λ i h. inl h;
  waits = λ i h. h;
  waiting = λ i h. inl h;
  all = λ i lt h.
      let there : is_among alive n ≡ true = among_at alive i n lt (among_one n (get_or alive i 0) h) in
      absurd cc;
}

-- a number whose index is marked
pub visited_marked : (alive : List ℕ) (n i : ℕ) (s : SearchProgress) → do_rise alive ≡ true → i < length alive → get_or alive i 0 ≡ n
    → IsMarked s i → Visited alive (n ∷ []) s s
visited_marked alive n i s rise within is marked = record {
  same = refl;
  count = refl;
  grows = λ j h. h;
  fresh = λ j h. inl h;
  waits = λ j h. h;
  waiting = λ j h. inl h;
  all = λ j lt h.
      let same : j ≡ i = once alive rise j i lt within (among_one n (get_or alive j 0) h ∙ sym is) in
      subst (λ (k : ℕ). IsMarked s k) (sym same) marked;
}

-- a number whose index is marked now, and waits
pub visited_new : (alive : List ℕ) (n i : ℕ) (s : SearchProgress) → do_rise alive ≡ true → i < length alive → get_or alive i 0 ≡ n
    → length s.marked ≡ length alive → get_or s.marked i false ≡ false
    → Visited alive (n ∷ []) s (record { marked = set s.marked i true; pending = s.pending ++ i ∷ [] })
visited_new alive n i s rise within is size unmarked =
    let here : i < length s.marked = omega arith in
    record {
      same = length_set s.marked i;
      count = omega (arith, count_set s.marked i here unmarked, length-append s.pending (i ∷ []));
      grows = λ j h. set_grows s.marked i j h;
      fresh = λ j h. elim (set_cases s.marked i j h) [
        | inl was ↦ inl was
        | inr same ↦ inr (
          among_right s.pending (i ∷ []) j (one_among i j same),
          one_among n (get_or alive j 0) (ap (λ (k : ℕ). get_or alive k 0) same ∙ is),
        )
      ];
      waits = λ j h. among_left s.pending (i ∷ []) j h;
      waiting = λ j h. elim (among_append s.pending (i ∷ []) j h) [
        | inl was ↦ inl was
        | inr one ↦ inr (subst (λ (k : ℕ). get_or (set s.marked i true) k false ≡ true) (sym (among_one i j one))
            (set_here s.marked i here))
      ];
      all = λ j lt h.
          let same : j ≡ i = once alive rise j i lt within (among_one n (get_or alive j 0) h ∙ sym is) in
          subst (λ (k : ℕ). get_or (set s.marked i true) k false ≡ true) (sym same) (set_here s.marked i here);
    }

marked_or_new : (alive : List ℕ) (n i : ℕ) (s new : SearchProgress) (b : Bool) → get_or s.marked i false ≡ b → do_rise alive ≡ true
    → i < length alive → get_or alive i 0 ≡ n → length s.marked ≡ length alive → new ≡ with_marked i s
    → Visited alive (n ∷ []) s new
marked_or_new alive n i s new true here rise within is size e =
    let same : new ≡ s = e ∙ ap (λ (b : Bool). cond b s (record { marked = set s.marked i true; pending = s.pending ++ i ∷ [] })) here in
    subst (λ (t : SearchProgress). Visited alive (n ∷ []) s t) (sym same) (visited_marked alive n i s rise within is here)
marked_or_new alive n i s new false here rise within is size e =
    let same : new ≡ record { marked = set s.marked i true; pending = s.pending ++ i ∷ [] } =
    e ∙ ap (λ (b : Bool). cond b s (record { marked = set s.marked i true; pending = s.pending ++ i ∷ [] })) here in
    subst (λ (t : SearchProgress). Visited alive (n ∷ []) s t) (sym same) (visited_new alive n i s rise within is size here)

pub visited_mark : (alive : List ℕ) (n i : ℕ) (s new : SearchProgress) → do_rise alive ≡ true → i < length alive
    → get_or alive i 0 ≡ n → length s.marked ≡ length alive → new ≡ with_marked i s → Visited alive (n ∷ []) s new
visited_mark alive n i s new rise within is size e =
    marked_or_new alive n i s new (get_or s.marked i false) refl rise within is size e

-- ---- the whole search

-- after the roots were looked for, with nothing marked before
pub searches_roots : (held : List ℕ) (objects : LiveObjects ℕ) (old new : SearchProgress)
    → length old.marked ≡ length objects → ((i : ℕ) → IsMarked old i → ⊥) → ((i : ℕ) → IsPending old i → ⊥)
    → length (numbers objects) ≡ length objects
    → Visited (numbers objects) held old new → Searches held objects new
searches_roots held objects old new size none_marked none_waits same_length v = record {
  size = v.same ∙ size;
  waiting = λ i h. elim (v.waiting i h) [
    | inl was ↦ absurd (none_waits i was)
    | inr marked ↦ marked
  ];
  sound = λ i h. elim (v.fresh i h) [
    | inl was ↦ absurd (none_marked i was)
    | inr now ↦ Root (is_among_says (get_or (numbers objects) i 0) held now.1)
  ];
  roots = λ i lt h. v.all i (omega arith) h;
  closed = λ i h. elim (v.fresh i h) [
    | inl was ↦ absurd (none_marked i was)
    | inr now ↦ inl now.0
  ];
}

-- after one that waited was taken out, and what it refers to was looked for
pub searches_next : (held : List ℕ) (objects : LiveObjects ℕ) (marked : List Bool) (pending : List ℕ) (i : ℕ) (new : SearchProgress)
    → length (numbers objects) ≡ length objects
    → Searches held objects (record { marked = marked; pending = pending ++ i ∷ [] })
    → Visited (numbers objects) (references objects (get_or (numbers objects) i 0))
    (record { marked = marked; pending = pending }) new
    → Searches held objects new
searches_next held objects marked pending i new same_length h v = record {
  size = v.same ∙ h.size;
  waiting = λ j w. elim (v.waiting j w) [
    | inl was ↦ v.grows j (h.waiting j (among_left pending (i ∷ []) j was))
    | inr now ↦ now
  ];
  sound = λ j m. elim (v.fresh j m) [
    | inl was ↦ h.sound j was
    | inr now ↦ Field (h.sound i (h.waiting i (among_last pending i)))
        (is_among_says (get_or (numbers objects) j 0) (references objects (get_or (numbers objects) i 0)) now.1)
  ];
  roots = λ j lt r. v.grows j (h.roots j lt r);
  closed = λ j m. elim (v.fresh j m) [
    | inl was ↦ elim (h.closed j was) [
      | inl waited ↦ elim (among_append pending (i ∷ []) j waited) [
        | inl still ↦ inl (v.waits j still)
        | inr taken ↦ inr (λ k lt r. v.all k (omega arith)
            (subst (λ (l : ℕ). is_among (references objects (get_or (numbers objects) l 0)) (get_or (numbers objects) k 0) ≡ true)
            (among_one i j taken) r))
      ]
      | inr done ↦ inr (λ k lt r. v.grows k (done k lt r))
    ]
    | inr now ↦ inl now.0
  ];
}

pub none_among : (n : ℕ) → is_among [] n ≡ true → ⊥
none_among n h = absurd cc

module _ (held : List ℕ) (objects : LiveObjects ℕ) (s : SearchProgress) (search : Searches held objects s) (none : s.pending ≡ [])
    (same_length : length (numbers objects) ≡ length objects) where
  -- what is reachable is marked
  reached_marked : (n : ℕ) → ReachableIn (Contains held) objects n
      → (i : ℕ) → i < length objects → get_or (numbers objects) i 0 ≡ n → IsMarked s i
  reached_marked n (Root is) i lt same =
      search.roots i lt (subst (λ (m : ℕ). is_among held m ≡ true) (sym same) (is_among_yes n held is))
  reached_marked n (Field {one} {other} before refer) i lt same =
      let refers_is : is_among (references objects one) n ≡ true = is_among_yes n (references objects one) refer in
      let lives = is_among-numbers one objects ∙ refers_lives objects one n refers_is in
      let at = index_of (numbers objects) one lives in
      elim (search.closed at.0 (reached_marked one before at.0 (omega (arith, at.1)) at.2)) [
        | inl waits ↦ absurd (none_among at.0 (subst (λ (p : List ℕ). is_among p at.0 ≡ true) none waits))
        | inr done ↦ done i lt (subst (λ (m : ℕ). is_among (references objects m) (get_or (numbers objects) i 0) ≡ true) (sym at.2)
            (subst (λ (m : ℕ). is_among (references objects one) m ≡ true) (sym same) refers_is))
      ]

  marked_all : (i : ℕ) → list_all (λ b. b) s.marked ≡ true → i < length objects → IsMarked s i
  marked_all i all lt = all_at_index s.marked i all (omega (arith, search.size))
    where
      all_at_index : (bs : List Bool) (i : ℕ) → list_all (λ b. b) bs ≡ true → i < length bs → get_or bs i false ≡ true
      all_at_index [] i all lt = absurd (omega arith)
      all_at_index (true ∷ bs) zero all lt = refl
      all_at_index (false ∷ bs) zero all lt = absurd cc
      all_at_index (true ∷ bs) (suc i) all lt = all_at_index bs i all (omega arith)
      all_at_index (false ∷ bs) (suc i) all lt = absurd cc

  pub all_reached : list_all (λ b. b) s.marked ≡ true → (n : ℕ) → Lives objects n → ReachableIn (Contains held) objects n
  all_reached all n lives =
      let at = index_of (numbers objects) n (is_among-numbers n objects ∙ lives) in
      subst (λ (m : ℕ). ReachableIn (Contains held) objects m) at.2
      (search.sound at.0 (marked_all at.0 all (omega (arith, at.1))))

  all_from_index : (bs : List Bool) → ((i : ℕ) → i < length bs → get_or bs i false ≡ true) → list_all (λ b. b) bs ≡ true
  all_from_index [] each = refl
  all_from_index (true ∷ bs) each = all_from_index bs (λ i lt. each (suc i) (omega arith))
  all_from_index (false ∷ bs) each = each 0 (omega arith)

  pub all_marked : ((n : ℕ) → Lives objects n → ReachableIn (Contains held) objects n) → list_all (λ b. b) s.marked ≡ true
  all_marked reached =
      all_from_index s.marked (λ i lt.
      let within : i < length objects = omega (arith, search.size) in
      let lives : Lives objects (get_or (numbers objects) i 0) =
      sym (is_among-numbers (get_or (numbers objects) i 0) objects)
      ∙ among_at (numbers objects) i (get_or (numbers objects) i 0) (omega arith) refl in
      reached_marked (get_or (numbers objects) i 0) (reached (get_or (numbers objects) i 0) lives) i within refl)
