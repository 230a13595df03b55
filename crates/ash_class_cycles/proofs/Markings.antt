-- Marks of places, one place after another.
use Rattle.std.proofs.Common.{◌≡◌, ℕ, ◌+◌, ◌<◌, ◌≤◌, ◌⊎◌, List, [], ◌∷◌, ◌++◌, length, take, set, get_or, Option, Some}
use Rattle.std.proofs.Common.{None, is_none, is_some, Contains, inl, inr, refl, sym, ap, ◌∙◌, subst, arith}
use Rattle.std.proofs.Common.{length-append, length-set, get_or-set_same, get_or-set_other, take_all, true, false, cond}
use Rattle.std.proofs.lemmas.Bool.{cases_eq}
use Rattle.std.proofs.lemmas.List.{get_or_default}
use Rattle.std.proofs.lemmas.Grind.{take_at_read}
use Rattle.std.proofs.lemmas.Option.{none-some, same_Some}
use Rattle.std.proofs.lemmas.List.Elements.{Contains-push, Contains-push_cases, Contains-append_left}
use Rattle.std.proofs.lemmas.List.Sums.{sum_by-set}
use Rattle.ash_class_cycles.specs.Marking.{IsAt, Marks}

-- nothing is marked
pub marks_none : (These : ℕ → Type 0) (distance : ℕ) (marks : List (Option ℕ)) (found : List ℕ)
    → ((p : ℕ) → These p → ⊥) → Marks These distance marks marks found found
marks_none These distance marks found none = record {
  long = refl;
  unchanged = λ p at h. h;
  marked = λ p t. absurd (none p t);
  added = λ p at h. inl h;
  known = λ p h. h;
  listed = λ p h. inl h;
  counted = refl;
}

-- the same places
pub marks_same : (These Those : ℕ → Type 0) (distance : ℕ) (old new : List (Option ℕ)) (before found : List ℕ)
    → ((p : ℕ) → These p → Those p) → ((p : ℕ) → Those p → These p) → Marks These distance old new before found
    → Marks Those distance old new before found
marks_same These Those distance old new before found there back m = record {
  long = m.long;
  unchanged = m.unchanged;
  marked = λ p t. m.marked p (back p t);
  added = λ p at h. elim (m.added p at h) [ inl was ↦ inl was | inr now ↦ inr (now.0, there p now.1, now.2) ];
  known = m.known;
  listed = m.listed;
  counted = m.counted;
}

-- first these and then those
pub marks_then : (These Those : ℕ → Type 0) (distance : ℕ) (old mid new : List (Option ℕ))
    (before between found : List ℕ) → Marks These distance old mid before between
    → Marks Those distance mid new between found → Marks (λ p. These p ⊎ Those p) distance old new before found
marks_then These Those distance old mid new before between found m n = record {
  long = n.long ∙ m.long;
  unchanged = λ p at h. n.unchanged p at (m.unchanged p at h);
  marked = λ p t.
      elim t [ inl these ↦ (let h = m.marked p these in (h.0, n.unchanged p h.0 h.1)) | inr those ↦ n.marked p those ];
  added = λ p at h. elim (n.added p at h) [
    | inl was ↦ elim (m.added p at was) [ inl first ↦ inl first | inr now ↦ inr (now.0, inl now.1, n.known p now.2) ]
    | inr now ↦ inr (now.0, inr now.1, now.2)
  ];
  known = λ p h. n.known p (m.known p h);
  listed = λ p h.
      elim (n.listed p h) [
        | inl was ↦ elim (m.listed p was) [ inl first ↦ inl first | inr now ↦ inr (n.unchanged p distance now) ]
        | inr now ↦ inr now
      ];
  counted = omega (arith, m.counted, n.counted);
}

-- a place that is marked stays as it is
pub marks_known : (place at distance : ℕ) (marks : List (Option ℕ)) (found : List ℕ) → IsAt marks place at
    → Marks (λ p. p ≡ place) distance marks marks found found
marks_known place at distance marks found h = record {
  long = refl;
  unchanged = λ p i k. k;
  marked = λ p e. (at, ap (λ q. get_or marks q None) e ∙ h);
  added = λ p i k. inl k;
  known = λ p k. k;
  listed = λ p k. inl k;
  counted = refl;
}

-- a place without a mark is marked and found
pub marks_new : (place distance : ℕ) (marks : List (Option ℕ)) (found : List ℕ) → place < length marks
    → get_or marks place None ≡ None
    → Marks (λ p. p ≡ place) distance marks (set marks place (Some distance)) found (found ++ place ∷ [])
marks_new place distance marks found within none =
    let here : IsAt (set marks place (Some distance)) place distance =
    get_or-set_same marks place (Some distance) None within in
    record {
      long = length-set marks place (Some distance);
      unchanged = λ p at h. elim (cases_eq p place) [
        | inl e ↦ absurd (none-some at (sym none ∙ ap (λ q. get_or marks q None) (sym e) ∙ h))
        | inr ne ↦ get_or-set_other marks place p (Some distance) None ne ∙ h
      ];
      marked = λ p e. (distance, ap (λ q. get_or (set marks place (Some distance)) q None) e ∙ here);
      added = λ p at h. elim (cases_eq p place) [
        | inl e ↦ inr (
          same_Some at distance (sym h ∙ ap (λ q. get_or (set marks place (Some distance)) q None) e ∙ here),
          e,
          subst (λ (q : ℕ). Contains (found ++ place ∷ []) q) (sym e) (Contains-push found place),
        )
        | inr ne ↦ inl (sym (get_or-set_other marks place p (Some distance) None ne) ∙ h)
      ];
      known = λ p h. Contains-append_left found (place ∷ []) p h;
      listed = λ p h.
          elim (Contains-push_cases found place p h) [
            | inl was ↦ inl was
            | inr e ↦ inr (ap (λ q. get_or (set marks place (Some distance)) q None) (sym e) ∙ here)
          ];
      counted =
          let f : Option ℕ → ℕ = λ o. cond (is_none o) 1 0 in
          let one : f (get_or marks place None) ≡ 1 = ap f none in
          omega (arith, one, sum_by-set f marks place (Some distance) None within, length-append found (place ∷ []));
    }

-- a mark that was read at a place
read_at : (marks : List (Option ℕ)) (place : ℕ) (o : Option ℕ) → place < length marks → o ≡ get_or marks place o
    → get_or marks place None ≡ o
read_at marks place o within h = get_or_default marks place None o within ∙ sym h

pub marks_read_some : (place distance : ℕ) (marks : List (Option ℕ)) (found : List ℕ) (o : Option ℕ)
    → place < length marks → o ≡ get_or marks place o → is_some o ≡ true
    → Marks (λ p. p ≡ place) distance marks marks found found
marks_read_some place distance marks found None within h s = cc
marks_read_some place distance marks found (Some at) within h s =
    marks_known place at distance marks found (read_at marks place (Some at) within h)

pub marks_read_none : (place distance : ℕ) (marks : List (Option ℕ)) (found : List ℕ) (o : Option ℕ)
    → place < length marks → o ≡ get_or marks place o → is_some o ≡ false
    → Marks (λ p. p ≡ place) distance marks (set marks place (Some distance)) found (found ++ place ∷ [])
marks_read_none place distance marks found None within h s =
    marks_new place distance marks found within (read_at marks place None within h)
marks_read_none place distance marks found (Some at) within h s = cc

-- the next place of a row is marked, after those before it
pub marks_more : (row : List ℕ) (i distance : ℕ) (old mid new : List (Option ℕ)) (before between found : List ℕ)
    → i < length row → Marks (λ p. Contains (take i row) p) distance old mid before between
    → Marks (λ p. p ≡ get_or row i 0) distance mid new between found
    → Marks (λ p. Contains (take (i + 1) row) p) distance old new before found
marks_more row i distance old mid new before between found within m n =
    let last : take (i + 1) row ≡ take i row ++ get_or row i 0 ∷ [] = (take_at_read row i 0 within).1 in
    marks_same (λ p. Contains (take i row) p ⊎ (p ≡ get_or row i 0))
    (λ p. Contains (take (i + 1) row) p) distance old new before found
    (λ p t. subst
    (λ (xs : List ℕ). Contains xs p) (sym last)
    (elim t [
      | inl h ↦ Contains-append_left (take i row) (get_or row i 0 ∷ []) p h
      | inr e ↦ subst
          (λ (q : ℕ). Contains (take i row ++ get_or row i 0 ∷ []) q) (sym e)
          (Contains-push (take i row) (get_or row i 0))
    ]))
    (λ p h. elim (Contains-push_cases (take i row) (get_or row i 0) p
    (subst (λ (xs : List ℕ). Contains xs p) last h)) [ inl w ↦ inl w | inr e ↦ inr (sym e) ])
    (marks_then (λ p. Contains (take i row) p) (λ p. p ≡ get_or row i 0) distance old mid new before between found m n)

-- no place was marked yet
pub marks_start : (row : List ℕ) (distance : ℕ) (marks : List (Option ℕ)) (found : List ℕ)
    → Marks (λ p. Contains (take 0 row) p) distance marks marks found found
marks_start row distance marks found =
    marks_none (λ p. Contains (take 0 row) p) distance marks found (λ p h. let e : length (take 0 row) ≡ 0 = refl in
    let w : h.0 < length (take 0 row) = h.1 in omega (arith, e, w))

-- each place of the row is marked
pub marks_end : (row : List ℕ) (i distance : ℕ) (old new : List (Option ℕ)) (before found : List ℕ) → length row ≤ i
    → Marks (λ p. Contains (take i row) p) distance old new before found
    → Marks (λ p. Contains row p) distance old new before found
marks_end row i distance old new before found past m =
    subst (λ (xs : List ℕ). Marks (λ p. Contains xs p) distance old new before found) (take_all i row past) m
