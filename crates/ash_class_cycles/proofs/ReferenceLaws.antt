-- References of classes, gathered one after another.
use Rattle.std.proofs.Common.{◌≡◌, ℕ, zero, suc, ◌+◌, ◌<◌, ◌≤◌, ◌⊎◌, ◌↔◌, List, [], ◌∷◌, ◌++◌, length, map, get_or}
use Rattle.std.proofs.Common.{slice_get, option_map, Some, Contains, Vec, Global, Bor, inl, inr, refl, sym, ap, ◌∙◌}
use Rattle.std.proofs.Common.{subst, arith, length-append}
use Rattle.std.proofs.lemmas.Bool.{cases_lt}
use Rattle.std.proofs.lemmas.Option.{same_Some, slice_get_within, slice_get-map, slice_get_read}
use Rattle.std.proofs.lemmas.List.{map-append, length-map, get_or_past, get_or_push, get_or_append_left}
use Rattle.std.proofs.lemmas.List.Elements.{Contains-push, Contains-push_cases, Contains-append_left}
use Rattle.std.specs.List.{Any}
use Rattle.ash_tree.specs.declared.tree.items.Class as code_class
use Rattle.ash_tree.specs.Tree.{Class}
use Rattle.ash_tree.specs.TreeViews.{class_of}
use Rattle.ash_class_cycles.specs.Marking.{rows_of, Goes}
use Rattle.ash_class_cycles.specs.ClassReferences.{RefersTo, RefersAt, DeclaredClassRefers, borrowed_classes}
use Rattle.ash_class_cycles.proofs.Searches.{IsAnyOf}

-- a list has one that passes
pub any_of : {X Y : Type 0} (Passes : Y → Type 0) (view : X → Y)
    → IsAnyOf (λ (xs : List X). Any Passes (map view xs)) (λ x. Passes (view x))
any_of {X} {Y} Passes view = record {
  first = λ x xs h. (0, view x, omega (arith, length-map xs view), refl, h);
  later = λ x xs h. (suc h.0, h.1, omega (arith, h.2), h.3, h.4);
  none = λ h. let w : h.0 < 0 = h.2 in omega (arith, w);
  split = λ x xs h. cases x xs h.0 h.1 h.2 h.3 h.4;
}
  where
    cases : (x : X) (xs : List X) (k : ℕ) (y : Y) → k < length (map view (x ∷ xs)) → get_or (map view (x ∷ xs)) k y ≡ y
        → Passes y → Passes (view x) ⊎ Any Passes (map view xs)
    cases x xs zero y within is p = inl (subst Passes (sym is) p)
    cases x xs (suc k) y within is p = inr (k, y, omega (arith, within), is, p)

-- a row

-- of the classes before one, those that refer to another
abbrev pub IsRowBefore : List Class → Class → ℕ → List ℕ → Type 0
IsRowBefore classes other before row = (from : ℕ) → Contains row from ↔ ((from < before) × RefersAt classes from other)

none_in : (p : ℕ) → Contains [] p → ⊥
none_in p h = let w : h.0 < 0 = h.1 in omega (arith, w)

pub row_start : (classes : List Class) (other : Class) → IsRowBefore classes other 0 []
row_start classes other = λ from. (λ h. absurd (none_in from h), λ h. absurd (omega (arith, h.0)))

pub row_more : (classes : List Class) (one other : Class) (i : ℕ) (row : List ℕ) → slice_get classes i ≡ Some one
    → RefersTo one other → IsRowBefore classes other i row → IsRowBefore classes other (i + 1) (row ++ i ∷ [])
row_more classes one other i row at refers h = λ from. (
  λ c. elim (Contains-push_cases row i from c) [
    | inl was ↦ (let w = (h from).0 was in (omega (arith, w.0), w.1))
    | inr e ↦ (omega (arith, e), subst (λ (k : ℕ). RefersAt classes k other) e (one, at, refers))
  ],
  λ w. elim (cases_lt from i) [
    | inl lower ↦ Contains-append_left row (i ∷ []) from ((h from).1 (lower, w.1))
    | inr higher ↦
        (let e : i ≡ from = omega (arith, w.0, higher) in
        subst (λ (k : ℕ). Contains (row ++ i ∷ []) k) e (Contains-push row i))
  ],
)

pub row_same : (classes : List Class) (one other : Class) (i : ℕ) (row : List ℕ) → slice_get classes i ≡ Some one
    → (RefersTo one other → ⊥) → IsRowBefore classes other i row → IsRowBefore classes other (i + 1) row
row_same classes one other i row at refers h = λ from. (
  λ c. let w = (h from).0 c in (omega (arith, w.0), w.1),
  λ w. elim (cases_lt from i) [
    | inl lower ↦ (h from).1 (lower, w.1)
    | inr higher ↦
        let e : from ≡ i = omega (arith, w.0, higher) in
        let there : RefersAt classes i other = subst (λ (k : ℕ). RefersAt classes k other) e w.1 in
        absurd (refers (subst (λ (c : Class). RefersTo c other) (same_Some there.0 one (sym there.1 ∙ at)) there.2))
  ],
)

pub row_end : (classes : List Class) (other : Class) (i : ℕ) (row : List ℕ) → length classes ≤ i
    → IsRowBefore classes other i row → (from : ℕ) → Contains row from ↔ RefersAt classes from other
row_end classes other i row past h =
    λ from. (
      λ c. ((h from).0 c).1,
      λ w. (h from).1
          (let l : from < length classes = slice_get_within classes from w.0 w.1 in omega (arith, l, past), w),
    )

-- rows

pub record AreRowsBefore (classes : List Class) (before : ℕ) (rows : List (List ℕ)) : Type 0 where
  pub count : length rows ≡ before
  pub each : (from to : ℕ) → Goes rows from to ↔ ((to < before) × DeclaredClassRefers classes from to)

pub rows_start : (classes : List Class) → AreRowsBefore classes 0 []
rows_start classes =
    record { count = refl; each = λ from to. (λ h. absurd (none_in from h), λ h. absurd (omega (arith, h.0))) }

pub rows_more : (classes : List Class) (other : Class) (i : ℕ) (rows : List (List ℕ)) (row : List ℕ)
    → slice_get classes i ≡ Some other → ((from : ℕ) → Contains row from ↔ RefersAt classes from other)
    → AreRowsBefore classes i rows → AreRowsBefore classes (i + 1) (rows ++ row ∷ [])
rows_more classes other i rows row at is h = record {
  count = omega (arith, length-append rows (row ∷ []), h.count);
  each = λ from to. elim (cases_lt to i) [
    | inl lower ↦
        let e : get_or (rows ++ row ∷ []) to [] ≡ get_or rows to [] =
        get_or_append_left rows (row ∷ []) [] to (omega (arith, lower, h.count)) in (
          λ c. (let w = (h.each from to).0 (subst (λ (r : List ℕ). Contains r from) e c) in (omega (arith, w.0), w.1)),
          λ w. subst (λ (r : List ℕ). Contains r from) (sym e) ((h.each from to).1 (lower, w.1)),
        )
    | inr higher ↦ elim (cases_lt i to) [
      | inl past ↦
          let e : get_or (rows ++ row ∷ []) to [] ≡ [] =
          get_or_past (rows ++ row ∷ []) to [] (omega (arith, length-append rows (row ∷ []), h.count, past)) in (
            λ c. absurd (none_in from (subst (λ (r : List ℕ). Contains r from) e c)),
            λ w. absurd (omega (arith, w.0, past)),
          )
      | inr here ↦
          let same : i ≡ to = omega (arith, higher, here) in
          let e : get_or (rows ++ row ∷ []) to [] ≡ row =
          subst (λ (k : ℕ). get_or (rows ++ row ∷ []) k [] ≡ row) same (get_or_push rows row [] i h.count) in (
            λ c. (
              omega (arith, same),
              (
                other,
                subst (λ (k : ℕ). slice_get classes k ≡ Some other) same at,
                (is from).0 (subst (λ (r : List ℕ). Contains r from) e c),
              ),
            ),
            λ w. subst (λ (r : List ℕ). Contains r from) (sym e)
                ((is from).1
                (subst (λ (c : Class). RefersAt classes from c)
                (same_Some w.1.0 other (sym w.1.1 ∙ subst (λ (k : ℕ). slice_get classes k ≡ Some other) same at))
                w.1.2)),
          )
    ]
  ];
}

pub rows_end : (classes : List Class) (i : ℕ) (rows : List (List ℕ)) → length classes ≤ i → AreRowsBefore classes i rows
    → (from to : ℕ) → Goes rows from to ↔ DeclaredClassRefers classes from to
rows_end classes i rows past h =
    λ from to. (
      λ c. ((h.each from to).0 c).1,
      λ w. (h.each from to).1
          (let l : to < length classes = slice_get_within classes to w.0 w.1 in omega (arith, l, past), w),
    )

-- the class that was read at a place
pub borrowed_at : (classes : List (Bor code_class.Class)) (i : ℕ) (x : Bor code_class.Class) → i < length classes
    → x ≡ get_or classes i x → slice_get (borrowed_classes classes) i ≡ Some (class_of x.now)
borrowed_at classes i x within is =
    slice_get-map (λ (c : Bor code_class.Class). class_of c.now) classes i
    ∙ ap (option_map (λ (c : Bor code_class.Class). class_of c.now))
    (slice_get_read classes (length classes) i x refl within is)

pub length-borrowed_classes : (classes : List (Bor code_class.Class)) → length (borrowed_classes classes) ≡ length classes
length-borrowed_classes classes = length-map classes (λ (c : Bor code_class.Class). class_of c.now)

-- the rows with one more after them
pub rows_of-push : (table : List (Vec ℕ Global)) (row : Vec ℕ Global)
    → rows_of (table ++ row ∷ []) ≡ rows_of table ++ row.items ∷ []
rows_of-push table row = map-append (λ (v : Vec ℕ Global). v.items) table (row ∷ [])
