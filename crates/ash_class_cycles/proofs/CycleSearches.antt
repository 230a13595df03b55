-- The search for a cycle finds the one that is reported, and none where there is none.
use Rattle.std.proofs.Common.{◌≡◌, ℕ, zero, suc, ◌<◌, ◌⊎◌, ◌↔◌, Bool, true, false, cond, List, [], ◌∷◌, length, Option}
use Rattle.std.proofs.Common.{Some, None, Decides, slice_get, option_map, inl, inr, refl, sym, ap, ◌∙◌, subst, arith}
use Rattle.std.proofs.lemmas.Bool.{cases_lt}
use Rattle.std.proofs.lemmas.Bool.Decides.{Decides-or}
use Rattle.std.proofs.lemmas.Option.{none-some, same_Some, slice_get_within}
use Rattle.std.proofs.lemmas.List.Folds.{Any-from_list_any, list_any-from_Any}
use Rattle.std.proofs.lemmas.Slice.Eq.{bytes_eq-Decides}
use Rattle.std.specs.List.{Any, list_any}
use Rattle.std.specs.Option.{option_or}
use Rattle.ash_tree.specs.Tree.{Element, PrimElement, HandleElement, Named, Prim, Object, Handle, Array, ArrayHandle}
use Rattle.ash_tree.specs.Tree.{Member, AField, AMethod, AConstructor, Class}
use Rattle.ash_class_cycles.specs.Paths.{IsPath, Reaches, IsNoLater, IsForemost, IsReportedCycle}
use Rattle.ash_class_cycles.specs.ClassReferences.{IsOf, ElementNames, NamesClass, MemberHolds, RefersTo, DeclaredClassRefers}
use Rattle.ash_class_cycles.specs.ReportedCycle.{is_of, element_names, names, holds, refers_to, refers, refers_at}
use Rattle.ash_class_cycles.specs.ReportedCycle.{first_below}
use Rattle.ash_class_cycles.specs.ReportedCycle.{foremost, shortest_back, first_cycle, reported_cycle}
use Rattle.ash_class_cycles.proofs.CycleLaws.{only_cycle}
use Rattle.ash_class_cycles.proofs.Shortcuts.{end_within, short_cycle}

-- options

or_none : {A : Type 0} (o p : Option A) → option_or o p ≡ None → (o ≡ None) × (p ≡ None)
or_none None p h = (refl, h)
or_none (Some x) p h = absurd (none-some x (sym h))

or_some : {A : Type 0} (o p : Option A) (x : A) → option_or o p ≡ Some x → (o ≡ Some x) ⊎ ((o ≡ None) × (p ≡ Some x))
or_some None p x h = inr (refl, h)
or_some (Some y) p x h = inl h

if_none : {A : Type 0} (b : Bool) (o : Option A) → cond b o None ≡ None → b ≡ true → o ≡ None
if_none true o h t = h
if_none false o h t = cc

if_some : {A : Type 0} (b : Bool) (o : Option A) (x : A) → cond b o None ≡ Some x → (b ≡ true) × (o ≡ Some x)
if_some true o x h = (refl, h)
if_some false o x h = absurd (none-some x h)

map_none : {A B : Type 0} (f : A → B) (o : Option A) → option_map f o ≡ None → o ≡ None
map_none f None h = refl
map_none f (Some x) h = absurd (none-some (f x) (sym h))

map_some : {A B : Type 0} (f : A → B) (o : Option A) (y : B) → option_map f o ≡ Some y
    → (x : A) × (o ≡ Some x) × (f x ≡ y)
map_some f None y h = absurd (none-some y h)
map_some f (Some x) y h = (x, refl, same_Some (f x) y h)

none_or_some : {A : Type 0} (o : Option A) → (o ≡ None) ⊎ ((x : A) × (o ≡ Some x))
none_or_some None = inl refl
none_or_some (Some x) = inr (x, refl)

-- the first of the numbers below one that gives anything

below_none : {A : Type 0} (value_at : ℕ → Option A) (n : ℕ) → first_below value_at n ≡ None → (k : ℕ) → k < n
    → value_at k ≡ None
below_none value_at zero h k less = absurd (omega (arith, less))
below_none value_at (suc n) h k less =
    let both = or_none (first_below value_at n) (value_at n) h in
    elim (cases_lt k n) [
      | inl lower ↦ below_none value_at n both.0 k lower
      | inr higher ↦ (let e : k ≡ n = omega (arith, less, higher) in ap value_at e ∙ both.1)
    ]

below_some : {A : Type 0} (value_at : ℕ → Option A) (n : ℕ) (x : A) → first_below value_at n ≡ Some x
    → (k : ℕ) × (k < n) × (value_at k ≡ Some x) × ((j : ℕ) → j < k → value_at j ≡ None)
below_some value_at zero x h = absurd (none-some x h)
below_some value_at (suc n) x h = elim (or_some (first_below value_at n) (value_at n) x h) [
  | inl before ↦ (let r = below_some value_at n x before in (r.0, omega (arith, r.1), r.2, r.3))
  | inr last ↦ (n, omega arith, last.1, below_none value_at n last.0)
]

-- places, of which a test decides whether one goes from one to another

module _ (R : ℕ → ℕ → Type 0) (goes : ℕ → ℕ → Bool) (places : ℕ)
    (decides : (from to : ℕ) → Decides (goes from to) (R from to))
    (within : (from to : ℕ) → R from to → to < places) where
  -- the path on from a place
  abbrev onward : (count from to next : ℕ) → Option (List ℕ)
  onward count from to next =
      cond (goes from next) (option_map (λ others. next ∷ others) (foremost goes places count next to)) None

  not_onward : (count from to next : ℕ) → onward count from to next ≡ None → R from next
      → foremost goes places count next to ≡ None
  not_onward count from to next h step =
      map_none (λ others. next ∷ others) (foremost goes places count next to)
      (if_none (goes from next) (option_map (λ others. next ∷ others) (foremost goes places count next to)) h
      ((decides from next).1 step))

  -- there is no path with so many places in between
  missed : (count from to : ℕ) → foremost goes places count from to ≡ None → (other : List ℕ) → IsPath R from other to
      → length other ≡ count → ⊥
  missed zero from to h [] path long =
      none-some {A = List ℕ} [] (sym (if_none (goes from to) (Some []) h ((decides from to).1 path)))
  missed zero from to h (next ∷ other) path long = absurd (omega (arith, long))
  missed (suc count) from to h [] path long = absurd (omega (arith, long))
  missed (suc count) from to h (next ∷ other) path long =
      let none : onward count from to next ≡ None =
      below_none (onward count from to) places h next (within from next path.0) in
      missed count next to (not_onward count from to next none path.0) other path.1 (omega (arith, long))

  -- the first of the paths with so many places in between
  abbrev IsFirstOf : (count from to : ℕ) → List ℕ → Type 0
  IsFirstOf count from to between =
      IsPath R from between to × (length between ≡ count)
      × ((other : List ℕ) → IsPath R from other to → length other ≡ count → IsNoLater between other)

  first_by : (count from to next : ℕ) (rest : List ℕ) → R from next
      → ((before : ℕ) → before < next → onward count from to before ≡ None) → IsFirstOf count next to rest
      → IsFirstOf (suc count) from to (next ∷ rest)
  first_by count from to next rest step none first = ((step, first.0), omega (arith, first.1), later)
    where
      later : (other : List ℕ) → IsPath R from other to → length other ≡ suc count → IsNoLater (next ∷ rest) other
      later [] path long = absurd (omega (arith, long))
      later (q ∷ qs) path long = elim (cases_lt next q) [
        | inl lower ↦ inl lower
        | inr higher ↦ elim (cases_lt q next) [
          | inl before ↦
              absurd (missed count q to (not_onward count from to q (none q before) path.0) qs path.1
              (omega (arith, long)))
          | inr also ↦
              let e : next ≡ q = omega (arith, higher, also) in
              inr (e, first.2 qs (subst (λ (p : ℕ). IsPath R p qs to) (sym e) path.1) (omega (arith, long)))
        ]
      ]

  found : (count from to : ℕ) (between : List ℕ) → foremost goes places count from to ≡ Some between
      → IsFirstOf count from to between
  found zero from to between h =
      let straight = if_some (goes from to) (Some []) between h in
      subst (λ (xs : List ℕ). IsFirstOf zero from to xs) (same_Some [] between straight.1)
      ((decides from to).0 straight.0, refl, λ other path long. tt)
  found (suc count) from to between h =
      let next = below_some (onward count from to) places between h in
      let on = if_some (goes from next.0)
      (option_map (λ others. next.0 ∷ others) (foremost goes places count next.0 to)) between next.2 in
      let rest = map_some (λ others. next.0 ∷ others) (foremost goes places count next.0 to) between on.1 in
      subst (λ (xs : List ℕ). IsFirstOf (suc count) from to xs) rest.2
      (first_by count from to next.0 rest.0 ((decides from next.0).0 on.0) next.3
      (found count next.0 to rest.0 rest.1))

  -- the shortest path back, and of these the first
  back_some : (place : ℕ) (between : List ℕ) → shortest_back goes places place ≡ Some between
      → IsForemost R place between place
  back_some place between h =
      let count = below_some (λ count. foremost goes places count place place) places between h in
      let first = found count.0 place place between count.2 in
      record {
        path = first.0;
        shortest = λ other path. elim (cases_lt (length other) count.0) [
          | inl lower ↦ absurd (missed (length other) place place (count.3 (length other) lower) other path refl)
          | inr higher ↦ omega (arith, higher, first.1)
        ];
        foremost = λ other path long. first.2 other path (long ∙ first.1);
      }

  back_none : (place : ℕ) → shortest_back goes places place ≡ None → Reaches R place place → ⊥
  back_none place h cycle =
      let short = short_cycle R places within place cycle in
      missed (length short.0) place place
      (below_none (λ count. foremost goes places count place place) places h (length short.0) short.2) short.0
      short.1 refl

  cycle_some : (first : ℕ) (others : List ℕ) → first_cycle goes places ≡ Some (first, others) → IsReportedCycle R first others
  cycle_some first others h =
      let place = below_some
      (λ first. option_map (λ others. (first, others)) (shortest_back goes places first)) places (first, others)
      h in
      let back = map_some (λ others. (place.0, others)) (shortest_back goes places place.0) (first, others) place.2 in
      let reported : IsReportedCycle R place.0 back.0 = record {
        cycle = back_some place.0 back.0 back.1;
        earliest = λ other cycle. elim (cases_lt other place.0) [
          | inl lower ↦
              absurd (back_none other
              (map_none (λ others. (other, others)) (shortest_back goes places other) (place.3 other lower)) cycle)
          | inr higher ↦ higher
        ];
      } in
      subst (λ (pair : ℕ × List ℕ). IsReportedCycle R pair.0 pair.1) back.2 reported

  cycle_none : first_cycle goes places ≡ None → (place : ℕ) → Reaches R place place → ⊥
  cycle_none h place cycle =
      let short = short_cycle R places within place cycle in
      back_none place
      (map_none (λ others. (place, others)) (shortest_back goes places place)
      (below_none (λ first. option_map (λ others. (first, others)) (shortest_back goes places first)) places h place
      (end_within R places within place place short.0 short.1))) cycle

-- the test of references

any-Decides : {X : Type 0} (passes : X → Bool) (Passes : X → Type 0) → ((x : X) → Decides (passes x) (Passes x))
    → (xs : List X) → Decides (list_any passes xs) (Any Passes xs)
any-Decides passes Passes each xs = (
  λ h. let any = Any-from_list_any passes xs h in (any.0, any.1, any.2, any.3, (each any.1).0 any.4),
  λ any. list_any-from_Any passes xs (any.0, any.1, any.2, any.3, (each any.1).1 any.4),
)

of-Decides : (class : Class) (name : List ℕ) → Decides (is_of class name) (IsOf class name)
of-Decides class name =
    Decides-or _ _ (bytes_eq-Decides class.name name)
    (any-Decides _ _ (λ interface. bytes_eq-Decides interface.name name) class.interfaces)

element-Decides : (class : Class) (element : Element)
    → Decides (element_names class element) (ElementNames element class)
element-Decides class (PrimElement place kind) = (λ h. cc, λ h. absurd h)
element-Decides class (HandleElement place name) = of-Decides class name

type-Decides : (class : Class) (of : Named) → Decides (names class of) (NamesClass of class)
type-Decides class (Prim place kind) = (λ h. cc, λ h. absurd h)
type-Decides class (Object place name) = of-Decides class name
type-Decides class (Handle place name) = of-Decides class name
type-Decides class (Array place element) = element-Decides class element
type-Decides class (ArrayHandle place element) = element-Decides class element

member-Decides : (class : Class) (member : Member) → Decides (holds class member) (MemberHolds member class)
member-Decides class (AField vars) = type-Decides class vars.of
member-Decides class (AMethod function) = (λ h. cc, λ h. absurd h)
member-Decides class (AConstructor constructor) = (λ h. cc, λ h. absurd h)

pub refers_to-Decides : (from to : Class) → Decides (refers_to from to) (RefersTo from to)
refers_to-Decides from to = any-Decides (holds to) (λ member. MemberHolds member to) (member-Decides to) from.members

-- classes that are there refer to one another
abbrev ReferThere : Option Class → Option Class → Type 0
ReferThere o p = (to : Class) × (p ≡ Some to) × ((from : Class) × (o ≡ Some from) × RefersTo from to)

refers-Decides : (o p : Option Class) → Decides (refers o p) (ReferThere o p)
refers-Decides None None = (λ h. cc, λ there. absurd (none-some there.0 there.1))
refers-Decides None (Some to) = (λ h. cc, λ there. absurd (none-some there.2.0 there.2.1))
refers-Decides (Some from) None = (λ h. cc, λ there. absurd (none-some there.0 there.1))
refers-Decides (Some from) (Some to) = (
  λ h. (to, refl, (from, refl, (refers_to-Decides from to).0 h)),
  λ there. (refers_to-Decides from to).1
      (subst (λ (c : Class). RefersTo from c) (sym (same_Some to there.0 there.1))
      (subst (λ (c : Class). RefersTo c there.0) (sym (same_Some from there.2.0 there.2.1)) there.2.2)),
)

pub refers_at-Decides : (classes : List Class) (from to : ℕ)
    → Decides (refers_at classes from to) (DeclaredClassRefers classes from to)
refers_at-Decides classes from to = refers-Decides (slice_get classes from) (slice_get classes to)

place_within : (classes : List Class) (from to : ℕ) → DeclaredClassRefers classes from to → to < length classes
place_within classes from to h = slice_get_within classes to h.0 h.1

-- what the search finds is what is reported

pub cycle_if_some : (classes : List Class) (first : ℕ) (others : List ℕ) → reported_cycle classes ≡ Some (first, others)
    → IsReportedCycle (DeclaredClassRefers classes) first others
cycle_if_some classes =
    cycle_some (DeclaredClassRefers classes) (refers_at classes) (length classes) (refers_at-Decides classes) (place_within classes)

pub acyclic_if_none : (classes : List Class) → reported_cycle classes ≡ None → (class : ℕ)
    → Reaches (DeclaredClassRefers classes) class class → ⊥
acyclic_if_none classes =
    cycle_none (DeclaredClassRefers classes) (refers_at classes) (length classes) (refers_at-Decides classes) (place_within classes)

pub some_if_cycle : (classes : List Class) (first : ℕ) (others : List ℕ) → IsReportedCycle (DeclaredClassRefers classes) first others
    → reported_cycle classes ≡ Some (first, others)
some_if_cycle classes first others reported = elim (none_or_some (reported_cycle classes)) [
  | inl none ↦ absurd (acyclic_if_none classes none first (others, reported.cycle.path))
  | inr some ↦
      let same = only_cycle (DeclaredClassRefers classes) first others reported some.0.0 some.0.1
      (cycle_if_some classes some.0.0 some.0.1 some.1) in
      some.1 ∙ ap (λ (n : ℕ). Some (n, some.0.1)) same.0 ∙ ap (λ (ns : List ℕ). Some (first, ns)) same.1
]

pub none_if_acyclic : (classes : List Class) → ((class : ℕ) → Reaches (DeclaredClassRefers classes) class class → ⊥)
    → reported_cycle classes ≡ None
none_if_acyclic classes acyclic = elim (none_or_some (reported_cycle classes)) [
  | inl none ↦ none
  | inr some ↦ absurd (acyclic some.0.0 (some.0.1, (cycle_if_some classes some.0.0 some.0.1 some.1).cycle.path))
]

pub reported_is : (classes : List Class) (first : ℕ) (others : List ℕ)
    → (reported_cycle classes ≡ Some (first, others)) ↔ IsReportedCycle (DeclaredClassRefers classes) first others
reported_is classes first others = (cycle_if_some classes first others, some_if_cycle classes first others)

pub none_is_reported : (classes : List Class)
    → (reported_cycle classes ≡ None) ↔ ((class : ℕ) → Reaches (DeclaredClassRefers classes) class class → ⊥)
none_is_reported classes = (acyclic_if_none classes, none_if_acyclic classes)
